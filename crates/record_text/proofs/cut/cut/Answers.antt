use Rattle.std.proofs.Common.{arith}
use Rattle.record_text.proofs.Prefixes.{split_at, split_none}
use Rattle.record_text.proofs.cut.cut.Goals as goal

pub returns-then-before-text-clause-parts : goal.returns-then-before-text-clause-parts
returns-then-before-text-clause-parts c =
    split_at c.args.at c.args.text.now c.split_at.result.0.now c.split_at-then-before-text.result.1.now c.len_before-before.result c.len_before-before.ensures (omega arith)
    c.split_at.ensures.front c.split_at-then-before-text.ensures.back

pub returns-else-before-text-clause-parts : goal.returns-else-before-text-clause-parts
returns-else-before-text-clause-parts c = split_none c.args.at c.args.text.now c.len_before-before.result c.len_before-before.ensures (omega arith)
