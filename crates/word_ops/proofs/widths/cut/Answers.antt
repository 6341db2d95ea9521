use Rattle.std.proofs.Common.{◌*◌, bit_and, ap, ◌∙◌}
use Rattle.std.proofs.lemmas.Nat.{and_mask}
use Rattle.ir_ast.specs.Words.{width_bytes}
use Rattle.word_ops.proofs.widths.cut.Goals as goal

pub returns-clause-value : goal.returns-clause-value
returns-clause-value c =
    ap (bit_and c.args.number) c.greatest.ensures ∙ and_mask c.args.number (8 * width_bytes c.args.width)
