use Rattle.std.proofs.Common.{◌*◌}
use Rattle.std.proofs.lemmas.Nat.{or_lt, xor_lt}
use Rattle.ir_ast.specs.Words.{width_bytes}
use Rattle.word_ops.proofs.operations.modify.Goals as goal

pub returns-in-Or-clause-word : goal.returns-in-Or-clause-word
returns-in-Or-clause-word c = or_lt (8 * width_bytes c.args.width) _ _ c.requires.first c.requires.second

pub returns-in-Xor-clause-word : goal.returns-in-Xor-clause-word
returns-in-Xor-clause-word c = xor_lt (8 * width_bytes c.args.width) _ _ c.requires.first c.requires.second
