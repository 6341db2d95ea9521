use Rattle.std.proofs.Common.{◌-◌, false, length, sym, arith}
use Rattle.ir_reader.proofs.LastToken.{ends_at}
use Rattle.ir_reader.proofs.texts.ends_equal.Goals as goal

pub returns-in-len1-up : goal.returns-in-len1-up
returns-in-len1-up c text = rw c.kind_is.ensures (sym (ends_at text false c.args.tokens.now (length c.args.tokens.now - 1) _ (omega (arith, c.in-len1-up.len_at_least))))
