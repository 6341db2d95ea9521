use Rattle.std.proofs.Common.{sym, ◌∙◌}
use Rattle.ir_reader.specs.View.{lexes}
use Rattle.ir_reader.proofs.InstParts.{inst_defining, inst_alone}
use Rattle.ir_reader.proofs.insts.inst.Goals as goal

pub returns-then-begins_local : goal.returns-then-begins_local
returns-then-begins_local c = rw (inst_defining c.args.version c.args.instructions c.args.registers (lexes c.args.text.now c.args.tokens.now) (sym (c.begins_local.ensures c.args.text.now) ∙ c.if-begins_local.true)) c.defining.ensures

pub returns-else-begins_local : goal.returns-else-begins_local
returns-else-begins_local c = rw (inst_alone c.args.version c.args.instructions c.args.registers (lexes c.args.text.now c.args.tokens.now) (sym (c.begins_local.ensures c.args.text.now) ∙ c.if-begins_local.false)) c.alone.ensures
