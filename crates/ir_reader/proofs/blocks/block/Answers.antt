use Rattle.std.proofs.Common.{arith}
use Rattle.ir_reader.specs.View.{lexes}
use Rattle.ir_reader.proofs.Counts.{head_within, term_below}
use Rattle.ir_reader.proofs.blocks.block.Goals as goal

pub after_params-inside-requires : goal.after_params-inside-requires
after_params-inside-requires c =
    rw c.len.ensures (head_within c.args.before.registers (lexes c.args.text.now c.in_ok-label.rest.now) c.in_ok-params.params (lexes c.args.text.now c.in_ok-params.rest.now) (omega arith) c.in_ok-params.ensures)

pub after_inst-behind-requires-clause-instructions : goal.after_inst-behind-requires-clause-instructions
after_inst-behind-requires-clause-instructions c =
    term_below c.in_ok-insts.last.instructions (lexes c.args.text.now c.in_ok-insts.rest.now) c.in_ok-term.term (lexes c.args.text.now c.in_ok-term.rest.now) c.in_ok-term.ensures
