use Rattle.std.proofs.Common.{refl, sym, ◌∙◌}
use Rattle.ir_reader.specs.View.{lexes}
use Rattle.ir_reader.proofs.ParamSteps.{block_params_round, block_params_none}
use Rattle.ir_reader.proofs.params.block_params.Goals as goal

pub returns-then-begins_mark : goal.returns-then-begins_mark
returns-then-begins_mark c = rw (block_params_round c.args.registers (lexes c.args.text.now c.args.tokens.now) (sym (c.begins_mark.ensures c.args.text.now) ∙ c.if-begins_mark.true)) c.round_params.ensures

pub returns-else-begins_mark : goal.returns-else-begins_mark
returns-else-begins_mark c = rw (block_params_none c.args.registers (lexes c.args.text.now c.args.tokens.now) (sym (c.begins_mark.ensures c.args.text.now) ∙ c.if-begins_mark.false)) (rw c.new.ensures refl)
