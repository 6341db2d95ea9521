use Rattle.std.proofs.Common.{refl, sym, ◌∙◌}
use Rattle.ir_reader.specs.View.{lexes}
use Rattle.ir_reader.proofs.ValueSteps.{args_round, args_none}
use Rattle.ir_reader.proofs.values.goal_args.Goals as goal

pub returns-then-begins_mark : goal.returns-then-begins_mark
returns-then-begins_mark c = rw (args_round (lexes c.args.text.now c.args.tokens.now) (sym (c.begins_mark.ensures c.args.text.now) ∙ c.if-begins_mark.true)) c.round.ensures

pub returns-else-begins_mark : goal.returns-else-begins_mark
returns-else-begins_mark c = rw (args_none (lexes c.args.text.now c.args.tokens.now) (sym (c.begins_mark.ensures c.args.text.now) ∙ c.if-begins_mark.false)) (rw c.new.ensures refl)
