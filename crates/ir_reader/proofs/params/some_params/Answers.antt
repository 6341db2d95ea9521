use Rattle.std.proofs.Common.{refl, sym, ◌∙◌}
use Rattle.ir_reader.specs.View.{lexes}
use Rattle.ir_reader.proofs.ParamSteps.{params_some, params_none}
use Rattle.ir_reader.proofs.params.some_params.Goals as goal

pub returns-then-begins_any_word : goal.returns-then-begins_any_word
returns-then-begins_any_word c = rw (params_some c.args.version (lexes c.args.text.now c.args.tokens.now) (sym (c.begins_any_word.ensures c.args.text.now) ∙ c.if-begins_any_word.true)) c.params.ensures

pub returns-else-begins_any_word : goal.returns-else-begins_any_word
returns-else-begins_any_word c = rw (params_none c.args.version (lexes c.args.text.now c.args.tokens.now) (sym (c.begins_any_word.ensures c.args.text.now) ∙ c.if-begins_any_word.false)) (rw c.new.ensures refl)
