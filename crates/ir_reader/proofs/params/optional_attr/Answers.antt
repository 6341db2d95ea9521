use Rattle.std.proofs.Common.{sym, ◌∙◌}
use Rattle.ir_reader.specs.View.{lexes}
use Rattle.ir_reader.proofs.ParamSteps.{attr_taken, attr_left}
use Rattle.ir_reader.proofs.params.optional_attr.Goals as goal

pub returns-then-begins_any_word : goal.returns-then-begins_any_word
returns-then-begins_any_word c = rw (attr_taken c.args.version (lexes c.args.text.now c.args.tokens.now) (sym (c.begins_any_word.ensures c.args.text.now) ∙ c.if-begins_any_word.true)) c.some_attr.ensures

pub returns-else-begins_any_word : goal.returns-else-begins_any_word
returns-else-begins_any_word c = attr_left c.args.version (lexes c.args.text.now c.args.tokens.now) (sym (c.begins_any_word.ensures c.args.text.now) ∙ c.if-begins_any_word.false)
