use Rattle.ir_reader.specs.View.{lexes}
use Rattle.ir_reader.proofs.Counts.{function_params_within}
use Rattle.ir_reader.proofs.programs.function.Goals as goal

pub registers_of-registers-requires : goal.registers_of-registers-requires
registers_of-registers-requires c = function_params_within c.args.version (lexes c.args.text.now c.in_ok-name.rest.now) c.in_ok-params.params (lexes c.args.text.now c.in_ok-params.rest.now) c.in_ok-params.ensures
