use Rattle.std.proofs.Common.{take}
use Rattle.std.specs.List.{flat_map}
use Rattle.ir_ast.specs.Attributes.{param_definitions}
use Rattle.instrument.specs.Sets.{Defines}
use Rattle.instrument.proofs.scope.Definitions.define_params.Given as goal

abbrev pub invariant-loop-param : goal.invariant-loop-param
invariant-loop-param l = Defines l.fn.self l.self (flat_map param_definitions (take l.param-index l.params))
