use Rattle.std.proofs.Common.{take}
use Rattle.std.specs.List.{flat_map}
use Rattle.ir_ast.specs.Attributes.{inst_definitions}
use Rattle.instrument.specs.Sets.{Defines}
use Rattle.instrument.proofs.scope.Definitions.define_insts.Given as goal

abbrev pub invariant-loop-inst : goal.invariant-loop-inst
invariant-loop-inst l = Defines l.fn.self l.self (flat_map (inst_definitions l.functions) (take l.inst-index l.insts))
