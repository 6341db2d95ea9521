use Rattle.std.proofs.Common.{take}
use Rattle.std.specs.List.{flat_map}
use Rattle.ir_ast.specs.Written.{AddsText, inst_text}
use Rattle.ir_ast.proofs.printer.write_insts.Given as goal

abbrev pub invariant-loop-inst : goal.invariant-loop-inst
invariant-loop-inst l = AddsText l.fn.to l.to (flat_map inst_text (take l.inst-index l.insts))
