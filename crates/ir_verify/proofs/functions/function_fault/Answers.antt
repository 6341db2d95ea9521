use Rattle.std.proofs.Common.{◌≡◌, List, Option, ◌∙◌, ap, sym, subst, ◌⊎◌}
use Rattle.ir_rules.specs.declared.rule.Fault.{Fault}
use Rattle.ir_rules.specs.Least.{IsLeast, AnyOf}
use Rattle.ir_rules.specs.Occurrences.{Event, function_events}
use Rattle.ir_rules.specs.Seen.{seen}
use Rattle.ir_rules.proofs.Least.{least-or}
use Rattle.ir_verify.specs.Faults.{RegisterFault, LabelFault, BlockFault, FunctionFault}
use Rattle.ir_verify.proofs.functions.function_fault.Goals as goal

pub returns : goal.returns
returns c =
    let fs = c.args.table.now.functions.now in
    let hosts = c.args.table.now.hosts.now in
    let f = c.args.function.now in
    let R = RegisterFault (function_events f) in
    let L = LabelFault f.blocks in
    let B = AnyOf (BlockFault fs hosts f) f.blocks in
    let same : seen c.as_slice-events.result.now ≡ function_events f = ap seen c.as_slice-events.ensures.value ∙ c.in_ok-occurrences.ensures in
    let of_registers : IsLeast R c.in_ok-of_registers.of_registers = subst (λ (z : List Event). IsLeast (RegisterFault z) c.in_ok-of_registers.of_registers) same c.in_ok-of_registers.ensures in
    let of_names : IsLeast (λ x. R x ⊎ L x) c.lesser_fault-of_names.result =
    subst (λ (z : Option Fault). IsLeast (λ x. R x ⊎ L x) z) (sym c.lesser_fault-of_names.ensures) (least-or R L c.in_ok-of_registers.of_registers c.in_ok-of_labels.of_labels of_registers c.in_ok-of_labels.ensures) in
    subst (λ (z : Option Fault). IsLeast (FunctionFault fs hosts f) z) (sym c.lesser_fault.ensures) (least-or (λ x. R x ⊎ L x) B c.lesser_fault-of_names.result c.blocks_fault-of_blocks.result of_names c.blocks_fault-of_blocks.ensures)
