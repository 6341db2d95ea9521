use Rattle.std.proofs.Common.{◌≡◌, List, Option, map, ◌∙◌, ap, sym, subst, Bor}
use Rattle.ir_ast.specs.declared.program.Named.{Named}
use Rattle.ir_ast.specs.declared.program.Block.{Block}
use Rattle.ir_rules.specs.declared.rule.Fault.{Fault}
use Rattle.ir_rules.specs.Least.{IsLeast}
use Rattle.ir_rules.proofs.Least.{least-or}
use Rattle.ir_verify.specs.Faults.{TwiceFault, FirstBlockFault, LabelFault}
use Rattle.ir_rules.specs.Checks.{first_block_fault}
use Rattle.ir_verify.proofs.Said.{least_first}
use Rattle.ir_verify.proofs.functions.label_fault.Goals as goal

pub returns : goal.returns
returns c =
    let blocks = c.args.function.now.blocks in
    let names : List Named = map (λ (b : Block). b.label) blocks in
    let same : map (λ (n : Bor Named). n.now) c.as_slice.result.now ≡ names = ap (map (λ (n : Bor Named). n.now)) c.as_slice.ensures.value ∙ c.in_ok-labels.ensures ∙ ap (map (λ (b : Block). b.label)) c.as_slice-blocks.ensures in
    let twice = c.in_ok-twice.twice in
    let first = c.first_block_fault-first.result in
    let of_twice : IsLeast (TwiceFault names) twice = subst (λ (z : List Named). IsLeast (TwiceFault z) twice) same c.in_ok-twice.ensures in
    let of_first : IsLeast (FirstBlockFault blocks) first = subst (λ (z : Option Fault). IsLeast (FirstBlockFault blocks) z) (sym (c.first_block_fault-first.ensures ∙ ap first_block_fault c.as_slice-blocks.ensures)) (least_first blocks) in
    subst (λ (z : Option Fault). IsLeast (LabelFault blocks) z) (sym c.lesser_fault.ensures) (least-or (TwiceFault names) (FirstBlockFault blocks) twice first of_twice of_first)
