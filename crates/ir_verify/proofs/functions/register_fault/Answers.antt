use Rattle.std.proofs.Common.{◌≡◌, List, Option, map, ◌∙◌, ap, sym, subst, Bor}
use Rattle.ir_ast.specs.declared.program.Named.{Named}
use Rattle.ir_rules.specs.declared.rule.Fault.{Fault}
use Rattle.ir_rules.specs.Least.{IsLeast}
use Rattle.ir_rules.specs.Rules.{defined}
use Rattle.ir_rules.specs.Seen.{seen}
use Rattle.ir_rules.specs.Walk.{WrongUse}
use Rattle.ir_rules.proofs.Least.{least-or}
use Rattle.ir_verify.specs.Faults.{TwiceFault, RegisterFault}
use Rattle.ir_verify.proofs.functions.register_fault.Goals as goal

pub returns : goal.returns
returns c =
    let es = seen c.args.occurrences.now in
    let same : map (λ (n : Bor Named). n.now) c.as_slice.result.now ≡ defined es = ap (map (λ (n : Bor Named). n.now)) c.as_slice.ensures.value ∙ c.in_ok-registers.ensures in
    let wrong = c.wrong_uses-wrong.result in
    let twice = c.in_ok-twice.twice in
    let of_twice : IsLeast (TwiceFault (defined es)) twice = subst (λ (z : List Named). IsLeast (TwiceFault z) twice) same c.in_ok-twice.ensures in
    subst (λ (z : Option Fault). IsLeast (RegisterFault es) z) (sym c.lesser_fault.ensures) (least-or (WrongUse es) (TwiceFault (defined es)) wrong twice c.wrong_uses-wrong.ensures of_twice)
