use Rattle.std.proofs.Common.{[], ◌∷◌, Option, sym, subst}
use Rattle.ir_ast.specs.declared.program.Jump.{Jump}
use Rattle.ir_rules.specs.declared.rule.Fault.{Fault}
use Rattle.ir_rules.specs.Least.{IsLeast, AnyOf}
use Rattle.ir_rules.specs.Occurrences.{jump_goals}
use Rattle.ir_verify.specs.Faults.{GoalFault}
use Rattle.ir_rules.proofs.Any.{any-one, any-two}
use Rattle.ir_verify.proofs.Said.{least_goal}
use Rattle.ir_verify.proofs.targets.goals_fault.Goals as goal

pub returns-in-Br : goal.returns-in-Br
returns-in-Br c =
    let S = GoalFault c.args.function.now.blocks in
    let g = c.in-Br.goal in
    let o = c.goal_fault.result in
    subst (λ (z : Jump). IsLeast (AnyOf S (jump_goals z)) o) (sym c.in-Br.is)
    (any-one S g o (subst (λ (z : Option Fault). IsLeast (S g) z) (sym c.goal_fault.ensures) (least_goal c.args.function.now.blocks g)))

pub returns-in-CondBr : goal.returns-in-CondBr
returns-in-CondBr c =
    let blocks = c.args.function.now.blocks in
    let S = GoalFault blocks in
    let first = c.goal_fault-first.result in
    let second = c.goal_fault-second.result in
    subst (λ (z : Jump). IsLeast (AnyOf S (jump_goals z)) c.lesser_fault.result) (sym c.in-CondBr.is)
    (subst (λ (z : Option Fault). IsLeast (AnyOf S (c.in-CondBr.yes ∷ c.in-CondBr.no ∷ [])) z) (sym c.lesser_fault.ensures)
    (any-two S c.in-CondBr.yes c.in-CondBr.no first second
    (subst (λ (z : Option Fault). IsLeast (S c.in-CondBr.yes) z) (sym c.goal_fault-first.ensures) (least_goal blocks c.in-CondBr.yes))
    (subst (λ (z : Option Fault). IsLeast (S c.in-CondBr.no) z) (sym c.goal_fault-second.ensures) (least_goal blocks c.in-CondBr.no))))
