-- What a frame is ready for.
use Rattle.std.proofs.Common.{◌≡◌, ℕ, zero, suc, ◌≤◌, List, [], ◌∷◌, length, Option, Some, None, refl, sym, ap, ◌∙◌, subst, vec_capacity, arith}
use Rattle.std.specs.Prelude.{slice_get}
use Rattle.std.specs.Option.{option_copied}
use Rattle.ir_ast.specs.declared.program.Goal.{Goal}
use Rattle.history.specs.Pieces.{Byte}
use Rattle.ir_ast.specs.declared.program.Inst.{Inst}
use Rattle.ir_ast.specs.declared.program.Jump.{Jump}
use Rattle.ir_ast.specs.declared.program.Jump.TheVariants as jump
use Rattle.ir_ast.specs.declared.program.Val.{Val}
use Rattle.source_sem.specs.Env.{Env, operand}
use Rattle.thread_parts.specs.Parts as parts
use Rattle.source_sem.specs.Source as sem
use Rattle.source_machine.specs.declared.ahead.Lookahead.{Lookahead}
use Rattle.source_machine.specs.declared.frame.Frame.{Frame}
use Rattle.source_machine.specs.Positions.{IsWithinLimit, params_of, jump_of}
use Rattle.source_machine.specs.Frames.{frame_in}
use Rattle.source_machine.specs.Ready.{part_by, part_at, goal_by, goal_at, IsPartReady, IsGoalReady, IsJumpReady, IsRoomy}

-- without instructions a frame stands at its terminator
pub goal_at-none : (f : sem.Frame) (j : Jump) → slice_get f.insts 0 ≡ None → j ≡ f.term → goal_by f.env [] j ≡ goal_at f
goal_at-none f j is e = by_insts f.insts is ∙ ap (λ (z : Jump). goal_by f.env f.insts z) e
  where
    by_insts : (is : List Inst) → slice_get is 0 ≡ None → goal_by f.env [] j ≡ goal_by f.env is j
    by_insts [] h = refl
    by_insts (i ∷ rest) h = absurd cc

chosen_zero : (n : ℕ) (a b : Goal) → n ≡ 0 → parts.chosen n a b ≡ b
chosen_zero zero a b e = refl
chosen_zero (suc n) a b e = absurd (omega (arith, e))

chosen_more : (n : ℕ) (a b : Goal) → (n ≡ 0 → ⊥) → parts.chosen n a b ≡ a
chosen_more zero a b more = absurd (more refl)
chosen_more (suc n) a b more = refl

pub goes_second : (env : Env) (v : Val) (a b : Goal) → (operand env v).value ≡ 0 → Some b ≡ goal_by env [] (jump.CondBr v a b)
goes_second env v a b e = ap (λ (z : Goal). Some z) (sym (chosen_zero (operand env v).value a b e))

pub goes_first : (env : Env) (v : Val) (a b : Goal) → ((operand env v).value ≡ 0 → ⊥) → Some a ≡ goal_by env [] (jump.CondBr v a b)
goes_first env v a b e = ap (λ (z : Goal). Some z) (sym (chosen_more (operand env v).value a b e))

pub ruleset goal_steps = (goal_at-none, goes_second, goes_first)

-- what an instruction does that isn't a call or a copy needs nothing
pub ready_same : (x : sem.Setting) (p q : parts.Part) (room : Option (List Byte)) (callee : Option Frame) → p ≡ q → IsPartReady x (Some p) room callee → IsPartReady x (Some q) room callee
ready_same x p q room callee e h = subst (λ (z : parts.Part). IsPartReady x (Some z) room callee) e h

pub ruleset ready_steps = (ready_same)

-- the parts of readiness
pub part_some : (x : sem.Setting) (f : sem.Frame) (depth : ℕ) (i : Inst) → slice_get f.insts 0 ≡ Some i → Some (sem.op_part x f.function depth f.env i.op) ≡ part_at x f depth
part_some x f depth i is = by_insts f.insts is
  where
    by_insts : (is : List Inst) → slice_get is 0 ≡ Some i → Some (sem.op_part x f.function depth f.env i.op) ≡ part_by x f depth is
    by_insts [] h = absurd cc
    by_insts (j ∷ rest) h = let same : i ≡ j = cc in ap (λ (z : Inst). Some (sem.op_part x f.function depth f.env z.op)) same

pub part_none : (x : sem.Setting) (f : sem.Frame) (depth : ℕ) → slice_get f.insts 0 ≡ None → None ≡ part_at x f depth
part_none x f depth is = by_insts f.insts is
  where
    by_insts : (is : List Inst) → slice_get is 0 ≡ None → None ≡ part_by x f depth is
    by_insts [] h = refl
    by_insts (j ∷ rest) h = absurd cc

pub goal_none : (f : sem.Frame) (i : Inst) → slice_get f.insts 0 ≡ Some i → None ≡ goal_at f
goal_none f i is = by_insts f.insts f.term is
  where
    by_insts : (is : List Inst) (j : Jump) → slice_get is 0 ≡ Some i → None ≡ goal_by f.env is j
    by_insts [] j h = absurd cc
    by_insts (k ∷ rest) (jump.Br goal) h = refl
    by_insts (k ∷ rest) (jump.CondBr v a b) h = refl
    by_insts (k ∷ rest) (jump.Ret v at) h = refl
    by_insts (k ∷ rest) jump.Unreachable h = refl

-- more room
pub goal_more : (x : sem.Setting) (f : sem.Frame) (room more : ℕ) (goal : Option Goal) (a : Lookahead) → room ≤ more → IsJumpReady x f room goal a → IsJumpReady x f more goal a
goal_more x f room more None a le h = tt
goal_more x f room more (Some goal) a le h = let fits : length (params_of (option_copied a.block)) ≤ room = h.fits in record { enters = h.enters; fits = omega (arith, fits, le); stands = h.stands }

pub ruleset roomy_steps = (part_some, part_none, goal_none, goal_more)
