use Rattle.std.proofs.Common.{◌≡◌, ℕ, suc, length, ◌+◌, ◌∷◌, ◌∙◌, List, Option, Some, ap, sym, subst, inl, inr, vec_len, arith}
use Rattle.std.specs.Option.{option_copied}
use Rattle.ir_ast.specs.declared.program.Named.{Named}
use Rattle.source_sem.specs.Env.{args_of}
use Rattle.thread_parts.specs.Parts as parts
use Rattle.source_sem.specs.Source as sem
use Rattle.source_machine.specs.declared.part.Part.{Part}
use Rattle.source_machine.specs.declared.part.Part.TheVariants as part
use Rattle.source_machine.specs.Positions.{rest_of}
use Rattle.source_machine.specs.Frames.{frame_in}
use Rattle.source_machine.specs.Parts.{part_in}
use Rattle.source_machine.specs.Threads.{callers_in}
use Rattle.source_machine.proofs.Calling.{callers_in-push}
use Rattle.source_machine.proofs.Turning.{stays, length-callers_in, ready_turn_at, IsIdle, idle_turn, callee_ready}
use Rattle.source_machine.proofs.turns.inst_turn.Goals as goal

pub returns-in-Some : goal.returns-in-Some
returns-in-Some c t standing =
    let x = c.args.text.now in
    let f : sem.Frame = frame_in c.args.frame in
    let fs : List sem.Frame = callers_in c.args.callers.now.items in
    let depth : ℕ = c.len.result + 1 in
    let deep : suc (length fs) ≡ depth = omega (arith, length-callers_in c.args.callers.now.items, c.args.callers.now.ok.0, c.len.ensures) in
    let calls : parts.Part = parts.Calls c.in-Calls.field-0 (args_of f.env c.in-Calls.field-1.now) c.in-Calls.ty c.in-Calls.attr in
    let is_call : calls ≡ sem.op_part x f.function depth f.env c.args.inst.now.op = sym (ap (λ (z : Part). part_in f.env z) c.in-Calls.is) ∙ c.part.ensures in
    let same : depth ≡ vec_len c.args.callers.now + 1 = ap (λ (n : ℕ). n + 1) c.len.ensures in
    let callee : frame_in c.in-Some.callee ≡ sem.new_frame x c.in-Calls.field-0 (args_of f.env c.in-Calls.field-1.now) =
    callee_ready x f (vec_len c.args.callers.now + 1) c.args.inst.now _ c.args.ahead.now.callee c.in-Some.callee c.in-Calls.field-0 (args_of f.env c.in-Calls.field-1.now) c.in-Calls.ty c.in-Calls.attr c.requires.stands
    (subst (λ (n : ℕ). calls ≡ sem.op_part x f.function n f.env c.args.inst.now.op) same is_call) (sym c.take.ensures.value ∙ c.in-Some.is) c.requires.roomy.part in
    ready_turn_at x t f fs depth c.args.inst.now calls c.requires.stands deep is_call
    ∙ ap (λ (g : sem.Frame). record t { frames = g ∷ sem.waiting f (rest_of f.insts) c.args.inst.now.dest c.in-Calls.ty c.in-Calls.attr ∷ fs }) (sym callee)
    ∙ ap (λ (d : Option Named). record t { frames = frame_in c.in-Some.callee ∷ sem.waiting f (rest_of f.insts) d c.in-Calls.ty c.in-Calls.attr ∷ fs }) (sym c.dest_of-dest.ensures)
    ∙ ap (λ (g : sem.Frame). record t { frames = frame_in c.in-Some.callee ∷ g ∷ fs }) (sym c.wait.ensures)
    ∙ ap (λ (gs : List sem.Frame). record t { frames = frame_in c.in-Some.callee ∷ gs }) (sym (ap callers_in c.push_reserved.ensures.items ∙ callers_in-push c.args.callers.now.items c.wait.new.self))

pub returns-in-Fails : goal.returns-in-Fails
returns-in-Fails c t standing =
    let x = c.args.text.now in
    let f : sem.Frame = frame_in c.args.frame in
    let fs : List sem.Frame = callers_in c.args.callers.now.items in
    let depth : ℕ = c.len.result + 1 in
    let deep : suc (length fs) ≡ depth = omega (arith, length-callers_in c.args.callers.now.items, c.args.callers.now.ok.0, c.len.ensures) in
    let idle : IsIdle c.part.result =
    elim c.in-Fails.is [
      | inl a ↦ subst IsIdle (sym a.1) tt
      | inr b ↦ elim b [
        | inl a ↦ subst IsIdle (sym a.1) tt
        | inr d ↦ elim d [
          | inl a ↦ subst IsIdle (sym a.3) tt
          | inr e ↦ elim e [ inl a ↦ subst IsIdle (sym a.3) tt | inr g ↦ subst IsIdle (sym g.3) tt ]
        ]
      ]
    ] in
    ready_turn_at x t f fs depth c.args.inst.now (part_in f.env c.part.result) c.requires.stands deep c.part.ensures
    ∙ idle_turn x t f fs (rest_of f.insts) c.args.inst.now.dest f.env c.part.result idle
    ∙ stays t (f ∷ fs) standing
