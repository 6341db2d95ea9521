-- Local turns at an instruction.
use Rattle.std.proofs.Common.{◌≡◌, ℕ, suc, ◌+◌, List, [], ◌∷◌, ◌++◌, length, Option, Some, None, refl, sym, ap, ◌∙◌, subst, arith}
use Rattle.std.specs.Prelude.{slice_get, map, reverse}
use Rattle.std.proofs.lemmas.List.{reverse-append}
use Rattle.history.specs.Pieces.{Byte}
use Rattle.ir_ast.specs.declared.program.Inst.{Inst}
use Rattle.history.specs.declared.ask.Arg.{Arg}
use Rattle.ir_ast.specs.declared.program.Named.{Named}
use Rattle.ir_ast.specs.declared.types.Attr.{Attr}
use Rattle.ir_ast.specs.declared.types.Ty.{Ty}
use Rattle.source_sem.specs.Env.{Env}
use Rattle.thread_parts.specs.Parts as parts
use Rattle.source_sem.specs.Source as sem
use Rattle.source_machine.specs.declared.frame.Frame.{Frame}
use Rattle.source_machine.specs.Positions.{rest_of}
use Rattle.source_machine.specs.Frames.{frame_in}
use Rattle.source_machine.specs.declared.part.Part.{Part}
use Rattle.source_machine.specs.declared.part.Part.TheVariants as part
use Rattle.source_machine.specs.Parts.{part_in}
use Rattle.source_machine.specs.Ready.{part_at, IsPartReady}
use Rattle.source_machine.proofs.Going.{part_some}
use Rattle.source_machine.specs.Threads.{callers_in}
use Rattle.source_machine.proofs.Calling.{callers_in-push}

-- a thread whose frames are written to what they are is the same
pub stays : (t : sem.Source) (fs : List sem.Frame) → t.frames ≡ fs → t ≡ record t { frames = fs }
stays t fs e = ap (λ (z : List sem.Frame). record t { frames = z }) e

length_push : {A : Type 0} (xs : List A) (x : A) → length (xs ++ x ∷ []) ≡ suc (length xs)
length_push [] x = refl
length_push (y ∷ xs) x = ap suc (length_push xs x)

length-reverse : {A : Type 0} (xs : List A) → length (reverse xs) ≡ length xs
length-reverse [] = refl
length-reverse {A = A} (x ∷ xs) = ap (λ (z : List A). length z) (reverse-append (x ∷ []) xs) ∙ length_push (reverse xs) x ∙ ap suc (length-reverse xs)

length-map : {A B : Type 0} (f : A → B) (xs : List A) → length (map f xs) ≡ length xs
length-map f [] = refl
length-map f (x ∷ xs) = ap suc (length-map f xs)

pub length-callers_in : (fs : List Frame) → length (callers_in fs) ≡ length fs
length-callers_in fs = length-map frame_in (reverse fs) ∙ length-reverse fs

pub ready_turn_at : (x : sem.Setting) (t : sem.Source) (f : sem.Frame) (fs : List sem.Frame) (depth : ℕ) (i : Inst) (p : parts.Part) → slice_get f.insts 0 ≡ Some i → suc (length fs) ≡ depth → p ≡ sem.op_part x f.function depth f.env i.op
    → sem.ready_turn x t f fs f.insts ≡ sem.part_turn x t f fs (rest_of f.insts) i.dest p
ready_turn_at x t f fs depth i p is e q = by_insts f.insts is
  where
    by_insts : (is : List Inst) → slice_get is 0 ≡ Some i → sem.ready_turn x t f fs is ≡ sem.part_turn x t f fs (rest_of is) i.dest p
    by_insts [] h = absurd cc
    by_insts (j ∷ rest) h =
        let same : j ≡ i = cc in
        ap (λ (z : Inst). sem.part_turn x t f fs rest z.dest (sem.op_part x f.function (suc (length fs)) f.env z.op)) same
        ∙ ap (λ (k : ℕ). sem.part_turn x t f fs rest i.dest (sem.op_part x f.function k f.env i.op)) e
        ∙ ap (λ (z : parts.Part). sem.part_turn x t f fs rest i.dest z) (sym q)

-- what isn't a local turn leaves the thread
abbrev pub IsIdle : Part → Type 0
IsIdle (part.Gives v) = ⊥
IsIdle (part.Calls k args ty attr) = ⊥
IsIdle other = Unit {0}

pub idle_turn : (x : sem.Setting) (t : sem.Source) (f : sem.Frame) (fs : List sem.Frame) (rest : List Inst) (dest : Option Named) (env : Env) (p : Part) → IsIdle p → sem.part_turn x t f fs rest dest (part_in env p) ≡ t
idle_turn x t f fs rest dest env (part.Gives v) h = absurd h
idle_turn x t f fs rest dest env (part.Fails e) h = refl
idle_turn x t f fs rest dest env (part.Steps s) h = refl
idle_turn x t f fs rest dest env (part.Retags p kind n) h = refl
idle_turn x t f fs rest dest env (part.Copies d s n) h = refl
idle_turn x t f fs rest dest env (part.Calls k args ty attr) h = absurd h
idle_turn x t f fs rest dest env (part.Joins c ty attr) h = refl

-- the frame of a call
pub callee_ready : (x : sem.Setting) (f : sem.Frame) (depth : ℕ) (i : Inst) (room : Option (List Byte)) (callee : Option Frame) (g : Frame) (k : ℕ) (xs : List Arg) (ty : Option Ty) (attr : Option Attr)
    → slice_get f.insts 0 ≡ Some i → parts.Calls k xs ty attr ≡ sem.op_part x f.function depth f.env i.op → callee ≡ Some g → IsPartReady x (part_at x f depth) room callee → frame_in g ≡ sem.new_frame x k xs
callee_ready x f depth i room callee g k xs ty attr is e got ready =
    let part : part_at x f depth ≡ Some (parts.Calls k xs ty attr) = sym (part_some x f depth i is) ∙ ap (λ (z : parts.Part). Some z) (sym e) in
    let one : IsPartReady x (Some (parts.Calls k xs ty attr)) room callee = subst (λ (z : Option parts.Part). IsPartReady x z room callee) part ready in
    subst (λ (z : Option Frame). IsPartReady x (Some (parts.Calls k xs ty attr)) room z) got one
