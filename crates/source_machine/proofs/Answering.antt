-- Replies at an instruction.
use Rattle.std.proofs.Common.{◌≡◌, ℕ, suc, ◌+◌, ◌≤◌, List, [], ◌∷◌, length, Option, Some, None, Bool, true, false, refl, sym, ap, ◌∙◌, subst, arith}
use Rattle.std.specs.Prelude.{slice_get}
use Rattle.history.specs.declared.entry.Plain.{Plain}
use Rattle.history.specs.declared.entry.Reply.{Reply}
use Rattle.history.specs.Pieces.{Byte}
use Rattle.ir_ast.specs.declared.program.Inst.{Inst}
use Rattle.source_sem.specs.Env.{Env}
use Rattle.thread_parts.specs.Copies as copies
use Rattle.thread_parts.specs.Parts as parts
use Rattle.source_sem.specs.Source as sem
use Rattle.source_machine.specs.declared.part.Part.{Part}
use Rattle.source_machine.specs.declared.part.Part.TheVariants as part
use Rattle.source_machine.specs.declared.part.Step.TheVariants as step
use Rattle.source_machine.specs.Positions.{rest_of}
use Rattle.source_machine.specs.Fits.{PartFits, HasPartRoom, FitsPart}
use Rattle.source_machine.specs.Parts.{part_in}
use Rattle.source_machine.specs.Ready.{HasCopyRoom, part_at}
use Rattle.source_machine.proofs.Going.{part_some}

-- what a part needs, on both sides
pub fits_in : (env : Env) (p : Part) (q : Plain) → FitsPart (Some (part_in env p)) q → PartFits p q
fits_in env (part.Gives v) q h = tt
fits_in env (part.Fails e) q h = tt
fits_in env (part.Steps (step.Makes n place)) q h = h
fits_in env (part.Steps (step.Accesses p a)) q h = tt
fits_in env (part.Steps (step.Prints v)) q h = tt
fits_in env (part.Steps (step.Hosts n a b)) q h = tt
fits_in env (part.Steps (step.Spawns k args)) q h = h
fits_in env (part.Retags p kind n) q h = tt
fits_in env (part.Copies d s n) q h = tt
fits_in env (part.Calls k args ty attr) q h = tt
fits_in env (part.Joins c ty attr) q h = tt

pub room_in : (env : Env) (p : Part) (piece : Option (List Byte)) → HasCopyRoom (Some (part_in env p)) piece → HasPartRoom p piece
room_in env (part.Gives v) piece h = tt
room_in env (part.Fails e) piece h = tt
room_in env (part.Steps s) piece h = tt
room_in env (part.Retags p kind n) piece h = tt
room_in env (part.Copies d s n) piece h = h
room_in env (part.Calls k args ty attr) piece h = tt
room_in env (part.Joins c ty attr) piece h = tt

pub part_fits : (x : sem.Setting) (f : sem.Frame) (depth : ℕ) (i : Inst) (p : Part) (q : Plain) → slice_get f.insts 0 ≡ Some i → part_in f.env p ≡ sem.op_part x f.function depth f.env i.op → FitsPart (part_at x f depth) q → PartFits p q
part_fits x f depth i p q is e h = fits_in f.env p q (subst (λ (z : Option parts.Part). FitsPart z q) (sym (part_some x f depth i is) ∙ ap (λ (z : parts.Part). Some z) (sym e)) h)

pub part_room : (x : sem.Setting) (f : sem.Frame) (depth : ℕ) (i : Inst) (p : Part) (piece : Option (List Byte)) → slice_get f.insts 0 ≡ Some i → part_in f.env p ≡ sem.op_part x f.function depth f.env i.op → HasCopyRoom (part_at x f depth) piece → HasPartRoom p piece
part_room x f depth i p piece is e h = room_in f.env p piece (subst (λ (z : Option parts.Part). HasCopyRoom z piece) (sym (part_some x f depth i is) ∙ ap (λ (z : parts.Part). Some z) (sym e)) h)

pub ready_answer_at : (x : sem.Setting) (t : sem.Source) (f : sem.Frame) (fs : List sem.Frame) (depth : ℕ) (i : Inst) (p : parts.Part) (r : Reply) → slice_get f.insts 0 ≡ Some i → suc (length fs) ≡ depth → p ≡ sem.op_part x f.function depth f.env i.op
    → sem.ready_answer x t f fs f.insts r ≡ sem.part_answer x t f fs (rest_of f.insts) i.dest p r
ready_answer_at x t f fs depth i p r is e q = by_insts f.insts is
  where
    by_insts : (is : List Inst) → slice_get is 0 ≡ Some i → sem.ready_answer x t f fs is r ≡ sem.part_answer x t f fs (rest_of is) i.dest p r
    by_insts [] h = absurd cc
    by_insts (j ∷ rest) h =
        let same : j ≡ i = cc in
        ap (λ (z : Inst). sem.part_answer x t f fs rest z.dest (sem.op_part x f.function (suc (length fs)) f.env z.op) r) same
        ∙ ap (λ (k : ℕ). sem.part_answer x t f fs rest i.dest (sem.op_part x f.function k f.env i.op) r) e
        ∙ ap (λ (z : parts.Part). sem.part_answer x t f fs rest i.dest z r) (sym q)

pub ready_answer_end : (x : sem.Setting) (t : sem.Source) (f : sem.Frame) (fs : List sem.Frame) (r : Reply) → slice_get f.insts 0 ≡ None → sem.ready_answer x t f fs f.insts r ≡ sem.term_answer x.tracked t f fs f.term
ready_answer_end x t f fs r is = by_insts f.insts is
  where
    by_insts : (is : List Inst) → slice_get is 0 ≡ None → sem.ready_answer x t f fs is r ≡ sem.term_answer x.tracked t f fs f.term
    by_insts [] h = refl
    by_insts (j ∷ rest) h = absurd cc

pub copying_answer_at : (x : sem.Setting) (t : sem.Source) (f : sem.Frame) (fs : List sem.Frame) (depth : ℕ) (i : Inst) (p : parts.Part) (pr : copies.Progress) (r : Reply) → slice_get f.insts 0 ≡ Some i → suc (length fs) ≡ depth → p ≡ sem.op_part x f.function depth f.env i.op
    → sem.copying_answer x t f fs f.insts pr r ≡ sem.copying_part t f fs (rest_of f.insts) p pr r
copying_answer_at x t f fs depth i p pr r is e q = by_insts f.insts is
  where
    by_insts : (is : List Inst) → slice_get is 0 ≡ Some i → sem.copying_answer x t f fs is pr r ≡ sem.copying_part t f fs (rest_of is) p pr r
    by_insts [] h = absurd cc
    by_insts (j ∷ rest) h =
        let same : j ≡ i = cc in
        ap (λ (z : Inst). sem.copying_part t f fs rest (sem.op_part x f.function (suc (length fs)) f.env z.op) pr r) same
        ∙ ap (λ (k : ℕ). sem.copying_part t f fs rest (sem.op_part x f.function k f.env i.op) pr r) e
        ∙ ap (λ (z : parts.Part). sem.copying_part t f fs rest z pr r) (sym q)

pub copying_answer_end : (x : sem.Setting) (t : sem.Source) (f : sem.Frame) (fs : List sem.Frame) (pr : copies.Progress) (r : Reply) → slice_get f.insts 0 ≡ None → sem.copying_answer x t f fs f.insts pr r ≡ t
copying_answer_end x t f fs pr r is = by_insts f.insts is
  where
    by_insts : (is : List Inst) → slice_get is 0 ≡ None → sem.copying_answer x t f fs is pr r ≡ t
    by_insts [] h = refl
    by_insts (j ∷ rest) h = absurd cc

pub ruleset frame_steps = (part_fits, part_room)
