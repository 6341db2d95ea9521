-- The type that a join names.
use Rattle.std.proofs.Common.{◌≡◌, ℕ, suc, List, [], ◌∷◌, length, Option, Some, None, refl, sym, ap, ◌∙◌}
use Rattle.std.specs.Prelude.{slice_get}
use Rattle.ir_ast.specs.declared.program.Inst.{Inst}
use Rattle.thread_parts.specs.Parts as parts
use Rattle.source_sem.specs.Source as sem

pub type_some : (x : sem.Setting) (f : sem.Frame) (depth : ℕ) (is : List Inst) (i : Inst) (p : parts.Part) → slice_get is 0 ≡ Some i → p ≡ sem.op_part x f.function depth f.env i.op → sem.part_type p ≡ sem.insts_type x f depth is
type_some x f depth [] i p is e = absurd cc
type_some x f depth (j ∷ rest) i p is e = let same : i ≡ j = cc in ap sem.part_type e ∙ ap (λ (z : Inst). sem.part_type (sem.op_part x f.function depth f.env z.op)) same

pub type_none : (x : sem.Setting) (f : sem.Frame) (depth : ℕ) (is : List Inst) → slice_get is 0 ≡ None → None ≡ sem.insts_type x f depth is
type_none x f depth [] is = refl
type_none x f depth (j ∷ rest) is = absurd cc

pub ruleset type_steps = (type_some, type_none)
