-- What a frame asks, by what is left of its block.
use Rattle.std.proofs.Common.{◌≡◌, ℕ, List, [], ◌∷◌, Option, Some, None, refl, sym, ap, ◌∙◌, subst}
use Rattle.std.specs.Prelude.{slice_get}
use Rattle.history.specs.declared.ask.Ask.{Ask}
use Rattle.ir_ast.specs.declared.program.Inst.{Inst}
use Rattle.ir_ast.specs.declared.program.Jump.{Jump}
use Rattle.thread_parts.specs.Copies.{Progress}
use Rattle.thread_parts.specs.Parts.{part_ask}
use Rattle.source_sem.specs.Source.{Setting, Frame, op_part, ready_ask, term_ask, copying_ask, copying_by, nowhere}
use Rattle.source_machine.specs.Positions.{jump_of}

pub ready_some : (x : Setting) (f : Frame) (depth : ℕ) (is : List Inst) (i : Inst) → slice_get is 0 ≡ Some i → part_ask (op_part x f.function depth f.env i.op) ≡ ready_ask x f depth is
ready_some x f depth [] i is = absurd cc
ready_some x f depth (j ∷ rest) i is = let same : i ≡ j = cc in ap (λ (z : Inst). part_ask (op_part x f.function depth f.env z.op)) same

pub ready_none : (x : Setting) (f : Frame) (depth : ℕ) (is : List Inst) → slice_get is 0 ≡ None → term_ask f f.term ≡ ready_ask x f depth is
ready_none x f depth [] is = refl
ready_none x f depth (j ∷ rest) is = absurd cc

pub ruleset ready_steps = (ready_some, ready_none)

pub term_at : (f : Frame) (j : Jump) → j ≡ f.term → term_ask f j ≡ term_ask f f.term
term_at f j e = ap (λ (z : Jump). term_ask f z) e

pub ruleset term_steps = (term_at)

pub copying_some : (x : Setting) (f : Frame) (depth : ℕ) (is : List Inst) (i : Inst) (pr : Progress) → slice_get is 0 ≡ Some i → copying_by (op_part x f.function depth f.env i.op) pr ≡ copying_ask x f depth is pr
copying_some x f depth [] i pr is = absurd cc
copying_some x f depth (j ∷ rest) i pr is = let same : i ≡ j = cc in ap (λ (z : Inst). copying_by (op_part x f.function depth f.env z.op) pr) same

pub copying_none : (x : Setting) (f : Frame) (depth : ℕ) (is : List Inst) (pr : Progress) → slice_get is 0 ≡ None → nowhere ≡ copying_ask x f depth is pr
copying_none x f depth [] pr is = refl
copying_none x f depth (j ∷ rest) pr is = absurd cc

pub ruleset copying_steps = (copying_some, copying_none)
