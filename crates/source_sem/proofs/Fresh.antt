-- Only an instruction of which no part is done is a local turn.
use Rattle.std.proofs.Common.{◌≡◌, ℕ, suc, List, [], ◌∷◌, length, true, refl}
use Rattle.history.specs.declared.ask.Ask.TheVariants as ask
use Rattle.perm_table.specs.declared.Guard.TheVariants.{Free}
use Rattle.thread_parts.specs.Parts.{retag_ask}
use Rattle.source_sem.specs.Source.{Setting, Source, Frame, Doing, Ready, Entering, Copying, Waiting, Retagging, Leaving, frames_ask, doing_ask, frames_begin, is_ready, nowhere, TurnsAreFresh}
use Rattle.source_sem.proofs.Mirroring.{entering_steps, copying_steps, release_steps}

doing_fresh : (x : Setting) (f : Frame) (depth : ℕ) (d : Doing) → doing_ask x f depth d ≡ ask.Turn → is_ready d ≡ true
doing_fresh x f depth Ready h = refl
doing_fresh x f depth (Entering ps) h = absurd (entering_steps f.env ps h)
doing_fresh x f depth (Copying pr) h = absurd (copying_steps x f depth f.insts pr h)
doing_fresh x f depth (Waiting dest ty attr) h = absurd (let e : nowhere ≡ ask.Turn = h in cc)
doing_fresh x f depth (Retagging dest v a) h = absurd (let e : retag_ask v a.kind Free a.size ≡ ask.Turn = h in cc)
doing_fresh x f depth (Leaving v) h = absurd (release_steps f.owned.children f.owned.protectors f.owned.stack h)

frames_fresh : (x : Setting) (s : Source) (fs : List Frame) → frames_ask x fs s.over ≡ ask.Turn → frames_begin fs ≡ true
frames_fresh x s [] h = absurd (let e : ask.Ended s.over ≡ ask.Turn = h in cc)
frames_fresh x s (f ∷ fs) h = doing_fresh x f (suc (length fs)) f.doing h

pub turns_are_fresh : TurnsAreFresh
turns_are_fresh x s h = frames_fresh x s s.frames h
