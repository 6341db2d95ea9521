-- The newest caller.
use Rattle.std.proofs.Common.{◌≡◌, ℕ, List, [], ◌∷◌, ◌++◌, length, Option, Some, None, refl, sym, ap, ◌∙◌, arith}
use Rattle.std.specs.Prelude.{map, reverse}
use Rattle.std.proofs.lemmas.List.{reverse-append}
use Rattle.source_machine.specs.declared.frame.Frame.{Frame}
use Rattle.source_machine.specs.Frames.{frame_in}
use Rattle.source_machine.specs.Threads.{callers_in}

pub callers_in-push : (fs : List Frame) (f : Frame) → callers_in (fs ++ f ∷ []) ≡ frame_in f ∷ callers_in fs
callers_in-push fs f = ap (λ (z : List Frame). map frame_in z) (reverse-append fs (f ∷ []))

pub ruleset return_steps = (callers_in-push)
