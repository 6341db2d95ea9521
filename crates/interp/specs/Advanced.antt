-- What a running thread has come to.
use Rattle.source_sem.specs.Source.{Setting, Source}
use Rattle.alloc_space.specs.Spaces.{SpaceView}
use Rattle.interp.specs.declared.running.Advance.{Advance}
use Rattle.interp.specs.declared.running.Advance.TheVariants as advance
use Rattle.interp.specs.declared.running.Running.{Running}
use Rattle.interp.specs.Running.{GoesOn, HasEnded, IsBegun}

module _ {T : Type 0} (setting : T → Setting) (state : T → Source) where
  -- it goes on, has ended, or is about to start a child
  abbrev pub Advanced : SpaceView → Advance T → Running T → Type 0
  Advanced space advance.On r = GoesOn setting state space r
  Advanced space (advance.Ended why) r = HasEnded setting state space why r
  Advanced space (advance.Begun b) r = IsBegun setting state space b r

abbrev pub IsOngoing : {T : Type 0} → Advance T → Type 0
IsOngoing (advance.Ended why) = ⊥
IsOngoing _ = Unit {0}
