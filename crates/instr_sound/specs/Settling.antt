-- What a thread's local turns come to.
use Rattle.std.specs.Prelude.{◌≡◌, ℕ, ◌≤◌, true}
use Rattle.history.specs.declared.ask.Ask.{Ask}
use Rattle.history.specs.declared.ask.Ask.TheVariants as ask
use Rattle.history.specs.declared.ask.MachineEnd.{MachineEnd}
use Rattle.history.specs.declared.ask.MachineEnd.TheVariants as end
use Rattle.history.specs.declared.log.End.{End}
use Rattle.history.specs.declared.log.End.TheVariants as log_end
use Rattle.runs.specs.Machine.{SettlesWithin}
use Rattle.source_sem.specs.Source.{Setting, Source, source, source_ask, source_begins}

abbrev pub AsksJoin : Ask → Type 0
AsksJoin (ask.Join c) = Unit {0}
AsksJoin other = ⊥

-- at the limit an instruction would begin; or it is out of memory, for which no join asks
abbrev pub IsHalt : Setting → ℕ → Source → End → Type 0
IsHalt x turns s log_end.TurnLimit = (source_begins s ≡ true) × (s.count ≡ turns)
IsHalt x turns s log_end.NoMemory = AsksJoin (source_ask x s) → ⊥
IsHalt x turns s other = ⊥

-- some local turns were made within the limit, and the setting is the same
pub record HasTurned (x : Setting) (turns : ℕ) (s : Source) (y : Setting) (t : Source) : Type 0 where
  pub setting : y ≡ x
  pub turned : SettlesWithin (source x) turns s t
  pub within : t.count ≤ turns

-- how a log tells the end that a thread's own instructions bring
abbrev pub machine_end : MachineEnd → End
machine_end (end.Returned w p) = log_end.Returned w p
machine_end (end.Trapped t) = log_end.Trapped t
