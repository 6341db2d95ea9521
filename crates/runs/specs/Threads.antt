-- A thread's log is a run of its machine, with its end.
use Rattle.std.specs.Prelude.{◌≡◌, ℕ, ◌+◌, ◌<◌, true, List, [], ◌∷◌, Some, None, All, ◌⊎◌}
use Rattle.std.specs.declared.option.Option.{Option}
use Rattle.history.specs.declared.entry.Entry.{Entry}
use Rattle.history.specs.declared.log.End.{End}
use Rattle.history.specs.declared.log.End.TheVariants as log_end
use Rattle.history.specs.declared.trap.Trap.{Trap}
use Rattle.history.specs.declared.trap.Trap.TheVariants as trap
use Rattle.bsan_ids.specs.declared.numbers.Limits.{Limits}
use Rattle.history.specs.declared.log.ThreadLog.{ThreadLog}
use Rattle.history.specs.declared.ask.MachineEnd.TheVariants as end
use Rattle.history.specs.declared.ask.Ask.{Ask}
use Rattle.history.specs.declared.ask.Ask.TheVariants as ask
use Rattle.runs.specs.Parts.{Answers, child_of}
use Rattle.runs.specs.Machine.{Machine, MayGoOn, SettlesWithin}
use Rattle.runs.specs.Stamps.{RisesFrom}

-- the first state of the child that is started, if one is
abbrev pub StartsAs : (M : Machine) → (ℕ → M.State) → Option ℕ → M.State → Type 0
StartsAs M starts None s = Unit {0}
StartsAs M starts (Some c) s = starts c ≡ s

-- after its local turns the thread asks for this entry, whose reply fits
pub record Fed (M : Machine) (limit : ℕ) (starts : ℕ → M.State) (s : M.State) (e : Entry) : Type 0 where
  pub now : M.State
  pub settles : SettlesWithin M limit s now
  pub may : MayGoOn M limit now
  pub site : M.site now ≡ e.site
  pub asks : Answers (M.ask now) e
  pub fits : M.fits now e
  pub child : StartsAs M starts (child_of e) (M.child now)

-- fed with these replies the thread comes from s to last
abbrev pub Feeds : (M : Machine) → ℕ → (ℕ → M.State) → M.State → List Entry → M.State → Type 0
Feeds M limit starts s [] last = SettlesWithin M limit s last
Feeds M limit starts s (e ∷ es) last = (f : Fed M limit starts s e) × Feeds M limit starts (M.after f.now e) es last

-- each local turn is one instruction
abbrev pub CountsTurns : Machine → Type 0
CountsTurns M = (s : M.State) → M.ask s ≡ ask.Turn → M.count (M.turn s) ≡ M.count s + 1

-- a thread that is fed these entries stands, at one count of instructions, in one state
abbrev pub StandsOnce : (M : Machine) → ℕ → (ℕ → M.State) → Type 0
StandsOnce M limit starts = (s a b : M.State) (es : List Entry) → Feeds M limit starts s es a → Feeds M limit starts s es b → M.count a ≡ M.count b → a ≡ b

abbrev pub AsksStep : Ask → Type 0
AsksStep ask.Turn = ⊥
AsksStep (ask.Ended e) = ⊥
AsksStep _ = Unit {0}

abbrev pub AsksMake : Ask → Type 0
AsksMake (ask.Make size place) = Unit {0}
AsksMake _ = ⊥

abbrev pub AsksSpawn : Ask → Type 0
AsksSpawn (ask.Spawn f) = Unit {0}
AsksSpawn _ = ⊥

-- a trap of an instruction or of an allocation, not of a number that was drawn
abbrev pub IsOwnTrap : Trap → Type 0
IsOwnTrap (trap.AllocLimit d) = ⊥
IsOwnTrap (trap.ThreadLimit d) = ⊥
IsOwnTrap other = Unit {0}

-- a number was drawn that is above its limit
abbrev pub DrewBeyond : Limits → Ask → Trap → Type 0
DrewBeyond limits a (trap.AllocLimit d) = AsksMake a × (limits.allocs < d)
DrewBeyond limits a (trap.ThreadLimit d) = AsksSpawn a × (1023 < d)
DrewBeyond limits a t = ⊥

abbrev pub TrapsAs : Limits → Ask → Trap → Type 0
TrapsAs limits a t = (a ≡ ask.Ended (end.Trapped t)) ⊎ DrewBeyond limits a t

-- why a thread ends in this state
abbrev pub EndsAs : (M : Machine) → Limits → M.State → End → Type 0
EndsAs M limits s (log_end.Returned v p) = (M.ask s ≡ ask.Ended (end.Returned v p)) × MayGoOn M limits.turns s
EndsAs M limits s (log_end.Trapped t) = TrapsAs limits (M.ask s) t × MayGoOn M limits.turns s
EndsAs M limits s (log_end.StepLimit x) = AsksStep (M.ask s) × (limits.steps < x.0) × MayGoOn M limits.turns s
EndsAs M limits s log_end.TurnLimit = (M.begins s ≡ true) × (M.count s ≡ limits.turns)
EndsAs M limits s log_end.NoMemory = Unit {0}
EndsAs M limits s (log_end.ChildEnded c) = (M.ask s ≡ ask.Join c) × MayGoOn M limits.turns s

-- the log is a run of its thread, from the thread's first state, in the order in which it made its steps
pub record IsThreadRun (M : Machine) (limits : Limits) (starts : ℕ → M.State) (log : ThreadLog) : Type 0 where
  pub last : M.State
  pub own : All (λ e. e.thread ≡ log.number) log.entries
  pub rises : RisesFrom 0 log.entries
  pub feeds : Feeds M limits.turns starts (starts log.number.0) log.entries last
  pub «end» : EndsAs M limits last log.«end»
  pub count : log.instructions ≡ M.count last
  pub site : log.last ≡ M.site last
