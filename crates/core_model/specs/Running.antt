-- A run in code, and the progress of a replay that it shows.
use Rattle.std.specs.Prelude.{◌≡◌, ◌≢◌, ℕ, ◌<◌, ◌≤◌, ◌⊎◌, if◌then◌else◌, List, [], Some, None, map, slice_get, slice_set}
use Rattle.bsan_ids.specs.declared.numbers.Limits.{Limits}
use Rattle.history.specs.declared.entry.Entry.{Entry}
use Rattle.history.specs.declared.ask.Ask.{Ask}
use Rattle.history.specs.declared.ask.Ask.TheVariants as ask
use Rattle.ir_ast.specs.declared.hosts.HostTable.{HostTable}
use Rattle.instr_sound.specs.Mains.{IsRunnable}
use Rattle.run_memory.specs.Memory.{Memory, log_at, keeps}
use Rattle.history.specs.declared.log.End.{End}
use Rattle.runs.specs.Machine.{SettlesWithin, MayGoOn}
use Rattle.runs.specs.Objects.{objects}
use Rattle.runs.specs.Parts.{of_alloc}
use Rattle.runs.specs.Replay as replay
use Rattle.runs.specs.Replay.{Progress, Choice, Waits, Ends, Steps, CanGoOn, Chooses, picked, Plays}
use Rattle.runs.specs.ReplayLaw.{first_progress}
use Rattle.source_sem.specs.Source.{Setting, Source, source, source_ask}
use Rattle.source_sem.specs.Records.{allowed}
use Rattle.source_sem.specs.Starting.{main_of, main_start}
use Rattle.core_model.specs.declared.run.Pick.{Pick}
use Rattle.core_model.specs.declared.run.Pick.TheVariants as pick
use Rattle.core_model.specs.Fibers.{Seen}

-- limits in their ranges
pub record AreLimits (limits : Limits) : Type 0 where
  pub some_steps : 0 < limits.steps
  pub few_steps : limits.steps ≤ 4000000
  pub some_turns : 0 < limits.turns
  pub few_turns : limits.turns ≤ 100000000
  pub some_allocs : 0 < limits.allocs
  pub few_allocs : limits.allocs ≤ 65536

-- a replay of source threads over allocations
abbrev pub Played : Setting → Type 0
Played x = Progress (source x) objects

-- some picks have led here
abbrev pub Came : (x : Setting) → Limits → HostTable → Played x → Type 0
Came x limits hosts p =
    (ts : List ℕ) × Plays (source x) objects (allowed limits hosts) limits (first_progress (source x) objects (main_of x.program) (main_start x)) ts p

-- a thread of the code is one of the replay
abbrev pub fiber_in : (x : Setting) → Seen → replay.Fiber (source x)
fiber_in x f = record { parent = f.parent; function = f.function; state = f.state; entries = f.entries; «end» = f.«end» }

-- the threads and allocations of the code are those of the replay
pub record Shows (x : Setting) (limits : Limits) (fibers : List Seen) (m : Memory) (p : Played x) : Type 0 where
  pub settings : (t : ℕ) (f : Seen) → slice_get fibers t ≡ Some f → f.setting ≡ x
  pub threads : p.threads ≡ map (fiber_in x) fibers
  pub limits_are : m.limits ≡ limits
  pub words : m.words ≡ p.words
  pub logs : (a : ℕ) → log_at m.logs a ≡ (if keeps limits a then of_alloc a p.merge else [])

pub record UnderWay (x : Setting) (limits : Limits) (hosts : HostTable) (fibers : List Seen) (m : Memory) (p : Played x) : Type 0 where
  pub runnable : IsRunnable x hosts
  pub ranges : AreLimits limits
  pub shows : Shows x limits fibers m p
  pub came : Came x limits hosts p

-- for some program and some replay
abbrev pub IsUnderWay : Limits → HostTable → List Seen → Memory → Type 0
IsUnderWay limits hosts fibers m = (x : Setting) × (p : Played x) × UnderWay x limits hosts fibers m p

-- a pick of thread t that takes this choice
pub record Takes (x : Setting) (limits : Limits) (hosts : HostTable) (p : Played x) (t : ℕ) (q : Played x) (c : Choice (source x)) : Type 0 where
  pub fiber : replay.Fiber (source x)
  pub at : slice_get p.threads t ≡ Some fiber
  pub can : CanGoOn (source x) objects p t
  pub chosen : Chooses (source x) objects (allowed limits hosts) limits p t fiber c
  pub is : q ≡ picked (source x) objects p t fiber c

-- what a pick came to: the thread was passed over or now waits; it made a step and goes on; or it ended, with a step or without one
abbrev pub PickedAs : (x : Setting) → Limits → HostTable → Pick → Played x → ℕ → Played x → Type 0
PickedAs x limits hosts pick.Rests p t q =
    ((CanGoOn (source x) objects p t → ⊥) × (q ≡ p)) ⊎ ((now : Source) × Takes x limits hosts p t q (Waits now))
PickedAs x limits hosts pick.Stepped p t q = (now : Source) × (e : Entry) × Takes x limits hosts p t q (Steps now e None)
PickedAs x limits hosts pick.Ended p t q =
    ((now : Source) × (why : End) × Takes x limits hosts p t q (Ends now why)) ⊎ ((now : Source) × (e : Entry) × (why : End) × Takes x limits hosts p t q (Steps now e (Some why)))

-- the pick, with the threads and allocations after it
abbrev pub Picks : Limits → HostTable → List Seen → Memory → ℕ → List Seen → Memory → Pick → Type 0
Picks limits hosts fibers m t after n came =
    (x : Setting) (p : Played x) → UnderWay x limits hosts fibers m p
    → (q : Played x) × PickedAs x limits hosts came p t q × UnderWay x limits hosts after n q

-- thread t has made its local turns, from its state in these threads, and asks this
pub record Settled (x : Setting) (limits : Limits) (hosts : HostTable) (before : List Seen) (m : Memory) (p : Played x) (t : ℕ) (f : Seen) (now : Source) (a : Ask) (fibers : List Seen) : Type 0 where
  pub way : UnderWay x limits hosts before m p
  pub at : slice_get before t ≡ Some f
  pub «open» : f.«end» ≡ None
  pub turned : SettlesWithin (source x) limits.turns f.state now
  pub may : MayGoOn (source x) limits.turns now
  pub asks : a ≡ source_ask x now
  pub no_turn : a ≢ ask.Turn
  pub fibers_are : fibers ≡ slice_set before t (record f { state = now })

abbrev pub IsSettled : Limits → HostTable → Memory → ℕ → Ask → List Seen → Type 0
IsSettled limits hosts m t a fibers =
    (x : Setting) × (before : List Seen) × (p : Played x) × (f : Seen) × (now : Source) × Settled x limits hosts before m p t f now a fibers

-- the pick goes on from there
abbrev pub GoesOn : Limits → HostTable → Memory → ℕ → Ask → List Seen → List Seen → Memory → Pick → Type 0
GoesOn limits hosts m t a fibers after n came =
    (x : Setting) (before : List Seen) (p : Played x) (f : Seen) (now : Source) → Settled x limits hosts before m p t f now a fibers
    → (q : Played x) × PickedAs x limits hosts came p t q × UnderWay x limits hosts after n q
