-- All picks of a replay: of a schedule, and then of the least thread that can go on.
use Rattle.std.specs.Prelude.{◌≡◌, ◌≢◌, ℕ, ◌+◌, ◌-◌, ◌*◌, ◌<◌, List, [], ◌∷◌, Some, None, Option, slice_get}
use Rattle.bsan_ids.specs.declared.numbers.Limits.{Limits}
use Rattle.ir_ast.specs.declared.hosts.HostTable.{HostTable}
use Rattle.run_memory.specs.Memory.{Memory}
use Rattle.history.specs.declared.log.End.{End}
use Rattle.runs.specs.Objects.{objects}
use Rattle.runs.specs.Replay as replay
use Rattle.runs.specs.Replay.{CanGoOn, Plays, PlaysLeast}
use Rattle.source_sem.specs.Source.{Setting, source}
use Rattle.source_sem.specs.Records.{allowed}
use Rattle.core_model.specs.Fibers.{Seen}
use Rattle.core_model.specs.Running.{Played, UnderWay, IsUnderWay}

-- the picks of a schedule
abbrev pub PlaysAll : Limits → HostTable → List Seen → Memory → List ℕ → List Seen → Memory → Type 0
PlaysAll limits hosts fibers m ts after n =
    (x : Setting) (p : Played x) → UnderWay x limits hosts fibers m p
    → (q : Played x) × Plays (source x) objects (allowed limits hosts) limits p ts q × UnderWay x limits hosts after n q

-- none of the threads below this number can go on
abbrev pub NoneBelow : (x : Setting) → Played x → ℕ → Type 0
NoneBelow x p t = (u : ℕ) → u < t → CanGoOn (source x) objects p u → ⊥

-- picks of the least thread that can go on, after which none below this number can
abbrev pub PlaysOn : Limits → HostTable → List Seen → Memory → ℕ → List Seen → Memory → Type 0
PlaysOn limits hosts fibers m t after n =
    (x : Setting) (p : Played x) → UnderWay x limits hosts fibers m p
    → (q : Played x) × (ts : List ℕ) × PlaysLeast (source x) objects (allowed limits hosts) limits p ts q × NoneBelow x q t × UnderWay x limits hosts after n q

-- all threads have ended
abbrev pub HaveEnded : (x : Setting) → Played x → Type 0
HaveEnded x p = (t : ℕ) (f : replay.Fiber (source x)) → slice_get p.threads t ≡ Some f → f.«end» ≢ None

-- such picks, until all threads have ended
abbrev pub PlaysRest : Limits → HostTable → List Seen → Memory → List Seen → Memory → Type 0
PlaysRest limits hosts fibers m after n =
    (x : Setting) (p : Played x) → UnderWay x limits hosts fibers m p
    → (q : Played x) × (ts : List ℕ) × PlaysLeast (source x) objects (allowed limits hosts) limits p ts q × HaveEnded x q × UnderWay x limits hosts after n q

-- how many have not ended
abbrev pub open_one : Option End → ℕ
open_one None = 1
open_one (Some e) = 0

abbrev pub unended : {X : Type 0} → (X → Option End) → List X → ℕ
unended ended [] = 0
unended ended (f ∷ fs) = open_one (ended f) + unended ended fs

-- each pick of thread t makes this less: a step, an end, or a thread that is passed over
abbrev pub weight : ℕ → ℕ → ℕ → ℕ → ℕ
weight steps stamps more t = ((steps - stamps) * 2 + more) * 2048 + (1025 - t)

abbrev pub weight_of : Limits → List Seen → Memory → ℕ → ℕ
weight_of limits fibers m t = weight limits.steps m.words.stamps (unended (λ (f : Seen). f.«end») fibers) t

-- the picks so far, after which there is a replay
pub record HasPlayed (limits : Limits) (hosts : HostTable) (fibers : List Seen) (m : Memory) (ts : List ℕ) (after : List Seen) (n : Memory) : Type 0 where
  pub way : IsUnderWay limits hosts after n
  pub plays : PlaysAll limits hosts fibers m ts after n

pub record IsPlayingOn (limits : Limits) (hosts : HostTable) (fibers : List Seen) (m : Memory) (t : ℕ) (after : List Seen) (n : Memory) : Type 0 where
  pub way : IsUnderWay limits hosts after n
  pub plays : PlaysOn limits hosts fibers m t after n
