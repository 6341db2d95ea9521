-- What a thread has while it runs: facts that only grow as logs are added, and sums over the logs that its desk's sums equal.
use Rattle.std.specs.Prelude.{◌≡◌, ℕ, suc, ◌+◌, ◌<◌, ◌≤◌, ◌⊎◌, List, ◌∷◌, All, sum_by, None, Some}
use Rattle.std.specs.List.{flat_map}
use Rattle.bsan_ids.specs.declared.numbers.Limits.{Limits}
use Rattle.bsan_ids.specs.declared.numbers.ThreadNo.{ThreadNo}
use Rattle.history.specs.declared.entry.Entry.{Entry}
use Rattle.history.specs.declared.entry.Request.TheVariants as request
use Rattle.history.specs.declared.log.End.TheVariants as log_end
use Rattle.history.specs.declared.log.ThreadLog.{ThreadLog}
use Rattle.runs.specs.Interleaving.{Allowed}
use Rattle.runs.specs.Machine.{Machine, Memory}
use Rattle.runs.specs.Merge.{all_entries}
use Rattle.runs.specs.Parts.{Has, child_of}
use Rattle.runs.specs.Right.{alloc_limit_of, thread_limit_of, beyond_of, alloc_numbers, thread_numbers}
use Rattle.runs.specs.Stamps.{RisesFrom}
use Rattle.runs.specs.Threads.{Feeds}
use Rattle.runs.specs.Tree.{numbers_of, stamps_of, children_of, WeighAlike, EndAbove, AreAbove, AreBelow, IsFamily, IsStarted, IsJoined, HasStopped, IsStepRight, Firsts, Agrees, first_numbers, AreRuns}
use Rattle.turn_lock.specs.declared.view.View.{View}
use Rattle.turn_lock.specs.Weights.{stamp_weight, alloc_weight, thread_weight}
use Rattle.interp.specs.Desks.{slotted, stamped, made, spawned, begun, Over, DrewFew}

-- a child that was started and whose desk isn't joined yet: its number, its function, its first state, and the greatest stamp that
-- its desk had seen as it was split off
pub record Kid (S : Type 0) : Type 0 where
  pub number : ThreadNo
  pub function : ℕ
  pub first : S
  pub seen : ℕ

abbrev pub kid_numbers : {S : Type 0} → (ℕ → ℕ) → List (Kid S) → ℕ
kid_numbers {S} h kids = sum_by (λ (k : Kid S). h k.number.0) kids

abbrev pub AgreesKids : {S : Type 0} → (ℕ → S) → List (Kid S) → Type 0
AgreesKids {S} starts kids = (k : Kid S) → Has kids k → starts k.number.0 ≡ k.first

-- its Spawn entry stands among these, and its desk has seen it
pub record KidStands {S : Type 0} (number : ThreadNo) (seen : ℕ) (entries : List Entry) (k : Kid S) : Type 0 where
  pub above : number.0 < k.number.0
  pub spawn : Entry
  pub stands : Has entries spawn
  pub asks : spawn.request ≡ request.Spawn k.function
  pub answers : child_of spawn ≡ Some k.number.0
  pub told : spawn.stamp.0 ≤ k.seen
  pub later : seen ≤ k.seen

-- the log of a child whose desk was joined: its Spawn entry stands among these, and it is there with all threads below it
pub record RootStands (entries : List Entry) (below : List ThreadLog) (log : ThreadLog) : Type 0 where
  pub spawn : Entry
  pub stands : Has entries spawn
  pub answers : child_of spawn ≡ Some log.number.0
  pub family : List ThreadLog
  pub is_family : IsFamily below log family

-- fed so far with these entries the thread is in this state, and the logs below are runs
pub record HasRun (M : Machine) (limits : Limits) (first now : M.State) (entries : List Entry) (below : List ThreadLog) (kids : List (Kid M.State)) (idle_allocs idle_threads : List ℕ) : Type 0 where
  pub count : M.count now ≤ limits.turns
  pub firsts : Firsts M.State
  pub firsts_below : WeighAlike (first_numbers firsts) (numbers_of below)
  pub feeds : (starts : ℕ → M.State) → Agrees starts firsts → AgreesKids starts kids → Feeds M limits.turns starts first entries now
  pub runs : (starts : ℕ → M.State) → Agrees starts firsts → AreRuns M limits starts below idle_allocs idle_threads

-- what is said of its entries, and of the logs below
pub record HasLogs {S : Type 0} (O : Memory) (A : Allowed) (limits : Limits) (number : ThreadNo) (seen : ℕ) (entries : List Entry) (below roots : List ThreadLog) (kids : List (Kid S)) : Type 0 where
  pub own : All (λ (e : Entry). e.thread ≡ number) entries
  pub rises : RisesFrom seen entries
  pub later : AreAbove seen below
  pub steps_own : (e : Entry) → Has entries e → IsStepRight O A limits e
  pub steps : (log : ThreadLog) (e : Entry) → Has below log → Has log.entries e → IsStepRight O A limits e
  pub joined_own : (e : Entry) (c : ThreadNo) → Has entries e → e.request ≡ request.Join c → IsJoined below entries e c
  pub joined : (log : ThreadLog) (e : Entry) (c : ThreadNo) → Has below log → Has log.entries e → e.request ≡ request.Join c → IsJoined below log.entries e c
  pub ended : (log : ThreadLog) (c : ThreadNo) → Has below log → log.«end» ≡ log_end.ChildEnded c → HasStopped below c
  -- a log below is a child of this thread, or of a thread below
  pub started : (log own : ThreadLog) → Has below log → own.number ≡ number → ((x : Entry) → Has entries x → Has own.entries x) → IsStarted (own ∷ below) log
  pub children : (h : ℕ → ℕ) → sum_by (begun h) entries + sum_by h (flat_map children_of below) ≡ sum_by h (numbers_of below) + kid_numbers h kids
  pub kids_stand : (k : Kid S) → Has kids k → KidStands number seen entries k
  pub roots_stand : (log : ThreadLog) → Has roots log → RootStands entries below log

-- what its desk is over them
pub record HasDesk {S : Type 0} (limits : Limits) (number : ThreadNo) (seen : ℕ) (desk : View) (over : Over) (entries : List Entry) (below : List ThreadLog) (kids : List (Kid S)) (idle_allocs idle_threads : List ℕ) : Type 0 where
  pub name : desk.name ≡ number.0
  pub turn : desk.turn ≡ None
  pub outs : (h : ℕ → ℕ) → sum_by h desk.outs ≡ kid_numbers h kids
  pub grows : seen ≤ desk.seen
  pub above : EndAbove seen over.«end»
  pub reached_own : (e : Entry) → Has entries e → e.stamp.0 ≤ desk.seen
  pub reached : AreBelow (suc desk.seen) below
  pub calls : (h : Entry → ℕ) → sum_by h desk.calls ≡ sum_by (slotted limits.allocs h) entries + sum_by (slotted limits.allocs h) (all_entries below)
  pub stamps : (h : ℕ → ℕ) → stamp_weight h desk ≡ sum_by h (beyond_of over.«end») + (sum_by (stamped h) entries + sum_by h (flat_map stamps_of below))
  pub allocs : (h : ℕ → ℕ) → alloc_weight h desk ≡ sum_by h (alloc_limit_of over.«end») + sum_by h over.allocs + (sum_by (made h) entries + (sum_by h (flat_map alloc_numbers below) + sum_by h idle_allocs))
  pub threads : (h : ℕ → ℕ) → thread_weight h desk ≡ sum_by h (thread_limit_of over.«end») + sum_by h over.threads + (sum_by (spawned h) entries + (sum_by h (flat_map thread_numbers below) + sum_by h idle_threads))

-- A thread that began in the state `first`, on a desk that had seen `seen`: now it is in this state, on this desk, with these entries.
-- `below` are the logs of the children whose desks it joined and of all threads below them, `roots` the children's own, and `kids` the
-- children that are out.
pub record Goes (M : Machine) (O : Memory) (A : Allowed) (limits : Limits) (number : ThreadNo) (first : M.State) (seen : ℕ) (now : M.State) (desk : View) (over : Over) (entries : List Entry) (below roots : List ThreadLog) (kids : List (Kid M.State)) : Type 0 where
  pub idle_allocs : List ℕ
  pub idle_threads : List ℕ
  pub run : HasRun M limits first now entries below kids idle_allocs idle_threads
  pub logs : HasLogs O A limits number seen entries below roots kids
  pub on_desk : HasDesk limits number seen desk over entries below kids idle_allocs idle_threads
  pub few : DrewFew (M.ask now) over

-- one of the children is taken out
pub record Takes {S : Type 0} (kids : List (Kid S)) (k : Kid S) (rest : List (Kid S)) : Type 0 where
  pub there : Has kids k
  pub others : (x : Kid S) → Has rest x → Has kids x
  pub back : (x : Kid S) → Has kids x → (x ≡ k) ⊎ Has rest x
  pub weight : (h : ℕ → ℕ) → kid_numbers h kids ≡ h k.number.0 + kid_numbers h rest
