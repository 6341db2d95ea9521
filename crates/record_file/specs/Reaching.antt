-- The logs that were run, and the threads that were started and wait for it.
use Rattle.std.specs.Prelude.{◌≡◌, ◌↔◌, ◌+◌, ◌<◌, ◌≤◌, ℕ, not, ◌==◌, Bool, true, false, List, [], ◌∷◌, Option, Some, None, filter, length, slice_get, sum_by, count_by}
use Rattle.bsan_ids.specs.declared.numbers.Limits.{Limits}
use Rattle.history.specs.declared.log.ThreadLog.{ThreadLog}
use Rattle.runs.specs.Right.{asks_make, asks_spawn, IsReached}
use Rattle.runs.specs.Tree.{Agrees, Firsts, children_of, first_numbers}
use Rattle.runs.proofs.Weights.{equals}
use Rattle.source_sem.specs.Source.{Setting, Source, source, source_start}
use Rattle.record_file.specs.declared.counters.Asking.{Asking}
use Rattle.record_file.specs.declared.feed.Child.{Child}
use Rattle.record_file.specs.declared.reached.Standing.{Standing}
use Rattle.record_file.specs.AsWritten.{AsksAsWritten, HasRunsAsWritten, IsRunAsWritten}
use Rattle.record_file.specs.Counts.{IsCount}
use Rattle.record_file.specs.Feeding.{AreOf, firsts, numbers}

-- the logs of which it is known how their threads stand
abbrev pub ran : List ThreadLog → List (Option Standing) → List ThreadLog
ran [] standing = []
ran (l ∷ ls) [] = []
ran (l ∷ ls) (None ∷ ss) = ran ls ss
ran (l ∷ ls) (Some a ∷ ss) = l ∷ ran ls ss

-- so many logs were not run
abbrev pub one_left : Option Standing → ℕ
one_left None = 1
one_left (Some a) = 0

abbrev pub left : List (Option Standing) → ℕ
left standing = sum_by one_left standing

-- the first state of thread 0, in main without arguments
abbrev pub main_in : Setting → ℕ → Source
main_in x main = source_start x main []

-- the log is a run of its thread, which then stands so
pub record Stands (x : Setting) (limits : Limits) (starts : ℕ → Source) (log : ThreadLog) (a : Standing) : Type 0 where
  pub run : IsRunAsWritten (source x) limits starts log
  pub make : AsksAsWritten (source x) asks_make limits starts log ↔ (a.makes ≡ true)
  pub spawn : AsksAsWritten (source x) asks_spawn limits starts log ↔ (a.spawns ≡ true)

-- children that are not thread 0
abbrev pub others : List Child → List Child
others children = filter (λ c. not (c.number.0 == 0)) children

-- what was found: the first states of all threads that were started, those of the logs that were run and of those that wait
pub record HasCome (x : Setting) (limits : Limits) (main : ℕ) (logs : List ThreadLog) (standing : List (Option Standing)) (waiting : List Child) : Type 0 where
  pub long : length standing ≡ length logs
  pub of : AreOf x waiting
  pub known : Firsts Source
  pub weigh : (h : ℕ → ℕ) → h 0 ≡ 0 → sum_by h (first_numbers known) ≡ sum_by (λ l. sum_by h (children_of l)) (ran logs standing)
  pub split : (h : ℕ → ℕ) → sum_by h (first_numbers known) ≡ sum_by (λ l. h l.number.0) (ran logs standing) + sum_by h (numbers waiting)
  pub main_once : sum_by (equals 0) (first_numbers known) ≡ 1
  pub holds : (starts : ℕ → Source) → Agrees starts known → (i : ℕ) (log : ThreadLog) (a : Standing) → slice_get logs i ≡ Some log → slice_get standing i ≡ Some (Some a) → Stands x limits starts log a
  pub forced : (starts : ℕ → Source) → starts 0 ≡ main_in x main
      → ((i : ℕ) (log : ThreadLog) (a : Standing) → slice_get logs i ≡ Some log → slice_get standing i ≡ Some (Some a) → IsRunAsWritten (source x) limits starts log)
      → Agrees starts known
  pub within : (starts : ℕ → Source) → Agrees starts known → (starts 0 ≡ main_in x main) × Agrees starts (firsts waiting)
  pub reached : (n : ℕ) → 1 ≤ sum_by (equals n) (first_numbers known) → IsReached logs n

-- the waiting thread's log was run; or the logs aren't all runs
abbrev pub ComesOn : Bool → Setting → Limits → ℕ → List ThreadLog → List (Option Standing) → List (Option Standing) → List Child → Type 0
ComesOn true x limits main logs before standing waiting = HasCome x limits main logs standing waiting × (left standing < left before)
ComesOn false x limits main logs before standing waiting = HasRunsAsWritten (source x) limits (main_in x main) logs → ⊥

-- each was run
abbrev pub AllStand : List (Option Standing) → Type 0
AllStand standing = (i : ℕ) → i < length standing → (a : Standing) × (slice_get standing i ≡ Some (Some a))

-- whether a log stands so
abbrev pub is_so : (Standing → Bool) → Option Standing → Bool
is_so so None = false
is_so so (Some a) = so a

abbrev pub so_many : (Standing → Bool) → List (Option Standing) → ℕ
so_many so standing = count_by (is_so so) standing

-- no thread waits any more; or the logs aren't all runs
abbrev pub RunsReached : Option (List (Option Standing)) → Setting → Limits → ℕ → List ThreadLog → Type 0
RunsReached None x limits main logs = HasRunsAsWritten (source x) limits (main_in x main) logs → ⊥
RunsReached (Some standing) x limits main logs = HasCome x limits main logs standing []

-- each log is a run, and so many stand where they ask for a number; or they aren't all runs
abbrev pub AreAllRuns : Option Asking → Setting → Limits → ℕ → List ThreadLog → Type 0
AreAllRuns None x limits main logs = HasRunsAsWritten (source x) limits (main_in x main) logs → ⊥
AreAllRuns (Some n) x limits main logs =
    HasRunsAsWritten (source x) limits (main_in x main) logs
    × ((r : HasRunsAsWritten (source x) limits (main_in x main) logs)
    → IsCount (AsksAsWritten (source x) asks_make limits r.starts) logs n.makes × IsCount (AsksAsWritten (source x) asks_spawn limits r.starts) logs n.spawns)
