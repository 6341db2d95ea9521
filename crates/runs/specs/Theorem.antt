-- The statement that separate logs make one run.
use Rattle.std.specs.Prelude.{◌≡◌, ℕ, ◌<◌, ◌≤◌, ◌⊎◌, ◌==◌, length, List, IsPermutation, nat_eq}
use Rattle.std.specs.List.{IsDistinct}
use Rattle.bsan_ids.specs.declared.numbers.Counters.{Counters}
use Rattle.history.specs.declared.entry.Entry.{Entry}
use Rattle.history.specs.declared.log.AllocLog.{AllocLog}
use Rattle.history.specs.declared.log.End.{End}
use Rattle.bsan_ids.specs.declared.numbers.Limits.{Limits}
use Rattle.history.specs.declared.log.ThreadLog.{ThreadLog}
use Rattle.history.specs.declared.record.RunRecord.{RunRecord}
use Rattle.runs.specs.Parts.{Has, of_thread, of_alloc}
use Rattle.runs.specs.Machine.{Machine, Memory}
use Rattle.runs.specs.Interleaving.{first_world, Allowed, Interleaves, Legal}
use Rattle.runs.specs.Order.{InOrder, RunsToEnd}
use Rattle.runs.specs.Merge.{merged, MayMerge}
use Rattle.runs.specs.ReplayLaw.{MakesAlone}
use Rattle.runs.specs.Right.{NumbersRiseFrom, HasThreads, HasRuns, HasHistories, MergesToRun, IsRight}
use Rattle.runs.specs.Tree.{HasStampOrder, IsEntryRight, numbers_of, WeighAlike, IsWholeRun}

-- whatever the threads and the memory are: if the entries' restriction to each thread is a run of that thread from its first
-- state, their restriction to each number is a legal history of it, and children start and end in order, they are one run
abbrev pub LogsMakeOneRun : Machine → Memory → Allowed → Type 0
LogsMakeOneRun M O A =
    (turns : ℕ) (starts : ℕ → M.State) (ends : ℕ → End) (entries : List Entry)
    → ((t : ℕ) → RunsToEnd M turns starts ends t (of_thread t entries))
    → ((a : ℕ) → Legal O (O.unmade a) (of_alloc a entries))
    → InOrder A ends (λ t. 0 == t) entries
    → Interleaves M O A (first_world M O (starts 0)) entries

-- a record's logs with these facts, which the threads and the desks promise, have a merge that is one run
pub record HasPromises (M : Machine) (O : Memory) (A : Allowed) (limits : Limits) (main : ℕ) (start : M.State) (logs : List ThreadLog) (allocs : List AllocLog) : Type 0 where
  pub threads : HasThreads main logs
  pub runs : HasRuns M limits start logs
  pub histories : HasHistories O limits logs allocs
  pub order : HasStampOrder logs
  pub merges : MayMerge logs
  pub entries : (log : ThreadLog) (e : Entry) → Has logs log → Has log.entries e → IsEntryRight A e e.request
  pub stamps : (e : Entry) → Has (merged logs) e → e.stamp.0 ≤ length (merged logs)
  pub within : length (merged logs) ≤ limits.steps
  pub unslotted : (a : ℕ) → ((0 < a) × (a ≤ limits.allocs)) ⊎ Legal O (O.unmade a) (of_alloc a (merged logs))

abbrev pub PromisesMakeOneRun : Machine → Memory → Allowed → Type 0
PromisesMakeOneRun M O A =
    (limits : Limits) (main : ℕ) (start : M.State) (logs : List ThreadLog) (allocs : List AllocLog)
    → HasPromises M O A limits main start logs allocs → MergesToRun M O A limits start (merged logs)

-- the record of a whole run, its logs in the order of their numbers, is right, its erasure aside
abbrev pub WholeRunsAreRight : Machine → Memory → Allowed → Type 0
WholeRunsAreRight M O A =
    (limits : Limits) (main : ℕ) (start : M.State) (logs : List ThreadLog) (kept : RunRecord)
    → limits.allocs ≡ A.allocs → MakesAlone O → IsWholeRun M O A limits main start logs kept.allocs kept.words
    → IsPermutation logs kept.threads → NumbersRiseFrom 0 kept.threads → IsRight M O A limits main start kept

-- no two logs of a whole run have one number
abbrev pub NumbersDiffer : Machine → Memory → Allowed → Type 0
NumbersDiffer M O A =
    (limits : Limits) (main : ℕ) (start : M.State) (logs : List ThreadLog) (allocs : List AllocLog) (words : Counters)
    → IsWholeRun M O A limits main start logs allocs words → IsDistinct nat_eq (numbers_of logs)

-- numbers that weigh alike are the same numbers
abbrev pub WeightsTellNumbers : Type 0
WeightsTellNumbers = (xs ys : List ℕ) → WeighAlike xs ys → IsPermutation xs ys
