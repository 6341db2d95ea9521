-- The record of a run: its entries in the order of their stamps, and the first violation on each allocation.
use Rattle.std.specs.Prelude.{nat_eq, Bool, true, false, Option, List, [], map, find}
use Rattle.std.specs.List.{flat_map, filter_map, list_any, IsDistinct}
use Rattle.history.specs.declared.entry.Entry.{Entry}
use Rattle.history.specs.declared.entry.Verdict.{Verdict}
use Rattle.history.specs.declared.entry.Verdict.TheVariants.{Clean, Closed, Violated}
use Rattle.history.specs.declared.log.AllocLog.{AllocLog}
use Rattle.history.specs.declared.record.RunRecord.{RunRecord}
use Rattle.history.specs.Merge.{stamp_of, by_stamp}

-- the entries of all threads, and those of all allocations
abbrev pub thread_entries : RunRecord → List Entry
thread_entries kept = flat_map (λ log. log.entries) kept.threads

abbrev pub alloc_entries : RunRecord → List Entry
alloc_entries kept = flat_map (λ log. log.entries) kept.allocs

-- no stamp stands twice, neither among the entries of the threads nor among those of the allocations
pub record HasDistinctStamps (kept : RunRecord) : Type 0 where
  pub threads : IsDistinct nat_eq (map stamp_of (thread_entries kept))
  pub allocs : IsDistinct nat_eq (map stamp_of (alloc_entries kept))

-- the entries of all threads in stamp order
abbrev pub merged : RunRecord → List Entry
merged kept = by_stamp (thread_entries kept)

abbrev pub is_violation : Verdict → Bool
is_violation (Violated violation) = true
is_violation Clean = false
is_violation Closed = false

abbrev pub violates : Entry → Bool
violates entry = is_violation entry.reply.verdict

abbrev pub has_violation : AllocLog → Bool
has_violation log = list_any violates log.entries

abbrev pub first_violation : AllocLog → Option Entry
first_violation log = find violates log.entries

-- the first violation on each allocation, in stamp order
abbrev pub first_found : RunRecord → List Entry
first_found kept = filter_map first_violation kept.allocs

abbrev pub first_violations : RunRecord → List Entry
first_violations kept = by_stamp (first_found kept)

-- no logs, and no number drawn
abbrev pub empty_record : RunRecord
empty_record = record { threads = []; allocs = []; words = record { stamps = 0; allocs = 0; threads = 0 } }
