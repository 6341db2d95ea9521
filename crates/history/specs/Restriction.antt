-- What of a list of entries belongs to one thread, or to one allocation.
use Rattle.std.specs.Prelude.{ℕ, ◌==◌, Bool, false, Option, Some, None, List, filter}
use Rattle.bsan_ids.specs.declared.numbers.AllocNo.{AllocNo}
use Rattle.bsan_ids.specs.declared.numbers.ThreadNo.{ThreadNo}
use Rattle.history.specs.declared.entry.Entry.{Entry}

abbrev pub of_thread : ThreadNo → List Entry → List Entry
of_thread thread entries = filter (λ e. e.thread.0 == thread.0) entries

-- the number of the allocation that a step names, and 0 where it names none
abbrev pub number_of : Option AllocNo → ℕ
number_of None = 0
number_of (Some number) = number.0

abbrev pub names : AllocNo → Option AllocNo → Bool
names number None = false
names number (Some other) = other.0 == number.0

abbrev pub of_alloc : AllocNo → List Entry → List Entry
of_alloc number entries = filter (λ e. names number e.alloc) entries
