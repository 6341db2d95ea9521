-- Entries by the numbers of their allocations.
use Rattle.std.specs.Prelude.{ℕ, nat_lt, Bool, false, Option, Some, None}
use Rattle.bsan_ids.specs.declared.numbers.AllocNo.{AllocNo}
use Rattle.history.specs.declared.entry.Entry.{Entry}

abbrev pub named_below : ℕ → Option AllocNo → Bool
named_below number None = false
named_below number (Some alloc) = nat_lt alloc.0 number

-- whether the entry is on an allocation of a number below this one
abbrev pub is_below : ℕ → Entry → Bool
is_below number e = named_below number e.alloc
