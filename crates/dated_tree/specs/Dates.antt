-- What a node sees at a byte, and what is put off there.
use Rattle.std.specs.Prelude.{◌≡◌, ◌<◌, ℕ, zero, suc, ◌==◌, Bool, Option, List, nat_lt, slice_index_or, if◌then◌else◌}
use Rattle.std.specs.List.{list_any}
use Rattle.perm_table.specs.declared.Kind.{Kind}
use Rattle.perm_table.specs.declared.Kind.TheVariants.{Read, Write}
use Rattle.table_laws.specs.Foreign.{kind_among, after_one}
use Rattle.dated_tree.specs.declared.node.Dates.{Dates}
use Rattle.dated_tree.specs.declared.node.Slot.{Slot}
use Rattle.dated_tree.specs.Shape.{Shape, node_at, slot_at}

-- the dates of a byte's last access and last write
abbrev pub last : Shape → ℕ → Dates
last t b = record { access = slice_index_or t.accesses.bytes b 0; write = slice_index_or t.writes.bytes b 0 }

abbrev pub is_noted : List ℕ → ℕ → Bool
is_noted ends date = list_any (λ end. end == date) ends

-- a date noted at a node gives way to the one that the node keeps
abbrev pub seen_date : List ℕ → ℕ → ℕ → ℕ
seen_date ends kept date = if is_noted ends date then kept else date

-- what is seen at a node and below it, where its parent sees these dates
abbrev pub seen_below : List ℕ → Dates → Dates → Dates
seen_below ends met seen = record { access = seen_date ends met.access seen.access; write = seen_date ends met.write seen.write }

-- the root sees a byte's last dates, and another node what its parent lets it see
abbrev pub seen_within : ℕ → Shape → ℕ → ℕ → Dates
seen_within zero t place b = last t b
seen_within (suc more) t place b =
    if place == 0 then last t b else seen_below (node_at t.nodes place).ends (slot_at t.nodes place b).met (seen_within more t (node_at t.nodes place).parent b)

-- what the node at a place sees at a byte; a parent's place is lesser, so no path has more steps than that
abbrev pub seen : Shape → ℕ → ℕ → Dates
seen t place b = seen_within place t place b

-- a write, where the write that is seen is later than the one that was met; else a read, where that holds
-- of the accesses; else nothing
abbrev pub put_off : Dates → Dates → Option Kind
put_off met seen = kind_among (nat_lt met.access seen.access) (nat_lt met.write seen.write)

-- the dates of a byte after an access at a date
abbrev pub dated : Kind → ℕ → Dates → Dates
dated Read date seen = record seen { access = date }
dated Write date seen = record { access = date; write = date }

-- both dates are before a date
pub record IsBefore (dates : Dates) (date : ℕ) : Type 0 where
  pub access : dates.access < date
  pub write : dates.write < date

-- where a guard stands, what is put off leaves the state as it is
abbrev pub IsAsMet : Dates → Slot → Type 0
IsAsMet seen slot = after_one (put_off slot.met seen) slot.perm ≡ slot.perm
