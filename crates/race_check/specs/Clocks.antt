-- What the clocks have for a set of entries and a thread's slot.
use Rattle.std.specs.Prelude.{ℕ, max, Option, Some, None, Vec, slice_index, if◌then◌else◌}
use Rattle.std.specs.BTreeMap as tree
use Rattle.std.specs.declared.cmp.Ordering.{Ordering}
use Rattle.bsan_ids.specs.declared.numbers.AllocNo.{AllocNo}
use Rattle.history.specs.declared.entry.Entry.{Entry}
use Rattle.history.specs.declared.entry.Request.{Request}
use Rattle.history.specs.declared.entry.Request.TheVariants.{Spawn, Join}
use Rattle.history.specs.declared.entry.Plain.{Plain}
use Rattle.history.specs.declared.entry.Plain.TheVariants.{Spawned}
use Rattle.race_check.specs.declared.key.Key.{Key}
use Rattle.race_check.specs.declared.key.Key.TheVariants.{Thread, Start, Place}
use Rattle.race_check.specs.contracts.key.KeyOrd.TheImpl as key_ord
use Rattle.race_check.specs.declared.clocks.Clocks.{Clocks}
use Rattle.race_check.specs.Accesses.{has_trapped, is_atomic, start_of}

abbrev pub key_cmp : Key → Key → Ordering
key_cmp = (key_ord.ghosts).cmp

abbrev pub mark_in : {A : Type 0} → Option (Vec ℕ A) → ℕ → ℕ
mark_in None s = 0
mark_in (Some row) s = slice_index row.items s

-- the mark of a set of entries at a slot: 0 where there is no row or the row ends before it
abbrev pub mark_at : Clocks → Key → ℕ → ℕ
mark_at clocks k s = mark_in (tree.get key_cmp clocks.rows k) s

abbrev pub mark_if : Clocks → Option Key → ℕ → ℕ
mark_if clocks None s = 0
mark_if clocks (Some k) s = mark_at clocks k s

-- the sets beside its thread's that an entry belongs to, and those beside its thread's two that it looks at
abbrev pub started_in : Plain → Option Key
started_in (Spawned thread) = Some (Start thread)
started_in _ = None

abbrev pub started_by : Request → Plain → Option Key
started_by (Spawn function) plain = started_in plain
started_by _ plain = None

abbrev pub start_key : Entry → Option Key
start_key entry = started_by entry.request entry.reply.plain

abbrev pub joined_by : Request → Option Key
joined_by (Join child) = Some (Thread child)
joined_by _ = None

abbrev pub join_key : Entry → Option Key
join_key entry = joined_by entry.request

abbrev pub place_in : ℕ → Option AllocNo → Option Key
place_in at None = None
place_in at (Some number) = Some (Place number at)

abbrev pub place_key : Entry → Option Key
place_key entry =
    if is_atomic entry.request then
    (if has_trapped entry then None else place_in (start_of entry.request) entry.alloc)
    else None

-- the mark of the entries that go before an entry
abbrev pub clock_mark : Clocks → Entry → ℕ → ℕ
clock_mark clocks entry s =
    max (max (max (mark_at clocks (Thread entry.thread) s) (mark_at clocks (Start entry.thread) s))
    (mark_if clocks (join_key entry) s)) (mark_if clocks (place_key entry) s)
