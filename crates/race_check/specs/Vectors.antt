-- What the vectors stand for: for each set of entries and each thread, the greatest stamp of an entry
-- of the thread that was seen, and that is in the set or goes before an entry of it.
use Rattle.std.specs.Prelude.{◌≡◌, ◌⊎◌, ℕ, suc, ◌<◌, Some, nat_le, Bool, true, false, if◌then◌else◌, List, Contains, All, map, length, vec_len, slice_index, slice_index_or}
use Rattle.std.specs.List.Sorted.{IsStrictlyIncreasing}
use Rattle.bsan_ids.specs.declared.numbers.ThreadNo.{ThreadNo}
use Rattle.history.specs.declared.entry.Entry.{Entry}
use Rattle.history.specs.Merge.{stamp_of}
use Rattle.race_check.specs.declared.race.Race.{Race}
use Rattle.race_check.specs.declared.key.Key.{Key}
use Rattle.race_check.specs.declared.clocks.Clocks.{Clocks}
use Rattle.race_check.specs.declared.slots.Slots.{Slots}
use Rattle.race_check.specs.Accesses.{conflict}
use Rattle.race_check.specs.Races.{Ordered, IsRace, IsFirstRace, later_stamp}
use Rattle.race_check.specs.Keys.{Gives}
use Rattle.race_check.specs.Slots.{IsSlot}
use Rattle.race_check.specs.Clocks.{mark_at}

-- e is one of the first i entries
abbrev pub IsSeen : List Entry → ℕ → Entry → Type 0
IsSeen es i e = (k : ℕ) × (k < i) × (k < length es) × (slice_index_or es k e ≡ e)

-- e was seen, and is in the set or goes before an entry of it that was seen
pub record IsKnown (es : List Entry) (Seen : Entry → Type 0) (k : Key) (t : ThreadNo) (e : Entry) : Type 0 where
  pub seen : Seen e
  pub thread : e.thread ≡ t
  pub by : Entry
  pub by_seen : Seen by
  pub gives : Gives k by
  pub reaches : (e ≡ by) ⊎ Ordered es e by

-- e was seen, and goes before f
pub record IsBefore (es : List Entry) (Seen : Entry → Type 0) (f : Entry) (t : ThreadNo) (e : Entry) : Type 0 where
  pub seen : Seen e
  pub thread : e.thread ≡ t
  pub ordered : Ordered es e f

-- a mark is one more than the greatest stamp of the entries with a property, and 0 where there is none
pub record IsMark (P : Entry → Type 0) (n : ℕ) : Type 0 where
  pub bound : (e : Entry) → P e → stamp_of e < n
  pub reached : (n ≡ 0) ⊎ ((e : Entry) × P e × (n ≡ suc (stamp_of e)))

-- the marks of the clocks after the first i entries
abbrev pub AreClocks : List Entry → List ThreadNo → ℕ → Clocks → Type 0
AreClocks es threads i clocks = (k : Key) (s : ℕ) (t : ThreadNo) → s < length threads
    → IsMark (IsKnown es (IsSeen es i) k (slice_index_or threads s t)) (mark_at clocks k s)

-- the marks of an entry's clock
abbrev pub IsClock : List Entry → List ThreadNo → ℕ → Entry → List ℕ → Type 0
IsClock es threads i f clock = (s : ℕ) (t : ThreadNo) → s < length threads
    → IsMark (IsBefore es (IsSeen es i) f (slice_index_or threads s t)) (slice_index clock s)

-- each entry has a slot, and it is its thread's
pub record AreSlots (es : List Entry) (slots : Slots) : Type 0 where
  pub len : vec_len slots.of_entry ≡ length es
  pub each : (i : ℕ) (d : Entry) → i < length es → IsSlot slots.threads.items (slice_index slots.of_entry.items i) (slice_index_or es i d).thread

-- e conflicts with f and, by the mark of its thread, does not go before it
abbrev pub is_open : Entry → Entry → ℕ → Bool
is_open e f mark = if nat_le mark (stamp_of e) then conflict e f else false

-- the same of the entry at j, by f's clock
abbrev pub open_at : List Entry → Slots → Entry → List ℕ → ℕ → Bool
open_at es slots f clock j = is_open (slice_index_or es j f) f (slice_index clock (slice_index slots.of_entry.items j))

-- the entry at j is the first such entry of the first i
pub record IsFirstOpen (es : List Entry) (slots : Slots) (f : Entry) (clock : List ℕ) (i j : ℕ) : Type 0 where
  pub inside : j < i
  pub is_open : open_at es slots f clock j ≡ true
  pub first : (k : ℕ) → k < j → open_at es slots f clock k ≡ false

-- the first race on each allocation that has one among the first i entries
pub record AreRacesBefore (es : List Entry) (i : ℕ) (races : List Race) : Type 0 where
  pub each : All (λ race. IsFirstRace es race) races
  pub rising : IsStrictlyIncreasing (map later_stamp races)
  pub below : All (λ race. IsSeen es i race.later) races
  pub all : (e f : Entry) → IsRace es e f → IsSeen es i f → (race : Race) × Contains races race × (f.alloc ≡ Some race.alloc)
