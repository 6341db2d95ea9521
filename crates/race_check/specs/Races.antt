-- Data races in a list of entries whose stamps rise, as the merge of a record is.
use Rattle.std.specs.Prelude.{◌≡◌, ℕ, ◌<◌, ◌≤◌, ◌==◌, Bool, true, false, Some, List, map, All, Contains, ◌⊎◌}
use Rattle.std.specs.List.{list_any}
use Rattle.std.specs.List.Sorted.{IsStrictlyIncreasing}
use Rattle.bsan_ids.specs.declared.numbers.ThreadNo.{ThreadNo}
use Rattle.bsan_ids.specs.declared.numbers.AllocNo.{AllocNo}
use Rattle.history.specs.declared.entry.Entry.{Entry}
use Rattle.history.specs.declared.entry.Request.TheVariants.{Spawn, Join}
use Rattle.history.specs.declared.entry.Plain.TheVariants.{Spawned}
use Rattle.history.specs.Merge.{stamp_of}
use Rattle.race_check.specs.Accesses.{has_trapped, is_atomic, start_of, conflict}
use Rattle.race_check.specs.declared.race.Race.{Race}

-- it started this thread
pub record IsStartOf (thread : ThreadNo) (entry : Entry) : Type 0 where
  pub function : ℕ
  pub asked : entry.request ≡ Spawn function
  pub answered : entry.reply.plain ≡ Spawned thread

-- an atomic entry that did not trap, on this allocation and at this offset
pub record IsAtomicAt (number : AllocNo) (at : ℕ) (entry : Entry) : Type 0 where
  pub atomic : is_atomic entry.request ≡ true
  pub done : has_trapped entry ≡ false
  pub alloc : entry.alloc ≡ Some number
  pub start : start_of entry.request ≡ at

-- why an entry goes before a later one: they have one thread, it started the other's thread, the
-- other waited for its thread, or both are atomic at one place
pub data IsLinked (e f : Entry) : Type 0 where
  one_thread : e.thread ≡ f.thread → IsLinked e f
  start : IsStartOf f.thread e → IsLinked e f
  join : f.request ≡ Join e.thread → IsLinked e f
  one_place : (number : AllocNo) (at : ℕ) → IsAtomicAt number at e → IsAtomicAt number at f → IsLinked e f

pub record GoesBefore (e f : Entry) : Type 0 where
  pub later : stamp_of e < stamp_of f
  pub link : IsLinked e f

-- ordered: joined by a chain of such pairs
pub data Ordered (entries : List Entry) (e : Entry) : Entry → Type 0 where
  directly : (f : Entry) → GoesBefore e f → Ordered entries e f
  through : (m f : Entry) → Contains entries m → Ordered entries e m → GoesBefore m f → Ordered entries e f

-- two entries race: they conflict and are not ordered
pub record IsRace (entries : List Entry) (e f : Entry) : Type 0 where
  pub earlier : Contains entries e
  pub later : Contains entries f
  pub order : stamp_of e < stamp_of f
  pub conflicts : conflict e f ≡ true
  pub unordered : Ordered entries e f → ⊥

-- the first race on an allocation: its later stamp is the least, and of those its earlier stamp is
pub record IsFirstRace (entries : List Entry) (race : Race) : Type 0 where
  pub races : IsRace entries race.earlier race.later
  pub alloc : race.later.alloc ≡ Some race.alloc
  pub least : (e f : Entry) → IsRace entries e f → f.alloc ≡ Some race.alloc
      → (stamp_of race.later < stamp_of f) ⊎ ((race.later ≡ f) × (stamp_of race.earlier ≤ stamp_of e))

abbrev pub later_stamp : Race → ℕ
later_stamp race = stamp_of race.later

-- the first race on each allocation that has one, by the later stamp
pub record AreFirstRaces (entries : List Entry) (races : List Race) : Type 0 where
  pub each : All (λ race. IsFirstRace entries race) races
  pub rising : IsStrictlyIncreasing (map later_stamp races)
  pub all : (e f : Entry) → IsRace entries e f → (race : Race) × Contains races race × (f.alloc ≡ Some race.alloc)

abbrev pub has_race : List Race → AllocNo → Bool
has_race races number = list_any (λ race. race.alloc.0 == number.0) races
