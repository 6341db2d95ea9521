-- What is found among the first entries of a list.
use Rattle.std.specs.Prelude.{◌≡◌, ℕ, ◌<◌, true, false, List, Contains}
use Rattle.history.specs.declared.entry.Entry.{Entry}
use Rattle.race_check.specs.declared.slots.Slots.{Slots}
use Rattle.race_check.specs.declared.found.Found.{Found}
use Rattle.race_check.specs.Tracked.{AreTracked, AreMarked}
use Rattle.race_check.specs.Vectors.{AreRacesBefore, open_at}

-- the accesses among the first i entries, and the races among the first j
pub record IsFound (es : List Entry) (slots : Slots) (i j : ℕ) (found : Found) : Type 0 where
  pub tracked : AreTracked es slots i found.allocs
  pub marked : AreMarked found.races.items found.allocs
  pub races : AreRacesBefore es j found.races.items

-- of these places, the least before i that is open
pub record IsFirstPlace (es : List Entry) (slots : Slots) (f : Entry) (clock places : List ℕ) (i j : ℕ) : Type 0 where
  pub inside : j < i
  pub is_open : open_at es slots f clock j ≡ true
  pub first : (k : ℕ) → k < j → Contains places k → open_at es slots f clock k ≡ false
