-- What is kept of the accesses of an allocation.
use Rattle.std.specs.Prelude.{◌≡◌, ℕ, ◌<◌, ◌≤◌, Bool, true, false, List, [], ◌∷◌, ◌++◌, Option, Some, None, Contains, All, length, slice_index, slice_index_or}
use Rattle.std.specs.List.Sorted.{IsStrictlyIncreasing}
use Rattle.std.specs.BTreeMap as tree
use Rattle.std.specs.Ordering.{nat_cmp}
use Rattle.bsan_ids.specs.declared.numbers.AllocNo.{AllocNo}
use Rattle.history.specs.declared.entry.Entry.{Entry}
use Rattle.history.specs.declared.entry.Request.{Request}
use Rattle.race_check.specs.declared.race.Race.{Race}
use Rattle.race_check.specs.declared.slots.Slots.{Slots}
use Rattle.race_check.specs.declared.uses.Kind.{Kind}
use Rattle.race_check.specs.declared.uses.Access.{Access}
use Rattle.race_check.specs.declared.uses.LastUses.{LastUses}
use Rattle.race_check.specs.declared.tracked.Rows.{Rows}
use Rattle.race_check.specs.declared.tracked.Tracked.{Tracked}
use Rattle.race_check.specs.declared.tracked.Allocations.{Allocations}
use Rattle.race_check.specs.Accesses.{accessed, is_free, start_of, end_of}
use Rattle.race_check.specs.Races.{has_race}
use Rattle.race_check.specs.Uses.{HasUse, AllBelow, access_of, row_of}

-- what last uses are kept of: a byte, the allocation by any access, the allocation by a free
pub data Spot : Type 0 where
  byte : ℕ → Spot
  whole : Spot
  freed : Spot

abbrev pub row_at : Rows → Spot → List LastUses
row_at rows (byte b) = row_of (tree.get nat_cmp rows.bytes b)
row_at rows whole = rows.whole.items
row_at rows freed = rows.freed.items

-- where an access is kept
abbrev pub Leaves : Request → Spot → Type 0
Leaves request (byte b) = (is_free request ≡ false) × (start_of request ≤ b) × (b < end_of request)
Leaves request whole = Unit {0}
Leaves request freed = is_free request ≡ true

-- where those are kept that it overlaps
abbrev pub Meets : Request → Spot → Type 0
Meets request (byte b) = (is_free request ≡ false) × (start_of request ≤ b) × (b < end_of request)
Meets request whole = is_free request ≡ true
Meets request freed = is_free request ≡ false

-- of an allocation that may have no access yet
abbrev pub is_raced : Option Tracked → Bool
is_raced None = false
is_raced (Some tracked) = tracked.raced

abbrev pub places_in : Option Tracked → List ℕ
places_in None = []
places_in (Some tracked) = tracked.places.items

abbrev pub row_in : Option Tracked → Spot → List LastUses
row_in None spot = []
row_in (Some tracked) spot = row_at tracked.rows spot

abbrev pub tracked_at : Allocations → ℕ → Option Tracked
tracked_at allocs n = tree.get nat_cmp allocs.tracked n

-- an access is noted, and what was kept is kept
pub record Notes (request : Request) (access : Access) (old new : Option Tracked) : Type 0 where
  pub raced : is_raced new ≡ is_raced old
  pub places : is_raced old ≡ false → places_in new ≡ places_in old ++ access.place ∷ []
  pub left : is_raced old ≡ false → (spot : Spot) → Leaves request spot → HasUse (row_in new spot) access
  pub kept : is_raced old ≡ false → (spot : Spot) (other : Access) → HasUse (row_in old spot) other → HasUse (row_in new spot) other

-- a race is found, or each last use that the request meets and clashes with goes before it
abbrev pub IsClear : Request → Kind → List ℕ → Option Tracked → Type 0
IsClear request kind clock tracked =
    is_raced tracked ≡ false → (spot : Spot) → Meets request spot → AllBelow kind clock (row_in tracked spot)

-- an access is kept
pub record IsKept (request : Request) (access : Access) (tracked : Option Tracked) : Type 0 where
  pub place : Contains (places_in tracked) access.place
  pub left : (spot : Spot) → Leaves request spot → HasUse (row_in tracked spot) access

-- of each allocation on which no race is found, each access among the first i entries is kept
pub record AreTracked (es : List Entry) (slots : Slots) (i : ℕ) (allocs : Allocations) : Type 0 where
  pub kept : (j : ℕ) (e : Entry) (n : AllocNo) → j < i → j < length es → slice_index_or es j e ≡ e → accessed e ≡ Some n → is_raced (tracked_at allocs n.0) ≡ false
      → IsKept e.request (access_of e j (slice_index slots.of_entry.items j)) (tracked_at allocs n.0)
  pub below : (n : AllocNo) → is_raced (tracked_at allocs n.0) ≡ false → All (λ j. j < i) (places_in (tracked_at allocs n.0))
  pub rising : (n : AllocNo) → is_raced (tracked_at allocs n.0) ≡ false → IsStrictlyIncreasing (places_in (tracked_at allocs n.0))

-- a race is found on an allocation exactly where one of these is on it
abbrev pub AreMarked : List Race → Allocations → Type 0
AreMarked races allocs = (n : AllocNo) → is_raced (tracked_at allocs n.0) ≡ has_race races n
