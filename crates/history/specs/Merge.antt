-- Entries in the order of their stamps.
use Rattle.std.specs.Prelude.{ℕ, ◌≢◌, nat_le, if◌then◌else◌, List, [], ◌∷◌, map, All, IsPermutation}
use Rattle.std.specs.List.Sorted.{IsStrictlyIncreasing}
use Rattle.history.specs.declared.entry.Entry.{Entry}

abbrev pub stamp_of : Entry → ℕ
stamp_of entry = entry.stamp.0

-- the entries in stamp order: each is put before the first that has no lower stamp
abbrev pub put_by_stamp : Entry → List Entry → List Entry
put_by_stamp entry [] = entry ∷ []
put_by_stamp entry (next ∷ rest) =
    if nat_le (stamp_of entry) (stamp_of next) then entry ∷ next ∷ rest else next ∷ put_by_stamp entry rest

abbrev pub by_stamp : List Entry → List Entry
by_stamp [] = []
by_stamp (entry ∷ entries) = put_by_stamp entry (by_stamp entries)

-- the same in the words of order: the merge has these entries, and its stamps rise
pub record IsMerge (entries merge : List Entry) : Type 0 where
  pub same : IsPermutation entries merge
  pub rising : IsStrictlyIncreasing (map stamp_of merge)

-- two lists, each in stamp order, that have no stamp in common
pub record CanMerge (entries more : List Entry) : Type 0 where
  pub rising : IsStrictlyIncreasing (map stamp_of entries)
  pub more_rising : IsStrictlyIncreasing (map stamp_of more)
  pub apart : All (λ x. All (λ y. stamp_of x ≢ stamp_of y) more) entries
