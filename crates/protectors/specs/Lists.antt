-- Lists of provenances, the last one on top, and how much more fits without memory.
use Rattle.std.specs.Prelude.{ℕ, ◌-◌, List, [], length, take, slice_index_or}
use Rattle.bsan_ids.specs.declared.numbers.Prov.{Prov}

-- a list, and how many more items fit without memory
pub record RoomyList : Type 0 where
  pub list : List Prov
  pub spare : ℕ

-- the lists, how many more items of the last list fit without memory, and how many more lists
pub record RoomyLists : Type 0 where
  pub lists : List (List Prov)
  pub spare : ℕ
  pub spare_frames : ℕ

-- the last list, or an empty one where there is none
abbrev pub top_of : List (List Prov) → List Prov
top_of lists = slice_index_or lists (length lists - 1) []

-- the lists but the last one
abbrev pub below_top : List (List Prov) → List (List Prov)
below_top lists = take (length lists - 1) lists

-- the room of the last list, and none where there is no list
abbrev pub top_spare : List RoomyList → ℕ
top_spare lists = (slice_index_or lists (length lists - 1) (record { list = []; spare = 0 })).spare
