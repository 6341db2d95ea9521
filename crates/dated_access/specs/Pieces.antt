-- The pieces of a span, on each of which what a step visits is the same at every byte.
use Rattle.std.specs.Prelude.{◌≡◌, ℕ, zero, suc, ◌+◌, ◌-◌, ◌==◌, ◌<◌, ◌≤◌, ◌⊎◌, ◌||◌, Bool, List, length, IsTrue, if◌then◌else◌}
use Rattle.std.specs.List.{list_any}
use Rattle.bsan_ids.specs.declared.numbers.Span.{Span}
use Rattle.range_map.specs.Ranges.{has_start}
use Rattle.dated_tree.specs.declared.node.Node.{Node}
use Rattle.dated_tree.specs.Shape.{Shape, node_at, slot_at}
use Rattle.dated_tree.specs.Dates.{last}
use Rattle.dated_access.specs.Path.{entry}

-- how many of the n numbers from `from` on have the property
abbrev pub count : (ℕ → Bool) → ℕ → ℕ → ℕ
count has from zero = 0
count has from (suc n) = if has from then count has (from + 1) n + 1 else count has (from + 1) n

-- whether a run of one of these nodes begins at a byte
abbrev pub begins_in : List Node → List ℕ → ℕ → Bool
begins_in nodes places at = list_any (λ place. has_start at (node_at nodes place).runs.starts) places

-- whether a run of one of the maps of dates does
abbrev pub begins_dates : Shape → ℕ → Bool
begins_dates t at = has_start at t.accesses.starts || has_start at t.writes.starts

-- a cut: a byte at which a run of the dates, of a node of the path or of another visited node begins
abbrev pub is_cut : Shape → List ℕ → List ℕ → ℕ → Bool
is_cut t path others at = begins_dates t at || (begins_in t.nodes path at || begins_in t.nodes others at)

-- the pieces of a span: 1, and 1 for each cut strictly inside it
abbrev pub pieces : Shape → List ℕ → List ℕ → Span → ℕ
pieces t path others span = 1 + count (is_cut t path others) (span.start + 1) (span.len - 1)

-- how many nodes a step visits: the root, the others of its path, and the guarded ones off it
abbrev pub visited : List ℕ → List ℕ → ℕ
visited path others = 1 + length path + length others

-- each of these nodes has one slot on the bytes from `from` to before `end`
abbrev pub HaveOneSlot : Shape → List ℕ → ℕ → ℕ → Type 0
HaveOneSlot t places from end = (k b : ℕ) → k < length places → from ≤ b → b < end → slot_at t.nodes (entry places k) b ≡ slot_at t.nodes (entry places k) from

-- the next byte after `at` at which a run of one of these nodes begins, but no later than `end`
pub record IsRunEnd (t : Shape) (places : List ℕ) (at end next : ℕ) : Type 0 where
  pub after : at < next
  pub within : next ≤ end
  pub slots : HaveOneSlot t places at next
  pub cut : (next ≡ end) ⊎ IsTrue (begins_in t.nodes places next)

-- on these bytes each visited node has one slot, and all have the same dates
pub record IsPiece (t : Shape) (path others : List ℕ) (from end : ℕ) : Type 0 where
  pub some : from < end
  pub within : end ≤ t.size
  pub on_path : HaveOneSlot t path from end
  pub off_path : HaveOneSlot t others from end
  pub dates : (b : ℕ) → from ≤ b → b < end → last t b ≡ last t from

-- where the k-th piece begins, by the ends of those before it
abbrev pub piece_start : ℕ → List ℕ → ℕ → ℕ
piece_start from ends k = if k == 0 then from else entry ends (k - 1)

-- these are the ends of pieces that follow each other from `from` on
abbrev pub ArePieces : Shape → List ℕ → List ℕ → ℕ → List ℕ → Type 0
ArePieces t path others from ends =
    (k : ℕ) → k < length ends → IsPiece t path others (piece_start from ends k) (entry ends k)

-- there is room for so many more runs in each visited node and for the dates
pub record HasRoom (t : Shape) (path others : List ℕ) (runs : ℕ) : Type 0 where
  pub on_path : (k : ℕ) → k < length path → runs ≤ (node_at t.nodes (entry path k)).runs.spare
  pub off_path : (k : ℕ) → k < length others → runs ≤ (node_at t.nodes (entry others k)).runs.spare
  pub accesses : runs ≤ t.accesses.spare
  pub writes : runs ≤ t.writes.spare
