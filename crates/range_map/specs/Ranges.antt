-- What contracts see of a range map, and the words on it.
use Rattle.std.specs.Prelude.{◌≡◌, ℕ, ◌+◌, ◌-◌, ◌<◌, List, [], ◌∷◌, ◌++◌, length, Bool, All, Some, slice_get, false, take, drop, replicate, filter, nat_lt, nat_le, ◌||◌, ◌==◌, if◌then◌else◌}
use Rattle.std.specs.List.Sorted.{IsStrictlyIncreasing}
use Rattle.bsan_ids.specs.Lists.{put}

-- one value per byte, the rising run starts, and how many run starts may be added without memory
pub record Ranges (T : Type 0) : Type 0 where
  pub bytes : List T
  pub starts : List ℕ
  pub spare : ℕ

-- of every range map: a run begins at 0, and the run starts rise and lie below the length
pub record IsRanges {T : Type 0} (m : Ranges T) : Type 0 where
  pub first : slice_get m.starts 0 ≡ Some 0
  pub rising : IsStrictlyIncreasing m.starts
  pub within : All (λ s. s < length m.bytes) m.starts

-- the rising list with `at` in it
abbrev pub with_start : ℕ → List ℕ → List ℕ
with_start at [] = at ∷ []
with_start at (s ∷ ss) = if nat_lt s at then s ∷ with_start at ss else if s == at then s ∷ ss else at ∷ s ∷ ss

-- the same, where `at` is no end of the bytes
abbrev pub with_end : ℕ → ℕ → List ℕ → List ℕ
with_end len at starts = if nat_lt at len then with_start at starts else starts

-- whether a run begins at `at`
abbrev pub has_start : ℕ → List ℕ → Bool
has_start at [] = false
has_start at (s ∷ ss) = s == at || has_start at ss

-- the least run start above `at`, or `len` where there is none
abbrev pub next_start : ℕ → ℕ → List ℕ → ℕ
next_start len at [] = len
next_start len at (s ∷ ss) = if nat_lt at s then s else next_start len at ss

-- the list with `value` from `from` to before `end`
abbrev pub overwrite : {T : Type 0} → ℕ → ℕ → T → List T → List T
overwrite from end value xs = put from (replicate (end - from) value) xs

-- whether a run that begins at `s` stays when the bytes from `from` to before `end` are written
abbrev pub stays : ℕ → ℕ → ℕ → Bool
stays from end s = nat_le s from || nat_le end s

-- the run starts after a write from `from` to before `end`
abbrev pub starts_after_set : ℕ → ℕ → ℕ → List ℕ → List ℕ
starts_after_set len from end starts = filter (stays from end) (with_start from (with_end len end starts))

-- the places from `at` on whose value is not that of the place before
abbrev pub boundaries_from : {T : Type 0} → (T → T → Bool) → ℕ → T → List T → List ℕ
boundaries_from same at before [] = []
boundaries_from same at before (x ∷ xs) =
    if same before x then boundaries_from same (at + 1) x xs else at ∷ boundaries_from same (at + 1) x xs

-- 0, and each place whose value is not that of the place before
abbrev pub boundaries : {T : Type 0} → (T → T → Bool) → List T → List ℕ
boundaries same [] = []
boundaries same (x ∷ xs) = 0 ∷ boundaries_from same 1 x xs
