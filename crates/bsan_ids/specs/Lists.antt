-- Words on lists.
use Rattle.std.specs.Prelude.{ℕ, ◌+◌, nat_eq, if◌then◌else◌, List, [], ◌∷◌, ◌++◌, length, take, drop}

-- the list with these items from a place on, in place of as many of its own
abbrev pub put : {A : Type 0} → ℕ → List A → List A → List A
put at new xs = take at xs ++ new ++ drop (at + length new) xs

-- the list of numbers without the first place where n stands
abbrev pub without : ℕ → List ℕ → List ℕ
without n [] = []
without n (x ∷ xs) = if nat_eq n x then xs else x ∷ without n xs
