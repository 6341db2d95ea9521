-- A name that is noted counts once more.
use Rattle.std.proofs.Common.{◌≡◌, ◌+◌, ℕ, Bool, true, List, [], ◌∷◌, ◌++◌, arith, rules}
use Rattle.std.specs.List.{count_by}
use Rattle.std.specs.Str.{bytes_eq}
use Rattle.std.proofs.lemmas.Grind.{common_steps}
use Rattle.std.proofs.lemmas.Slice.Eq.{bytes_eq-Decides}
use Rattle.outside_io.specs.Counts.{Rose}
use Rattle.outside_io.specs.Held.{times_named, times_limited, is_named, is_limited}

-- one more element that passes
pub count_by-push : {X : Type 0} (p : X → Bool) (xs : List X) (x : X) → p x ≡ true → count_by p (xs ++ x ∷ []) ≡ count_by p xs + 1
count_by-push p [] x passes = grind (arith, common_steps)
count_by-push p (y ∷ ys) x passes = grind (arith, common_steps, count_by-push p ys x passes)

pub bytes_eq_same : (name : List ℕ) → bytes_eq name name ≡ true
bytes_eq_same name = grind (arith, common_steps, bytes_eq-Decides)

pub times_named-push : (names : List (List ℕ)) (name : List ℕ) → times_named (names ++ name ∷ []) name ≡ times_named names name + 1
times_named-push names name = count_by-push (is_named name) names name (bytes_eq_same name)

limited_same : (name : List ℕ) (limit : ℕ) → is_limited name limit (name, limit) ≡ true
limited_same name limit = rw (bytes_eq_same name) (search rules)

pub times_limited-push : (calls : List (List ℕ × ℕ)) (name : List ℕ) (limit : ℕ) → times_limited (calls ++ (name, limit) ∷ []) name limit ≡ times_limited calls name limit + 1
times_limited-push calls name limit =
    count_by-push (is_limited name limit) calls (name, limit) (limited_same name limit)

-- the count of a name has risen where a copy of it was noted
pub named_rises : (before after : List (List ℕ)) (name copy : List ℕ) → copy ≡ name → after ≡ before ++ copy ∷ []
    → Rose (times_named before name) (times_named after name)
named_rises before after name copy same is = rw (is, same) (rw (times_named-push before name) (omega arith))

pub limited_rises : (before after : List (List ℕ × ℕ)) (name copy : List ℕ) (limit : ℕ) → copy ≡ name
    → after ≡ before ++ (copy, limit) ∷ []
    → Rose (times_limited before name limit) (times_limited after name limit)
limited_rises before after name copy limit same is =
    rw (is, same) (rw (times_limited-push before name limit) (omega arith))
