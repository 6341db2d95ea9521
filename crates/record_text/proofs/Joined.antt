-- Tables that are joined.
use Rattle.std.proofs.Common.{◌≡◌, ℕ, Bool, true, false, cond, List, [], ◌∷◌, ◌++◌, Option, Some, refl, sym, ap, ◌∙◌}
use Rattle.std.specs.Str.{bytes_eq}
use Rattle.std.specs.Option.{option_or}
use Rattle.record_text.specs.Reading.{lookup}

pub lookup_joined : {A : Type 0} (rows more : List (List ℕ × A)) (w : List ℕ) → lookup (rows ++ more) w ≡ option_or (lookup rows w) (lookup more w)
lookup_joined [] more w = refl
lookup_joined {A = A} (row ∷ rows) more w = by_test (bytes_eq w row.0) (lookup_joined rows more w)
  where
    by_test : (b : Bool) → lookup (rows ++ more) w ≡ option_or (lookup rows w) (lookup more w) → cond b (Some row.1) (lookup (rows ++ more) w) ≡ option_or (cond b (Some row.1) (lookup rows w)) (lookup more w)
    by_test true again = refl
    by_test false again = again

-- what is found in one table or the other is what is found in both
pub found_joined : {A : Type 0} (rows more : List (List ℕ × A)) (w : List ℕ) (r s t : Option A) → r ≡ lookup rows w → s ≡ lookup more w → t ≡ option_or r s → t ≡ lookup (rows ++ more) w
found_joined {A = A} rows more w r s t first second joined = joined ∙ ap (λ (z : Option A). option_or z s) first ∙ ap (λ (z : Option A). option_or (lookup rows w) z) second ∙ sym (lookup_joined rows more w)
