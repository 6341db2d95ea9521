-- The children of a thread that wait for it, one after another.
use Rattle.std.proofs.Common.{◌≡◌, ◌≢◌, ℕ, ◌+◌, ◌<◌, true, false, List, [], ◌∷◌, ◌++◌, append_assoc, append-nil, take, refl, sym, ◌∙◌, ap, subst, inl, inr, arith}
use Rattle.std.specs.Prelude.{Option, Some, None, slice_get, is_some}
use Rattle.std.proofs.lemmas.Bool.Decides.{eqb_tells}
use Rattle.record_file.specs.declared.feed.Child.{Child}
use Rattle.record_file.specs.declared.reached.Standing.{Standing}
use Rattle.record_file.specs.Reaching.{others}

others_pushed : (cs : List Child) (c : Child) → others (cs ++ c ∷ []) ≡ others cs ++ others (c ∷ [])
others_pushed [] c = refl
others_pushed (b ∷ cs) c = elim (eqb_tells b.number.0 0) [
  | inl hit ↦ rw hit.0 (others_pushed cs c)
  | inr miss ↦ rw miss.0 (ap (λ ds. b ∷ ds) (others_pushed cs c))
]

others_one : (c : Child) → c.number.0 ≢ 0 → others (c ∷ []) ≡ c ∷ []
others_one c other = elim (eqb_tells c.number.0 0) [ inl hit ↦ absurd (other hit.1) | inr miss ↦ rw miss.0 refl ]

others_none : (c : Child) → c.number.0 ≡ 0 → others (c ∷ []) ≡ []
others_none c is = elim (eqb_tells c.number.0 0) [ inl hit ↦ rw hit.0 refl | inr miss ↦ absurd (miss.1 is) ]

-- one more child
pub wait_other : (before seen after later : List Child) (c : Child) → after ≡ before ++ others seen → c.number.0 ≢ 0 → later ≡ after ++ c ∷ [] → later ≡ before ++ others (seen ++ c ∷ [])
wait_other before seen after later c waits other is =
    is ∙ ap (λ ds. ds ++ c ∷ []) waits ∙ append_assoc before (others seen) (c ∷ []) ∙ ap (λ ds. before ++ ds) (ap (λ ds. others seen ++ ds) (sym (others_one c other)) ∙ sym (others_pushed seen c))

pub wait_main : (before seen after : List Child) (c : Child) → after ≡ before ++ others seen → c.number.0 ≡ 0 → after ≡ before ++ others (seen ++ c ∷ [])
wait_main before seen after c waits zero_is =
    waits ∙ ap (λ ds. before ++ ds) (sym (others_pushed seen c ∙ ap (λ ds. others seen ++ ds) (others_none c zero_is) ∙ append-nil (others seen)))

pub is_some_one : (o : Option Standing) → is_some o ≡ true → (a : Standing) × (o ≡ Some a)
is_some_one None is = absurd (let no : false ≡ true = is in cc)
is_some_one (Some a) is = (a, refl)

pub is_none_one : (o : Option Standing) → is_some o ≡ false → o ≡ None
is_none_one None is = refl
is_none_one (Some a) is = absurd (let no : true ≡ false = is in cc)

-- marks that were set ------------------------------------------------------------------------

pub stand_more : (ss : List (Option Standing)) (k : ℕ) (a : Standing) → ((i : ℕ) → i < k → (b : Standing) × (slice_get ss i ≡ Some (Some b))) → slice_get ss k ≡ Some (Some a)
    → (i : ℕ) → i < k + 1 → (b : Standing) × (slice_get ss i ≡ Some (Some b))
stand_more ss k a all here i less = elim (eqb_tells i k) [
  | inl hit ↦ (a, ap (slice_get ss) hit.1 ∙ here)
  | inr miss ↦ (let other = miss.1 in all i (omega (arith, less, other)))
]
