-- The entries of a list whose stamps rise, by their places.
use Rattle.std.proofs.Common.{◌≡◌, ℕ, zero, suc, ◌+◌, ◌-◌, ◌<◌, ◌≤◌, List, length, get_or, map, sym, ap, subst, ◌∙◌, arith, inl, inr}
use Rattle.std.specs.Prelude.{◌⊎◌}
use Rattle.std.specs.List.Sorted.{IsStrictlyIncreasing}
use Rattle.std.proofs.lemmas.Grind.{common_steps}
use Rattle.std.proofs.lemmas.List.{get_or_default}
use Rattle.history.specs.declared.entry.Entry.{Entry}
use Rattle.history.specs.Merge.{stamp_of}
use Rattle.race_check.specs.Vectors.{IsSeen}
use Rattle.race_check.proofs.Vectors.{IsNext, ByStamp, With}

pub lt_or_eq : (a b : ℕ) → a ≤ b → (a < b) ⊎ (a ≡ b)
lt_or_eq a b le = grind arith

pub lt_or_ge : (a b : ℕ) → (a < b) ⊎ (b ≤ a)
lt_or_ge a b = grind arith

step_up : (es : List Entry) (d : Entry) → IsStrictlyIncreasing (map stamp_of es) → (k : ℕ) → k + 1 < length es → stamp_of (get_or es k d) < stamp_of (get_or es (k + 1) d)
step_up es d up k lt = grind (arith, common_steps, up k)

many_up : (es : List Entry) (d : Entry) → IsStrictlyIncreasing (map stamp_of es) → (n i : ℕ) → suc (n + i) < length es → stamp_of (get_or es i d) < stamp_of (get_or es (suc (n + i)) d)
many_up es d up zero i lt = subst (λ (j : ℕ). stamp_of (get_or es i d) < stamp_of (get_or es j d)) (plus_one i) (step_up es d up i (omega arith))
  where
    plus_one : (i : ℕ) → i + 1 ≡ suc (0 + i)
    plus_one i = omega arith
many_up es d up (suc n) i lt =
    let low : stamp_of (get_or es i d) < stamp_of (get_or es (suc (n + i)) d) = many_up es d up n i (omega arith) in
    let high : stamp_of (get_or es (suc (n + i)) d) < stamp_of (get_or es (suc (suc n + i)) d) =
    subst (λ (j : ℕ). stamp_of (get_or es (suc (n + i)) d) < stamp_of (get_or es j d)) (plus_one n i) (step_up es d up (suc (n + i)) (omega arith)) in
    omega arith
  where
    plus_one : (n i : ℕ) → suc (n + i) + 1 ≡ suc (suc n + i)
    plus_one n i = omega arith

pub rises : (es : List Entry) (d : Entry) → IsStrictlyIncreasing (map stamp_of es) → (i j : ℕ) → i < j → j < length es → stamp_of (get_or es i d) < stamp_of (get_or es j d)
rises es d up i j lt inside =
    let at : suc ((j - suc i) + i) ≡ j = omega arith in
    subst (λ (k : ℕ). stamp_of (get_or es i d) < stamp_of (get_or es k d)) at (many_up es d up (j - suc i) i (omega arith))

-- stamps as they stand order places
pub place_below : (es : List Entry) (d : Entry) → IsStrictlyIncreasing (map stamp_of es) → (i j : ℕ) → i < length es → stamp_of (get_or es i d) < stamp_of (get_or es j d) → i < j
place_below es d up i j inside lt = by_case (lt_or_ge i j)
  where
    by_case : (i < j) ⊎ (j ≤ i) → i < j
    by_case (inl low) = low
    by_case (inr high) = by_order (lt_or_eq j i high)
      where
        by_order : (j < i) ⊎ (j ≡ i) → i < j
        by_order (inl less) = let up' : stamp_of (get_or es j d) < stamp_of (get_or es i d) = rises es d up j i less inside in absurd (omega arith)
        by_order (inr same) = let at : stamp_of (get_or es j d) ≡ stamp_of (get_or es i d) = ap (λ (k : ℕ). stamp_of (get_or es k d)) same in absurd (omega arith)

pub by_stamp : (es : List Entry) → IsStrictlyIncreasing (map stamp_of es) → ByStamp es
by_stamp es up a b x y same = by_case (lt_or_ge x.0 y.0)
  where
    at_y : get_or es y.0 a ≡ b
    at_y = get_or_default es y.0 a b y.1 ∙ y.2

    less : x.0 < y.0 → ⊥
    less lt =
        let up' : stamp_of (get_or es x.0 a) < stamp_of (get_or es y.0 a) = rises es a up x.0 y.0 lt y.1 in
        let ea : stamp_of (get_or es x.0 a) ≡ stamp_of a = ap stamp_of x.2 in
        let eb : stamp_of (get_or es y.0 a) ≡ stamp_of b = ap stamp_of at_y in
        omega arith

    more : y.0 < x.0 → ⊥
    more lt =
        let up' : stamp_of (get_or es y.0 a) < stamp_of (get_or es x.0 a) = rises es a up y.0 x.0 lt x.1 in
        let ea : stamp_of (get_or es x.0 a) ≡ stamp_of a = ap stamp_of x.2 in
        let eb : stamp_of (get_or es y.0 a) ≡ stamp_of b = ap stamp_of at_y in
        omega arith

    by_order : (y.0 < x.0) ⊎ (y.0 ≡ x.0) → a ≡ b
    by_order (inl lt) = absurd (more lt)
    by_order (inr at) = sym x.2 ∙ ap (λ (k : ℕ). get_or es k a) (sym at) ∙ at_y

    by_case : (x.0 < y.0) ⊎ (y.0 ≤ x.0) → a ≡ b
    by_case (inl lt) = absurd (less lt)
    by_case (inr le) = by_order (lt_or_eq y.0 x.0 le)

pub next_at : (es : List Entry) → IsStrictlyIncreasing (map stamp_of es) → (i : ℕ) (f : Entry) → i < length es → get_or es i f ≡ f → IsNext es (IsSeen es i) f
next_at es up i f inside at = record {
  among = λ e s. (s.0, s.2, s.3);
  below = λ e s.
      let up' : stamp_of (get_or es s.0 f) < stamp_of (get_or es i f) = rises es f up s.0 i s.1 inside in
      let ee : stamp_of (get_or es s.0 f) ≡ stamp_of e = ap stamp_of (get_or_default es s.0 f e s.2 ∙ s.3) in
      let ef : stamp_of (get_or es i f) ≡ stamp_of f = ap stamp_of at in
      omega arith;
  each = λ e c lt.
      let ee : stamp_of (get_or es c.0 f) ≡ stamp_of e = ap stamp_of (get_or_default es c.0 f e c.1 ∙ c.2) in
      let ef : stamp_of (get_or es i f) ≡ stamp_of f = ap stamp_of at in
      (c.0, place_below es f up c.0 i c.1 (omega arith), c.1, c.2);
}

pub seen_more : (es : List Entry) (i : ℕ) (f e : Entry) → i < length es → get_or es i f ≡ f → With (IsSeen es i) f e → IsSeen es (i + 1) e
seen_more es i f e inside at (inl s) = (s.0, omega (arith, s.1), s.2, s.3)
seen_more es i f e inside at (inr is) = (i, omega arith, inside, get_or_default es i e f inside ∙ at ∙ sym is)

pub seen_last : (es : List Entry) (i : ℕ) (f e : Entry) → i < length es → get_or es i f ≡ f → IsSeen es (i + 1) e → With (IsSeen es i) f e
seen_last es i f e inside at s = by_case (lt_or_eq s.0 i (omega (arith, s.1)))
  where
    by_case : (s.0 < i) ⊎ (s.0 ≡ i) → With (IsSeen es i) f e
    by_case (inl lt) = inl (s.0, lt, s.2, s.3)
    by_case (inr is) = inr (sym s.3 ∙ ap (λ (k : ℕ). get_or es k e) is ∙ get_or_default es i e f inside ∙ at)
