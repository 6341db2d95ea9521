-- Entries of which no stamp stands twice.
use Rattle.std.proofs.Common.{◌≡◌, ℕ, ◌<◌, ◌≤◌, Bool, true, false, List, [], ◌∷◌, ◌++◌, Option, Some, None, refl, sym, ap, ◌∙◌, subst, arith, inl, inr, map, nat_eq}
use Rattle.std.specs.Prelude.{if◌then◌else◌, ◌⊎◌}
use Rattle.std.specs.List.{IsDistinct, AllByRecursion}
use Rattle.std.proofs.lemmas.Bool.Decides.{eqb_tells, nat_tests}
use Rattle.bsan_ids.specs.declared.numbers.AllocNo.{AllocNo}
use Rattle.history.specs.declared.entry.Entry.{Entry}
use Rattle.history.specs.Merge.{stamp_of}
use Rattle.runs.specs.Parts.{Has, of_alloc, names}
use Rattle.runs.specs.Stamps.{RisesFrom}
use Rattle.runs.proofs.MergeLaws.{above_first}

stamps_above : (x n : ℕ) (es : List Entry) → x ≤ n → RisesFrom n es → AllByRecursion (λ y. nat_eq x y ≡ false) (map stamp_of es)
stamps_above x n [] less h = tt
stamps_above x n (e ∷ es) less h = (other x e.stamp.0 (omega (arith, h.0)), stamps_above x e.stamp.0 es (omega (arith, h.0)) h.1) where
  other : (p q : ℕ) → p < q → nat_eq p q ≡ false
  other p q lt = grind (arith, nat_tests)

pub rises_differ : (n : ℕ) (es : List Entry) → RisesFrom n es → IsDistinct nat_eq (map stamp_of es)
unfolding IsDistinct
rises_differ n [] h = tt
rises_differ n (e ∷ es) h = (stamps_above e.stamp.0 e.stamp.0 es (omega arith) h.1, rises_differ e.stamp.0 es h.1)

-- no stamp of the first stands in the second
abbrev pub Apart : List Entry → List Entry → Type 0
Apart xs ys = (x y : Entry) → Has xs x → Has ys y → x.stamp.0 ≡ y.stamp.0 → ⊥

apart_from : (x : ℕ) (ys : List Entry) → ((y : Entry) → Has ys y → x ≡ y.stamp.0 → ⊥) → AllByRecursion (λ y. nat_eq x y ≡ false) (map stamp_of ys)
apart_from x [] h = tt
apart_from x (y ∷ ys) h = (other x y.stamp.0 (h y (inl refl)), apart_from x ys (λ z at. h z (inr at))) where
  other : (p q : ℕ) → (p ≡ q → ⊥) → nat_eq p q ≡ false
  other p q ne = elim (eqb_tells p q) [ inl hit ↦ absurd (ne hit.1) | inr miss ↦ miss.0 ]

apart_both : (x : ℕ) (xs ys : List Entry) → AllByRecursion (λ y. nat_eq x y ≡ false) (map stamp_of xs) → AllByRecursion (λ y. nat_eq x y ≡ false) (map stamp_of ys) → AllByRecursion (λ y. nat_eq x y ≡ false) (map stamp_of (xs ++ ys))
apart_both x [] ys h g = g
apart_both x (z ∷ zs) ys h g = (h.0, apart_both x zs ys h.1 g)

pub both_differ : (xs ys : List Entry) → IsDistinct nat_eq (map stamp_of xs) → IsDistinct nat_eq (map stamp_of ys) → Apart xs ys → IsDistinct nat_eq (map stamp_of (xs ++ ys))
unfolding IsDistinct
both_differ [] ys d e apart = e
both_differ (x ∷ xs) ys d e apart =
    (apart_both x.stamp.0 xs ys d.0 (apart_from x.stamp.0 ys (λ y at same. apart x y (inl refl) at same)), both_differ xs ys d.1 e (λ z y at there same. apart z y (inr at) there same))

pub in_part : (a : ℕ) (es : List Entry) (x : Entry) → Has (of_alloc a es) x → Has es x × (names x.alloc a ≡ true)
in_part a [] x h = absurd h
in_part a (e ∷ es) x h = by (names e.alloc a) refl h (in_part a es x) where
  by : (b : Bool) → names e.alloc a ≡ b → Has (if b then e ∷ of_alloc a es else of_alloc a es) x → (Has (of_alloc a es) x → Has es x × (names x.alloc a ≡ true)) → Has (e ∷ es) x × (names x.alloc a ≡ true)
  by true named (inl is) more = (inl is, subst (λ (y : Entry). names y.alloc a ≡ true) is named)
  by true named (inr at) more = (inr (more at).0, (more at).1)
  by false named at more = (inr (more at).0, (more at).1)

pub has_either : (xs ys : List Entry) (x : Entry) → Has (xs ++ ys) x → Has xs x ⊎ Has ys x
has_either [] ys x h = inr h
has_either (z ∷ zs) ys x (inl is) = inl (inl is)
has_either (z ∷ zs) ys x (inr h) = elim (has_either zs ys x h) [ inl at ↦ inl (inr at) | inr at ↦ inr at ]

-- entries of one stamp are one
pub one_stamp : (n : ℕ) (es : List Entry) (x y : Entry) → RisesFrom n es → Has es x → Has es y → x.stamp.0 ≡ y.stamp.0 → x ≡ y
one_stamp n [] x y h a b same = absurd a
one_stamp n (e ∷ es) x y h (inl p) (inl q) same = sym p ∙ q
one_stamp n (e ∷ es) x y h (inl p) (inr q) same =
    let here : e.stamp.0 ≡ x.stamp.0 = ap (λ (z : Entry). z.stamp.0) p in
    absurd (let more : e.stamp.0 < y.stamp.0 = above_first e.stamp.0 es y h.1 q in omega arith)
one_stamp n (e ∷ es) x y h (inr p) (inl q) same =
    let here : e.stamp.0 ≡ y.stamp.0 = ap (λ (z : Entry). z.stamp.0) q in
    absurd (let more : e.stamp.0 < x.stamp.0 = above_first e.stamp.0 es x h.1 p in omega arith)
one_stamp n (e ∷ es) x y h (inr p) (inr q) same = one_stamp e.stamp.0 es x y h.1 p q same

pub named_one : (o : Option AllocNo) (a b : ℕ) → names o a ≡ true → names o b ≡ true → a ≡ b
named_one None a b p q = absurd (cc)
named_one (Some n) a b p q = elim (eqb_tells n.0 a) [
  | inl hit ↦ elim (eqb_tells n.0 b) [
    | inl there ↦ sym hit.1 ∙ there.1
    | inr miss ↦ absurd (let no : false ≡ true = sym miss.0 ∙ q in cc)
  ]
  | inr miss ↦ absurd (let no : false ≡ true = sym miss.0 ∙ p in cc)
]
