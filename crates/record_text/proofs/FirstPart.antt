-- The first part of a text that is cut, and what stands behind it.
use Rattle.std.proofs.Common.{◌≡◌, ℕ, ◌==◌, Bool, true, false, cond, List, [], ◌∷◌, ◌++◌, Option, Some, None, refl, sym, ap, subst, ◌∙◌}
use Rattle.std.specs.Borrow.{Bor}
use Rattle.std.specs.List.{slice_split, onto_first, join_with_byte, AllByRecursion}
use Rattle.std.proofs.lemmas.List.Splits.{join_with_byte-slice_split}
use Rattle.record_text.specs.Lines.{ended}
use Rattle.record_text.specs.Texts.{IsLine}
use Rattle.record_text.specs.Reading.{Words, left}
use Rattle.record_text.proofs.Cuts.{split_is}

abbrev Lacking : ℕ → List ℕ → Type 0
Lacking c w = AllByRecursion (λ b. (b == c) ≡ false) w

cons_parts : (v w : List ℕ) (vs ws : Words) → v ∷ vs ≡ w ∷ ws → v ≡ w
cons_parts v w vs ws e = cc

onto_lacks : (c b : ℕ) (parts : Words) (y : List ℕ) (ys : Words) → (b == c) ≡ false → ((p : List ℕ) (ps : Words) → parts ≡ p ∷ ps → Lacking c p) → onto_first b parts ≡ y ∷ ys → Lacking c y
onto_lacks c b [] y ys t h e = subst (Lacking c) (cons_parts (b ∷ []) y [] ys e) (t, tt)
onto_lacks c b (p ∷ ps) y ys t h e = subst (Lacking c) (cons_parts (b ∷ p) y ps ys e) (t, h p ps refl)

pub first_lacks : (c : ℕ) (xs y : List ℕ) (ys : Words) → slice_split (λ b. b == c) xs ≡ y ∷ ys → Lacking c y
first_lacks c [] y ys e = subst (Lacking c) (cons_parts [] y [] ys e) tt
first_lacks c (b ∷ bs) y ys e = by_test (b == c) refl e (first_lacks c bs)
  where
    by_test : (t : Bool) → (b == c) ≡ t → cond t ([] ∷ slice_split (λ b. b == c) bs) (onto_first b (slice_split (λ b. b == c) bs)) ≡ y ∷ ys
        → ((p : List ℕ) (ps : Words) → slice_split (λ b. b == c) bs ≡ p ∷ ps → Lacking c p) → Lacking c y
    by_test true t h more = subst (Lacking c) (cons_parts [] y (slice_split (λ b. b == c) bs) ys h) tt
    by_test false t h more = onto_lacks c b (slice_split (λ b. b == c) bs) y ys t more h

join_first : (c : ℕ) (text m : List ℕ) (parts : Words) → join_with_byte c parts ≡ m → (parts ≡ [] → ⊥) → join_with_byte c (text ∷ parts) ≡ text ++ c ∷ m
join_first c text m [] e some = absurd (some refl)
join_first c text m (p ∷ ps) e some = ap (λ (x : List ℕ). text ++ c ∷ x) e

onto_some : (b : ℕ) (parts : Words) → onto_first b parts ≡ [] → ⊥
onto_some b [] e = cc
onto_some b (p ∷ ps) e = cc

split_some : (c : ℕ) (xs : List ℕ) → slice_split (λ b. b == c) xs ≡ [] → ⊥
split_some c [] e = cc
split_some c (b ∷ bs) e = by_test (b == c) e
  where
    by_test : (t : Bool) → cond t ([] ∷ slice_split (λ b. b == c) bs) (onto_first b (slice_split (λ b. b == c) bs)) ≡ [] → ⊥
    by_test true h = cc
    by_test false h = onto_some b (slice_split (λ b. b == c) bs) h

pub cut_some : (c : ℕ) (rest text m : List ℕ) → slice_split (λ b. b == c) rest ≡ text ∷ slice_split (λ b. b == c) m → rest ≡ text ++ c ∷ m
cut_some c rest text m e =
    split_is c rest (text ∷ slice_split (λ b. b == c) m) e
    ∙ join_first c text m (slice_split (λ b. b == c) m) (join_with_byte-slice_split c m) (split_some c m)

-- a line with its newline, and what goes on
pub line_cut : (rest text : List ℕ) (more : Option (Bor (List ℕ))) (m : Bor (List ℕ)) → slice_split (λ b. b == 10) rest ≡ text ∷ left 10 more → more ≡ Some m → rest ≡ ended text ++ m.now
line_cut rest text more m e is =
    cut_some 10 rest text m.now (e ∙ ap (λ (o : Option (Bor (List ℕ))). text ∷ left 10 o) is) ∙ sym (newline text m.now)
  where
    newline : (v w : List ℕ) → ended v ++ w ≡ v ++ 10 ∷ w
    newline [] w = refl
    newline (b ∷ bs) w = ap (λ (x : List ℕ). b ∷ x) (newline bs w)

pub line_plain : (rest text : List ℕ) (ws : Words) → slice_split (λ b. b == 10) rest ≡ text ∷ ws → IsLine text
line_plain rest text ws e = first_lacks 10 rest text ws e

-- no newline is left
pub none_cut : (rest text : List ℕ) (more : Option (Bor (List ℕ))) → slice_split (λ b. b == 10) rest ≡ text ∷ left 10 more → more ≡ None → IsLine rest
none_cut rest text more e is =
    let one : slice_split (λ b. b == 10) rest ≡ text ∷ [] = e ∙ ap (λ (o : Option (Bor (List ℕ))). text ∷ left 10 o) is in
    subst IsLine (sym (split_is 10 rest (text ∷ []) one)) (first_lacks 10 rest text [] one)
