-- Lists with a changed element or one more, and lists of entries with one more.
use Rattle.std.proofs.Common.{◌≡◌, ℕ, zero, suc, ◌+◌, ◌<◌, ◌≤◌, Bool, true, false, cond, List, [], ◌∷◌, ◌++◌, refl, sym, ◌∙◌, ap, subst, inl, inr, arith, length, append-nil}
use Rattle.std.specs.Prelude.{Some, None, slice_get, slice_set, ◌==◌, ◌⊎◌, if◌then◌else◌, IsPermutation, nat_eq}
use Rattle.std.specs.List.{flat_map, count_by, AllByRecursion, IsDistinct}
use Rattle.std.proofs.lemmas.Bool.Decides.{nat_tests}
use Rattle.std.proofs.lemmas.Grind.{flat_map-append}
use Rattle.std.proofs.lemmas.List.{append_assoc}
use Rattle.std.proofs.lemmas.Grind.{fold-append}
use Rattle.std.proofs.lemmas.List.Sorted.{IsPermutation-trans, IsPermutation-append_left, IsPermutation-append_right, IsPermutation-append_comm, All-permutation}
use Rattle.std.proofs.lemmas.Map.Keys.{IsDistinct-IsPermutation}
use Rattle.std.proofs.lemmas.List.Elements.{All-from_recursion, recursion_from_All}
use Rattle.history.specs.declared.entry.Entry.{Entry}
use Rattle.history.specs.declared.entry.Plain.{Plain}
use Rattle.runs.specs.Parts.{Has, of_thread}
use Rattle.runs.specs.Stamps.{RisesFrom}
use Rattle.runs.specs.Right.{Numbered, counting_from}
use Rattle.runs.proofs.Tracking.{some_inj}

module _ {X : Type 0} where
  pub got_old : (xs ys : List X) (i : ℕ) (x : X) → slice_get xs i ≡ Some x → slice_get (xs ++ ys) i ≡ Some x
  got_old [] ys i x h = cc
  got_old (z ∷ zs) ys zero x h = h
  got_old (z ∷ zs) ys (suc i) x h = got_old zs ys i x h

  pub got_last : (xs : List X) (y : X) → slice_get (xs ++ y ∷ []) (length xs) ≡ Some y
  got_last [] y = refl
  got_last (z ∷ zs) y = got_last zs y

  pub got_past : (xs : List X) (i : ℕ) → length xs ≤ i → slice_get xs i ≡ None
  got_past [] i le = refl
  got_past (z ∷ zs) zero le = absurd (omega (arith, le))
  got_past (z ∷ zs) (suc i) le = got_past zs i (omega (arith, le))

  pub length_more : (xs : List X) (y : X) → length (xs ++ y ∷ []) ≡ length xs + 1
  length_more [] y = refl
  length_more (x ∷ xs) y = let more = length_more xs y in omega (arith, more)

-- a changed element ---------------------------------------------------------

-- what a list of lists gains where one of them is longer
module _ {X : Type 0} (g : X → List ℕ) where
  moved : (us ns rest : List ℕ) → IsPermutation (ns ++ (us ++ rest)) ((us ++ ns) ++ rest)
  moved us ns rest =
      subst (λ l. IsPermutation l ((us ++ ns) ++ rest)) (append_assoc ns us rest)
      (IsPermutation-append_left rest (ns ++ us) (us ++ ns) (IsPermutation-append_comm ns us))

  pub gained : (xs : List X) (i : ℕ) (x y : X) (ns : List ℕ) → slice_get xs i ≡ Some x → g y ≡ g x ++ ns → IsPermutation (ns ++ flat_map g xs) (flat_map g (slice_set xs i y))
  gained [] i x y ns h is = cc
  gained (z ∷ zs) zero x y ns h is =
      let same : z ≡ x = some_inj h in
      subst (λ l. IsPermutation (ns ++ (g z ++ flat_map g zs)) (l ++ flat_map g zs)) (sym (is ∙ ap (λ k. g k ++ ns) (sym same))) (moved (g z) ns (flat_map g zs))
  gained (z ∷ zs) (suc i) x y ns h is =
      let rest = gained zs i x y ns h is in
      let first : IsPermutation (ns ++ (g z ++ flat_map g zs)) ((g z ++ ns) ++ flat_map g zs) = moved (g z) ns (flat_map g zs) in
      IsPermutation-trans _ _ _ (subst (λ l. IsPermutation (ns ++ (g z ++ flat_map g zs)) l) (append_assoc (g z) ns (flat_map g zs)) first)
      (IsPermutation-append_right (g z) (ns ++ flat_map g zs) (flat_map g (slice_set zs i y)) rest)

  pub gained_none : (xs : List X) (i : ℕ) (x y : X) → slice_get xs i ≡ Some x → g y ≡ g x → flat_map g (slice_set xs i y) ≡ flat_map g xs
  gained_none [] i x y h is = refl
  gained_none (z ∷ zs) zero x y h is = let same : z ≡ x = some_inj h in ap (λ l. l ++ flat_map g zs) (is ∙ ap g (sym same))
  gained_none (z ∷ zs) (suc i) x y h is = ap (λ l. g z ++ l) (gained_none zs i x y h is)

  pub gained_last : (xs : List X) (y : X) → g y ≡ [] → flat_map g (xs ++ y ∷ []) ≡ flat_map g xs
  gained_last [] y is = ap (λ l. l ++ []) is
  gained_last (x ∷ xs) y is = ap (λ l. g x ++ l) (gained_last xs y is)

-- a sum, its first summand outermost
abbrev pub total : {X : Type 0} → (X → ℕ) → List X → ℕ
total h [] = 0
total h (x ∷ xs) = h x + total h xs

module _ {X : Type 0} (h : X → ℕ) where
  pub total_set : (xs : List X) (i : ℕ) (x y : X) → slice_get xs i ≡ Some x → total h (slice_set xs i y) + h x ≡ total h xs + h y
  total_set [] i x y is = cc
  total_set (z ∷ zs) zero x y is =
      let same : h z ≡ h x = ap h (some_inj is) in omega (arith, same)
  total_set (z ∷ zs) (suc i) x y is = let more = total_set zs i x y is in omega (arith, more)

  pub total_more : (xs : List X) (y : X) → total h (xs ++ y ∷ []) ≡ total h xs + h y
  total_more [] y = omega arith
  total_more (x ∷ xs) y = let more = total_more xs y in omega (arith, more)

-- lists of drawn numbers -------------------------------------------------------

-- different numbers, at most n
abbrev pub Drawn : ℕ → List ℕ → Type 0
Drawn n xs = AllByRecursion (λ k. k ≤ n) xs × IsDistinct nat_eq xs

below_more : (n m : ℕ) (xs : List ℕ) → n ≤ m → AllByRecursion (λ k. k ≤ n) xs → AllByRecursion (λ k. k ≤ m) xs
below_more n m [] le h = tt
below_more n m (x ∷ xs) le h = (omega (arith, le, h.0), below_more n m xs le h.1)

pub drawn_more : (n m : ℕ) (xs : List ℕ) → n ≤ m → Drawn n xs → Drawn m xs
drawn_more n m xs le d = (below_more n m xs le d.0, d.1)

not_same : (a b : ℕ) → b < a → nat_eq a b ≡ false
not_same a b less = grind (arith, nat_tests)

new_apart : (n : ℕ) (xs : List ℕ) → AllByRecursion (λ k. k ≤ n) xs → AllByRecursion (λ y. nat_eq (n + 1) y ≡ false) xs
new_apart n [] h = tt
new_apart n (x ∷ xs) h = (not_same (n + 1) x (omega (arith, h.0)), new_apart n xs h.1)

pub drawn_one : (n : ℕ) (xs : List ℕ) → Drawn n xs → Drawn (n + 1) ((n + 1) ∷ xs)
unfolding IsDistinct
drawn_one n xs d = ((omega arith, below_more n (n + 1) xs (omega arith) d.0), (new_apart n xs d.0, d.1))

eq_flips : (a b : ℕ) → nat_eq a b ≡ nat_eq b a
eq_flips a b = grind (arith, nat_tests)

pub drawn_moved : (n : ℕ) (xs ys : List ℕ) → IsPermutation xs ys → Drawn n xs → Drawn n ys
drawn_moved n xs ys p d = (recursion_from_All (λ k. k ≤ n) ys (All-permutation (λ k. k ≤ n) xs ys p (All-from_recursion (λ k. k ≤ n) xs d.0)), IsDistinct-IsPermutation nat_eq eq_flips xs ys p d.1)

pub counting_more : (n k : ℕ) → counting_from n k ++ (n + k) ∷ [] ≡ counting_from n (suc k)
counting_more n zero = let same : n + 0 ≡ n = omega arith in ap (λ m. m ∷ []) same
counting_more n (suc k) =
    let same : (n + 1) + k ≡ n + suc k = omega arith in
    ap (λ l. n ∷ l) (ap (λ m. counting_from (n + 1) k ++ m ∷ []) (sym same) ∙ counting_more (n + 1) k)

-- entries with one more -----------------------------------------------------------

pub has_old : (es fs : List Entry) (x : Entry) → Has es x → Has (es ++ fs) x
has_old [] fs x h = absurd h
has_old (e ∷ es) fs x (inl is) = inl is
has_old (e ∷ es) fs x (inr h) = inr (has_old es fs x h)

pub has_last : (es : List Entry) (e : Entry) → Has (es ++ e ∷ []) e
has_last [] e = inl refl
has_last (x ∷ es) e = inr (has_last es e)

pub has_more : (es : List Entry) (e x : Entry) → Has (es ++ e ∷ []) x → Has es x ⊎ (e ≡ x)
has_more [] e x (inl is) = inr is
has_more [] e x (inr h) = absurd h
has_more (y ∷ es) e x (inl is) = inl (inl is)
has_more (y ∷ es) e x (inr h) = elim (has_more es e x h) [ inl old ↦ inl (inr old) | inr new ↦ inr new ]

pub own_more : (t : ℕ) (es : List Entry) (e : Entry) → (e.thread.0 == t) ≡ true → of_thread t (es ++ e ∷ []) ≡ of_thread t es ++ e ∷ []
own_more t [] e is = rw is refl
own_more t (x ∷ es) e is =
    elim (x.thread.0 == t) as (λ b. (if b then x ∷ of_thread t (es ++ e ∷ []) else of_thread t (es ++ e ∷ [])) ≡ (if b then x ∷ of_thread t es else of_thread t es) ++ e ∷ []) [
      | true ↦ ap (λ l. x ∷ l) (own_more t es e is)
      | false ↦ own_more t es e is
    ]

pub other_more : (t : ℕ) (es : List Entry) (e : Entry) → (e.thread.0 == t) ≡ false → of_thread t (es ++ e ∷ []) ≡ of_thread t es
other_more t [] e is = rw is refl
other_more t (x ∷ es) e is = ap (λ l. if x.thread.0 == t then x ∷ l else l) (other_more t es e is)

pub numbered_more : (n : ℕ) (es : List Entry) (e : Entry) → Numbered n es → e.stamp.0 ≡ n + length es → Numbered n (es ++ e ∷ [])
numbered_more n [] e h is = (omega (arith, is), tt)
numbered_more n (x ∷ es) e h is = (h.0, numbered_more (n + 1) es e h.1 (omega (arith, is)))

pub numbered_rises : (n : ℕ) (es : List Entry) → Numbered (n + 1) es → RisesFrom n es
numbered_rises n [] h = tt
numbered_rises n (e ∷ es) h =
    let here : e.stamp.0 ≡ n + 1 = h.0 in
    (omega (arith, here), subst (λ k. RisesFrom k es) (sym here) (numbered_rises (n + 1) es h.1))

pub count_more : (p : Entry → Bool) (es : List Entry) (e : Entry) → count_by p (es ++ e ∷ []) ≡ count_by p es + cond (p e) 1 0
count_more p es e = fold-append (λ a x. a + cond (p x) 1 0) 0 es (e ∷ [])

pub told_more : (k : Plain → List ℕ) (es : List Entry) (e : Entry) → flat_map (λ (x : Entry). k x.reply.plain) (es ++ e ∷ []) ≡ flat_map (λ (x : Entry). k x.reply.plain) es ++ k e.reply.plain
told_more k es e = flat_map-append (λ (x : Entry). k x.reply.plain) es (e ∷ []) ∙ ap (λ l. flat_map (λ (x : Entry). k x.reply.plain) es ++ l) (append-nil (k e.reply.plain))
