-- A list in stamp order is known by its threads' parts.
use Rattle.std.proofs.Common.{◌≡◌, ℕ, ◌≤◌, Bool, true, false, List, [], ◌∷◌, refl, sym, ◌∙◌, ap, subst, inl, inr, arith}
use Rattle.std.specs.Prelude.{if◌then◌else◌, ◌==◌}
use Rattle.std.proofs.lemmas.Bool.{eq-eqb}
use Rattle.history.specs.declared.entry.Entry.{Entry}
use Rattle.history.specs.declared.log.ThreadLog.{ThreadLog}
use Rattle.runs.specs.Parts.{Has, of_thread, of_alloc, names}
use Rattle.runs.specs.Stamps.{RisesFrom}
use Rattle.runs.specs.Merge.{entries_of, IsPartwiseMerge}
use Rattle.runs.proofs.Order.{rises_above, first_is_least}

pub in_own_thread : (es : List Entry) (x : Entry) → Has es x → Has (of_thread x.thread.0 es) x
in_own_thread [] x h = h
in_own_thread (e ∷ es) x (inl same) =
    let own : (e.thread.0 == x.thread.0) ≡ true = eq-eqb e.thread.0 x.thread.0 (ap (λ (y : Entry). y.thread.0) same) in
    rw own (inl same)
in_own_thread (e ∷ es) x (inr h) =
    elim (e.thread.0 == x.thread.0) as (λ b. Has (if b then e ∷ of_thread x.thread.0 es else of_thread x.thread.0 es) x) [
      | true ↦ inr (in_own_thread es x h)
      | false ↦ in_own_thread es x h
    ]

pub in_all : (t : ℕ) (es : List Entry) (x : Entry) → Has (of_thread t es) x → Has es x
in_all t [] x h = h
in_all t (e ∷ es) x h = in_all_by (in_all t es x) (e.thread.0 == t) h
  where
    in_all_by : (Has (of_thread t es) x → Has es x) → (b : Bool) → Has (if b then e ∷ of_thread t es else of_thread t es) x → Has (e ∷ es) x
    in_all_by more true (inl same) = inl same
    in_all_by more true (inr g) = inr (more g)
    in_all_by more false g = inr (more g)

-- an entry of one list is in the other
pub is_in : (xs ys : List Entry) (x : Entry) → ((t : ℕ) → of_thread t xs ≡ of_thread t ys) → Has xs x → Has ys x
is_in xs ys x same h =
    let F : List Entry → Type 0 = λ l. Has l x in in_all x.thread.0 ys x (subst F (same x.thread.0) (in_own_thread xs x h))

pub rest_of : List Entry → List Entry
rest_of [] = []
rest_of (e ∷ es) = es

pub same_rest : (x y : Entry) (xs ys : List Entry) (t : ℕ) → x ≡ y → of_thread t (x ∷ xs) ≡ of_thread t (y ∷ ys) → of_thread t xs ≡ of_thread t ys
same_rest x y xs ys t same h =
    let F : Entry → Type 0 = λ z. of_thread t (x ∷ xs) ≡ of_thread t (z ∷ ys) in
    same_rest_by (x.thread.0 == t) (subst F (sym same) h)
  where
    same_rest_by : (b : Bool) → (if b then x ∷ of_thread t xs else of_thread t xs) ≡ (if b then x ∷ of_thread t ys else of_thread t ys) → of_thread t xs ≡ of_thread t ys
    same_rest_by true g = cc
    same_rest_by false g = g

pub same_by_threads : (xs ys : List Entry) (n k : ℕ) → RisesFrom n xs → RisesFrom k ys → ((t : ℕ) → of_thread t xs ≡ of_thread t ys) → xs ≡ ys
same_by_threads [] [] n k r s same = refl
same_by_threads [] (y ∷ ys) n k r s same = absurd (is_in (y ∷ ys) [] y (λ t. sym (same t)) (inl refl))
same_by_threads (x ∷ xs) [] n k r s same = absurd (is_in (x ∷ xs) [] x same (inl refl))
same_by_threads (x ∷ xs) (y ∷ ys) n k r s same =
    let one : x ≡ y = first_is_one x y xs ys n k r s (is_in (x ∷ xs) (y ∷ ys) x same (inl refl)) (is_in (y ∷ ys) (x ∷ xs) y (λ t. sym (same t)) (inl refl)) in
    let rest = same_by_threads xs ys x.stamp.0 y.stamp.0 r.1 s.1 (λ t. same_rest x y xs ys t one (same t)) in
    cc
  where
    first_is_one : (x y : Entry) (xs ys : List Entry) (n k : ℕ) → RisesFrom n (x ∷ xs) → RisesFrom k (y ∷ ys) → Has (y ∷ ys) x → Has (x ∷ xs) y → x ≡ y
    first_is_one x y xs ys n k r s (inl is) g = sym is
    first_is_one x y xs ys n k r s (inr h) g = absurd (omega (arith, rises_above y.stamp.0 ys x s.1 h, first_is_least n x xs y r g))

-- one restriction after the other, in either order
pub restrictions_swap : (t a : ℕ) (es : List Entry) → of_thread t (of_alloc a es) ≡ of_alloc a (of_thread t es)
restrictions_swap t a [] = refl
restrictions_swap t a (e ∷ es) = swap_by (restrictions_swap t a es) (names e.alloc a) refl (e.thread.0 == t) refl
  where
    swap_by : of_thread t (of_alloc a es) ≡ of_alloc a (of_thread t es) → (b : Bool) → names e.alloc a ≡ b → (c : Bool) → (e.thread.0 == t) ≡ c → of_thread t (of_alloc a (e ∷ es)) ≡ of_alloc a (of_thread t (e ∷ es))
    swap_by more true p true q = simp (p, q) (ap (λ l. e ∷ l) more)
    swap_by more true p false q = simp (p, q) more
    swap_by more false p true q = simp (p, q) more
    swap_by more false p false q = simp (p, q) more

pub alloc_rises : (a n : ℕ) (es : List Entry) → RisesFrom n es → RisesFrom n (of_alloc a es)
alloc_rises a n [] r = tt
alloc_rises a n (e ∷ es) r =
    elim (names e.alloc a) as (λ b. RisesFrom n (if b then e ∷ of_alloc a es else of_alloc a es)) [
      | true ↦ (r.0, alloc_rises a e.stamp.0 es r.1)
      | false ↦ rises_lower n e.stamp.0 (of_alloc a es) (omega (arith, r.0)) (alloc_rises a e.stamp.0 es r.1)
    ]
  where
    rises_lower : (n k : ℕ) (es : List Entry) → n ≤ k → RisesFrom k es → RisesFrom n es
    rises_lower n k [] le r = tt
    rises_lower n k (e ∷ es) le r = (omega (arith, r.0), r.1)

-- an allocation's log, known by its threads' parts, is the merge's part on its number
pub alloc_part : (logs : List ThreadLog) (entries log : List Entry) (a : ℕ) → IsPartwiseMerge logs entries → RisesFrom 0 log
    → ((t : ℕ) → of_thread t log ≡ of_alloc a (entries_of logs t)) → of_alloc a entries ≡ log
alloc_part logs entries log a merge r same =
    same_by_threads (of_alloc a entries) log 0 0 (alloc_rises a 0 entries merge.rises) r
    (λ t. restrictions_swap t a entries ∙ ap (of_alloc a) (merge.parts t) ∙ sym (same t))
