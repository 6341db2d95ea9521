-- Members of lists that are put together, and sums over them.
use Rattle.std.proofs.Common.{◌≡◌, ℕ, zero, suc, ◌+◌, ◌<◌, ◌≤◌, List, [], ◌∷◌, ◌++◌, refl, sym, ◌∙◌, ap, subst, inl, inr, arith, sum_by, length, length-append, map}
use Rattle.std.specs.Prelude.{◌⊎◌}
use Rattle.std.specs.List.{flat_map}
use Rattle.std.proofs.lemmas.Grind.{flat_map-append}
use Rattle.std.proofs.lemmas.List.{map-append}
use Rattle.std.proofs.lemmas.List.Sums.{sum_by-append}
use Rattle.bsan_ids.specs.declared.numbers.Limits.{Limits}
use Rattle.history.specs.declared.ask.Ask.{Ask}
use Rattle.history.specs.declared.entry.Entry.{Entry}
use Rattle.history.specs.declared.log.ThreadLog.{ThreadLog}
use Rattle.runs.specs.Machine.{Machine}
use Rattle.runs.specs.Merge.{all_entries}
use Rattle.runs.specs.Parts.{Has}
use Rattle.runs.specs.Right.{AtLeast, StandsAsking, alloc_limit_of, thread_limit_of, asks_make, asks_spawn}
use Rattle.runs.specs.Stamps.{RisesFrom}
use Rattle.runs.specs.Tree.{numbers_of, Firsts, Agrees, first_numbers, AreRuns}
use Rattle.runs.proofs.Counting.{at_least_later}
use Rattle.runs.proofs.LogLists.{at_least_fewer}
use Rattle.interp.specs.Goes.{Kid, kid_numbers}

module _ {X : Type 0} where
  pub has_left : (xs ys : List X) (x : X) → Has xs x → Has (xs ++ ys) x
  has_left [] ys x h = absurd h
  has_left (e ∷ es) ys x (inl is) = inl is
  has_left (e ∷ es) ys x (inr h) = inr (has_left es ys x h)

  pub has_right : (xs ys : List X) (x : X) → Has ys x → Has (xs ++ ys) x
  has_right [] ys x h = h
  has_right (e ∷ es) ys x h = inr (has_right es ys x h)

  pub has_either : (xs ys : List X) (x : X) → Has (xs ++ ys) x → Has xs x ⊎ Has ys x
  has_either [] ys x h = inr h
  has_either (y ∷ xs) ys x (inl is) = inl (inl is)
  has_either (y ∷ xs) ys x (inr h) = elim (has_either xs ys x h) [
    | inl l ↦ inl (inr l)
    | inr r ↦ inr r
  ]

  pub has_push : (xs : List X) (e x : X) → Has (xs ++ e ∷ []) x → Has xs x ⊎ (e ≡ x)
  has_push [] e x (inl is) = inr is
  has_push [] e x (inr h) = absurd h
  has_push (y ∷ ys) e x (inl is) = inl (inl is)
  has_push (y ∷ ys) e x (inr h) = elim (has_push ys e x h) [
    | inl l ↦ inl (inr l)
    | inr r ↦ inr r
  ]

  pub sum_flat_append : (h : ℕ → ℕ) (f : X → List ℕ) (xs ys : List X) → sum_by h (flat_map f (xs ++ ys)) ≡ sum_by h (flat_map f xs) + sum_by h (flat_map f ys)
  sum_flat_append h f xs ys = ap (sum_by h) (flat_map-append f xs ys) ∙ sum_by-append h (flat_map f xs) (flat_map f ys)

  pub length_flat_append : (f : X → List ℕ) (xs ys : List X) → length (flat_map f (xs ++ ys)) ≡ length (flat_map f xs) + length (flat_map f ys)
  length_flat_append f xs ys = ap (λ (l : List ℕ). length l) (flat_map-append f xs ys) ∙ length-append (flat_map f xs) (flat_map f ys)

pub entries_append : (h : Entry → ℕ) (xs ys : List ThreadLog) → sum_by h (all_entries (xs ++ ys)) ≡ sum_by h (all_entries xs) + sum_by h (all_entries ys)
entries_append h xs ys = ap (sum_by h) (flat_map-append (λ (l : ThreadLog). l.entries) xs ys) ∙ sum_by-append h (all_entries xs) (all_entries ys)

pub numbers_append : (h : ℕ → ℕ) (xs ys : List ThreadLog) → sum_by h (numbers_of (xs ++ ys)) ≡ sum_by h (numbers_of xs) + sum_by h (numbers_of ys)
numbers_append h xs ys = ap (sum_by h) (map-append (λ (l : ThreadLog). l.number.0) xs ys) ∙ sum_by-append h (numbers_of xs) (numbers_of ys)

module _ {S : Type 0} where
  abbrev pub numbers_of_firsts : (xs ys : Firsts S) → first_numbers (xs ++ ys) ≡ first_numbers xs ++ first_numbers ys
  numbers_of_firsts [] ys = refl
  numbers_of_firsts (p ∷ ps) ys = ap (λ l. p.0 ∷ l) (numbers_of_firsts ps ys)

  pub firsts_append : (h : ℕ → ℕ) (xs ys : Firsts S) → sum_by h (first_numbers (xs ++ ys)) ≡ sum_by h (first_numbers xs) + sum_by h (first_numbers ys)
  firsts_append h xs ys = ap (sum_by h) (numbers_of_firsts xs ys) ∙ sum_by-append h (first_numbers xs) (first_numbers ys)

  pub agrees_append : (starts : ℕ → S) (xs ys : Firsts S) → Agrees starts (xs ++ ys) → Agrees starts xs × Agrees starts ys
  agrees_append starts [] ys h = (tt, h)
  agrees_append starts (p ∷ ps) ys h = let r = agrees_append starts ps ys h.1 in ((h.0, r.0), r.1)

-- so many of two lists of logs
module _ (P : ThreadLog → Type 0) where
  at_least_after : (n : ℕ) (xs ys : List ThreadLog) → AtLeast P n ys → AtLeast P n (xs ++ ys)
  at_least_after n [] ys h = h
  at_least_after n (x ∷ xs) ys h = at_least_later P n x (xs ++ ys) (at_least_after n xs ys h)

  pub at_least_append : (k m n : ℕ) (xs ys : List ThreadLog) → k ≤ m + n → AtLeast P m xs → AtLeast P n ys → AtLeast P k (xs ++ ys)
  at_least_append zero m n xs ys le h g = tt
  at_least_append (suc k) zero n xs ys le h g = at_least_after (suc k) xs ys (at_least_fewer P (suc k) n ys (omega (arith, le)) g)
  at_least_append (suc k) (suc m) n [] ys le h g = absurd h
  at_least_append (suc k) (suc m) n (x ∷ xs) ys le (inl h) g = inl (h.0, at_least_append k m n xs ys (omega (arith, le)) h.1 g)
  at_least_append (suc k) (suc m) n (x ∷ xs) ys le (inr h) g = inr (at_least_append (suc k) (suc m) n xs ys le h g)

-- runs of two lists of logs
module _ (M : Machine) (limits : Limits) (starts : ℕ → M.State) where
  pub asking_append : (asks : Ask → Rattle.std.proofs.Common.Bool) (f : ThreadLog → List ℕ) (xs ys : List ThreadLog) (is js : List ℕ)
      → AtLeast (StandsAsking M asks limits starts) (length (flat_map f xs) + length is) xs → AtLeast (StandsAsking M asks limits starts) (length (flat_map f ys) + length js) ys
      → AtLeast (StandsAsking M asks limits starts) (length (flat_map f (xs ++ ys)) + length (is ++ js)) (xs ++ ys)
  asking_append asks f xs ys is js h g =
      at_least_append (StandsAsking M asks limits starts) (length (flat_map f (xs ++ ys)) + length (is ++ js)) (length (flat_map f xs) + length is) (length (flat_map f ys) + length js) xs ys
      (omega (arith, length_flat_append f xs ys, length-append is js)) h g

  pub runs_append : (xs ys : List ThreadLog) (is js ks ls : List ℕ) → AreRuns M limits starts xs is js → AreRuns M limits starts ys ks ls → AreRuns M limits starts (xs ++ ys) (is ++ ks) (js ++ ls)
  runs_append xs ys is js ks ls a b = record {
    each = λ l h. elim (has_either xs ys l h) [ inl p ↦ a.each l p | inr q ↦ b.each l q ];
    made = asking_append asks_make (λ (l : ThreadLog). alloc_limit_of l.«end») xs ys is ks a.made b.made;
    spawned = asking_append asks_spawn (λ (l : ThreadLog). thread_limit_of l.«end») xs ys js ls a.spawned b.spawned;
  }

pub kids_append : {S : Type 0} (h : ℕ → ℕ) (xs ys : List (Kid S)) → kid_numbers h (xs ++ ys) ≡ kid_numbers h xs + kid_numbers h ys
kids_append {S} h xs ys = sum_by-append (λ (k : Kid S). h k.number.0) xs ys

pub rises_push : (n : ℕ) (es : List Entry) (e : Entry) → RisesFrom n es → n < e.stamp.0 → ((x : Entry) → Has es x → x.stamp.0 < e.stamp.0) → RisesFrom n (es ++ e ∷ [])
rises_push n [] e r lt all = (lt, tt)
rises_push n (x ∷ xs) e r lt all = (r.0, rises_push x.stamp.0 xs e r.1 (all x (inl refl)) (λ y h. all y (inr h)))
