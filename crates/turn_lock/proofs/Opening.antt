-- The rule at the start.
use Rattle.std.proofs.Common.{◌≡◌, ℕ, zero, suc, ◌<◌, ◌≤◌, List, [], ◌∷◌, length, map, replicate, get_or, slice_get, slice_index, sum_by, Option, Some, None, refl, sym, ap, ◌∙◌, subst, arith, zero-le}
use mathlib.Core.Option.{some, some-injective, some-ne-none}
use lib.ListN.{get_elem?}
use Rattle.std.proofs.lemmas.List.{length-replicate}
use Rattle.std.proofs.lemmas.List.Elements.{All-nil}
use Rattle.atomic_table.specs.Table.{opening}
use Rattle.history.specs.declared.entry.Entry.{Entry}
use Rattle.turn_lock.specs.declared.view.HeldTurn.{HeldTurn}
use Rattle.turn_lock.specs.declared.view.View.{View}
use Rattle.turn_lock.specs.Places.{place, width}
use Rattle.turn_lock.specs.Weights.{sum_up_to, holders, latest}
use Rattle.turn_lock.specs.Rule.{RuleHolds, IsSpentOrLive, there, Rising, all_calls, newcomer}
use Rattle.turn_lock.specs.Closing.{AreBlank}

no_turn : (t : HeldTurn) → None ≡ Some t → ⊥
no_turn t e = cc

zeros : (n k : ℕ) → get_or {A = ℕ} (replicate n 0) k 0 ≡ 0
zeros zero k = refl
zeros (suc n) zero = refl
zeros (suc n) (suc k) = zeros n k

mapped : {A B : Type 0} (f : A → B) (xs : List A) → length (map f xs) ≡ length xs
mapped f [] = refl
mapped f (x ∷ xs) = ap suc (mapped f xs)

module _ {X : Type 0} (number : X → ℕ) (entries : X → List Entry) where
  at_home : (k : ℕ) (vs : List X) → k < length vs → (x : X) × (slice_get vs k ≡ Some x) × (get_elem? (map some (map Some vs)) k ≡ some (some (Some x)))
  at_home k [] lt = absurd (omega arith)
  at_home zero (v ∷ vs) lt = (v, refl, refl)
  at_home (suc k) (v ∷ vs) lt = at_home k vs (omega arith)

  pub opens : (vs : List X) (words : List ℕ) (slots : List (Option X)) → words ≡ replicate (width (length vs)) 0 → slots ≡ map Some vs → AreBlank number entries vs
      → RuleHolds number entries (opening words slots (newcomer 0 0 []))
  opens vs words slots words_are slots_are blank =
      let free : (k : ℕ) → slice_index words k ≡ 0 = λ k. ap (λ l. get_or l k 0) words_are ∙ zeros (width (length vs)) k in
      let many : length (map some slots) ≡ length vs = mapped some slots ∙ (ap length slots_are ∙ mapped Some vs) in
      let wide : length words ≡ width (length vs) = ap length words_are ∙ length-replicate (width (length vs)) 0 in
      let start : (h : ℕ → ℕ) (k : ℕ) → 0 ≡ sum_up_to h (slice_index words k) = λ h k. sym (ap (sum_up_to h) (free k)) in
      let first : IsSpentOrLive (length (map some slots)) (slice_index words 0) (slice_index words 2) (all_calls (newcomer 0 0 [] ∷ [])) (newcomer 0 0 []) = there refl record {
        seen = zero-le;
        name = zero-le;
        stamps = record { own = omega arith; joined = omega arith };
        allocs = record { own = omega arith; joined = omega arith };
        threads = record { own = omega arith; joined = omega arith };
        names = λ h. omega arith;
        small_outs = All-nil _;
        small_joined = All-nil _;
        higher_outs = All-nil _;
        higher_own = All-nil _;
        higher_joined = All-nil _;
        made = λ n. omega arith;
        turn = λ t e. absurd (no_turn t e);
      } in record {
        wide = omega arith;
        stamps = λ h. start h 0;
        allocs = λ h. start h 1;
        threads = λ h. start h 2;
        names = λ h. omega arith;
        told = λ h zero_is. refl;
        turns = λ k lt. sym (ap holders (free (place k)));
        turn_words = λ k lt. let a = free (place k) in omega arith;
        home = λ k lt zero_is.
            let a = at_home k vs (omega arith) in
            let b = blank k a.0 a.1 in record {
              value = a.0;
              there = ap (λ l. get_elem? (map some l) k) slots_are ∙ a.2;
              numbered = b.0;
              history = record {
                rising = subst Rising (sym b.1) (λ i j d lt gt. absurd (omega arith));
                reached = subst (λ es. latest es ≤ slice_index words 0) (sym b.1) zero-le;
                exact = λ h. ap (sum_by h) b.1;
              };
            };
        each = only (IsSpentOrLive (length (map some slots)) (slice_index words 0) (slice_index words 2) (all_calls (newcomer 0 0 [] ∷ []))) (newcomer 0 0 []) first;
      }
    where
      only : (P : View → Type 0) (v : View) → P v → (j : ℕ) (u : View) → get_elem? (v ∷ []) j ≡ some u → P u
      only P v p zero u e = subst P (some-injective v u e) p
      only P v p (suc j) u e = absurd (some-ne-none u (sym e))
