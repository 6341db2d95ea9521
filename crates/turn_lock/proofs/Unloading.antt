-- Values that are taken out of their slots in order.
use Rattle.std.proofs.Common.{◌≡◌, ℕ, zero, suc, ◌+◌, ◌<◌, ◌≤◌, Bool, true, false, List, [], ◌∷◌, ◌++◌, length, set, map, take, get_or, slice_get, Option, Some, None, sym, ap, ◌∙◌, subst, arith, get_or-set_same, get_or-set_other}
use mathlib.Core.Option.{some, some-injective, some-ne-none}
use mathlib.Core.Logic.{dite}
use native.Mathlib.Decide.{ℕ_discrete}
use lib.ListN.{get_elem?}
use Rattle.std.proofs.lemmas.List.{take_more, map-append}
use Rattle.history.specs.declared.entry.Entry.{Entry}
use Rattle.turn_lock.specs.declared.view.View.{View}
use Rattle.turn_lock.specs.Closing.{IsWhole, AllSome}
use Rattle.turn_lock.proofs.Closed.{Settled}

pub at_get : {A : Type 0} (l : List A) (i : ℕ) (a d : A) → get_elem? l i ≡ some a → get_or l i d ≡ a
at_get [] i a d e = absurd (some-ne-none a (sym e))
at_get (x ∷ xs) zero a d e = some-injective x a e
at_get (x ∷ xs) (suc i) a d e = at_get xs i a d e

pub unload_more : {X : Type 0} (vs : List X) (xs : List (Option X)) (i : ℕ) (v : X) → map Some vs ≡ take i xs → get_elem? xs i ≡ some (Some v) → i < length xs → map Some (vs ++ v ∷ []) ≡ take (i + 1) xs
unload_more vs xs i v so_far e lt = map-append Some vs (v ∷ []) ∙ (ap (λ l. l ++ Some v ∷ []) so_far ∙ (ap (λ x. take i xs ++ x ∷ []) (sym (at_get xs i (Some v) (Some v) e)) ∙ sym (take_more xs i (Some v) lt)))

pub never_none : {X : Type 0} (xs : List (Option X)) (i : ℕ) → AllSome xs → i < length xs → get_elem? xs i ≡ some None → ⊥
never_none xs i all lt e = let a = all i lt in clash (some-injective (Some a.0) None (sym a.1 ∙ e))
  where
    clash : {X : Type 0} {x : X} → Some x ≡ None → ⊥
    clash e = cc

pub emptied_more : (fs : List Bool) (i : ℕ) → i < length fs → ((k : ℕ) → k < i → get_or fs k false ≡ false) → (k : ℕ) → k < i + 1 → get_or (set fs i false) k false ≡ false
emptied_more fs i lt was k le = dite (ℕ_discrete k i) (λ e. ap (λ j. get_or (set fs i false) j false) e ∙ get_or-set_same fs i false false lt) (λ ne. get_or-set_other fs i k false false ne ∙ was k (omega arith))

pub full_more : (fs : List Bool) (i n : ℕ) → ((k : ℕ) → i ≤ k → k < n → get_or fs k false ≡ true) → (k : ℕ) → i + 1 ≤ k → k < n → get_or (set fs i false) k false ≡ true
full_more fs i n was k le lt = get_or-set_other fs i k false false (λ e. omega arith) ∙ was k (omega arith) lt

module _ {X : Type 0} (number : X → ℕ) (entries : X → List Entry) where
  pub settled_some : (v : View) (words : List ℕ) (slots : List (Option X)) → Settled number entries v words slots → AllSome slots
  settled_some v words slots s k lt = let a = s.values k lt in (a.0, a.1)

  mapped : (k : ℕ) (vs : List X) (x : X) → slice_get vs k ≡ Some x → get_elem? (map Some vs) k ≡ some (Some x)
  mapped k [] x e = absurd (clash e)
    where
      clash : {x : X} → None ≡ Some x → ⊥
      clash e = cc
  mapped zero (v ∷ vs) x e = ap some e
  mapped (suc k) (v ∷ vs) x e = mapped k vs x e

  -- each value that was unloaded is whole
  pub settled_whole : (v : View) (words : List ℕ) (slots : List (Option X)) → Settled number entries v words slots → (vs : List X) → map Some vs ≡ slots
      → (k : ℕ) (x : X) → slice_get vs k ≡ Some x → IsWhole number entries v (suc k) x
  settled_whole v words slots s vs same k x e =
      let here : get_elem? slots k ≡ some (Some x) = subst (λ l. get_elem? l k ≡ some (Some x)) same (mapped k vs x e) in
      let a = s.values k (inside slots k (Some x) here) in
      subst (λ y. IsWhole number entries v (suc k) y) (some_is (some-injective (Some a.0) (Some x) (sym a.1 ∙ here))) a.2
    where
      some_is : {x y : X} → Some x ≡ Some y → x ≡ y
      some_is e = cc

      inside : (xs : List (Option X)) (k : ℕ) (y : Option X) → get_elem? xs k ≡ some y → k < length xs
      inside [] k y e = absurd (some-ne-none y (sym e))
      inside (z ∷ zs) zero y e = omega arith
      inside (z ∷ zs) (suc k) y e = let a = inside zs k y e in omega arith
