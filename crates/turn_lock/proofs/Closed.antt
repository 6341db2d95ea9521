-- Where nothing is out on the first desk, there is no other one.
use Rattle.std.proofs.Common.{◌≡◌, ℕ, zero, suc, ◌<◌, ◌≤◌, ◌≢◌, true, cond, List, [], ◌∷◌, length, set, sum_by, All, slice_index, Option, Some, None, refl, sym, ap, ◌∙◌, subst, ⊎_elim, arith, le_refl}
use mathlib.Core.Option.{some, some-injective}
use mathlib.Core.Logic.{dite}
use native.Mathlib.Decide.{ℕ_discrete, dec_le}
use lib.ListN.{get_elem?}
use Rattle.std.proofs.lemmas.List.Sums.{sum_by-cons}
use Rattle.std.proofs.lemmas.List.Elements.{All-head, All-tail}
use Rattle.atomic_table.specs.Table.{State, Final, Seen}
use Rattle.atomic_table.proofs.Lists.{at_set}
use Rattle.history.specs.declared.entry.Entry.{Entry}
use Rattle.turn_lock.specs.declared.view.View.{View}
use Rattle.turn_lock.specs.Weights.{naming, equals, stamp_weight, alloc_weight, thread_weight, name_weight, out_weight, call_weight, turn_weight, holds_turn}
use Rattle.turn_lock.specs.Rule.{RuleHolds, IsSpentOrLive, gone, there, all_calls, spent}
use Rattle.turn_lock.specs.Closing.{AreCounts, IsWhole}
use Rattle.turn_lock.proofs.Sums.{sum_set, sum_at, sum_two, sum_none}
use Rattle.turn_lock.proofs.Numbers.{equals_same, equals_other}

-- what the words and the slots are then: the counts of the desk's numbers, and whole values
pub record Settled {X : Type 0} (number : X → ℕ) (entries : X → List Entry) (v : View) (words : List ℕ) (slots : List (Option X)) : Type 0 where
  pub counts : AreCounts v (slice_index words 0) (slice_index words 1) (slice_index words 2)
  pub values : (k : ℕ) → k < length slots → (x : X) × (get_elem? slots k ≡ some (Some x)) × IsWhole number entries v (suc k) x

-- a number that no element reaches isn't in the list
beyond_all : (n low : ℕ) (xs : List ℕ) → All (λ m. low < m) xs → n ≤ low → sum_by (equals n) xs ≡ 0
beyond_all n low [] h le = refl
beyond_all n low (x ∷ xs) h le =
    let first : low < x = All-head (λ m. low < m) x xs h in
    let rest = beyond_all n low xs (All-tail (λ m. low < m) x xs h) le in
    let other = equals_other n x (λ e. omega arith) in omega (arith, sum_by-cons (equals n) x xs)

module _ {X : Type 0} {number : X → ℕ} {entries : X → List Entry} (s : State (Option X) View) (kept : RuleHolds number entries s) (id : ℕ) (v : View) (there_is : get_elem? s.views id ≡ some v)
    (live : v.live ≡ true) (first : v.name ≡ 0) (idle : v.turn ≡ None) (alone : v.outs ≡ []) where
  abbrev Known : View → Type 0
  Known = IsSpentOrLive (length s.homes) (slice_index s.words 0) (slice_index s.words 2) (all_calls s.views)

  named : (u : View) → u.live ≡ true → (n : ℕ) → name_weight (equals n) u ≡ equals n u.name
  named u is_live n = ap (λ b. cond b (equals n u.name) 0) is_live

  same_view : (u : View) (j : ℕ) → j ≡ id → get_elem? s.views j ≡ some u → v ≡ u
  same_view u j same e = some-injective v u (sym there_is ∙ (ap (get_elem? s.views) (sym same) ∙ e))

  -- 0 is the name of no other desk
  out_zero : (u : View) → Known u → out_weight (equals 0) u ≡ 0
  out_zero u (gone e) = ap (out_weight (equals 0)) e
  out_zero u (there _ r) = beyond_all 0 u.name u.outs r.higher_outs (omega arith)

  one_first : (j : ℕ) (u : View) → get_elem? s.views j ≡ some u → u.live ≡ true → u.name ≡ 0 → v ≡ u
  one_first j u e is_live is_first = dite (ℕ_discrete j id) (λ same. same_view u j same e)
      (λ apart.
      let a = kept.names (equals 0) in
      let b : sum_by (out_weight (equals 0)) s.views ≡ 0 = sum_none _ s.views (λ i w d. out_zero w (kept.each i w d)) in
      let c : name_weight (equals 0) v ≡ 1 = named v live 0 ∙ (ap (equals 0) first ∙ equals_same 0) in
      let d : name_weight (equals 0) u ≡ 1 = named u is_live 0 ∙ (ap (equals 0) is_first ∙ equals_same 0) in
      let z : equals 0 0 ≡ 1 = equals_same 0 in
      absurd (omega (arith, sum_two (name_weight (equals 0)) s.views id j v u (λ p. apart (sym p)) there_is e)))

  not_out : (n m : ℕ) → m ≤ suc n → ((i : ℕ) → 0 < i → i ≤ n → sum_by (name_weight (equals i)) s.views ≡ 0) → (j : ℕ) (u : View) → get_elem? s.views j ≡ some u → Known u → out_weight (equals m) u ≡ 0
  not_out n m le below j u e (gone g) = ap (out_weight (equals m)) g
  not_out n m le below j u e (there is_live r) = dite (ℕ_discrete u.name 0)
      (λ is_first. subst (λ (w : View). out_weight (equals m) w ≡ 0) (one_first j u e is_live is_first) (ap (sum_by (equals m)) alone))
      (λ named_other. dite (dec_le m u.name) (λ over. beyond_all m u.name u.outs r.higher_outs over)
      (λ more.
      let none_is = below u.name (omega arith) (omega arith) in
      let c : name_weight (equals u.name) u ≡ 1 = named u is_live u.name ∙ equals_same u.name in
      absurd (omega (arith, sum_at (name_weight (equals u.name)) s.views j u e))))

  -- no desk has a name from 1 to n
  none_named : (n m : ℕ) → 0 < m → m ≤ n → sum_by (name_weight (equals m)) s.views ≡ 0
  none_named zero m pos le = absurd (omega arith)
  none_named (suc n) m pos le =
      let a = kept.names (equals m) in
      let z : equals m 0 ≡ 0 = equals_other m 0 (λ e. omega arith) in
      let b : sum_by (out_weight (equals m)) s.views ≡ 0 = sum_none _ s.views (λ j u e. not_out n m le (λ i p l. none_named n i p l) j u e (kept.each j u e)) in
      omega arith

  pub others_spent : (j : ℕ) (u : View) → j ≢ id → get_elem? s.views j ≡ some u → u ≡ spent
  others_spent j u apart e = by_kind (kept.each j u e)
    where
      by_kind : Known u → u ≡ spent
      by_kind (gone g) = g
      by_kind (there is_live r) = dite (ℕ_discrete u.name 0)
          (λ is_first.
          let a = kept.names (equals 0) in
          let b : sum_by (out_weight (equals 0)) s.views ≡ 0 = sum_none _ s.views (λ i w d. out_zero w (kept.each i w d)) in
          let c : name_weight (equals 0) v ≡ 1 = named v live 0 ∙ (ap (equals 0) first ∙ equals_same 0) in
          let d : name_weight (equals 0) u ≡ 1 = named u is_live 0 ∙ (ap (equals 0) is_first ∙ equals_same 0) in
          let z : equals 0 0 ≡ 1 = equals_same 0 in
          absurd (omega (arith, sum_two (name_weight (equals 0)) s.views id j v u (λ p. apart (sym p)) there_is e)))
          (λ named_other.
          let below = none_named u.name u.name (omega arith) (le_refl _) in
          let c : name_weight (equals u.name) u ≡ 1 = named u is_live u.name ∙ equals_same u.name in
          absurd (omega (arith, sum_at (name_weight (equals u.name)) s.views j u e)))

  -- what is summed over all views is this view's
  pub alone_sum : (f : View → ℕ) → f spent ≡ 0 → sum_by f s.views ≡ f v
  alone_sum f none_is =
      let a = sum_set f s.views id v spent there_is in
      let b : sum_by f (set s.views id spent) ≡ 0 = sum_none f (set s.views id spent)
      (λ j u e. ⊎_elim (λ (t : (j ≡ id) × (spent ≡ u)). subst (λ (w : View). f w ≡ 0) t.1 none_is)
      (λ (t : (j ≢ id) × (get_elem? s.views j ≡ some u)). subst (λ (w : View). f w ≡ 0) (sym (others_spent j u t.0 t.1)) none_is) (at_set s.views id j spent u e)) in
      omega arith

  pub settles : (slots : List (Option X)) → length s.homes ≡ length slots → ((k : ℕ) (y : Option X) → get_elem? s.homes k ≡ some (some y) → get_elem? slots k ≡ some y) → Settled number entries v s.words slots
  settles slots long was = record {
    counts = record {
      stamps_are = λ h. sym (alone_sum (stamp_weight h) refl) ∙ kept.stamps h;
      allocs_are = λ h. sym (alone_sum (alloc_weight h) refl) ∙ kept.allocs h;
      threads_are = λ h. sym (alone_sum (thread_weight h) refl) ∙ kept.threads h;
    };
    values = λ k lt.
        let inside : k < length s.homes = omega arith in
        let a = kept.turns k inside in
        let b = alone_sum (turn_weight k) refl in
        let c : turn_weight k v ≡ 0 = ap (holds_turn k) idle in
        let home = kept.home k inside (omega arith) in
        (home.value, was k (Some home.value) home.there, record { numbered = home.numbered; rising = home.history.rising; exact = λ h. home.history.exact h ∙ alone_sum (call_weight (naming (suc k) h)) refl });
  }

pub settled : {X : Type 0} (number : X → ℕ) (entries : X → List Entry) (id : ℕ) (v : View) (words : List ℕ) (slots : List (Option X)) → Final (Seen (RuleHolds number entries) id v) words slots
    → v.live ≡ true → v.name ≡ 0 → v.turn ≡ None → v.outs ≡ [] → Settled number entries v words slots
settled number entries id v words slots end live first idle alone =
    subst (λ ws. Settled number entries v ws slots) end.2 (settles end.0 end.1.0 id v end.1.1 live first idle alone slots end.3 end.4)
