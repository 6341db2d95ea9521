-- A turn that is taken keeps the rule.
use Rattle.std.proofs.Common.{◌≡◌, ℕ, zero, suc, ◌<◌, ◌≤◌, ◌≢◌, ◌⊎◌, true, false, cond, eqb, max, List, [], ◌∷◌, ◌++◌, length, set, sum_by, All, slice_index, Option, Some, None, refl, sym, ap, ◌∙◌, subst, ⊎_elim, arith, le_trans, le_refl, zero-le, length-set, get_or-set_other, get_or-set_same}
use mathlib.Core.Option.{some, none}
use mathlib.Core.Logic.{dite}
use native.Mathlib.Decide.{ℕ_discrete}
use lib.ListN.{get_elem?}
use Rattle.std.proofs.lemmas.List.Sums.{sum_by-le-sum_by}
use Rattle.std.proofs.lemmas.List.Elements.{All-nil}
use Rattle.atomic_table.specs.Table.{State}
use Rattle.atomic_table.proofs.Lists.{set_else}
use Rattle.history.specs.declared.entry.Entry.{Entry}
use Rattle.turn_lock.specs.declared.view.HeldTurn.{HeldTurn}
use Rattle.turn_lock.specs.declared.view.View.{View}
use Rattle.history.specs.Restriction.{number_of}
use Rattle.turn_lock.specs.Weights.{sum_up_to, naming, equals, makes, alloc_weight, call_weight, told_weight, turn_weight, holds_turn}
use Rattle.turn_lock.specs.Places.{place}
use Rattle.turn_lock.specs.Rule.{RuleHolds, IsSpentOrLive, gone, there, IsConsistent, IsHolding, IsSlotHistory, all_calls}
use Rattle.turn_lock.specs.Steps.{took, held_turn}
use Rattle.turn_lock.specs.Plays.{Tells, IsFresh}
use Rattle.turn_lock.proofs.Places.{past_counts, inside_table, place_once}
use Rattle.turn_lock.proofs.Sums.{moves_set, sum_at, sum_two, sum_none, sum_each}
use Rattle.turn_lock.proofs.Numbers.{sum_up_to_once, equals_same, equals_other}
use Rattle.turn_lock.proofs.Entries.{naming_le}
use Rattle.turn_lock.proofs.Keeps.{keeps as keeps_rule, history_later, consistent_later, view_later, each_set, sum_same}
use Rattle.turn_lock.proofs.Draws.{consistent_of}

some_hold : (t u : HeldTurn) → Some t ≡ Some u → t ≡ u
some_hold t u e = cc

elsewhere : (n : ℕ) (h : Entry → ℕ) (x : Entry) → naming n (λ (e : Entry). cond (eqb (number_of e.alloc) n) 0 1) x ≡ 0
elsewhere n h x = split (eqb (number_of x.alloc) n)
  where
    split : (b : Rattle.std.proofs.Common.Bool) → cond {A = ℕ} b (cond b 0 1) 0 ≡ 0
    split true = refl
    split false = refl

module _ {X : Type 0} {number : X → ℕ} {entries : X → List Entry} (s : State (Option X) View) (kept : RuleHolds number entries s) (id : ℕ) (v : View) (there_is : get_elem? s.views id ≡ some v) (live : v.live ≡ true) where
  fits : IsConsistent (length s.homes) (slice_index s.words 0) (slice_index s.words 2) (all_calls s.views) v
  fits = consistent_of v live (kept.each id v there_is)

  -- where a number is fresh in one view, no view has a Make of it
  none_made : (n : ℕ) → IsFresh v n → sum_by (call_weight (makes n)) s.views ≡ 0
  none_made n fresh = sum_none (call_weight (makes n)) s.views (λ j u e. dite (ℕ_discrete j id)
      (λ same. let same_view : v ≡ u = mathlib.Core.Option.some-injective v u (sym there_is ∙ (ap (get_elem? s.views) (sym same) ∙ e)) in subst (λ (z : View). call_weight (makes n) z ≡ 0) same_view fresh.1)
      (λ apart. made_elsewhere u (kept.each j u e) (let a = kept.allocs (equals n) in let b = fresh.0 in omega (arith, sum_up_to_once n (slice_index s.words 1), sum_two (alloc_weight (equals n)) s.views id j v u (λ p. apart (sym p)) there_is e))))
    where
      made_elsewhere : (u : View) → IsSpentOrLive (length s.homes) (slice_index s.words 0) (slice_index s.words 2) (all_calls s.views) u → alloc_weight (equals n) u ≡ 0 → call_weight (makes n) u ≡ 0
      made_elsewhere u (gone e) zero_is = subst (λ (z : View). call_weight (makes n) z ≡ 0) (sym e) refl
      made_elsewhere u (there _ r) zero_is = let a = r.made n in omega arith

  pub tells : (k : ℕ) (es : List Entry) → IsSlotHistory (slice_index s.words 0) (all_calls s.views) k es → Tells (suc k) v es
  tells k es r = record {
    rising = r.rising;
    about = r.exact _ ∙ sum_none _ s.views (λ j u e. sum_none _ u.calls (λ i x d. elsewhere (suc k) (λ _. 1) x));
    calls = λ h. let a = r.exact h in omega (arith, sum_at (call_weight (naming (suc k) h)) s.views id v there_is);
    told = λ h zero_is. let a = r.exact h in let b = kept.told (naming (suc k) h) (omega arith) in omega (arith, sum_at (told_weight (naming (suc k) h)) s.views id v there_is);
    fresh = λ f. let a = r.exact (makes (suc k)) in let b = none_made (suc k) f in
        let c : sum_by (call_weight (naming (suc k) (makes (suc k)))) s.views ≤ sum_by (call_weight (makes (suc k))) s.views =
        sum_each _ _ s.views (λ j u e. sum_by-le-sum_by (naming (suc k) (makes (suc k))) (makes (suc k)) u.calls (naming_le (suc k) (makes (suc k)))) in
        omega arith;
  }

  -- the word is then 1, or 2 where the desk has waited
  pub takes_turn : (k word : ℕ) → 1 ≤ word → word ≤ 2 → k < length s.homes → slice_index s.words (place k) ≡ 0 → v.turn ≡ None → (x : X) → get_elem? s.homes k ≡ some (some (Some x)) → IsSlotHistory (slice_index s.words 0) (all_calls s.views) k (entries x)
      → RuleHolds number entries record { words = set s.words (place k) word; homes = set s.homes k none; views = set s.views id (took v k (entries x)) }
  takes_turn k word positive small inside free idle x home history =
      let words : List ℕ = set s.words (place k) word in
      let w : View = took v k (entries x) in
      let wide = kept.wide in
      let other : (j : ℕ) → j ≢ place k → slice_index words j ≡ slice_index s.words j = λ j apart. get_or-set_other s.words (place k) j word 0 apart in
      let here : slice_index words (place k) ≡ word = get_or-set_same s.words (place k) word 0 (let p = inside_table k (length s.homes) inside in omega arith) in
      let zero_word : slice_index words 0 ≡ slice_index s.words 0 = other 0 (let p = past_counts k in λ e. omega arith) in
      let one_word : slice_index words 1 ≡ slice_index s.words 1 = other 1 (let p = past_counts k in λ e. omega arith) in
      let two_word : slice_index words 2 ≡ slice_index s.words 2 = other 2 (let p = past_counts k in λ e. omega arith) in
      let same : (h : Entry → ℕ) → all_calls s.views h ≡ all_calls (set s.views id w) h = λ h. sym (sum_same (call_weight h) s.views id v w there_is refl) in
      let held : (j : ℕ) → turn_weight j v ≡ 0 = λ j. ap (holds_turn j) idle in
      let Known : View → Type 0 = IsSpentOrLive (length s.homes) (slice_index words 0) (slice_index words 2) (all_calls (set s.views id w)) in
      let r = fits in
      let mine : IsConsistent (length s.homes) (slice_index s.words 0) (slice_index s.words 2) (all_calls s.views) w = record {
        seen = let a = r.seen in let b = history.reached in omega arith;
        name = r.name;
        stamps = r.stamps;
        allocs = r.allocs;
        threads = r.threads;
        names = r.names;
        small_outs = r.small_outs;
        small_joined = r.small_joined;
        higher_outs = r.higher_outs;
        higher_own = r.higher_own;
        higher_joined = r.higher_joined;
        made = r.made;
        turn = λ t e. subst (IsHolding (length s.homes) (slice_index s.words 0) (all_calls s.views)) (some_hold (held_turn k (entries x)) t e) record { inside = inside; history = history; later = All-nil _; reached = All-nil _ };
      } in
      keeps_rule s kept words (set s.homes k none) (set s.views id w) (λ f. f v) (λ f. f w) (moves_set s.views id v w there_is)
      (length-set s.words (place k) word) (length-set s.homes k none)
      (λ h. let a = ap (sum_up_to h) zero_word in omega arith) (λ h. let a = ap (sum_up_to h) one_word in omega arith) (λ h. let a = ap (sum_up_to h) two_word in omega arith)
      (λ h. omega arith)
      (λ h zero_is. let a = same h in let b = sum_same (told_weight h) s.views id v w there_is refl in let c = kept.told h (omega arith) in omega arith)
      (λ j lt. let a = held j in dite (ℕ_discrete j k)
      (λ e. let b : slice_index words (place j) ≡ word = ap (λ i. slice_index words (place i)) e ∙ here in let c : slice_index s.words (place j) ≡ 0 = ap (λ i. slice_index s.words (place i)) e ∙ free in
      let d : turn_weight j w ≡ 1 = ap (λ i. equals i k) e ∙ equals_same k in omega arith)
      (λ apart. let b = other (place j) (λ e. apart (place_once j k e)) in let d : turn_weight j w ≡ 0 = equals_other j k (λ e. apart (sym e)) in omega arith))
      (λ j lt. dite (ℕ_discrete j k) (λ e. let b : slice_index words (place j) ≡ word = ap (λ i. slice_index words (place i)) e ∙ here in omega arith)
      (λ apart. let b = other (place j) (λ e. apart (place_once j k e)) in let c = kept.turn_words j lt in omega arith))
      (λ j lt zero_is. dite (ℕ_discrete j k) (λ e. let b : slice_index words (place j) ≡ word = ap (λ i. slice_index words (place i)) e ∙ here in absurd (omega arith))
      (λ apart. let b = other (place j) (λ e. apart (place_once j k e)) in let q = kept.home j lt (sym b ∙ zero_is) in
      record { value = q.value; there = set_else s.homes k j none apart ∙ q.there; numbered = q.numbered; history = history_later (omega arith) (λ h. same (naming (suc j) h)) q.history }))
      (each_set Known s.views id w
      (there live (consistent_later (omega arith) (omega arith) (λ t _ h. same (naming (suc t.slot) h)) mine))
      (λ j u _ e. view_later (omega arith) (omega arith) (λ t _ h. same (naming (suc t.slot) h)) (kept.each j u e)))
