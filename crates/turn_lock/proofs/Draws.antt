-- The three draws keep the rule.
use Rattle.std.proofs.Common.{◌≡◌, ℕ, suc, ◌+◌, ◌<◌, ◌≤◌, ◌≢◌, true, true≢false, List, [], ◌∷◌, ◌++◌, length, set, sum_by, slice_index, Option, Some, None, refl, sym, ap, ◌∙◌, subst, ⊎_elim, arith, le_refl, length-set, get_or-set_other, get_or-set_same}
use mathlib.Core.Option.{some}
use lib.ListN.{get_elem?}
use lib.Seq.{set-get_or}
use Rattle.std.proofs.lemmas.List.Sums.{sum_by_push}
use Rattle.std.proofs.lemmas.List.Elements.{All-push}
use Rattle.atomic_table.specs.Table.{State}
use Rattle.history.specs.declared.entry.Entry.{Entry}
use Rattle.turn_lock.specs.declared.view.HeldTurn.{HeldTurn}
use Rattle.turn_lock.specs.declared.view.View.{View}
use Rattle.turn_lock.specs.Places.{place}
use Rattle.turn_lock.specs.Weights.{sum_up_to, above, naming, equals, latest, stamp_weight, alloc_weight, thread_weight, name_weight, out_weight, call_weight, told_weight, turn_weight, holds_turn}
use Rattle.turn_lock.specs.Rule.{RuleHolds, IsSpentOrLive, gone, there, IsConsistent, IsHolding, all_calls}
use Rattle.turn_lock.specs.Steps.{since_turn, drew_stamp, drew_alloc, drew_thread, chose}
use Rattle.turn_lock.proofs.Places.{past_counts}
use Rattle.turn_lock.proofs.Sums.{moves_set}
use Rattle.turn_lock.proofs.Numbers.{above_cases}
use Rattle.turn_lock.proofs.Keeps.{keeps as keeps_rule, history_later, consistent_later, view_later, each_set, sum_same}

module _ {slots clock last : ℕ} {calls : (Entry → ℕ) → ℕ} where
  pub consistent_of : (v : View) → v.live ≡ true → IsSpentOrLive slots clock last calls v → IsConsistent slots clock last calls v
  consistent_of v live (gone e) = absurd (true≢false (sym live ∙ ap (λ (u : View). u.live) e))
  consistent_of v live (there _ fits) = fits

pub above_one : (limit n : ℕ) → above limit n ≤ 1
above_one limit n = ⊎_elim (λ t. let a = t.1 in omega arith) (λ t. let a = t.1 in omega arith) (above_cases limit n)

since_same : (k n : ℕ) (o : Option HeldTurn) → holds_turn k (since_turn n o) ≡ holds_turn k o
since_same k n None = refl
since_same k n (Some t) = refl

some_hold : (t u : HeldTurn) → Some t ≡ Some u → t ≡ u
some_hold t u e = cc

none_hold : (t : HeldTurn) → None ≡ Some t → ⊥
none_hold t e = cc

since_holding : {slots clock : ℕ} {calls : (Entry → ℕ) → ℕ} (o : Option HeldTurn) → ((t : HeldTurn) → o ≡ Some t → IsHolding slots clock calls t)
    → (t : HeldTurn) → since_turn (suc clock) o ≡ Some t → IsHolding slots (suc clock) calls t
since_holding None was t e = absurd (none_hold t e)
since_holding {slots} {clock} {calls} (Some u) was t e =
    let r = was u refl in
    let now : IsHolding slots (suc clock) calls (record { slot = u.slot; taken = u.taken; since = u.since ++ suc clock ∷ [] }) = record {
      inside = r.inside;
      history = history_later (omega arith) (λ h. refl) r.history;
      later = All-push (λ n. latest u.taken < n) u.since (suc clock) r.later (let a = r.history.reached in omega arith);
      reached = All-push (λ n. n ≤ suc clock) u.since (suc clock) (λ k d lt. let a = r.reached k d lt in omega arith) (le_refl _);
    } in
    subst (IsHolding slots (suc clock) calls) (some_hold _ t e) now

module _ {X : Type 0} {number : X → ℕ} {entries : X → List Entry} where
  -- a step on one of the three words that count, which changes no call, name or turn
  counts : (s : State (Option X) View) (kept : RuleHolds number entries s) (i n id : ℕ) (v w : View) → i < 3 → get_elem? s.views id ≡ some v → w.live ≡ true
      → slice_index s.words 0 ≤ slice_index (set s.words i n) 0 → slice_index s.words 2 ≤ slice_index (set s.words i n) 2
      → ((h : ℕ → ℕ) → sum_up_to h (slice_index (set s.words i n) 0) + stamp_weight h v ≡ sum_up_to h (slice_index s.words 0) + stamp_weight h w)
      → ((h : ℕ → ℕ) → sum_up_to h (slice_index (set s.words i n) 1) + alloc_weight h v ≡ sum_up_to h (slice_index s.words 1) + alloc_weight h w)
      → ((h : ℕ → ℕ) → sum_up_to h (slice_index (set s.words i n) 2) + thread_weight h v ≡ sum_up_to h (slice_index s.words 2) + thread_weight h w)
      → ((h : ℕ → ℕ) → name_weight h w ≡ name_weight h v) → ((h : ℕ → ℕ) → out_weight h w ≡ out_weight h v)
      → ((h : Entry → ℕ) → call_weight h w ≡ call_weight h v) → ((h : Entry → ℕ) → told_weight h w ≡ told_weight h v)
      → ((k : ℕ) → turn_weight k w ≡ turn_weight k v)
      → IsConsistent (length s.homes) (slice_index (set s.words i n) 0) (slice_index (set s.words i n) 2) (all_calls s.views) w
      → RuleHolds number entries record { words = set s.words i n; homes = s.homes; views = set s.views id w }
  counts s kept i n id v w low there_is live more longer stamps allocs threads names outs calls told turns fits =
      let words : List ℕ = set s.words i n in
      let beyond : (k : ℕ) → slice_index words (place k) ≡ slice_index s.words (place k) = λ k. get_or-set_other s.words i (place k) n 0 (let p = past_counts k in λ e. omega arith) in
      let same : (h : Entry → ℕ) → all_calls s.views h ≡ all_calls (set s.views id w) h = λ h. sym (sum_same (call_weight h) s.views id v w there_is (calls h)) in
      keeps_rule s kept words s.homes (set s.views id w) (λ f. f v) (λ f. f w) (moves_set s.views id v w there_is)
      (length-set s.words i n) refl stamps allocs threads
      (λ h. let a = names h in let b = outs h in omega arith)
      (λ h none. let a = same h in let b = sum_same (told_weight h) s.views id v w there_is (told h) in let c = kept.told h (omega arith) in omega arith)
      (λ k lt. let a = beyond k in let b = turns k in omega arith)
      (λ k lt. let a = beyond k in let b = kept.turn_words k lt in omega arith)
      (λ k lt zero_is. let r = kept.home k lt (sym (beyond k) ∙ zero_is) in record { value = r.value; there = r.there; numbered = r.numbered; history = history_later more (λ h. same (naming (suc k) h)) r.history })
      (each_set (IsSpentOrLive (length s.homes) (slice_index words 0) (slice_index words 2) (all_calls (set s.views id w))) s.views id w
      (there live (consistent_later (le_refl _) (le_refl _) (λ t _ h. same (naming (suc t.slot) h)) fits))
      (λ j u _ e. view_later more longer (λ t _ h. same (naming (suc t.slot) h)) (kept.each j u e)))

  module _ (s : State (Option X) View) (kept : RuleHolds number entries s) (id : ℕ) (v : View) (there_is : get_elem? s.views id ≡ some v) (live : v.live ≡ true) where
    clock : ℕ
    clock = slice_index s.words 0

    fits : IsConsistent (length s.homes) (slice_index s.words 0) (slice_index s.words 2) (all_calls s.views) v
    fits = consistent_of v live (kept.each id v there_is)

    others : (i j n : ℕ) → j ≢ i → slice_index (set s.words i n) j ≡ slice_index s.words j
    others i j n apart = get_or-set_other s.words i j n 0 apart

    same_word : (i j n : ℕ) → j ≢ i → (h : ℕ → ℕ) → sum_up_to h (slice_index (set s.words i n) j) ≡ sum_up_to h (slice_index s.words j)
    same_word i j n apart h = ap (sum_up_to h) (others i j n apart)

    pub draws_stamp : sum_by (above 4000000) v.stamps.own ≡ 0
        → RuleHolds number entries record { words = set s.words 0 (suc (slice_index s.words 0)); homes = s.homes; views = set s.views id (drew_stamp v (suc (slice_index s.words 0))) }
    draws_stamp fresh =
        let n : ℕ = suc (slice_index s.words 0) in
        let w : View = drew_stamp v n in
        let wide = kept.wide in
        let r = fits in
        let now : slice_index (set s.words 0 n) 0 ≡ n = get_or-set_same s.words 0 n 0 (omega arith) in
        let last : slice_index (set s.words 0 n) 2 ≡ slice_index s.words 2 = others 0 2 n (λ e. omega arith) in
        let mine : IsConsistent (length s.homes) n (slice_index s.words 2) (all_calls s.views) w = record {
          seen = le_refl _;
          name = r.name;
          stamps = record { own = let a = sum_by_push (above 4000000) v.stamps.own n in let b = above_one 4000000 n in omega arith; joined = r.stamps.joined };
          allocs = r.allocs;
          threads = r.threads;
          names = r.names;
          small_outs = r.small_outs;
          small_joined = r.small_joined;
          higher_outs = r.higher_outs;
          higher_own = r.higher_own;
          higher_joined = r.higher_joined;
          made = r.made;
          turn = since_holding v.turn r.turn;
        } in
        counts s kept 0 n id v w (omega arith) there_is live (omega arith) (omega arith)
        (λ h. let a = sum_by_push h v.stamps.own n in let b = ap (sum_up_to h) now in omega arith)
        (λ h. let a = same_word 0 1 n (λ e. omega arith) h in omega arith)
        (λ h. let a = same_word 0 2 n (λ e. omega arith) h in omega arith)
        (λ h. refl) (λ h. refl) (λ h. refl) (λ h. refl) (λ k. since_same k n v.turn)
        (subst (λ (p : ℕ × ℕ). IsConsistent (length s.homes) p.0 p.1 (all_calls s.views) w) (λ i. (sym now i, sym last i)) mine)

    pub draws_alloc : sum_by (above 65536) v.allocs.own ≡ 0
        → RuleHolds number entries record { words = set s.words 1 (suc (slice_index s.words 1)); homes = s.homes; views = set s.views id (drew_alloc v (suc (slice_index s.words 1))) }
    draws_alloc fresh =
        let n : ℕ = suc (slice_index s.words 1) in
        let w : View = drew_alloc v n in
        let wide = kept.wide in
        let r = fits in
        let now : slice_index (set s.words 1 n) 1 ≡ n = get_or-set_same s.words 1 n 0 (omega arith) in
        let first : slice_index (set s.words 1 n) 0 ≡ slice_index s.words 0 = others 1 0 n (λ e. omega arith) in
        let last : slice_index (set s.words 1 n) 2 ≡ slice_index s.words 2 = others 1 2 n (λ e. omega arith) in
        let mine : IsConsistent (length s.homes) (slice_index s.words 0) (slice_index s.words 2) (all_calls s.views) w = record {
          seen = r.seen;
          name = r.name;
          stamps = r.stamps;
          allocs = record { own = let a = sum_by_push (above 65536) v.allocs.own n in let b = above_one 65536 n in omega arith; joined = r.allocs.joined };
          threads = r.threads;
          names = r.names;
          small_outs = r.small_outs;
          small_joined = r.small_joined;
          higher_outs = r.higher_outs;
          higher_own = r.higher_own;
          higher_joined = r.higher_joined;
          made = λ m. let a = r.made m in let b = sum_by_push (equals m) v.allocs.own n in omega arith;
          turn = r.turn;
        } in
        counts s kept 1 n id v w (omega arith) there_is live (omega arith) (omega arith)
        (λ h. let a = same_word 1 0 n (λ e. omega arith) h in omega arith)
        (λ h. let a = sum_by_push h v.allocs.own n in let b = ap (sum_up_to h) now in omega arith)
        (λ h. let a = same_word 1 2 n (λ e. omega arith) h in omega arith)
        (λ h. refl) (λ h. refl) (λ h. refl) (λ h. refl) (λ k. refl)
        (subst (λ (p : ℕ × ℕ). IsConsistent (length s.homes) p.0 p.1 (all_calls s.views) w) (λ i. (sym first i, sym last i)) mine)

    pub draws_thread : sum_by (above 1023) v.threads.own ≡ 0
        → RuleHolds number entries record { words = set s.words 2 (suc (slice_index s.words 2)); homes = s.homes; views = set s.views id (drew_thread v (suc (slice_index s.words 2))) }
    draws_thread fresh =
        let n : ℕ = suc (slice_index s.words 2) in
        let w : View = drew_thread v n in
        let wide = kept.wide in
        let r = fits in
        let now : slice_index (set s.words 2 n) 2 ≡ n = get_or-set_same s.words 2 n 0 (omega arith) in
        let first : slice_index (set s.words 2 n) 0 ≡ slice_index s.words 0 = others 2 0 n (λ e. omega arith) in
        let mine : IsConsistent (length s.homes) (slice_index s.words 0) n (all_calls s.views) w = record {
          seen = r.seen;
          name = let a = r.name in omega arith;
          stamps = r.stamps;
          allocs = r.allocs;
          threads = record { own = let a = sum_by_push (above 1023) v.threads.own n in let b = above_one 1023 n in omega arith; joined = r.threads.joined };
          names = λ h. let a = r.names h in let b = sum_by_push h v.threads.own n in omega arith;
          small_outs = r.small_outs;
          small_joined = r.small_joined;
          higher_outs = r.higher_outs;
          higher_own = All-push (λ m. v.name < m) v.threads.own n r.higher_own (let a = r.name in omega arith);
          higher_joined = r.higher_joined;
          made = r.made;
          turn = r.turn;
        } in
        counts s kept 2 n id v w (omega arith) there_is live (omega arith) (omega arith)
        (λ h. let a = same_word 2 0 n (λ e. omega arith) h in omega arith)
        (λ h. let a = same_word 2 1 n (λ e. omega arith) h in omega arith)
        (λ h. let a = sum_by_push h v.threads.own n in let b = ap (sum_up_to h) now in omega arith)
        (λ h. refl) (λ h. refl) (λ h. refl) (λ h. refl) (λ k. refl)
        (subst (λ (p : ℕ × ℕ). IsConsistent (length s.homes) p.0 p.1 (all_calls s.views) w) (λ i. (sym first i, sym now i)) mine)

    pub chooses : (a : ℕ) → RuleHolds number entries record { words = set s.words 0 (slice_index s.words 0); homes = s.homes; views = set s.views id (chose v a) }
    chooses a =
        let n : ℕ = slice_index s.words 0 in
        let words : List ℕ = set s.words 0 n in
        let same : (j : ℕ) → slice_index words j ≡ slice_index s.words j = λ j. ap (λ (l : List ℕ). slice_index l j) (set-get_or s.words 0 0) in
        let r = fits in
        let mine : IsConsistent (length s.homes) (slice_index s.words 0) (slice_index s.words 2) (all_calls s.views) (chose v a) = record {
          seen = r.seen;
          name = r.name;
          stamps = r.stamps;
          allocs = r.allocs;
          threads = r.threads;
          names = r.names;
          small_outs = r.small_outs;
          small_joined = r.small_joined;
          higher_outs = r.higher_outs;
          higher_own = r.higher_own;
          higher_joined = r.higher_joined;
          made = r.made;
          turn = r.turn;
        } in
        let zero_same = same 0 in
        let two_same = same 2 in
        counts s kept 0 n id v (chose v a) (omega arith) there_is live (omega arith) (omega arith)
        (λ h. let b = ap (sum_up_to h) (same 0) in omega arith) (λ h. let b = ap (sum_up_to h) (same 1) in omega arith) (λ h. let b = ap (sum_up_to h) (same 2) in omega arith)
        (λ h. refl) (λ h. refl) (λ h. refl) (λ h. refl) (λ k. refl)
        (subst (λ (p : ℕ × ℕ). IsConsistent (length s.homes) p.0 p.1 (all_calls s.views) (chose v a)) (λ i. (sym zero_same i, sym two_same i)) mine)
