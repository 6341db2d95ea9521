-- A split and a join keep the rule.
use Rattle.std.proofs.Common.{◌≡◌, ℕ, suc, ◌+◌, ◌<◌, ◌≤◌, true, cond, max, List, [], ◌∷◌, ◌++◌, length, set, sum_by, Contains, slice_index, Option, Some, None, refl, sym, ap, ◌∙◌, subst, ⊎_elim, arith, le_refl, length-append, lt_trans}
use mathlib.Core.Option.{some}
use native.Mathlib.Decide.{dec_le}
use mathlib.Core.Logic.{dite}
use lib.ListN.{get_elem?}
use Rattle.std.proofs.lemmas.List.Sums.{sum_by_push, sum_by-append, sum_by-cons}
use Rattle.std.proofs.lemmas.List.Elements.{All-push, All-append, All-cons, All-nil, All-contains}
use Rattle.atomic_table.specs.Table.{Splits, Joins}
use Rattle.atomic_table.proofs.Lists.{at_snoc, set_else}
use Rattle.history.specs.declared.entry.Entry.{Entry}
use Rattle.turn_lock.specs.declared.view.HeldTurn.{HeldTurn}
use Rattle.turn_lock.specs.declared.view.Drawn.{Drawn}
use Rattle.turn_lock.specs.declared.view.View.{View}
use Rattle.turn_lock.specs.Weights.{above, naming, equals, drawn, thread_weight, name_weight, call_weight, told_weight, turn_weight, holds_turn, makes}
use Rattle.turn_lock.specs.Rule.{RuleHolds, IsSpentOrLive, gone, there, DrewFewAbove, all_calls, spent}
use Rattle.turn_lock.specs.Steps.{split_left, split_right, joins, gathers}
use Rattle.turn_lock.proofs.Sums.{moves_split, moves_join, sum_at}
use Rattle.turn_lock.proofs.Numbers.{sum_up_to_beyond}
use Rattle.turn_lock.proofs.Members.{contained, contains_here, except, except_le, except_none, except_some, sum_without, all_without}
use Rattle.turn_lock.proofs.Keeps.{keeps as keeps_rule, history_later, view_later, each_set}
use Rattle.turn_lock.proofs.Draws.{consistent_of}

no_turn : (o : Option HeldTurn) (t : HeldTurn) → o ≡ None → o ≡ Some t → ⊥
no_turn o t a b = cc

drawn_gathers : (h : ℕ → ℕ) (d e : Drawn) → drawn h (gathers d e) ≡ drawn h d + drawn h e
drawn_gathers h d e = omega (arith, sum_by-append h d.joined (e.own ++ e.joined), sum_by-append h e.own e.joined)

-- one more desk is out
one_more : (outs names own others : List ℕ) (n : ℕ) → ((h : ℕ → ℕ) → sum_by h outs + sum_by h names ≤ sum_by h own + sum_by h others) → 1 ≤ sum_by (equals n) own → sum_by (equals n) outs ≡ 0 → sum_by (equals n) names ≡ 0
    → (h : ℕ → ℕ) → sum_by h (outs ++ n ∷ []) + sum_by h names ≤ sum_by h own + sum_by h others
one_more outs names own others n were mine away apart h =
    let a = were (except n h) in
    omega (arith, sum_by_push h outs n, except_none n h outs away, except_none n h names apart, except_some n h own mine, except_le n h others)

sparing_join : (limit : ℕ) (ns ms : List ℕ) (name : ℕ) (d e : Drawn) → DrewFewAbove limit (length ns) d → DrewFewAbove limit (length ms) e → DrewFewAbove limit (length (ns ++ (name ∷ ms))) (gathers d e)
sparing_join limit ns ms name d e r q = record {
  own = r.own;
  joined = let a = r.joined in let b = q.own in let c = q.joined in omega (arith, sum_by-append (above limit) d.joined (e.own ++ e.joined), sum_by-append (above limit) e.own e.joined, length-append ns (name ∷ ms));
}

module _ {X : Type 0} {number : X → ℕ} {entries : X → List Entry} where
  pub splits : (id : ℕ) (v : View) → v.live ≡ true → v.turn ≡ None → Contains v.threads.own v.next → ¬ (Contains v.outs v.next) → ¬ (Contains v.joined v.next) → v.next ≤ 1023
      → Splits (RuleHolds number entries) id v (split_left v) (split_right v)
  splits id v live idle drew not_out not_joined small s kept there_is =
      let mine : 1 ≤ sum_by (equals v.next) v.threads.own = contained v.threads.own v.next drew in
      let away : sum_by (equals v.next) v.outs ≡ 0 = contains_here v.outs v.next not_out in
      let apart : sum_by (equals v.next) v.joined ≡ 0 = contains_here v.joined v.next not_joined in
      let left : View = split_left v in
      let right : View = split_right v in
      let views : List View = set s.views id left ++ right ∷ [] in
      let fits = consistent_of v live (kept.each id v there_is) in
      let higher : v.name < v.next = All-contains (λ n. v.name < n) v.threads.own v.next fits.higher_own drew in
      let moves = moves_split s.views id v left right there_is in
      let same : (h : Entry → ℕ) → all_calls s.views h ≡ all_calls views h = λ h. let m = moves (call_weight h) in omega arith in
      let named : (h : ℕ → ℕ) → (name_weight h v ≡ h v.name) = λ h. ap (λ b. cond b (h v.name) 0) live in
      let Known : View → Type 0 = IsSpentOrLive (length s.homes) (slice_index s.words 0) (slice_index s.words 2) (all_calls views) in
      let drawn_before : v.next ≤ slice_index s.words 2 = dite (dec_le v.next (slice_index s.words 2)) (λ le. le)
      (λ nle. let a = kept.threads (equals v.next) in let b = sum_at (thread_weight (equals v.next)) s.views id v there_is in let c = sum_up_to_beyond v.next (slice_index s.words 2) (omega arith) in absurd (omega arith)) in
      let kept_left : Known left = there live record {
        seen = fits.seen;
        name = fits.name;
        stamps = fits.stamps;
        allocs = fits.allocs;
        threads = fits.threads;
        names = one_more v.outs v.joined v.threads.own v.threads.joined v.next fits.names mine away apart;
        small_outs = All-push (λ n. n ≤ 1023) v.outs v.next fits.small_outs small;
        small_joined = fits.small_joined;
        higher_outs = All-push (λ n. v.name < n) v.outs v.next fits.higher_outs higher;
        higher_own = fits.higher_own;
        higher_joined = fits.higher_joined;
        made = fits.made;
        turn = λ t e. absurd (no_turn v.turn t idle e);
      } in
      let kept_right : Known right = there refl record {
        seen = fits.seen;
        name = drawn_before;
        stamps = record { own = omega arith; joined = omega arith };
        allocs = record { own = omega arith; joined = omega arith };
        threads = record { own = omega arith; joined = omega arith };
        names = λ h. omega arith;
        small_outs = All-nil _;
        small_joined = All-nil _;
        higher_outs = All-nil _;
        higher_own = All-nil _;
        higher_joined = All-nil _;
        made = λ n. omega arith;
        turn = λ t e. absurd (no_turn None t refl e);
      } in
      keeps_rule s kept s.words s.homes views (λ f. f v) (λ f. f left + f right) moves refl refl
      (λ h. omega arith) (λ h. omega arith) (λ h. omega arith)
      (λ h. let a = sum_by_push h v.outs v.next in omega arith)
      (λ h none. let a = same h in let b = kept.told h (omega arith) in let m = moves (told_weight h) in
      omega (arith, sum_by-append h v.told v.calls, sum_at (told_weight h) s.views id v there_is, sum_at (call_weight h) s.views id v there_is))
      (λ k lt. let e : turn_weight k left ≡ 0 = ap (holds_turn k) idle in let d : turn_weight k v ≡ 0 = ap (holds_turn k) idle in omega arith)
      kept.turn_words
      (λ k lt zero_is. let r = kept.home k lt zero_is in record { value = r.value; there = r.there; numbered = r.numbered; history = history_later (le_refl _) (λ h. same (naming (suc k) h)) r.history })
      (λ j u e. ⊎_elim (each_set Known s.views id left kept_left (λ i x _ d. view_later (le_refl _) (le_refl _) (λ t _ h. same (naming (suc t.slot) h)) (kept.each i x d)) j u)
      (λ (t : right ≡ u). subst Known t kept_right) (at_snoc (set s.views id left) right u j e))

  pub joins_views : (id : ℕ) (v : View) (other : ℕ) (u : View) → v.live ≡ true → v.turn ≡ None → u.live ≡ true → u.turn ≡ None → u.outs ≡ [] → Contains v.outs u.name
      → Joins (RuleHolds number entries) id v other u (joins v u) spent
  joins_views id v other u live idle live_other idle_other empty is_out s kept there_is apart was =
      let out : 1 ≤ sum_by (equals u.name) v.outs = contained v.outs u.name is_out in
      let both : View = joins v u in
      let views : List View = set (set s.views id both) other spent in
      let fits = consistent_of v live (kept.each id v there_is) in
      let small : u.name ≤ 1023 = All-contains (λ n. n ≤ 1023) v.outs u.name fits.small_outs is_out in
      let higher : v.name < u.name = All-contains (λ n. v.name < n) v.outs u.name fits.higher_outs is_out in
      let there_other : get_elem? s.views other ≡ some u = sym (set_else s.views id other both apart) ∙ was in
      let theirs = consistent_of u live_other (kept.each other u there_other) in
      let moves = moves_join s.views id v both other u spent there_is was in
      let same : (h : Entry → ℕ) → all_calls s.views h ≡ all_calls views h = λ h. let m = moves (call_weight h) in omega (arith, sum_by-append h v.calls u.calls) in
      let none_out : (h : ℕ → ℕ) → sum_by h u.outs ≡ 0 = λ h. ap (sum_by h) empty in
      let Known : View → Type 0 = IsSpentOrLive (length s.homes) (slice_index s.words 0) (slice_index s.words 2) (all_calls views) in
      let seen : max v.seen u.seen ≤ slice_index s.words 0 = let a = fits.seen in let b = theirs.seen in omega arith in
      let kept_both : Known both = there live record {
        seen = seen;
        name = fits.name;
        stamps = sparing_join 4000000 v.joined u.joined u.name v.stamps u.stamps fits.stamps theirs.stamps;
        allocs = sparing_join 65536 v.joined u.joined u.name v.allocs u.allocs fits.allocs theirs.allocs;
        threads = sparing_join 1023 v.joined u.joined u.name v.threads u.threads fits.threads theirs.threads;
        names = λ h. let a = fits.names h in let b = theirs.names h in let c = none_out h in
            omega (arith, sum_without u.name h v.outs out, sum_by-append h v.joined (u.name ∷ u.joined), sum_by-cons h u.name u.joined, drawn_gathers h v.threads u.threads);
        small_outs = all_without (λ n. n ≤ 1023) u.name v.outs fits.small_outs;
        small_joined = All-append (λ n. n ≤ 1023) v.joined (u.name ∷ u.joined) fits.small_joined (All-cons (λ n. n ≤ 1023) u.name u.joined small theirs.small_joined);
        higher_outs = all_without (λ n. v.name < n) u.name v.outs fits.higher_outs;
        higher_own = fits.higher_own;
        higher_joined = All-append (λ n. v.name < n) v.threads.joined (u.threads.own ++ u.threads.joined) fits.higher_joined
            (All-append (λ n. v.name < n) u.threads.own u.threads.joined (λ k d lt. lt_trans higher (theirs.higher_own k d lt)) (λ k d lt. lt_trans higher (theirs.higher_joined k d lt)));
        made = λ n. let a = fits.made n in let b = theirs.made n in omega (arith, sum_by-append (makes n) v.calls u.calls, drawn_gathers (equals n) v.allocs u.allocs);
        turn = λ t e. absurd (no_turn v.turn t idle e);
      } in
      keeps_rule s kept s.words s.homes views (λ f. f v + f u) (λ f. f both + f spent) moves refl refl
      (λ h. let a = drawn_gathers h v.stamps u.stamps in omega arith)
      (λ h. let a = drawn_gathers h v.allocs u.allocs in omega arith)
      (λ h. let a = drawn_gathers h v.threads u.threads in omega arith)
      (λ h. let a = sum_without u.name h v.outs out in let b = none_out h in let c : name_weight h u ≡ h u.name = ap (λ b. cond b (h u.name) 0) live_other in omega arith)
      (λ h none. let a = same h in let b = kept.told h (omega arith) in let m = moves (told_weight h) in omega arith)
      (λ k lt. let e : turn_weight k v ≡ 0 = ap (holds_turn k) idle in let d : turn_weight k u ≡ 0 = ap (holds_turn k) idle_other in let f : turn_weight k both ≡ 0 = ap (holds_turn k) idle in omega arith)
      kept.turn_words
      (λ k lt zero_is. let r = kept.home k lt zero_is in record { value = r.value; there = r.there; numbered = r.numbered; history = history_later (le_refl _) (λ h. same (naming (suc k) h)) r.history })
      (each_set Known (set s.views id both) other spent (gone refl)
      (λ j x _ e. each_set Known s.views id both kept_both (λ i y _ d. view_later (le_refl _) (le_refl _) (λ t _ h. same (naming (suc t.slot) h)) (kept.each i y d)) j x e))
