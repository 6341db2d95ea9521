-- A turn that is given back keeps the rule.
use Rattle.std.proofs.Common.{◌≡◌, ℕ, suc, ◌+◌, ◌<◌, ◌≤◌, ◌≢◌, Bool, true, false, List, [], ◌∷◌, ◌++◌, append-nil, length, set, drop, sum_by, Contains, slice_index, Option, Some, None, refl, sym, ap, ◌∙◌, subst, ⊎_elim, arith, length-set, get_or-set_other, get_or-set_same}
use mathlib.Core.Option.{some}
use mathlib.Core.Logic.{dite}
use native.Mathlib.Decide.{ℕ_discrete}
use lib.ListN.{get_elem?}
use lib.Seq.{drop-append_seam}
use Rattle.std.proofs.lemmas.List.Sums.{sum_by-append}
use Rattle.std.proofs.lemmas.List.Elements.{All-contains}
use Rattle.atomic_table.specs.Table.{State}
use Rattle.atomic_table.proofs.Lists.{set_else, set_here}
use Rattle.history.specs.declared.entry.Entry.{Entry}
use Rattle.turn_lock.specs.declared.view.HeldTurn.{HeldTurn}
use Rattle.turn_lock.specs.declared.view.View.{View}
use Rattle.history.specs.Merge.{stamp_of}
use Rattle.history.specs.Histories.{is_make_step}
use Rattle.history.specs.Restriction.{number_of}
use Rattle.turn_lock.specs.Weights.{sum_up_to, naming, equals, makes, latest, alloc_weight, call_weight, told_weight, turn_weight, holds_turn}
use Rattle.turn_lock.specs.Places.{place}
use Rattle.turn_lock.specs.Rule.{RuleHolds, IsHome, Slot, IsSpentOrLive, gone, there, IsConsistent, IsHolding, IsSlotHistory, all_calls, spent}
use Rattle.turn_lock.specs.Steps.{gave, beyond}
use Rattle.turn_lock.specs.Plays.{Extends, IsFresh}
use Rattle.turn_lock.proofs.Places.{past_counts, inside_table, place_once}
use Rattle.turn_lock.proofs.Sums.{moves_set, sum_at, sum_two}
use Rattle.turn_lock.proofs.Numbers.{equals_same, equals_other}
use Rattle.turn_lock.proofs.Entries.{naming_here, naming_else, makes_else, makes_le, makes_none, rising_push, latest_push}
use Rattle.turn_lock.proofs.Keeps.{keeps as keeps_rule, history_later, consistent_later, view_later, each_set, sum_same}
use Rattle.turn_lock.proofs.Draws.{consistent_of}

some_hold : (t u : HeldTurn) → Some t ≡ Some u → t ≡ u
some_hold t u e = cc

no_turn : (t : HeldTurn) → None ≡ Some t → ⊥
no_turn t e = cc

module _ {X : Type 0} {number : X → ℕ} {entries : X → List Entry} (s : State (Option X) View) (kept : RuleHolds number entries s) (id : ℕ) (v : View) (there_is : get_elem? s.views id ≡ some v) (live : v.live ≡ true)
    (t : HeldTurn) (held : v.turn ≡ Some t) where
  clock : ℕ
  clock = slice_index s.words 0

  fits : IsConsistent (length s.homes) (slice_index s.words 0) (slice_index s.words 2) (all_calls s.views) v
  fits = consistent_of v live (kept.each id v there_is)

  holding : IsHolding (length s.homes) (slice_index s.words 0) (all_calls s.views) t
  holding = fits.turn t held

  mine_is : turn_weight t.slot v ≡ 1
  mine_is = ap (holds_turn t.slot) held ∙ equals_same t.slot

  -- no other view holds this turn
  others_hold : (j : ℕ) (u : View) → j ≢ id → get_elem? s.views j ≡ some u → (q : HeldTurn) → u.turn ≡ Some q → q.slot ≢ t.slot
  others_hold j u apart e q theirs same =
      let a : turn_weight t.slot u ≡ 1 = ap (holds_turn t.slot) theirs ∙ (ap (equals t.slot) same ∙ equals_same t.slot) in
      let b = kept.turns t.slot holding.inside in
      absurd (let m = mine_is in omega (arith, sum_two (turn_weight t.slot) s.views id j v u (λ p. apart (sym p)) there_is e))

  -- the new entries are calls on this turn's number, and the value's are then its whole history
  gives_turn : (new : List Entry) → ((n : ℕ) (h : Entry → ℕ) → n ≢ suc t.slot → sum_by (naming n h) new ≡ 0) → ((h : Entry → ℕ) → sum_by (naming (suc t.slot) h) new ≡ sum_by h new)
      → ((n : ℕ) → sum_by (makes n) v.calls + sum_by (makes n) new ≤ alloc_weight (equals n) v)
      → (x : X) → number x ≡ suc t.slot → entries x ≡ t.taken ++ new → Rattle.turn_lock.specs.Rule.Rising (entries x) → latest (entries x) ≤ slice_index s.words 0
      → (w : View) → w ≡ record v { calls = v.calls ++ new; turn = None }
      → RuleHolds number entries record { words = set s.words (place t.slot) 0; homes = set s.homes t.slot (some (Some x)); views = set s.views id w }
  gives_turn new away here made x numbered whole rising reached w w_is =
      let k : ℕ = t.slot in
      let after : View = record v { calls = v.calls ++ new; turn = None } in
      let words : List ℕ = set s.words (place k) 0 in
      let views : List View = set s.views id after in
      let homes : List (Slot X) = set s.homes k (some (Some x)) in
      let wide = kept.wide in
      let inside = holding.inside in
      let other : (j : ℕ) → j ≢ place k → slice_index words j ≡ slice_index s.words j = λ j apart. get_or-set_other s.words (place k) j 0 0 apart in
      let now : slice_index words (place k) ≡ 0 = get_or-set_same s.words (place k) 0 0 (let p = inside_table k (length s.homes) inside in omega arith) in
      let zero_word : slice_index words 0 ≡ slice_index s.words 0 = other 0 (let p = past_counts k in λ e. omega arith) in
      let one_word : slice_index words 1 ≡ slice_index s.words 1 = other 1 (let p = past_counts k in λ e. omega arith) in
      let two_word : slice_index words 2 ≡ slice_index s.words 2 = other 2 (let p = past_counts k in λ e. omega arith) in
      let moves = moves_set s.views id v after there_is in
      let grown : (h : Entry → ℕ) → all_calls views h ≡ all_calls s.views h + sum_by h new = λ h. let m = moves (call_weight h) in omega (arith, sum_by-append h v.calls new) in
      let same : (j : ℕ) → j ≢ k → (h : Entry → ℕ) → all_calls s.views (naming (suc j) h) ≡ all_calls views (naming (suc j) h) =
      λ j apart h. let a = grown (naming (suc j) h) in let b = away (suc j) h (λ e. apart (omega arith)) in omega arith in
      let Known : View → Type 0 = IsSpentOrLive (length s.homes) (slice_index words 0) (slice_index words 2) (all_calls views) in
      let r = fits in
      let mine : IsConsistent (length s.homes) (slice_index s.words 0) (slice_index s.words 2) (all_calls views) after = record {
        seen = r.seen;
        name = r.name;
        stamps = r.stamps;
        allocs = r.allocs;
        threads = r.threads;
        names = r.names;
        small_outs = r.small_outs;
        small_joined = r.small_joined;
        higher_outs = r.higher_outs;
        higher_own = r.higher_own;
        higher_joined = r.higher_joined;
        made = λ n. let a = made n in omega (arith, sum_by-append (makes n) v.calls new);
        turn = λ q e. absurd (no_turn q e);
      } in
      let history : IsSlotHistory (slice_index words 0) (all_calls views) k (entries x) = record {
        rising = rising;
        reached = omega arith;
        exact = λ h. let a = holding.history.exact h in let b = grown (naming (suc k) h) in let c = here h in let d : sum_by h (entries x) ≡ sum_by h (t.taken ++ new) = ap (sum_by h) whole in omega (arith, sum_by-append h t.taken new);
      } in
      let full = kept.turns k inside in
      subst (λ (u : View). RuleHolds number entries record { words = words; homes = homes; views = set s.views id u }) (sym w_is)
      (keeps_rule s kept words homes views (λ f. f v) (λ f. f after) moves
      (length-set s.words (place k) 0) (length-set s.homes k (some (Some x)))
      (λ h. let a = ap (sum_up_to h) zero_word in omega arith) (λ h. let a = ap (sum_up_to h) one_word in omega arith) (λ h. let a = ap (sum_up_to h) two_word in omega arith)
      (λ h. omega arith)
      (λ h zero_is. let a = grown h in let b = sum_same (told_weight h) s.views id v after there_is refl in let c = kept.told h (omega arith) in omega arith)
      (λ j lt. dite (ℕ_discrete j k)
      (λ e. let b : slice_index words (place j) ≡ 0 = ap (λ i. slice_index words (place i)) e ∙ now in
      let c : slice_index s.words (place j) ≡ slice_index s.words (place k) = ap (λ i. slice_index s.words (place i)) e in
      let d : turn_weight j v ≡ 1 = ap (λ i. turn_weight i v) e ∙ mine_is in
      let m = mine_is in omega (arith, sum_at (turn_weight k) s.views id v there_is))
      (λ apart. let b = other (place j) (λ e. apart (place_once j k e)) in let d : turn_weight j v ≡ 0 = ap (holds_turn j) held ∙ equals_other j k (λ e. apart (sym e)) in omega arith))
      (λ j lt. dite (ℕ_discrete j k) (λ e. let b : slice_index words (place j) ≡ 0 = ap (λ i. slice_index words (place i)) e ∙ now in omega arith)
      (λ apart. let b = other (place j) (λ e. apart (place_once j k e)) in let c = kept.turn_words j lt in omega arith))
      (λ j lt zero_is. dite (ℕ_discrete j k)
      (λ e. subst (IsHome number entries (slice_index words 0) (all_calls views) homes) (sym e) record { value = x; there = set_here s.homes k (some (Some x)) inside; numbered = numbered; history = history })
      (λ apart. let b = other (place j) (λ e. apart (place_once j k e)) in let q = kept.home j lt (sym b ∙ zero_is) in
      record { value = q.value; there = set_else s.homes k j (some (Some x)) apart ∙ q.there; numbered = q.numbered; history = history_later (omega arith) (same j apart) q.history }))
      (each_set Known s.views id after
      (there live (consistent_later (omega arith) (omega arith) (λ q e h. absurd (no_turn q e)) mine))
      (λ j u apart e. view_later (omega arith) (omega arith) (λ q theirs h. same q.slot (others_hold j u apart e q theirs) h) (kept.each j u e))))

  -- a call that is added: a Make only where the number is fresh
  made_once : (e : Entry) → number_of e.alloc ≡ suc t.slot → (is_make_step e ≡ true → IsFresh v (suc t.slot)) → (n : ℕ) → sum_by (makes n) v.calls + sum_by (makes n) (e ∷ []) ≤ alloc_weight (equals n) v
  made_once e names fresh n = let a = fits.made n in dite (ℕ_discrete (suc t.slot) n) (λ same. by_kind same (is_make_step e) refl) (λ apart. let b = makes_else n (suc t.slot) e names apart in omega arith)
    where
      by_kind : suc t.slot ≡ n → (b : Bool) → is_make_step e ≡ b → sum_by (makes n) v.calls + sum_by (makes n) (e ∷ []) ≤ alloc_weight (equals n) v
      by_kind same true is_make_step = let f = fresh is_make_step in let b = f.0 in let c = f.1 in
          subst (λ m. sum_by (makes m) v.calls + sum_by (makes m) (e ∷ []) ≤ alloc_weight (equals m) v) same (let d = makes_le (suc t.slot) e in omega arith)
      by_kind same false no_make = let a = fits.made n in let b = makes_none n e no_make in omega arith

  pub gives : (x : X) → number x ≡ suc t.slot → Extends v t (entries x)
      → RuleHolds number entries record { words = set s.words (place t.slot) 0; homes = set s.homes t.slot (some (Some x)); views = set s.views id (gave v (entries x)) }
  gives x numbered extends = ⊎_elim
      (λ (same : entries x ≡ t.taken).
      let whole : entries x ≡ t.taken ++ [] = same ∙ sym (append-nil t.taken) in
      gives_turn [] (λ n h _. refl) (λ h. refl) (λ n. let a = fits.made n in omega arith) x numbered whole
      (subst Rattle.turn_lock.specs.Rule.Rising (sym same) holding.history.rising) (subst (λ es. latest es ≤ slice_index s.words 0) (sym same) holding.history.reached)
      (gave v (entries x)) (gave_is [] whole))
      (λ (more : (e : Entry) × (entries x ≡ t.taken ++ e ∷ []) × Contains t.since (stamp_of e) × (number_of e.alloc ≡ suc t.slot) × (is_make_step e ≡ true → IsFresh v (suc t.slot))).
      let e : Entry = more.0 in
      let later : latest t.taken < stamp_of e = All-contains (λ n. latest t.taken < n) t.since (stamp_of e) holding.later more.2 in
      let reached : stamp_of e ≤ slice_index s.words 0 = All-contains (λ n. n ≤ slice_index s.words 0) t.since (stamp_of e) holding.reached more.2 in
      let top = latest_push t.taken e in
      gives_turn (e ∷ []) (λ n h apart. let a = naming_else n (suc t.slot) h e more.3 (λ p. apart (sym p)) in omega arith) (λ h. let a = naming_here (suc t.slot) h e more.3 in omega arith)
      (made_once e more.3 more.4) x numbered more.1
      (subst Rattle.turn_lock.specs.Rule.Rising (sym more.1) (rising_push t.taken e holding.history.rising later))
      (subst (λ es. latest es ≤ slice_index s.words 0) (sym more.1) (let a = holding.history.reached in omega arith))
      (gave v (entries x)) (gave_is (e ∷ []) more.1))
      extends
    where
      gave_is : (new : List Entry) → entries x ≡ t.taken ++ new → gave v (entries x) ≡ record v { calls = v.calls ++ new; turn = None }
      gave_is new whole =
          let a : beyond v.turn (entries x) ≡ new = ap (λ o. beyond o (entries x)) held ∙ (ap (drop (length t.taken)) whole ∙ drop-append_seam t.taken new) in
          ap (λ l. record v { calls = v.calls ++ l; turn = None }) a
