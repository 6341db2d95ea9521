-- A step keeps the rule where each sum gains what its word does. Each step gives the parts that it changes.
use Rattle.std.proofs.Common.{◌≡◌, ℕ, suc, ◌+◌, ◌<◌, ◌≤◌, ◌≢◌, List, length, set, sum_by, slice_index, Option, Some, sym, ◌∙◌, subst, ⊎_elim, arith, le_trans}
use mathlib.Core.Option.{some}
use lib.ListN.{get_elem?}
use Rattle.atomic_table.specs.Table.{State}
use Rattle.atomic_table.proofs.Lists.{at_set}
use Rattle.history.specs.declared.entry.Entry.{Entry}
use Rattle.turn_lock.specs.declared.view.HeldTurn.{HeldTurn}
use Rattle.turn_lock.specs.declared.view.View.{View}
use Rattle.turn_lock.specs.Places.{place}
use Rattle.turn_lock.specs.Weights.{sum_up_to, naming, stamp_weight, alloc_weight, thread_weight, name_weight, out_weight, call_weight, told_weight, turn_weight, holders}
use Rattle.turn_lock.specs.Rule.{RuleHolds, IsHome, Slot, IsSpentOrLive, gone, there, IsConsistent, IsHolding, IsSlotHistory, all_calls}
use Rattle.turn_lock.proofs.Sums.{Moves, sum_set}

pub history_later : {clock clock' : ℕ} {calls calls' : (Entry → ℕ) → ℕ} {k : ℕ} {es : List Entry} → clock ≤ clock' → ((h : Entry → ℕ) → calls (naming (suc k) h) ≡ calls' (naming (suc k) h))
    → IsSlotHistory clock calls k es → IsSlotHistory clock' calls' k es
history_later more same r = record { rising = r.rising; reached = le_trans r.reached more; exact = λ h. r.exact h ∙ same h }

pub holding_later : {slots clock clock' : ℕ} {calls calls' : (Entry → ℕ) → ℕ} {t : HeldTurn} → clock ≤ clock' → ((h : Entry → ℕ) → calls (naming (suc t.slot) h) ≡ calls' (naming (suc t.slot) h))
    → IsHolding slots clock calls t → IsHolding slots clock' calls' t
holding_later more same r = record { inside = r.inside; history = history_later more same r.history; later = r.later; reached = λ k d lt. le_trans (r.reached k d lt) more }

pub consistent_later : {slots clock clock' last last' : ℕ} {calls calls' : (Entry → ℕ) → ℕ} {v : View} → clock ≤ clock' → last ≤ last'
    → ((t : HeldTurn) → v.turn ≡ Some t → (h : Entry → ℕ) → calls (naming (suc t.slot) h) ≡ calls' (naming (suc t.slot) h))
    → IsConsistent slots clock last calls v → IsConsistent slots clock' last' calls' v
consistent_later more longer same r = record {
  seen = le_trans r.seen more;
  name = le_trans r.name longer;
  stamps = r.stamps;
  allocs = r.allocs;
  threads = r.threads;
  names = r.names;
  small_outs = r.small_outs;
  small_joined = r.small_joined;
  higher_outs = r.higher_outs;
  higher_own = r.higher_own;
  higher_joined = r.higher_joined;
  made = r.made;
  turn = λ t e. holding_later more (same t e) (r.turn t e);
}

pub view_later : {slots clock clock' last last' : ℕ} {calls calls' : (Entry → ℕ) → ℕ} {v : View} → clock ≤ clock' → last ≤ last'
    → ((t : HeldTurn) → v.turn ≡ Some t → (h : Entry → ℕ) → calls (naming (suc t.slot) h) ≡ calls' (naming (suc t.slot) h))
    → IsSpentOrLive slots clock last calls v → IsSpentOrLive slots clock' last' calls' v
view_later more longer same (gone e) = gone e
view_later more longer same (there live fits) = there live (consistent_later more longer same fits)

-- where one view changes, each other one stays
pub each_set : (P : View → Type 0) (views : List View) (id : ℕ) (w : View) → P w → ((j : ℕ) (u : View) → j ≢ id → get_elem? views j ≡ some u → P u)
    → (j : ℕ) (u : View) → get_elem? (set views id w) j ≡ some u → P u
each_set P views id w mine others j u e = ⊎_elim (λ (t : (j ≡ id) × (w ≡ u)). subst P t.1 mine) (λ (t : (j ≢ id) × (get_elem? views j ≡ some u)). others j u t.0 t.1) (at_set views id j w u e)

pub sum_same : (f : View → ℕ) (views : List View) (id : ℕ) (v w : View) → get_elem? views id ≡ some v → f w ≡ f v → sum_by f (set views id w) ≡ sum_by f views
sum_same f views id v w e same = let a = sum_set f views id v w e in omega arith

module _ {X : Type 0} {number : X → ℕ} {entries : X → List Entry} where
  pub keeps : (s : State (Option X) View) (kept : RuleHolds number entries s) (words : List ℕ) (homes : List (Slot X)) (views : List View) (lost gained : (View → ℕ) → ℕ) → Moves s.views views lost gained
      → length words ≡ length s.words → length homes ≡ length s.homes
      → ((h : ℕ → ℕ) → sum_up_to h (slice_index words 0) + lost (stamp_weight h) ≡ sum_up_to h (slice_index s.words 0) + gained (stamp_weight h))
      → ((h : ℕ → ℕ) → sum_up_to h (slice_index words 1) + lost (alloc_weight h) ≡ sum_up_to h (slice_index s.words 1) + gained (alloc_weight h))
      → ((h : ℕ → ℕ) → sum_up_to h (slice_index words 2) + lost (thread_weight h) ≡ sum_up_to h (slice_index s.words 2) + gained (thread_weight h))
      → ((h : ℕ → ℕ) → gained (name_weight h) + lost (out_weight h) ≡ lost (name_weight h) + gained (out_weight h))
      → ((h : Entry → ℕ) → sum_by (call_weight h) views ≡ 0 → sum_by (told_weight h) views ≡ 0)
      → ((k : ℕ) → k < length s.homes → holders (slice_index words (place k)) + lost (turn_weight k) ≡ holders (slice_index s.words (place k)) + gained (turn_weight k))
      → ((k : ℕ) → k < length s.homes → slice_index words (place k) ≤ 2)
      → ((k : ℕ) → k < length s.homes → slice_index words (place k) ≡ 0 → IsHome number entries (slice_index words 0) (all_calls views) homes k)
      → ((j : ℕ) (u : View) → get_elem? views j ≡ some u → IsSpentOrLive (length s.homes) (slice_index words 0) (slice_index words 2) (all_calls views) u)
      → RuleHolds number entries record { words = words; homes = homes; views = views }
  keeps s kept words homes views lost gained moves wide slots stamps allocs threads names told turns small home each = record {
    wide = let w = kept.wide in omega arith;
    stamps = λ h. let a = kept.stamps h in let m = moves (stamp_weight h) in let d = stamps h in omega arith;
    allocs = λ h. let a = kept.allocs h in let m = moves (alloc_weight h) in let d = allocs h in omega arith;
    threads = λ h. let a = kept.threads h in let m = moves (thread_weight h) in let d = threads h in omega arith;
    names = λ h. let a = kept.names h in let m = moves (name_weight h) in let o = moves (out_weight h) in let d = names h in omega arith;
    told = told;
    turns = λ k lt. let inside : k < length s.homes = omega arith in let a = kept.turns k inside in let m = moves (turn_weight k) in let d = turns k inside in omega arith;
    turn_words = λ k lt. small k (omega arith);
    home = λ k lt. home k (omega arith);
    each = subst (λ n. (j : ℕ) (u : View) → get_elem? views j ≡ some u → IsSpentOrLive n (slice_index words 0) (slice_index words 2) (all_calls views) u) (sym slots) each;
  }
