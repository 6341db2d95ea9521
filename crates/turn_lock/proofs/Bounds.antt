-- No word passes its limit by more than the number of desks, so no draw wraps.
use Rattle.std.proofs.Common.{◌≡◌, ℕ, ◌+◌, ◌≤◌, cond, List, [], ◌∷◌, length, All, sum_by, slice_index, refl, sym, ap, subst, ⊎_elim, arith}
use Rattle.std.proofs.lemmas.List.Sums.{sum_by-cons}
use Rattle.std.proofs.lemmas.List.Elements.{All-head, All-tail}
use Rattle.atomic_table.specs.Table.{State}
use Rattle.std.proofs.Common.{Option}
use Rattle.history.specs.declared.entry.Entry.{Entry}
use Rattle.turn_lock.specs.declared.view.Drawn.{Drawn}
use Rattle.turn_lock.specs.declared.view.View.{View}
use Rattle.turn_lock.specs.Weights.{sum_up_to, above, one, drawn, thread_weight, name_weight, out_weight}
use Rattle.turn_lock.specs.Rule.{RuleHolds, IsSpentOrLive, gone, there, IsConsistent, DrewFewAbove, spent}
use Rattle.turn_lock.proofs.Sums.{sum_each, sum_plus}
use Rattle.turn_lock.proofs.Numbers.{within, sum_up_to_above, sum_up_to_within, within_cases}

sum_one : {X : Type 0} (xs : List X) → sum_by (λ (x : X). 1) xs ≡ length xs
sum_one [] = refl
sum_one (x ∷ xs) = let rest = sum_one xs in omega (arith, sum_by-cons (λ y. 1) x xs)

all_within : (limit : ℕ) (xs : List ℕ) → All (λ n. n ≤ limit) xs → sum_by one xs ≤ sum_by (within limit) xs
all_within limit [] h = omega arith
all_within limit (x ∷ xs) h =
    let first : x ≤ limit = All-head (λ n. n ≤ limit) x xs h in
    let rest = all_within limit xs (All-tail (λ n. n ≤ limit) x xs h) in
    let here : within limit x ≡ 1 = ⊎_elim (λ t. t.1) (λ t. let a = t.0 in absurd (omega arith)) (within_cases limit x) in
    omega (arith, sum_by-cons one x xs, sum_by-cons (within limit) x xs)

-- the weight of the names of the desks joined into it
abbrev pub joined_weight : (ℕ → ℕ) → View → ℕ
joined_weight h v = sum_by h v.joined

-- how many desks a view stands for: itself and those joined into it
abbrev pub desks : View → ℕ
desks v = name_weight one v + joined_weight one v

module _ {slots clock last : ℕ} {calls : (Entry → ℕ) → ℕ} where
  named_within : (v : View) → IsSpentOrLive slots clock last calls v → out_weight one v + joined_weight one v ≤ thread_weight (within 1023) v
  named_within v (gone e) = subst (λ (u : View). out_weight one u + joined_weight one u ≤ thread_weight (within 1023) u) (sym e) (omega arith)
  named_within v (there live fits) =
      omega (arith, all_within 1023 v.outs fits.small_outs, all_within 1023 v.joined fits.small_joined, fits.names (within 1023))

  spared : (limit : ℕ) (kind : View → Drawn) → kind spent ≡ Rattle.turn_lock.specs.Rule.nothing → (v : View) → (IsConsistent slots clock last calls v → DrewFewAbove limit (length v.joined) (kind v))
      → IsSpentOrLive slots clock last calls v → drawn (above limit) (kind v) ≤ desks v
  spared limit kind none v sparing (gone e) =
      subst (λ (u : View). drawn (above limit) (kind u) ≤ desks u) (sym e) (subst (λ d. drawn (above limit) d ≤ 0) (sym none) (omega arith))
  spared limit kind none v sparing (there live fits) =
      let here : name_weight one v ≡ 1 = ap (λ b. cond b 1 0) live in
      let s = sparing fits in omega (arith, sum_one v.joined, s.own, s.joined)

module _ {X : Type 0} {number : X → ℕ} {entries : X → List Entry} (s : State (Option X) View) (kept : RuleHolds number entries s) where
  pub crowd : sum_by desks s.views ≤ 1024
  crowd =
      let a = kept.names one in
      let b = kept.threads (within 1023) in
      let c : sum_by (λ v. out_weight one v + joined_weight one v) s.views ≤ sum_by (thread_weight (within 1023)) s.views = sum_each _ _ s.views (λ i v e. named_within v (kept.each i v e)) in
      omega (arith, sum_plus (name_weight one) (joined_weight one) s.views, sum_plus (out_weight one) (joined_weight one) s.views, sum_up_to_within 1023 (slice_index s.words 2))

  bounded : (limit : ℕ) (kind : View → Drawn) (word : ℕ) → kind spent ≡ Rattle.turn_lock.specs.Rule.nothing → sum_by (λ v. drawn (above limit) (kind v)) s.views ≡ sum_up_to (above limit) word
      → ((v : View) → IsConsistent (length s.homes) (slice_index s.words 0) (slice_index s.words 2) (Rattle.turn_lock.specs.Rule.all_calls s.views) v → DrewFewAbove limit (length v.joined) (kind v)) → word ≤ limit + 1024
  bounded limit kind word none total sparing =
      let a : sum_by (λ v. drawn (above limit) (kind v)) s.views ≤ sum_by desks s.views = sum_each _ _ s.views (λ i v e. spared limit kind none v (sparing v) (kept.each i v e)) in
      omega (arith, sum_up_to_above limit word, crowd)

  pub clock_bound : slice_index s.words 0 ≤ 4001024
  clock_bound = bounded 4000000 (λ v. v.stamps) (slice_index s.words 0) refl (kept.stamps (above 4000000)) (λ v f. f.stamps)

  pub alloc_bound : slice_index s.words 1 ≤ 66560
  alloc_bound = bounded 65536 (λ v. v.allocs) (slice_index s.words 1) refl (kept.allocs (above 65536)) (λ v f. f.allocs)

  pub thread_bound : slice_index s.words 2 ≤ 2047
  thread_bound = bounded 1023 (λ v. v.threads) (slice_index s.words 2) refl (kept.threads (above 1023)) (λ v f. f.threads)
