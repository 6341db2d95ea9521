-- A turn that is given back with one call more or none, from what the calls before it say of the desk.
use Rattle.std.proofs.Common.{◌≡◌, ℕ, suc, max, true, false, List, [], ◌∷◌, ◌++◌, append-nil, length, drop, Some, None, refl, sym, ap, ◌∙◌, subst, inl, inr, arith}
use lib.Seq.{drop-append_seam}
use Rattle.history.specs.declared.entry.Entry.{Entry}
use Rattle.turn_lock.specs.declared.view.HeldTurn.{HeldTurn}
use Rattle.turn_lock.specs.declared.view.View.{View}
use Rattle.history.specs.Merge.{stamp_of}
use Rattle.history.specs.Histories.{is_make_step}
use Rattle.history.specs.Restriction.{number_of}
use Rattle.turn_lock.specs.Weights.{latest}
use Rattle.turn_lock.specs.Steps.{draws, took, gave, drew_stamp, held_turn, saw, called}
use Rattle.turn_lock.specs.Plays.{Extends, IsFresh}

-- what a turn asks of the value with which it is given back
abbrev pub MayGive : View → ℕ → List Entry → Type 0
MayGive w alloc es = (t : HeldTurn) × (w.turn ≡ Some t) × (suc t.slot ≡ alloc) × Extends w t es

-- the desk drew this stamp, which it has seen
abbrev pub stamped : View → ℕ → View
stamped v n = record v { stamps = draws v.stamps n; seen = n }

clash : true ≡ false → ⊥
clash e = cc

module _ (v w : View) (k : ℕ) (es after : List Entry) (alloc : ℕ) (slot : suc k ≡ alloc) where
  pub gives_taken : w ≡ took v k es → after ≡ es → MayGive w alloc after
  gives_taken is same = subst (λ (u : View). MayGive u alloc after) (sym is) (held_turn k es, refl, slot, inl same)

  pub gives_stamped : (n : ℕ) → w ≡ drew_stamp (took v k es) n → after ≡ es → MayGive w alloc after
  gives_stamped n is same = subst (λ (u : View). MayGive u alloc after) (sym is) (record { slot = k; taken = es; since = n ∷ [] }, refl, slot, inl same)

  pub gives_call : (e : Entry) → w ≡ drew_stamp (took v k es) (stamp_of e) → after ≡ es ++ e ∷ [] → number_of e.alloc ≡ alloc → (is_make_step e ≡ true → IsFresh v alloc) → MayGive w alloc after
  gives_call e is same names fresh = subst (λ (u : View). MayGive u alloc after) (sym is)
      (record { slot = k; taken = es; since = stamp_of e ∷ [] }, refl, slot, inr (e, same, (0, omega arith, refl), names ∙ sym slot, λ make. subst (IsFresh v) (sym slot) (fresh make)))

pub never_makes : (v : View) (n : ℕ) (e : Entry) → is_make_step e ≡ false → is_make_step e ≡ true → IsFresh v n
never_makes v n e no_make make = absurd (clash (sym make ∙ no_make))

nothing_beyond : (calls es : List Entry) → calls ++ drop (length es) es ≡ calls
nothing_beyond calls es = ap (λ l. calls ++ l) (ap (drop (length es)) (sym (append-nil es)) ∙ drop-append_seam es []) ∙ append-nil calls

module _ (v : View) (k : ℕ) (es : List Entry) (idle : v.turn ≡ None) where
  pub gave_nothing : gave (took v k es) es ≡ saw v (max v.seen (latest es))
  gave_nothing = λ i. record v { seen = max v.seen (latest es); calls = nothing_beyond v.calls es i; turn = sym idle i }

  pub gave_stamped : (n : ℕ) → gave (drew_stamp (took v k es) n) es ≡ stamped v n
  gave_stamped n = λ i. record (drew_stamp v n) { calls = nothing_beyond v.calls es i; turn = sym idle i }

  pub gave_call : (e : Entry) → gave (drew_stamp (took v k es) (stamp_of e)) (es ++ e ∷ []) ≡ called v e
  gave_call e = λ i. record (drew_stamp v (stamp_of e)) { calls = v.calls ++ drop-append_seam es (e ∷ []) i; turn = sym idle i }
