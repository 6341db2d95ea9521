use Rattle.std.proofs.Common.{ℕ, ◌≡◌, ◌<◌, false, get_or, length, sym, subst, ◌∙◌, below_more, arith}
use Rattle.std.proofs.lemmas.Grind.{common_steps}
use Rattle.std.proofs.lemmas.List.{get_or_default}
use Rattle.race_check.specs.Vectors.{open_at}
use Rattle.race_check.proofs.Steps.{open_is, before_place}
use Rattle.race_check.proofs.first.first_open.Goals as goal
use Rattle.race_check.proofs.first.first_open.Goals.{then-earlier-later+else-is_open, else-earlier-later}

pub returns-then-is_open : goal.returns-then-is_open
returns-then-is_open c = λ d.
    let es = c.args.entries.now in
    let places = c.args.places.now in
    let n = c.loop-place.place-index in
    let j : ℕ = get_or places n 0 in
    let low : j < length c.args.slots.now.of_entry.items = grind (arith, common_steps, c.requires.slots.len) in
    record {
      inside = c.if-earlier-later.true;
      is_open = sym (open_is es c.args.slots.now.of_entry.items c.args.clock.now c.args.later j c.index-slot.result.now c.index-entries-earlier.result c.index-entries-later.result d
          c.requires.later (omega arith) low c.index-entries-earlier.is c.index-entries-later.is c.index-slot.ensures) ∙ sym c.is_open.ensures ∙ c.if-is_open.true;
      first = λ k lt in_places. before_place places c.requires.rising
          (λ (p : ℕ). p < c.args.later → open_at es c.args.slots.now (get_or es c.args.later d) c.args.clock.now p ≡ false) n c.loop-place-test.true (c.loop-place.invariant d) k lt in_places (omega arith);
    }

pub loop-place-preserved : goal.loop-place-preserved
loop-place-preserved c = λ d.
    let es = c.args.entries.now in
    let places = c.args.places.now in
    let j : ℕ = get_or places c.loop-place.place-index 0 in
    below_more (λ (p : ℕ). get_or places p 0 < c.args.later → open_at es c.args.slots.now (get_or es c.args.later d) c.args.clock.now (get_or places p 0) ≡ false) _ (c.loop-place.invariant d)
    (elim c.if-earlier-later.branch [
      | then-earlier-later+else-is_open w ↦ λ below.
          let low : j < length c.args.slots.now.of_entry.items = grind (arith, common_steps, c.requires.slots.len) in
          sym (open_is es c.args.slots.now.of_entry.items c.args.clock.now c.args.later j w.index-slot.result.now w.index-entries-earlier.result w.index-entries-later.result d
          c.requires.later (omega arith) low w.index-entries-earlier.is w.index-entries-later.is w.index-slot.ensures) ∙ sym w.is_open.ensures ∙ w.if-is_open.false
      | else-earlier-later w ↦ λ below. absurd (omega (arith, w.if-earlier-later.false))
    ])

pub returns : goal.returns
returns c = λ d j low in_places.
    let places = c.args.places.now in
    let at : get_or places in_places.0 0 ≡ j = get_or_default places in_places.0 0 j in_places.1 ∙ in_places.2 in
    subst (λ (p : ℕ). open_at c.args.entries.now c.args.slots.now (get_or c.args.entries.now c.args.later d) c.args.clock.now p ≡ false) at
    (c.loop-place.invariant d in_places.0 (omega (arith, in_places.1)) (omega arith))
