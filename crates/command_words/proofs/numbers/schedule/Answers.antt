use Rattle.std.proofs.Common.{◌≡◌, ◌⊎◌, ◌∙◌, ◌≤◌, inl, inr, None, List, ℕ, Some, length, map, sym, [], ap, rules, arith}
use Rattle.command_words.specs.Schedules.{pick_of, picks_of}
use Rattle.command_words.proofs.NumberLemmas.{after, first_part, last_part, one_more, refused_schedule, whole_schedule}
use Rattle.std.proofs.lemmas.List.{length-map}
use Rattle.bsan_ids.specs.declared.numbers.ThreadNo.{ThreadNo}
use Rattle.command_words.proofs.numbers.schedule.Goals as goal

abbrev numbers_of : List ThreadNo → List ℕ
numbers_of picks = map (λ p. p.0) picks

counted : (picks : List ThreadNo) (other : Type 0) → other ⊎ (65536 ≤ length picks) → other ⊎ (65536 ≤ length (numbers_of picks))
counted picks other (inl is) = inl is
counted picks other (inr full) =
    let same : length (numbers_of picks) ≡ length picks = length-map picks (λ p. p.0) in inr (omega (arith, same, full))

pub returns-in_err-add_pick-clause-refused : goal.returns-in_err-add_pick-clause-refused
returns-in_err-add_pick-clause-refused c =
    let numbers = numbers_of c.loop-first.picks in
    let cut = c.in-Some.ensures.byte (omega arith) (λ w o f. f) in
    let part = first_part c.loop-first.rest.now c.in-Some.first.now c.in-Some.more.now cut.2 cut.0 cut.1 in
    λ is. refused_schedule c.args.text.now numbers (pick_of c.in-Some.first.now) (picks_of c.in-Some.more.now)
    (ap (after numbers) (sym part) ∙ c.loop-first.invariant.picks)
    (counted c.loop-first.picks (pick_of c.in-Some.first.now ≡ None) (c.add_pick.ensures.refused (search rules)))

pub loop-first-preserved : goal.loop-first-preserved
loop-first-preserved c =
    let numbers = numbers_of c.loop-first.picks in
    let cut = c.in-Some.ensures.byte (omega arith) (λ w o f. f) in
    let part = first_part c.loop-first.rest.now c.in-Some.first.now c.in-Some.more.now cut.2 cut.0 cut.1 in
    record {
      text = search rules;
      picks = sym (one_more numbers (numbers_of c.add_pick.new.picks) (pick_of c.in-Some.first.now) (picks_of c.in-Some.more.now) c.in_ok-add_pick.ensures.added)
          ∙ ap (after numbers) (sym part) ∙ c.loop-first.invariant.picks;
    }

pub returns-in_err-add_pick-2-clause-refused : goal.returns-in_err-add_pick-2-clause-refused
returns-in_err-add_pick-2-clause-refused c =
    let numbers = numbers_of c.loop-first.picks in
    let part = last_part c.loop-first.rest.now (c.in_default.ensures.byte (omega arith) (λ w o f. f)) in
    λ is. refused_schedule c.args.text.now numbers (pick_of c.loop-first.rest.now) (Some [])
    (ap (after numbers) (sym part) ∙ c.loop-first.invariant.picks)
    (counted c.loop-first.picks (pick_of c.loop-first.rest.now ≡ None) (c.add_pick-2.ensures.refused (search rules)))

pub returns-clause-numbers : goal.returns-clause-numbers
returns-clause-numbers c =
    let numbers = numbers_of c.loop-first.picks in
    let part = last_part c.loop-first.rest.now (c.in_default.ensures.byte (omega arith) (λ w o f. f)) in
    whole_schedule c.args.text.now numbers (numbers_of c.add_pick-2.new.picks) (pick_of c.loop-first.rest.now)
    (ap (after numbers) (sym part) ∙ c.loop-first.invariant.picks)
    c.in_ok-add_pick-2.ensures.added (let same : length (numbers_of c.loop-first.picks) ≡ length c.loop-first.picks = length-map c.loop-first.picks (λ p. p.0) in let room = c.in_ok-add_pick-2.ensures.room in omega (arith, same, room))
