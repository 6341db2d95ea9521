use Rattle.std.proofs.Common.{◌+◌, List, [], ◌∷◌, ◌++◌, ◌≡◌, ◌<◌, ℕ, length, get_or, sym, ap, subst, ◌∙◌, arith, false, Some}
use Rattle.std.specs.Prelude.{Contains}
use Rattle.std.proofs.lemmas.List.{get_or_default}
use Rattle.history.specs.declared.entry.Entry.{Entry}
use Rattle.race_check.specs.declared.race.Race.{Race}
use Rattle.race_check.specs.Accesses.{accessed}
use Rattle.race_check.specs.Tracked.{is_raced, tracked_at, places_in, AreMarked}
use Rattle.race_check.specs.Vectors.{IsClock, AreRacesBefore, open_at}
use Rattle.race_check.specs.Found.{IsFirstPlace}
use Rattle.race_check.proofs.Conflicts.{alloc_of_accessed}
use Rattle.race_check.proofs.Tracking.{tracked_closed, marked_more}
use Rattle.race_check.proofs.Steps.{races_more, closed_stay, other_stay, first_open_is, none_open_is}
use Rattle.race_check.proofs.first.add_race.Goals as goal

pub returns-in_default : goal.returns-in_default
returns-in_default c = record {
  tracked = c.requires.found.tracked;
  marked = c.requires.found.marked;
  races = other_stay c.args.entries.now c.args.later c.index-entries-later.result c.requires.later (sym c.index-entries-later.is) c.args.found.now.races.items
      (sym c.accessed.ensures ∙ c.in_default.is) c.requires.found.races;
}

pub returns-in_default-first_open : goal.returns-in_default-first_open
returns-in_default-first_open c =
    let es = c.args.entries.now in
    let f = c.index-entries-later.result in
    let n = c.in-Some.number in
    let allocs = c.args.found.now.allocs in
    let here : get_or es c.args.later f ≡ f = sym c.index-entries-later.is in
    let named : accessed f ≡ Some n = sym c.accessed.ensures ∙ c.in-Some.is in
    let fresh : is_raced (tracked_at allocs n.0) ≡ false = c.requires.fresh f n (ap accessed here ∙ named) in
    let none : (j : ℕ) → j < c.args.later → Contains (places_in (tracked_at allocs n.0)) j → open_at es c.args.slots.now f c.args.clock.now j ≡ false =
    λ j lt in_places. subst (λ (x : Entry). open_at es c.args.slots.now x c.args.clock.now j ≡ false) here
    (c.in_default-first_open.ensures f j lt (subst (λ (ps : List ℕ). Contains ps j) (sym c.places-places.ensures) in_places)) in
    record {
      tracked = c.requires.found.tracked;
      marked = c.requires.found.marked;
      races = closed_stay es c.requires.rising c.args.slots.now c.requires.slots c.args.later f c.requires.later here c.args.clock.now
          (subst (λ (x : Entry). IsClock es c.args.slots.now.threads.items c.args.later x c.args.clock.now) here (c.requires.clock f)) c.args.found.now.races.items
          (none_open_is es c.args.slots.now f c.args.clock.now c.args.later c.requires.later allocs c.requires.found.tracked n (alloc_of_accessed f n named) fresh none) c.requires.found.races;
    }

pub returns : goal.returns
returns c =
    let es = c.args.entries.now in
    let f = c.index-entries-later.result in
    let n = c.in-Some.number in
    let allocs = c.args.found.now.allocs in
    let races = c.args.found.now.races.items in
    let here : get_or es c.args.later f ≡ f = sym c.index-entries-later.is in
    let named : accessed f ≡ Some n = sym c.accessed.ensures ∙ c.in-Some.is in
    let fresh : is_raced (tracked_at allocs n.0) ≡ false = c.requires.fresh f n (ap accessed here ∙ named) in
    let j = c.in-Some-first_open.earlier in
    let place : IsFirstPlace es c.args.slots.now f c.args.clock.now (places_in (tracked_at allocs n.0)) c.args.later j =
    subst (λ (ps : List ℕ). IsFirstPlace es c.args.slots.now f c.args.clock.now ps c.args.later j) c.places-places.ensures
    (subst (λ (x : Entry). IsFirstPlace es c.args.slots.now x c.args.clock.now c.places-places.result.now c.args.later j) here (c.in-Some-first_open.ensures f)) in
    let first = first_open_is es c.args.slots.now f c.args.clock.now c.args.later c.requires.later allocs c.requires.found.tracked n (alloc_of_accessed f n named) fresh j place in
    let inside : j < length es = omega (arith, first.inside, c.requires.later) in
    let race : Race = record { alloc = n; earlier = get_or es j f; later = f } in
    let early : c.in_ok-copy.field-0 ≡ get_or es j f = c.in_ok-copy.ensures ∙ c.index-entries-earlier.is ∙ get_or_default es j c.index-entries-earlier.result f inside in
    let late : c.in_ok-copy-2.field-0 ≡ f = c.in_ok-copy-2.ensures in
    let pushed : c.push.new.self.items ≡ races ++ race ∷ [] =
    c.in_ok-push.ensures.items ∙ ap (λ (x : Entry). races ++ record { alloc = n; earlier = x; later = c.in_ok-copy-2.field-0 } ∷ []) early
    ∙ ap (λ (x : Entry). races ++ record { alloc = n; earlier = get_or es j f; later = x } ∷ []) late in
    record {
      tracked = tracked_closed es c.args.slots.now (c.args.later + 1) allocs c.close.new.self n c.in_ok-close.ensures.raced c.in_ok-close.ensures.others c.requires.found.tracked;
      marked = subst (λ (rs : List Race). AreMarked rs c.close.new.self) (sym pushed)
          (marked_more races race allocs c.close.new.self c.in_ok-close.ensures.raced c.in_ok-close.ensures.others c.requires.found.marked);
      races = subst (λ (rs : List Race). AreRacesBefore es (c.args.later + 1) rs) (sym pushed)
          (races_more es c.requires.rising c.args.slots.now c.requires.slots c.args.later f c.requires.later here c.args.clock.now
          (subst (λ (x : Entry). IsClock es c.args.slots.now.threads.items c.args.later x c.args.clock.now) here (c.requires.clock f)) races n (alloc_of_accessed f n named)
          (sym (c.requires.found.marked n) ∙ fresh) j first c.requires.found.races);
    }
