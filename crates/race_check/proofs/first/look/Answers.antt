use Rattle.std.proofs.Common.{◌≡◌, ◌<◌, length, get_or, sym, ap, subst, ◌∙◌, arith, false, Some, None}
use Rattle.std.proofs.lemmas.Grind.{common_steps}
use Rattle.std.proofs.lemmas.List.{get_or_default}
use Rattle.bsan_ids.specs.declared.numbers.AllocNo.{AllocNo}
use Rattle.history.specs.declared.entry.Entry.{Entry}
use Rattle.race_check.specs.declared.uses.Access.{Access}
use Rattle.race_check.specs.Accesses.{accessed}
use Rattle.race_check.specs.Uses.{access_of}
use Rattle.race_check.specs.Tracked.{is_raced, tracked_at, Notes, IsClear}
use Rattle.race_check.specs.Vectors.{IsClock}
use Rattle.race_check.proofs.Conflicts.{alloc_of_accessed}
use Rattle.race_check.proofs.Tracking.{tracked_other, tracked_more, marked_noted, number_of_access}
use Rattle.race_check.proofs.Steps.{other_stay, clear_stay}
use Rattle.race_check.proofs.first.look.Goals as goal

pub returns-in_default : goal.returns-in_default
returns-in_default c =
    let f = c.index-entries-later.result in
    let none : accessed f ≡ None = sym c.accessed.ensures ∙ c.in_default.is in
    record {
      tracked = tracked_other c.args.entries.now c.args.slots.now c.args.later f c.requires.later (sym c.index-entries-later.is) c.args.found.now.allocs none c.requires.found.tracked;
      marked = c.requires.found.marked;
      races = other_stay c.args.entries.now c.args.later f c.requires.later (sym c.index-entries-later.is) c.args.found.now.races.items none c.requires.found.races;
    }

pub add_race-requires-clause-fresh : goal.add_race-requires-clause-fresh
add_race-requires-clause-fresh c = λ d n names.
    let f = c.index-entries-later.result in
    let here : get_or c.args.entries.now c.args.later d ≡ f = get_or_default c.args.entries.now c.args.later d f c.requires.later ∙ sym c.index-entries-later.is in
    let named : accessed f ≡ Some c.in-Some.number = sym c.accessed.ensures ∙ c.in-Some.is in
    let same : c.in-Some.number ≡ n = number_of_access f c.in-Some.number n named (ap accessed (sym here) ∙ names) in
    subst (λ (m : AllocNo). is_raced (tracked_at c.note.new.self m.0) ≡ false) same (c.in_ok-is_unordered.ensures.notes.raced ∙ c.in_ok-is_unordered.ensures.fresh c.if-is_unordered.true)

pub add_race-requires-clause-found : goal.add_race-requires-clause-found
add_race-requires-clause-found c =
    let es = c.args.entries.now in
    let f = c.index-entries-later.result in
    let n = c.in-Some.number in
    let allocs = c.args.found.now.allocs in
    let named : accessed f ≡ Some n = sym c.accessed.ensures ∙ c.in-Some.is in
    let low : c.args.later < length c.args.slots.now.of_entry.items = grind (arith, common_steps, c.requires.slots.len, c.requires.later) in
    let slot : c.index-slot.result.now ≡ get_or c.args.slots.now.of_entry.items c.args.later 0 = c.index-slot.ensures ∙ get_or_default c.args.slots.now.of_entry.items c.args.later c.index-slot.result.now 0 low in
    let access : c.access_of-access.result ≡ access_of f c.args.later (get_or c.args.slots.now.of_entry.items c.args.later 0) = c.access_of-access.ensures ∙ ap (access_of f c.args.later) slot in
    let notes : Notes f.request (access_of f c.args.later (get_or c.args.slots.now.of_entry.items c.args.later 0)) (tracked_at allocs n.0) (tracked_at c.note.new.self n.0) =
    subst (λ (a : Access). Notes f.request a (tracked_at allocs n.0) (tracked_at c.note.new.self n.0)) access c.in_ok-is_unordered.ensures.notes in
    record {
      tracked = tracked_more es c.args.slots.now c.args.later f c.requires.later (sym c.index-entries-later.is) allocs c.note.new.self n named notes c.in_ok-is_unordered.ensures.others c.requires.found.tracked;
      marked = marked_noted c.args.found.now.races.items allocs c.note.new.self n notes.raced c.in_ok-is_unordered.ensures.others c.requires.found.marked;
      races = c.requires.found.races;
    }

pub returns-else-is_unordered : goal.returns-else-is_unordered
returns-else-is_unordered c =
    let es = c.args.entries.now in
    let f = c.index-entries-later.result in
    let n = c.in-Some.number in
    let allocs = c.args.found.now.allocs in
    let here : get_or es c.args.later f ≡ f = sym c.index-entries-later.is in
    let named : accessed f ≡ Some n = sym c.accessed.ensures ∙ c.in-Some.is in
    let low : c.args.later < length c.args.slots.now.of_entry.items = grind (arith, common_steps, c.requires.slots.len, c.requires.later) in
    let slot : c.index-slot.result.now ≡ get_or c.args.slots.now.of_entry.items c.args.later 0 = c.index-slot.ensures ∙ get_or_default c.args.slots.now.of_entry.items c.args.later c.index-slot.result.now 0 low in
    let access : c.access_of-access.result ≡ access_of f c.args.later (get_or c.args.slots.now.of_entry.items c.args.later 0) = c.access_of-access.ensures ∙ ap (access_of f c.args.later) slot in
    let notes : Notes f.request (access_of f c.args.later (get_or c.args.slots.now.of_entry.items c.args.later 0)) (tracked_at allocs n.0) (tracked_at c.note.new.self n.0) =
    subst (λ (a : Access). Notes f.request a (tracked_at allocs n.0) (tracked_at c.note.new.self n.0)) access c.in_ok-is_unordered.ensures.notes in
    record {
      tracked = tracked_more es c.args.slots.now c.args.later f c.requires.later here allocs c.note.new.self n named notes c.in_ok-is_unordered.ensures.others c.requires.found.tracked;
      marked = marked_noted c.args.found.now.races.items allocs c.note.new.self n notes.raced c.in_ok-is_unordered.ensures.others c.requires.found.marked;
      races = clear_stay es c.requires.rising c.args.slots.now c.requires.slots c.args.later f c.requires.later here c.args.clock.now
          (subst (λ (x : Entry). IsClock es c.args.slots.now.threads.items c.args.later x c.args.clock.now) here (c.requires.clock f)) c.args.found.now.races.items allocs
          c.requires.found.tracked c.requires.found.marked n (alloc_of_accessed f n named)
          (subst (λ (a : Access). IsClear f.request a.kind c.args.clock.now (tracked_at allocs n.0)) access (c.in_ok-is_unordered.ensures.below c.if-is_unordered.false)) c.requires.found.races;
    }
