use Rattle.std.proofs.Common.{ℕ, List, ◌≡◌, ◌≢◌, ◌<◌, length, get_or, sym, ap, subst, ◌∙◌, arith}
use Rattle.std.proofs.lemmas.Grind.{common_steps}
use Rattle.std.proofs.lemmas.List.{get_or_default}
use Rattle.bsan_ids.specs.declared.numbers.ThreadNo.{ThreadNo}
use Rattle.history.specs.declared.entry.Entry.{Entry}
use Rattle.race_check.specs.Vectors.{IsClock}
use Rattle.race_check.proofs.Walk.{clock_is, clocks_after}
use Rattle.race_check.proofs.first.advance.Goals as goal

pub returns-clause-clocks : goal.returns-clause-clocks
returns-clause-clocks c =
    let f = c.index-entries-later.result in
    let threads = c.args.slots.now.threads.items in
    let at : get_or c.args.entries.now c.args.later f ≡ f = sym c.index-entries-later.is in
    let own_is : c.deref-3.result.now ≡ c.set_own.new.clock.items = c.deref-3.ensures.value in
    clocks_after c.args.entries.now c.requires.rising threads c.args.later f c.requires.later at c.args.clocks.now c.note.new.self c.requires.clocks
    c.in_ok-clock.clock.items c.deref-3.result.now
    (clock_is c.args.entries.now c.requires.rising threads c.args.later f c.requires.later at c.args.clocks.now c.requires.clocks
    c.in_ok-clock.clock.items (λ s lt. c.in_ok-clock.ensures.marks s (first_of (omega (arith, c.len.ensures), grind (arith, common_steps)))))
    (omega (arith, c.deref-3.ensures.len, c.set_own.ensures.len, c.in_ok-own.ensures.len, c.deref.ensures.len, c.in_ok-clock.ensures.len, c.len.ensures, c.deref-2.ensures.len, ap length c.deref-2.ensures.value))
    (λ s lt same. ap (λ (xs : List ℕ). get_or xs s 0) own_is
    ∙ c.set_own.ensures.own s (subst (λ (ts : List ThreadNo). s < length ts) (sym c.deref-2.ensures.value) lt) (subst (λ (ts : List ThreadNo). get_or ts s f.thread ≡ f.thread) (sym c.deref-2.ensures.value) same))
    (λ s lt other. ap (λ (xs : List ℕ). get_or xs s 0) own_is
    ∙ c.set_own.ensures.others s (subst (λ (ts : List ThreadNo). s < length ts) (sym c.deref-2.ensures.value) lt) (subst (λ (ts : List ThreadNo). get_or ts s f.thread ≢ f.thread) (sym c.deref-2.ensures.value) other)
    ∙ ap (λ (xs : List ℕ). get_or xs s 0) (c.in_ok-own.ensures.items ∙ c.deref.ensures.value))
    c.in_ok-note.ensures.given
    c.in_ok-note.ensures.others

pub returns-clause-clock : goal.returns-clause-clock
returns-clause-clock c = λ d.
    let f = c.index-entries-later.result in
    let threads = c.args.slots.now.threads.items in
    let here : get_or c.args.entries.now c.args.later d ≡ f = get_or_default c.args.entries.now c.args.later d f c.requires.later ∙ sym c.index-entries-later.is in
    subst (λ (x : Entry). IsClock c.args.entries.now threads c.args.later x c.in_ok-clock.clock.items) (sym here)
    (clock_is c.args.entries.now c.requires.rising threads c.args.later f c.requires.later (sym c.index-entries-later.is) c.args.clocks.now c.requires.clocks
    c.in_ok-clock.clock.items (λ s lt. c.in_ok-clock.ensures.marks s (first_of (omega (arith, c.len.ensures), grind (arith, common_steps)))))
