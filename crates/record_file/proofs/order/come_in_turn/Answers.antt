use Rattle.std.proofs.Common.{List, Bool, sym, ◌∙◌, ap, subst, arith}
use Rattle.std.specs.Prelude.{Some}
use Rattle.std.proofs.lemmas.Bool.{true≢false}
use Rattle.runs.specs.Interleaving.{Allowed}
use Rattle.source_sem.specs.Records.{allowed}
use Rattle.record_file.specs.Following.{ComesNext, first_thread, no_thread, set_by}
use Rattle.record_file.proofs.Ordering.{drop_item, turn_first, turn_more, turn_stops}
use Rattle.record_file.proofs.order.come_in_turn.Goals as goal

pub loop-entry-init : goal.loop-entry-init
loop-entry-init c =
    turn_first (allowed c.args.limits.now c.args.hosts.now) first_thread no_thread c.set.new.flags.items c.in_ok-joined.joined.items c.args.entries.now
    (c.set.ensures ∙ ap (λ (f : List Bool). set_by f (Some 0)) (c.in_ok-started.ensures.items_if_clones_equal (λ y h. h))) (c.in_ok-joined.ensures.items_if_clones_equal (λ y h. h))

pub returns-then-not-comes_next : goal.returns-then-not-comes_next
returns-then-not-comes_next c =
    let A : Allowed = allowed c.args.limits.now c.args.hosts.now in
    let e = c.entry-item.result in
    let started = c.loop-entry.started.items in
    let joined = c.loop-entry.joined.items in
    let next : ComesNext A started joined e → ComesNext A c.deref.result.now c.deref-in-loop-entry.result.now e =
    λ n. subst (λ f. ComesNext A f c.deref-in-loop-entry.result.now e) (sym c.deref.ensures.value) (subst (λ f. ComesNext A started f e) (sym c.deref-in-loop-entry.ensures.value) n) in (
      λ no. absurd (true≢false (sym no)),
      λ h. absurd (turn_stops A first_thread no_thread started joined c.args.entries.now _ e _
          (drop_item c.args.entries.now c.loop-entry.entry-index e (omega arith) c.entry-item.is)
          (λ n. true≢false (sym (c.comes_next.ensures.1 (next n)) ∙ c.if-not-comes_next.true)) c.loop-entry.invariant h),
    )

pub loop-entry-preserved : goal.loop-entry-preserved
loop-entry-preserved c =
    let A : Allowed = allowed c.args.limits.now c.args.hosts.now in
    let e = c.entry-item.result in
    let started = c.loop-entry.started.items in
    let joined = c.loop-entry.joined.items in
    let right : ComesNext A started joined e =
    subst (λ f. ComesNext A f joined e) c.deref.ensures.value (subst (λ f. ComesNext A c.deref.result.now f e) c.deref-in-loop-entry.ensures.value (c.comes_next.ensures.0 c.if-not-comes_next.false)) in
    turn_more A first_thread no_thread started joined c.args.entries.now _ e _ c.set-in-loop-entry.new.flags.items c.set-in-loop-entry-2.new.flags.items
    (drop_item c.args.entries.now c.loop-entry.entry-index e (omega arith) c.entry-item.is)
    (c.set-in-loop-entry.ensures ∙ ap (set_by started) c.child_of.ensures) (c.set-in-loop-entry-2.ensures ∙ ap (set_by joined) c.joined_by.ensures) right c.loop-entry.invariant
