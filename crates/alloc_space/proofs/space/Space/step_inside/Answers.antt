use Rattle.std.proofs.Common.{◌≡◌, ℕ, ◌-◌, ◌++◌, ◌∷◌, [], ◌∙◌, ap, sym, arith, true, false}
use Rattle.history.specs.declared.entry.Entry.{Entry}
use Rattle.alloc_state.specs.Log.{Log}
use Rattle.history.specs.Histories.{is_make_step}
use Rattle.history.specs.Merge.{stamp_of}
use Rattle.history.specs.Restriction.{number_of}
use Rattle.turn_lock.specs.Steps.{drew_stamp, took}
use Rattle.turn_lock.specs.Plays.{DeskView}
use Rattle.alloc_space.specs.Steps.{has_slot}
use Rattle.turn_lock.proofs.Turning.{gives_taken, gives_stamped, gives_call}
use Rattle.alloc_space.proofs.Stepping.{prepared_keeps, seen_desk, past_desk, step_desk, entries_below, makes_none, last_of, entry_of, slot_of}
use Rattle.alloc_space.proofs.space.Space.step_inside.Goals as goal

pub give-requires-clause-turn : goal.give-requires-clause-turn
give-requires-clause-turn g c =
    let kept = prepared_keeps c.prepare.result c.take-state.result c.prepare.new.self _ c.prepare.ensures.ok c.prepare.ensures.err in
    let low = c.requires.slot.0 in
    gives_taken c.args.desk.now.view c.take-state.new.desk.view (c.args.alloc.0 - 1) c.take-state.result.entries c.prepare.new.self.entries c.args.alloc.0 (omega arith)
    (ap (λ (d : DeskView). d.view) c.take-state.ensures.desk) kept.0

pub give-requires-then-stamp-limit-clause-turn : goal.give-requires-then-stamp-limit-clause-turn
give-requires-then-stamp-limit-clause-turn g c =
    let kept = prepared_keeps c.prepare.result c.take-state.result c.prepare.new.self _ c.prepare.ensures.ok c.prepare.ensures.err in
    let low = c.requires.slot.0 in
    let n = c.draw_stamp-stamp.result.0 in
    gives_stamped c.args.desk.now.view c.draw_stamp-stamp.new.desk.view (c.args.alloc.0 - 1) c.take-state.result.entries c.prepare.new.self.entries c.args.alloc.0 (omega arith) n
    (ap (λ (d : DeskView). d.view) c.draw_stamp-stamp.ensures.desk ∙ ap (λ (d : DeskView). drew_stamp d.view n) c.take-state.ensures.desk) kept.0

pub returns-then-is_err : goal.returns-then-is_err
returns-then-is_err g c =
    let kept = prepared_keeps c.prepare.result c.take-state.result c.prepare.new.self _ c.prepare.ensures.ok c.prepare.ensures.err in
    seen_desk c.args.desk.now c.take-state.new.desk c.give.new.desk (c.args.alloc.0 - 1) c.take-state.result.entries c.prepare.new.self.entries c.requires.idle c.take-state.ensures.desk kept.0 c.give.ensures

pub returns-then-stamp-limit : goal.returns-then-stamp-limit
returns-then-stamp-limit g c =
    let kept = prepared_keeps c.prepare.result c.take-state.result c.prepare.new.self _ c.prepare.ensures.ok c.prepare.ensures.err in
    let above = c.if-stamp-limit.true in
    past_desk c.args.desk.now c.take-state.new.desk c.give-then-stamp-limit.new.desk (c.args.alloc.0 - 1) c.take-state.result.entries c.prepare.new.self.entries c.requires.idle c.take-state.ensures.desk
    c.args.self.now.limits c.draw_stamp-stamp.result.0 c.draw_stamp-stamp.new.desk c.draw_stamp-stamp.ensures.desk c.draw_stamp-stamp.ensures.later kept.0 (let same = ap (λ s. s.limits.steps) c.self.view_is in omega (arith, above)) c.give-then-stamp-limit.ensures

pub commit-entry-requires-clause-later : goal.commit-entry-requires-clause-later
commit-entry-requires-clause-later g c =
    let kept = prepared_keeps c.prepare.result c.take-state.result c.prepare.new.self _ c.prepare.ensures.ok c.prepare.ensures.err in
    entries_below c.args.desk.now c.take-state.new.desk c.take-state.new.desk (c.args.alloc.0 - 1) c.take-state.result.entries c.prepare.new.self.entries c.requires.idle c.take-state.ensures.desk
    c.args.self.now.limits c.draw_stamp-stamp.result.0 c.draw_stamp-stamp.new.desk c.draw_stamp-stamp.ensures.desk c.draw_stamp-stamp.ensures.later kept.0

pub commit-entry-requires-clause-once : goal.commit-entry-requires-clause-once
commit-entry-requires-clause-once g c = λ make.
    let kept = prepared_keeps c.prepare.result c.take-state.result c.prepare.new.self _ c.prepare.ensures.ok c.prepare.ensures.err in
    let told = c.take-state.ensures.told in
    ap (λ es. Rattle.alloc_state.specs.Log.has_make es) kept.0 ∙ makes_none c.args.alloc.0 c.take-state.result.entries told.about (told.fresh (c.requires.fresh make))

pub give-requires-2-clause-turn : goal.give-requires-2-clause-turn
give-requires-2-clause-turn g c =
    let kept = prepared_keeps c.prepare.result c.take-state.result c.prepare.new.self _ c.prepare.ensures.ok c.prepare.ensures.err in
    let low = c.requires.slot.0 in
    let n = c.draw_stamp-stamp.result.0 in
    let v = c.args.desk.now.view in
    let k : ℕ = c.args.alloc.0 - 1 in
    let es = c.take-state.result.entries in
    let e : Entry = c.commit-entry.result in
    let entry = c.commit-entry.ensures.entry in
    let stamp : stamp_of e ≡ n = ap (λ (x : Entry). x.stamp.0) entry in
    let named = ap (λ a. a.0) kept.1 ∙ c.take-state.ensures.number in
    gives_call v c.draw_stamp-stamp.new.desk.view k es c.commit-entry.new.self.entries c.args.alloc.0 (omega arith) e
    (ap (λ (d : DeskView). d.view) c.draw_stamp-stamp.ensures.desk ∙ (ap (λ (d : DeskView). drew_stamp d.view n) c.take-state.ensures.desk ∙ ap (λ m. drew_stamp (took v k es) m) (sym stamp)))
    (ap (λ (l : Log). l.entries) c.commit-entry.ensures.appended ∙ ap (λ l. l ++ e ∷ []) kept.0)
    (ap (λ (x : Entry). number_of x.alloc) entry ∙ named)
    (λ make. c.requires.fresh (ap is_make_step (sym entry) ∙ make))

pub returns : goal.returns
returns g c =
    let kept = prepared_keeps c.prepare.result c.take-state.result c.prepare.new.self _ c.prepare.ensures.ok c.prepare.ensures.err in
    let entry = c.commit-entry.ensures.entry in
    let e : Entry = c.commit-entry.result in
    let named = ap (λ a. a.0) kept.1 ∙ c.take-state.ensures.number in
    let few = c.if-stamp-limit.false in
    let limits = c.args.self.now.limits in
    let slot = slot_of limits.allocs c.args.alloc.0 c.requires.slot.0 c.requires.slot.1 in
    record {
      entry = entry_of c.args.thread c.draw_stamp-stamp.result c.args.site c.prepare.new.self.number c.args.alloc c.args.request _ e entry named;
      answers = last_of limits c.args.alloc.0 c.prepare.new.self c.commit-entry.new.self e c.commit-entry.ensures.appended c.commit-entry.ensures.history c.commit-entry.ensures.bytes named (λ out. absurd (clash (sym slot ∙ out)));
      step = step_desk c.args.desk.now c.take-state.new.desk c.give-2.new.desk (c.args.alloc.0 - 1) c.take-state.result.entries c.commit-entry.new.self.entries c.requires.idle c.take-state.ensures.desk
          limits c.draw_stamp-stamp.result.0 c.draw_stamp-stamp.new.desk c.draw_stamp-stamp.ensures.desk c.draw_stamp-stamp.ensures.later e (ap (λ (x : Entry). x.stamp.0) entry)
          (ap (λ (l : Log). l.entries) c.commit-entry.ensures.appended ∙ ap (λ l. l ++ e ∷ []) kept.0) (let same = ap (λ s. s.limits.steps) c.self.view_is in omega (arith, few))
          (ap (λ (x : Entry). has_slot limits.allocs (number_of x.alloc)) entry ∙ ap (λ n. has_slot limits.allocs n) named ∙ slot) c.give-2.ensures;
    }
  where
    clash : true ≡ false → ⊥
    clash x = cc
