use Rattle.std.proofs.Common.{◌≡◌, ℕ, ◌-◌, ◌∙◌, ◌++◌, ◌∷◌, [], ap, sym, arith}
use Rattle.history.specs.declared.entry.Entry.{Entry}
use Rattle.turn_lock.specs.declared.view.View.{View}
use Rattle.history.specs.Merge.{stamp_of}
use Rattle.history.specs.Restriction.{number_of}
use Rattle.turn_lock.specs.Steps.{drew_stamp, took}
use Rattle.turn_lock.proofs.Turning.{gives_taken, gives_call, never_makes}
use Rattle.bench.proofs.journal.call.Goals as goal

pub give-requires-clause-turn : goal.give-requires-clause-turn
give-requires-clause-turn g c =
    let positive = c.requires.slot.0 in
    gives_taken c.args.desk.now.view c.take-journal.new.desk.view (c.args.alloc.0 - 1) c.take-journal.result.entries.items c.reserve.new.self.entries.items c.args.alloc.0 (omega arith)
    (ap (λ d. d.view) c.take-journal.ensures.desk) c.reserve.ensures.same.1

pub give-requires-2-clause-turn : goal.give-requires-2-clause-turn
give-requires-2-clause-turn g c =
    let positive = c.requires.slot.0 in
    let v : View = c.args.desk.now.view in
    let k : ℕ = c.args.alloc.0 - 1 in
    let es = c.take-journal.result.entries.items in
    let e : Entry = c.entry_of_call.result in
    let n : ℕ = c.draw_stamp-stamp.result.0 in
    let stamp : stamp_of e ≡ n = ap (λ s. s.0) c.entry_of_call.ensures.stamp_is in
    gives_call v c.draw_stamp-stamp.new.desk.view k es c.push.new.self.entries.items c.args.alloc.0 (omega arith) e
    (ap (λ d. d.view) c.draw_stamp-stamp.ensures.desk ∙ (ap (λ d. drew_stamp d.view n) c.take-journal.ensures.desk ∙ ap (λ m. drew_stamp (took v k es) m) (sym stamp)))
    (c.push.ensures.1 ∙ ap (λ l. l ++ e ∷ []) c.reserve.ensures.same.1) (ap number_of c.entry_of_call.ensures.alloc_is) (never_makes v c.args.alloc.0 e c.entry_of_call.ensures.no_make)
