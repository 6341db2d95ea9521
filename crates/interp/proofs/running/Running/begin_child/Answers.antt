use Rattle.std.proofs.Common.{ℕ, ap, sym, ◌∙◌, subst, refl, Contains}
use Rattle.std.proofs.lemmas.List.Elements.{Contains-push}
use Rattle.history.specs.declared.entry.Plain.TheVariants as plain
use Rattle.history.specs.declared.entry.Request.TheVariants as request
use Rattle.history.specs.declared.entry.Verdict.TheVariants as verdict
use Rattle.std.specs.Prelude.{None}
use Rattle.runs.specs.Machine.{MayGoOn}
use Rattle.source_sem.specs.Source.{source, source_ask}
use Rattle.turn_lock.specs.Plays.{DeskView}
use Rattle.alloc_space.specs.Steps.{IsNote}
use Rattle.interp.specs.declared.child.Begun.{Begun}
use Rattle.interp.specs.Views.{ThreadView, child_view}
use Rattle.interp.proofs.Advancing.{answered_view}
use Rattle.interp.proofs.Beginning.{ends_thread_limit, ends_past_spawn, begins_child, ready_child, first_child, greater}
use Rattle.interp.proofs.Reserving.{reserved_goes}
use Rattle.interp.proofs.running.Running.begin_child.Goals as goal

pub returns-in-Err-clause-ended : goal.returns-in-Err-clause-ended
returns-in-Err-clause-ended g c =
    let setting = g.T.Thread.setting in
    let state = g.T.Thread.state in
    let space = c.args.space.now in
    let r = c.reserve_child.new.self in
    let same = c.reserve_child.ensures.same in
    let on = reserved_goes setting state space c.args.self.now r same c.requires.on in
    let asks = ap (λ (v : ThreadView). source_ask v.setting v.state) same.machine ∙ c.requires.asks in
    let may = subst (λ (v : ThreadView). MayGoOn (source v.setting) space.limits.turns v.state) (sym same.machine) c.requires.may in
    ends_thread_limit setting state space r c.args.function asks may on c.number_thread.new.desk c.in-Err.limit.0 c.in-Err.ensures.0 c.in-Err.ensures.1

pub split-desk-requires-clause-drawn : goal.split-desk-requires-clause-drawn
split-desk-requires-clause-drawn g c =
    let n = c.in-Ok-number_thread.name.0 in
    let own = ap (λ (d : DeskView). d.view.threads.own) c.in-Done.ensures.step.desk ∙ ap (λ (d : DeskView). d.view.threads.own) c.in-Ok-number_thread.ensures.1.desk in
    (subst (λ xs. Contains xs n) (sym own) (Contains-push c.reserve_child.new.self.desk.view.threads.own n), c.in-Ok-number_thread.ensures.0)

pub returns-in-StepLimit-clause-ended : goal.returns-in-StepLimit-clause-ended
returns-in-StepLimit-clause-ended g c =
    let setting = g.T.Thread.setting in
    let state = g.T.Thread.state in
    let space = c.args.space.now in
    let r = c.reserve_child.new.self in
    let same = c.reserve_child.ensures.same in
    let on = reserved_goes setting state space c.args.self.now r same c.requires.on in
    let asks = ap (λ (v : ThreadView). source_ask v.setting v.state) same.machine ∙ c.requires.asks in
    let may = subst (λ (v : ThreadView). MayGoOn (source v.setting) space.limits.turns v.state) (sym same.machine) c.requires.may in
    ends_past_spawn setting state space r c.args.function asks may on c.number_thread.new.desk c.note.new.desk c.in-Ok-number_thread.name.0 c.in-StepLimit.stamp c.in-Ok-number_thread.ensures.1 c.in-StepLimit.ensures

pub returns-in-Done-clause-begun : goal.returns-in-Done-clause-begun
returns-in-Done-clause-begun g c =
    let setting = g.T.Thread.setting in
    let state = g.T.Thread.state in
    let space = c.args.space.now in
    let r = c.reserve_child.new.self in
    let same = c.reserve_child.ensures.same in
    let on = reserved_goes setting state space c.args.self.now r same c.requires.on in
    let asks = ap (λ (v : ThreadView). source_ask v.setting v.state) same.machine ∙ c.requires.asks in
    let may = subst (λ (v : ThreadView). MayGoOn (source v.setting) space.limits.turns v.state) (sym same.machine) c.requires.may in
    let f = c.args.function in
    let b : Begun g.row.T.Denot = record { number = c.in-Ok-number_thread.name; function = f; machine = c.in-Ok.machine; desk = c.split-desk.result } in
    let e = c.in-Done.entry in
    let child = c.in-Ok.ensures.child ∙ ap child_view (sym same.machine) in
    let note = subst (λ (n : ℕ). IsNote space.limits r.number n (request.Spawn f) record { plain = plain.Spawned c.in-Ok-number_thread.name; carried = None; verdict = verdict.Clean } c.number_thread.new.desk c.note.new.desk e) c.site-site.ensures c.in-Done.ensures in
    let m = c.answer.new.self in
    let is = answered_view setting state m r.machine e c.answer.ensures.setting c.answer.ensures.state in
    let num = c.in-Ok-number_thread.ensures.1 in
    let few = c.in-Ok-number_thread.ensures.0 in
    record {
      going = begins_child setting state space r f asks may on m c.number_thread.new.desk c.note.new.desk c.split-desk.new.desk c.push_reserved.new.self e b is c.push_reserved.ensures.items num few note c.split-desk.ensures.parent c.split-desk.ensures.child refl child;
      ready = ready_child setting state space r f asks may on m c.number_thread.new.desk c.note.new.desk c.split-desk.new.desk c.push_reserved.new.self e b is c.push_reserved.ensures.items num few note c.split-desk.ensures.parent c.split-desk.ensures.child refl child;
      first = first_child setting state space r f asks may on m c.number_thread.new.desk c.note.new.desk c.split-desk.new.desk c.push_reserved.new.self e b is c.push_reserved.ensures.items num few note c.split-desk.ensures.parent c.split-desk.ensures.child refl child;
      same_setting = ap (λ (v : ThreadView). v.setting) child ∙ sym c.answer.ensures.setting;
      greater = greater setting state space r f asks may on m c.number_thread.new.desk c.note.new.desk c.split-desk.new.desk c.push_reserved.new.self e b is c.push_reserved.ensures.items num few note c.split-desk.ensures.parent c.split-desk.ensures.child refl child;
      few = few;
      room = c.in-Ok.ensures.tree_room;
      kid_room = c.in-Ok.ensures.kid_room;
    }
