use Rattle.std.proofs.Common.{ℕ, ◌++◌, ◌∷◌, [], ap, sym, ◌∙◌, subst}
use Rattle.history.specs.declared.ask.Ask.TheVariants as ask
use Rattle.history.specs.declared.entry.Request.TheVariants as request
use Rattle.history.specs.declared.log.End.TheVariants as log_end
use Rattle.source_sem.specs.Source.{source_site, source_fits}
use Rattle.alloc_space.specs.Steps.{IsNote}
use Rattle.interp.specs.Views.{ThreadView, answered}
use Rattle.interp.proofs.Advancing.{ends_step, same_view, answered_view}
use Rattle.interp.proofs.Coming.{over_past}
use Rattle.interp.proofs.Joining.{join_fits, join_goes, join_reply}
use Rattle.interp.proofs.running.Running.note_join.Goals as goal

pub answer-requires-clause-fits : goal.answer-requires-clause-fits
answer-requires-clause-fits g c =
    let setting = g.T.Thread.setting in
    let state = g.T.Thread.state in
    let q = c.requires.root in
    let r = c.args.self.now in
    subst (λ (v : ThreadView). source_fits v.setting v.state c.in-Done.entry) (sym (same_view setting state c.prepare.new.self r.machine c.prepare.ensures.setting c.prepare.ensures.state))
    (join_fits setting state c.args.space.now r c.args.child c.requires.asks c.requires.may q.0 q.1 q.2 c.args.value c.args.carried q.3 c.requires.on c.in-Done.entry c.in-Done.ensures.entry.request_is c.in-Done.ensures.reply_is)

pub returns-in-Done-clause-came : goal.returns-in-Done-clause-came
returns-in-Done-clause-came g c =
    let setting = g.T.Thread.setting in
    let state = g.T.Thread.state in
    let q = c.requires.root in
    let r = c.args.self.now in
    let m = c.prepare.new.self in
    let e = c.in-Done.entry in
    join_goes setting state c.args.space.now r c.args.child c.requires.asks c.requires.may q.0 q.1 q.2 c.args.value c.args.carried q.3 c.requires.on
    c.answer.new.self c.note.new.desk c.push_reserved.new.self e
    (answered_view setting state c.answer.new.self m e c.answer.ensures.setting c.answer.ensures.state ∙ ap (λ (v : ThreadView). answered v e) (same_view setting state m r.machine c.prepare.ensures.setting c.prepare.ensures.state))
    (c.push_reserved.ensures.items ∙ ap (λ l. l ++ e ∷ []) c.reserve.ensures.items)
    (subst (λ (n : ℕ). IsNote c.args.space.now.limits r.number n (request.Join c.args.child) (join_reply setting state c.args.space.now r c.args.child c.requires.asks c.requires.may q.0 q.1 q.2 c.args.value c.args.carried q.3 c.requires.on) r.desk c.note.new.desk e) (c.site-site.ensures ∙ ap source_site c.prepare.ensures.state) c.in-Done.ensures)

pub returns-in-StepLimit-clause-came : goal.returns-in-StepLimit-clause-came
returns-in-StepLimit-clause-came g c =
    let r = c.args.self.now in
    ends_step g.T.Thread.setting g.T.Thread.state c.args.space.now r c.prepare.new.self (same_view g.T.Thread.setting g.T.Thread.state c.prepare.new.self r.machine c.prepare.ensures.setting c.prepare.ensures.state)
    c.reserve.new.self c.reserve.ensures.items c.note.new.desk (ask.Join c.args.child) (log_end.StepLimit c.in-StepLimit.stamp)
    (sym c.requires.asks) c.requires.may (over_past c.args.space.now.limits (ask.Join c.args.child) r.desk c.note.new.desk c.requires.on.ready c.in-StepLimit.stamp tt c.in-StepLimit.ensures) c.requires.on
