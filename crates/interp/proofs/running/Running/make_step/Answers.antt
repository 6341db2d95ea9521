use Rattle.std.proofs.Common.{ℕ, ◌++◌, ◌∷◌, [], sym, ◌∙◌, ap, subst}
use Rattle.source_sem.specs.Source.{source_site}
use Rattle.ir_ast.specs.declared.hosts.HostTable.{HostTable}
use Rattle.interp.specs.Came.{IsDone}
use Rattle.interp.specs.Views.{ThreadView, answered}
use Rattle.interp.proofs.Advancing.{ends_step, entry_goes, step_fits, same_view, answered_view}
use Rattle.interp.proofs.running.Running.make_step.Goals as goal

pub step-requires-clause-fits : goal.step-requires-clause-fits
step-requires-clause-fits g c = step_fits g.T.Thread.setting g.T.Thread.state c.args.space.now c.args.self.now c.args.ask (g.H.HostCalls.table c.args.hosts.now) c.requires.asks c.requires.hosts c.requires.on

pub answer-requires-clause-fits : goal.answer-requires-clause-fits
answer-requires-clause-fits g c = c.in-Done.ensures.entry.fitting.fits _

pub returns-in-Done-clause-came : goal.returns-in-Done-clause-came
returns-in-Done-clause-came g c =
    let setting = g.T.Thread.setting in
    let state = g.T.Thread.state in
    let r = c.args.self.now in
    let m = c.prepare.new.self in
    let e = c.in-Done.entry in
    let same = same_view setting state m r.machine c.prepare.ensures.setting c.prepare.ensures.state in
    entry_goes setting state c.args.space.now r c.answer.new.self c.step.new.desk c.push_reserved.new.self c.args.ask e
    (answered_view setting state c.answer.new.self m e c.answer.ensures.setting c.answer.ensures.state ∙ ap (λ (v : ThreadView). answered v e) same)
    (c.push_reserved.ensures.items ∙ ap (λ l. l ++ e ∷ []) c.reserve.ensures.items)
    c.requires.asks c.requires.may c.requires.step
    (subst (λ (h : HostTable). IsDone c.args.space.now.limits h r.number (source_site (state r.machine)) c.args.ask r.desk c.step.new.desk e) (sym c.requires.hosts)
    (subst (λ (n : ℕ). IsDone c.args.space.now.limits (g.H.HostCalls.table c.args.hosts.now) r.number n c.args.ask r.desk c.step.new.desk e) (c.site-site.ensures ∙ ap source_site c.prepare.ensures.state) c.in-Done.ensures))
    c.requires.on

pub returns-in-Over-clause-came : goal.returns-in-Over-clause-came
returns-in-Over-clause-came g c =
    let r = c.args.self.now in
    ends_step g.T.Thread.setting g.T.Thread.state c.args.space.now r c.prepare.new.self (same_view g.T.Thread.setting g.T.Thread.state c.prepare.new.self r.machine c.prepare.ensures.setting c.prepare.ensures.state)
    c.reserve.new.self c.reserve.ensures.items c.step.new.desk c.args.ask c.in-Over.end c.requires.asks c.requires.may c.in-Over.ensures c.requires.on
