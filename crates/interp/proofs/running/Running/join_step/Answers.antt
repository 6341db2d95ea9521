use Rattle.std.proofs.Common.{ap, sym, ◌∙◌, subst}
use Rattle.runs.specs.Machine.{MayGoOn}
use Rattle.source_sem.specs.Source.{source, source_ask}
use Rattle.interp.proofs.Joining.{ends_joining, ended_goes_on}
use Rattle.interp.proofs.running.Running.join_step.Goals as goal

pub returns-in_default : goal.returns-in_default
returns-in_default g c =
    let setting = g.T.Thread.setting in
    let state = g.T.Thread.state in
    let r = c.await_child.new.self in
    let root = c.await_child.ensures.root in
    let same = c.await_child.ensures.machine in
    let asks = ap (λ m. source_ask (setting m) (state m)) same ∙ sym c.requires.waits.asks in
    let may = subst (λ m. MayGoOn (source (setting m)) c.args.space.now.limits.turns (state m)) (sym same) c.requires.waits.may in
    record {
      came = ends_joining setting state c.args.space.now r c.args.child asks may root.0 root.1 root.2 (λ v p is. c.in_default.not-Returned v p (sym root.3 ∙ is)) c.await_child.ensures.on;
      same = c.await_child.ensures.same;
      later = λ is. absurd (ended_goes_on _ is);
    }
