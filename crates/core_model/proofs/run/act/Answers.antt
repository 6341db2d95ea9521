use Rattle.std.proofs.Common.{◌≡◌, ◌∙◌, sym, ap, subst, Some, rules}
use Rattle.std.specs.Prelude.{slice_get, slice_set}
use Rattle.history.specs.declared.ask.Ask.TheVariants as ask
use Rattle.history.specs.declared.log.End.TheVariants as log_end
use Rattle.core_model.specs.Fibers.{all_seen}
use Rattle.core_model.specs.Running.{UnderWay, Settled}
use Rattle.core_model.proofs.Choosing.{got_set}
use Rattle.core_model.proofs.Taking.{own_picked, wait_picked, memory_picked}
use Rattle.core_model.proofs.SeenLists.{ends_in}
use Rattle.core_model.proofs.run.act.Goals as goal

pub returns-in-Ended : goal.returns-in-Ended
returns-in-Ended g c = λ x before p f now s.
    let L = c.args.limits.now in
    let H = c.args.hosts.now.table in
    let F = all_seen g.T.Thread.setting g.T.Thread.state c.args.run.now.fibers.items in
    let after = all_seen g.T.Thread.setting g.T.Thread.state c.end_thread.new.run.fibers.items in
    let t = c.args.number.0 in
    let here : slice_get F t ≡ Some (record f { state = now }) = ap (λ l. slice_get l t) s.fibers_are ∙ got_set before t f (record f { state = now }) s.at in
    let pick = own_picked x L H before c.args.run.now.memory p t f now c.args.ask F s c.in-Ended.end c.in-Ended.is after
    (c.end_thread.ensures.fibers (record f { state = now }) here ∙ ap (λ w. slice_set F t (record f { state = now; «end» = Some w })) c.end_by.ensures) in
    (pick.0, pick.1, subst (λ m. UnderWay x L H after m pick.0) (sym c.end_thread.ensures.memory) pick.2)

pub returns-in-None : goal.returns-in-None
returns-in-None g c = λ x before p f now s.
    wait_picked x c.args.limits.now c.args.hosts.now.table before c.args.run.now.memory p c.args.number.0 f now c.args.ask (all_seen g.T.Thread.setting g.T.Thread.state c.args.run.now.fibers.items) s c.in-Join.child c.in-Join.is
    (sym (ends_in g.T.Thread.setting g.T.Thread.state c.args.run.now.fibers.items c.in-Join.child.0) ∙ search rules)

pub returns-in_default-end_of : goal.returns-in_default-end_of
returns-in_default-end_of g c = λ x before p f now s.
    c.take_step.ensures x before p f now
    (subst (λ a. Settled x c.args.limits.now c.args.hosts.now.table before c.args.run.now.memory p c.args.number.0 f now a (all_seen g.T.Thread.setting g.T.Thread.state c.args.run.now.fibers.items)) c.in-Join.is s)

pub returns-in-Ok : goal.returns-in-Ok
returns-in-Ok g c = λ x before p f now s.
    let L = c.args.limits.now in
    let H = c.args.hosts.now.table in
    let moved : Settled x L H before c.args.run.now.memory p c.args.number.0 f now c.args.ask (all_seen g.T.Thread.setting g.T.Thread.state c.reserve.new.self.items) =
    subst (λ l. Settled x L H before c.args.run.now.memory p c.args.number.0 f now c.args.ask (all_seen g.T.Thread.setting g.T.Thread.state l)) (sym c.in-Ok.ensures.items) s in
    c.take_step-in-Ok.ensures x before p f now (subst (λ a. Settled x L H before c.args.run.now.memory p c.args.number.0 f now a (all_seen g.T.Thread.setting g.T.Thread.state c.reserve.new.self.items)) c.in-Spawn.is moved)

pub returns-in-Err : goal.returns-in-Err
returns-in-Err g c = λ x before p f now s.
    let L = c.args.limits.now in
    let H = c.args.hosts.now.table in
    let F = all_seen g.T.Thread.setting g.T.Thread.state c.args.run.now.fibers.items in
    let G = all_seen g.T.Thread.setting g.T.Thread.state c.reserve.new.self.items in
    let same : G ≡ F = ap (all_seen g.T.Thread.setting g.T.Thread.state) c.in-Err.ensures.items in
    let after = all_seen g.T.Thread.setting g.T.Thread.state c.end_thread-in-Err.new.run.fibers.items in
    let t = c.args.number.0 in
    let here : slice_get F t ≡ Some (record f { state = now }) = ap (λ l. slice_get l t) s.fibers_are ∙ got_set before t f (record f { state = now }) s.at in
    let pick = memory_picked x L H before c.args.run.now.memory p t f now c.args.ask F s (λ d is. (let w : ask.Spawn c.in-Spawn.function ≡ ask.Join d = sym c.in-Spawn.is ∙ is in cc)) after
    (c.end_thread-in-Err.ensures.fibers (record f { state = now }) (ap (λ l. slice_get l t) same ∙ here) ∙ ap (λ l. slice_set l t (record f { state = now; «end» = Some log_end.NoMemory })) same) in
    (pick.0, pick.1, subst (λ m. UnderWay x L H after m pick.0) (sym c.end_thread-in-Err.ensures.memory) pick.2)
