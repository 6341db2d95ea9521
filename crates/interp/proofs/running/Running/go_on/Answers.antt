use Rattle.std.proofs.Common.{◌≡◌, ap, sym, ◌∙◌, subst}
use Rattle.history.specs.declared.ask.Ask.TheVariants as ask
use Rattle.history.specs.declared.log.End.{End}
use Rattle.runs.specs.Machine.{MayGoOn}
use Rattle.source_sem.specs.Source.{Setting, source, source_ask}
use Rattle.instr_sound.specs.Settling.{IsHalt}
use Rattle.interp.specs.Running.{HasEnded}
use Rattle.interp.proofs.Advancing.{settled_on, machine_ends, halted}
use Rattle.interp.proofs.running.Running.go_on.Goals as goal

pub returns-in-Err-clause-came : goal.returns-in-Err-clause-came
returns-in-Err-clause-came g c =
    let setting = g.T.Thread.setting in
    let state = g.T.Thread.state in
    let space = c.args.space.now in
    let r = c.args.self.now in
    let m = c.settle.new.thread in
    let same = ap (λ l. l.turns) c.limits-limits.ensures.value in
    let halt : IsHalt (setting m) c.limits-limits.result.now.turns (state m) c.in-Err.why =
    subst (λ (x : Setting). IsHalt x c.limits-limits.result.now.turns (state m) c.in-Err.why) (sym c.settle.ensures.setting) c.in-Err.ensures.halts in
    halted setting state space r m c.in-Err.why (subst (λ n. IsHalt (setting m) n (state m) c.in-Err.why) same halt)
    (settled_on setting state space r m c.limits-limits.result.now.turns (ap (λ l. l.turns) c.limits-limits.ensures.value) c.settle.ensures.setting c.settle.ensures.turned c.settle.ensures.within c.requires.on)

pub make_step-requires-clause-on : goal.make_step-requires-clause-on
make_step-requires-clause-on g c =
    let setting = g.T.Thread.setting in
    let state = g.T.Thread.state in
    let space = c.args.space.now in
    let r = c.args.self.now in
    let m = c.settle.new.thread in
    settled_on setting state space r m c.limits-limits.result.now.turns (ap (λ l. l.turns) c.limits-limits.ensures.value) c.settle.ensures.setting c.settle.ensures.turned c.settle.ensures.within c.requires.on

pub returns-in-Spawn-clause-on : goal.returns-in-Spawn-clause-on
returns-in-Spawn-clause-on g c =
    let setting = g.T.Thread.setting in
    let state = g.T.Thread.state in
    let space = c.args.space.now in
    let r = c.args.self.now in
    let m = c.settle.new.thread in
    settled_on setting state space r m c.limits-limits.result.now.turns (ap (λ l. l.turns) c.limits-limits.ensures.value) c.settle.ensures.setting c.settle.ensures.turned c.settle.ensures.within c.requires.on

pub returns-in-Join-clause-on : goal.returns-in-Join-clause-on
returns-in-Join-clause-on g c =
    let setting = g.T.Thread.setting in
    let state = g.T.Thread.state in
    let space = c.args.space.now in
    let r = c.args.self.now in
    let m = c.settle.new.thread in
    settled_on setting state space r m c.limits-limits.result.now.turns (ap (λ l. l.turns) c.limits-limits.ensures.value) c.settle.ensures.setting c.settle.ensures.turned c.settle.ensures.within c.requires.on

pub returns-in-Ended-clause-came : goal.returns-in-Ended-clause-came
returns-in-Ended-clause-came g c =
    let setting = g.T.Thread.setting in
    let state = g.T.Thread.state in
    let space = c.args.space.now in
    let r = c.args.self.now in
    let m = c.settle.new.thread in
    let e = c.in-Ended.end in
    let same = ap (λ l. l.turns) c.limits-limits.ensures.value in
    let set = c.settle.ensures.setting in
    let asks : source_ask (setting m) (state m) ≡ ask.Ended e = ap (λ x. source_ask x (state m)) set ∙ (sym c.in-Ok.ensures.asks ∙ c.in-Ended.is) in
    let may : MayGoOn (source (setting m)) space.limits.turns (state m) = subst (λ n. MayGoOn (source (setting m)) n (state m)) same (subst (λ (x : Setting). MayGoOn (source x) c.limits-limits.result.now.turns (state m)) (sym set) c.in-Ok.ensures.may) in
    subst (λ (o : End). HasEnded setting state space o (record r { machine = m })) (sym c.end_by.ensures) (machine_ends setting state space (record r { machine = m }) e asks may
    (settled_on setting state space r m c.limits-limits.result.now.turns (ap (λ l. l.turns) c.limits-limits.ensures.value) c.settle.ensures.setting c.settle.ensures.turned c.settle.ensures.within c.requires.on))
