use Rattle.std.proofs.Common.{◌≡◌, ◌∙◌, sym, subst, rules}
use Rattle.history.specs.declared.ask.Ask.TheVariants as ask
use Rattle.history.specs.declared.log.End.{End}
use Rattle.runs.specs.Machine.{MayGoOn}
use Rattle.runs.specs.Replay.{IsOwnEnd}
use Rattle.runs.specs.Threads.{EndsAs}
use Rattle.source_sem.specs.Source.{source, source_ask}
use Rattle.core_model.proofs.OwnEnds.{ended_asks, own_end}
use Rattle.core_model.proofs.run.end_here.Goals as goal

pub returns-in-Some : goal.returns-in-Some
returns-in-Some g c = λ within own.
    let x = g.T.Thread.setting c.args.thread.now in
    let s = g.T.Thread.state c.args.thread.now in
    let L = c.args.limits.now in
    let asks : source_ask x s ≡ ask.Ended c.in-Some.end = ended_asks (source_ask x s) c.in-Some.end (sym c.in-Some.is ∙ c.ended.ensures) in
    let may : MayGoOn (source x) L.turns s = search rules in
    subst (λ (w : End). IsOwnEnd w × EndsAs (source x) L s w) (sym c.end_by.ensures) (own_end x L s c.in-Some.end asks may own)
