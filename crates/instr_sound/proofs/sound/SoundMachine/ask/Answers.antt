use Rattle.std.proofs.Common.{◌≡◌, subst}
use Rattle.std.specs.Prelude.{IfOk, OnErr}
use Rattle.history.specs.declared.ask.Ask.{Ask}
use Rattle.source_sem.specs.Source.{source_ask}
use Rattle.thread_parts.specs.Asks.{AsksAllocation}
use Rattle.instr_sound.specs.Sound.{SoundView, sound_view, text_of, AskFits}
use Rattle.instr_sound.proofs.Keeping.{shows, asks_fit, ok_fits}
use Rattle.instr_sound.proofs.sound.SoundMachine.ask.Goals as goal

pub returns-clause-source : goal.returns-clause-source
returns-clause-source c =
    let view = sound_view c.self.inside.program.now c.self.inside.machine c.self.inside.text.state in
    subst (λ (z : SoundView). IfOk c.ask.result (λ a. a ≡ source_ask (text_of z) z.state)) c.self.view_is
    (subst (λ (z : Ask). IfOk c.ask.result (λ a. a ≡ z)) (shows view c.self.invariant.0).asks c.ask.ensures.asks)

pub returns-clause-fits : goal.returns-clause-fits
returns-clause-fits c =
    let view = sound_view c.self.inside.program.now c.self.inside.machine c.self.inside.text.state in
    ok_fits c.ask.result (source_ask (text_of view) view.state) AskFits (subst (λ (z : Ask). IfOk c.ask.result (λ a. a ≡ z)) (shows view c.self.invariant.0).asks c.ask.ensures.asks) (asks_fit view c.self.invariant.0)

pub returns-clause-refused : goal.returns-clause-refused
returns-clause-refused c =
    let view = sound_view c.self.inside.program.now c.self.inside.machine c.self.inside.text.state in
    subst (λ (z : SoundView). OnErr c.ask.result (AsksAllocation (source_ask (text_of z) z.state))) c.self.view_is
    (subst (λ (z : Ask). OnErr c.ask.result (AsksAllocation z)) (shows view c.self.invariant.0).asks c.ask.ensures.refused)
