use Rattle.std.proofs.Common.{◌≡◌, sym, ap, ◌∙◌, subst}
use Rattle.history.specs.declared.ask.Ask.TheVariants as asked
use Rattle.source_sem.specs.Source.{source_ask, source_turn}
use Rattle.source_sem.specs.Starting.{setting_of}
use Rattle.instr_sound.specs.Sound.{SoundView, sound_view, text_of, turned}
use Rattle.instr_sound.proofs.Keeping.{shows, sound_law, placed}
use Rattle.instr_sound.proofs.sound.SoundMachine.turn.Goals as goal

pub turn-requires-clause-asks : goal.turn-requires-clause-asks
turn-requires-clause-asks c =
    let view = sound_view c.self.inside.program.now c.self.inside.machine c.self.inside.text.state in
    (shows view c.self.invariant.0).asks ∙ subst (λ (z : SoundView). source_ask (text_of z) z.state ≡ asked.Turn) (sym c.self.view_is) c.requires.asks

pub invariant_of-self : goal.invariant_of-self
invariant_of-self c =
    let v = c.self.inside.program.now in
    let view = sound_view v c.self.inside.machine c.self.inside.text.state in
    let asks = subst (λ (z : SoundView). source_ask (text_of z) z.state ≡ asked.Turn) (sym c.self.view_is) c.requires.asks in
    placed v c.self.inside.input.now (turned view).machine (turned view).state c.turn.new.self c.then-self-inside.result.state c.turn.ensures
    (c.then-self-inside.ensures ∙ ap (λ i. source_turn (setting_of v.program i v.hosts) view.state) c.self.invariant.1)
    c.self.invariant.1 (sound_law.turn view c.self.invariant.0 asks)
