use Rattle.std.proofs.Common.{sym, ap, ◌∙◌, subst}
use Rattle.history.specs.Replies.{Answers}
use Rattle.history.specs.declared.ask.Ask.{Ask}
use Rattle.source_sem.specs.Source.{source_ask, source_answer, source_fits}
use Rattle.source_sem.specs.Starting.{setting_of}
use Rattle.instr_sound.specs.Sound.{SoundView, sound_view, text_of, answered}
use Rattle.instr_sound.proofs.Keeping.{shows, sound_law, placed}
use Rattle.instr_sound.proofs.sound.SoundMachine.answer.Goals as goal

pub answer-requires-clause-asks : goal.answer-requires-clause-asks
answer-requires-clause-asks c =
    let view = sound_view c.self.inside.program.now c.self.inside.machine c.self.inside.text.state in
    subst (λ (z : Ask). Answers z c.args.entry.now) (sym (shows view c.self.invariant.0).asks)
    (subst (λ (z : SoundView). Answers (source_ask (text_of z) z.state) c.args.entry.now) (sym c.self.view_is) c.requires.asks)

pub invariant_of-self : goal.invariant_of-self
invariant_of-self c =
    let v = c.self.inside.program.now in
    let e = c.args.entry.now in
    let view = sound_view v c.self.inside.machine c.self.inside.text.state in
    let asks = subst (λ (z : SoundView). Answers (source_ask (text_of z) z.state) e) (sym c.self.view_is) c.requires.asks in
    let fits = subst (λ (z : SoundView). source_fits (text_of z) z.state e) (sym c.self.view_is) c.requires.fits in
    placed v c.self.inside.input.now (answered view e).machine (answered view e).state c.answer.new.self c.then-self-inside.result.state c.answer.ensures
    (c.then-self-inside.ensures ∙ ap (λ i. source_answer (setting_of v.program i v.hosts) view.state e.reply) c.self.invariant.1)
    c.self.invariant.1 (sound_law.answer view e c.self.invariant.0 asks fits)
