use Rattle.std.proofs.Common.{sym, ap, ◌∙◌, subst}
use Rattle.history.specs.declared.ask.Ask.{Ask}
use Rattle.source_sem.specs.Source.{source_ask, source_child}
use Rattle.source_sem.specs.Starting.{setting_of}
use Rattle.thread_machine.specs.Views.{IsSpawn}
use Rattle.instr_sound.specs.Sound.{SoundView, sound_view, text_of, started}
use Rattle.instr_sound.proofs.Keeping.{shows, sound_law, placed}
use Rattle.instr_sound.proofs.sound.SoundMachine.child.Goals as goal

pub child-requires : goal.child-requires
child-requires c =
    let view = sound_view c.self.inside.program.now c.self.inside.machine c.self.inside.text.state in
    subst IsSpawn (sym (shows view c.self.invariant.0).asks) (subst (λ (z : SoundView). IsSpawn (source_ask (text_of z) z.state)) (sym c.self.view_is) c.requires)

pub invariant_of-result : goal.invariant_of-result
invariant_of-result c =
    let v = c.self.inside.program.now in
    let view = sound_view v c.self.inside.machine c.self.inside.text.state in
    let asks = subst (λ (z : SoundView). IsSpawn (source_ask (text_of z) z.state)) (sym c.self.view_is) c.requires in
    placed v c.self.inside.input.now (started view).machine (started view).state c.in_ok-machine.machine c.then-text.result.state c.in_ok-machine.ensures
    (c.then-text.ensures ∙ ap (λ i. source_child (setting_of v.program i v.hosts) view.state) c.self.invariant.1)
    c.self.invariant.1 (sound_law.child view c.self.invariant.0 asks)
