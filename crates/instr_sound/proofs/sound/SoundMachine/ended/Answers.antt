use Rattle.std.proofs.Common.{ap, ◌∙◌}
use Rattle.source_sem.specs.Source.{source_ask}
use Rattle.thread_machine.specs.Views.{ended_by}
use Rattle.instr_sound.specs.Sound.{SoundView, sound_view, text_of}
use Rattle.instr_sound.proofs.Keeping.{shows}
use Rattle.instr_sound.proofs.sound.SoundMachine.ended.Goals as goal

pub returns : goal.returns
returns c =
    let view = sound_view c.self.inside.program.now c.self.inside.machine c.self.inside.text.state in
    c.ended.ensures ∙ ap ended_by (shows view c.self.invariant.0).asks ∙ ap (λ (z : SoundView). ended_by (source_ask (text_of z) z.state)) c.self.view_is
