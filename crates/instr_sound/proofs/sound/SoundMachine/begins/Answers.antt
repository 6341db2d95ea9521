use Rattle.std.proofs.Common.{ap, ◌∙◌}
use Rattle.source_sem.specs.Source.{source_begins}
use Rattle.instr_sound.specs.Sound.{SoundView, sound_view}
use Rattle.instr_sound.proofs.Keeping.{shows}
use Rattle.instr_sound.proofs.sound.SoundMachine.begins.Goals as goal

pub returns : goal.returns
returns c =
    let view = sound_view c.self.inside.program.now c.self.inside.machine c.self.inside.text.state in
    c.begins.ensures ∙ (shows view c.self.invariant.0).begins ∙ ap (λ (z : SoundView). source_begins z.state) c.self.view_is
