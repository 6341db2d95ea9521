use Rattle.std.proofs.Common.{ap, ◌∙◌}
use Rattle.source_sem.specs.Source.{source_site}
use Rattle.instr_sound.specs.Sound.{SoundView, sound_view}
use Rattle.instr_sound.proofs.Keeping.{shows}
use Rattle.instr_sound.proofs.sound.SoundMachine.site.Goals as goal

pub returns : goal.returns
returns c =
    let view = sound_view c.self.inside.program.now c.self.inside.machine c.self.inside.text.state in
    c.site.ensures ∙ (shows view c.self.invariant.0).site ∙ ap (λ (z : SoundView). source_site z.state) c.self.view_is
