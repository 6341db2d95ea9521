use Rattle.std.proofs.Common.{ap, ◌∙◌}
use Rattle.instr_sound.specs.Sound.{SoundView, sound_view}
use Rattle.instr_sound.proofs.Keeping.{shows}
use Rattle.instr_sound.proofs.sound.SoundMachine.instructions.Goals as goal

pub returns : goal.returns
returns c =
    let view = sound_view c.self.inside.program.now c.self.inside.machine c.self.inside.text.state in
    c.instructions.ensures ∙ (shows view c.self.invariant.0).count ∙ ap (λ (z : SoundView). z.state.count) c.self.view_is
