use Rattle.std.proofs.Common.{refl}
use Rattle.instr_sound.specs.Sound.{begun}
use Rattle.instr_sound.proofs.Keeping.{function_there, begun_sound, placed}
use Rattle.instr_sound.proofs.sound.SoundMachine.start.Goals as goal

pub start-requires : goal.start-requires
start-requires c = record { there = function_there c.args.program.now c.args.target.now c.args.function c.requires.code c.requires.there }

pub invariant_of-result : goal.invariant_of-result
invariant_of-result c =
    let begin = begun c.args.program.now c.args.target.now c.args.input.now c.args.function c.args.args.now in
    placed c.args.program.now c.args.input.now begin.machine begin.state c.in_ok-machine.machine c.then-text.result.state c.in_ok-machine.ensures c.then-text.ensures refl
    (begun_sound c.args.program.now c.args.target.now c.args.input.now c.args.function c.args.args.now c.requires.code c.requires.there)
