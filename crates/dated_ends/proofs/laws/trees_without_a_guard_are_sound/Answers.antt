use Rattle.dated_ends.proofs.GuardLemmas.{guard-gone-sound}
use Rattle.dated_ends.proofs.laws.trees_without_a_guard_are_sound.Goals as goal

pub returns : goal.returns
returns c = guard-gone-sound
