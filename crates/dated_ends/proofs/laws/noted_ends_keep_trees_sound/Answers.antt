use Rattle.dated_ends.proofs.EndSoundLemmas.{sound-noted}
use Rattle.dated_ends.proofs.laws.noted_ends_keep_trees_sound.Goals as goal

pub returns : goal.returns
returns c = sound-noted
