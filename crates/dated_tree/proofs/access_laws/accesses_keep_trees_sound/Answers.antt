use Rattle.dated_tree.proofs.SoundLemmas.{sound-after}
use Rattle.dated_tree.proofs.access_laws.accesses_keep_trees_sound.Goals as goal

pub returns : goal.returns
returns c = λ t u x kinds date. sound-after x kinds date t u
