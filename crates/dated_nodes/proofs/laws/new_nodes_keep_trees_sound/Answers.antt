use Rattle.dated_nodes.proofs.AddedSoundLemmas.{sound-added}
use Rattle.dated_nodes.proofs.laws.new_nodes_keep_trees_sound.Goals as goal

pub returns : goal.returns
returns c = sound-added
