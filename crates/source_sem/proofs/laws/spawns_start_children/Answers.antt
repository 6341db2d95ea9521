use Rattle.source_sem.proofs.Stepping.{spawns_start}
use Rattle.source_sem.proofs.laws.spawns_start_children.Goals as goal

pub returns : goal.returns
returns c = spawns_start
