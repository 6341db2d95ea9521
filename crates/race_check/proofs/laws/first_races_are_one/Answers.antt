use Rattle.race_check.proofs.Single.{one_list}
use Rattle.race_check.proofs.laws.first_races_are_one.Goals as goal

pub returns : goal.returns
returns c = one_list
