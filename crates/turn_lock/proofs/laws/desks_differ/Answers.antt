use Rattle.turn_lock.proofs.Differing.{desks_differ}
use Rattle.turn_lock.proofs.laws.desks_differ.Goals as goal

pub returns : goal.returns
returns g c = λ s rule. desks_differ s rule
