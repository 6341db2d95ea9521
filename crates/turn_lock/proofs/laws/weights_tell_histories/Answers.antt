use Rattle.turn_lock.proofs.Histories.{weights_tell_histories}
use Rattle.turn_lock.proofs.laws.weights_tell_histories.Goals as goal

pub returns : goal.returns
returns c = weights_tell_histories
