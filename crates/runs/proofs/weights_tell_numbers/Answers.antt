use Rattle.runs.proofs.Weights.{weights_tell_numbers}
use Rattle.runs.proofs.weights_tell_numbers.Goals as goal

pub returns : goal.returns
returns c = weights_tell_numbers
