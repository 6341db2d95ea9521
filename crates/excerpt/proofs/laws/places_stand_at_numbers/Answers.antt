use Rattle.excerpt.proofs.Numbers.{stand_at_numbers}
use Rattle.excerpt.proofs.laws.places_stand_at_numbers.Goals as goal

pub returns : goal.returns
returns c = stand_at_numbers
