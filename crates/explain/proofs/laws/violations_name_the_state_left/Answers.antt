use Rattle.explain.proofs.Left.{left_denied, left_strong}
use Rattle.explain.proofs.laws.violations_name_the_state_left.Goals as goal

pub returns-clause-denied : goal.returns-clause-denied
returns-clause-denied c = left_denied

pub returns-clause-strong : goal.returns-clause-strong
returns-clause-strong c = left_strong
