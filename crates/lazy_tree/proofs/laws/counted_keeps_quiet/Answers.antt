use Rattle.std.proofs.Common.{refl}
use Rattle.lazy_tree.proofs.laws.counted_keeps_quiet.Goals as goal

pub returns-clause-quiet : goal.returns-clause-quiet
returns-clause-quiet c = λ t tag span kind q. record { node = q.node; within = q.within; still = q.still }

pub returns-clause-cuts : goal.returns-clause-cuts
returns-clause-cuts c = λ t at. refl
