use Rattle.suppress.proofs.Places.{Seeks}
use Rattle.suppress.proofs.place.function_sites.Given as goal

abbrev pub invariant-loop-function : goal.invariant-loop-function
invariant-loop-function l = Seeks l.functions l.name l.function-index l.first
