use Rattle.race_check.specs.Vectors.{AreClocks}
use Rattle.race_check.specs.Found.{IsFound}
use Rattle.race_check.proofs.first.first_races.Given as goal

abbrev pub invariant-loop-later : goal.invariant-loop-later
invariant-loop-later l = record {
  clocks : AreClocks l.entries l.slots.threads.items l.later l.clocks;
  found : IsFound l.entries l.slots l.later l.later l.found;
}
