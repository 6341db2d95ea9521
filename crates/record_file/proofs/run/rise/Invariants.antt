use Rattle.std.proofs.Common.{◌↔◌, drop}
use Rattle.runs.specs.Stamps.{RisesFrom}
use Rattle.record_file.proofs.run.rise.Given as goal

abbrev pub invariant-loop-entry : goal.invariant-loop-entry
invariant-loop-entry l = RisesFrom 0 l.entries ↔ RisesFrom l.last (drop l.entry-index l.entries)
