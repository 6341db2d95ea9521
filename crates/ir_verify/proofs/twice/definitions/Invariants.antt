use Rattle.std.proofs.Common.{◌≡◌, map, take}
use Rattle.ir_rules.specs.Rules.{defined}
use Rattle.ir_rules.specs.Seen.{seen}
use Rattle.ir_verify.proofs.twice.definitions.Given as goal

abbrev pub invariant-loop-occurrence : goal.invariant-loop-occurrence
invariant-loop-occurrence l = map (λ r. r.now) l.names.items ≡ defined (seen (take l.occurrence-index l.occurrences))
