use Rattle.std.proofs.Common.{◌≡◌, ℕ, List, map, take}
use Rattle.ir_rules.specs.Least.{IsLeast}
use Rattle.ir_verify.specs.Counts.{times_in, up_to_two}
use Rattle.ir_verify.proofs.Seconds.{Seconds, times}
use Rattle.ir_verify.proofs.twice.second_definitions.Given as goal

abbrev pub invariant-loop-named : goal.invariant-loop-named
invariant-loop-named l = ((q : List ℕ) → times_in l.table q ≡ up_to_two (times q (take l.named-index (map (λ r. r.now) l.names)))) × IsLeast (Seconds (take l.named-index (map (λ r. r.now) l.names))) l.first
