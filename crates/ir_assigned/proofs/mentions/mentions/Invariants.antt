use Rattle.std.proofs.Common.{◌≡◌, ℕ, List, map, take}
use Rattle.ir_rules.specs.Occurrences.{block_events}
use Rattle.ir_assigned.specs.Mentions.{mentions_from, mentions_in}
use Rattle.ir_assigned.proofs.mentions.mentions.Given as goal

abbrev pub invariant-loop-place : goal.invariant-loop-place
invariant-loop-place l = (q : List ℕ) → mentions_in l.table q ≡ mentions_from q 0 (map block_events (take l.place l.blocks))
