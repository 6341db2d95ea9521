use Rattle.std.proofs.Common.{◌≡◌, ◌++◌, ℕ, List, take}
use Rattle.ir_rules.specs.Seen.{seen}
use Rattle.ir_assigned.specs.Mentions.{mentions, mentions_in}
use Rattle.ir_assigned.proofs.mentions.note_mentions.Given as goal

abbrev pub invariant-loop-occurrence : goal.invariant-loop-occurrence
invariant-loop-occurrence l = (q : List ℕ) → mentions_in l.table q ≡ mentions_in l.fn.table q ++ mentions q l.block (seen (take l.occurrence-index l.occurrences))
