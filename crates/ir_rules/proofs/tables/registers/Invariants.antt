use Rattle.std.proofs.Common.{◌≡◌, ℕ, List, take}
use Rattle.ir_rules.specs.Rules.{held}
use Rattle.ir_rules.specs.Seen.{seen}
use Rattle.ir_rules.specs.Walk.{held_in}
use Rattle.ir_rules.proofs.tables.registers.Given as goal

abbrev pub invariant-loop-event : goal.invariant-loop-event
invariant-loop-event l = (q : List ℕ) → held_in l.table q ≡ held (seen (take l.event-index l.events)) q
