use Rattle.std.proofs.Common.{take, map}
use Rattle.std.specs.List.{flat_map}
use Rattle.ir_rules.specs.Occurrences.{typed_uses}
use Rattle.ir_rules.specs.Occurrences.Event.{uses}
use Rattle.ir_rules.specs.Seen.{Adds}
use Rattle.ir_rules.proofs.events.note_args.Given as goal

abbrev pub invariant-loop-arg : goal.invariant-loop-arg
invariant-loop-arg l = Adds l.fn.events.items l.events.items (map uses (flat_map typed_uses (take l.arg-index l.args)))
