use Rattle.std.proofs.Common.{◌≡◌, take}
use Rattle.ll_layout.specs.Types.{round_of}
use Rattle.ll_layout.proofs.layouts.round.Given as goal

abbrev pub invariant-loop-named : goal.invariant-loop-named
invariant-loop-named l = l.next.items ≡ round_of l.target (take l.named-index l.types) l.table
