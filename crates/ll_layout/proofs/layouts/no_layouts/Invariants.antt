use Rattle.std.proofs.Common.{◌≡◌, take}
use Rattle.ll_layout.specs.Types.{none_of}
use Rattle.ll_layout.proofs.layouts.no_layouts.Given as goal

abbrev pub invariant-loop-named : goal.invariant-loop-named
invariant-loop-named l = l.table.items ≡ none_of (take l._named-index l.types)
