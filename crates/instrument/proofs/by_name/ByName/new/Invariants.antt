use Rattle.std.proofs.Common.{◌≡◌, ◌++◌, drop, map}
use Rattle.instrument.specs.Sets.{names_in}
use Rattle.instrument.proofs.by_name.ByName.new.Given as goal

abbrev pub invariant-loop-item : goal.invariant-loop-item
invariant-loop-item g l = names_in l.names.items ++ map g.T.HasName.name (drop l.item-index l.all) ≡ map g.T.HasName.name l.all
