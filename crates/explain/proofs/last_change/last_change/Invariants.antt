use Rattle.std.proofs.Common.{◌≡◌}
use Rattle.explain.specs.Replays.{grown_of}
use Rattle.explain.specs.Searches.{IsFound, perm_at}
use Rattle.explain.proofs.Stepping.{object_at}
use Rattle.explain.proofs.last_change.last_change.Given as goal

abbrev pub invariant-loop-index : goal.invariant-loop-index
invariant-loop-index l = record {
  replay : l.replay ≡ grown_of (object_at l.log.number.0 l.log.entries l.index);
  perm : l.perm ≡ perm_at l.log l.node l.at l.index;
  found : IsFound l.log l.node l.at l.index l.found;
}
