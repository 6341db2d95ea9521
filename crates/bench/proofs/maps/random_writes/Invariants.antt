use Rattle.std.proofs.Common.{◌≡◌, length}
use Rattle.bench.proofs.maps.random_writes.Given as goal

abbrev pub invariant-loop-write : goal.invariant-loop-write
invariant-loop-write l = length l.map.bytes ≡ l.fn.len
