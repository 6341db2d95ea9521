use Rattle.std.proofs.Common.{◌≡◌, length}
use Rattle.bench.proofs.maps.even_writes.Given as goal

abbrev pub invariant-loop-half : goal.invariant-loop-half
invariant-loop-half l = length l.map.bytes ≡ l.fn.len
