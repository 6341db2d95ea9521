use Rattle.std.proofs.Common.{◌≡◌, length, map, take}
use Rattle.history.specs.Memory.{put}
use Rattle.alloc_state.proofs.copies.put_bytes.Given as goal

abbrev pub invariant-loop-i : goal.invariant-loop-i
invariant-loop-i l =
    (l.memory ≡ record l.initial.memory { bytes = put l.at (take l.i (map (λ pair. pair.0) l.piece)) l.initial.memory.bytes })
    × (length l.memory.bytes ≡ length l.initial.memory.bytes)
