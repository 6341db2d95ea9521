use Rattle.std.proofs.Common.{◌≡◌, ◌+◌, ◌*◌, ◌≤◌, length, map, take}
use Rattle.history.specs.Memory.{put}
use Rattle.alloc_state.proofs.copies.put_frags.Given as goal

abbrev pub invariant-loop-i : goal.invariant-loop-i
invariant-loop-i l =
    (l.shadow.frags ≡ put l.at (take l.i (map (λ pair. pair.1) l.piece)) l.initial.shadow.frags)
    × (length l.shadow.frags ≡ length l.initial.shadow.frags)
    × (l.initial.shadow.spare ≤ l.shadow.spare + 2 * l.i)
