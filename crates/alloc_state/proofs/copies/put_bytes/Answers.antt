use Rattle.std.proofs.Common.{◌≡◌, ◌+◌, ◌≤◌, ◌∙◌, ℕ, List, Option, Some, ap, arith, length, map, slice_get, slice_set}
use Rattle.std.proofs.lemmas.List.{length-set, length-map}
use Rattle.bsan_ids.specs.declared.numbers.Frag.{Frag}
use Rattle.history.specs.Memory.{Memory}
use Rattle.alloc_state.proofs.ByteCopies.{put_more, first_at}
use Rattle.alloc_state.proofs.copies.put_bytes.Goals as goal

pub loop-i-preserved : goal.loop-i-preserved
loop-i-preserved c =
    let before = c.args.memory.now in
    let at = c.args.at in
    let i = c.loop-i.i in
    let byte = c.get-byte.result.0 in
    let bytes : List ℕ = map (λ (pair : ℕ × Option Frag). pair.0) c.args.piece.now in
    let read : slice_get bytes i ≡ Some byte = first_at c.args.piece.now i byte c.get-byte.result.1 c.get-byte.ensures.value in
    let same : length bytes ≡ length c.args.piece.now = length-map c.args.piece.now (λ (pair : ℕ × Option Frag). pair.0) in
    let within : at + length bytes ≤ length before.bytes = omega (arith, same, c.requires.within) in (
      c.set_byte.ensures
          ∙ ap (λ (m : Memory). record m { bytes = slice_set m.bytes (at + i) byte }) c.loop-i.invariant.0
          ∙ ap (λ (bs : List ℕ). record before { bytes = bs }) (put_more at i bytes before.bytes byte read within),
      ap (λ (m : Memory). length m.bytes) c.set_byte.ensures
          ∙ length-set c.loop-i.memory.bytes (at + i) byte
          ∙ c.loop-i.invariant.1,
    )
