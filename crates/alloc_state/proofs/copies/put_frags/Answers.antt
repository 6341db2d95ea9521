use Rattle.std.proofs.Common.{◌≡◌, ◌+◌, ◌<◌, ◌≤◌, ◌∙◌, ℕ, Option, Some, ap, arith, length, map, slice_get, slice_set}
use Rattle.std.proofs.lemmas.List.{length-map}
use Rattle.bsan_ids.specs.declared.numbers.Frag.{Frag}
use Rattle.history.specs.Fragments.{Shadow}
use Rattle.alloc_state.proofs.ByteCopies.{put_more, put_one, second_at}
use Rattle.alloc_state.proofs.copies.put_frags.Goals as goal

pub loop-i-preserved : goal.loop-i-preserved
loop-i-preserved c =
    let before = c.args.shadow.now.frags in
    let at = c.args.at in
    let i = c.loop-i.i in
    let frag = c.get-frag.result.1 in
    let frags : Shadow = map (λ (pair : ℕ × Option Frag). pair.1) c.args.piece.now in
    let read : slice_get frags i ≡ Some frag = second_at c.args.piece.now i c.get-frag.result.0 frag c.get-frag.ensures.value in
    let same : length frags ≡ length c.args.piece.now = length-map c.args.piece.now (λ (pair : ℕ × Option Frag). pair.1) in
    let within : at + length frags ≤ length before = omega (arith, same, c.requires.within) in
    let size : length c.loop-i.shadow.frags ≡ length before = c.loop-i.invariant.1 in
    let below : i < length c.args.piece.now = omega arith in
    let inside : at + i < length c.loop-i.shadow.frags = omega (arith, size, below, c.requires.within) in (
      c.set_frag.ensures.frags
          ∙ put_one (at + i) c.loop-i.shadow.frags frag inside
          ∙ ap (λ (fs : Shadow). slice_set fs (at + i) frag) c.loop-i.invariant.0
          ∙ put_more at i frags before frag read within,
      c.set_frag.ensures.size ∙ size,
      omega (arith, c.set_frag.ensures.spare, c.loop-i.invariant.2),
    )
