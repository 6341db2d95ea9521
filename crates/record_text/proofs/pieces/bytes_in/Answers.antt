use Rattle.std.proofs.Common.{◌∙◌, ◌==◌, [], ◌∷◌, ℕ, List, Option, ap, sym, length, arith}
use Rattle.std.specs.Borrow.{Bor}
use Rattle.std.specs.List.{slice_split}
use Rattle.std.proofs.lemmas.List.{length-append}
use Rattle.history.specs.Pieces.{Byte}
use Rattle.record_text.specs.Reading.{left}
use Rattle.record_text.specs.Parts.{bytes_in, few_in}
use Rattle.record_text.proofs.PieceLoop.{onto, no_some, byte_bad, byte_more, byte_too_many, bytes_done}
use Rattle.record_text.proofs.pieces.bytes_in.Goals as goal

pub returns-in_default-byte_in : goal.returns-in_default-byte_in
unfolding few_in
returns-in_default-byte_in c =
    byte_bad c.loop-left.piece c.cut.result.0.now (left 44 c.cut.result.1) (left 44 c.loop-left.left) (bytes_in (slice_split (λ b. b == 44) c.args.text.now))
    (ap (left 44) c.in-Some.is ∙ c.cut.ensures.parts) (sym c.byte_in.ensures ∙ no_some c.byte_in.result (λ x e. c.in_default-byte_in.not-Some x e)) c.loop-left.invariant.read

pub returns-then-len-eq32 : goal.returns-then-len-eq32
unfolding few_in
returns-then-len-eq32 c =
    byte_too_many c.loop-left.piece c.cut.result.0.now (left 44 c.cut.result.1) (c.in-Some-byte_in.byte, c.in-Some-byte_in.frag) (left 44 c.loop-left.left)
    (bytes_in (slice_split (λ b. b == 44) c.args.text.now)) (ap (left 44) c.in-Some.is ∙ c.cut.ensures.parts) (sym c.byte_in.ensures ∙ c.in-Some-byte_in.is)
    (omega (arith, c.len.ensures.value)) c.loop-left.invariant.read

pub loop-left-preserved : goal.loop-left-preserved
loop-left-preserved c =
    let b : Byte = (c.in-Some-byte_in.byte, c.in-Some-byte_in.frag) in
    record {
      read = ap (λ (p : List Byte). onto p (bytes_in (left 44 c.cut.result.1))) c.in_ok-push.ensures.ok
          ∙ byte_more c.loop-left.piece c.cut.result.0.now (left 44 c.cut.result.1) b (left 44 c.loop-left.left) (bytes_in (slice_split (λ b. b == 44) c.args.text.now))
          (ap (left 44) c.in-Some.is ∙ c.cut.ensures.parts) (sym c.byte_in.ensures ∙ c.in-Some-byte_in.is) c.loop-left.invariant.read;
      small = omega (arith, c.len.ensures.value, c.loop-left.invariant.small, ap (length {A = Byte}) c.in_ok-push.ensures.ok, length-append c.loop-left.piece (b ∷ []));
    }

pub returns : goal.returns
unfolding few_in
returns c =
    bytes_done c.loop-left.piece (bytes_in (slice_split (λ b. b == 44) c.args.text.now)) c.loop-left.invariant.small
    (ap (λ (o : Option (Bor (List ℕ))). onto c.loop-left.piece (bytes_in (left 44 o))) (sym (no_some c.loop-left.left (λ x e. c.in_default.not-Some x e))) ∙ c.loop-left.invariant.read)
