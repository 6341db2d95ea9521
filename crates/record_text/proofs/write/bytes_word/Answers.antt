use Rattle.std.proofs.Common.{◌∙◌, string_bytes}
use Rattle.record_text.proofs.Joining.{bytes_push}
use Rattle.record_text.proofs.write.bytes_word.Goals as goal

pub loop-at-preserved : goal.loop-at-preserved
loop-at-preserved c =
    bytes_push c.args.piece.now c.loop-at.at c.get-byte.result (string_bytes c.loop-at.text) (string_bytes c.push_str.new.self) (string_bytes c.push_str-in-loop-at.new.self) c.comma.result.now c.as_str.result.now
    c.get-byte.ensures.value c.loop-at.invariant c.comma.ensures c.in_ok-push_str.ensures.bytes (c.as_str.ensures.value ∙ c.in_ok-byte_word.ensures) c.in_ok-push_str-2.ensures.bytes
