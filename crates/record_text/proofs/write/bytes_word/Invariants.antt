use Rattle.std.proofs.Common.{◌≡◌, string_bytes, take}
use Rattle.record_text.specs.Words.{bytes_word}
use Rattle.record_text.proofs.write.bytes_word.Given as goal

abbrev pub invariant-loop-at : goal.invariant-loop-at
invariant-loop-at l = string_bytes l.text ≡ bytes_word (take l.at l.piece)
