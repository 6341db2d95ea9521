use Rattle.std.proofs.Common.{◌≡◌, ◌++◌, drop}
use Rattle.std.specs.List.{flat_map}
use Rattle.target_code.specs.Texts.{next}
use Rattle.target_code.proofs.printer.put_more.Given as goal

abbrev pub invariant-loop-word : goal.invariant-loop-word
invariant-loop-word l =
    l.text.items ++ flat_map next (drop l.word-index l.words) ≡ l.fn.text.items ++ flat_map next l.words
