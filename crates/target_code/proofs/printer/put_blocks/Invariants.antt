use Rattle.std.proofs.Common.{◌≡◌, ◌++◌, drop}
use Rattle.target_code.specs.Texts.{blocks_text}
use Rattle.target_code.proofs.printer.put_blocks.Given as goal

abbrev pub invariant-loop-number : goal.invariant-loop-number
invariant-loop-number l =
    l.text.items ++ blocks_text l.number (drop l.number l.blocks) ≡ l.fn.text.items ++ blocks_text 0 l.blocks
