use Rattle.std.proofs.Common.{◌≡◌, ◌++◌, map, drop}
use Rattle.std.specs.List.{flat_map}
use Rattle.target_code.specs.Texts.{next}
use Rattle.target_code.specs.declared.words.Word.TheVariants as word
use Rattle.target_code.proofs.printer.put_operands.Given as goal

abbrev pub invariant-loop-operand : goal.invariant-loop-operand
invariant-loop-operand l =
    l.text.items ++ flat_map next (map word.Operand (drop l.operand-index l.operands)) ≡ l.fn.text.items ++ flat_map next (map word.Operand l.operands)
