use Rattle.std.proofs.Common.{◌≡◌, ◌++◌, drop}
use Rattle.target_code.specs.Texts.{functions_text}
use Rattle.target_code.proofs.printer.put_functions.Given as goal

abbrev pub invariant-loop-number : goal.invariant-loop-number
invariant-loop-number l =
    l.text.items ++ functions_text l.number (drop l.number l.functions) ≡ l.fn.text.items ++ functions_text 0 l.functions
