use Rattle.std.proofs.Common.{◌≡◌, List, ◌++◌, drop}
use Rattle.target_code.specs.declared.line.Line.{Line}
use Rattle.instrument.specs.Translation.{entry_retags}
use Rattle.instrument.proofs.functions.put_entry_retags.Given as goal

abbrev pub invariant-loop-param : goal.invariant-loop-param
invariant-loop-param l =
    (ls : List Line) → l.code ++ entry_retags l.scope (drop l.param-index l.params) ls ≡ l.fn.code ++ entry_retags l.scope l.params ls
