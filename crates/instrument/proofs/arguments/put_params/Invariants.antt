use Rattle.std.proofs.Common.{◌≡◌, List, ◌++◌, drop}
use Rattle.target_code.specs.declared.line.Line.{Line}
use Rattle.instrument.specs.Sources.{source_lines}
use Rattle.instrument.proofs.arguments.put_params.Given as goal

abbrev pub invariant-loop-index : goal.invariant-loop-index
invariant-loop-index l =
    (ls : List Line) → l.code ++ source_lines l.source l.scope l.index (drop l.index l.params) ls ≡ l.fn.code ++ source_lines l.source l.scope 0 l.params ls
