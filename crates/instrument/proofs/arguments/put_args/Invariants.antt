use Rattle.std.proofs.Common.{◌≡◌, List, ◌++◌, drop}
use Rattle.target_code.specs.declared.line.Line.{Line}
use Rattle.instrument.specs.Translation.{arg_lines}
use Rattle.instrument.proofs.arguments.put_args.Given as goal

abbrev pub invariant-loop-index : goal.invariant-loop-index
invariant-loop-index l =
    (ls : List Line) → l.code ++ arg_lines l.scope l.index (drop l.index l.args) ls ≡ l.fn.code ++ arg_lines l.scope 0 l.args ls
