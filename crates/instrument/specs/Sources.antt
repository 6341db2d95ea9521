-- Where parameters find their values.
use Rattle.std.specs.Prelude.{◌≡◌, ℕ, ◌+◌, List, ◌∷◌, ◌++◌}
use Rattle.ir_ast.specs.declared.program.Param.{Param}
use Rattle.target_code.specs.declared.line.Line.{Line}
use Rattle.instrument.specs.Translation.{Scope, param_lines, take_lines}
use Rattle.instrument.specs.declared.arguments.Source.{Source}
use Rattle.instrument.specs.declared.arguments.Source.TheVariants.{Frame, Row}

-- the lines that give parameters their values, from an index on
abbrev pub source_lines : Source → Scope → ℕ → List Param → List Line → List Line
source_lines Frame x i ps ls = param_lines x i ps ls
source_lines Row x i ps ls = take_lines x i ps ls

-- the lines of one parameter were added, whichever parameters and lines follow it
abbrev pub AddsParam : Source → Scope → ℕ → Param → List Line → List Line → Type 0
AddsParam source x i p old new =
    (ps : List Param) (ls : List Line) → new ++ source_lines source x (i + 1) ps ls ≡ old ++ source_lines source x i (p ∷ ps) ls
