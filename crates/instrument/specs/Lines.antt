-- What is added to a list of lines.
use Rattle.std.specs.Prelude.{◌≡◌, List, ◌++◌}
use Rattle.target_code.specs.declared.line.Line.{Line}

-- `build` gives lines in front of those that follow; these lines were added behind the old ones
abbrev pub Adds : List Line → List Line → (List Line → List Line) → Type 0
Adds old new build = (ls : List Line) → new ++ ls ≡ old ++ build ls
