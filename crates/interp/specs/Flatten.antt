-- The trees' own logs.
use Rattle.std.specs.Prelude.{List, [], ◌∷◌, ◌++◌}
use Rattle.history.specs.declared.log.ThreadLog.{ThreadLog}

abbrev pub root_of : List ThreadLog → List ThreadLog
root_of [] = []
root_of (l ∷ ls) = l ∷ []

abbrev pub roots_of : List (List ThreadLog) → List ThreadLog
roots_of [] = []
roots_of (t ∷ ts) = root_of t ++ roots_of ts
