-- The line of a thread's end.
use Rattle.std.specs.Prelude.{ℕ, List, [], ◌∷◌, ◌++◌, codes}
use Rattle.std.specs.Fmt.{decimal}
use Rattle.history.specs.declared.log.End.{End}
use Rattle.history.specs.declared.log.End.TheVariants.{Returned, Trapped, StepLimit, TurnLimit, NoMemory, ChildEnded}
use Rattle.history.specs.declared.log.ThreadLog.{ThreadLog}
use Rattle.report.specs.Words.{trap_name}

-- how it ended; `last` is the number of the instruction at which it did
abbrev pub end_text : ℕ → End → List ℕ
end_text last (Returned value carried) = codes " returned " ++ decimal value
end_text last (Trapped trap) = codes " trapped: " ++ (trap_name trap ++ (codes " at instruction " ++ decimal last))
end_text last (StepLimit stamp) = codes " reached the step limit with stamp " ++ decimal stamp.0
end_text last TurnLimit = codes " reached the turn limit"
end_text last NoMemory = codes " found no memory"
end_text last (ChildEnded child) = codes " ended with thread " ++ decimal child.0

abbrev pub end_line : ThreadLog → List ℕ
end_line log = codes "thread " ++ (decimal log.number.0 ++ (end_text log.last log.end ++ 10 ∷ []))
