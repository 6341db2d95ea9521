-- Whether a thread has ended after a step.
use Rattle.std.specs.Prelude.{◌≤◌}
use Rattle.std.specs.declared.option.Option.{Option}
use Rattle.bsan_ids.specs.declared.numbers.Limits.{Limits}
use Rattle.history.specs.declared.log.End.{End}
use Rattle.runs.specs.Replay.{RestsAs}
use Rattle.source_sem.specs.Source.{Setting, Source, source}
use Rattle.source_sem.specs.Traps.{EndIsOwn}

-- its end, if its state is one; the count is within the limit, and the state holds no end by a limit on numbers
abbrev pub Rests : Setting → Limits → Source → Option End → Type 0
Rests x limits s over = s.count ≤ limits.turns → EndIsOwn s.over → RestsAs (source x) limits s over
