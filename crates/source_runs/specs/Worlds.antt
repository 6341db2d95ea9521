-- In every run of an accepted program, each thread is given replies that fit.
use Rattle.std.specs.Prelude.{ℕ, ◌<◌, ◌^◌, List}
use Rattle.bsan_ids.specs.declared.numbers.Limits.{Limits}
use Rattle.ir_ast.specs.Programs.{IsProgram}
use Rattle.ir_ast.specs.Tokens.{Each}
use Rattle.ir_ast.specs.declared.hosts.HostTable.{HostTable}
use Rattle.ir_ast.specs.declared.program.Program.{Program}
use Rattle.ir_rules.specs.Rules.{IsAccepted}
use Rattle.runs.specs.Objects.{objects}
use Rattle.runs.specs.ReplayLaw.{first_progress, record_of, FitsAlways}
use Rattle.runs.specs.Replay.{Progress, IsReplay}
use Rattle.source_sem.specs.Source.{Setting, source}
use Rattle.source_sem.specs.Starting.{setting_of, main_of, main_start}
use Rattle.source_sem.specs.Records.{allowed, IsRightRecord}

-- the program's threads, its allocations and these host functions
abbrev pub RepliesAlwaysFit : Type 0
RepliesAlwaysFit =
    (x : Setting) (limits : Limits) (hosts : HostTable) → IsProgram x.program → IsAccepted x.program hosts → Each (λ b. b < 256) x.input → limits.allocs < 2 ^ 32
    → FitsAlways (source x) objects (allowed limits hosts) (main_start x)

-- a replay of an accepted program leaves a right record
abbrev pub ReplaysLeaveRightRecords : Type 0
ReplaysLeaveRightRecords =
    (program : Program) (input : List ℕ) (hosts : HostTable) (limits : Limits) (schedule : List ℕ) (last : Progress (source (setting_of program input hosts)) objects)
    → IsProgram program → IsAccepted program hosts → Each (λ b. b < 256) input → limits.allocs < 2 ^ 32
    → IsReplay (source (setting_of program input hosts)) objects (allowed limits hosts) limits schedule (first_progress (source (setting_of program input hosts)) objects (main_of program) (main_start (setting_of program input hosts))) last
    → IsRightRecord program input hosts limits (record_of (source (setting_of program input hosts)) objects limits last)
