-- The runs of a program with its input, its limits and its table of host functions, and the records that are right for them.
use Rattle.std.specs.Prelude.{ℕ, List, [], slice_get}
use Rattle.bsan_ids.specs.declared.numbers.Limits.{Limits}
use Rattle.ir_ast.specs.declared.hosts.HostTable.{HostTable}
use Rattle.ir_ast.specs.declared.program.Program.{Program}
use Rattle.ir_ast.specs.HostAnswers.{MayAnswer}
use Rattle.history.specs.declared.record.RunRecord.{RunRecord}
use Rattle.runs.specs.Interleaving.{Allowed}
use Rattle.runs.specs.Objects.{objects}
use Rattle.runs.specs.PlainObjects.{plain_objects}
use Rattle.runs.specs.Right.{IsRight, ErasesToPlainRun}
use Rattle.source_sem.specs.Source.{source, plain_setting}
use Rattle.source_sem.specs.Starting.{setting_of, main_of, main_start}

-- a table without host functions
abbrev pub no_hosts : HostTable
no_hosts = record { entries = [] }

-- the numbers that a Make may take, and the words that a host may answer
abbrev pub allowed : Limits → HostTable → Allowed
allowed limits hosts = record { allocs = limits.allocs; host = λ n first second answer. MayAnswer (slice_get hosts.entries n) first second answer }

-- the record is right for the program, its erasure aside
abbrev pub IsRightFor : Program → List ℕ → HostTable → Limits → RunRecord → Type 0
IsRightFor program input hosts limits kept =
    IsRight (source (setting_of program input hosts)) objects (allowed limits hosts) limits (main_of program) (main_start (setting_of program input hosts)) kept

-- without its retags and protector ends, and without provenance, it is a run of the plain program
abbrev pub ErasesFor : Program → List ℕ → HostTable → Limits → RunRecord → Type 0
ErasesFor program input hosts limits kept =
    ErasesToPlainRun (source (plain_setting (setting_of program input hosts))) plain_objects (allowed limits hosts) (main_start (plain_setting (setting_of program input hosts))) kept.threads

-- a right record for a program, an input, a table of host functions and limits: all of it
pub record IsRightRecord (program : Program) (input : List ℕ) (hosts : HostTable) (limits : Limits) (kept : RunRecord) : Type 0 where
  pub right : IsRightFor program input hosts limits kept
  pub erases : ErasesFor program input hosts limits kept
