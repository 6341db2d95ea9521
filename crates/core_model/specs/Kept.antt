-- The record that a replay leaves.
use Rattle.std.specs.Prelude.{◌≡◌, ℕ, suc, List, [], ◌∷◌, unwrap_or}
use Rattle.bsan_ids.specs.declared.numbers.Limits.{Limits}
use Rattle.ir_ast.specs.declared.hosts.HostTable.{HostTable}
use Rattle.ir_ast.specs.declared.program.Program.{Program}
use Rattle.run_memory.specs.Memory.{Memory, named_from}
use Rattle.history.specs.declared.log.End.TheVariants as log_end
use Rattle.history.specs.declared.log.ThreadLog.{ThreadLog}
use Rattle.history.specs.declared.record.RunRecord.{RunRecord}
use Rattle.runs.specs.Objects.{objects}
use Rattle.runs.specs.Replay.{IsReplay}
use Rattle.runs.specs.ReplayLaw.{first_progress, record_of}
use Rattle.source_sem.specs.Records.{allowed, IsRightRecord}
use Rattle.source_sem.specs.Starting.{setting_of, main_of, main_start}
use Rattle.source_sem.specs.Source.{Setting, source, source_site}
use Rattle.core_model.specs.Fibers.{Seen}
use Rattle.core_model.specs.Running.{Played}

-- the logs of the code's threads, the first of which has this number
abbrev pub seen_log : ℕ → Seen → ThreadLog
seen_log t f = record {
  number = record { 0 = t };
  parent = f.parent;
  entry_function = f.function;
  entries = f.entries;
  instructions = f.state.count;
  last = source_site f.state;
  «end» = unwrap_or f.«end» log_end.NoMemory;
}

abbrev pub seen_logs : ℕ → List Seen → List ThreadLog
seen_logs t [] = []
seen_logs t (f ∷ fs) = seen_log t f ∷ seen_logs (suc t) fs

abbrev pub seen_record : List Seen → Memory → RunRecord
seen_record fibers m = record { threads = seen_logs 0 fibers; allocs = named_from 1 m.logs; words = m.words }

-- the record of a replay by this schedule, of a program as a thread has it
pub record IsOfReplay (x : Setting) (limits : Limits) (hosts : HostTable) (schedule : List ℕ) (kept : RunRecord) : Type 0 where
  pub last : Played x
  pub replay : IsReplay (source x) objects (allowed limits hosts) limits schedule (first_progress (source x) objects (main_of x.program) (main_start x)) last
  pub is : kept ≡ record_of (source x) objects limits last

-- the record is that of a replay of the program with this input by this schedule, and it is a right record
pub record Replayed (program : Program) (input : List ℕ) (hosts : HostTable) (limits : Limits) (schedule : List ℕ) (kept : RunRecord) : Type 0 where
  pub replay : IsOfReplay (setting_of program input hosts) limits hosts schedule kept
  pub right : IsRightRecord program input hosts limits kept
