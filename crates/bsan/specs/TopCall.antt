-- The contract of the top call: what it says of its files, its sink, its record and its answer, clause by clause.
use Rattle.std.specs.Prelude.{ℕ, Option}
use Rattle.command_words.specs.Jobs.{Job}
use Rattle.history.specs.declared.record.RunRecord.{RunRecord}
use Rattle.ir_ast.specs.declared.hosts.HostTable.{HostTable}
use Rattle.bsan.specs.Seen.{FilesSeen, SinkSeen}
use Rattle.bsan.specs.Answer.{Answers}
use Rattle.bsan.specs.Causes.{RunCause, UsageCause, NotReadCause, NotVerifiedCause, RulesCause, RecordCause, ReadCause, PutCause, MemoryCause, LeavesNone, IsComplete}

pub record IsTopCall (files : FilesSeen) (hosts : HostTable) (sink : SinkSeen) (asked : Option Job) (kept : RunRecord) (status : ℕ) : Type 0 where
  -- Something was found for its cause, with this record, and its text was put for this answer.
  pub answer : Answers files hosts sink asked kept status
  -- 0: only after a run without violations, those aside that rules hold, or where a program was accepted or its target code made,
  -- or a record found right. 1, 5, 6, 10: only after a run with violations, with a trap, with a limit, with a data race. The whole
  -- text was put.
  pub run : RunCause files hosts sink asked kept status
  -- 2: exactly where the words ask for nothing.
  pub usage : UsageCause asked status
  -- 3: exactly where the text is refused, unless the program's file was not read.
  pub not_read : NotReadCause files asked status
  -- 4: exactly where a rule is broken in the program, unless its file was not read.
  pub not_verified : NotVerifiedCause files hosts asked status
  -- 12: exactly where the program is accepted and a line of the rules is refused, unless a file before was not read.
  pub rules : RulesCause files hosts asked status
  -- 11: exactly where the program is accepted and the record's file is not the text of a right record, unless it or a file before
  -- was not read; after `recheck` 0: exactly where it is one. `recheck` leaves no record.
  pub «record» : RecordCause files hosts asked kept status
  -- 7: only where a read of the program's file failed or it was too long, or, where the program is accepted, the same of the rules'
  -- file, the input's or the record's.
  pub read_fault : ReadCause files hosts asked status
  -- 8: only where the sink failed.
  pub put_fault : PutCause sink status
  -- 9: nothing was put, or the whole text of a run in which a thread found no memory.
  pub memory : MemoryCause files hosts sink asked kept status
  -- 2, 3, 4, 7, 11 and 12 leave no record.
  pub no_record : LeavesNone kept status
  -- Where all is well outside, only being out of memory can come between.
  pub complete : IsComplete files hosts sink asked kept status
