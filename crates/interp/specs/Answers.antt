-- What a native thread answers.
use Rattle.std.specs.Prelude.{◌≡◌, ℕ, List}
use Rattle.std.specs.declared.option.Option.{Option}
use Rattle.bsan_ids.specs.declared.numbers.Limits.{Limits}
use Rattle.bsan_ids.specs.declared.numbers.ThreadNo.{ThreadNo}
use Rattle.history.specs.declared.log.ThreadLog.{ThreadLog}
use Rattle.ir_ast.specs.declared.hosts.HostTable.{HostTable}
use Rattle.runs.specs.Objects.{objects}
use Rattle.runs.specs.Tree.{IsTree}
use Rattle.source_sem.specs.Records.{allowed}
use Rattle.source_sem.specs.Source.{source}
use Rattle.turn_lock.specs.Plays.{DeskView}
use Rattle.interp.specs.Desks.{IsTreeDesk}
use Rattle.interp.specs.Views.{ThreadView, TreeReturns}

-- A thread that began so, in this function, on this desk, answers these logs, its own and those of all threads below it, and this
-- desk. What it returns is a value of its function's result.
pub record IsAnswer (limits : Limits) (hosts : HostTable) (number : ThreadNo) (parent : Option ThreadNo) (function : ℕ) (began : ThreadView) (old : DeskView) (logs : List ThreadLog) (new : DeskView) : Type 0 where
  pub own : new.table ≡ old.table
  pub idle_allocs : List ℕ
  pub idle_threads : List ℕ
  pub tree : IsTree (source began.setting) objects (allowed limits hosts) limits number parent function began.state old.view.seen logs idle_allocs idle_threads
  pub desk : IsTreeDesk limits number old.view.seen new.view logs idle_allocs idle_threads
  pub returns : TreeReturns began.setting logs
