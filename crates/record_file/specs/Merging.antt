-- What is decided of the merge of a record's logs.
use Rattle.std.specs.Prelude.{◌≤◌, ℕ, List, length}
use Rattle.bsan_ids.specs.declared.numbers.Limits.{Limits}
use Rattle.history.specs.declared.entry.Entry.{Entry}
use Rattle.ir_ast.specs.declared.hosts.HostTable.{HostTable}
use Rattle.runs.specs.Interleaving.{Legal}
use Rattle.runs.specs.Objects.{objects}
use Rattle.runs.specs.Parts.{of_alloc}
use Rattle.runs.specs.Right.{Numbered}
use Rattle.source_sem.specs.Records.{allowed}
use Rattle.record_file.specs.ByNumber.{AllFit}
use Rattle.record_file.specs.Following.{ComeInTurn, first_thread, no_thread}

-- the entries of each number are a legal history of requests that an allocation is asked
pub record AreHistories (entries : List Entry) : Type 0 where
  pub legal : (a : ℕ) → Legal objects (objects.unmade a) (of_alloc a entries)
  pub fitting : (a : ℕ) → AllFit (of_alloc a entries)

-- stamps are those from 1 on, within the limit; the entries come right in turn, and are histories
pub record IsGoodMerge (limits : Limits) (hosts : HostTable) (entries : List Entry) : Type 0 where
  pub numbered : Numbered 1 entries
  pub within : length entries ≤ limits.steps
  pub turns : ComeInTurn (allowed limits hosts) first_thread no_thread entries
  pub histories : AreHistories entries
