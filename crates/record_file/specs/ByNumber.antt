-- Entries by the numbers of their allocations, and logs that are legal.
use Rattle.std.specs.Prelude.{◌<◌, ℕ, IsTrue, Option, Some, None, List}
use Rattle.bsan_ids.specs.declared.numbers.AllocNo.{AllocNo}
use Rattle.history.specs.declared.entry.Entry.{Entry}
use Rattle.history.specs.declared.log.AllocLog.{AllocLog}
use Rattle.history.specs.Histories.{fits}
use Rattle.runs.specs.Interleaving.{Legal}
use Rattle.runs.specs.Objects.{objects}
use Rattle.runs.specs.Parts.{Has}

-- a number, if there is one, is below this
abbrev pub IsSmall : ℕ → Option AllocNo → Type 0
IsSmall bound None = Unit {0}
IsSmall bound (Some a) = a.0 < bound

-- the entries are a legal history of requests that allocations are asked
abbrev pub AllFit : List Entry → Type 0
AllFit es = (e : Entry) → Has es e → IsTrue (fits e.request)

pub record IsLegalLog (log : AllocLog) : Type 0 where
  pub legal : Legal objects (objects.unmade log.number.0) log.entries
  pub fitting : AllFit log.entries

abbrev pub AreLegalLogs : List AllocLog → Type 0
AreLegalLogs logs = (log : AllocLog) → Has logs log → IsLegalLog log
