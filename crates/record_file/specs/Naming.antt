-- Which thread and which allocation an entry names.
use Rattle.std.specs.Prelude.{◌≡◌, IsSome, Option, None}
use Rattle.bsan_ids.specs.declared.numbers.AllocNo.{AllocNo}
use Rattle.history.specs.declared.entry.Entry.{Entry}
use Rattle.history.specs.declared.entry.Request.{Request}
use Rattle.history.specs.declared.entry.Request.TheVariants as request
use Rattle.history.specs.declared.log.ThreadLog.{ThreadLog}
use Rattle.record_text.specs.Ranges.{IsMadeAs}
use Rattle.runs.specs.Parts.{Has}

-- the allocation that a request addresses: none, where the run as a whole is asked, and else one; of a Make its reply says which
abbrev pub IsAddressed : Option AllocNo → Request → Type 0
IsAddressed alloc (request.Make size place) = Unit {0}
IsAddressed alloc (request.Print value) = alloc ≡ None
IsAddressed alloc (request.Host number first second) = alloc ≡ None
IsAddressed alloc (request.Spawn function) = alloc ≡ None
IsAddressed alloc (request.Join child) = alloc ≡ None
IsAddressed alloc other = IsSome alloc

-- the entry names the allocation that it asks, or that it makes
pub record IsNamed (e : Entry) : Type 0 where
  pub asked : IsAddressed e.alloc e.request
  pub made : IsMadeAs e.alloc e.request e.reply.plain

-- each entry of the log is of its thread, and names its allocation
abbrev pub HasNamed : ThreadLog → Type 0
HasNamed log = (e : Entry) → Has log.entries e → (e.thread.0 ≡ log.number.0) × IsNamed e
