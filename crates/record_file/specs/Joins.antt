-- What is said of threads that are joined.
use Rattle.std.specs.Prelude.{◌≡◌, ◌≢◌, ℕ, List}
use Rattle.std.specs.declared.option.Option.{Option}
use Rattle.bsan_ids.specs.declared.numbers.Prov.{Prov}
use Rattle.bsan_ids.specs.declared.numbers.ThreadNo.{ThreadNo}
use Rattle.history.specs.declared.entry.Entry.{Entry}
use Rattle.history.specs.declared.entry.Plain.TheVariants as plain
use Rattle.history.specs.declared.entry.Request.{Request}
use Rattle.history.specs.declared.entry.Request.TheVariants as request
use Rattle.history.specs.declared.log.End.{End}
use Rattle.history.specs.declared.log.End.TheVariants as log_end
use Rattle.history.specs.declared.log.ThreadLog.{ThreadLog}
use Rattle.runs.specs.Parts.{Has}
use Rattle.runs.specs.Right.{end_of}

-- a thread has a log
abbrev pub HasLog : List ThreadLog → ThreadNo → Type 0
HasLog logs c = (child : ThreadLog) × Has logs child × (child.number ≡ c)

-- the joined thread has returned what the entry answers
abbrev pub JoinsRight : List ThreadLog → Entry → Request → Type 0
JoinsRight logs e (request.Join c) = (v : ℕ) × (e.reply.plain ≡ plain.Value v) × (end_of logs c.0 ≡ log_end.Returned v e.reply.carried) × HasLog logs c
JoinsRight logs e _ = Unit {0}

abbrev pub JoinAll : List ThreadLog → List Entry → Type 0
JoinAll logs es = (e : Entry) → Has es e → JoinsRight logs e e.request

abbrev pub IsReturned : End → Type 0
IsReturned (log_end.Returned v p) = Unit {0}
IsReturned _ = ⊥

-- the thread that ended its joiner hasn't returned
abbrev pub EndsRight : List ThreadLog → End → Type 0
EndsRight logs (log_end.ChildEnded c) = HasLog logs c × ((v : ℕ) (p : Option Prov) → end_of logs c.0 ≢ log_end.Returned v p)
EndsRight logs _ = Unit {0}

abbrev pub AreJoinedRight : List ThreadLog → Type 0
AreJoinedRight logs = (log : ThreadLog) → Has logs log → JoinAll logs log.entries × EndsRight logs log.«end»
