-- The step that a thread asks for, over the allocations of the run.
use Rattle.std.specs.Prelude.{◌≡◌, ◌≢◌, ℕ, ◌+◌, ◌<◌, ◌^◌, false, IsTrue, length, Some, None}
use Rattle.std.specs.declared.option.Option.{Option}
use Rattle.bsan_ids.specs.declared.numbers.Counters.{Counters}
use Rattle.bsan_ids.specs.declared.numbers.ThreadNo.{ThreadNo}
use Rattle.history.specs.declared.ask.Ask.{Ask}
use Rattle.history.specs.declared.ask.Ask.TheVariants as ask
use Rattle.history.specs.declared.entry.Plain.TheVariants as plain
use Rattle.history.specs.declared.entry.Request.TheVariants as request
use Rattle.history.specs.Histories.{HasBytes, fits, is_make}
use Rattle.history.specs.Objects.{clean}
use Rattle.hosts.specs.Rules.{IsAnswer}
use Rattle.ir_ast.specs.declared.hosts.HostTable.{HostTable}
use Rattle.run_memory.specs.Memory.{Memory, Stays, Asks, Makes, Records, Starts}
use Rattle.run_memory.specs.declared.states.Step.{Step}
use Rattle.run_memory.specs.declared.states.Step.TheVariants.{Ends}
use Rattle.history.specs.declared.log.End.{End}
use Rattle.history.specs.declared.log.End.TheVariants as log_end

-- there is a next stamp, a next allocation number and a next thread number
pub record HasNumbers (words : Counters) : Type 0 where
  pub stamps : words.stamps + 1 < 2 ^ 64
  pub allocs : words.allocs + 1 < 2 ^ 64
  pub threads : words.threads + 1 < 2 ^ 64

-- a request to an allocation fits, is of bytes and makes none; and one that makes an allocation fits
abbrev pub IsAllowed : Ask → Type 0
IsAllowed (ask.At a r) = IsTrue (fits r) × HasBytes r × (is_make r ≡ false)
IsAllowed (ask.Make size place) = IsTrue (fits (request.Make size place))
IsAllowed other = Unit {0}

-- a host function that is asked is in the table
abbrev pub AsksHostOf : HostTable → Ask → Type 0
AsksHostOf table (ask.Host n a b) = n < length table.entries
AsksHostOf table other = Unit {0}

-- a child that is joined has ended
abbrev pub IsJoined : Ask → Option End → Type 0
IsJoined (ask.Join c) joined = joined ≢ None
IsJoined other joined = Unit {0}

-- a child that has returned is joined; one that has ended otherwise ends its parent
abbrev pub JoinsStep : Memory → ThreadNo → ℕ → ThreadNo → Option End → Memory → Step → Type 0
JoinsStep m thread site c (Some (log_end.Returned v q)) new step =
    Records m thread site (request.Join c) (clean (plain.Value v) q) new step
JoinsStep m thread site c (Some other) new step = (step ≡ Ends (log_end.ChildEnded c)) × Stays m new m.words
JoinsStep m thread site c None new step = ⊥

-- the step that is asked for
abbrev pub IsStep : Memory → HostTable → ThreadNo → ℕ → Option End → Ask → Memory → Step → Type 0
IsStep m table thread site joined (ask.Make size place) new step = Makes m thread site size place new step
IsStep m table thread site joined (ask.At a r) new step = Asks m thread site a r new step
IsStep m table thread site joined (ask.Print v) new step = Records m thread site (request.Print v) (clean plain.Done None) new step
IsStep m table thread site joined (ask.Host n a b) new step = (v : ℕ) × IsAnswer table n a b v × Records m thread site (request.Host n a b) (clean (plain.Value v) None) new step
IsStep m table thread site joined (ask.Spawn f) new step = Starts m thread site f new step
IsStep m table thread site joined (ask.Join c) new step = JoinsStep m thread site c joined new step
IsStep m table thread site joined ask.Turn new step = ⊥
IsStep m table thread site joined (ask.Ended e) new step = ⊥
