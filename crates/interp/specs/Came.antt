-- What a step that starts and joins no thread comes to.
use Rattle.std.specs.Prelude.{◌≡◌, ℕ, []}
use Rattle.std.specs.declared.option.Option.{Option}
use Rattle.bsan_ids.specs.declared.numbers.Limits.{Limits}
use Rattle.bsan_ids.specs.declared.numbers.ThreadNo.{ThreadNo}
use Rattle.history.specs.declared.ask.Ask.{Ask}
use Rattle.history.specs.declared.ask.Ask.TheVariants as ask
use Rattle.history.specs.declared.entry.Entry.{Entry}
use Rattle.history.specs.declared.log.End.{End}
use Rattle.history.specs.declared.log.End.TheVariants as log_end
use Rattle.ir_ast.specs.declared.hosts.HostTable.{HostTable}
use Rattle.ir_ast.specs.declared.types.Ty.{Ty}
use Rattle.runs.specs.Machine.{MayGoOn}
use Rattle.runs.specs.Objects.{objects}
use Rattle.runs.specs.Parts.{Answers}
use Rattle.runs.specs.Right.{spawned_by_reply}
use Rattle.runs.specs.Threads.{EndsAs}
use Rattle.runs.specs.Tree.{IsStepRight}
use Rattle.source_runs.specs.Invariant.{PlainFits}
use Rattle.source_sem.specs.Records.{allowed}
use Rattle.source_sem.specs.Source.{Setting, Source, source, source_ask}
use Rattle.source_sem.specs.Traps.{PlainIsOwn}
use Rattle.thread_parts.specs.Fits.{ReplyFits}
use Rattle.turn_lock.specs.Plays.{DeskView}
use Rattle.interp.specs.declared.step.Came.{Came}
use Rattle.interp.specs.declared.step.Came.TheVariants as came
use Rattle.interp.specs.Desks.{Over, DeskStep, DeskEnd, IsReady}

-- a step that starts and joins no thread
abbrev pub AsksPlainly : Ask → Type 0
AsksPlainly ask.Turn = ⊥
AsksPlainly (ask.Ended e) = ⊥
AsksPlainly (ask.Spawn f) = ⊥
AsksPlainly (ask.Join c) = ⊥
AsksPlainly _ = Unit {0}

-- the reply is one to which the thread can go on
pub record IsFitting (e : Entry) : Type 0 where
  pub fits : (ty : Option Ty) → ReplyFits ty e e.request
  pub plain : PlainFits e.reply.plain
  pub own : PlainIsOwn e.reply.plain
  pub alone : spawned_by_reply e.reply.plain ≡ []

-- an entry of this thread and site that answers what was asked, and starts no thread
pub record IsEntry (limits : Limits) (hosts : HostTable) (number : ThreadNo) (place : ℕ) (a : Ask) (e : Entry) : Type 0 where
  pub thread : e.thread ≡ number
  pub site : e.site ≡ place
  pub answers : Answers a e
  pub fitting : IsFitting e
  pub right : IsStepRight objects (allowed limits hosts) limits e

-- an end to which any thread may come that asks so
abbrev pub EndsAny : Limits → Ask → End → Type 0
EndsAny limits a over = (x : Setting) (s : Source) → source_ask x s ≡ a → MayGoOn (source x) limits.turns s → EndsAs (source x) limits s over

-- an end to which a step comes
abbrev pub IsStepEnd : End → Type 0
IsStepEnd (log_end.Returned v p) = ⊥
IsStepEnd (log_end.ChildEnded c) = ⊥
IsStepEnd _ = Unit {0}

pub record IsDone (limits : Limits) (hosts : HostTable) (number : ThreadNo) (place : ℕ) (a : Ask) (old new : DeskView) (e : Entry) : Type 0 where
  pub own : new.table ≡ old.table
  pub ready : IsReady limits new.view
  pub entry : IsEntry limits hosts number place a e
  pub desk : DeskStep limits old.view new.view e
  pub threads : new.view.threads.own ≡ old.view.threads.own

pub record IsOver (limits : Limits) (a : Ask) (old new : DeskView) (why : End) : Type 0 where
  pub own : new.table ≡ old.table
  pub over : Over
  pub over_is : over.«end» ≡ why
  pub desk : DeskEnd a old.view new.view over
  pub ends : EndsAny limits a why
  pub kind : IsStepEnd why
  pub threads : new.view.threads.own ≡ old.view.threads.own

abbrev pub CameBy : Limits → HostTable → ThreadNo → ℕ → Ask → DeskView → DeskView → Came → Type 0
CameBy limits hosts number place a old new (came.Done e) = IsDone limits hosts number place a old new e
CameBy limits hosts number place a old new (came.Over why) = IsOver limits a old new why
