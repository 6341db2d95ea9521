-- What one stamped step makes of a desk.
use Rattle.std.specs.Prelude.{◌≡◌, ℕ, ◌<◌, ◌≤◌, ◌&&◌, nat_le, if◌then◌else◌, Bool, List, [], ◌∷◌, ◌++◌, All, Contains, Option, Some, None, Result, Ok, Err}
use Rattle.bsan_ids.specs.declared.numbers.AllocNo.{AllocNo}
use Rattle.bsan_ids.specs.declared.numbers.Limits.{Limits}
use Rattle.bsan_ids.specs.declared.numbers.ThreadNo.{ThreadNo}
use Rattle.ir_ast.specs.declared.types.Place.{Place}
use Rattle.history.specs.declared.entry.Entry.{Entry}
use Rattle.history.specs.declared.entry.Reply.{Reply}
use Rattle.history.specs.declared.entry.Request.{Request}
use Rattle.history.specs.declared.entry.Request.TheVariants.{Make}
use Rattle.history.specs.Histories.{IsHistory, HasBytes}
use Rattle.history.specs.Merge.{stamp_of}
use Rattle.history.specs.Restriction.{number_of}
use Rattle.turn_lock.specs.declared.view.View.{View}
use Rattle.turn_lock.specs.Steps.{draws, drew_alloc, drew_thread, saw}
use Rattle.turn_lock.specs.Plays.{DeskView}
use Rattle.alloc_space.specs.declared.step.Stepped.{Stepped}
use Rattle.alloc_space.specs.declared.step.Stepped.TheVariants as stepped
use Rattle.alloc_space.specs.declared.make.Made.{Made}
use Rattle.alloc_space.specs.declared.make.Made.TheVariants as made
use Rattle.alloc_space.specs.declared.number.ThreadLimit.{ThreadLimit}

-- the desk drew this stamp, which it has seen
abbrev pub stamped : View → ℕ → View
stamped v n = record v { stamps = draws v.stamps n; seen = n }

-- the number is one that can be made
abbrev pub has_slot : ℕ → ℕ → Bool
has_slot limit n = nat_le 1 n && nat_le n limit

-- the entry, where it is kept as a call
abbrev pub call_of : ℕ → Entry → List Entry
call_of limit e = if has_slot limit (number_of e.alloc) then e ∷ [] else []

-- the desk made the step of this entry, which is a call where it names a number that can be made
abbrev pub stepped_by : Limits → View → Entry → View
stepped_by limits v e = record v { stamps = draws v.stamps (stamp_of e); seen = stamp_of e; calls = v.calls ++ call_of limits.allocs e }

-- the entry has what was handed
pub record IsEntryOf (thread : ThreadNo) (site : ℕ) (alloc : Option AllocNo) (request : Request) (e : Entry) : Type 0 where
  pub thread_is : e.thread ≡ thread
  pub site_is : e.site ≡ site
  pub alloc_is : e.alloc ≡ alloc
  pub request_is : e.request ≡ request

-- the entry is the last one of a legal history of this number, in which all bytes are bytes; where the number can't be made, it is the only one
pub record IsLastOf (limits : Limits) (number : ℕ) (e : Entry) : Type 0 where
  pub before : List Entry
  pub history : IsHistory number (before ++ e ∷ [])
  pub bytes : All (λ x. HasBytes x.request) (before ++ e ∷ [])
  pub unmade : has_slot limits.allocs number ≡ Bool.false → before ≡ []

-- what each stamped step leaves, from a desk that has seen less
pub record IsStamped (limits : Limits) (old new : DeskView) (e : Entry) : Type 0 where
  pub later : old.view.seen < stamp_of e
  pub within : stamp_of e ≤ limits.steps
  pub desk : new ≡ record { table = old.table; view = stepped_by limits old.view e }

pub record IsPastSteps (limits : Limits) (old new : DeskView) (stamp : ℕ) : Type 0 where
  pub above : limits.steps < stamp
  pub later : old.view.seen < stamp
  pub desk : new ≡ record { table = old.table; view = stamped old.view stamp }

-- nothing but what the desk has seen, which may have grown
pub record HasSeen (old new : DeskView) : Type 0 where
  pub reached : ℕ
  pub seen : old.view.seen ≤ reached
  pub desk : new ≡ record { table = old.table; view = saw old.view reached }

pub record IsStep (limits : Limits) (thread : ThreadNo) (site : ℕ) (alloc : AllocNo) (request : Request) (old new : DeskView) (e : Entry) : Type 0 where
  pub entry : IsEntryOf thread site (Some alloc) request e
  pub answers : IsLastOf limits alloc.0 e
  pub step : IsStamped limits old new e

-- what a request to a number comes to
abbrev pub IsStepped : Limits → ThreadNo → ℕ → AllocNo → Request → DeskView → DeskView → Stepped → Type 0
IsStepped limits thread site alloc request old new (stepped.Done e) = IsStep limits thread site alloc request old new e
IsStepped limits thread site alloc request old new (stepped.StepLimit stamp) = IsPastSteps limits old new stamp.0
IsStepped limits thread site alloc request old new stepped.NoMemory = HasSeen old new

pub record IsNote (limits : Limits) (thread : ThreadNo) (site : ℕ) (request : Request) (reply : Reply) (old new : DeskView) (e : Entry) : Type 0 where
  pub entry : IsEntryOf thread site None request e
  pub reply_is : e.reply ≡ reply
  pub step : IsStamped limits old new e

-- what a step without an allocation comes to
abbrev pub IsNoted : Limits → ThreadNo → ℕ → Request → Reply → DeskView → DeskView → Stepped → Type 0
IsNoted limits thread site request reply old new (stepped.Done e) = IsNote limits thread site request reply old new e
IsNoted limits thread site request reply old new (stepped.StepLimit stamp) = IsPastSteps limits old new stamp.0
IsNoted limits thread site request reply old new stepped.NoMemory = ⊥

-- the desk drew this allocation number
abbrev pub numbered : DeskView → ℕ → DeskView
numbered d n = record { table = d.table; view = drew_alloc d.view n }

-- a number up to the limit was drawn, and then the step has come to this
pub record IsMaking (limits : Limits) (thread : ThreadNo) (site size : ℕ) (place : Place) (old new : DeskView) (came : Stepped) : Type 0 where
  pub number : AllocNo
  pub first : 1 ≤ number.0
  pub few : number.0 ≤ limits.allocs
  pub step : IsStepped limits thread site number (Make size place) (numbered old number.0) new came

-- what a Make comes to
abbrev pub IsMade : Limits → ThreadNo → ℕ → ℕ → Place → DeskView → DeskView → Made → Type 0
IsMade limits thread site size place old new (made.Done e) = IsMaking limits thread site size place old new (stepped.Done e)
IsMade limits thread site size place old new (made.AllocLimit drawn) = (limits.allocs < drawn) × (new ≡ numbered old drawn)
IsMade limits thread site size place old new (made.StepLimit stamp) = IsMaking limits thread site size place old new (stepped.StepLimit stamp)
IsMade limits thread site size place old new made.NoMemory = IsMaking limits thread site size place old new stepped.NoMemory

-- a thread number was drawn for which the desk was not split
pub record IsNumbered (old new : DeskView) (number : ℕ) : Type 0 where
  pub desk : new ≡ record { table = old.table; view = drew_thread old.view number }
  pub greater : old.view.name < number
  pub greatest : All (λ n. n < number) old.view.threads.own
  pub not_out : ¬ (Contains old.view.outs number)
  pub not_joined : ¬ (Contains old.view.joined number)

abbrev pub IsThreadNumber : DeskView → DeskView → Result ThreadNo ThreadLimit → Type 0
IsThreadNumber old new (Ok number) = (number.0 ≤ 1023) × IsNumbered old new number.0
IsThreadNumber old new (Err limit) = (1023 < limit.0) × IsNumbered old new limit.0
