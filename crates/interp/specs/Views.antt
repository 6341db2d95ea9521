-- A thread as contracts see it, and what holds of it in a run of an accepted program.
use Rattle.std.specs.Prelude.{◌≡◌, ℕ, ◌<◌, ◌^◌, ◌⊎◌, true, List, [], ◌∷◌, Some, None, slice_get}
use Rattle.std.specs.declared.option.Option.{Option}
use Rattle.history.specs.declared.ask.Ask.{Ask}
use Rattle.history.specs.declared.ask.Ask.TheVariants as ask
use Rattle.history.specs.declared.entry.Entry.{Entry}
use Rattle.history.specs.declared.entry.Request.TheVariants as request
use Rattle.history.specs.declared.log.End.{End}
use Rattle.history.specs.declared.log.End.TheVariants as log_end
use Rattle.history.specs.declared.log.ThreadLog.{ThreadLog}
use Rattle.history.specs.Histories.{fits, HasBytes}
use Rattle.ir_ast.specs.declared.program.Function.{Function}
use Rattle.ir_ast.specs.declared.types.Ty.{Ty}
use Rattle.runs.specs.Parts.{Has, child_of, IsOnNumber}
use Rattle.source_runs.specs.Invariant.{ResultFits, SourceFits, StartsWell}
use Rattle.source_sem.specs.Joining.{ThreadStands}
use Rattle.source_sem.specs.Requests.{TopFits}
use Rattle.source_sem.specs.Source.{Setting, Source, source_turn, source_answer, source_child}
use Rattle.source_sem.specs.Traps.{EndIsOwn}

-- what the thread runs, and its state
pub record ThreadView : Type 0 where
  pub setting : Setting
  pub state : Source

-- the thread after a local turn, after an answer, and the thread that it starts
abbrev pub turned : ThreadView → ThreadView
turned v = record { setting = v.setting; state = source_turn v.setting v.state }

abbrev pub answered : ThreadView → Entry → ThreadView
answered v e = record { setting = v.setting; state = source_answer v.setting v.state e.reply }

abbrev pub child_view : ThreadView → ThreadView
child_view v = record { setting = v.setting; state = source_child v.setting v.state }

-- the type of a function's result
abbrev pub result_in : Option Function → Option Ty
result_in None = None
result_in (Some g) = g.result.ty

abbrev pub result_of : Setting → ℕ → Option Ty
result_of x f = result_in (slice_get x.program.functions f)

-- one of the entries starts thread c in function f
pub record Starts (entries : List Entry) (f c : ℕ) : Type 0 where
  pub spawn : Entry
  pub stands : Has entries spawn
  pub asks : spawn.request ≡ request.Spawn f
  pub answers : child_of spawn ≡ Some c

-- which threads run which functions, as a thread knows by its entries; 0 counts for every function, since a handle without a value
-- reads as 0
abbrev pub Knows : List Entry → ℕ → ℕ → Type 0
Knows entries f c = (c ≡ 0) ⊎ (Starts entries f c × (c < 2 ^ 32))

-- in each state of a thread that began in this function: what it asks fits, it ends by no limit on numbers of its own, it joins its
-- children alone, and its words are of their types
pub record IsKept (x : Setting) (entries : List Entry) (function : ℕ) (s : Source) : Type 0 where
  pub requests : TopFits x s.frames
  pub traps : EndIsOwn s.over
  pub stands : ThreadStands x.program s
  pub words : SourceFits x.program (Knows entries) (result_of x function) s

-- the first state of a thread that runs this function, with arguments that fit its parameters
abbrev pub Begins : ThreadView → ℕ → Type 0
Begins v f = StartsWell v.setting f v.state

-- what holds of all steps that a thread asks, where there are so many host functions
abbrev pub StepFits : ℕ → Ask → Type 0
StepFits hosts (ask.At a r) = IsOnNumber r × (fits r ≡ true) × HasBytes r
StepFits hosts (ask.Make size place) = fits (request.Make size place) ≡ true
StepFits hosts (ask.Host n x y) = (n < hosts) × (x < 2 ^ 64) × (y < 2 ^ 64)
StepFits hosts other = Unit {0}

-- a thread that returned has returned a value of its function's result
abbrev pub EndFits : Setting → ℕ → End → Type 0
EndFits x f (log_end.Returned w p) = ResultFits (result_of x f) (record { value = w; prov = p })
EndFits x f other = Unit {0}

-- the same of a tree, whose own log is the first
abbrev pub TreeReturns : Setting → List ThreadLog → Type 0
TreeReturns x [] = Unit {0}
TreeReturns x (log ∷ logs) = EndFits x log.entry_function log.«end»
