-- What the definitions of runs need of a thread and of an allocation.
use Rattle.std.specs.Prelude.{◌≡◌, ℕ, zero, suc, ◌<◌, Bool, true}
use Rattle.history.specs.declared.entry.Entry.{Entry}
use Rattle.history.specs.declared.entry.Request.{Request}
use Rattle.history.specs.declared.entry.Reply.{Reply}
use Rattle.history.specs.declared.ask.Ask.{Ask}
use Rattle.history.specs.declared.ask.Ask.TheVariants as ask

-- a kind of thread: its states, what they ask, and how they go on
pub record Machine : Type 1 where
  pub State : Type 0
  pub ask : State → Ask
  pub site : State → ℕ
  pub begins : State → Bool
  pub count : State → ℕ
  pub fits : State → Entry → Type 0
  pub turn : State → State
  pub after : State → Entry → State
  pub child : State → State

-- a kind of memory: the object of each number, and how it answers a request at a stamp
pub record Memory : Type 1 where
  pub Object : Type 0
  pub unmade : ℕ → Object
  pub made : Object → Bool
  pub reply : Object → Request → ℕ → Reply
  pub next : Object → Request → ℕ → Object

-- n local turns lead from s to t
abbrev pub TurnsTo : (M : Machine) → ℕ → M.State → M.State → Type 0
TurnsTo M zero s t = s ≡ t
TurnsTo M (suc n) s t = (M.ask s ≡ ask.Turn) × TurnsTo M n (M.turn s) t

-- some local turns lead from s to t
abbrev pub Settles : (M : Machine) → M.State → M.State → Type 0
Settles M s t = (n : ℕ) × TurnsTo M n s t

-- no instruction begins at a count equal to the limit
abbrev pub MayGoOn : (M : Machine) → ℕ → M.State → Type 0
MayGoOn M limit s = M.begins s ≡ true → M.count s < limit

abbrev pub TurnsWithin : (M : Machine) → ℕ → ℕ → M.State → M.State → Type 0
TurnsWithin M limit zero s t = s ≡ t
TurnsWithin M limit (suc n) s t = (M.ask s ≡ ask.Turn) × MayGoOn M limit s × TurnsWithin M limit n (M.turn s) t

-- the same within the limit on instructions
abbrev pub SettlesWithin : (M : Machine) → ℕ → M.State → M.State → Type 0
SettlesWithin M limit s t = (n : ℕ) × TurnsWithin M limit n s t
