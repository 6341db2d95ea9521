-- A thread's log as it is written is a run of its machine with its end, whatever its stamps. Thread 0 is never started, so that a
-- Spawn which answers it says nothing of how it begins.
use Rattle.std.specs.Prelude.{◌≡◌, ◌≢◌, ℕ, zero, suc, Bool, true, List, [], ◌∷◌, Option, Some, None, All}
use Rattle.bsan_ids.specs.declared.numbers.Limits.{Limits}
use Rattle.bsan_ids.specs.declared.numbers.Prov.{Prov}
use Rattle.bsan_ids.specs.declared.numbers.ThreadNo.{ThreadNo}
use Rattle.history.specs.declared.ask.Ask.{Ask}
use Rattle.history.specs.declared.entry.Entry.{Entry}
use Rattle.history.specs.declared.entry.Plain.TheVariants as plain
use Rattle.history.specs.declared.entry.Request.TheVariants as request
use Rattle.history.specs.declared.log.End.TheVariants as log_end
use Rattle.history.specs.declared.log.ThreadLog.{ThreadLog}
use Rattle.runs.specs.Machine.{Machine, MayGoOn, SettlesWithin}
use Rattle.runs.specs.Parts.{Answers, Has, child_of}
use Rattle.runs.specs.Right.{IsReached, end_of}
use Rattle.runs.specs.Stamps.{RisesFrom}
use Rattle.runs.specs.Threads.{EndsAs}
use Rattle.runs.specs.Tree.{Firsts}

-- the thread of this number begins in this state, if it is a thread that can be started
abbrev pub BeginsAs : {S : Type 0} → (ℕ → S) → ℕ → S → Type 0
BeginsAs starts zero s = Unit {0}
BeginsAs starts (suc c) s = starts (suc c) ≡ s

-- so does the child, if there is one
abbrev pub ChildBeginsAs : {S : Type 0} → (ℕ → S) → Option ℕ → S → Type 0
ChildBeginsAs starts None s = Unit {0}
ChildBeginsAs starts (Some c) s = BeginsAs starts c s

abbrev pub AllBeginAs : {S : Type 0} → (ℕ → S) → Firsts S → Type 0
AllBeginAs starts [] = Unit {0}
AllBeginAs starts (p ∷ ps) = BeginsAs starts p.0 p.1 × AllBeginAs starts ps

-- after its local turns the thread asks for this entry, whose reply fits
pub record FedAsWritten (M : Machine) (limit : ℕ) (starts : ℕ → M.State) (s : M.State) (e : Entry) : Type 0 where
  pub now : M.State
  pub settles : SettlesWithin M limit s now
  pub may : MayGoOn M limit now
  pub site : M.site now ≡ e.site
  pub asks : Answers (M.ask now) e
  pub fits : M.fits now e
  pub child : ChildBeginsAs starts (child_of e) (M.child now)

-- fed with these replies the thread comes from s to last
abbrev pub FeedsAsWritten : (M : Machine) → ℕ → (ℕ → M.State) → M.State → List Entry → M.State → Type 0
FeedsAsWritten M limit starts s [] last = SettlesWithin M limit s last
FeedsAsWritten M limit starts s (e ∷ es) last = (f : FedAsWritten M limit starts s e) × FeedsAsWritten M limit starts (M.after f.now e) es last

-- the log is a run of its thread, in the order in which its entries are written
pub record IsRunAsWritten (M : Machine) (limits : Limits) (starts : ℕ → M.State) (log : ThreadLog) : Type 0 where
  pub last : M.State
  pub own : All (λ e. e.thread ≡ log.number) log.entries
  pub feeds : FeedsAsWritten M limits.turns starts (starts log.number.0) log.entries last
  pub «end» : EndsAs M limits last log.«end»
  pub count : log.instructions ≡ M.count last
  pub site : log.last ≡ M.site last

-- the thread of the log stands where it asks so, fed with all entries, at the log's count of instructions
pub record AsksAsWritten (M : Machine) (asks : Ask → Bool) (limits : Limits) (starts : ℕ → M.State) (log : ThreadLog) : Type 0 where
  pub last : M.State
  pub feeds : FeedsAsWritten M limits.turns starts (starts log.number.0) log.entries last
  pub count : log.instructions ≡ M.count last
  pub asking : asks (M.ask last) ≡ true

-- each log is a run of its thread as it is written, from the first state that a chain of Spawn entries gives it; who is joined has
-- returned that, and who ended its joiner has not
pub record HasRunsAsWritten (M : Machine) (limits : Limits) (main : M.State) (logs : List ThreadLog) : Type 0 where
  pub starts : ℕ → M.State
  pub first : starts 0 ≡ main
  pub reached : (log : ThreadLog) → Has logs log → IsReached logs log.number.0
  pub runs : (log : ThreadLog) → Has logs log → IsRunAsWritten M limits starts log
  pub joined : (log : ThreadLog) (e : Entry) (c : ThreadNo) → Has logs log → Has log.entries e → e.request ≡ request.Join c
      → (v : ℕ) × (e.reply.plain ≡ plain.Value v) × (end_of logs c.0 ≡ log_end.Returned v e.reply.carried) × ((child : ThreadLog) × Has logs child × (child.number ≡ c))
  pub ended : (log : ThreadLog) (c : ThreadNo) → Has logs log → log.«end» ≡ log_end.ChildEnded c
      → ((child : ThreadLog) × Has logs child × (child.number ≡ c)) × ((v : ℕ) (p : Option Prov) → end_of logs c.0 ≢ log_end.Returned v p)

-- the stamps rise along each log
abbrev pub StampsRise : List ThreadLog → Type 0
StampsRise logs = (log : ThreadLog) → Has logs log → RisesFrom 0 log.entries
