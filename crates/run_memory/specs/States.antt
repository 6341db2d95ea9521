-- The states of allocations, the first of the number 1.
use Rattle.std.specs.Prelude.{◌≡◌, ℕ, zero, suc, ◌+◌, ◌<◌, ◌≤◌, Bool, true, false, All, List, [], ◌∷◌, ◌++◌, Some, None, Ok, Err, length, map, max}
use Rattle.std.specs.declared.result.Result.{Result}
use Rattle.bsan_ids.specs.declared.numbers.AllocNo.{AllocNo}
use Rattle.bsan_ids.specs.declared.numbers.Counters.{Counters}
use Rattle.bsan_ids.specs.declared.numbers.Limits.{Limits}
use Rattle.bsan_ids.specs.declared.numbers.Stamp.{Stamp}
use Rattle.bsan_ids.specs.declared.numbers.ThreadNo.{ThreadNo}
use Rattle.history.specs.declared.entry.Entry.{Entry}
use Rattle.history.specs.declared.entry.Request.{Request}
use Rattle.history.specs.Histories.{replay, is_make, IsHistory}
use Rattle.history.specs.Objects.{unmade, answer}
use Rattle.alloc_state.specs.Log.{Log, has_make}
use Rattle.history.specs.declared.log.End.TheVariants.{StepLimit, NoMemory}
use Rattle.runs.specs.ReplayLaw.{with_history}
use Rattle.run_memory.specs.declared.states.Step.{Step}
use Rattle.run_memory.specs.declared.states.Step.TheVariants.{Done, Ends}
use Rattle.history.specs.declared.log.AllocLog.{AllocLog}
use Rattle.run_memory.specs.Memory.{Memory, with_stamp}

-- a state has the number a, its entries are no later than the clock, and it isn't made before its number is drawn
pub record IsState (a : ℕ) (words : Counters) (l : Log) : Type 0 where
  pub number : l.number.0 ≡ a
  pub earlier : All (λ e. e.stamp.0 ≤ words.stamps) l.entries
  pub undrawn : words.allocs < a → has_make l.entries ≡ false

abbrev pub AreStates : ℕ → Counters → List Log → Type 0
AreStates a words [] = Unit {0}
AreStates a words (l ∷ ls) = IsState a words l × AreStates (suc a) words ls

-- the states of a run: within the limit on numbers, and none for a number whose Make is still to come
pub record IsTable (limits : Limits) (words : Counters) (ls : List Log) : Type 0 where
  pub states : AreStates 1 words ls
  pub few : length ls ≤ limits.allocs

-- the entries of each
abbrev pub logs_in : List Log → List (List Entry)
logs_in states = map (λ l. l.entries) states

-- the run's memory with these states
abbrev pub memory_in : Limits → Counters → List Log → Memory
memory_in limits words states = record { limits = limits; logs = logs_in states; words = words }

-- after a Make of this number its Make isn't to come
abbrev pub made_to : Bool → ℕ → Counters → Counters
made_to true number words = record words { allocs = number }
made_to false number words = words

abbrev pub TableAfter : Limits → Counters → ℕ → Request → List Log → Step → Type 0
TableAfter limits words number request states (Done e) = IsTable limits (made_to (is_make request) number words) states
TableAfter limits words number request states (Ends why) = IsTable limits words states

-- states of numbers that were never asked, from a on
abbrev pub fresh_from : ℕ → ℕ → List Log
fresh_from a zero = []
fresh_from a (suc more) = record { number = record { 0 = a }; entries = []; ready = None; visits = 0 } ∷ fresh_from (suc a) more

-- states were added, up to a number
pub record IsLonger (number : ℕ) (old new : List Log) : Type 0 where
  pub more : ℕ
  pub added : new ≡ old ++ fresh_from (length old + 1) more
  pub within : length new ≤ max (length old) number

-- the next stamp, within the limit or above it
abbrev pub IsNextStamp : Counters → ℕ → Result Stamp Stamp → Type 0
IsNextStamp words steps (Ok s) = (s.0 ≡ words.stamps + 1) × (words.stamps < steps)
IsNextStamp words steps (Err s) = (s.0 ≡ words.stamps + 1) × (steps < s.0)

-- the entry of a step on this state
abbrev pub entry_of : Log → Counters → ThreadNo → ℕ → Request → Entry
entry_of l words thread site request = record {
  thread = thread;
  stamp = record { 0 = words.stamps + 1 };
  site = site;
  alloc = Some l.number;
  request = request;
  reply = (answer (replay (unmade l.number.0) l.entries) request (record { 0 = words.stamps + 1 })).reply;
}

-- its number and its entries are as before, and these numbers are drawn
pub record KeepsLog (old new : Log) : Type 0 where
  pub number : new.number ≡ old.number
  pub entries : new.entries ≡ old.entries

pub record GainsEntry (old new : Log) (e : Entry) : Type 0 where
  pub number : new.number ≡ old.number
  pub entries : new.entries ≡ old.entries ++ e ∷ []

abbrev pub StepsOn : Log → Counters → ℕ → ThreadNo → ℕ → Request → Log → Counters → Step → Type 0
StepsOn old words steps thread site request new after (Done e) = (e ≡ entry_of old words thread site request) × (words.stamps < steps) × GainsEntry old new e × (after ≡ with_stamp words)
StepsOn old words steps thread site request new after (Ends (StepLimit s)) = (s.0 ≡ words.stamps + 1) × (steps < s.0) × KeepsLog old new × (after ≡ with_stamp words)
StepsOn old words steps thread site request new after (Ends NoMemory) = KeepsLog old new × (after ≡ words)
StepsOn old words steps thread site request new after (Ends why) = ⊥

-- the logs of the numbers that an entry names
abbrev pub named_in : List Log → List AllocLog
named_in [] = []
named_in (l ∷ ls) = with_history l.number.0 l.entries (named_in ls)

-- each log is a legal history of its number
abbrev pub AreLegal : List AllocLog → Type 0
AreLegal logs = All (λ (log : AllocLog). IsHistory log.number.0 log.entries) logs

-- a step on a number that was never asked, and isn't kept
abbrev pub StepsAside : Counters → ℕ → ThreadNo → ℕ → AllocNo → Request → Counters → Step → Type 0
StepsAside words steps thread site number request after step =
    (new : Log) × StepsOn (record { number = number; entries = []; ready = None; visits = 0 }) words steps thread site request new after step

abbrev pub is_out_of_memory : Step → Bool
is_out_of_memory (Ends NoMemory) = true
is_out_of_memory step = false
