-- All allocations of a run, and the numbers that it drew, as contracts see them.
use Rattle.std.specs.Prelude.{◌≡◌, ℕ, zero, suc, ◌+◌, ◌<◌, Bool, true, false, ◌&&◌, nat_lt, nat_le, ◌==◌, List, [], ◌∷◌, ◌++◌, Some, None, slice_get, unwrap_or}
use Rattle.bsan_ids.specs.declared.numbers.AllocNo.{AllocNo}
use Rattle.bsan_ids.specs.declared.numbers.Counters.{Counters}
use Rattle.bsan_ids.specs.declared.numbers.Limits.{Limits}
use Rattle.bsan_ids.specs.declared.numbers.ThreadNo.{ThreadNo}
use Rattle.history.specs.declared.entry.Entry.{Entry}
use Rattle.history.specs.declared.entry.Plain.TheVariants.{Spawned}
use Rattle.history.specs.declared.entry.Reply.{Reply}
use Rattle.history.specs.declared.entry.Request.{Request}
use Rattle.history.specs.declared.entry.Request.TheVariants.{Make, Spawn}
use Rattle.history.specs.declared.entry.Verdict.TheVariants.{Clean}
use Rattle.history.specs.declared.trap.Trap.TheVariants.{AllocLimit, ThreadLimit}
use Rattle.history.specs.Histories.{replay}
use Rattle.history.specs.Objects.{Object, unmade, answer}
use Rattle.ir_ast.specs.declared.types.Place.{Place}
use Rattle.history.specs.declared.log.AllocLog.{AllocLog}
use Rattle.history.specs.declared.log.End.TheVariants.{Trapped, StepLimit, NoMemory}
use Rattle.runs.specs.ReplayLaw.{with_history}
use Rattle.run_memory.specs.declared.states.Step.{Step}
use Rattle.run_memory.specs.declared.states.Step.TheVariants.{Done, Ends}

-- the limits, the entries on each number (the k-th list is of the number k + 1), and how many numbers were drawn
pub record Memory : Type 0 where
  pub limits : Limits
  pub logs : List (List Entry)
  pub words : Counters

abbrev pub none_drawn : Counters
none_drawn = record { stamps = 0; allocs = 0; threads = 0 }

-- the entries on a number
abbrev pub log_at : List (List Entry) → ℕ → List Entry
log_at logs zero = []
log_at logs (suc k) = unwrap_or (slice_get logs k) []

-- the allocation of a number
abbrev pub object_of : Memory → ℕ → Object
object_of m a = replay (unmade a) (log_at m.logs a)

-- entries on this number are kept
abbrev pub keeps : Limits → ℕ → Bool
keeps limits a = nat_lt 0 a && nat_le a limits.allocs

abbrev pub longer_if : Bool → List Entry → Entry → List Entry
longer_if true log e = log ++ e ∷ []
longer_if false log e = log

-- the entries on each number are as before
abbrev pub SameLogs : Memory → Memory → Type 0
SameLogs old new = (b : ℕ) → log_at new.logs b ≡ log_at old.logs b

-- and those on this number are one more, where they are kept
abbrev pub GrowsAt : Memory → Memory → ℕ → Entry → Type 0
GrowsAt old new a e = (b : ℕ) → log_at new.logs b ≡ longer_if (keeps old.limits a && (a == b)) (log_at old.logs b) e

abbrev pub with_stamp : Counters → Counters
with_stamp words = record words { stamps = words.stamps + 1 }

abbrev pub with_alloc : Counters → Counters
with_alloc words = record words { allocs = words.allocs + 1 }

abbrev pub with_thread : Counters → Counters
with_thread words = record words { threads = words.threads + 1 }

-- the entry of a step on a number
abbrev pub entry_on : Memory → ThreadNo → ℕ → AllocNo → Request → Entry
entry_on m thread site a request = record {
  thread = thread;
  stamp = record { 0 = m.words.stamps + 1 };
  site = site;
  alloc = Some a;
  request = request;
  reply = (answer (object_of m a.0) request (record { 0 = m.words.stamps + 1 })).reply;
}

-- the entry of a step on no number
abbrev pub entry_off : Memory → ThreadNo → ℕ → Request → Reply → Entry
entry_off m thread site request reply = record {
  thread = thread;
  stamp = record { 0 = m.words.stamps + 1 };
  site = site;
  alloc = None;
  request = request;
  reply = reply;
}

-- no step was made, and these numbers are drawn
pub record Stays (old new : Memory) (words : Counters) : Type 0 where
  pub limits : new.limits ≡ old.limits
  pub logs : SameLogs old new
  pub words_are : new.words ≡ words

-- a step on a number was made, and these numbers are drawn
pub record Goes (old new : Memory) (a : AllocNo) (e : Entry) (words : Counters) : Type 0 where
  pub within : old.words.stamps < old.limits.steps
  pub limits : new.limits ≡ old.limits
  pub logs : GrowsAt old new a.0 e
  pub words_are : new.words ≡ words

-- a step on no number
pub record Notes (old new : Memory) (words : Counters) : Type 0 where
  pub within : old.words.stamps < old.limits.steps
  pub stays : Stays old new words

-- a request to a number
abbrev pub Asks : Memory → ThreadNo → ℕ → AllocNo → Request → Memory → Step → Type 0
Asks old thread site a request new (Done e) = (e ≡ entry_on old thread site a request) × Goes old new a e (with_stamp old.words)
Asks old thread site a request new (Ends (StepLimit s)) = (s.0 ≡ old.words.stamps + 1) × (old.limits.steps < s.0) × Stays old new (with_stamp old.words)
Asks old thread site a request new (Ends NoMemory) = Stays old new old.words
Asks old thread site a request new (Ends why) = ⊥

-- the next allocation
abbrev pub next_alloc : Memory → AllocNo
next_alloc m = record { 0 = m.words.allocs + 1 }

abbrev pub Makes : Memory → ThreadNo → ℕ → ℕ → Place → Memory → Step → Type 0
Makes old thread site size place new (Done e) =
    (old.words.allocs < old.limits.allocs) × (e ≡ entry_on old thread site (next_alloc old) (Make size place)) × Goes old new (next_alloc old) e (with_stamp (with_alloc old.words))
Makes old thread site size place new (Ends (StepLimit s)) =
    (old.words.allocs < old.limits.allocs) × (s.0 ≡ old.words.stamps + 1) × (old.limits.steps < s.0) × Stays old new (with_stamp (with_alloc old.words))
Makes old thread site size place new (Ends (Trapped (AllocLimit d))) = (d ≡ old.words.allocs + 1) × (old.limits.allocs < d) × Stays old new (with_alloc old.words)
Makes old thread site size place new (Ends NoMemory) = Stays old new old.words
Makes old thread site size place new (Ends why) = ⊥

-- a step that is answered by the run itself
abbrev pub Records : Memory → ThreadNo → ℕ → Request → Reply → Memory → Step → Type 0
Records old thread site request reply new (Done e) = (e ≡ entry_off old thread site request reply) × Notes old new (with_stamp old.words)
Records old thread site request reply new (Ends (StepLimit s)) = (s.0 ≡ old.words.stamps + 1) × (old.limits.steps < s.0) × Stays old new (with_stamp old.words)
Records old thread site request reply new (Ends why) = ⊥

-- the start of the next thread, of which there are 1,023
abbrev pub spawned : Memory → Reply
spawned m = record { plain = Spawned (record { 0 = m.words.threads + 1 }); carried = None; verdict = Clean }

abbrev pub Starts : Memory → ThreadNo → ℕ → ℕ → Memory → Step → Type 0
Starts old thread site function new (Done e) =
    (old.words.threads < 1023) × (e ≡ entry_off old thread site (Spawn function) (spawned old)) × Notes old new (with_stamp (with_thread old.words))
Starts old thread site function new (Ends (StepLimit s)) =
    (old.words.threads < 1023) × (s.0 ≡ old.words.stamps + 1) × (old.limits.steps < s.0) × Stays old new (with_stamp (with_thread old.words))
Starts old thread site function new (Ends (Trapped (ThreadLimit d))) = (d ≡ old.words.threads + 1) × (1023 < d) × Stays old new (with_thread old.words)
Starts old thread site function new (Ends why) = ⊥

-- the logs of the numbers that an entry names, the first list that of the number a
abbrev pub named_from : ℕ → List (List Entry) → List AllocLog
named_from a [] = []
named_from a (es ∷ rest) = with_history a es (named_from (suc a) rest)
