-- What a replay begins with, the record that it leaves, and when that record is right.
use Rattle.std.specs.Prelude.{◌≡◌, ℕ, zero, suc, false, List, [], ◌∷◌, None, unwrap_or}
use Rattle.bsan_ids.specs.declared.numbers.Limits.{Limits}
use Rattle.history.specs.declared.entry.Entry.{Entry}
pub use Rattle.history.specs.Histories.{is_make as makes}
use Rattle.history.specs.declared.entry.Plain.TheVariants as plain
use Rattle.history.specs.declared.entry.Request.{Request}
use Rattle.history.specs.declared.entry.Request.TheVariants as request
use Rattle.ir_ast.specs.declared.types.Place.{Place}
use Rattle.history.specs.declared.log.AllocLog.{AllocLog}
use Rattle.history.specs.declared.log.End.TheVariants as log_end
use Rattle.history.specs.declared.log.ThreadLog.{ThreadLog}
use Rattle.history.specs.declared.record.RunRecord.{RunRecord}
use Rattle.runs.specs.Parts.{of_alloc}
use Rattle.runs.specs.Machine.{Machine, Memory}
use Rattle.runs.specs.Interleaving.{first_world, Allowed, Event, Interleaves, last_world}
use Rattle.runs.specs.Replay.{Fiber, Progress, IsReplay}
use Rattle.runs.specs.Right.{IsRight, made_by, spawned_by_reply}

-- thread 0 has started, and nothing is made or drawn
abbrev pub first_progress : (M : Machine) → (O : Memory) → ℕ → M.State → Progress M O
first_progress M O main start = record {
  threads = record { parent = None; function = main; state = start; entries = []; «end» = None } ∷ [];
  objects = [];
  merge = [];
  words = record { stamps = 0; allocs = 0; threads = 0 };
}

abbrev pub log_of : (M : Machine) → ℕ → Fiber M → ThreadLog
log_of M t f = record {
  number = record { 0 = t };
  parent = f.parent;
  entry_function = f.function;
  entries = f.entries;
  instructions = M.count f.state;
  last = M.site f.state;
  «end» = unwrap_or f.«end» log_end.NoMemory;
}

abbrev pub logs_from : (M : Machine) → ℕ → List (Fiber M) → List ThreadLog
logs_from M t [] = []
logs_from M t (f ∷ fs) = log_of M t f ∷ logs_from M (suc t) fs

-- the log of a number that an entry names
abbrev pub with_history : ℕ → List Entry → List AllocLog → List AllocLog
with_history a [] logs = logs
with_history a (e ∷ es) logs = record { number = record { 0 = a }; entries = e ∷ es } ∷ logs

-- the logs of this many numbers, from a on
abbrev pub histories_from : ℕ → ℕ → List Entry → List AllocLog
histories_from a zero entries = []
histories_from a (suc more) entries = with_history a (of_alloc a entries) (histories_from (suc a) more entries)

abbrev pub record_of : (M : Machine) → (O : Memory) → Limits → Progress M O → RunRecord
record_of M O limits p = record { threads = logs_from M 0 p.threads; allocs = histories_from 1 limits.allocs p.merge; words = p.words }

-- nothing is made but by a Make, which answers its number; and no object starts a thread
pub record MakesAlone (O : Memory) : Type 0 where
  pub first : (a : ℕ) → O.made (O.unmade a) ≡ false
  pub kept : (a : ℕ) (r : Request) (stamp : ℕ) → makes r ≡ false → O.next (O.unmade a) r stamp ≡ O.unmade a
  pub number : (a size stamp : ℕ) (place : Place) → (O.reply (O.unmade a) (request.Make size place) stamp).plain ≡ plain.Made (record { 0 = a })
  pub others : (o : O.Object) (r : Request) (stamp : ℕ) → makes r ≡ false → made_by (O.reply o r stamp).plain ≡ []
  pub no_thread : (o : O.Object) (r : Request) (stamp : ℕ) → spawned_by_reply (O.reply o r stamp).plain ≡ []

-- in every run each thread is given a reply that fits what it asked
abbrev pub FitsAlways : (M : Machine) → (O : Memory) → Allowed → M.State → Type 0
FitsAlways M O A start =
    (es : List Entry) (run : Interleaves M O A (first_world M O start) es) (e : Entry)
    → (v : Event M O A (last_world M O A (first_world M O start) es run) e) → M.fits v.now e

-- a replay leaves a right record, its erasure aside
abbrev pub ReplayIsRight : Machine → Memory → Allowed → Type 0
ReplayIsRight M O A =
    (limits : Limits) (schedule : List ℕ) (main : ℕ) (start : M.State) (last : Progress M O)
    → limits.allocs ≡ A.allocs → MakesAlone O → FitsAlways M O A start
    → IsReplay M O A limits schedule (first_progress M O main start) last
    → IsRight M O A limits main start (record_of M O limits last)
