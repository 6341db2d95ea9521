-- What a thread's desk is, over the entries of its log and of those of all threads below it.
use Rattle.std.specs.Prelude.{◌≡◌, ℕ, suc, ◌+◌, ◌<◌, ◌≤◌, if◌then◌else◌, List, [], ◌++◌, length, sum_by, All, None}
use Rattle.std.specs.List.{flat_map}
use Rattle.bsan_ids.specs.declared.numbers.Limits.{Limits}
use Rattle.bsan_ids.specs.declared.numbers.ThreadNo.{ThreadNo}
use Rattle.history.specs.declared.ask.Ask.{Ask}
use Rattle.history.specs.declared.entry.Entry.{Entry}
use Rattle.history.specs.declared.log.End.{End}
use Rattle.history.specs.declared.log.End.TheVariants as log_end
use Rattle.history.specs.declared.log.ThreadLog.{ThreadLog}
use Rattle.history.specs.Restriction.{number_of}
use Rattle.runs.specs.Merge.{all_entries}
use Rattle.runs.specs.Parts.{child_of}
use Rattle.runs.specs.Right.{made_by, spawned_by_reply, alloc_limit_of, thread_limit_of, beyond_of, alloc_numbers, thread_numbers, asks_make, asks_spawn}
use Rattle.runs.specs.Tree.{started_by, stamps_of, AreBelow, EndAbove}
use Rattle.turn_lock.specs.declared.view.View.{View}
use Rattle.turn_lock.specs.Weights.{stamp_weight, alloc_weight, thread_weight}
use Rattle.alloc_space.specs.Steps.{has_slot}

-- the weight of an entry where it names a number that can be made; of its stamp; of the numbers that its reply names as made and
-- as started; and of the thread that it starts
abbrev pub slotted : ℕ → (Entry → ℕ) → Entry → ℕ
slotted limit h e = if has_slot limit (number_of e.alloc) then h e else 0

abbrev pub stamped : (ℕ → ℕ) → Entry → ℕ
stamped h e = h e.stamp.0

abbrev pub made : (ℕ → ℕ) → Entry → ℕ
made h e = sum_by h (made_by e.reply.plain)

abbrev pub spawned : (ℕ → ℕ) → Entry → ℕ
spawned h e = sum_by h (spawned_by_reply e.reply.plain)

abbrev pub begun : (ℕ → ℕ) → Entry → ℕ
begun h e = sum_by h (started_by (child_of e))

-- The desk that a thread answers with these logs, its own and those of all threads below it. It has seen all stamps of theirs; its
-- calls are exactly their entries on numbers that can be made, and its numbers exactly those that they name and those that were
-- drawn in vain, each as often.
pub record IsTreeDesk (limits : Limits) (number : ThreadNo) (seen : ℕ) (desk : View) (logs : List ThreadLog) (idle_allocs idle_threads : List ℕ) : Type 0 where
  pub name : desk.name ≡ number.0
  pub turn : desk.turn ≡ None
  pub outs : desk.outs ≡ []
  pub grows : seen ≤ desk.seen
  pub reached : AreBelow (suc desk.seen) logs
  pub calls : (h : Entry → ℕ) → sum_by h desk.calls ≡ sum_by (slotted limits.allocs h) (all_entries logs)
  pub stamps : (h : ℕ → ℕ) → stamp_weight h desk ≡ sum_by h (flat_map stamps_of logs)
  pub allocs : (h : ℕ → ℕ) → alloc_weight h desk ≡ sum_by h (flat_map alloc_numbers logs ++ idle_allocs)
  pub threads : (h : ℕ → ℕ) → thread_weight h desk ≡ sum_by h (flat_map thread_numbers logs ++ idle_threads)

-- how a thread has ended, with the numbers that it drew in vain
pub record Over : Type 0 where
  pub «end» : End
  pub allocs : List ℕ
  pub threads : List ℕ

-- a thread that goes on: the end NoMemory draws nothing
abbrev pub running : Over
running = record { «end» = log_end.NoMemory; allocs = []; threads = [] }

-- at most one number was drawn in vain or beyond its limit, and it is of what the thread asks
pub record DrewFew (a : Ask) (over : Over) : Type 0 where
  pub allocs : length (alloc_limit_of over.«end») + length over.allocs ≤ (if asks_make a then 1 else 0)
  pub threads : length (thread_limit_of over.«end») + length over.threads ≤ (if asks_spawn a then 1 else 0)

-- One more entry on the desk: it is later than all that the desk had seen, is a call where it names a number that can be made, and
-- its stamp and what it makes or starts are drawn.
pub record DeskStep (limits : Limits) (desk next : View) (e : Entry) : Type 0 where
  pub name : next.name ≡ desk.name
  pub turn : next.turn ≡ None
  pub outs : next.outs ≡ desk.outs
  pub later : desk.seen < e.stamp.0
  pub seen : next.seen ≡ e.stamp.0
  pub calls : (h : Entry → ℕ) → sum_by h next.calls ≡ sum_by h desk.calls + slotted limits.allocs h e
  pub stamps : (h : ℕ → ℕ) → stamp_weight h next ≡ stamp_weight h desk + h e.stamp.0
  pub allocs : (h : ℕ → ℕ) → alloc_weight h next ≡ alloc_weight h desk + made h e
  pub threads : (h : ℕ → ℕ) → thread_weight h next ≡ thread_weight h desk + spawned h e

-- The desk as the thread ends, which asks this: a stamp above the limit may be drawn, and a number in vain.
pub record DeskEnd (a : Ask) (desk next : View) (over : Over) : Type 0 where
  pub name : next.name ≡ desk.name
  pub turn : next.turn ≡ None
  pub outs : next.outs ≡ desk.outs
  pub seen : desk.seen ≤ next.seen
  pub above : EndAbove desk.seen over.«end»
  pub calls : next.calls ≡ desk.calls
  pub stamps : (h : ℕ → ℕ) → stamp_weight h next ≡ stamp_weight h desk + sum_by h (beyond_of over.«end»)
  pub allocs : (h : ℕ → ℕ) → alloc_weight h next ≡ alloc_weight h desk + (sum_by h (alloc_limit_of over.«end») + sum_by h over.allocs)
  pub threads : (h : ℕ → ℕ) → thread_weight h next ≡ thread_weight h desk + (sum_by h (thread_limit_of over.«end») + sum_by h over.threads)
  pub few : DrewFew a over

-- no number above its limit was drawn, and no turn is held
pub record IsReady (limits : Limits) (v : View) : Type 0 where
  pub stamps : All (λ n. n ≤ limits.steps) v.stamps.own
  pub allocs : All (λ n. n ≤ limits.allocs) v.allocs.own
  pub threads : All (λ n. n ≤ 1023) v.threads.own
  pub turn : v.turn ≡ None
