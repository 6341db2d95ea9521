-- What ties separate logs together: children start before their entries, and end before they are joined.
use Rattle.std.specs.Prelude.{◌≡◌, ℕ, ◌<◌, ◌≤◌, Bool, true, false, if◌then◌else◌, List, [], ◌∷◌, Some, None}
use Rattle.std.specs.declared.option.Option.{Option}
use Rattle.history.specs.declared.entry.Entry.{Entry}
use Rattle.bsan_ids.specs.declared.numbers.Prov.{Prov}
use Rattle.history.specs.declared.log.End.{End}
use Rattle.history.specs.declared.log.End.TheVariants as log_end
use Rattle.bsan_ids.specs.declared.numbers.AllocNo.{AllocNo}
use Rattle.bsan_ids.specs.declared.numbers.ThreadNo.{ThreadNo}
use Rattle.history.specs.declared.entry.Request.{Request}
use Rattle.history.specs.declared.entry.Plain.TheVariants as plain
use Rattle.history.specs.declared.ask.Ask.TheVariants as ask
use Rattle.history.specs.declared.ask.MachineEnd.TheVariants as end
use Rattle.history.specs.Objects.{clean}
use Rattle.runs.specs.Parts.{of_thread, child_of, is_child}
use Rattle.runs.specs.Machine.{Machine}
use Rattle.runs.specs.Threads.{Feeds}
use Rattle.runs.specs.Interleaving.{Allowed, ByRequest}

-- an entry, the first of these, stands right among the threads: its numbers are allowed, a child is new, and a joined child has returned
abbrev pub StandsRight : Allowed → (ℕ → End) → (ℕ → Bool) → List Entry → Entry → Request → Type 0
StandsRight A ends started es e =
    ByRequest A e ((a : AllocNo) × (e.alloc ≡ Some a) × (0 < a.0) × (a.0 ≤ A.allocs))
    ((c : ThreadNo) × (0 < c.0) × (c.0 ≤ 1023) × (started c.0 ≡ false) × (e.reply ≡ clean (plain.Spawned c) None))
    (λ c. ((v : ℕ) × (p : Option Prov) × (started c.0 ≡ true) × (of_thread c.0 es ≡ []) × (ends c.0 ≡ log_end.Returned v p) × (e.reply ≡ clean (plain.Value v) p)))
    ((a : AllocNo) × (e.alloc ≡ Some a))

abbrev pub with_child : (ℕ → Bool) → Option ℕ → ℕ → Bool
with_child started c t = if is_child c t then true else started t

-- each entry, in turn, is of a started thread and stands right
abbrev pub InOrder : Allowed → (ℕ → End) → (ℕ → Bool) → List Entry → Type 0
InOrder A ends started [] = Unit {0}
InOrder A ends started (e ∷ es) =
    (started e.thread.0 ≡ true) × StandsRight A ends started (e ∷ es) e e.request × InOrder A ends (with_child started (child_of e)) es

-- the entries are a run of the thread from its first state, to its end
pub record RunsToEnd (M : Machine) (turns : ℕ) (starts : ℕ → M.State) (ends : ℕ → End) (t : ℕ) (es : List Entry) : Type 0 where
  pub last : M.State
  pub feeds : Feeds M turns starts (starts t) es last
  pub ended : (v : ℕ) (p : Option Prov) → ends t ≡ log_end.Returned v p → M.ask last ≡ ask.Ended (end.Returned v p)
