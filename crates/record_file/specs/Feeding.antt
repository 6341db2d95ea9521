-- A thread that is fed the entries of its log, and the threads that it starts.
use Rattle.std.specs.Prelude.{◌≡◌, ◌≢◌, ◌↔◌, ℕ, Bool, true, false, List, ◌∷◌, Option, None, IfSome, map, drop, take}
use Rattle.std.specs.List.{AllByRecursion, flat_map}
use Rattle.bsan_ids.specs.declared.numbers.Limits.{Limits}
use Rattle.history.specs.declared.ask.Ask.{Ask}
use Rattle.history.specs.declared.ask.Ask.TheVariants as ask
use Rattle.history.specs.declared.entry.Entry.{Entry}
use Rattle.history.specs.declared.log.ThreadLog.{ThreadLog}
use Rattle.runs.specs.Machine.{MayGoOn, SettlesWithin}
use Rattle.runs.specs.Right.{asks_make, asks_spawn}
use Rattle.runs.specs.Parts.{child_of}
use Rattle.runs.specs.Tree.{Firsts, first_numbers, started_by}
use Rattle.source_sem.specs.Source.{Setting, Source, source, source_ask, source_turn}
use Rattle.source_machine.specs.Running.{Running}
use Rattle.record_file.specs.declared.feed.Child.{Child}
use Rattle.record_file.specs.AsWritten.{AllBeginAs, AsksAsWritten, FeedsAsWritten, IsRunAsWritten}

-- the thread has made its local turns and asks this; or an instruction would begin at the limit
pub record Settled (x : Setting) (turns : ℕ) (s t : Source) (a : Option Ask) : Type 0 where
  pub turned : SettlesWithin (source x) turns s t
  pub asks : IfSome a (λ b. (b ≡ source_ask x t) × (b ≢ ask.Turn) × MayGoOn (source x) turns t)
  pub stops : a ≡ None → MayGoOn (source x) turns t → ⊥

-- the threads that were started, with their first states
abbrev pub firsts : List Child → Firsts Source
firsts children = map (λ c. (c.number.0, c.machine.thread)) children

-- their numbers
abbrev pub numbers : List Child → List ℕ
numbers children = first_numbers (firsts children)

-- the numbers of the threads that these entries start
abbrev pub starts_of : List Entry → List ℕ
starts_of entries = flat_map (λ e. started_by (child_of e)) entries

-- it is a thread of this program
abbrev pub IsOf : Setting → Child → Type 0
IsOf x c = c.machine.setting ≡ x

abbrev pub AreOf : Setting → List Child → Type 0
AreOf x children = AllByRecursion (IsOf x) children

-- the thread takes the entry, and then stands in state t: it is fed this entry and more exactly where the entry's child
-- starts as said and it is fed the rest from there
abbrev pub Takes : Setting → ℕ → Source → Entry → List Child → Source → List Child → Type 0
Takes x turns s e before t after =
    (starts : ℕ → Source) (es : List Entry) (last : Source)
    → (AllBeginAs starts (firsts before) × FeedsAsWritten (source x) turns starts s (e ∷ es) last) ↔ (AllBeginAs starts (firsts after) × FeedsAsWritten (source x) turns starts t es last)

-- it does not take the entry, whatever is fed to it after that
abbrev pub Refuses : Setting → ℕ → Source → List Entry → Type 0
Refuses x turns s es = (starts : ℕ → Source) (last : Source) → FeedsAsWritten (source x) turns starts s es last → ⊥

abbrev pub FeedsOne : Bool → Setting → ℕ → Source → Entry → List Child → Source → List Child → Type 0
FeedsOne true x turns s e before t after = Takes x turns s e before t after
FeedsOne false x turns s e before t after = (es : List Entry) → Refuses x turns s (e ∷ es)

-- the thread takes the entries, and then stands in state t
abbrev pub TakesAll : Setting → ℕ → Source → List Entry → Source → List Child → Type 0
TakesAll x turns s es t children =
    (starts : ℕ → Source) (last : Source) → FeedsAsWritten (source x) turns starts s es last ↔ (AllBeginAs starts (firsts children) × SettlesWithin (source x) turns t last)

-- the thread did a local turn next, within the limit, and has made it; or it does not
abbrev pub TurnsOn : Bool → Setting → ℕ → Source → Source → Type 0
TurnsOn true x turns s t = (source_ask x s ≡ ask.Turn) × MayGoOn (source x) turns s × (t ≡ source_turn x s)
TurnsOn false x turns s t = source_ask x s ≡ ask.Turn → MayGoOn (source x) turns s → ⊥

-- the thread has made local turns up to this count of instructions, or never comes to it
abbrev pub ComesTo : Bool → Setting → ℕ → Source → ℕ → Source → Type 0
ComesTo true x turns s count t = SettlesWithin (source x) turns s t × (t.count ≡ count)
ComesTo false x turns s count t = (last : Source) → SettlesWithin (source x) turns s last → last.count ≡ count → ⊥

-- begun in this state the log is a run of its thread exactly where its children start as said, and then its thread stands where it
-- asks a Make, or a Spawn, exactly where these say so
pub record RunsBy (x : Setting) (limits : Limits) (first : Source) (log : ThreadLog) (children : List Child) (makes spawns : Bool) (starts : ℕ → Source) : Type 0 where
  pub run : IsRunAsWritten (source x) limits starts log ↔ AllBeginAs starts (firsts children)
  pub make : AllBeginAs starts (firsts children) → AsksAsWritten (source x) asks_make limits starts log ↔ (makes ≡ true)
  pub spawn : AllBeginAs starts (firsts children) → AsksAsWritten (source x) asks_spawn limits starts log ↔ (spawns ≡ true)

abbrev pub IsRun : Setting → Limits → Source → ThreadLog → List Child → Bool → Bool → Type 0
IsRun x limits first log children makes spawns = (starts : ℕ → Source) → starts log.number.0 ≡ first → RunsBy x limits first log children makes spawns starts

-- begun in this state the log is no run of its thread
abbrev pub IsNoRun : Setting → Limits → Source → ThreadLog → Type 0
IsNoRun x limits first log = (starts : ℕ → Source) → starts log.number.0 ≡ first → IsRunAsWritten (source x) limits starts log → ⊥

-- the machine has made some local turns since its thread stood in state s
pub record HasTurned (x : Setting) (turns : ℕ) (s : Source) (machine : Running) : Type 0 where
  pub setting : machine.setting ≡ x
  pub turned : SettlesWithin (source x) turns s machine.thread

-- the machine has taken so many of the entries, and these threads were started
pub record HasFed (turns : ℕ) (old : Running) (es : List Entry) (taken : ℕ) (new : Running) (children : List Child) : Type 0 where
  pub setting : new.setting ≡ old.setting
  pub of : AreOf old.setting children
  pub started : numbers children ≡ starts_of (take taken es)
  pub fed : (starts : ℕ → Source) (last : Source)
      → FeedsAsWritten (source old.setting) turns starts old.thread es last ↔ (AllBeginAs starts (firsts children) × FeedsAsWritten (source old.setting) turns starts new.thread (drop taken es) last)
