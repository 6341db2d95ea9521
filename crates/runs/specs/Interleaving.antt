-- The run of all threads over all numbers, one entry after another.
use Rattle.std.specs.Prelude.{◌≡◌, ℕ, ◌<◌, ◌≤◌, ◌==◌, false, if◌then◌else◌, List, [], ◌∷◌, Some, None}
use Rattle.std.specs.declared.option.Option.{Option}
use Rattle.history.specs.declared.entry.Entry.{Entry}
use Rattle.bsan_ids.specs.declared.numbers.Prov.{Prov}
use Rattle.bsan_ids.specs.declared.numbers.AllocNo.{AllocNo}
use Rattle.bsan_ids.specs.declared.numbers.ThreadNo.{ThreadNo}
use Rattle.history.specs.declared.entry.Request.{Request}
use Rattle.history.specs.declared.entry.Request.TheVariants as request
use Rattle.history.specs.declared.entry.Plain.TheVariants as plain
use Rattle.history.specs.declared.ask.Ask.TheVariants as ask
use Rattle.history.specs.declared.ask.MachineEnd.TheVariants as end
use Rattle.history.specs.Objects.{clean}
use Rattle.runs.specs.Parts.{names, child_of, is_child, Answers}
use Rattle.runs.specs.Machine.{Machine, Memory, Settles}

-- the state of each started thread, and the object of each number
pub record World (M : Machine) (O : Memory) : Type 0 where
  pub threads : ℕ → Option M.State
  pub objects : ℕ → O.Object

-- thread 0 has started, and nothing is made
abbrev pub first_world : (M : Machine) → (O : Memory) → M.State → World M O
first_world M O main = record { threads = λ t. if 0 == t then Some main else None; objects = O.unmade }

-- the world after an entry that the thread in state s was given
abbrev pub world_after : (M : Machine) → (O : Memory) → World M O → M.State → Entry → World M O
world_after M O w s e = record {
  threads = λ t. if e.thread.0 == t then Some (M.after s e) else (if is_child (child_of e) t then Some (M.child s) else w.threads t);
  objects = λ a. if names e.alloc a then O.next (w.objects a) e.request e.stamp.0 else w.objects a;
}

-- the thread has returned this word with this provenance
pub record HasReturned (M : Machine) (thread : Option M.State) (word : ℕ) (prov : Option Prov) : Type 0 where
  pub before : M.State
  pub now : M.State
  pub started : thread ≡ Some before
  pub settles : Settles M before now
  pub returned : M.ask now ≡ ask.Ended (end.Returned word prov)

-- which allocation numbers may be made, and which words a host may answer
pub record Allowed : Type 1 where
  pub allocs : ℕ
  pub host : ℕ → ℕ → ℕ → ℕ → Type 0

-- what is said of an entry by its request: this of a Make, of a Spawn, of a Join and of a step on a number. A Print is done, and
-- a host answers a word that it may answer
abbrev pub ByRequest : Allowed → Entry → Type 0 → Type 0 → (ThreadNo → Type 0) → Type 0 → Request → Type 0
ByRequest A e made spawned joined on (request.Make size place) = made
ByRequest A e made spawned joined on (request.Print v) = e.reply ≡ clean plain.Done None
ByRequest A e made spawned joined on (request.Host n x y) = (v : ℕ) × A.host n x y v × (e.reply ≡ clean (plain.Value v) None)
ByRequest A e made spawned joined on (request.Spawn f) = spawned
ByRequest A e made spawned joined on (request.Join c) = joined c
ByRequest A e made spawned joined on _ = on

-- the reply is the one, or one of those, that the world gives
abbrev pub Replies : (M : Machine) → (O : Memory) → Allowed → World M O → Entry → Request → Type 0
Replies M O A w e =
    ByRequest A e
    ((a : AllocNo) × (e.alloc ≡ Some a) × (0 < a.0) × (a.0 ≤ A.allocs) × (O.made (w.objects a.0) ≡ false) × (e.reply ≡ O.reply (w.objects a.0) e.request e.stamp.0))
    ((c : ThreadNo) × (0 < c.0) × (c.0 ≤ 1023) × (w.threads c.0 ≡ None) × (e.reply ≡ clean (plain.Spawned c) None))
    (λ c. ((v : ℕ) × (p : Option Prov) × HasReturned M (w.threads c.0) v p × (e.reply ≡ clean (plain.Value v) p)))
    ((a : AllocNo) × (e.alloc ≡ Some a) × (e.reply ≡ O.reply (w.objects a.0) e.request e.stamp.0))

-- in this world the entry may come next
pub record Event (M : Machine) (O : Memory) (A : Allowed) (w : World M O) (e : Entry) : Type 0 where
  pub before : M.State
  pub now : M.State
  pub started : w.threads e.thread.0 ≡ Some before
  pub settles : Settles M before now
  pub site : M.site now ≡ e.site
  pub asks : Answers (M.ask now) e
  pub replies : Replies M O A w e e.request

-- the entries are a run from this world
abbrev pub Interleaves : (M : Machine) → (O : Memory) → Allowed → World M O → List Entry → Type 0
Interleaves M O A w [] = Unit {0}
Interleaves M O A w (e ∷ es) = (v : Event M O A w e) × Interleaves M O A (world_after M O w v.now e) es

-- a Make is of an object that isn't made
abbrev pub MakesUnmade : (O : Memory) → O.Object → Request → Type 0
MakesUnmade O o (request.Make size place) = O.made o ≡ false
MakesUnmade O o _ = Unit {0}

-- the entries on one number are a legal history of its object
abbrev pub Legal : (O : Memory) → O.Object → List Entry → Type 0
Legal O o [] = Unit {0}
Legal O o (e ∷ es) = MakesUnmade O o e.request × (e.reply ≡ O.reply o e.request e.stamp.0) × Legal O (O.next o e.request e.stamp.0) es

-- the world in which a run ends
abbrev pub last_world : (M : Machine) → (O : Memory) → (A : Allowed) → (w : World M O) → (es : List Entry) → Interleaves M O A w es → World M O
last_world M O A w [] run = w
last_world M O A w (e ∷ es) run = last_world M O A (world_after M O w run.0.now e) es run.1
