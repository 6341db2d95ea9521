-- The rule of the table: what its words, the values at home and the views of all desks are at every moment.
use Rattle.std.specs.Prelude.{◌≡◌, ℕ, suc, ◌+◌, ◌<◌, ◌≤◌, true, false, List, [], length, sum_by, All, AllPairs, slice_index, Option, Some, None}
use mathlib.Core.Option.{some}
use lib.ListN.{get_elem?}
use Rattle.atomic_table.specs.Table.{State}
use Rattle.history.specs.declared.entry.Entry.{Entry}
use Rattle.turn_lock.specs.declared.view.HeldTurn.{HeldTurn}
use Rattle.turn_lock.specs.declared.view.Drawn.{Drawn}
use Rattle.turn_lock.specs.declared.view.View.{View}
use Rattle.history.specs.Merge.{stamp_of}
use Rattle.turn_lock.specs.Places.{place, width}
use Rattle.turn_lock.specs.Weights.{sum_up_to, above, naming, makes, equals, stamp_weight, alloc_weight, thread_weight, name_weight, out_weight, call_weight, told_weight, turn_weight, holders, latest}

abbrev pub nothing : Drawn
nothing = record { own = []; joined = [] }

-- a desk that knows nothing yet but this stamp and these calls
abbrev pub newcomer : ℕ → ℕ → List Entry → View
newcomer name seen told = record {
  live = true;
  name = name;
  outs = [];
  joined = [];
  next = 0;
  stamps = nothing;
  allocs = nothing;
  threads = nothing;
  seen = seen;
  calls = [];
  told = told;
  turn = None;
}

-- a desk that was joined into another one
abbrev pub spent : View
spent = record {
  live = false;
  name = 0;
  outs = [];
  joined = [];
  next = 0;
  stamps = nothing;
  allocs = nothing;
  threads = nothing;
  seen = 0;
  calls = [];
  told = [];
  turn = None;
}

abbrev pub Rising : List Entry → Type 0
Rising es = AllPairs (λ (e : Entry) (f : Entry). stamp_of e < stamp_of f) es

-- These entries are the whole history of the slot k: they rise, and are exactly the calls on its number in all views. `calls` weighs those.
pub record IsSlotHistory (clock : ℕ) (calls : (Entry → ℕ) → ℕ) (k : ℕ) (es : List Entry) : Type 0 where
  pub rising : Rising es
  pub reached : latest es ≤ clock
  pub exact : (h : Entry → ℕ) → sum_by h es ≡ calls (naming (suc k) h)

-- A turn that is held: the entries taken are the whole history of its slot, and the stamps drawn since are above theirs.
pub record IsHolding (slots clock : ℕ) (calls : (Entry → ℕ) → ℕ) (t : HeldTurn) : Type 0 where
  pub inside : t.slot < slots
  pub history : IsSlotHistory clock calls t.slot t.taken
  pub later : All (λ n. latest t.taken < n) t.since
  pub reached : All (λ n. n ≤ clock) t.since

-- of one kind of number: at most one above the limit was drawn by the desk itself, and at most one by each desk joined into it
pub record DrewFewAbove (limit names : ℕ) (d : Drawn) : Type 0 where
  pub own : sum_by (above limit) d.own ≤ 1
  pub joined : sum_by (above limit) d.joined ≤ names

-- What holds of the view of a desk that is there: no stamp above the clock was seen, the name is at most the thread word, few numbers above the limits were drawn,
-- the names that are out or joined are thread numbers of the desk, at most 1,023 and above its own name, and its Makes are of its own allocation numbers, at most one of each.
pub record IsConsistent (slots clock last : ℕ) (calls : (Entry → ℕ) → ℕ) (v : View) : Type 0 where
  pub seen : v.seen ≤ clock
  pub name : v.name ≤ last
  pub stamps : DrewFewAbove 4000000 (length v.joined) v.stamps
  pub allocs : DrewFewAbove 65536 (length v.joined) v.allocs
  pub threads : DrewFewAbove 1023 (length v.joined) v.threads
  pub names : (h : ℕ → ℕ) → sum_by h v.outs + sum_by h v.joined ≤ thread_weight h v
  pub small_outs : All (λ n. n ≤ 1023) v.outs
  pub small_joined : All (λ n. n ≤ 1023) v.joined
  pub higher_outs : All (λ n. v.name < n) v.outs
  pub higher_own : All (λ n. v.name < n) v.threads.own
  pub higher_joined : All (λ n. v.name < n) v.threads.joined
  pub made : (n : ℕ) → sum_by (makes n) v.calls ≤ alloc_weight (equals n) v
  pub turn : (t : HeldTurn) → v.turn ≡ Some t → IsHolding slots clock calls t

-- the view of a desk that was joined into another one, or of one that is there
pub data IsSpentOrLive (slots clock last : ℕ) (calls : (Entry → ℕ) → ℕ) (v : View) : Type 0 where
  gone : v ≡ spent → IsSpentOrLive slots clock last calls v
  there : v.live ≡ true → IsConsistent slots clock last calls v → IsSpentOrLive slots clock last calls v

-- what a slot has while no desk has it
abbrev pub Slot : Type 0 → Type 0
Slot X = mathlib.Core.Option.Option (Option X)

-- the weight of all calls of all desks
abbrev pub all_calls : List View → (Entry → ℕ) → ℕ
all_calls views h = sum_by (call_weight h) views

module _ {X : Type 0} (number : X → ℕ) (entries : X → List Entry) where
  -- the value x is at home in the slot k
  pub record IsHome (clock : ℕ) (calls : (Entry → ℕ) → ℕ) (homes : List (Slot X)) (k : ℕ) : Type 0 where
    pub value : X
    pub there : get_elem? homes k ≡ some (some (Some value))
    pub numbered : number value ≡ suc k
    pub history : IsSlotHistory clock calls k (entries value)

  -- The rule. The words are the clock, the allocation word, the thread word, and the turns, each at its place. All numbers up to a word stand in the views, each once. Each name but 0 of a desk that is there
  -- is out, once. What a desk was told of is a call of some desk. The word of a turn is 0 where it is free, 1 where one view holds it, and 2 where one view holds it and desks may wait for it.
  -- Where a turn is free, its value is at home with its whole history.
  pub record RuleHolds (s : State (Option X) View) : Type 0 where
    pub wide : length s.words ≡ width (length s.homes)
    pub stamps : (h : ℕ → ℕ) → sum_by (stamp_weight h) s.views ≡ sum_up_to h (slice_index s.words 0)
    pub allocs : (h : ℕ → ℕ) → sum_by (alloc_weight h) s.views ≡ sum_up_to h (slice_index s.words 1)
    pub threads : (h : ℕ → ℕ) → sum_by (thread_weight h) s.views ≡ sum_up_to h (slice_index s.words 2)
    pub names : (h : ℕ → ℕ) → sum_by (name_weight h) s.views ≡ h 0 + sum_by (out_weight h) s.views
    pub told : (h : Entry → ℕ) → sum_by (call_weight h) s.views ≡ 0 → sum_by (told_weight h) s.views ≡ 0
    pub turns : (k : ℕ) → k < length s.homes → sum_by (turn_weight k) s.views ≡ holders (slice_index s.words (place k))
    pub turn_words : (k : ℕ) → k < length s.homes → slice_index s.words (place k) ≤ 2
    pub home : (k : ℕ) → k < length s.homes → slice_index s.words (place k) ≡ 0 → IsHome (slice_index s.words 0) (all_calls s.views) s.homes k
    pub each : (id : ℕ) (v : View) → get_elem? s.views id ≡ some v → IsSpentOrLive (length s.homes) (slice_index s.words 0) (slice_index s.words 2) (all_calls s.views) v
