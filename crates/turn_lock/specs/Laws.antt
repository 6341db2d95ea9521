-- What the rule says of all desks at every moment, and what the weights of a history tell.
use Rattle.std.specs.Prelude.{◌≡◌, ◌≢◌, ℕ, ◌+◌, ◌%◌, ◌^◌, ◌<◌, ◌≤◌, true, List, [], ◌∷◌, length, sum_by, slice_index, Option}
use Rattle.atomic_table.specs.Table.{State}
use mathlib.Core.Option.{some}
use lib.ListN.{get_elem?}
use Rattle.history.specs.declared.entry.Entry.{Entry}
use Rattle.turn_lock.specs.declared.view.View.{View}
use Rattle.turn_lock.specs.Weights.{equals, stamp_weight, alloc_weight, thread_weight}
use Rattle.turn_lock.specs.Places.{place}
use Rattle.turn_lock.specs.Rule.{Rising, newcomer, IsHome, all_calls}
use Rattle.turn_lock.specs.Steps.{drew_stamp, took, gave}

-- entries whose stamps rise are told by their weights
abbrev pub WeightsTellHistories : Type 0
WeightsTellHistories = (xs ys : List Entry) → Rising xs → Rising ys → ((h : Entry → ℕ) → sum_by h xs ≡ sum_by h ys) → xs ≡ ys

-- of one kind of number: none stands on two desks, or twice on one
pub record IsOnOneDesk (weight : (ℕ → ℕ) → View → ℕ) (views : List View) : Type 0 where
  pub once : (i : ℕ) (v : View) → get_elem? views i ≡ some v → (n : ℕ) → weight (equals n) v ≤ 1
  pub apart : (i j : ℕ) (v u : View) → i ≢ j → get_elem? views i ≡ some v → get_elem? views j ≡ some u → (n : ℕ) → 1 ≤ weight (equals n) v → weight (equals n) u ≡ 0

-- two desks that are there have different names and different numbers
pub record DesksDiffer (views : List View) : Type 0 where
  pub names : (i j : ℕ) (v u : View) → i ≢ j → get_elem? views i ≡ some v → get_elem? views j ≡ some u → v.live ≡ true → u.live ≡ true → v.name ≢ u.name
  pub stamps : IsOnOneDesk stamp_weight views
  pub allocs : IsOnOneDesk alloc_weight views
  pub threads : IsOnOneDesk thread_weight views

-- each word that counts is so small that the next draw leaves one more
pub record NoDrawWraps (words : List ℕ) : Type 0 where
  pub stamps : slice_index words 0 ≤ 4001024
  pub allocs : slice_index words 1 ≤ 66560
  pub threads : slice_index words 2 ≤ 2047
  pub next : (k : ℕ) → k < 3 → (slice_index words k + 1) % 2 ^ 64 ≡ slice_index words k + 1

-- where a turn is free, its slot holds the value of its number, whose entries rise by stamp and are exactly the calls of all desks on that number, each once
abbrev pub FreeSlotsAreWhole : {X : Type 0} → (X → ℕ) → (X → List Entry) → State (Option X) View → Type 0
FreeSlotsAreWhole number entries s = (k : ℕ) → k < length s.homes → slice_index s.words (place k) ≡ 0 → IsHome number entries (slice_index s.words 0) (all_calls s.views) s.homes k

-- a desk that takes the turn of the slot 0 twice, and each time draws a stamp and makes a call
abbrev pub called_twice : Entry → Entry → View
called_twice e f =
    gave (drew_stamp (took (gave (drew_stamp (took (newcomer 0 0 []) 0 []) 1) (e ∷ [])) 0 (e ∷ [])) 2) (e ∷ f ∷ [])

-- it drew the stamps 1 and 2, has seen both, made both calls and holds no turn
abbrev pub CalledTwice : Type 0
CalledTwice = (e f : Entry)
    → called_twice e f ≡ record (newcomer 0 0 []) { stamps = record { own = 1 ∷ 2 ∷ []; joined = [] }; seen = 2; calls = e ∷ f ∷ [] }
