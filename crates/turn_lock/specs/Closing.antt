-- What the table is when the first desk closes it, and all others were joined.
use Rattle.std.specs.Prelude.{◌≡◌, ℕ, suc, ◌<◌, List, [], length, sum_by, slice_get, Option, Some}
use mathlib.Core.Option.{some}
use lib.ListN.{get_elem?}
use Rattle.history.specs.declared.entry.Entry.{Entry}
use Rattle.turn_lock.specs.declared.view.View.{View}
use Rattle.turn_lock.specs.Weights.{sum_up_to, naming, stamp_weight, alloc_weight, thread_weight}
use Rattle.turn_lock.specs.Rule.{Rising}

-- each number from 1 to the count is among the desk's, once
pub record AreCounts (v : View) (stamps allocs threads : ℕ) : Type 0 where
  pub stamps_are : (h : ℕ → ℕ) → stamp_weight h v ≡ sum_up_to h stamps
  pub allocs_are : (h : ℕ → ℕ) → alloc_weight h v ≡ sum_up_to h allocs
  pub threads_are : (h : ℕ → ℕ) → thread_weight h v ≡ sum_up_to h threads

module _ {X : Type 0} (number : X → ℕ) (entries : X → List Entry) where
  -- the value x has this number; its entries rise, and are exactly the desk's calls on it, each once
  pub record IsWhole (v : View) (n : ℕ) (x : X) : Type 0 where
    pub numbered : number x ≡ n
    pub rising : Rising (entries x)
    pub exact : (h : Entry → ℕ) → sum_by h (entries x) ≡ sum_by (naming n h) v.calls

abbrev pub AllSome : {X : Type 0} → List (Option X) → Type 0
AllSome {X} xs = (k : ℕ) → k < length xs → (x : X) × (get_elem? xs k ≡ some (Some x))

-- the k-th value has the number k, counted from 1, and no entry
abbrev pub AreBlank : {X : Type 0} → (X → ℕ) → (X → List Entry) → List X → Type 0
AreBlank {X} number entries xs = (k : ℕ) (x : X) → slice_get xs k ≡ Some x → (number x ≡ suc k) × (entries x ≡ [])
