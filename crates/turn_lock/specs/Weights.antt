-- Sums over numbers and entries, by which the rule says what stands in which view, and how often: an equation for each way of weighing.
use Rattle.std.specs.Prelude.{ℕ, zero, suc, ◌+◌, ◌≤◌, ◌==◌, nat_le, if◌then◌else◌, List, [], ◌∷◌, min, max, sum_by, Option, Some, None}
use Rattle.history.specs.declared.entry.Entry.{Entry}
use Rattle.history.specs.Histories.{is_make_step}
use Rattle.history.specs.Restriction.{number_of}
use Rattle.history.specs.Merge.{stamp_of}
use Rattle.turn_lock.specs.declared.view.HeldTurn.{HeldTurn}
use Rattle.turn_lock.specs.declared.view.Drawn.{Drawn}
use Rattle.turn_lock.specs.declared.view.View.{View}

-- the weights of the numbers from 1 to n, added up
abbrev pub sum_up_to : (ℕ → ℕ) → ℕ → ℕ
sum_up_to h zero = 0
sum_up_to h (suc n) = sum_up_to h n + h (suc n)

-- 1 for numbers above the limit
abbrev pub above : ℕ → ℕ → ℕ
above limit n = if nat_le n limit then 0 else 1

-- 1 for this number
abbrev pub equals : ℕ → ℕ → ℕ
equals m n = if n == m then 1 else 0

-- no number is twice among them
pub record AreOnce (ns : List ℕ) : Type 0 where
  pub once : (n : ℕ) → sum_by (equals n) ns ≤ 1

abbrev pub one : ℕ → ℕ
one n = 1

-- the weight of the entries that name this number
abbrev pub naming : ℕ → (Entry → ℕ) → Entry → ℕ
naming n h e = if number_of e.alloc == n then h e else 0

-- 1 for a Make of this number
abbrev pub makes : ℕ → Entry → ℕ
makes n e = if is_make_step e then (if number_of e.alloc == n then 1 else 0) else 0

module _ (h : ℕ → ℕ) where
  abbrev pub drawn : Drawn → ℕ
  drawn d = sum_by h d.own + sum_by h d.joined

  abbrev pub stamp_weight : View → ℕ
  stamp_weight v = drawn v.stamps

  abbrev pub alloc_weight : View → ℕ
  alloc_weight v = drawn v.allocs

  abbrev pub thread_weight : View → ℕ
  thread_weight v = drawn v.threads

  abbrev pub name_weight : View → ℕ
  name_weight v = if v.live then h v.name else 0

  abbrev pub out_weight : View → ℕ
  out_weight v = sum_by h v.outs

module _ (h : Entry → ℕ) where
  abbrev pub call_weight : View → ℕ
  call_weight v = sum_by h v.calls

  abbrev pub told_weight : View → ℕ
  told_weight v = sum_by h v.told

abbrev pub holds_turn : ℕ → Option HeldTurn → ℕ
holds_turn k None = 0
holds_turn k (Some t) = if t.slot == k then 1 else 0

abbrev pub turn_weight : ℕ → View → ℕ
turn_weight k v = holds_turn k v.turn

-- how many desks hold a turn whose word this is: none where it is 0, and else one
abbrev pub holders : ℕ → ℕ
holders word = min word 1

-- the greatest stamp among the entries
abbrev pub latest : List Entry → ℕ
latest [] = 0
latest (e ∷ es) = max (stamp_of e) (latest es)
