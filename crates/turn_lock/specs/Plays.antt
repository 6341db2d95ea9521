-- What each step on the table tells the desk that makes it.
use Rattle.std.specs.Prelude.{◌≡◌, ◌≢◌, ◌⊎◌, ℕ, suc, ◌^◌, ◌<◌, ◌≤◌, true, ◌==◌, if◌then◌else◌, List, [], ◌∷◌, ◌++◌, All, Contains, sum_by, Option, Some, None}
use Rattle.atomic_table.specs.Table.{Me, Step, rest}
use Rattle.atomic_table.specs.Seated.{TableId}
use Rattle.history.specs.declared.entry.Entry.{Entry}
use Rattle.turn_lock.specs.declared.view.HeldTurn.{HeldTurn}
use Rattle.turn_lock.specs.declared.view.View.{View}
use Rattle.history.specs.Merge.{stamp_of}
use Rattle.history.specs.Histories.{is_make_step}
use Rattle.history.specs.Restriction.{number_of}
use Rattle.turn_lock.specs.Places.{slot_at}
use Rattle.turn_lock.specs.Weights.{AreOnce, naming, equals, makes, alloc_weight}
use Rattle.turn_lock.specs.Rule.{Rising}
use Rattle.turn_lock.specs.Steps.{drew_stamp, drew_alloc, drew_thread, chose, took, gave}

-- What a contract sees of a desk: its table, and what it knows.
pub record DeskView : Type 0 where
  pub table : TableId
  pub view : View

module _ {X : Type 0} where
  -- while a desk holds a turn, it has that slot, which is empty
  abbrev pub Carries : ℕ → Option HeldTurn → List (ℕ × Option X) → Type 0
  Carries slots None c = c ≡ []
  Carries slots (Some t) c = (c ≡ (t.slot, None) ∷ []) × (t.slot < slots)

  abbrev pub IsDesk : TableId → Me (Option X) View → Type 0
  IsDesk id m = (m.0.live ≡ true) × Carries id.slots m.0.turn m.1 × (m.0.next ≡ 0) × AreOnce m.0.outs

  abbrev pub StampDrawn : Step (Option X) → Me (Option X) View → ℕ → Me (Option X) View → Type 0
  StampDrawn st m r m' = (m' ≡ (drew_stamp m.0 (suc r), m.1)) × (m.0.seen ≤ r) × (suc r < 2 ^ 64)

  abbrev pub AllocDrawn : Step (Option X) → Me (Option X) View → ℕ → Me (Option X) View → Type 0
  AllocDrawn st m r m' = (m' ≡ (drew_alloc m.0 (suc r), m.1)) × (sum_by (makes (suc r)) m.0.calls ≡ 0) × (suc r < 2 ^ 64)

  abbrev pub ThreadDrawn : Step (Option X) → Me (Option X) View → ℕ → Me (Option X) View → Type 0
  ThreadDrawn st m r m' = (m' ≡ (drew_thread m.0 (suc r), m.1)) × (m.0.name ≤ r) × (sum_by (equals (suc r)) m.0.outs ≡ 0) × (sum_by (equals (suc r)) m.0.joined ≡ 0) × All (λ n. n < suc r) m.0.threads.own × All (λ n. n < suc r) m.0.threads.joined × (suc r < 2 ^ 64)

  -- nothing changes but the name that the next split gives
  abbrev pub NameChosen : Step (Option X) → Me (Option X) View → ℕ → Me (Option X) View → Type 0
  NameChosen st m r m' = m' ≡ (chose m.0 st.first, m.1)

  -- the turn's word may change, and nothing that the desk knows or has
  abbrev pub WaitMarked : Step (Option X) → Me (Option X) View → ℕ → Me (Option X) View → Type 0
  WaitMarked st m r m' = m' ≡ m

-- the number was drawn on this desk, or on one joined into it, and no Make was given for it
abbrev pub IsFresh : View → ℕ → Type 0
IsFresh v n = (1 ≤ alloc_weight (equals n) v) × (sum_by (makes n) v.calls ≡ 0)

-- the entries with which a turn is given back: those that were taken, or those and one call of a stamp that was drawn since
abbrev pub Extends : View → HeldTurn → List Entry → Type 0
Extends v t es = (es ≡ t.taken) ⊎ ((e : Entry) × (es ≡ t.taken ++ e ∷ []) × Contains t.since (stamp_of e) × (number_of e.alloc ≡ suc t.slot) × (is_make_step e ≡ true → IsFresh v (suc t.slot)))

-- Of a value that was taken: its entries rise, all calls of the desk on this number are among them, and all that it was told of. Where the number is fresh, none is a Make.
pub record Tells (n : ℕ) (v : View) (es : List Entry) : Type 0 where
  pub rising : Rising es
  pub about : sum_by (λ (e : Entry). if number_of e.alloc == n then 0 else 1) es ≡ 0
  pub calls : (h : Entry → ℕ) → sum_by (naming n h) v.calls ≤ sum_by h es
  pub told : (h : Entry → ℕ) → sum_by h es ≡ 0 → sum_by (naming n h) v.told ≡ 0
  pub fresh : IsFresh v n → sum_by (makes n) es ≡ 0

module _ {X : Type 0} (number : X → ℕ) (entries : X → List Entry) where
  abbrev pub TakenAt : ℕ → Me (Option X) View → ℕ → Me (Option X) View → Type 0
  TakenAt k m r m' =
      (r ≡ 0 → (x : X) × (m' ≡ (took m.0 k (entries x), (k, Some x) ∷ m.1)) × (number x ≡ suc k) × Tells (suc k) m.0 (entries x))
      × (r ≢ 0 → m' ≡ m)

  abbrev pub TurnTaken : Step (Option X) → Me (Option X) View → ℕ → Me (Option X) View → Type 0
  TurnTaken st m r m' = TakenAt (slot_at st.word) m r m'

  abbrev pub GivenAt : ℕ → Me (Option X) View → Me (Option X) View → Type 0
  GivenAt k m m' = (m'.1 ≡ rest m.1) × ((x : X) → m.1 ≡ (k, Some x) ∷ rest m.1 → m'.0 ≡ gave m.0 (entries x))

  abbrev pub TurnGiven : Step (Option X) → Me (Option X) View → ℕ → Me (Option X) View → Type 0
  TurnGiven st m r m' = GivenAt (slot_at st.word) m m'

  -- the turn of the slot k was taken, and the value x out of it
  abbrev pub IsTaken : ℕ → Me (Option X) View → X → Me (Option X) View → Type 0
  IsTaken k m x m' = (m' ≡ (took m.0 k (entries x), (k, None) ∷ [])) × (number x ≡ suc k) × Tells (suc k) m.0 (entries x)
