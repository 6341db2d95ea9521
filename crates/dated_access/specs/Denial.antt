-- The first denial at a byte.
use Rattle.std.specs.Prelude.{◌≡◌, ℕ, ◌<◌, Bool, true, false, Option, Some, MatchOption, List, length, IsTrue, IsFalse}
use Rattle.perm_table.specs.declared.Perm.{Perm}
use Rattle.perm_table.specs.declared.Kind.{Kind}
use Rattle.dated_tree.specs.Shape.{Shape, node_at, slot_at}
use Rattle.dated_tree.specs.Eager.{cell_of}
use Rattle.dated_tree.specs.Meet.{is_refused, kept_cell}
use Rattle.dated_access.specs.Path.{entry}
use Rattle.dated_access.specs.declared.denial.Found.{Found}

-- whether a node on the path denies the access at a byte
abbrev pub refuses_local : Shape → Kind → ℕ → ℕ → Bool
refuses_local t kind b place = is_refused (Some kind) true (node_at t.nodes place).guard (cell_of t place b)

-- whether a guarded node off the path does, which has met all
abbrev pub refuses_foreign : Shape → Kind → ℕ → ℕ → Bool
refuses_foreign t kind b place = is_refused (Some kind) false (node_at t.nodes place).guard (kept_cell (slot_at t.nodes place b))

abbrev pub perm_at : Shape → ℕ → ℕ → Perm
perm_at t b place = (cell_of t place b).perm

abbrev pub kept_perm : Shape → ℕ → ℕ → Perm
kept_perm t b place = (slot_at t.nodes place b).perm

-- the first of some places that denies, and its state
pub record IsFirstOf (refuses : ℕ → Bool) (perm : ℕ → Perm) (places : List ℕ) (found : Found) : Type 0 where
  pub at : ℕ
  pub below : at < length places
  pub here : entry places at ≡ found.place
  pub perm_there : found.perm ≡ perm found.place
  pub denied : IsTrue (refuses found.place)
  pub first : (k : ℕ) → k < at → IsFalse (refuses (entry places k))

abbrev pub FindsFirst : (ℕ → Bool) → (ℕ → Perm) → List ℕ → Option Found → Type 0
FindsFirst refuses perm places found =
    MatchOption found ((k : ℕ) → k < length places → IsFalse (refuses (entry places k))) (IsFirstOf refuses perm places)
