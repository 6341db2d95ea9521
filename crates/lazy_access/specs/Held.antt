-- The bytes that strongly guarded nodes have accessed.
use Rattle.std.specs.Prelude.{ℕ, ◌<◌, ◌≤◌, ◌≡◌, ◌⊎◌, ◌&&◌, Bool, IsTrue, IsFalse, Option, Some, None, MatchOption, List, nat_lt, if◌then◌else◌}
use Rattle.eager_tree.specs.declared.violation.Violation.{Violation}
use Rattle.eager_tree.specs.declared.violation.Violation.TheVariants.{StrongFree}
use Rattle.eager_tree.specs.Steps.{is_strong}
use Rattle.lazy_tree.specs.declared.tree.Node.{Node}
use Rattle.lazy_tree.specs.Skip.{node_at, slot_at}
use Rattle.lazy_access.specs.declared.frees.Held.{Held}

-- node i holds byte b against a free
abbrev pub holds : List Node → ℕ → ℕ → Bool
holds nodes i b = is_strong (node_at nodes i).guard && (slot_at nodes i b).accessed

-- of the bytes that the first m nodes hold the least, and there the first node
pub record IsFirstHeld (size : ℕ) (nodes : List Node) (m : ℕ) (held : Held) : Type 0 where
  pub node : held.node < m
  pub offset : held.offset < size
  pub perm : held.perm ≡ (slot_at nodes held.node held.offset).perm
  pub here : IsTrue (holds nodes held.node held.offset)
  pub least : (i b : ℕ) → i < m → b < size → IsTrue (holds nodes i b) → (held.offset < b) ⊎ ((held.offset ≡ b) × (held.node ≤ i))

abbrev pub NoneHeld : ℕ → List Node → ℕ → Type 0
NoneHeld size nodes m = (i b : ℕ) → i < m → b < size → IsFalse (holds nodes i b)

abbrev pub FindsHeld : ℕ → List Node → ℕ → Option Held → Type 0
FindsHeld size nodes m held = MatchOption held (NoneHeld size nodes m) (IsFirstHeld size nodes m)

-- the first byte that one node has accessed
pub record IsFirstAccessed (size : ℕ) (nodes : List Node) (i : ℕ) (held : Held) : Type 0 where
  pub node : held.node ≡ i
  pub offset : held.offset < size
  pub perm : held.perm ≡ (slot_at nodes i held.offset).perm
  pub here : IsTrue (slot_at nodes i held.offset).accessed
  pub before : (b : ℕ) → b < held.offset → IsFalse (slot_at nodes i b).accessed

abbrev pub FindsAccessed : ℕ → List Node → ℕ → Option Held → Type 0
FindsAccessed size nodes i held = MatchOption held ((b : ℕ) → b < size → IsFalse (slot_at nodes i b).accessed) (IsFirstAccessed size nodes i)

abbrev pub strong_free_of : List Node → Held → Violation
strong_free_of nodes held = StrongFree held.offset (node_at nodes held.node).tag held.perm

-- the first byte that one node holds
abbrev pub FindsHeldBy : ℕ → List Node → ℕ → Option Held → Type 0
FindsHeldBy size nodes i held =
    MatchOption held ((b : ℕ) → b < size → IsFalse (holds nodes i b)) (λ h. IsFirstAccessed size nodes i h × IsTrue (is_strong (node_at nodes i).guard))

abbrev pub earlier_held : Option Held → Option Held → Option Held
earlier_held None found = found
earlier_held (Some kept) None = Some kept
earlier_held (Some kept) (Some found) = if nat_lt found.offset kept.offset then Some found else Some kept
