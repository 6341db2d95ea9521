-- The first denial of an access on a span.
use Rattle.std.specs.Prelude.{◌≡◌, ℕ, ◌+◌, ◌<◌, ◌≤◌, nat_lt, Bool, true, false, Option, Some, None, MatchOption, length, IsTrue, IsFalse, if◌then◌else◌}
use Rattle.bsan_ids.specs.declared.numbers.Span.{Span}
use Rattle.perm_table.specs.declared.Kind.{Kind}
use Rattle.dated_tree.specs.Shape.{Shape, node_at}
use Rattle.dated_tree.specs.Eager.{cell_of}
use Rattle.dated_tree.specs.Path.{is_on_path}
use Rattle.dated_tree.specs.Meet.{is_refused}
use Rattle.dated_access.specs.Denial.{perm_at}
use Rattle.dated_access.specs.declared.denial.Found.{Found}
use Rattle.dated_access.specs.declared.denied.Denial.{Denial}

-- whether the node at a place denies an access through x at a byte
abbrev pub refuses : Shape → ℕ → Kind → ℕ → ℕ → Bool
refuses t x kind b place = is_refused (Some kind) (is_on_path t.nodes x place) (node_at t.nodes place).guard (cell_of t place b)

abbrev pub NoneRefuses : Shape → ℕ → Kind → ℕ → Type 0
NoneRefuses t x kind b = (place : ℕ) → 1 ≤ place → place ≤ length t.nodes → IsFalse (refuses t x kind b place)

-- of the nodes that deny the access at a byte the one of the least place, with its state
pub record IsLeastAt (t : Shape) (x : ℕ) (kind : Kind) (b : ℕ) (found : Denial) : Type 0 where
  pub offset : found.offset ≡ b
  pub some : 1 ≤ found.place
  pub stored : found.place ≤ length t.nodes
  pub denied : IsTrue (refuses t x kind b found.place)
  pub least : (i : ℕ) → 1 ≤ i → i ≤ length t.nodes → IsTrue (refuses t x kind b i) → found.place ≤ i
  pub perm_there : found.perm ≡ perm_at t b found.place
  pub local_there : found.local ≡ is_on_path t.nodes x found.place

abbrev pub FindsLeast : Shape → ℕ → Kind → ℕ → Option Denial → Type 0
FindsLeast t x kind b found = MatchOption found (NoneRefuses t x kind b) (IsLeastAt t x kind b)

-- the first byte of a span at which a node denies the access, and there the one of the least place
pub record IsFirstOn (t : Shape) (x : ℕ) (span : Span) (kind : Kind) (found : Denial) : Type 0 where
  pub from : span.start ≤ found.offset
  pub to : found.offset < span.start + span.len
  pub here : IsLeastAt t x kind found.offset found
  pub before : (b : ℕ) → span.start ≤ b → b < found.offset → NoneRefuses t x kind b

abbrev pub FindsFirstOn : Shape → ℕ → Span → Kind → Option Denial → Type 0
FindsFirstOn t x span kind found =
    MatchOption found ((b : ℕ) → span.start ≤ b → b < span.start + span.len → NoneRefuses t x kind b) (IsFirstOn t x span kind)

abbrev pub denial_by : ℕ → Bool → Found → Denial
denial_by at local found = record { offset = at; place = found.place; perm = found.perm; local = local }

-- of two denials at a byte, on the path and off it, the one of the lesser place
abbrev pub lesser : ℕ → Option Found → Option Found → Option Denial
lesser at None None = None
lesser at (Some here) None = Some (denial_by at true here)
lesser at None (Some other) = Some (denial_by at false other)
lesser at (Some here) (Some other) = if nat_lt here.place other.place then Some (denial_by at true here) else Some (denial_by at false other)
