-- What makes a tree ready for a request.
use Rattle.std.specs.Prelude.{ℕ, ◌+◌, ◌*◌, ◌<◌, ◌≤◌, ◌≡◌, true, length, MatchOption}
use Rattle.bsan_ids.specs.declared.numbers.Tag.{Tag}
use Rattle.bsan_ids.specs.declared.numbers.Span.{Span}
use Rattle.perm_table.specs.declared.Kind.{Kind}
use Rattle.perm_table.specs.declared.Kind.TheVariants.{Read}
use Rattle.perm_table.specs.declared.Guard.{Guard}
use Rattle.perm_table.specs.declared.RetagKind.{RetagKind}
use Rattle.eager_tree.specs.Tree.{links}
use Rattle.lazy_tree.specs.Quiet.{IsQuiet}
use Rattle.lazy_tree.specs.Ring.{ring_size, pieces}
use Rattle.lazy_tree.specs.Eager.{eager_of}
use Rattle.lazy_tree.specs.Shape.{Shape}
use Rattle.lazy_tree.specs.Skip.{node_at}
use Rattle.lazy_access.specs.declared.request.TreeRequest.{TreeRequest}
use Rattle.lazy_access.specs.declared.request.TreeRequest.TheVariants.{Access, Retag, EndProtector, FreeAll}
use Rattle.lazy_access.specs.Requests.{HasWalk, HasRoom, IsChild}
use Rattle.lazy_access.specs.Ends.{HasEndRoom}

-- for an access
pub record IsReadyToAccess (t : Shape) (tag : Tag) (span : Span) (kind : Kind) : Type 0 where
  pub walk : HasWalk t
  pub cuts : (x : ℕ) → x < length t.nodes → (node_at t.nodes x).tag ≡ tag → HasRoom t.nodes x true span kind 2

-- for a retag: the root is stored, and the runs of the child are made
pub record IsReadyToRetag (t : Shape) (parent : Tag) (span : Span) (kind : RetagKind) (guard : Guard) : Type 0 where
  pub stored : 1 ≤ length t.nodes
  pub access : IsReadyToAccess t parent span Read
  pub room : 1 ≤ t.spare
  pub child : MatchOption t.ready ⊥ (IsChild t.size span kind guard)

-- for the end of a protector
pub record IsReadyToEnd (t : Shape) (tag : Tag) : Type 0 where
  pub walk : HasWalk t
  pub cuts : (x : ℕ) → x < length t.nodes → (node_at t.nodes x).tag ≡ tag → HasEndRoom t.size t.nodes x

-- there is all the memory that the request may take
abbrev pub IsReadyFor : Shape → TreeRequest → Type 0
IsReadyFor t (Access tag span kind) = IsReadyToAccess t tag span kind
IsReadyFor t (Retag parent span kind guard) = IsReadyToRetag t parent span kind guard
IsReadyFor t (EndProtector tag) = IsReadyToEnd t tag
IsReadyFor t (FreeAll tag) = HasWalk t

-- what one tree is ready for, the other is ready for too
abbrev pub KeepsReady : Shape → Shape → Type 0
KeepsReady t u = (request : TreeRequest) → IsReadyFor t request → IsReadyFor u request

-- the span has a byte and lies in the allocation
abbrev pub Fits : ℕ → TreeRequest → Type 0
Fits size (Access tag span kind) = (1 ≤ span.len) × (span.start + span.len ≤ size)
Fits size (Retag parent span kind guard) = (1 ≤ span.len) × (span.start + span.len ≤ size)
Fits size (EndProtector tag) = Unit {0}
Fits size (FreeAll tag) = Unit {0}

-- where the request is an access that changes nothing, the counter rises by no more than ring times pieces
abbrev pub IsWithinRing : Shape → Shape → TreeRequest → Type 0
IsWithinRing t u (Access tag span kind) = IsQuiet t tag span kind → u.visits ≤ t.visits + ring_size (links (eager_of t).nodes) tag * pieces t.nodes span
IsWithinRing t u (Retag parent span kind guard) = Unit {0}
IsWithinRing t u (EndProtector tag) = Unit {0}
IsWithinRing t u (FreeAll tag) = Unit {0}
