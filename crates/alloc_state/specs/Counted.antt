-- What a step does to the counter of a tree, to the accesses that change nothing and to the cuts.
use Rattle.std.specs.Prelude.{ℕ, ◌≡◌, ◌+◌, ◌<◌, ◌≤◌, ◌⊎◌, IsTrue, Result, Ok, Err, IfOk}
use Rattle.lazy_tree.specs.Quiet.{IsQuiet, KeepsQuiet, KeepsCuts}
use Rattle.lazy_tree.specs.Ring.{is_cut}
use Rattle.lazy_tree.specs.Shape.{Shape}
use Rattle.lazy_access.specs.declared.request.TreeRequest.{TreeRequest}
use Rattle.lazy_access.specs.declared.request.TreeRequest.TheVariants.{Access, Retag, EndProtector, FreeAll}
use Rattle.lazy_access.specs.Ready.{IsWithinRing}
use Rattle.history.specs.declared.entry.Verdict.{Verdict}
use Rattle.history.specs.declared.entry.Verdict.TheVariants.{Clean}

-- an access changes nothing
abbrev pub IsStill : Shape → TreeRequest → Type 0
IsStill t (Access tag span kind) = IsQuiet t tag span kind
IsStill t (Retag parent span kind guard) = Unit {0}
IsStill t (EndProtector tag) = Unit {0}
IsStill t (FreeAll tag) = Unit {0}

-- a place is an end of the span of an access or a retag
abbrev pub IsEndOf : TreeRequest → ℕ → Type 0
IsEndOf (Access tag span kind) at = (at ≡ span.start) ⊎ (at ≡ span.start + span.len)
IsEndOf (Retag parent span kind guard) at = (at ≡ span.start) ⊎ (at ≡ span.start + span.len)
IsEndOf (EndProtector tag) at = ⊥
IsEndOf (FreeAll tag) at = ⊥

abbrev pub IsEndAsked : Result TreeRequest Verdict → ℕ → Type 0
IsEndAsked (Err verdict) at = ⊥
IsEndAsked (Ok request) at = IsEndOf request at

-- without a request to the tree the counter stays
abbrev pub IsIdle : Result TreeRequest Verdict → Shape → Shape → Type 0
IsIdle (Err verdict) before after = after.visits ≤ before.visits
IsIdle (Ok request) before after = Unit {0}

-- The counter doesn't fall, and where an access changes nothing it rises by no more than ring times pieces.
-- An access with a clean verdict changes nothing from then on. New cuts are the ends of what is asked.
pub record IsCounted (before after : Shape) (asks : Result TreeRequest Verdict) (verdict : Verdict) : Type 0 where
  pub size : after.size ≡ before.size
  pub rises : before.visits ≤ after.visits
  pub idle : IsIdle asks before after
  pub ring : IfOk asks (IsWithinRing before after)
  pub still : verdict ≡ Clean → IfOk asks (IsStill after)
  pub cuts : (at : ℕ) → at < before.size → IsTrue (is_cut after.nodes at) → IsTrue (is_cut before.nodes at) ⊎ IsEndAsked asks at

-- the same of the room that is taken for what is asked, which leaves what changes nothing and the cuts
pub record IsRoomTaken (before after : Shape) (asks : Result TreeRequest Verdict) : Type 0 where
  pub size : after.size ≡ before.size
  pub rises : before.visits ≤ after.visits
  pub idle : IsIdle asks before after
  pub ring : IfOk asks (IsWithinRing before after)
  pub quiet : KeepsQuiet before after
  pub cuts : KeepsCuts before after
