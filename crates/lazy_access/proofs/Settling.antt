-- An access that is known to change nothing.
use Rattle.std.proofs.Common.{◌≡◌, ◌⊎◌, ℕ, ◌+◌, ◌*◌, ◌<◌, ◌≤◌, Bool, true, false, List, length, Option, None, refl, sym, ap, subst, ◌∙◌, arith, inl, inr}
use Rattle.bsan_ids.specs.declared.numbers.Tag.{Tag}
use Rattle.bsan_ids.specs.declared.numbers.Span.{Span}
use Rattle.perm_table.specs.declared.Kind.{Kind}
use Rattle.eager_tree.specs.declared.violation.Violation.{Violation}
use Rattle.eager_tree.specs.Tree.{Tree, links, is_on_path}
use Rattle.eager_tree.specs.Steps.{access}
use Rattle.lazy_tree.specs.declared.tree.Node.{Node}
use Rattle.lazy_tree.specs.Shape.{Shape}
use Rattle.lazy_tree.specs.Skip.{node_at, slot_at, IsSound}
use Rattle.lazy_tree.specs.Eager.{eager_nodes, eager_of}
use Rattle.lazy_tree.specs.Quiet.{IsQuietSlot, IsQuietNode}
use Rattle.lazy_tree.specs.Ring.{ring_size, pieces}
use Rattle.lazy_tree.specs.Settled.{IsSettled}
use Rattle.lazy_access.specs.Step.{is_denied}
use Rattle.lazy_access.specs.Walk.{denies, IsCovered, IsQuietAll}
use Rattle.lazy_access.specs.Requests.{local_in, HasWalk, HasRoom}
use Rattle.lazy_access.specs.Ready.{IsReadyToAccess}
use Rattle.lazy_access.proofs.Accessing.{access-tie, node-there}
use Rattle.lazy_access.proofs.Joining.{joined-none}
use Rattle.lazy_access.proofs.Performing.{done-still}
use Rattle.lazy_access.proofs.Places.{covered-stays, reached-true}
use Rattle.lazy_access.proofs.Ringing.{ring-bound, ring-one}

true-false : true ≡ false → ⊥
true-false e = cc

-- what is found to change nothing, with room, is settled
pub settled-by : (t : Shape) (x : ℕ) (tag : Tag) (span : Span) (kind : Kind) → x < length t.nodes → (node_at t.nodes x).tag ≡ tag → span.start + span.len ≤ t.size → HasRoom t.nodes x true span kind 2 → IsQuietAll t.nodes (local_in t.nodes x) kind span → IsSettled t tag span kind
settled-by t x tag span kind lt named within room quiet = record {
  at = x;
  stored = lt;
  named = named;
  quiet = record {
    node = node-there t.root t.size t.nodes x tag lt named;
    within = within;
    still = subst (λ (g : Tag). (i : ℕ) → i < length t.nodes → IsQuietNode t.nodes (λ j. is_on_path (links (eager_nodes t.nodes)) g (node_at t.nodes j).tag) kind span i) named quiet;
  };
  room = λ i low on. elim (room i low (reached-true t.nodes x i)) [
    | inl some ↦ some
    | inr none ↦ absurd (true-false (sym on ∙ ap (λ (g : Tag). is_on_path (links (eager_nodes t.nodes)) g (node_at t.nodes i).tag) (sym named) ∙ none.0))
  ];
}

-- the room of an access that is settled
settled-room : (t : Shape) (tag : Tag) (span : Span) (kind : Kind) → IsSettled t tag span kind → (x : ℕ) → x < length t.nodes → (node_at t.nodes x).tag ≡ tag → HasRoom t.nodes x true span kind 2
settled-room t tag span kind h x lt named i low reached = by-flag (is_on_path (links (eager_nodes t.nodes)) tag (node_at t.nodes i).tag) refl
  where
    by-flag : (on : Bool) → is_on_path (links (eager_nodes t.nodes)) tag (node_at t.nodes i).tag ≡ on → (2 ≤ (node_at t.nodes i).runs.spare) ⊎ (local_in t.nodes x i ≡ false × IsCovered t.nodes kind span i)
    by-flag true e = inl (h.room i low e)
    by-flag false e = inr (
      ap (λ (g : Tag). is_on_path (links (eager_nodes t.nodes)) g (node_at t.nodes i).tag) named ∙ e,
      λ b from to. subst (λ (l : Bool). IsQuietSlot (node_at t.nodes i).guard l kind (slot_at t.nodes i b)) e (h.quiet.still i low b from to),
    )

pub settled-ready : (t u : Shape) (tag : Tag) (span : Span) (kind : Kind) → IsSettled t tag span kind → u.nodes ≡ t.nodes → HasWalk u → IsReadyToAccess u tag span kind
settled-ready t u tag span kind h nodes walk = record {
  walk = walk;
  cuts = subst (λ (ns : List Node). (x : ℕ) → x < length ns → (node_at ns x).tag ≡ tag → HasRoom ns x true span kind 2) (sym nodes) (settled-room t tag span kind h);
}

-- the counter's rise by one is within the ring
pub settled-ring : (t : Shape) (tag : Tag) (span : Span) (kind : Kind) (now : ℕ) → IsSound t.size t.nodes → IsSettled t tag span kind → now ≤ t.visits + 1 → now ≤ t.visits + ring_size (links (eager_of t).nodes) tag * pieces t.nodes span
settled-ring t tag span kind now sound h one =
    ring-bound t.root t.size t.nodes h.at tag (pieces t.nodes span) t.visits now sound h.stored h.named
    (ring-one t.nodes (local_in t.nodes h.at) span t.visits now (let s = h.stored in omega (arith, s)) one)

quiet-silent : (size : ℕ) (nodes : List Node) (path : ℕ → Bool) (kind : Kind) (span : Span) (i b : ℕ) (on : Bool) → IsSound size nodes → i < length nodes → span.start + span.len ≤ size → path i ≡ on → IsQuietNode nodes path kind span i → span.start ≤ b → b < span.start + span.len → denies nodes path kind i b ≡ false
quiet-silent size nodes path kind span i b true h lt within e q from to =
    rw e (ap is_denied (subst (λ (l : Bool). IsQuietSlot (node_at nodes i).guard l kind (slot_at nodes i b)) e (q b from to)).0)
quiet-silent size nodes path kind span i b false h lt within e q from to =
    rw e (ap is_denied (covered-stays size nodes kind i b h lt (omega (arith, to, within)) (subst (λ (l : Bool). IsQuietSlot (node_at nodes i).guard l kind (slot_at nodes i b)) e (q b from to))))

-- the eager tree's answer
pub settled-answer : (t : Shape) (tag : Tag) (span : Span) (kind : Kind) → IsSound t.size t.nodes → IsSettled t tag span kind → (let p : Option Violation × Tree = (None, eager_of t) in p) ≡ access (eager_of t) tag span kind
settled-answer t tag span kind sound h =
    let still : IsQuietAll t.nodes (local_in t.nodes h.at) kind span =
    subst (λ (g : Tag). (i : ℕ) → i < length t.nodes → IsQuietNode t.nodes (λ j. is_on_path (links (eager_nodes t.nodes)) g (node_at t.nodes j).tag) kind span i) (sym h.named) h.quiet.still in
    access-tie t.root t.size t.nodes t.nodes t.nodes h.at tag kind span None sound sound h.stored h.quiet.within h.named
    (λ i b met from to. quiet-silent t.size t.nodes (local_in t.nodes h.at) kind span i b (local_in t.nodes h.at i) sound met.within h.quiet.within refl (still i met.within) from to)
    tt (λ none. done-still t.size t.nodes (local_in t.nodes h.at) h.at true kind span sound h.quiet.within still) (joined-none t.nodes)
