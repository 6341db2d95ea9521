use Rattle.std.proofs.Common.{◌≡◌, ℕ, ◌+◌, ◌*◌, ◌<◌, ◌≤◌, true, List, length, Result, Ok, Err, OnOk, sym, ap, subst, ◌∙◌, arith}
use Rattle.lazy_tree.specs.Shape.{Shape}
use Rattle.lazy_tree.specs.Skip.{node_at, IsSound}
use Rattle.lazy_tree.specs.Eager.{eager_of}
use Rattle.lazy_access.specs.Requests.{local_in, HasRoom}
use Rattle.lazy_access.specs.Ready.{IsReadyToAccess}
use Rattle.lazy_access.proofs.Reserving.{eager-roomier, ready-by, sound-roomier}
use Rattle.bsan_ids.specs.declared.numbers.Tag.{Tag}
use Rattle.eager_tree.specs.Tree.{links, is_on_path}
use Rattle.lazy_tree.specs.declared.tree.Node.{Node}
use Rattle.lazy_tree.specs.Quiet.{IsQuietNode}
use Rattle.lazy_tree.specs.Ring.{pieces}
use Rattle.lazy_tree.specs.Eager.{eager_nodes}
use Rattle.lazy_access.specs.Walk.{ring_of}
use Rattle.lazy_access.proofs.Ringing.{ring-bound}
use Rattle.lazy_access.specs.Change.{IsRoomier}
use Rattle.lazy_access.proofs.Ringing.{quiet-roomier, cuts-roomier}
use Rattle.lazy_access.proofs.Readying.{walk-made, walk-grows}
use Rattle.lazy_access.proofs.readiness.prepare_unsettled.Goals as goal

on-ok : {A E : Type 0} (P Q : Type 0) (r : Result A E) → (P → Q) → OnOk r P → OnOk r Q
on-ok P Q (Ok a) f h = f h
on-ok P Q (Err e) f h = tt

pub returns-in-Some-clause-ready : goal.returns-in-Some-clause-ready
returns-in-Some-clause-ready c =
    let nodes : c.reserve_walk.new.self.nodes ≡ c.args.tree.now.nodes = ap (λ (t : Shape). t.nodes) c.reserve_walk.ensures.tree in
    let marks : c.reserve_access.new.tree.marks ≡ c.reserve_walk.new.self.marks = ap (λ (t : Shape). t.marks) c.reserve_access.ensures.tree in
    let room : c.reserve_access.new.tree.list_room ≡ c.reserve_walk.new.self.list_room = ap (λ (t : Shape). t.list_room) c.reserve_access.ensures.tree in
    let size : c.reserve_access.new.tree.size ≡ c.reserve_walk.new.self.size = ap (λ (t : Shape). t.size) c.reserve_access.ensures.tree in
    let s = c.reserve_access.ensures.same in
    on-ok (HasRoom c.reserve_access.new.tree.nodes c.in-Some.x true c.args.span c.args.kind 2) (IsReadyToAccess c.reserve_access.new.tree c.args.tag c.args.span c.args.kind) c.reserve_access.result
    (λ cuts. record {
      walk = record {
        marks = marks ∙ c.in_ok-reserve_walk.ensures.marks ∙ sym (ap length nodes) ∙ sym s.links.count;
        list = omega (arith, room, c.in_ok-reserve_walk.ensures.list, ap length nodes, s.links.count);
      };
      cuts = ready-by (λ y. HasRoom c.reserve_access.new.tree.nodes y true c.args.span c.args.kind 2) c.reserve_access.new.tree.size c.reserve_access.new.tree.nodes c.in-Some.x c.args.tag
          (subst (λ n. IsSound n c.reserve_access.new.tree.nodes) (sym size) (sound-roomier c.reserve_walk.new.self.size c.reserve_walk.new.self.nodes c.reserve_access.new.tree.nodes c.soundness.ensures.sound s))
          (omega (arith, c.in-Some.ensures.some.0, s.links.count)) (s.links.tag c.in-Some.x ∙ c.in-Some.ensures.some.1) cuts;
    })
    c.reserve_access.ensures.room

pub returns-in-Some-clause-same : goal.returns-in-Some-clause-same
returns-in-Some-clause-same c =
    eager-roomier c.reserve_walk.new.self.root c.reserve_access.new.tree.root c.reserve_walk.new.self.size c.reserve_access.new.tree.size c.reserve_walk.new.self.nodes c.reserve_access.new.tree.nodes
    (ap (λ (t : Shape). t.root) c.reserve_access.ensures.tree) (ap (λ (t : Shape). t.size) c.reserve_access.ensures.tree) (omega (arith, c.in-Some.ensures.some.0)) c.reserve_access.ensures.same
    ∙ ap eager_of c.reserve_walk.ensures.tree

pub returns-in-Some-clause-ring : goal.returns-in-Some-clause-ring
returns-in-Some-clause-ring c = λ quiet.
    let t = c.args.tree.now in
    let walk : c.reserve_walk.new.self.nodes ≡ t.nodes = ap (λ (s : Shape). s.nodes) c.reserve_walk.ensures.tree in
    let size : c.reserve_walk.new.self.size ≡ t.size = ap (λ (s : Shape). s.size) c.reserve_walk.ensures.tree in
    let visits : c.reserve_walk.new.self.visits ≡ t.visits = ap (λ (s : Shape). s.visits) c.reserve_walk.ensures.tree in
    let lt : c.in-Some.x < length t.nodes = omega (arith, c.in-Some.ensures.some.0, ap length walk) in
    let tag : (node_at t.nodes c.in-Some.x).tag ≡ c.args.tag = ap (λ (ns : List Node). (node_at ns c.in-Some.x).tag) (sym walk) ∙ c.in-Some.ensures.some.1 in
    let sound : IsSound t.size t.nodes = subst (λ s. IsSound s t.nodes) size (subst (λ (ns : List Node). IsSound c.reserve_walk.new.self.size ns) walk c.soundness.ensures.sound) in
    let visited : c.reserve_access.new.tree.visits ≤ c.reserve_walk.new.self.visits + ring_of t.nodes (local_in t.nodes c.in-Some.x) * pieces t.nodes c.args.span =
    (rw walk at c.reserve_access.ensures.ring) (subst (λ (g : Tag). (i : ℕ) → i < length t.nodes → IsQuietNode t.nodes (λ j. is_on_path (links (eager_nodes t.nodes)) g (node_at t.nodes j).tag) c.args.kind c.args.span i) (sym tag) quiet.still) in
    ring-bound t.root t.size t.nodes c.in-Some.x c.args.tag (pieces t.nodes c.args.span) t.visits c.reserve_access.new.tree.visits sound lt tag (omega (arith, visited, visits))

-- the nodes have the room that they had, and more
roomier : (c : goal.After-reserve_access) → IsRoomier c.args.tree.now.nodes c.reserve_access.new.tree.nodes
roomier c = subst (λ (ns : List Node). IsRoomier ns c.reserve_access.new.tree.nodes) (ap (λ (t : Shape). t.nodes) c.reserve_walk.ensures.tree) c.reserve_access.ensures.same

pub returns-in-Some-clause-quiet : goal.returns-in-Some-clause-quiet
returns-in-Some-clause-quiet c =
    quiet-roomier c.args.tree.now c.reserve_access.new.tree (ap (λ (t : Shape). t.root) c.reserve_access.ensures.tree ∙ ap (λ (t : Shape). t.root) c.reserve_walk.ensures.tree) (ap (λ (t : Shape). t.size) c.reserve_access.ensures.tree ∙ ap (λ (t : Shape). t.size) c.reserve_walk.ensures.tree)
    (returns-in-Some-clause-same c) (roomier c)

pub returns-in-Some-clause-cuts : goal.returns-in-Some-clause-cuts
returns-in-Some-clause-cuts c = λ s. cuts-roomier c.args.tree.now.nodes c.reserve_access.new.tree.nodes s (roomier c)

pub returns-in_err-reserve_walk-clause-walk : goal.returns-in_err-reserve_walk-clause-walk
returns-in_err-reserve_walk-clause-walk c =
    walk-made c.reserve_walk.result c.args.tree.now c.reserve_walk.new.self (ap (λ (t : Shape). t.nodes) c.reserve_walk.ensures.tree) c.reserve_walk.ensures.marks c.reserve_walk.ensures.list c.reserve_walk.ensures.err c.reserve_walk.ensures.grows

pub returns-in-None-clause-walk : goal.returns-in-None-clause-walk
returns-in-None-clause-walk c =
    walk-made c.reserve_walk.result c.args.tree.now c.reserve_walk.new.self (ap (λ (t : Shape). t.nodes) c.reserve_walk.ensures.tree) c.reserve_walk.ensures.marks c.reserve_walk.ensures.list c.reserve_walk.ensures.err c.reserve_walk.ensures.grows

pub returns-in-Some-clause-walk : goal.returns-in-Some-clause-walk
returns-in-Some-clause-walk c = λ h.
    let room : c.reserve_access.new.tree.list_room ≡ c.reserve_walk.new.self.list_room = ap (λ (t : Shape). t.list_room) c.reserve_access.ensures.tree in
    walk-grows c.reserve_walk.new.self c.reserve_access.new.tree c.reserve_access.ensures.same.links.count (ap (λ (t : Shape). t.marks) c.reserve_access.ensures.tree) (omega (arith, room))
    (walk-made c.reserve_walk.result c.args.tree.now c.reserve_walk.new.self (ap (λ (t : Shape). t.nodes) c.reserve_walk.ensures.tree) c.reserve_walk.ensures.marks c.reserve_walk.ensures.list c.reserve_walk.ensures.err c.reserve_walk.ensures.grows h)
