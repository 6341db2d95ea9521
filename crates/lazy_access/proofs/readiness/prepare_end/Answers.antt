use Rattle.std.proofs.Common.{◌≡◌, List, length, Result, Ok, Err, OnOk, sym, ap, subst, ◌∙◌, arith}
use Rattle.lazy_tree.specs.declared.tree.Node.{Node}
use Rattle.lazy_tree.specs.Shape.{Shape}
use Rattle.lazy_tree.specs.Skip.{IsSound}
use Rattle.lazy_tree.specs.Eager.{eager_of}
use Rattle.lazy_access.specs.Ends.{HasEndRoom}
use Rattle.lazy_access.specs.Ready.{IsReadyToEnd}
use Rattle.lazy_access.proofs.Reserving.{eager-roomier, ready-by, sound-roomier}
use Rattle.lazy_access.specs.Change.{IsRoomier}
use Rattle.lazy_access.proofs.Ringing.{quiet-roomier, cuts-roomier}
use Rattle.lazy_access.proofs.Readying.{walk-made, walk-grows}
use Rattle.lazy_access.proofs.readiness.prepare_end.Goals as goal

on-ok : {A E : Type 0} (P Q : Type 0) (r : Result A E) → (P → Q) → OnOk r P → OnOk r Q
on-ok P Q (Ok a) f h = f h
on-ok P Q (Err e) f h = tt

pub returns-in-Some-clause-ready : goal.returns-in-Some-clause-ready
returns-in-Some-clause-ready c =
    let nodes : c.reserve_walk.new.self.nodes ≡ c.args.tree.now.nodes = ap (λ (t : Shape). t.nodes) c.reserve_walk.ensures.tree in
    let marks : c.reserve_ends.new.tree.marks ≡ c.reserve_walk.new.self.marks = ap (λ (t : Shape). t.marks) c.reserve_ends.ensures.tree in
    let room : c.reserve_ends.new.tree.list_room ≡ c.reserve_walk.new.self.list_room = ap (λ (t : Shape). t.list_room) c.reserve_ends.ensures.tree in
    let size : c.reserve_ends.new.tree.size ≡ c.reserve_walk.new.self.size = ap (λ (t : Shape). t.size) c.reserve_ends.ensures.tree in
    let s = c.reserve_ends.ensures.same in
    on-ok (HasEndRoom c.reserve_ends.new.tree.size c.reserve_ends.new.tree.nodes c.in-Some.x) (IsReadyToEnd c.reserve_ends.new.tree c.args.tag) c.reserve_ends.result
    (λ made. record {
      walk = record {
        marks = marks ∙ c.in_ok-reserve_walk.ensures.marks ∙ sym (ap length nodes) ∙ sym s.links.count;
        list = omega (arith, room, c.in_ok-reserve_walk.ensures.list, ap length nodes, s.links.count);
      };
      cuts = ready-by (λ y. HasEndRoom c.reserve_ends.new.tree.size c.reserve_ends.new.tree.nodes y) c.reserve_ends.new.tree.size c.reserve_ends.new.tree.nodes c.in-Some.x c.args.tag
          (subst (λ n. IsSound n c.reserve_ends.new.tree.nodes) (sym size) (sound-roomier c.reserve_walk.new.self.size c.reserve_walk.new.self.nodes c.reserve_ends.new.tree.nodes c.soundness.ensures.sound s))
          (omega (arith, c.in-Some.ensures.some.0, s.links.count)) (s.links.tag c.in-Some.x ∙ c.in-Some.ensures.some.1) made;
    })
    c.reserve_ends.ensures.room

pub returns-in-Some-clause-same : goal.returns-in-Some-clause-same
returns-in-Some-clause-same c =
    eager-roomier c.reserve_walk.new.self.root c.reserve_ends.new.tree.root c.reserve_walk.new.self.size c.reserve_ends.new.tree.size c.reserve_walk.new.self.nodes c.reserve_ends.new.tree.nodes
    (ap (λ (t : Shape). t.root) c.reserve_ends.ensures.tree) (ap (λ (t : Shape). t.size) c.reserve_ends.ensures.tree) (omega (arith, c.in-Some.ensures.some.0)) c.reserve_ends.ensures.same
    ∙ ap eager_of c.reserve_walk.ensures.tree

-- the nodes have the room that they had, and more
roomier : (c : goal.After-reserve_ends) → IsRoomier c.args.tree.now.nodes c.reserve_ends.new.tree.nodes
roomier c = subst (λ (ns : List Node). IsRoomier ns c.reserve_ends.new.tree.nodes) (ap (λ (t : Shape). t.nodes) c.reserve_walk.ensures.tree) c.reserve_ends.ensures.same

pub returns-in-Some-clause-quiet : goal.returns-in-Some-clause-quiet
returns-in-Some-clause-quiet c =
    quiet-roomier c.args.tree.now c.reserve_ends.new.tree (ap (λ (t : Shape). t.root) c.reserve_ends.ensures.tree ∙ ap (λ (t : Shape). t.root) c.reserve_walk.ensures.tree) (ap (λ (t : Shape). t.size) c.reserve_ends.ensures.tree ∙ ap (λ (t : Shape). t.size) c.reserve_walk.ensures.tree)
    (returns-in-Some-clause-same c) (roomier c)

pub returns-in-Some-clause-cuts : goal.returns-in-Some-clause-cuts
returns-in-Some-clause-cuts c = λ s. cuts-roomier c.args.tree.now.nodes c.reserve_ends.new.tree.nodes s (roomier c)

pub returns-in_err-reserve_walk-clause-walk : goal.returns-in_err-reserve_walk-clause-walk
returns-in_err-reserve_walk-clause-walk c =
    walk-made c.reserve_walk.result c.args.tree.now c.reserve_walk.new.self (ap (λ (t : Shape). t.nodes) c.reserve_walk.ensures.tree) c.reserve_walk.ensures.marks c.reserve_walk.ensures.list c.reserve_walk.ensures.err c.reserve_walk.ensures.grows

pub returns-in-None-clause-walk : goal.returns-in-None-clause-walk
returns-in-None-clause-walk c =
    walk-made c.reserve_walk.result c.args.tree.now c.reserve_walk.new.self (ap (λ (t : Shape). t.nodes) c.reserve_walk.ensures.tree) c.reserve_walk.ensures.marks c.reserve_walk.ensures.list c.reserve_walk.ensures.err c.reserve_walk.ensures.grows

pub returns-in-Some-clause-walk : goal.returns-in-Some-clause-walk
returns-in-Some-clause-walk c = λ h.
    let room : c.reserve_ends.new.tree.list_room ≡ c.reserve_walk.new.self.list_room = ap (λ (t : Shape). t.list_room) c.reserve_ends.ensures.tree in
    walk-grows c.reserve_walk.new.self c.reserve_ends.new.tree c.reserve_ends.ensures.same.links.count (ap (λ (t : Shape). t.marks) c.reserve_ends.ensures.tree) (omega (arith, room))
    (walk-made c.reserve_walk.result c.args.tree.now c.reserve_walk.new.self (ap (λ (t : Shape). t.nodes) c.reserve_walk.ensures.tree) c.reserve_walk.ensures.marks c.reserve_walk.ensures.list c.reserve_walk.ensures.err c.reserve_walk.ensures.grows h)
