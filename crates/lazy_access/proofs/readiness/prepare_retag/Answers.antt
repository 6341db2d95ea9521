use Rattle.std.proofs.Common.{◌≡◌, ◌≤◌, length, Result, Ok, Err, OnOk, OnErr, MatchOption, ap, arith}
use Rattle.perm_table.specs.declared.Kind.TheVariants.{Read}
use Rattle.lazy_tree.specs.Shape.{Shape}
use Rattle.lazy_access.specs.Ready.{KeepsReady, IsReadyFor, IsReadyToRetag}
use Rattle.lazy_access.specs.declared.request.TreeRequest.{TreeRequest}
use Rattle.lazy_access.specs.Change.{IsRoomier}
use Rattle.lazy_access.specs.Requests.{HasWalk, IsChild}
use Rattle.lazy_access.proofs.Readying.{ready-roomier, ready-same, walk-grows, access-same, after-any}
use Rattle.lazy_access.proofs.readiness.prepare_retag.Goals as goal

pub returns-in_err-prepare_access-clause-quiet : goal.returns-in_err-prepare_access-clause-quiet
returns-in_err-prepare_access-clause-quiet c = λ tag span kind quiet. c.prepare_access.ensures.quiet tag span kind (c.store_root.ensures.quiet tag span kind quiet)

pub returns-clause-quiet : goal.returns-clause-quiet
returns-clause-quiet c = λ tag span kind quiet. c.make_child.ensures.quiet tag span kind (c.prepare_access.ensures.quiet tag span kind (c.store_root.ensures.quiet tag span kind quiet))

-- what was ready after the root was stored is so after the walk
kept-by : (t u : Shape) (r : TreeRequest) → u ≡ record t { nodes = u.nodes; visits = u.visits; marks = u.marks; list_room = u.list_room } → IsRoomier t.nodes u.nodes → (HasWalk t → HasWalk u) → IsReadyFor t r → IsReadyFor u r
kept-by t u r tree nodes walk h =
    let spare : u.spare ≡ t.spare = ap (λ (s : Shape). s.spare) tree in
    ready-roomier t u (ap (λ (s : Shape). s.size) tree) nodes walk (omega (arith, spare)) (ap (λ (s : Shape). s.ready) tree) r h

pub returns-in_err-store_root-clause-kept : goal.returns-in_err-store_root-clause-kept
returns-in_err-store_root-clause-kept c = after-any _ (KeepsReady c.args.tree.now c.store_root.new.tree) c.store_root.ensures.kept

pub returns-in_err-prepare_access-clause-kept : goal.returns-in_err-prepare_access-clause-kept
returns-in_err-prepare_access-clause-kept c =
    after-any _ (KeepsReady c.args.tree.now c.prepare_access.new.tree)
    (λ r h. kept-by c.store_root.new.tree c.prepare_access.new.tree r c.prepare_access.ensures.tree c.prepare_access.ensures.nodes c.prepare_access.ensures.walk (c.store_root.ensures.kept r h))

on-err : {A E : Type 0} (P Q : Type 0) (r : Result A E) → (P → Q) → OnErr r P → OnErr r Q
on-err P Q (Ok a) f h = tt
on-err P Q (Err e) f h = f h

pub returns-clause-kept : goal.returns-clause-kept
returns-clause-kept c =
    let t = c.prepare_access.new.tree in
    let u = c.make_child.new.tree in
    let nodes : u.nodes ≡ t.nodes = ap (λ (s : Shape). s.nodes) c.make_child.ensures.tree in
    let room : u.list_room ≡ t.list_room = ap (λ (s : Shape). s.list_room) c.make_child.ensures.tree in
    on-err (u.ready ≡ t.ready) (KeepsReady c.args.tree.now u) c.make_child.result
    (λ ready r h. ready-same t u (ap (λ (s : Shape). s.size) c.make_child.ensures.tree) nodes (walk-grows t u (ap length nodes) (ap (λ (s : Shape). s.marks) c.make_child.ensures.tree) (omega (arith, room))) c.make_child.ensures.grows ready r (kept-by c.store_root.new.tree t r c.prepare_access.ensures.tree c.prepare_access.ensures.nodes c.prepare_access.ensures.walk (c.store_root.ensures.kept r h)))
    c.make_child.ensures.err

made : {A E : Type 0} (r : Result A E) (P Q R : Type 0) → (P → Q → R) → OnOk r P → OnOk r Q → OnOk r R
made (Ok a) P Q R f p q = f p q
made (Err e) P Q R f p q = tt

pub returns-clause-ready : goal.returns-clause-ready
returns-clause-ready c =
    let t = c.prepare_access.new.tree in
    let u = c.make_child.new.tree in
    let nodes : u.nodes ≡ t.nodes = ap (λ (s : Shape). s.nodes) c.make_child.ensures.tree in
    let size : u.size ≡ t.size = ap (λ (s : Shape). s.size) c.make_child.ensures.tree in
    let count : length t.nodes ≡ length c.store_root.new.tree.nodes = c.prepare_access.ensures.nodes.links.count in
    made c.make_child.result (MatchOption u.ready ⊥ (IsChild t.size c.args.span c.args.kind c.args.guard)) (1 ≤ u.spare) (IsReadyToRetag u c.args.parent c.args.span c.args.kind c.args.guard)
    (λ child spare. record {
      stored = omega (arith, ap length nodes, count, c.in_ok-store_root.ensures.stored);
      access = access-same t u c.args.parent c.args.span Read nodes (ap (λ (s : Shape). s.marks) c.make_child.ensures.tree) (ap (λ (s : Shape). s.list_room) c.make_child.ensures.tree) c.in_ok-prepare_access.ensures.ready;
      room = spare;
      child = rw size child;
    })
    c.make_child.ensures.child c.make_child.ensures.spare
