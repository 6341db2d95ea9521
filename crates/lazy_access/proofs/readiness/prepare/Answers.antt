use Rattle.std.proofs.Common.{◌≡◌, ap, arith}
use Rattle.lazy_tree.specs.Shape.{Shape}
use Rattle.lazy_access.specs.Ready.{KeepsReady}
use Rattle.lazy_access.specs.Requests.{HasWalk}
use Rattle.lazy_access.specs.Change.{IsRoomier}
use Rattle.lazy_access.proofs.Readying.{ready-roomier, ready-same, walk-made, after-any}
use Rattle.lazy_access.proofs.readiness.prepare.Goals as goal

-- room in the nodes and for a walk
grown : (t u : Shape) → u ≡ record t { nodes = u.nodes; visits = u.visits; marks = u.marks; list_room = u.list_room } → IsRoomier t.nodes u.nodes → (HasWalk t → HasWalk u) → KeepsReady t u
grown t u tree nodes walk =
    let spare : u.spare ≡ t.spare = ap (λ (s : Shape). s.spare) tree in
    ready-roomier t u (ap (λ (s : Shape). s.size) tree) nodes walk (omega (arith, spare)) (ap (λ (s : Shape). s.ready) tree)

pub returns-in-Access-clause-kept : goal.returns-in-Access-clause-kept
returns-in-Access-clause-kept c =
    after-any _ (KeepsReady c.args.tree.now c.prepare_access.new.tree) (grown c.args.tree.now c.prepare_access.new.tree c.prepare_access.ensures.tree c.prepare_access.ensures.nodes c.prepare_access.ensures.walk)

pub returns-in-EndProtector-clause-kept : goal.returns-in-EndProtector-clause-kept
returns-in-EndProtector-clause-kept c =
    after-any _ (KeepsReady c.args.tree.now c.prepare_end.new.tree) (grown c.args.tree.now c.prepare_end.new.tree c.prepare_end.ensures.tree c.prepare_end.ensures.nodes c.prepare_end.ensures.walk)

pub returns-in-FreeAll-clause-kept : goal.returns-in-FreeAll-clause-kept
returns-in-FreeAll-clause-kept c =
    let t = c.args.tree.now in
    let u = c.reserve_walk.new.self in
    let nodes : u.nodes ≡ t.nodes = ap (λ (s : Shape). s.nodes) c.reserve_walk.ensures.tree in
    let spare : u.spare ≡ t.spare = ap (λ (s : Shape). s.spare) c.reserve_walk.ensures.tree in
    after-any _ (KeepsReady t u)
    (ready-same t u (ap (λ (s : Shape). s.size) c.reserve_walk.ensures.tree) nodes
    (walk-made c.reserve_walk.result t u nodes c.reserve_walk.ensures.marks c.reserve_walk.ensures.list c.reserve_walk.ensures.err c.reserve_walk.ensures.grows)
    (omega (arith, spare)) (ap (λ (s : Shape). s.ready) c.reserve_walk.ensures.tree))
