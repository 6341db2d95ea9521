use Rattle.std.proofs.Common.{◌≡◌, length, subst, arith}
use Rattle.dated_access.specs.Change.{AfterLocal, HasChanged}
use Rattle.dated_access.proofs.ChangeLemmas.{changed-more, way-distinct}
use Rattle.dated_access.proofs.DenialLemmas.{seen-next}
use Rattle.dated_access.proofs.StepLemmas.{counted-visits, tree-more, at-place, put-room, put-slots, seen-here, local-after}
use Rattle.dated_access.proofs.change.meet_on_path.Goals as goal

pub put_new-requires-clause-room : goal.put_new-requires-clause-room
put_new-requires-clause-room c =
    let here = at-place (AfterLocal c.args.tree.now c.args.kind) c.args.tree.now c.loop-place.tree c.read_slot-slot.new.self c.args.path.now c.loop-place.place-index c.args.span c.read_slot-slot.result
    c.loop-place.invariant.tree c.read_slot-slot.ensures.tree (way-distinct c.args.tree.now.size c.args.tree.now c.args.path.now c.soundness.ensures.nodes c.requires.way) c.loop-place-test.true c.loop-place.invariant.changed c.read_slot-slot.ensures.slot in
    put-room (AfterLocal c.args.tree.now c.args.kind) c.args.tree.now c.read_slot-slot.new.self c.args.path.now c.loop-place.place-index c.args.span c.read_slot-slot.result here c.requires.uniform c.loop-place-test.true

pub put_new-requires-clause-slots : goal.put_new-requires-clause-slots
put_new-requires-clause-slots c =
    let here = at-place (AfterLocal c.args.tree.now c.args.kind) c.args.tree.now c.loop-place.tree c.read_slot-slot.new.self c.args.path.now c.loop-place.place-index c.args.span c.read_slot-slot.result
    c.loop-place.invariant.tree c.read_slot-slot.ensures.tree (way-distinct c.args.tree.now.size c.args.tree.now c.args.path.now c.soundness.ensures.nodes c.requires.way) c.loop-place-test.true c.loop-place.invariant.changed c.read_slot-slot.ensures.slot in
    put-slots (AfterLocal c.args.tree.now c.args.kind) c.args.tree.now c.read_slot-slot.new.self c.args.path.now c.loop-place.place-index c.args.span c.read_slot-slot.result here c.requires.uniform c.loop-place-test.true

pub loop-place-preserved : goal.loop-place-preserved
loop-place-preserved c =
    let once = way-distinct c.args.tree.now.size c.args.tree.now c.args.path.now c.soundness.ensures.nodes c.requires.way in
    let here = at-place (AfterLocal c.args.tree.now c.args.kind) c.args.tree.now c.loop-place.tree c.read_slot-slot.new.self c.args.path.now c.loop-place.place-index c.args.span c.read_slot-slot.result
    c.loop-place.invariant.tree c.read_slot-slot.ensures.tree once c.loop-place-test.true c.loop-place.invariant.changed c.read_slot-slot.ensures.slot in
    let sees = seen-here (AfterLocal c.args.tree.now c.args.kind) c.args.tree.now c.read_slot-slot.new.self c.args.path.now c.loop-place.place-index c.args.span c.read_slot-slot.result c.ends.result.now c.loop-place.seen c.below-seen.result
    here c.soundness.ensures.nodes c.requires.way c.loop-place-test.true c.loop-place.invariant.seen c.ends.ensures c.below-seen.ensures in
    record {
      tree = tree-more c.args.tree.now c.loop-place.tree c.read_slot-slot.new.self c.put_new.new.tree c.loop-place.invariant.tree c.read_slot-slot.ensures.tree c.put_new.ensures.tree;
      seen = seen-next c.args.tree.now c.args.tree.now.size c.args.span.start c.loop-place.place-index c.args.path.now c.below-seen.result sees;
      changed = changed-more (AfterLocal c.args.tree.now c.args.kind) c.args.tree.now c.read_slot-slot.new.self c.put_new.new.tree c.args.path.now c.loop-place.place-index c.args.span c.after_local-next.result
          once c.loop-place-test.true here.changed here.size c.put_new.ensures.put
          (local-after (AfterLocal c.args.tree.now c.args.kind) c.args.tree.now c.read_slot-slot.new.self c.args.path.now c.loop-place.place-index c.args.span c.read_slot-slot.result c.after_local-next.result c.args.kind c.guard.result c.ends-in-loop-place.result.now c.clock-now.result c.below-seen.result
          here c.soundness.ensures.nodes c.requires.way c.requires.uniform c.requires.dates c.loop-place-test.true c.guard.ensures c.ends-in-loop-place.ensures c.clock-now.ensures sees c.after_local-next.ensures);
      visits = omega (arith, c.loop-place.invariant.visits, counted-visits c.loop-place.tree c.read_slot-slot.new.self c.read_slot-slot.ensures.tree, c.put_new.ensures.visits);
    }

pub returns-clause-changed : goal.returns-clause-changed
returns-clause-changed c =
    let all : c.loop-place.place-index ≡ length c.args.path.now = omega (arith, c.loop-place-test.false, c.loop-place.auto.place-index-end) in
    subst (λ n. HasChanged (AfterLocal c.args.tree.now c.args.kind) c.args.tree.now c.loop-place.tree c.args.path.now n c.args.span) all c.loop-place.invariant.changed

pub returns-clause-visits : goal.returns-clause-visits
returns-clause-visits c = omega (arith, c.loop-place.invariant.visits, c.loop-place.auto.place-index-end)
