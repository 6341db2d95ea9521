use Rattle.std.proofs.Common.{arith}
use Rattle.dated_access.specs.Change.{AfterForeign}
use Rattle.dated_access.proofs.ChangeLemmas.{changed-more}
use Rattle.dated_access.proofs.StepLemmas.{counted-visits, tree-more, at-place, foreign-after}
use Rattle.dated_access.proofs.change.meet_of_others.Goals as goal

pub loop-place-preserved : goal.loop-place-preserved
loop-place-preserved c =
    let here = at-place (AfterForeign c.args.tree.now c.args.kind) c.args.tree.now c.loop-place.tree c.read_slot-slot.new.self c.args.others.now c.loop-place.place-index c.args.span c.read_slot-slot.result
    c.loop-place.invariant.tree c.read_slot-slot.ensures.tree c.requires.distinct c.loop-place-test.true c.loop-place.invariant.changed c.read_slot-slot.ensures.slot in
    record {
      tree = tree-more c.args.tree.now c.loop-place.tree c.read_slot-slot.new.self c.put_new.new.tree c.loop-place.invariant.tree c.read_slot-slot.ensures.tree c.put_new.ensures.tree;
      changed = changed-more (AfterForeign c.args.tree.now c.args.kind) c.args.tree.now c.read_slot-slot.new.self c.put_new.new.tree c.args.others.now c.loop-place.place-index c.args.span c.after_foreign-next.result
          c.requires.distinct c.loop-place-test.true here.changed here.size c.put_new.ensures.put
          (foreign-after (AfterForeign c.args.tree.now c.args.kind) c.args.tree.now c.read_slot-slot.new.self c.args.others.now c.loop-place.place-index c.args.span c.read_slot-slot.result c.after_foreign-next.result c.args.kind c.guard.result here c.requires.uniform c.loop-place-test.true c.guard.ensures c.after_foreign-next.ensures);
      visits = omega (arith, c.loop-place.invariant.visits, counted-visits c.loop-place.tree c.read_slot-slot.new.self c.read_slot-slot.ensures.tree, c.put_new.ensures.visits);
    }
