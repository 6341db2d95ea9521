use Rattle.std.proofs.Common.{◌∙◌, sym, arith}
use Rattle.dated_access.specs.Denial.{refuses_local}
use Rattle.dated_access.proofs.DenialLemmas.{visits-more, none-more, seen-next, at-entry, found-local}
use Rattle.dated_access.proofs.StepLemmas.{counted-visits}
use Rattle.dated_access.proofs.denial.denial_on_path.Goals as goal

pub loop-place-preserved : goal.loop-place-preserved
loop-place-preserved c =
    let here = at-entry c.args.tree.now c.loop-place.tree c.read_slot-slot.new.self c.args.tree.now.size c.args.at c.loop-place.place-index c.args.kind c.args.path.now c.ends.result.now c.guard.result c.read_slot-slot.result c.loop-place.seen c.below-seen.result c.denies_local.result
    c.loop-place.invariant.tree c.read_slot-slot.ensures.tree c.soundness.ensures.nodes c.requires.way c.loop-place-test.true c.loop-place.invariant.seen c.read_slot-slot.ensures.slot c.ends.ensures c.guard.ensures c.below-seen.ensures c.denies_local.ensures in
    record {
      tree = visits-more c.args.tree.now c.loop-place.tree c.read_slot-slot.new.self c.loop-place.invariant.tree c.read_slot-slot.ensures.tree;
      seen = seen-next c.args.tree.now c.args.tree.now.size c.args.at c.loop-place.place-index c.args.path.now c.below-seen.result here.seen_is;
      none = none-more (refuses_local c.args.tree.now c.args.kind c.args.at) c.args.path.now c.loop-place.place-index c.loop-place.invariant.none (sym here.refused ∙ c.if-denies_local.false);
      visits = omega (arith, c.loop-place.invariant.visits, counted-visits c.loop-place.tree c.read_slot-slot.new.self c.read_slot-slot.ensures.tree);
    }

pub returns-then-denies_local-clause-found : goal.returns-then-denies_local-clause-found
returns-then-denies_local-clause-found c =
    let here = at-entry c.args.tree.now c.loop-place.tree c.read_slot-slot.new.self c.args.tree.now.size c.args.at c.loop-place.place-index c.args.kind c.args.path.now c.ends.result.now c.guard.result c.read_slot-slot.result c.loop-place.seen c.below-seen.result c.denies_local.result
    c.loop-place.invariant.tree c.read_slot-slot.ensures.tree c.soundness.ensures.nodes c.requires.way c.loop-place-test.true c.loop-place.invariant.seen c.read_slot-slot.ensures.slot c.ends.ensures c.guard.ensures c.below-seen.ensures c.denies_local.ensures in
    found-local c.args.tree.now c.args.kind c.args.at c.loop-place.place-index c.args.path.now c.read_slot-slot.result c.below-seen.result c.denies_local.result c.perm_by.result c.loop-place-test.true c.loop-place.invariant.none here c.if-denies_local.true c.perm_by.ensures
