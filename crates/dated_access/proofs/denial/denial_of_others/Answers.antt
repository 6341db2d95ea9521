use Rattle.std.proofs.Common.{ap, ◌∙◌, sym, arith}
use Rattle.dated_tree.specs.Shape.{node_at, slot_at}
use Rattle.dated_access.specs.Path.{entry}
use Rattle.dated_access.specs.Denial.{refuses_foreign}
use Rattle.dated_access.proofs.DenialLemmas.{visits-more, nodes-of, none-more, refused-foreign}
use Rattle.dated_access.proofs.StepLemmas.{counted-visits}
use Rattle.dated_access.proofs.denial.denial_of_others.Goals as goal

pub loop-place-preserved : goal.loop-place-preserved
loop-place-preserved c =
    let same = visits-more c.args.tree.now c.loop-place.tree c.read_slot-slot.new.self c.loop-place.invariant.tree c.read_slot-slot.ensures.tree in
    record {
      tree = same;
      none = none-more (refuses_foreign c.args.tree.now c.args.kind c.args.at) c.args.others.now c.loop-place.place-index c.loop-place.invariant.none
          (sym (refused-foreign c.args.tree.now c.args.kind c.args.at (entry c.args.others.now c.loop-place.place-index) c.guard.result c.read_slot-slot.result c.denies_foreign.result
          (c.read_slot-slot.ensures.slot ∙ ap (λ ns. slot_at ns (entry c.args.others.now c.loop-place.place-index) c.args.at) (nodes-of c.args.tree.now c.loop-place.tree c.loop-place.invariant.tree))
          (c.guard.ensures ∙ ap (λ ns. (node_at ns (entry c.args.others.now c.loop-place.place-index)).guard) (nodes-of c.args.tree.now c.read_slot-slot.new.self same))
          c.denies_foreign.ensures)
          ∙ c.if-denies_foreign.false);
      visits = omega (arith, c.loop-place.invariant.visits, counted-visits c.loop-place.tree c.read_slot-slot.new.self c.read_slot-slot.ensures.tree);
    }
