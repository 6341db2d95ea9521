use Rattle.dated_access.proofs.PieceLemmas.{up-to-more}
use Rattle.dated_access.proofs.pieces.run_end.Goals as goal

pub loop-place-preserved : goal.loop-place-preserved
loop-place-preserved c = record {
  runs = up-to-more c.args.tree.now c.args.places.now c.loop-place.place-index c.args.at c.args.end c.loop-place.next c.run_end.result c.min-next.result c.loop-place-test.true c.requires.within
      c.loop-place.invariant.runs c.run_end.ensures.next c.run_end.ensures.after c.run_end.ensures.within c.run_end.ensures.uniform c.min-next.ensures;
}
