use Rattle.std.proofs.Common.{◌∙◌, sym, arith}
use Rattle.range_map.proofs.MergeLemmas.{compacts-same, compacts-more, not-true, not-false}
use Rattle.range_map.proofs.compact.Goals as goal
use Rattle.range_map.proofs.compact.Goals.{then-ne, else-ne}

pub loop-index-preserved : goal.loop-index-preserved
loop-index-preserved g c =
    elim c.if-ne.branch [
      | then-ne w ↦
          rw (w.later-is, w.kept-is, w.last-is)
          (compacts-more g.T.PartialEq.eq _ _ _ _ _ _ c.index-later-index.result c.loop-index.invariant (omega arith) (omega arith) c.index-later-index.is (not-true _ (sym c.ne.ensures ∙ w.if-ne.true)))
      | else-ne w ↦
          rw (w.later-is, w.kept-is, w.last-is)
          (compacts-same g.T.PartialEq.eq _ _ _ _ _ _ c.index-later-index.result c.loop-index.invariant (omega arith) (omega arith) c.index-later-index.is (not-false _ (sym c.ne.ensures ∙ w.if-ne.false)))
    ]
