use Rattle.std.proofs.Common.{arith}
use Rattle.lazy_access.proofs.Ending.{runs-step}
use Rattle.lazy_access.proofs.reserve.count_runs.Goals as goal

pub runs-preserved : goal.runs-preserved
runs-preserved c =
    let t = c.args.tree.now in
    let step = runs-step t.size t.nodes c.args.node c.runs.at c.run_end-at.result c.soundness_of.ensures c.run_end-at.ensures.after c.run_end-at.ensures.within c.run_end-at.ensures.next in
    record {
      within = c.run_end-at.ensures.within;
      few = omega (arith, c.runs.invariant.few, c.run_end-at.ensures.after);
      counted = omega (arith, c.runs.invariant.counted, step);
    }
