use Rattle.explain.specs.Text.{explained_lines}
use Rattle.report.proofs.Lines.{lines_more}
use Rattle.std.proofs.Common.{refl}
use Rattle.explain.proofs.text.all_lines.Goals as goal

pub loop-explained-preserved : goal.loop-explained-preserved
loop-explained-preserved c =
    lines_more explained_lines c.args.list.now c.loop-explained.explained-index c.explained-item.result
    c.loop-explained.lines.items (explained_lines c.explained-item.result) c.push_explained.new.lines.items _
    c.loop-explained-test.true c.explained-item.is c.loop-explained.invariant refl c.in_ok-push_explained.ensures
