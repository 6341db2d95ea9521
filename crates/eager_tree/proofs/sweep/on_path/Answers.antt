use Rattle.std.proofs.Common.{◌≡◌, ◌-◌, ◌+◌, suc, ◌∙◌, length, arith, sym}
use Rattle.eager_tree.specs.Tree.{links}
use Rattle.eager_tree.proofs.Paths.{leads_to-up}
use Rattle.eager_tree.proofs.sweep.on_path.Goals as goal

pub loop-preserved : goal.loop-preserved
loop-preserved c =
    let n = length c.args.nodes.now in
    let some : n - c.loop.counter ≡ suc (n - (c.loop.counter + 1)) = omega arith in
    c.loop.invariant ∙ leads_to-up _ _ (links c.args.nodes.now) c.loop.at c.args.above c.in-Some.parent some (sym c.if-eq.ensures) (sym c.in-Some.ensures)
