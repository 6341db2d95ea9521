use Rattle.eager_tree.proofs.Applied.{reached-more, spared-more}
use Rattle.eager_tree.proofs.sweep.Sweep.apply_at.Goals as goal
use Rattle.eager_tree.proofs.sweep.Sweep.apply_at.Goals.{then-reaches, else-reaches}

pub loop-i-preserved : goal.loop-i-preserved
loop-i-preserved c =
    let node = c.index-nodes-i.result in
    let is = c.index-nodes-i.is in
    elim c.if-reaches.branch [
      | then-reaches w ↦
          reached-more c.args.self c.args.tag c.args.offset c.loop-i.i c.args.kind c.args.nodes.now c.loop-i.nodes c.if-reaches.nodes node w.index-nodes-i-then-reaches.result w.apply.new.self w.on_path-local.result c.loop-i-test.true c.loop-i.invariant is w.index-nodes-i-then-reaches.is
          (rw (← is) at w.if-reaches.ensures) (rw (← is) at w.on_path-local.ensures) w.apply.ensures w.nodes-is
      | else-reaches w ↦
          spared-more c.args.self c.args.tag c.args.offset c.loop-i.i c.args.kind c.args.nodes.now c.loop-i.nodes c.if-reaches.nodes node c.loop-i-test.true c.loop-i.invariant is
          (rw (← is) at w.if-reaches.ensures) w.nodes-is
    ]
