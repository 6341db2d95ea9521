use Rattle.std.proofs.Common.{arith, ◌∙◌}
use Rattle.eager_tree.proofs.Applied.{done-none, done-more, idle-more, done-all}
use Rattle.eager_tree.proofs.sweep.Sweep.apply.Goals as goal
use Rattle.eager_tree.proofs.sweep.Sweep.apply.Goals.{in-Some, in_default}

pub loop-offset-init : goal.loop-offset-init
loop-offset-init c = done-none c.args.self c.args.tag c.args.nodes.now

pub loop-offset-preserved : goal.loop-offset-preserved
loop-offset-preserved c =
    elim c.match-kind_at.branch [
      | in-Some w ↦
          done-more c.args.self c.args.tag c.loop-offset.offset w.in-Some.kind c.args.nodes.now c.loop-offset.nodes c.match-kind_at.nodes c.loop-offset.invariant w.in-Some.ensures (w.nodes-is ∙ w.apply_at.ensures)
      | in_default w ↦
          idle-more c.args.self c.args.tag c.loop-offset.offset c.args.size c.args.nodes.now c.loop-offset.nodes c.match-kind_at.nodes c.requires c.loop-offset.invariant w.in_default.ensures w.nodes-is
    ]

pub returns : goal.returns
returns c =
    c.loop-offset.invariant ∙ done-all c.args.self c.args.tag c.loop-offset.offset c.args.size c.args.nodes.now c.requires (omega arith)
