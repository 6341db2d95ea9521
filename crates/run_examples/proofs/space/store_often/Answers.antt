use Rattle.alloc_space.proofs.Trying.{same_after, room_after}
use Rattle.run_examples.proofs.space.store_often.Goals as goal

pub loop-site-preserved : goal.loop-site-preserved
loop-site-preserved g c = (
  same_after c.args.space.now.limits c.args.thread c.loop-site.site (record { 0 = 1 }) c.store.result c.args.desk c.loop-site.desk c.step.new.desk c.step.result c.step.ensures c.loop-site.invariant.0,
  room_after c.args.space.now.limits c.args.thread c.loop-site.site (record { 0 = 1 }) c.store.result c.args.desk c.loop-site.desk c.step.new.desk c.step.result c.in-Done.field-0 c.in-Done.is c.step.ensures c.loop-site.invariant.1,
)
