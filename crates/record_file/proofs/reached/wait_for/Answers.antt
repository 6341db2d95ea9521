use Rattle.record_file.proofs.Waiting.{wait_main, wait_other}
use Rattle.record_file.proofs.reached.wait_for.Goals as goal

pub loop-child-preserved-in-Continue-1 : goal.loop-child-preserved-in-Continue-1
loop-child-preserved-in-Continue-1 c =
    wait_other c.args.waiting.now.items c.loop-child.yielded c.loop-child.waiting.items c.push.new.self.items c.in-Some.child c.loop-child.invariant c.if-child-ne0.true c.in_ok-push.ensures.items

pub loop-child-preserved : goal.loop-child-preserved
loop-child-preserved c =
    wait_main c.args.waiting.now.items c.loop-child.yielded c.loop-child.waiting.items c.in-Some.child c.loop-child.invariant c.if-child-ne0.false
