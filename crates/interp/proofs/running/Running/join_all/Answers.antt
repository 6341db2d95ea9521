use Rattle.interp.proofs.Joining.{ended_joined, same_on}
use Rattle.interp.proofs.running.Running.join_all.Goals as goal

pub loop-self-preserved : goal.loop-self-preserved
loop-self-preserved g c =
    let same = c.join_kid.ensures.same in
    let before = c.loop-self.invariant in (
      ended_joined g.T.Thread.setting g.T.Thread.state c.args.space.now c.args.why c.loop-self.self c.join_kid.new.self before.0 c.join_kid.ensures.going c.join_kid.ensures.machine same.function c.join_kid.ensures.below,
      same_on c.args.self.now c.loop-self.self c.join_kid.new.self before.1 same,
    )
