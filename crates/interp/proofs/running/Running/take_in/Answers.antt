use Rattle.interp.proofs.Closing.{takes_child, child_out}
use Rattle.interp.proofs.running.Running.take_in.Goals as goal

pub returns-clause-on : goal.returns-clause-on
returns-clause-on g c = takes_child g.T.Thread.setting g.T.Thread.state c.args.space.now c.args.self.now c.args.begun.now.value c.requires.begun c.args.desk c.args.tree c.requires.answer c.join.new.desk c.push_reserved.new.self c.join.ensures c.push_reserved.ensures.items c.push_reserved.ensures.len c.push_reserved.ensures.capacity

pub join-requires-clause-out : goal.join-requires-clause-out
join-requires-clause-out g c = child_out g.T.Thread.setting g.T.Thread.state c.args.space.now c.args.self.now c.args.begun.now.value c.requires.begun c.args.desk c.args.tree c.requires.answer
