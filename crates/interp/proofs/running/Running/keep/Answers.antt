use Rattle.interp.proofs.Closing.{keeps_child}
use Rattle.interp.proofs.running.Running.keep.Goals as goal

pub returns-clause-on : goal.returns-clause-on
returns-clause-on g c = keeps_child g.T.Thread.setting g.T.Thread.state c.args.space.now c.args.self.now c.args.begun.now.value c.requires.begun c.push_reserved.new.self _ c.push_reserved.ensures.items c.push_reserved.ensures.len c.requires.promise
