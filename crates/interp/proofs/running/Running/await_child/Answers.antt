use Rattle.std.proofs.Common.{◌∙◌}
use Rattle.interp.specs.Desks.{running}
use Rattle.interp.proofs.Joining.{element, place_within, joined_root}
use Rattle.interp.proofs.running.Running.await_child.Goals as goal

pub known_end-requires : goal.known_end-requires
known_end-requires g c =
    let kids = c.args.self.now.kids in
    let at = c.in-Some.ensures.some in
    let d = element kids.items c.in-Some.at (place_within kids c.in-Some.at at.0) in
    let root = c.join_kid.ensures.root d in
    (root.0, root.1, root.2 ∙ at.1 d)

pub known_end-requires-in-None : goal.known_end-requires-in-None
known_end-requires-in-None g c = joined_root g.T.Thread.setting g.T.Thread.state c.args.space.now c.args.self.now c.args.child c.requires.asks c.requires.on c.in-None.ensures.none

pub returns-in-Some-clause-on : goal.returns-in-Some-clause-on
returns-in-Some-clause-on g c = record { going = c.join_kid.ensures.going running c.requires.on.going; ready = c.join_kid.ensures.ready c.requires.on.ready }
