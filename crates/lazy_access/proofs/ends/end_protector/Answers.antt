use Rattle.lazy_access.proofs.Accessing.{root-alone}
use Rattle.lazy_access.proofs.Ended.{end-none}
use Rattle.lazy_access.proofs.ends.end_protector.Goals as goal

pub returns-in-None-clause-answer : goal.returns-in-None-clause-answer
returns-in-None-clause-answer c =
    let t = c.args.tree.now in
    let empty = root-alone t.root t.size t.nodes c.args.tag c.requires.node (c.find.ensures.none c.in-None.is) in
    end-none t.root t.size t.nodes c.args.tag empty.0 empty.1
