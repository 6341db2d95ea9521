use Rattle.std.proofs.Common.{ap}
use Rattle.dated_tree.specs.Shape.{Shape, node_at}
use Rattle.dated_access.proofs.ChangeLemmas.{put-changes}
use Rattle.dated_access.proofs.change.put_new.Goals as goal

pub returns-then-ne-clause-put : goal.returns-then-ne-clause-put
returns-then-ne-clause-put c =
    put-changes c.args.tree.now c.put.new.self c.args.place c.args.span c.args.next (node_at c.put.new.self.nodes c.args.place).runs c.soundness.ensures.nodes c.requires.some c.requires.stored c.requires.within
    (ap (λ (s : Shape). s.nodes) c.put.ensures.tree) c.put.ensures.bytes c.put.ensures.spare
