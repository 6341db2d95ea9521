use Rattle.std.proofs.Common.{refl, ap, arith}
use Rattle.dated_tree.specs.Shape.{Shape, counted}
use Rattle.dated_access.proofs.WholeLemmas.{others-distinct, others-uniform, accessed, spare-after}
use Rattle.dated_access.proofs.StepLemmas.{counted-visits}
use Rattle.dated_access.proofs.piece.meet.Goals as goal

pub meet_of_others-requires-clause-distinct : goal.meet_of_others-requires-clause-distinct
meet_of_others-requires-clause-distinct c = others-distinct c.args.tree.now c.meet_on_path.new.tree c.args.others.now c.meet_on_path.ensures.changed.count c.requires.others.distinct

pub meet_of_others-requires-clause-uniform : goal.meet_of_others-requires-clause-uniform
meet_of_others-requires-clause-uniform c =
    others-uniform c.args.tree.now c.meet_on_path.new.tree c.args.x c.args.path.now c.args.others.now c.args.kind c.args.span c.requires.bytes c.requires.path c.requires.others c.meet_on_path.ensures.changed c.requires.off_path

pub returns-clause-accessed : goal.returns-clause-accessed
returns-clause-accessed c =
    accessed c.args.tree.now c.meet_on_path.new.tree c.meet_of_others.new.tree c.date.new.self c.args.x c.args.path.now c.args.others.now c.args.kind c.args.span c.soundness.ensures c.requires.within c.requires.actor c.requires.path c.requires.others
    c.meet_on_path.ensures.tree c.meet_on_path.ensures.changed c.meet_of_others.ensures.tree c.meet_of_others.ensures.changed c.date.ensures.tree c.date.ensures.read c.date.ensures.written

pub returns-clause-visits : goal.returns-clause-visits
returns-clause-visits c =
    let dated = counted-visits c.meet_of_others.new.tree (counted c.meet_of_others.new.tree) refl in
    omega (arith, c.meet_on_path.ensures.visits, c.meet_of_others.ensures.visits, dated, ap (λ (t : Shape). t.visits) c.date.ensures.tree)

pub returns-clause-spare : goal.returns-clause-spare
returns-clause-spare c = λ place.
    spare-after c.args.tree.now c.meet_on_path.new.tree c.meet_of_others.new.tree c.date.new.self c.args.x c.args.path.now c.args.others.now c.args.kind c.args.span c.requires.path c.requires.others
    c.meet_on_path.ensures.changed c.meet_of_others.ensures.changed (ap (λ (t : Shape). t.nodes) c.date.ensures.tree) place
