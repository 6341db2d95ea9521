use Rattle.std.proofs.Common.{sym, ap, ◌∙◌}
use Rattle.std.specs.Option.{option_and_then}
use Rattle.eager_tree.specs.Tree.{links}
use Rattle.eager_tree.specs.Visit.{denial_at, denial_by, first_in}
use Rattle.eager_tree.specs.Sweeps.{kinds_of, reaches_of}
use Rattle.eager_tree.proofs.Nodes.{first_below-found}
use Rattle.eager_tree.proofs.sweep.Sweep.denial.Goals as goal

pub returns-in-Some-denial_for_kind : goal.returns-in-Some-denial_for_kind
returns-in-Some-denial_for_kind c =
    let nodes = c.args.nodes.now in
    let by = denial_at (kinds_of c.args.self nodes c.args.tag) (reaches_of c.args.self (links nodes) c.args.tag) (links nodes) c.args.tag nodes in
    let here = ap (option_and_then (λ kind. first_in (denial_by (reaches_of c.args.self (links nodes) c.args.tag) (links nodes) c.args.tag kind c.loop-offset.offset) nodes)) (sym c.in-Some.ensures) in
    sym (first_below-found by c.loop-offset.offset c.args.size c.in-Some-denial_for_kind.violation c.loop-offset-test.true c.loop-offset.invariant (here ∙ sym c.in-Some-denial_for_kind.ensures))
