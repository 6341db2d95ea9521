use Rattle.dated_access.proofs.DeniedLemmas.{least-in}
use Rattle.dated_access.proofs.denied.denial_at.Goals as goal

pub returns-clause-found : goal.returns-clause-found
returns-clause-found c =
    least-in c.args.tree.now c.args.x c.args.at c.args.kind c.args.path.now c.args.others.now c.denial_on_path-local.result c.denial_of_others-foreign.result c.lesser.result c.denial_on_path-local.new.tree
    c.requires.sound c.requires.within c.requires.path c.requires.others c.denial_on_path-local.ensures.tree c.denial_on_path-local.ensures.found c.denial_of_others-foreign.ensures.found c.lesser.ensures
