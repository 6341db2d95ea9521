use Rattle.dated_tree.proofs.WholeLemmas.{path-or-guard}
use Rattle.dated_tree.proofs.access_laws.others_deny_nothing.Goals as goal

pub returns : goal.returns
returns c = path-or-guard
