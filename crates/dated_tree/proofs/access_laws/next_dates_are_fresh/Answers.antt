use Rattle.dated_tree.proofs.WholeLemmas.{next-fresh}
use Rattle.dated_tree.proofs.access_laws.next_dates_are_fresh.Goals as goal

pub returns : goal.returns
returns c = next-fresh
