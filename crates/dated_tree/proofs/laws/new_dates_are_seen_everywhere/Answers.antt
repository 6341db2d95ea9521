use Rattle.dated_tree.proofs.SeenLemmas.{seen-dated, cell-dated}
use Rattle.dated_tree.proofs.laws.new_dates_are_seen_everywhere.Goals as goal

pub returns-clause-seen : goal.returns-clause-seen
returns-clause-seen c = seen-dated

pub returns-clause-cell : goal.returns-clause-cell
returns-clause-cell c = cell-dated
