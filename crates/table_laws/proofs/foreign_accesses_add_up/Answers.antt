use Rattle.table_laws.proofs.ForeignLemmas.{after_all-sum}
use Rattle.table_laws.proofs.foreign_accesses_add_up.Goals as goal

pub returns-clause-all : goal.returns-clause-all
returns-clause-all c = after_all-sum
