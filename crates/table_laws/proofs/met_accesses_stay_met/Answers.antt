use Rattle.perm_table.specs.Table.{is_protected}
use Rattle.table_laws.proofs.ForeignLemmas.{met-stays}
use Rattle.table_laws.proofs.met_accesses_stay_met.Goals as goal

pub returns : goal.returns
returns c = λ perm next accessed after guard later kind further. met-stays perm next accessed after (is_protected guard) (is_protected later) kind further
