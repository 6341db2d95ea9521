use Rattle.suppress.proofs.Reading.{one_reading, one_list}
use Rattle.suppress.proofs.Refusing.{no_rules, one_refusal}
use Rattle.suppress.proofs.laws.reading_is_one.Goals as goal

pub returns-clause-lines : goal.returns-clause-lines
returns-clause-lines c = one_reading

pub returns-clause-files : goal.returns-clause-files
returns-clause-files c = one_list

pub returns-clause-refused : goal.returns-clause-refused
returns-clause-refused c = no_rules

pub returns-clause-first : goal.returns-clause-first
returns-clause-first c = one_refusal
