use Rattle.record_text.proofs.Beginnings.{one_record, no_fault, one_fault}
use Rattle.record_text.proofs.laws.reading_is_one.Goals as goal

pub returns-clause-told : goal.returns-clause-told
returns-clause-told c = one_record

pub returns-clause-refused : goal.returns-clause-refused
returns-clause-refused c = no_fault

pub returns-clause-first : goal.returns-clause-first
returns-clause-first c = one_fault
