use Rattle.ir_reader.proofs.WholeParts.{all_read, only_read, refuses, is_told}
use Rattle.ir_reader.proofs.laws.reads_programs.Goals as goal

pub returns-clause-sound : goal.returns-clause-sound
returns-clause-sound c = all_read

pub returns-clause-complete : goal.returns-clause-complete
returns-clause-complete c = only_read

pub returns-clause-right : goal.returns-clause-right
returns-clause-right c = refuses

pub returns-clause-one_refusal : goal.returns-clause-one_refusal
returns-clause-one_refusal c = λ ts cause rest r. is_told cause ts rest r
