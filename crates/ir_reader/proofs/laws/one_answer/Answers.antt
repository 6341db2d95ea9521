use Rattle.ir_reader.proofs.Verdicts.{some_answer, one_program, one_refusal, not_both}
use Rattle.ir_reader.proofs.laws.one_answer.Goals as goal

pub returns-clause-some : goal.returns-clause-some
returns-clause-some c = some_answer

pub returns-clause-one_program : goal.returns-clause-one_program
returns-clause-one_program c = one_program

pub returns-clause-one_refusal : goal.returns-clause-one_refusal
returns-clause-one_refusal c = one_refusal

pub returns-clause-not_both : goal.returns-clause-not_both
returns-clause-not_both c = not_both
