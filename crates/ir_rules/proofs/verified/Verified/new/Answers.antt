use Rattle.ir_rules.proofs.verified.Verified.new.Goals as goal

pub invariant_of-result : goal.invariant_of-result
invariant_of-result c = record {
  is_program = c.requires.program;
  few_hosts = c.requires.few_hosts;
  accepted = c.requires.accepted;
  function_number = c.function_count-functions.ensures;
  instruction_number = c.program_instructions-instructions.ensures;
}
