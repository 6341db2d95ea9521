use Rattle.std.proofs.Common.{ap, ◌∙◌}
use Rattle.std.specs.List.{sum_by}
use Rattle.ir_ast.specs.Programs.{function_instructions}
use Rattle.ir_rules.proofs.Limits.{few_instructions}
use Rattle.ir_rules.proofs.verified.program_instructions.Goals as goal

pub instruction_count-requires : goal.instruction_count-requires
instruction_count-requires c = few_instructions c.args.program.now c.as_slice-functions.result.now c.requires c.as_slice-functions.ensures

pub returns : goal.returns
returns c = c.instruction_count.ensures ∙ ap (sum_by function_instructions) c.as_slice-functions.ensures
