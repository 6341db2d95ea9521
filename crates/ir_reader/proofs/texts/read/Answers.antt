use Rattle.ir_reader.proofs.Outcomes.{gives_program, gives_limits, gives_only}
use Rattle.ir_reader.specs.declared.fault.ReadFault.TheVariants.{BadByte}
use Rattle.ir_reader.proofs.Verdicts.{not_both}
use Rattle.ir_reader.proofs.texts.read.Goals as goal

pub returns-in-Ok-clause-is_program : goal.returns-in-Ok-clause-is_program
returns-in-Ok-clause-is_program c = gives_program c.args.text.now c.read_tokens.result c.read_tokens.ensures.program

pub returns-in-Ok-clause-keeps_limits : goal.returns-in-Ok-clause-keeps_limits
returns-in-Ok-clause-keeps_limits c = gives_limits c.args.text.now c.read_tokens.result c.read_tokens.ensures.program

pub returns-in-Ok-clause-only : goal.returns-in-Ok-clause-only
returns-in-Ok-clause-only c = gives_only c.args.text.now c.read_tokens.result c.read_tokens.ensures.program c.read_tokens.ensures.refused

pub returns-in-Err-BadByte-clause-only : goal.returns-in-Err-BadByte-clause-only
returns-in-Err-BadByte-clause-only c =
    λ p is. absurd (not_both c.args.text.now p (BadByte c.in-Err-BadByte.at) is (c.if-text-gt-MOST_BYTES.false, rw c.in-Err-BadByte.field-0-is at c.in-Err-BadByte.ensures.bad))
