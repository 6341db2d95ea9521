use Rattle.std.proofs.Common.{length, refl}
use Rattle.ir_reader.proofs.Verdicts.{read_is}
use Rattle.ir_reader.proofs.Outcomes.{rest_shorter, refused_as}
use Rattle.ir_reader.proofs.texts.read_tokens.Goals as goal

pub front_of-requires : goal.front_of-requires
front_of-requires c = rest_shorter c.args.text.now c.args.tokens.now c.in-Err-At.rest.now c.in-Err-At.cause (rw c.in-Err-At.field-0-is at c.in-Err-At.ensures)

pub returns-in-Ok-clause-program : goal.returns-in-Ok-clause-program
returns-in-Ok-clause-program c = read_is c.args.text.now c.args.tokens.now (c.in-Ok.version, c.in-Ok.functions) c.requires.small c.requires.lexed c.in-Ok.ensures

pub returns-in-Err-At-clause-refused : goal.returns-in-Err-At-clause-refused
returns-in-Err-At-clause-refused c =
    refused_as c.args.text.now c.args.tokens.now c.front_of.result.now c.in-Err-At.rest.now c.in-Err-At.cause c.fault_at.result (length c.args.text.now) c.requires.small c.requires.lexed
    (rw c.in-Err-At.field-0-is at c.in-Err-At.ensures) c.front_of.ensures refl c.fault_at.ensures
