use Rattle.ir_ast.proofs.Limits.{keeps_limits}
use Rattle.ir_rules.proofs.verified.Verified.program.Goals as goal

pub returns-clause-limits : goal.returns-clause-limits
returns-clause-limits c = keeps_limits c.args.self.now.program c.args.self.now.is_program
