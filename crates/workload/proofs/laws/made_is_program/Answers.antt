use Rattle.workload.proofs.Grammar.{shaped, writable, limits}
use Rattle.workload.specs.Made.{made}
use Rattle.workload.proofs.laws.made_is_program.Goals as goal

pub returns-clause-program : goal.returns-clause-program
returns-clause-program c = λ seed size small. c.given_by_parts.ensures (made seed size) (shaped seed size) (writable seed size) (limits seed size small)

pub returns-clause-limits : goal.returns-clause-limits
returns-clause-limits c = limits
