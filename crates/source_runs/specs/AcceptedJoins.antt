-- What joins need follows from the verifier's rules.
use Rattle.ir_ast.specs.declared.hosts.HostTable.{HostTable}
use Rattle.ir_ast.specs.declared.program.Program.{Program}
use Rattle.ir_ast.specs.Programs.{IsProgram}
use Rattle.ir_rules.specs.Rules.{IsAccepted}
use Rattle.source_sem.specs.Joining.{JoinsAccepted}

abbrev pub AcceptedProgramsJoin : Type 0
AcceptedProgramsJoin = (p : Program) (hosts : HostTable) → IsProgram p → IsAccepted p hosts → JoinsAccepted p
