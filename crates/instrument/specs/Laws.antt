-- What holds of every translation.
use Rattle.ir_ast.specs.declared.hosts.HostTable.{HostTable}
use Rattle.ir_ast.specs.declared.program.Program.{Program}
use Rattle.ir_ast.specs.Programs.{IsProgram}
use Rattle.ir_rules.specs.Rules.{IsAccepted}
use Rattle.target_code.specs.Formed.{IsWellFormed}
use Rattle.instrument.specs.Translation.{translation}

-- the translation of an accepted program is well formed
abbrev pub IsFormed : Type 0
IsFormed = (p : Program) (hosts : HostTable) → IsProgram p → IsAccepted p hosts → IsWellFormed (translation hosts.entries p)
