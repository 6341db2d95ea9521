-- What the pass answers is well formed.
use Rattle.std.proofs.Common.{◌≡◌, Result, Ok, Err, sym, subst}
use Rattle.std.specs.Prelude.{IfOk}
use Rattle.bsan_ids.specs.declared.numbers.NoMemory.{NoMemory}
use Rattle.ir_ast.specs.Programs.{IsProgram}
use Rattle.ir_ast.specs.declared.hosts.HostTable.{HostTable}
use Rattle.ir_ast.specs.declared.program.Program.{Program}
use Rattle.ir_rules.specs.Rules.{IsAccepted}
use Rattle.target_code.specs.Formed.{IsWellFormed}
use Rattle.target_code.specs.declared.line.Target.{Target}
use Rattle.instrument.specs.Translation.{translation}
use Rattle.instrument.proofs.Accepted.{accepted_known}
use Rattle.instrument.proofs.Whole.{formed}

pub accepted_formed : (p : Program) (hosts : HostTable) → IsProgram p → IsAccepted p hosts → IsWellFormed (translation hosts.entries p)
accepted_formed p hosts program ok = formed hosts.entries p program.shaped.version (accepted_known p hosts ok program)

pub answer_formed : (p : Program) (hosts : HostTable) (r : Result Target NoMemory) → IsProgram p → IsAccepted p hosts → IfOk r (λ t. t ≡ translation hosts.entries p) → IfOk r IsWellFormed
answer_formed p hosts (Ok t) program ok is = subst IsWellFormed (sym is) (accepted_formed p hosts program ok)
answer_formed p hosts (Err e) program ok is = tt
