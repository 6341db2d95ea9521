-- What a refusal reports.
use Rattle.ir_ast.specs.declared.program.Program.{Program}
use Rattle.ir_ast.specs.declared.hosts.HostTable.{HostTable}
use Rattle.ir_rules.specs.Least.{fault}
use Rattle.ir_rules.specs.Rules.{IsFirstBroken}
use Rattle.ir_verify.specs.declared.refusal.VerifyFault.{VerifyFault}
use Rattle.ir_verify.specs.declared.refusal.VerifyFault.TheVariants.{Refused, NoMemory}

-- the rule is broken there, no rule at a lesser place, and at this place none that comes before it in the order of the rules
abbrev pub IsRefusal : Program → HostTable → VerifyFault → Type 0
IsRefusal p hosts (Refused rule at) = IsFirstBroken p hosts (fault rule at)
IsRefusal p hosts NoMemory = Unit {0}
