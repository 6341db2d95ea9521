use Rattle.std.proofs.Common.{◌≡◌, ℕ, sym, subst}
use Rattle.ir_ast.specs.Programs.{IsProgram}
use Rattle.ir_ast.specs.declared.hosts.HostTable.{HostTable}
use Rattle.ir_ast.specs.declared.program.Program.{Program}
use Rattle.ir_rules.specs.Rules.{IsAccepted}
use Rattle.ir_rules.specs.declared.rule.Rule.{Rule}
use Rattle.ir_verify.specs.Refusals.{IsRefusal}
use Rattle.ir_verify.specs.declared.refusal.VerifyFault.{VerifyFault}
use Rattle.ir_verify.specs.declared.refusal.VerifyFault.TheVariants.{Refused}
use Rattle.bsan.proofs.generated.generate.Goals as goal

-- an accepted program is not refused
not_refused : (program : Program) (hosts : HostTable) (f : VerifyFault) (rule : Rule) (at : ℕ) → f ≡ Refused rule at → IsRefusal program hosts f
    → IsAccepted program hosts → ⊥
not_refused program hosts f rule at is refusal accepted =
    let first : IsRefusal program hosts (Refused rule at) = subst (IsRefusal program hosts) is refusal in accepted rule at first.0

pub verify-requires-clause-program : goal.verify-requires-clause-program
verify-requires-clause-program g c =
    subst (λ (p : Program). IsProgram p) (sym c.in_ok-program.ensures)
    (c.made_is_program.ensures.program c.args.asked.now.seed c.args.asked.now.size c.requires.1)

pub unreachable-requires : goal.unreachable-requires
unreachable-requires g c =
    not_refused c.in_ok-program.program c.table.result.now c.in-Err-Refused.field-0 c.in-Err-Refused.field-0-0 c.in-Err-Refused.field-0-1
    c.in-Err-Refused.field-0-is c.in-Err-Refused.ensures.refused
    (subst (λ (p : Program). IsAccepted p c.table.result.now) (sym c.in_ok-program.ensures)
    (c.made_is_accepted.ensures c.args.asked.now.seed c.args.asked.now.size c.table.result.now))
