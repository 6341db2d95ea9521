use Rattle.std.proofs.Common.{sym, subst}
use Rattle.ir_ast.specs.declared.hosts.HostTable.{HostTable}
use Rattle.ir_ast.specs.declared.program.Program.{Program}
use Rattle.instrument.specs.Names.{IsNumbered}
use Rattle.ir_rules.specs.Rules.{IsAccepted}
use Rattle.instrument.proofs.Accepted.{accepted_numbered}
use Rattle.instrument.proofs.Answered.{answer_formed}
use Rattle.instrument.proofs.pass.instrument.Goals as goal

pub translate-requires : goal.translate-requires
translate-requires c =
    let v = c.args.program.now in
    let numbered : IsNumbered v.hosts.entries v.program = accepted_numbered v.program v.hosts v.accepted v.is_program v.few_hosts in
    subst (λ (z : Program). IsNumbered c.hosts.result.now.entries z) (sym c.program.ensures.value)
    (subst (λ (z : HostTable). IsNumbered z.entries v.program) (sym c.hosts.ensures.value) numbered)

pub returns-clause-formed : goal.returns-clause-formed
returns-clause-formed c =
    let p : Program = c.program.result.now in
    let hosts : HostTable = c.hosts.result.now in
    answer_formed p hosts c.translate.result c.program.ensures.is_program (subst (IsAccepted p) (sym c.hosts.ensures.value) c.program.ensures.accepted) c.translate.ensures
