use Rattle.std.proofs.Common.{subst}
use Rattle.ir_ast.specs.declared.hosts.HostTable.{HostTable}
use Rattle.record_file.specs.Checked.{IsAnswer}
use Rattle.record_file.specs.declared.clauses.Checked.{Checked}
use Rattle.record_file.specs.declared.clauses.Checked.TheVariants.{Fails}
use Rattle.bsan.proofs.recheck.check_text.Goals as goal

pub returns : goal.returns
returns g c =
    let program = c.args.verified.now.program in
    let input = c.args.input.now in
    let limits = c.args.limits.now in
    let answer = subst (λ (found : Checked). IsAnswer program input c.table.result.now limits c.in-Ok.kept found) c.in-Fails.is c.in_ok-check.ensures.clause in (
      c.in-Ok.kept,
      c.in-Ok.ensures.found,
      subst (λ (hosts : HostTable). IsAnswer program input hosts limits c.in-Ok.kept (Fails c.in-Fails.clause)) c.table.ensures answer,
    )
