use Rattle.std.proofs.Common.{Option, sym, subst}
use Rattle.ir_rules.specs.declared.rule.Fault.{Fault}
use Rattle.ir_rules.specs.Least.{IsLeast}
use Rattle.ir_rules.specs.Rules.{BrokenFault}
use Rattle.ir_verify.proofs.Whole.{least_whole}
use Rattle.ir_verify.proofs.verifier.first_fault.Goals as goal

pub returns : goal.returns
returns c =
    let p = c.args.program.now in
    let hosts = c.args.hosts.now in
    subst (λ (z : Option Fault). IsLeast (BrokenFault p hosts) z) (sym c.lesser_fault.ensures) (least_whole p hosts c.in_ok-of_parts.of_parts c.in_ok-of_paths.of_paths c.in_ok-of_parts.ensures c.in_ok-of_paths.ensures)
