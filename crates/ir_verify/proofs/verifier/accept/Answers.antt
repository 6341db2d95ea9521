use Rattle.std.proofs.Common.{◌<◌, ◌^◌, length, sym, subst}
use Rattle.ir_ast.specs.declared.hosts.HostTable.{HostTable}
use Rattle.ir_rules.specs.Rules.{IsAccepted}
use Rattle.ir_verify.proofs.verifier.accept.Goals as goal

pub new-requires-clause-few_hosts : goal.new-requires-clause-few_hosts
new-requires-clause-few_hosts c = subst (λ (z : HostTable). length z.entries < 2 ^ 32) (sym c.in_ok-hosts.ensures) c.requires.few_hosts

pub new-requires-clause-accepted : goal.new-requires-clause-accepted
new-requires-clause-accepted c = subst (IsAccepted c.args.program) (sym c.in_ok-hosts.ensures) c.requires.accepted
