use Rattle.std.proofs.Common.{subst}
use Rattle.ir_rules.specs.Least.{IsLeast, fault}
use Rattle.ir_rules.specs.Rules.{BrokenFault}
use Rattle.ir_verify.proofs.verifier.verify.Goals as goal

pub accept-requires-clause-accepted : goal.accept-requires-clause-accepted
accept-requires-clause-accepted c = λ rule at broken. subst (IsLeast (BrokenFault c.args.program c.args.hosts.now)) c.in-None.is c.in_ok-found.ensures (fault rule at) broken
