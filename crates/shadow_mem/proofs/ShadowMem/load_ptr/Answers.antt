use Rattle.std.proofs.Common.{sym, true, false}
use Rattle.shadow_mem.proofs.Shadows.{loaded-none, loaded-some}
use Rattle.shadow_mem.proofs.ShadowMem.load_ptr.Goals as goal

pub returns-in-None : goal.returns-in-None
returns-in-None c = sym (loaded-none c.args.at c.args.self.now.frags c.in-None.ensures.value)

pub returns-then-runs_on : goal.returns-then-runs_on
returns-then-runs_on c = sym (loaded-some c.args.at c.args.self.now.frags c.in-Some.first true c.in-Some.ensures.value (sym c.if-runs_on.ensures))

pub returns-else-runs_on : goal.returns-else-runs_on
returns-else-runs_on c = sym (loaded-some c.args.at c.args.self.now.frags c.in-Some.first false c.in-Some.ensures.value (sym c.if-runs_on.ensures))
