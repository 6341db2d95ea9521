use Rattle.std.proofs.Common.{sym, subst}
use Rattle.history.specs.declared.ask.Ask.{Ask}
use Rattle.interp.specs.Came.{CameBy}
use Rattle.interp.proofs.step.step.Goals as goal

pub returns-in-Make : goal.returns-in-Make
returns-in-Make g c = subst (λ (a : Ask). CameBy c.args.space.now.limits (g.H.HostCalls.table c.args.hosts.now) c.args.number c.args.site a c.args.desk.now c.make.new.desk c.make.result) (sym c.in-Make.is) (c.make.ensures (g.H.HostCalls.table c.args.hosts.now))

pub returns-in-At : goal.returns-in-At
returns-in-At g c = subst (λ (a : Ask). CameBy c.args.space.now.limits (g.H.HostCalls.table c.args.hosts.now) c.args.number c.args.site a c.args.desk.now c.access.new.desk c.access.result) (sym c.in-At.is) (c.access.ensures (g.H.HostCalls.table c.args.hosts.now))

pub returns-in-Print : goal.returns-in-Print
returns-in-Print g c = subst (λ (a : Ask). CameBy c.args.space.now.limits (g.H.HostCalls.table c.args.hosts.now) c.args.number c.args.site a c.args.desk.now c.print.new.desk c.print.result) (sym c.in-Print.is) (c.print.ensures (g.H.HostCalls.table c.args.hosts.now))
