use Rattle.std.proofs.Common.{arith}
use Rattle.history.specs.declared.ask.Ask.TheVariants as ask
use Rattle.interp.proofs.Coming.{done_host, over_past}
use Rattle.interp.proofs.step.call_host.Goals as goal

pub returns-in-Done : goal.returns-in-Done
returns-in-Done g c = done_host c.args.space.now.limits (g.H.HostCalls.table c.args.hosts.now) c.args.number c.args.site c.args.function c.args.first c.args.second c.call-value.result c.args.desk.now c.note.new.desk c.in-Done.entry c.requires.ready c.call-value.ensures (omega arith) c.in-Done.ensures

pub returns-in-StepLimit : goal.returns-in-StepLimit
returns-in-StepLimit g c = over_past c.args.space.now.limits (ask.Host c.args.function c.args.first c.args.second) c.args.desk.now c.note.new.desk c.requires.ready c.in-StepLimit.stamp tt c.in-StepLimit.ensures
