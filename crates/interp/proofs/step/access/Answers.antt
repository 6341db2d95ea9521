use Rattle.history.specs.declared.ask.Ask.TheVariants as ask
use Rattle.interp.proofs.Coming.{done_access, over_past, over_memory}
use Rattle.interp.proofs.step.access.Goals as goal

pub returns-in-Done : goal.returns-in-Done
returns-in-Done g c = λ hosts. done_access c.args.space.now.limits hosts c.args.number c.args.site c.args.alloc c.args.request c.args.desk.now c.step.new.desk c.in-Done.entry c.requires.ready c.requires.on c.requires.fitting c.in-Done.ensures

pub returns-in-StepLimit : goal.returns-in-StepLimit
returns-in-StepLimit g c = λ hosts. over_past c.args.space.now.limits (ask.At c.args.alloc c.args.request) c.args.desk.now c.step.new.desk c.requires.ready c.in-StepLimit.stamp tt c.in-StepLimit.ensures

pub returns-in-NoMemory : goal.returns-in-NoMemory
returns-in-NoMemory g c = λ hosts. over_memory c.args.space.now.limits (ask.At c.args.alloc c.args.request) c.args.desk.now c.step.new.desk c.requires.ready c.in-NoMemory.ensures
