use Rattle.history.specs.declared.ask.Ask.TheVariants as ask
use Rattle.interp.proofs.Coming.{done_print, over_past}
use Rattle.interp.proofs.step.print.Goals as goal

pub returns-in-Done : goal.returns-in-Done
returns-in-Done c = λ hosts. done_print c.args.space.now.limits hosts c.args.number c.args.site c.args.value c.args.desk.now c.note.new.desk c.in-Done.entry c.requires.ready c.in-Done.ensures

pub returns-in-StepLimit : goal.returns-in-StepLimit
returns-in-StepLimit c = λ hosts. over_past c.args.space.now.limits (ask.Print c.args.value) c.args.desk.now c.note.new.desk c.requires.ready c.in-StepLimit.stamp tt c.in-StepLimit.ensures
