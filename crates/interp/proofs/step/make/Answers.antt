use Rattle.interp.proofs.Coming.{done_make, make_limit, make_beyond_steps, make_no_memory}
use Rattle.interp.proofs.step.make.Goals as goal

pub returns-in-Done : goal.returns-in-Done
returns-in-Done g c = λ hosts. done_make c.args.space.now.limits c.requires.countable c.args.number c.args.site c.args.size c.args.place c.args.desk.now c.make.new.desk c.requires.ready hosts c.in-Done.entry c.requires.fitting c.in-Done.ensures

pub returns-in-AllocLimit : goal.returns-in-AllocLimit
returns-in-AllocLimit g c = λ hosts. make_limit c.args.space.now.limits c.requires.countable c.args.number c.args.site c.args.size c.args.place c.args.desk.now c.make.new.desk c.requires.ready c.in-AllocLimit.drawn c.in-AllocLimit.ensures.0 c.in-AllocLimit.ensures.1

pub returns-in-StepLimit : goal.returns-in-StepLimit
returns-in-StepLimit g c = λ hosts. make_beyond_steps c.args.space.now.limits c.requires.countable c.args.number c.args.site c.args.size c.args.place c.args.desk.now c.make.new.desk c.requires.ready c.in-StepLimit.stamp c.in-StepLimit.ensures

pub returns-in-NoMemory : goal.returns-in-NoMemory
returns-in-NoMemory g c = λ hosts. make_no_memory c.args.space.now.limits c.requires.countable c.args.number c.args.site c.args.size c.args.place c.args.desk.now c.make.new.desk c.requires.ready c.in-NoMemory.ensures
