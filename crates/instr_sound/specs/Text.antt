-- The thread over the text, by its calls.
use Rattle.std.specs.Prelude.{[]}
use Rattle.history.specs.declared.ask.MachineEnd.TheVariants as end
use Rattle.history.specs.declared.trap.Trap.TheVariants as trap
use Rattle.source_sem.specs.Source.{Setting, Source, source_turn, source_answer, source_start, source_child}
use Rattle.source_sem.specs.Starting.{setting_of}
use Rattle.instr_sound.specs.declared.text.TextCall.{TextCall}
use Rattle.instr_sound.specs.declared.text.TextStep.{TextStep}
use Rattle.instr_sound.specs.declared.text.TextStep.TheVariants as step

abbrev pub setting_of_call : TextCall → Setting
setting_of_call c = setting_of c.program.now.program c.input.now c.program.now.hosts

abbrev pub text_by : Setting → TextStep → Source → Source
text_by x (step.Start k args) s = source_start x k args.now
text_by x step.Turn s = source_turn x s
text_by x (step.Answer r) s = source_answer x s r.now
text_by x step.Child s = source_child x s

-- the thread after a call, where it was in this state
abbrev pub text_after : TextCall → Source → Source
text_after c s = text_by (setting_of_call c) c.step s

-- a thread that has done nothing
abbrev pub nowhere : Source
nowhere = record { frames = []; over = end.Trapped trap.Unreachable; last = 0; count = 0; started = [] }
