use Rattle.std.proofs.Common.{rules, ap}
use Rattle.std.specs.Prelude.{None}
use Rattle.thread_machine.specs.Views.{WideThread}
use Rattle.thread_machine.proofs.Asked.{read_ended, write_ended, free_ended}
use Rattle.thread_machine.proofs.state.ThreadState.ended.Goals as goal

pub returns-in-Some-CheckRead : goal.returns-in-Some-CheckRead
returns-in-Some-CheckRead c =
    read_ended c.args.version c.args.self.now.thread c.self.inside.top c.in-Some-CheckRead.field-0.now c.in-Some-CheckRead.field-0-0 c.in-Some-CheckRead.field-0-1 c.in-Some-CheckRead.field-0-2 c.read_end.result
    (ap (λ (z : WideThread). z.thread.top.rest) c.self.view_is) (search rules) c.in-Some-CheckRead.ensures.next c.in-Some-CheckRead.field-0-is (c.read_end.ensures 0)

pub returns-in-Some-CheckWrite : goal.returns-in-Some-CheckWrite
returns-in-Some-CheckWrite c =
    write_ended c.args.version c.args.self.now.thread c.self.inside.top c.in-Some-CheckWrite.field-0.now c.in-Some-CheckWrite.field-0-0 c.in-Some-CheckWrite.field-0-1 c.in-Some-CheckWrite.field-0-2 c.write_end.result
    (ap (λ (z : WideThread). z.thread.top.rest) c.self.view_is) (search rules) c.in-Some-CheckWrite.ensures.next c.in-Some-CheckWrite.field-0-is (c.write_end.ensures None 0)

pub returns-in-Some-CheckFree : goal.returns-in-Some-CheckFree
returns-in-Some-CheckFree c =
    free_ended c.args.version c.args.self.now.thread c.self.inside.top c.in-Some-CheckFree.field-0.now c.in-Some-CheckFree.field-0-0 c.in-Some-CheckFree.field-0-1 c.free_end.result
    (ap (λ (z : WideThread). z.thread.top.rest) c.self.view_is) (search rules) c.in-Some-CheckFree.ensures.next c.in-Some-CheckFree.field-0-is (c.free_end.ensures 0)
