use Rattle.std.proofs.Common.{ap, ◌∙◌}
use Rattle.thread_machine.specs.Thread.{jumped, run}
use Rattle.thread_machine.specs.Views.{WideThread, setting}
use Rattle.thread_machine.proofs.Jumping.{branched_is}
use Rattle.thread_machine.proofs.state.ThreadState.branch.Goals as goal

pub returns-clause-goes : goal.returns-clause-goes
returns-clause-goes c =
    let x = setting c.args.target.now c.args.input.now in
    c.jump.ensures.goes
    ∙ ap (jumped x) c.run_on.ensures.runs
    ∙ ap (λ (z : WideThread). jumped x (run c.args.input.now z.thread.top.rest z.thread)) c.enter_branch.ensures
    ∙ branched_is x c.args.self.now.thread c.args.cond
