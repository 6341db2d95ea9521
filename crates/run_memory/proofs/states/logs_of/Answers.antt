use Rattle.std.proofs.Common.{◌++◌, [], ap, sym, ◌∙◌}
use Rattle.runs.specs.ReplayLaw.{with_history}
use Rattle.run_memory.proofs.Numbered.{named_more}
use Rattle.run_memory.proofs.states.logs_of.Goals as goal

pub loop-state-preserved : goal.loop-state-preserved
loop-state-preserved c = (
  c.in_ok-push_log.ensures.logs ∙ (ap (λ ls. ls ++ with_history c.in-Some.state.number.0 c.in-Some.state.entries []) c.loop-state.invariant.0 ∙ sym (named_more c.loop-state.yielded c.in-Some.state)),
  c.in_ok-push_log.ensures.legal c.loop-state.invariant.1,
)
