use Rattle.source_runs.proofs.Worlds.{replies_always_fit, replays_leave_right_records}
use Rattle.source_runs.proofs.laws.replies_always_fit.Goals as goal

pub returns-clause-fits : goal.returns-clause-fits
returns-clause-fits c = replies_always_fit

pub returns-clause-replays : goal.returns-clause-replays
returns-clause-replays c = replays_leave_right_records
