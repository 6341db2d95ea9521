use Rattle.source_runs.proofs.ReplayRuns.{replays_by_example}
use Rattle.source_runs.proofs.laws.replays_by_example.Goals as goal

pub returns : goal.returns
returns c = replays_by_example
