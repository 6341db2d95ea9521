use Rattle.source_runs.proofs.JoinsAccepted.{accepted_programs_join}
use Rattle.source_runs.proofs.laws.accepted_programs_join.Goals as goal

pub returns : goal.returns
returns c = accepted_programs_join
