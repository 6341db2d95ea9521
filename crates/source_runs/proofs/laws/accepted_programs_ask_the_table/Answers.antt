use Rattle.source_runs.proofs.HostsAccepted.{accepted_programs_ask}
use Rattle.source_runs.proofs.laws.accepted_programs_ask_the_table.Goals as goal

pub returns : goal.returns
returns c = accepted_programs_ask
