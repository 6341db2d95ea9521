use Rattle.std.proofs.Common.{map, string_bytes}
use Rattle.command_words.specs.Meaning.{job_meant}
use Rattle.bsan.proofs.Limits.{has_limits}
use Rattle.bsan.proofs.top.read_alone.Goals as goal

pub returns-clause-limits : goal.returns-clause-limits
returns-clause-limits c = has_limits (map string_bytes c.args.words.now) (job_meant c.in_ok-job.job) c.in_ok-job.ensures.job
