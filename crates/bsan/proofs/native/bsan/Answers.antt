use Rattle.std.proofs.Common.{map, string_bytes}
use Rattle.command_words.specs.Jobs.{job_of}
use Rattle.bsan.proofs.Found.{read_is}
use Rattle.bsan.proofs.Limits.{read_in_range}
use Rattle.bsan.proofs.native.bsan.Goals as goal

pub bsan_asked-requires-clause-range : goal.bsan_asked-requires-clause-range
bsan_asked-requires-clause-range g c κs within = read_in_range (map string_bytes c.args.words.now) c.read_job-asked.result c.read_job-asked.ensures.job

pub returns : goal.returns
returns g c =
    c.bsan_asked.ensures (job_of (map string_bytes c.args.words.now))
    (read_is (job_of (map string_bytes c.args.words.now)) c.read_job-asked.result c.read_job-asked.ensures.job c.read_job-asked.ensures.refused)
