use Rattle.std.proofs.Common.{rules}
use Rattle.history.specs.Records.{thread_entries}
use Rattle.history.proofs.Distinct.{by_stamp_merges}
use Rattle.history.proofs.record.RunRecord.merged.Goals as goal

pub returns-clause-order : goal.returns-clause-order
returns-clause-order c =
    let merges = by_stamp_merges (thread_entries c.args.self.now) c.requires.threads in
    search rules
