use Rattle.std.proofs.Common.{rules}
use Rattle.history.specs.Records.{first_found}
use Rattle.history.proofs.Distinct.{by_stamp_merges}
use Rattle.history.proofs.RecordStamps.{firsts_distinct}
use Rattle.history.proofs.record.RunRecord.first_violations.Goals as goal

pub returns-clause-order : goal.returns-clause-order
returns-clause-order c =
    let merges = by_stamp_merges (first_found c.args.self.now) (firsts_distinct c.args.self.now.allocs c.requires.allocs) in
    search rules
