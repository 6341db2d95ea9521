use Rattle.std.proofs.Common.{◌^◌, length, refl, arith}
use Rattle.std.proofs.lemmas.Option.{slice_get_read}
use Rattle.record_file.proofs.Ending.{small_more}
use Rattle.record_file.proofs.by_number.are_small.Goals as goal

pub loop-entry-preserved : goal.loop-entry-preserved
loop-entry-preserved c =
    let es = c.args.entries.now in
    let e = c.entry-item.result in
    small_more (2 ^ 32) es c.loop-entry.entry-index e c.loop-entry.invariant (slice_get_read es (length es) c.loop-entry.entry-index e refl (omega arith) c.entry-item.is) c.is_small.ensures
