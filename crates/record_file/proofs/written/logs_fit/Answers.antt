use Rattle.std.proofs.Common.{length, refl, arith}
use Rattle.std.proofs.lemmas.Option.{slice_get_read}
use Rattle.record_text.specs.Texts.{LogFits}
use Rattle.record_file.proofs.Marking.{has_at}
use Rattle.record_file.proofs.ReadAgain.{all_more}
use Rattle.record_file.proofs.written.logs_fit.Goals as goal

pub log_fits-requires : goal.log_fits-requires
log_fits-requires c =
    let logs = c.args.logs.now in
    let log = c.log-item.result in
    let k = c.loop-log.log-index in
    c.requires log (has_at logs k log (slice_get_read logs (length logs) k log refl (omega arith) c.log-item.is))

pub loop-log-preserved : goal.loop-log-preserved
loop-log-preserved c =
    let logs = c.args.logs.now in
    let log = c.log-item.result in
    let k = c.loop-log.log-index in
    all_more LogFits logs k log (slice_get_read logs (length logs) k log refl (omega arith) c.log-item.is) c.loop-log.invariant c.log_fits.ensures
