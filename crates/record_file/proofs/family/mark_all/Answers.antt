use Rattle.std.proofs.Common.{◌≡◌, length, refl, arith}
use Rattle.std.proofs.lemmas.Option.{slice_get_read}
use Rattle.record_file.proofs.Threading.{all_more, log_stops, mark_refused, mark_taken, marks_step}
use Rattle.record_file.proofs.family.mark_all.Goals as goal

pub returns-then-not-mark-clause-marks : goal.returns-then-not-mark-clause-marks
returns-then-not-mark-clause-marks c =
    let inv = c.loop-entry.invariant in
    let es = c.args.entries.now in
    let e = c.entry-item.result in
    let here = slice_get_read es (length es) c.loop-entry.entry-index e refl (omega arith) c.entry-item.is in
    log_stops c.args.logs.now c.args.parent c.args.started.now.items c.loop-entry.started.items es c.loop-entry.entry-index e here
    (omega (arith, inv.len, c.loop-entry.started.ok.0)) (omega (arith, c.requires.len, c.args.started.now.ok.0)) inv.marks
    (mark_refused c.mark.result c.args.logs.now c.args.parent c.loop-entry.started.items e c.mark.new.started.items c.if-not-mark.true c.mark.ensures.marks)

pub loop-entry-preserved : goal.loop-entry-preserved
loop-entry-preserved c =
    let inv = c.loop-entry.invariant in
    let es = c.args.entries.now in
    let e = c.entry-item.result in
    let here = slice_get_read es (length es) c.loop-entry.entry-index e refl (omega arith) c.entry-item.is in
    let one = mark_taken c.mark.result c.args.logs.now c.args.parent c.loop-entry.started.items e c.mark.new.started.items c.if-not-mark.false c.mark.ensures.marks in
    let len : length c.loop-entry.started.items ≡ length c.args.logs.now = omega (arith, inv.len, c.loop-entry.started.ok.0) in
    let flen : length c.args.started.now.items ≡ length c.args.logs.now = omega (arith, c.requires.len, c.args.started.now.ok.0) in
    record {
      len = c.mark.ensures.len;
      all = all_more c.args.logs.now c.args.parent c.args.started.now.items c.loop-entry.started.items es c.loop-entry.entry-index e here len flen inv.marks inv.all one.0;
      marks = marks_step c.args.logs.now c.args.parent c.args.started.now.items c.loop-entry.started.items es c.loop-entry.entry-index e here len flen inv.marks c.mark.new.started.items one.1;
    }
