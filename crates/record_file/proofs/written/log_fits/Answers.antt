use Rattle.std.proofs.Common.{length, refl, subst, List, arith}
use Rattle.std.proofs.lemmas.Option.{slice_get_read}
use Rattle.history.specs.declared.entry.Entry.{Entry}
use Rattle.record_text.specs.Texts.{EntryFits}
use Rattle.runs.specs.Parts.{Has}
use Rattle.record_file.proofs.Marking.{has_at}
use Rattle.record_file.proofs.ReadAgain.{all_more}
use Rattle.record_file.proofs.written.log_fits.Goals as goal

pub step_fits-requires : goal.step_fits-requires
step_fits-requires c =
    let es = c.as_slice-entry-items.result.now in
    let e = c.entry-item.result in
    let k = c.loop-entry.entry-index in
    let there : Has c.args.log.now.entries e =
    subst (λ (xs : List Entry). Has xs e) c.as_slice-entry-items.ensures (has_at es k e (slice_get_read es (length es) k e refl (omega arith) c.entry-item.is)) in
    (c.requires e there).1

pub loop-entry-preserved : goal.loop-entry-preserved
loop-entry-preserved c =
    let es = c.as_slice-entry-items.result.now in
    let e = c.entry-item.result in
    let k = c.loop-entry.entry-index in
    let at = slice_get_read es (length es) k e refl (omega arith) c.entry-item.is in
    let there : Has c.args.log.now.entries e = subst (λ (xs : List Entry). Has xs e) c.as_slice-entry-items.ensures (has_at es k e at) in
    all_more (EntryFits c.args.log.now.number.0) es k e at c.loop-entry.invariant (record { own = (c.requires e there).0; step = c.step_fits.ensures })
