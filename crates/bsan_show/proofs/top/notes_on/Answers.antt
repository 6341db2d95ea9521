use Rattle.std.proofs.Common.{◌≡◌, ℕ, List, refl}
use Rattle.std.specs.Global.{Vec}
use Rattle.std.proofs.lemmas.Result.{IfOk-weaker}
use Rattle.command_words.specs.Meaning.{job_meant}
use Rattle.command_words.specs.declared.jobs.Job.{Job}
use Rattle.command_words.specs.declared.jobs.Job.TheVariants.{Check, Instrument, Replay, Run, Load, Races, Record, Recheck, Hush, Explain}
use Rattle.command_words.specs.declared.jobs.HeldRun.{HeldRun}
use Rattle.history.specs.declared.record.RunRecord.{RunRecord}
use Rattle.ir_ast.specs.declared.hosts.HostTable.{HostTable}
use Rattle.notes.specs.Sources.{Source}
use Rattle.notes.specs.Meaning.{source_meant}
use Rattle.bsan_show.specs.Shown.{AreReportNotes, AreNotesOn}
use Rattle.bsan_show.proofs.top.notes_on.Goals as goal

-- the notes on a job that isn't `hush` are on its run
on_others : (hosts : HostTable) (kept : RunRecord) (notes : List ℕ) (job : Job) (source : Source) → ((run : HeldRun) → job ≡ Hush run → ⊥)
    → AreReportNotes hosts kept notes (job_meant job) source → AreNotesOn hosts kept notes (job_meant job) source
on_others hosts kept notes (Check file) source other are = are
on_others hosts kept notes (Instrument file) source other are = are
on_others hosts kept notes (Replay run) source other are = are
on_others hosts kept notes (Run run) source other are = are
on_others hosts kept notes (Load run) source other are = are
on_others hosts kept notes (Races run) source other are = are
on_others hosts kept notes (Record run) source other are = are
on_others hosts kept notes (Recheck check) source other are = are
on_others hosts kept notes (Hush run) source other are = absurd (other run refl)
on_others hosts kept notes (Explain run) source other are = are

pub returns-in_default : goal.returns-in_default
returns-in_default g c =
    let s = source_meant c.args.source.now in
    let hosts = c.args.hosts.now.table in
    let kept = c.args.kept.now in
    IfOk-weaker c.report_notes.result (λ (notes : Vec ℕ). AreReportNotes hosts kept notes.items (job_meant c.args.job.now) s)
    (λ (notes : Vec ℕ). AreNotesOn hosts kept notes.items (job_meant c.args.job.now) s)
    (λ notes are. on_others hosts kept notes.items c.args.job.now s c.in_default.not-Hush are)
    c.report_notes.ensures
