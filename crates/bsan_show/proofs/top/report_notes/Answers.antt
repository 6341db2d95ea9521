use Rattle.std.proofs.Common.{ℕ, List, subst}
use Rattle.std.specs.Global.{Vec}
use Rattle.std.proofs.lemmas.Result.{IfOk-weaker}
use Rattle.command_words.specs.Meaning.{job_meant}
use Rattle.ir_ast.specs.declared.hosts.HostTable.{HostTable}
use Rattle.race_check.specs.declared.race.Race.{Race}
use Rattle.notes.specs.Meaning.{source_meant}
use Rattle.notes.specs.Whole.{AreNotes}
use Rattle.bsan_show.specs.Shown.{AreReportNotes}
use Rattle.bsan_show.proofs.top.report_notes.Goals as goal

pub returns : goal.returns
returns g c =
    let s = source_meant c.args.source.now in
    let kept = c.args.kept.now in
    IfOk-weaker c.notes_of.result (λ (notes : Vec ℕ). AreNotes s c.table.result.now kept c.deref.result.now notes.items)
    (λ (notes : Vec ℕ). AreReportNotes c.args.hosts.now.table kept notes.items (job_meant c.args.job.now) s)
    (λ notes are. (
      c.in_ok-found.found.items,
      c.in_ok-found.ensures,
      subst (λ (races : List Race). AreNotes s c.args.hosts.now.table kept races notes.items) c.deref.ensures.value
          (subst (λ (hosts : HostTable). AreNotes s hosts kept c.deref.result.now notes.items) c.table.ensures are),
    ))
    c.notes_of.ensures
