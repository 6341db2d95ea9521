-- Of the record that a call leaves notes can be made: its logs are legal histories, and no stamp stands twice.
use Rattle.std.proofs.Common.{ℕ, Option, sym, subst, inl, inr}
use Rattle.std.proofs.lemmas.List.Elements.{All-nil}
use Rattle.std.specs.List.{IsDistinct}
use Rattle.command_words.specs.Jobs.{Job, ScheduledRun, Settings, default_settings}
use Rattle.command_words.specs.Jobs.Job.{Check, Instrument, Replay, Run, Load, Races, Record, Recheck, Hush, Explain}
use Rattle.explain.specs.Explanations.{AreHistories}
use Rattle.history.specs.Records.{empty_record, HasDistinctStamps}
use Rattle.history.specs.declared.record.RunRecord.{RunRecord}
use Rattle.ir_ast.specs.declared.hosts.HostTable.{HostTable}
use Rattle.ir_ast.specs.declared.program.Program.{Program}
use Rattle.source_runs.proofs.Reporting.{right_records_are_reportable}
use Rattle.bsan.specs.Seen.{FilesSeen, SinkSeen}
use Rattle.bsan.specs.Runs.{IsScheduledRun, IsNativeRun, IsOfRun}
use Rattle.bsan.specs.Answer.{Answers, IsEmptyOrRight}
use Rattle.bsan.proofs.Legal.{right_histories}
use Rattle.bsan.proofs.Reportable.{run_histories, run_reportable, left}

pub record CanBeNoted (kept : RunRecord) : Type 0 where
  pub histories : AreHistories kept.allocs
  pub distinct : HasDistinctStamps kept

empty_noted : CanBeNoted empty_record
unfolding IsDistinct
empty_noted = record { histories = All-nil _; distinct = record { threads = tt; allocs = tt } }

native_noted : (files : FilesSeen) (hosts : HostTable) (kept : RunRecord) (program : Program) (settings : Settings)
    → IsNativeRun files hosts kept program settings → CanBeNoted kept
native_noted files hosts kept program settings of = record {
  histories = right_histories program of.0 hosts settings.limits kept of.2.right;
  distinct = (right_records_are_reportable program of.0 hosts settings.limits kept of.2.right).distinct;
}

scheduled_noted : (files : FilesSeen) (hosts : HostTable) (kept : RunRecord) (program : Program) (run : ScheduledRun)
    → IsScheduledRun files hosts kept program run → CanBeNoted kept
scheduled_noted files hosts kept program run of = record {
  histories = run_histories files hosts kept program run of;
  distinct = (run_reportable files hosts kept program run of).distinct;
}

of_run_noted : (files : FilesSeen) (hosts : HostTable) (kept : RunRecord) (program : Program) (job : Job)
    → IsOfRun files hosts kept program job → CanBeNoted kept
of_run_noted files hosts kept program (Check file) of = absurd of
of_run_noted files hosts kept program (Instrument file) of = absurd of
of_run_noted files hosts kept program (Replay run) of = scheduled_noted files hosts kept program run of
of_run_noted files hosts kept program (Races run) of = scheduled_noted files hosts kept program run of
of_run_noted files hosts kept program (Explain run) of = scheduled_noted files hosts kept program run of
of_run_noted files hosts kept program (Run run) of = native_noted files hosts kept program run.settings of
of_run_noted files hosts kept program (Load run) of = native_noted files hosts kept program default_settings of
of_run_noted files hosts kept program (Record run) of = native_noted files hosts kept program run.settings of
of_run_noted files hosts kept program (Recheck check) of = absurd of
of_run_noted files hosts kept program (Hush run) of = native_noted files hosts kept program run.settings of

left_noted : (files : FilesSeen) (hosts : HostTable) (asked : Option Job) (kept : RunRecord) → IsEmptyOrRight files hosts asked kept → CanBeNoted kept
left_noted files hosts asked kept of = elim of [
  | inl is ↦ subst CanBeNoted (sym is) empty_noted
  | inr run ↦ of_run_noted files hosts kept run.program run.job run.holds.1
]

pub answers_noted : (files : FilesSeen) (hosts : HostTable) (sink : SinkSeen) (asked : Option Job) (kept : RunRecord) (answer : ℕ)
    → Answers files hosts sink asked kept answer → CanBeNoted kept
answers_noted files hosts sink asked kept answer of = elim of [
  | inl told ↦ left_noted files hosts asked kept (left files hosts asked kept told.found told.cause)
  | inr out ↦ left_noted files hosts asked kept out.record_kept
]
