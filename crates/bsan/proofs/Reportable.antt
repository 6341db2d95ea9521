-- Of what a run left its text can be made.
use Rattle.std.proofs.Common.{◌≡◌, ◌⊎◌, ℕ, List, Option, sym, subst, inl, inr}
use Rattle.bsan_ids.specs.declared.numbers.Limits.{Limits}
use Rattle.command_words.specs.Jobs.{Job, Settings, ScheduledRun, default_settings}
use Rattle.command_words.specs.Jobs.Job.{Check, Instrument, Replay, Run, Load, Races, Record, Recheck, Hush, Explain}
use Rattle.history.specs.Records.{empty_record}
use Rattle.history.specs.declared.record.RunRecord.{RunRecord}
use Rattle.ir_ast.specs.declared.hosts.HostTable.{HostTable}
use Rattle.ir_ast.specs.declared.program.Program.{Program}
use Rattle.ir_rules.specs.Rules.{IsAccepted}
use Rattle.report.specs.Report.{IsReportable}
use Rattle.source_runs.proofs.Reporting.{right_records_are_reportable}
use Rattle.explain.specs.Explanations.{AreHistories}
use Rattle.bsan.specs.Seen.{FilesSeen, SinkSeen}
use Rattle.bsan.specs.Runs.{IsScheduledRun, IsNativeRun, IsOfRun}
use Rattle.bsan.specs.Rechecks.{IsFoundOf}
use Rattle.bsan.specs.Answer.{OfJob, Serves, FindsIn, HasCause, CanBeTold, IsTold, Answers, IsEmptyOrRight}
use Rattle.bsan.proofs.Legal.{right_histories}
use Rattle.bsan.specs.declared.outcome.Role.TheVariants as role
use Rattle.bsan.specs.declared.outcome.Outcome.{Outcome}
use Rattle.bsan.specs.declared.outcome.Outcome.TheVariants.{Usage, FileFault, TooLong, NotRead, NotVerified, RulesRefused, NotRecord, RecordBroken, Accepted, Instrumented, RecordHolds, Ran, Loaded, Recorded, Hushed, Raced, Traced}

pub run_reportable : (files : FilesSeen) (hosts : HostTable) (kept : RunRecord) (program : Program) (run : ScheduledRun)
    → IsScheduledRun files hosts kept program run → IsReportable kept
run_reportable files hosts kept program run of =
    right_records_are_reportable program of.0 hosts run.settings.limits kept of.2.right.right

pub run_histories : (files : FilesSeen) (hosts : HostTable) (kept : RunRecord) (program : Program) (run : ScheduledRun)
    → IsScheduledRun files hosts kept program run → AreHistories kept.allocs
run_histories files hosts kept program run of =
    right_histories program of.0 hosts run.settings.limits kept of.2.right.right

native_reportable : (files : FilesSeen) (hosts : HostTable) (kept : RunRecord) (program : Program) (settings : Settings)
    → IsNativeRun files hosts kept program settings → IsReportable kept
native_reportable files hosts kept program settings of = right_records_are_reportable program of.0 hosts settings.limits kept of.2.right

checked_told : (program : Program) (input : List ℕ) (hosts : HostTable) (limits : Limits) (text : List ℕ) (kept : RunRecord) (found : Outcome)
    → IsFoundOf program input hosts limits text found → CanBeTold found kept
checked_told program input hosts limits text kept (NotRecord line) of = tt
checked_told program input hosts limits text kept (RecordBroken clause) of = tt
checked_told program input hosts limits text kept (RecordHolds steps threads) of = tt
checked_told program input hosts limits text kept found of = absurd of

serves_told : (files : FilesSeen) (hosts : HostTable) (kept : RunRecord) (found : Outcome) (program : Program) (job : Job) → Serves files hosts kept found program job
    → CanBeTold found kept
serves_told files hosts kept found program (Check file) serves = subst (λ (f : Outcome). CanBeTold f kept) (sym serves.0) tt
serves_told files hosts kept found program (Instrument file) serves = subst (λ (f : Outcome). CanBeTold f kept) (sym serves.0) tt
serves_told files hosts kept found program (Replay run) serves =
    subst (λ (f : Outcome). CanBeTold f kept) (sym serves.0) (run_reportable files hosts kept program run serves.1)
serves_told files hosts kept found program (Run run) serves =
    subst (λ (f : Outcome). CanBeTold f kept) (sym serves.0) (native_reportable files hosts kept program run.settings serves.1)
serves_told files hosts kept found program (Load run) serves =
    subst (λ (f : Outcome). CanBeTold f kept) (sym serves.0) (native_reportable files hosts kept program default_settings serves.1)
serves_told files hosts kept found program (Races run) serves =
    subst (λ (f : Outcome). CanBeTold f kept) (sym serves.1.1) ((run_reportable files hosts kept program run serves.0).distinct, serves.1.2)
serves_told files hosts kept found program (Record run) serves = subst (λ (f : Outcome). CanBeTold f kept) (sym serves.0) tt
serves_told files hosts kept found program (Recheck check) serves =
    checked_told program serves.0.0 hosts check.settings.limits serves.0.2 kept found serves.0.4
serves_told files hosts kept found program (Hush run) serves =
    subst (λ (f : Outcome). CanBeTold f kept) (sym serves.1.1) (native_reportable files hosts kept program run.settings serves.0)
serves_told files hosts kept found program (Explain run) serves =
    subst (λ (f : Outcome). CanBeTold f kept) (sym serves.1.1)
    (run_histories files hosts kept program run serves.0, (run_reportable files hosts kept program run serves.0).distinct, serves.1.2)

pub found_told : (files : FilesSeen) (hosts : HostTable) (asked : Option Job) (kept : RunRecord) (found : Outcome) → HasCause files hosts asked kept found
    → CanBeTold found kept
found_told files hosts asked kept Usage cause = tt
found_told files hosts asked kept (FileFault of) cause = tt
found_told files hosts asked kept (TooLong of) cause = tt
found_told files hosts asked kept (NotRead read_fault) cause = tt
found_told files hosts asked kept (NotVerified rule at) cause = tt
found_told files hosts asked kept (RulesRefused why line) cause = tt
found_told files hosts asked kept (NotRecord line) cause = tt
found_told files hosts asked kept (RecordBroken clause) cause = tt
found_told files hosts asked kept (Accepted functions instructions) cause = tt
found_told files hosts asked kept (Instrumented target) cause = tt
found_told files hosts asked kept (RecordHolds steps threads) cause = tt
found_told files hosts asked kept Ran cause = serves_told files hosts kept Ran cause.program cause.job cause.holds.1
found_told files hosts asked kept (Loaded seed size) cause = serves_told files hosts kept (Loaded seed size) cause.program cause.job cause.holds.1
found_told files hosts asked kept Recorded cause = tt
found_told files hosts asked kept (Hushed rules) cause = serves_told files hosts kept (Hushed rules) cause.program cause.job cause.holds.1
found_told files hosts asked kept (Raced races) cause = serves_told files hosts kept (Raced races) cause.program cause.job cause.holds.1
found_told files hosts asked kept (Traced violations) cause = serves_told files hosts kept (Traced violations) cause.program cause.job cause.holds.1

-- ---- what a call leaves for a record is empty or right
serves_left : (files : FilesSeen) (hosts : HostTable) (kept : RunRecord) (found : Outcome) (program : Program) (job : Job) → Serves files hosts kept found program job
    → (kept ≡ empty_record) ⊎ IsOfRun files hosts kept program job
serves_left files hosts kept found program (Check file) serves = inl serves.1
serves_left files hosts kept found program (Instrument file) serves = inl serves.1
serves_left files hosts kept found program (Replay run) serves = inr serves.1
serves_left files hosts kept found program (Run run) serves = inr serves.1
serves_left files hosts kept found program (Load run) serves = inr serves.1
serves_left files hosts kept found program (Races run) serves = inr serves.0
serves_left files hosts kept found program (Record run) serves = inr serves.1
serves_left files hosts kept found program (Recheck check) serves = inl serves.1
serves_left files hosts kept found program (Hush run) serves = inr serves.0
serves_left files hosts kept found program (Explain run) serves = inr serves.0

of_served : (files : FilesSeen) (hosts : HostTable) (asked : Option Job) (kept : RunRecord) (found : Outcome) (of : OfJob files asked (FindsIn files hosts kept found))
    → IsAccepted of.program hosts → Serves files hosts kept found of.program of.job → IsEmptyOrRight files hosts asked kept
of_served files hosts asked kept found of accepted serves = elim (serves_left files hosts kept found of.program of.job serves) [
  | inl none ↦ inl none
  | inr run ↦ inr (record { job = of.job; is = of.is; program = of.program; has = of.has; holds = (accepted, run) })
]

pub left : (files : FilesSeen) (hosts : HostTable) (asked : Option Job) (kept : RunRecord) (found : Outcome) → HasCause files hosts asked kept found
    → IsEmptyOrRight files hosts asked kept
left files hosts asked kept Usage cause = inl cause.1
left files hosts asked kept (FileFault role.Program) cause = inl cause.1
left files hosts asked kept (FileFault role.Rules) cause = inl cause.holds.2
left files hosts asked kept (FileFault role.Input) cause = inl cause.holds.2
left files hosts asked kept (FileFault role.Record) cause = inl cause.holds.2
left files hosts asked kept (TooLong role.Program) cause = inl cause.1
left files hosts asked kept (TooLong role.Rules) cause = inl cause.holds.2
left files hosts asked kept (TooLong role.Input) cause = inl cause.holds.2
left files hosts asked kept (TooLong role.Record) cause = inl cause.holds.2
left files hosts asked kept (NotRead read_fault) cause = inl cause.1
left files hosts asked kept (NotVerified rule at) cause = inl cause.1
left files hosts asked kept (RulesRefused why line) cause = inl cause.holds.2
left files hosts asked kept (NotRecord line) cause = of_served files hosts asked kept (NotRecord line) cause cause.holds.0 cause.holds.1
left files hosts asked kept (RecordBroken clause) cause = of_served files hosts asked kept (RecordBroken clause) cause cause.holds.0 cause.holds.1
left files hosts asked kept (Accepted functions instructions) cause =
    of_served files hosts asked kept (Accepted functions instructions) cause cause.holds.0 cause.holds.1
left files hosts asked kept (Instrumented target) cause = of_served files hosts asked kept (Instrumented target) cause cause.holds.0 cause.holds.1
left files hosts asked kept (RecordHolds steps threads) cause =
    of_served files hosts asked kept (RecordHolds steps threads) cause cause.holds.0 cause.holds.1
left files hosts asked kept Ran cause = of_served files hosts asked kept Ran cause cause.holds.0 cause.holds.1
left files hosts asked kept (Loaded seed size) cause = of_served files hosts asked kept (Loaded seed size) cause cause.holds.0 cause.holds.1
left files hosts asked kept Recorded cause = of_served files hosts asked kept Recorded cause cause.holds.0 cause.holds.1
left files hosts asked kept (Hushed rules) cause = of_served files hosts asked kept (Hushed rules) cause cause.holds.0 cause.holds.1
left files hosts asked kept (Raced races) cause = of_served files hosts asked kept (Raced races) cause cause.holds.0 cause.holds.1
left files hosts asked kept (Traced violations) cause = of_served files hosts asked kept (Traced violations) cause cause.holds.0 cause.holds.1

-- the text of what was found for its cause was put, or memory ran out before it
pub told : (files : FilesSeen) (hosts : HostTable) (sink : SinkSeen) (asked : Option Job) (kept : RunRecord) (found : Outcome) (answer : ℕ)
    → HasCause files hosts asked kept found → IsTold sink found kept answer → Answers files hosts sink asked kept answer
told files hosts sink asked kept found answer cause (inl puts) = inl (record { found = found; cause = cause; puts = puts })
told files hosts sink asked kept found answer cause (inr out) =
    inr (record { status = out.0; nothing = out.1; record_kept = left files hosts asked kept found cause })
