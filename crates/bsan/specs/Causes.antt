-- What follows from the answer of the top call: the cause of each status, and completeness.
use Rattle.std.specs.Prelude.{◌≡◌, ◌≢◌, ◌⊎◌, ◌↔◌, ◌≤◌, ℕ, Bool, true, not, List, [], Option, length, Some, None, IsSomeAnd, IfSome}
use Rattle.std.specs.List.{list_any, sum_by}
use Rattle.std.specs.Io.KnownBytes.{Appends, Keeps}
use Rattle.outside_io.specs.Counts.{Rose}
use Rattle.command_words.specs.Jobs.{Job, HeldRun, RecordCheck, Settings, LoadRun, ScheduledRun, default_settings, settings_in}
use Rattle.command_words.specs.Jobs.Job.{Check, Instrument, Replay, Run, Load, Races, Record, Recheck, Hush, Explain}
use Rattle.core_model.specs.Kept.{Replayed}
use Rattle.ir_ast.specs.Programs.{function_instructions}
use Rattle.ir_ast.specs.declared.hosts.HostTable.{HostTable}
use Rattle.ir_ast.specs.declared.program.Program.{Program}
use Rattle.ir_text.specs.Bytes.{most_bytes}
use Rattle.ir_reader.specs.Readings.{Refuses}
use Rattle.ir_reader.specs.declared.fault.ReadFault.{ReadFault}
use Rattle.ir_rules.specs.declared.rule.Rule.{Rule}
use Rattle.ir_rules.specs.Least.{fault}
use Rattle.ir_rules.specs.Rules.{Broken, IsAccepted, IsFirstBroken}
use Rattle.instrument.specs.Translation.{translation}
use Rattle.target_code.specs.Texts.{target_text}
use Rattle.target_code.specs.declared.line.Target.{Target}
use Rattle.history.specs.Records.{empty_record, merged, has_violation}
use Rattle.history.specs.declared.record.RunRecord.{RunRecord}
use Rattle.report.specs.Report.{text_of, status_of, any_end, is_no_memory, is_trap, is_limit}
use Rattle.race_check.specs.Races.{AreFirstRaces}
use Rattle.race_check.specs.Text.{race_text, race_status}
use Rattle.race_check.specs.declared.race.Race.{Race}
use Rattle.explain.specs.Explanations.{AreExplained}
use Rattle.explain.specs.Text.{explain_text}
use Rattle.explain.specs.declared.explained.Explained.{Explained}
use Rattle.record_text.specs.Lines.{record_text}
use Rattle.suppress.specs.Held.{held_text, held_status, is_any_shown}
use Rattle.suppress.specs.declared.rules.Rules.{Rules}
use Rattle.source_sem.specs.Records.{IsRightRecord}
use Rattle.bsan.specs.Words.{Text, origin_of, input_in, rules_in, recheck_in, IsRecheck, IsFrom}
use Rattle.bsan.specs.Seen.{FilesSeen, SinkSeen, Failed, IsFault}
use Rattle.bsan.specs.Lines.{accepted_line, holds_line, load_text}
use Rattle.bsan.specs.Rules.{AreRulesIn, IsRefusedAt, OfRead}
use Rattle.bsan.specs.Rechecks.{TextFact, most_record_bytes, IsRightText, IsWrongText, IsFoundOf, OfReadRecord, IsRecordFault}
use Rattle.bsan.specs.Answer.{OfFile, OfText, OfProgram, OfJob, HasProgram, FindsIn, IsEmptyOrRight, text_for, status_for}
use Rattle.bsan.specs.declared.outcome.LineFault.{LineFault}
use Rattle.bsan.specs.declared.outcome.Outcome.{Outcome}
use Rattle.bsan.specs.declared.outcome.Outcome.TheVariants.{Accepted, Instrumented, RecordHolds, Ran, Loaded, Recorded, Hushed, Raced, Traced}

-- the text was not put whole, or memory ran out
abbrev pub IsCutShort : ℕ → Type 0
IsCutShort answer = (answer ≡ 8) ⊎ (answer ≡ 9)

-- 2: exactly where nothing is asked for
pub record UsageCause (asked : Option Job) (answer : ℕ) : Type 0 where
  pub only : answer ≡ 2 → asked ≡ None
  pub always : asked ≡ None → (answer ≡ 2) ⊎ IsCutShort answer

-- a job is asked for whose program is from a file, and P holds of the content of that, which is told
pub record TellsText (files : FilesSeen) (asked : Option Job) (P : List ℕ → Type 0) : Type 0 where
  pub job : Job
  pub is : asked ≡ Some job
  pub text : List ℕ
  pub content : IsFrom (λ file. files.content file ≡ Some text) (origin_of job)
  pub holds : P text

-- the program's file was not read
abbrev pub IsUnread : FilesSeen → Option Job → Type 0
IsUnread files asked = OfFile asked (λ file. IsFault files file)

-- 7, since the program's file was not read, or a text that was not put whole, or out of memory
abbrev pub ComesBetween : FilesSeen → Option Job → ℕ → Type 0
ComesBetween files asked answer = ((answer ≡ 7) × IsUnread files asked) ⊎ IsCutShort answer

-- the text is refused
abbrev pub IsRefused : List ℕ → Type 0
IsRefused text = (read_fault : ReadFault) × Refuses text read_fault

-- 3: exactly where the text is refused, unless the program's file was not read
pub record NotReadCause (files : FilesSeen) (asked : Option Job) (answer : ℕ) : Type 0 where
  pub only : answer ≡ 3 → OfText files asked IsRefused
  pub always : TellsText files asked IsRefused → (answer ≡ 3) ⊎ ComesBetween files asked answer

-- a rule is broken somewhere; and one is told
abbrev pub IsBroken : HostTable → Program → Type 0
IsBroken hosts program = (rule : Rule) × (at : ℕ) × Broken program hosts rule at

abbrev pub IsBrokenFirst : HostTable → Program → Type 0
IsBrokenFirst hosts program = (rule : Rule) × (at : ℕ) × IsFirstBroken program hosts (fault rule at)

-- 4: exactly where the text is a program's in which a rule is broken, unless the program's file was not read
pub record NotVerifiedCause (files : FilesSeen) (hosts : HostTable) (asked : Option Job) (answer : ℕ) : Type 0 where
  pub only : answer ≡ 4 → OfText files asked (OfProgram (IsBrokenFirst hosts))
  pub always : TellsText files asked (OfProgram (IsBroken hosts)) → (answer ≡ 4) ⊎ ComesBetween files asked answer

-- a job is asked for, and P holds of it and of its program, whose text is told
pub record TellsJob (files : FilesSeen) (asked : Option Job) (P : Job → Program → Type 0) : Type 0 where
  pub job : Job
  pub is : asked ≡ Some job
  pub program : Program
  pub has : HasProgram (λ file text. files.content file ≡ Some text) (origin_of job) program
  pub holds : P job program

-- the content of the file is told, and P holds of it
abbrev pub OfTold : FilesSeen → Text → (List ℕ → Type 0) → Type 0
OfTold files file P = (text : List ℕ) × (files.content file ≡ Some text) × P text

-- a line of the text is refused
abbrev pub HasRefusedLine : Program → List ℕ → Type 0
HasRefusedLine program text = (why : LineFault) × (line : ℕ) × IsRefusedAt program text why line

-- the program is accepted, and a line of the rules is refused: of those that were read; of those that are told
pub record HasRefusedRules (files : FilesSeen) (hosts : HostTable) (job : Job) (program : Program) : Type 0 where
  pub accepted : IsAccepted program hosts
  pub refused : IsSomeAnd (rules_in job) (λ file. OfRead files file (HasRefusedLine program))

pub record TellsRefusedRules (files : FilesSeen) (hosts : HostTable) (job : Job) (program : Program) : Type 0 where
  pub accepted : IsAccepted program hosts
  pub refused : IsSomeAnd (rules_in job) (λ file. OfTold files file (HasRefusedLine program))

-- the file with the rules was not read
abbrev pub AreRulesUnread : FilesSeen → Option Job → Type 0
AreRulesUnread files asked = IsSomeAnd asked (λ job. IsSomeAnd (rules_in job) (λ file. IsFault files file))

-- 12: exactly where the program is accepted and a line of the rules is refused, unless one of the two files was not read
pub record RulesCause (files : FilesSeen) (hosts : HostTable) (asked : Option Job) (answer : ℕ) : Type 0 where
  pub only : answer ≡ 12 → OfJob files asked (HasRefusedRules files hosts)
  pub always : TellsJob files asked (TellsRefusedRules files hosts)
      → (answer ≡ 12) ⊎ ((answer ≡ 7) × AreRulesUnread files asked) ⊎ ComesBetween files asked answer

-- the program is accepted, and P holds of the record's text that was read, with the input that was read
pub record ReadsRecord (P : TextFact) (files : FilesSeen) (hosts : HostTable) (job : Job) (program : Program) : Type 0 where
  pub accepted : IsAccepted program hosts
  pub holds : IsSomeAnd (recheck_in job) (λ check. OfReadRecord files check (λ input text. P program input hosts check.settings.limits text))

-- the input that is told, or none where no file is named
abbrev pub IsToldInput : FilesSeen → Option Text → List ℕ → Type 0
IsToldInput files None input = input ≡ []
IsToldInput files (Some file) input = files.content file ≡ Some input

-- P holds of the input and of the record's text that are told
abbrev pub OfToldRecord : FilesSeen → RecordCheck → (List ℕ → List ℕ → Type 0) → Type 0
OfToldRecord files check P =
    (input : List ℕ) × IsToldInput files check.settings.input input × (text : List ℕ) × (files.content check.record ≡ Some text) × P input text

-- the program is accepted, and P holds of the record's text that is told, with the input that is told
pub record TellsRecord (P : TextFact) (files : FilesSeen) (hosts : HostTable) (job : Job) (program : Program) : Type 0 where
  pub accepted : IsAccepted program hosts
  pub holds : IsSomeAnd (recheck_in job) (λ check. OfToldRecord files check (λ input text. P program input hosts check.settings.limits text))

-- the file with the input, or that with the record, was not read
abbrev pub IsRecordUnread : FilesSeen → Option Job → Type 0
IsRecordUnread files asked =
    IsSomeAnd asked (λ job. IsSomeAnd (input_in job) (λ file. IsFault files file) ⊎ IsSomeAnd (recheck_in job) (λ check. IsRecordFault files check))

-- 7, since one of these was not read, or what comes between of every command
abbrev pub ComesBeforeCheck : FilesSeen → Option Job → ℕ → Type 0
ComesBeforeCheck files asked answer = ((answer ≡ 7) × IsRecordUnread files asked) ⊎ ComesBetween files asked answer

-- 11: exactly where the program is accepted and the record's text is not that of a right record, unless a file was not read;
-- 0 of a check of a record: exactly where it is that of one. A check leaves no record.
pub record RecordCause (files : FilesSeen) (hosts : HostTable) (asked : Option Job) (kept : RunRecord) (answer : ℕ) : Type 0 where
  pub only : answer ≡ 11 → OfJob files asked (ReadsRecord IsWrongText files hosts)
  pub always : TellsJob files asked (TellsRecord IsWrongText files hosts) → (answer ≡ 11) ⊎ ComesBeforeCheck files asked answer
  pub holds_only : IsSomeAnd asked IsRecheck → answer ≡ 0 → OfJob files asked (ReadsRecord IsRightText files hosts)
  pub holds_always : TellsJob files asked (TellsRecord IsRightText files hosts) → (answer ≡ 0) ⊎ ComesBeforeCheck files asked answer
  pub leaves_none : IsSomeAnd asked IsRecheck → kept ≡ empty_record

-- the program is accepted, and the file with the rules, that with the input, or that with the record, was not read
pub record HasUnreadFile (files : FilesSeen) (hosts : HostTable) (job : Job) (program : Program) : Type 0 where
  pub accepted : IsAccepted program hosts
  pub unread : IsSomeAnd (rules_in job) (λ file. IsFault files file)
      ⊎ IsSomeAnd (input_in job) (λ file. IsFault files file)
      ⊎ IsSomeAnd (recheck_in job) (λ check. IsRecordFault files check)

-- 7: only where the program's file was not read, or that of the rules, the input or the record, whose program was accepted
abbrev pub ReadCause : FilesSeen → HostTable → Option Job → ℕ → Type 0
ReadCause files hosts asked answer = answer ≡ 7
    → IsUnread files asked ⊎ OfJob files asked (HasUnreadFile files hosts)

-- 8: only where the sink failed
abbrev pub PutCause : SinkSeen → ℕ → Type 0
PutCause sink answer = answer ≡ 8 → Rose sink.faults_before sink.faults_after

-- what was found is told of a run: its report or the end of that, its record, its races, or what led to its violations
abbrev pub TellsRun : Outcome → Type 0
TellsRun Ran = Unit {0}
TellsRun (Loaded seed size) = Unit {0}
TellsRun Recorded = Unit {0}
TellsRun (Hushed rules) = Unit {0}
TellsRun (Raced races) = Unit {0}
TellsRun (Traced violations) = Unit {0}
TellsRun found = ⊥

-- a run, of which the whole text was put, with its status
pub record RanWhole (files : FilesSeen) (hosts : HostTable) (sink : SinkSeen) (asked : Option Job) (kept : RunRecord) (answer : ℕ) : Type 0 where
  pub found : Outcome
  pub tells : TellsRun found
  pub cause : OfJob files asked (FindsIn files hosts kept found)
  pub status : answer ≡ status_for found kept
  pub text : Appends sink.taken_before sink.taken_after (text_for found kept)

-- a program that was accepted, and this was put
pub record AcceptedWhole (files : FilesSeen) (hosts : HostTable) (sink : SinkSeen) (asked : Option Job) (kept : RunRecord) : Type 0 where
  pub functions : ℕ
  pub instructions : ℕ
  pub cause : OfJob files asked (FindsIn files hosts kept (Accepted functions instructions))
  pub text : Appends sink.taken_before sink.taken_after (accepted_line functions instructions)

-- a program whose target code was made, and whose text was put
pub record InstrumentedWhole (files : FilesSeen) (hosts : HostTable) (sink : SinkSeen) (asked : Option Job) (kept : RunRecord) : Type 0 where
  pub target : Target
  pub cause : OfJob files asked (FindsIn files hosts kept (Instrumented target))
  pub text : Appends sink.taken_before sink.taken_after (target_text target)

-- a record that was found right, and this was put
pub record RecheckedWhole (files : FilesSeen) (hosts : HostTable) (sink : SinkSeen) (asked : Option Job) (kept : RunRecord) : Type 0 where
  pub steps : ℕ
  pub threads : ℕ
  pub cause : OfJob files asked (FindsIn files hosts kept (RecordHolds steps threads))
  pub text : Appends sink.taken_before sink.taken_after (holds_line steps threads)

-- an allocation has a violation
abbrev pub has_violations : RunRecord → Bool
has_violations kept = list_any has_violation kept.allocs

-- whether what was found tells of a violation: of the first one of an allocation, and where rules hold back reports, of one that
-- they do not hold
abbrev pub tells_violation : Outcome → RunRecord → Bool
tells_violation (Hushed rules) kept = is_any_shown rules kept.allocs
tells_violation found kept = has_violations kept

-- a run, of which the whole text was put, and of which this holds
pub record RanWith (files : FilesSeen) (hosts : HostTable) (sink : SinkSeen) (asked : Option Job) (kept : RunRecord) (answer : ℕ) (holds : Outcome → Bool) : Type 0 where
  pub run : RanWhole files hosts sink asked kept answer
  pub shown : holds run.found ≡ true

-- a run with data races, all of whose lines were put, and neither a trap nor a limit that was reached
pub record RacedWhole (files : FilesSeen) (hosts : HostTable) (sink : SinkSeen) (asked : Option Job) (kept : RunRecord) : Type 0 where
  pub races : List Race
  pub cause : OfJob files asked (FindsIn files hosts kept (Raced races))
  pub some : races ≢ []
  pub low : status_of kept ≤ 1
  pub text : Appends sink.taken_before sink.taken_after (race_text kept races)

-- 0: only after a run that tells of no violation, of which the whole text was put, or where a program was accepted or its target code
-- made, or a record found right, and that was put; 1, 5 and 6: only after a run that tells of one, with a trap, or with a limit that
-- was reached, of which the whole text was put; 10: only after a run with data races, whose lines were put
pub record RunCause (files : FilesSeen) (hosts : HostTable) (sink : SinkSeen) (asked : Option Job) (kept : RunRecord) (answer : ℕ) : Type 0 where
  pub clean : answer ≡ 0 → RanWith files hosts sink asked kept answer (λ found. not (tells_violation found kept))
      ⊎ AcceptedWhole files hosts sink asked kept ⊎ InstrumentedWhole files hosts sink asked kept ⊎ RecheckedWhole files hosts sink asked kept
  pub violated : answer ≡ 1 → RanWith files hosts sink asked kept answer (λ found. tells_violation found kept)
  pub trapped : answer ≡ 5 → RanWith files hosts sink asked kept answer (λ found. any_end is_trap kept)
  pub limited : answer ≡ 6 → RanWith files hosts sink asked kept answer (λ found. any_end is_limit kept)
  pub raced : answer ≡ 10 → RacedWhole files hosts sink asked kept

-- nothing was put, and the record is empty or right
pub record PutNothing (files : FilesSeen) (hosts : HostTable) (sink : SinkSeen) (asked : Option Job) (kept : RunRecord) : Type 0 where
  pub nothing : Keeps sink.taken_before sink.taken_after
  pub record_kept : IsEmptyOrRight files hosts asked kept

-- 9: nothing was put, or the whole text of a run in which a thread found no memory
abbrev pub MemoryCause : FilesSeen → HostTable → SinkSeen → Option Job → RunRecord → ℕ → Type 0
MemoryCause files hosts sink asked kept answer = answer ≡ 9
    → PutNothing files hosts sink asked kept ⊎ RanWith files hosts sink asked kept answer (λ found. any_end is_no_memory kept)

-- a status without a run leaves no record
abbrev pub LeavesNone : RunRecord → ℕ → Type 0
LeavesNone kept answer = ((answer ≡ 2) ⊎ (answer ≡ 3) ⊎ (answer ≡ 4) ⊎ (answer ≡ 7) ⊎ (answer ≡ 11) ⊎ (answer ≡ 12)) → kept ≡ empty_record

-- the file's content is told and within this limit, and no read of it fails
pub record IsGivenWithin (limit : ℕ) (files : FilesSeen) (file : Text) (bytes : List ℕ) : Type 0 where
  pub content : files.content file ≡ Some bytes
  pub within : length bytes ≤ limit
  pub no_fault : ¬ Failed files file

-- within the limit of a program, an input and rules
abbrev pub IsGiven : FilesSeen → Text → List ℕ → Type 0
IsGiven files file bytes = IsGivenWithin most_bytes files file bytes

-- the same of the file that a job has for its input; without one the input is empty
abbrev pub IsGivenInput : FilesSeen → Option Text → List ℕ → Type 0
IsGivenInput files None input = input ≡ []
IsGivenInput files (Some file) input = IsGiven files file input

abbrev pub HasInput : FilesSeen → List ℕ → Job → Type 0
HasInput files input job = IfSome (settings_in job) (λ settings. IsGivenInput files settings.input input)

-- the same of a file with rules for the program
abbrev pub AreRulesGiven : FilesSeen → Program → Text → Type 0
AreRulesGiven files program file = (text : List ℕ) × IsGiven files file text × (rules : Rules) × AreRulesIn program text rules

abbrev pub HasRules : FilesSeen → Program → Job → Type 0
HasRules files program job = IfSome (rules_in job) (λ file. AreRulesGiven files program file)

-- the same of a file with a record
abbrev pub HasRecord : FilesSeen → Job → Type 0
HasRecord files job = IfSome (recheck_in job) (λ check. (text : List ℕ) × IsGivenWithin most_record_bytes files check.record text)

-- this job is asked for, its files are told, its program is accepted, and neither they nor the sink fail
pub record AllIsWell (files : FilesSeen) (hosts : HostTable) (sink : SinkSeen) (asked : Option Job) (job : Job) (program : Program) (input : List ℕ) : Type 0 where
  pub is : asked ≡ Some job
  pub has : HasProgram (IsGiven files) (origin_of job) program
  pub accepted : IsAccepted program hosts
  pub has_input : HasInput files input job
  pub has_rules : HasRules files program job
  pub has_record : HasRecord files job
  pub no_put_fault : ¬ Rose sink.faults_before sink.faults_after

-- the run's status, with the whole report, and the record of the program's run with this input
pub record IsReported (hosts : HostTable) (sink : SinkSeen) (kept : RunRecord) (program : Program) (input : List ℕ) (run : ScheduledRun) (answer : ℕ) : Type 0 where
  pub right : Replayed program input hosts run.settings.limits run.schedule kept
  pub status : answer ≡ status_of kept
  pub text : Appends sink.taken_before sink.taken_after (text_of kept)

-- the run's status, with the whole report, and a right record of the program with this input
pub record IsRunRight (hosts : HostTable) (sink : SinkSeen) (kept : RunRecord) (program : Program) (input : List ℕ) (settings : Settings) (answer : ℕ) : Type 0 where
  pub right : IsRightRecord program input hosts settings.limits kept
  pub status : answer ≡ status_of kept
  pub text : Appends sink.taken_before sink.taken_after (text_of kept)

-- the run's status, with the end of its report, and a right record of the generated program without input
pub record IsLoadTold (hosts : HostTable) (sink : SinkSeen) (kept : RunRecord) (program : Program) (run : LoadRun) (answer : ℕ) : Type 0 where
  pub right : IsRightRecord program [] hosts default_settings.limits kept
  pub status : answer ≡ status_of kept
  pub text : Appends sink.taken_before sink.taken_after (load_text run.seed run.size kept)

-- the run's status, with the text of its record, and that a right one of the program with this input
pub record IsWritten (hosts : HostTable) (sink : SinkSeen) (kept : RunRecord) (program : Program) (input : List ℕ) (settings : Settings) (answer : ℕ) : Type 0 where
  pub right : IsRightRecord program input hosts settings.limits kept
  pub status : answer ≡ status_of kept
  pub text : Appends sink.taken_before sink.taken_after (record_text kept)

-- Of the record's text, which is told: 0 with how many steps and threads it has, exactly where it is that of a right record; else
-- 11 with its first wrong line, or with the first clause that is broken. No record is left.
pub record IsRechecked (files : FilesSeen) (hosts : HostTable) (sink : SinkSeen) (kept : RunRecord) (program : Program) (input : List ℕ) (check : RecordCheck) (answer : ℕ) : Type 0 where
  pub told : List ℕ
  pub content : files.content check.record ≡ Some told
  pub found : Outcome
  pub is : IsFoundOf program input hosts check.settings.limits told found
  pub exactly : (answer ≡ 0) ↔ IsRightText program input hosts check.settings.limits told
  pub status : answer ≡ status_for found kept
  pub text : Appends sink.taken_before sink.taken_after (text_for found kept)
  pub none : kept ≡ empty_record

-- the run's status by these rules, with the report without what they hold, and a right record of the program with this input
pub record IsHushed (files : FilesSeen) (hosts : HostTable) (sink : SinkSeen) (kept : RunRecord) (program : Program) (input : List ℕ) (run : HeldRun) (answer : ℕ) : Type 0 where
  pub right : IsRightRecord program input hosts run.settings.limits kept
  pub rules : Rules
  pub are : OfTold files run.rules (λ text. AreRulesIn program text rules)
  pub status : answer ≡ held_status rules kept
  pub text : Appends sink.taken_before sink.taken_after (held_text rules kept)

-- the lines of the run's races, with their status, and the record of the program's run with this input
pub record IsChecked (hosts : HostTable) (sink : SinkSeen) (kept : RunRecord) (program : Program) (input : List ℕ) (run : ScheduledRun) (answer : ℕ) : Type 0 where
  pub right : Replayed program input hosts run.settings.limits run.schedule kept
  pub races : List Race
  pub first : AreFirstRaces (merged kept) races
  pub status : answer ≡ race_status kept races
  pub text : Appends sink.taken_before sink.taken_after (race_text kept races)

-- the run's status, with what led to each first violation, and the record of the program's run with this input
pub record IsExplained (hosts : HostTable) (sink : SinkSeen) (kept : RunRecord) (program : Program) (input : List ℕ) (run : ScheduledRun) (answer : ℕ) : Type 0 where
  pub right : Replayed program input hosts run.settings.limits run.schedule kept
  pub violations : List Explained
  pub explained : AreExplained kept violations
  pub status : answer ≡ status_of kept
  pub text : Appends sink.taken_before sink.taken_after (explain_text kept violations)

-- 0, with how many functions and instructions the program has
pub record IsCounted (sink : SinkSeen) (program : Program) (answer : ℕ) : Type 0 where
  pub status : answer ≡ 0
  pub text : Appends sink.taken_before sink.taken_after
      (accepted_line (length program.functions) (sum_by function_instructions program.functions))

-- 0, with the text of the program's target code
pub record IsTranslated (hosts : HostTable) (sink : SinkSeen) (program : Program) (answer : ℕ) : Type 0 where
  pub status : answer ≡ 0
  pub text : Appends sink.taken_before sink.taken_after (target_text (translation hosts.entries program))

abbrev pub IsServed : FilesSeen → HostTable → SinkSeen → RunRecord → Program → List ℕ → ℕ → Job → Type 0
IsServed files hosts sink kept program input answer (Check file) = IsCounted sink program answer
IsServed files hosts sink kept program input answer (Instrument file) = IsTranslated hosts sink program answer
IsServed files hosts sink kept program input answer (Replay run) = IsReported hosts sink kept program input run answer
IsServed files hosts sink kept program input answer (Run run) = IsRunRight hosts sink kept program input run.settings answer
IsServed files hosts sink kept program input answer (Load run) = IsLoadTold hosts sink kept program run answer
IsServed files hosts sink kept program input answer (Races run) = IsChecked hosts sink kept program input run answer
IsServed files hosts sink kept program input answer (Record run) = IsWritten hosts sink kept program input run.settings answer
IsServed files hosts sink kept program input answer (Recheck check) = IsRechecked files hosts sink kept program input check answer
IsServed files hosts sink kept program input answer (Hush run) = IsHushed files hosts sink kept program input run answer
IsServed files hosts sink kept program input answer (Explain run) = IsExplained hosts sink kept program input run answer

-- where all is well, the job is served, or the call is out of memory
abbrev pub IsComplete : FilesSeen → HostTable → SinkSeen → Option Job → RunRecord → ℕ → Type 0
IsComplete files hosts sink asked kept answer = (job : Job) (program : Program) (input : List ℕ)
    → AllIsWell files hosts sink asked job program input → IsServed files hosts sink kept program input answer job ⊎ (answer ≡ 9)
