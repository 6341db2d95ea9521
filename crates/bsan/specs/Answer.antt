-- What the top call answers: what the work found, why, with which text and status, and the record.
use Rattle.std.specs.Prelude.{◌≡◌, ◌⊎◌, ℕ, List, length, Option, Some, None, IfSome, IsSomeAnd}
use Rattle.std.specs.List.{sum_by}
use Rattle.std.specs.Io.KnownBytes.{Keeps}
use Rattle.command_words.specs.Jobs.{Job, default_settings}
use Rattle.command_words.specs.Jobs.Job.{Check, Instrument, Replay, Run, Load, Races, Record, Recheck, Hush, Explain}
use Rattle.ir_ast.specs.Programs.{function_instructions}
use Rattle.ir_ast.specs.declared.hosts.HostTable.{HostTable}
use Rattle.ir_ast.specs.declared.program.Program.{Program}
use Rattle.ir_text.specs.Bytes.{most_bytes}
use Rattle.ir_reader.specs.Readings.{IsProgramOf, Refuses}
use Rattle.ir_rules.specs.Least.{fault}
use Rattle.ir_rules.specs.Rules.{IsAccepted, IsFirstBroken}
use Rattle.ir_rules.specs.declared.verified.Verified.{Verified}
use Rattle.ir_verify.specs.declared.refusal.VerifyFault.{VerifyFault}
use Rattle.ir_verify.specs.declared.refusal.VerifyFault.TheVariants.{Refused, NoMemory}
use Rattle.instrument.specs.Translation.{translation}
use Rattle.target_code.specs.Texts.{target_text}
use Rattle.outside_io.specs.declared.files.FileFault.{FileFault as Fault}
use Rattle.outside_io.specs.declared.files.FileFault.TheVariants as unread
use Rattle.history.specs.Records.{empty_record, merged, HasDistinctStamps}
use Rattle.history.specs.declared.record.RunRecord.{RunRecord}
use Rattle.report.specs.Report.{text_of, status_of, IsReportable}
use Rattle.race_check.specs.Races.{AreFirstRaces}
use Rattle.race_check.specs.Text.{race_text, race_status}
use Rattle.race_check.specs.declared.race.Race.{Race}
use Rattle.explain.specs.Explanations.{AreExplained, AreHistories}
use Rattle.explain.specs.Text.{explain_text}
use Rattle.explain.specs.declared.explained.Explained.{Explained}
use Rattle.suppress.specs.Held.{held_text, held_status}
use Rattle.suppress.specs.declared.rules.Rules.{Rules}
use Rattle.record_text.specs.Lines.{record_text}
use Rattle.workload.specs.Made.{made}
use Rattle.bsan.specs.Words.{Text, Origin, origin_of, input_in, rules_in, recheck_in, IsFrom}
use Rattle.bsan.specs.Words.Origin.{InFile, Generated}
use Rattle.bsan.specs.Seen.{FilesSeen, SinkSeen, Failed, WasTooLong, WasRead, Puts}
use Rattle.bsan.specs.Lines.{usage_text, file_fault_line, too_long_line, fault_line, rule_line, rules_line, record_line, clause_line, holds_line, load_text, accepted_line}
use Rattle.bsan.specs.Runs.{IsScheduledRun, IsNativeRun, IsOfRun}
use Rattle.bsan.specs.Rules.{AreRulesIn, IsRefusedAt, OfRead}
use Rattle.bsan.specs.Rechecks.{most_record_bytes, IsFoundOf, HasReadInput, OfReadRecord}
use Rattle.bsan.specs.declared.outcome.Role.{Role}
use Rattle.bsan.specs.declared.outcome.Role.TheVariants as role
use Rattle.bsan.specs.declared.outcome.Outcome.{Outcome}
use Rattle.bsan.specs.declared.outcome.Outcome.TheVariants.{Usage, FileFault, TooLong, NotRead, NotVerified, RulesRefused, NotRecord, RecordBroken, Accepted, Instrumented, RecordHolds, Ran, Loaded, Recorded, Hushed, Raced, Traced}

-- what was found is what the verifier told
abbrev pub IsBrokenRule : VerifyFault → Outcome → Type 0
IsBrokenRule (Refused rule at) found = found ≡ NotVerified rule at
IsBrokenRule NoMemory found = ⊥

-- what was found is why the file of this role was not read
abbrev pub IsUnreadFile : Role → Fault → Outcome → Type 0
IsUnreadFile of unread.Failed found = found ≡ FileFault of
IsUnreadFile of unread.TooLong found = found ≡ TooLong of
IsUnreadFile of unread.NoMemory found = ⊥

-- what was found is the data races of the record
abbrev pub IsRaced : RunRecord → Outcome → Type 0
IsRaced kept found = (races : List Race) × (found ≡ Raced races) × AreFirstRaces (merged kept) races

-- what was found is what led to its first violations
abbrev pub IsTraced : RunRecord → Outcome → Type 0
IsTraced kept found = (violations : List Explained) × (found ≡ Traced violations) × AreExplained kept violations

-- the status of what the work found
abbrev pub status_for : Outcome → RunRecord → ℕ
status_for Usage kept = 2
status_for (FileFault of) kept = 7
status_for (TooLong of) kept = 7
status_for (NotRead read_fault) kept = 3
status_for (NotVerified rule at) kept = 4
status_for (RulesRefused why line) kept = 12
status_for (NotRecord line) kept = 11
status_for (RecordBroken clause) kept = 11
status_for (Accepted functions instructions) kept = 0
status_for (Instrumented target) kept = 0
status_for (RecordHolds steps threads) kept = 0
status_for Ran kept = status_of kept
status_for (Loaded seed size) kept = status_of kept
status_for Recorded kept = status_of kept
status_for (Hushed rules) kept = held_status rules kept
status_for (Raced races) kept = race_status kept races
status_for (Traced violations) kept = status_of kept

-- its text
abbrev pub text_for : Outcome → RunRecord → List ℕ
text_for Usage kept = usage_text
text_for (FileFault of) kept = file_fault_line of
text_for (TooLong of) kept = too_long_line of
text_for (NotRead read_fault) kept = fault_line read_fault
text_for (NotVerified rule at) kept = rule_line rule at
text_for (RulesRefused why line) kept = rules_line why line
text_for (NotRecord line) kept = record_line line
text_for (RecordBroken clause) kept = clause_line clause
text_for (Accepted functions instructions) kept = accepted_line functions instructions
text_for (Instrumented target) kept = target_text target
text_for (RecordHolds steps threads) kept = holds_line steps threads
text_for Ran kept = text_of kept
text_for (Loaded seed size) kept = load_text seed size kept
text_for Recorded kept = record_text kept
text_for (Hushed rules) kept = held_text rules kept
text_for (Raced races) kept = race_text kept races
text_for (Traced violations) kept = explain_text kept violations

-- its text can be made
abbrev pub CanBeTold : Outcome → RunRecord → Type 0
CanBeTold Ran kept = IsReportable kept
CanBeTold (Loaded seed size) kept = IsReportable kept
CanBeTold (Hushed rules) kept = IsReportable kept
CanBeTold (Raced races) kept = HasDistinctStamps kept × AreFirstRaces (merged kept) races
CanBeTold (Traced violations) kept = AreHistories kept.allocs × HasDistinctStamps kept × AreExplained kept violations
CanBeTold found kept = Unit {0}

-- the program of a job: that of a text, where R says which text that of its file is; or the generated one
abbrev pub HasProgram : (Text → List ℕ → Type 0) → Origin → Program → Type 0
HasProgram R (InFile file) program = (text : List ℕ) × R file text × IsProgramOf text program
HasProgram R (Generated run) program = program ≡ made run.seed run.size

-- a job is asked for whose program is from a file, and P holds of that
pub record OfFile (asked : Option Job) (P : Text → Type 0) : Type 0 where
  pub job : Job
  pub is : asked ≡ Some job
  pub holds : IsFrom P (origin_of job)

-- a job is asked for whose program is from a file, and P holds of the text that was read of that
pub record OfText (files : FilesSeen) (asked : Option Job) (P : List ℕ → Type 0) : Type 0 where
  pub job : Job
  pub is : asked ≡ Some job
  pub text : List ℕ
  pub read : IsFrom (λ file. WasRead files file most_bytes text) (origin_of job)
  pub holds : P text

-- the text is a program's of which P holds
pub record OfProgram (P : Program → Type 0) (text : List ℕ) : Type 0 where
  pub program : Program
  pub reads : IsProgramOf text program
  pub holds : P program

-- a job is asked for, and P holds of it and of its program
pub record OfJob (files : FilesSeen) (asked : Option Job) (P : Job → Program → Type 0) : Type 0 where
  pub job : Job
  pub is : asked ≡ Some job
  pub program : Program
  pub has : HasProgram (λ file text. WasRead files file most_bytes text) (origin_of job) program
  pub holds : P job program

-- the text is a program's, which was verified with these hosts
abbrev pub IsParsed : HostTable → List ℕ → Verified → Type 0
IsParsed hosts text verified = IsProgramOf text verified.program × (verified.hosts ≡ hosts)

-- why it is not
abbrev pub IsNoProgram : HostTable → List ℕ → Outcome → Type 0
IsNoProgram hosts text (NotRead read_fault) = Refuses text read_fault
IsNoProgram hosts text (NotVerified rule at) = OfProgram (λ program. IsFirstBroken program hosts (fault rule at)) text
IsNoProgram hosts text found = ⊥

-- the file was read, and its text is so; or the program was generated
abbrev pub IsLoaded : FilesSeen → HostTable → Origin → Verified → Type 0
IsLoaded files hosts (InFile file) verified = (text : List ℕ) × WasRead files file most_bytes text × IsParsed hosts text verified
IsLoaded files hosts (Generated run) verified = (verified.program ≡ made run.seed run.size) × (verified.hosts ≡ hosts)

-- why it was not, or is not
abbrev pub IsUnloaded : FilesSeen → HostTable → Origin → Outcome → Type 0
IsUnloaded files hosts origin (FileFault role.Program) = IsFrom (λ file. Failed files file) origin
IsUnloaded files hosts origin (FileFault role.Rules) = ⊥
IsUnloaded files hosts origin (FileFault role.Input) = ⊥
IsUnloaded files hosts origin (FileFault role.Record) = ⊥
IsUnloaded files hosts origin (TooLong role.Program) = IsFrom (λ file. WasTooLong files file most_bytes) origin
IsUnloaded files hosts origin (TooLong role.Rules) = ⊥
IsUnloaded files hosts origin (TooLong role.Input) = ⊥
IsUnloaded files hosts origin (TooLong role.Record) = ⊥
IsUnloaded files hosts origin found = (text : List ℕ) × IsFrom (λ file. WasRead files file most_bytes text) origin × IsNoProgram hosts text found

-- what was found is the rules that were read of a file, for this program
abbrev pub AreHeldBy : FilesSeen → Program → Text → Outcome → Type 0
AreHeldBy files program file found = (rules : Rules) × (found ≡ Hushed rules) × OfRead files file (λ text. AreRulesIn program text rules)

-- where the job has a file with rules, rules for the program were read of it
abbrev pub HasReadRules : FilesSeen → Program → Job → Type 0
HasReadRules files program job = IfSome (rules_in job) (λ file. OfRead files file (λ text. (rules : Rules) × AreRulesIn program text rules))

-- what a job finds in its accepted program with its input, and what record it leaves
abbrev pub Serves : FilesSeen → HostTable → RunRecord → Outcome → Program → Job → Type 0
Serves files hosts kept found program (Check file) =
    (found ≡ Accepted (length program.functions) (sum_by function_instructions program.functions)) × (kept ≡ empty_record)
Serves files hosts kept found program (Instrument file) =
    (found ≡ Instrumented (translation hosts.entries program)) × (kept ≡ empty_record)
Serves files hosts kept found program (Replay run) = (found ≡ Ran) × IsScheduledRun files hosts kept program run
Serves files hosts kept found program (Run run) = (found ≡ Ran) × IsNativeRun files hosts kept program run.settings
Serves files hosts kept found program (Load run) =
    (found ≡ Loaded run.seed run.size) × IsNativeRun files hosts kept program default_settings
Serves files hosts kept found program (Races run) = IsScheduledRun files hosts kept program run × IsRaced kept found
Serves files hosts kept found program (Record run) = (found ≡ Recorded) × IsNativeRun files hosts kept program run.settings
Serves files hosts kept found program (Recheck check) =
    OfReadRecord files check (λ input text. IsFoundOf program input hosts check.settings.limits text found) × (kept ≡ empty_record)
Serves files hosts kept found program (Hush run) =
    IsNativeRun files hosts kept program run.settings × AreHeldBy files program run.rules found
Serves files hosts kept found program (Explain run) = IsScheduledRun files hosts kept program run × IsTraced kept found

-- what a job finds in its program, which is accepted, and what record it leaves
abbrev pub FindsIn : FilesSeen → HostTable → RunRecord → Outcome → Job → Program → Type 0
FindsIn files hosts kept (FileFault role.Rules) job program =
    IsAccepted program hosts × IsSomeAnd (rules_in job) (λ file. Failed files file) × (kept ≡ empty_record)
FindsIn files hosts kept (TooLong role.Rules) job program =
    IsAccepted program hosts × IsSomeAnd (rules_in job) (λ file. WasTooLong files file most_bytes) × (kept ≡ empty_record)
FindsIn files hosts kept (RulesRefused why line) job program =
    IsAccepted program hosts × IsSomeAnd (rules_in job) (λ file. OfRead files file (λ text. IsRefusedAt program text why line)) × (kept ≡ empty_record)
FindsIn files hosts kept (FileFault role.Input) job program =
    IsAccepted program hosts × IsSomeAnd (input_in job) (λ file. Failed files file) × (kept ≡ empty_record) × HasReadRules files program job
FindsIn files hosts kept (TooLong role.Input) job program =
    IsAccepted program hosts × IsSomeAnd (input_in job) (λ file. WasTooLong files file most_bytes) × (kept ≡ empty_record) × HasReadRules files program job
FindsIn files hosts kept (FileFault role.Record) job program =
    IsAccepted program hosts × IsSomeAnd (recheck_in job) (λ check. HasReadInput files check × Failed files check.record) × (kept ≡ empty_record)
FindsIn files hosts kept (TooLong role.Record) job program =
    IsAccepted program hosts × IsSomeAnd (recheck_in job) (λ check. HasReadInput files check × WasTooLong files check.record most_record_bytes)
    × (kept ≡ empty_record)
FindsIn files hosts kept found job program = IsAccepted program hosts × Serves files hosts kept found program job

-- why the work found this, and what record it left
abbrev pub HasCause : FilesSeen → HostTable → Option Job → RunRecord → Outcome → Type 0
HasCause files hosts asked kept Usage = (asked ≡ None) × (kept ≡ empty_record)
HasCause files hosts asked kept (FileFault role.Program) = OfFile asked (λ file. Failed files file) × (kept ≡ empty_record)
HasCause files hosts asked kept (TooLong role.Program) =
    OfFile asked (λ file. WasTooLong files file most_bytes) × (kept ≡ empty_record)
HasCause files hosts asked kept (NotRead read_fault) =
    OfText files asked (λ text. Refuses text read_fault) × (kept ≡ empty_record)
HasCause files hosts asked kept (NotVerified rule at) =
    OfText files asked (OfProgram (λ program. IsFirstBroken program hosts (fault rule at))) × (kept ≡ empty_record)
HasCause files hosts asked kept found = OfJob files asked (FindsIn files hosts kept found)

-- the job's program is accepted, and the record is that of the run that was asked for
abbrev pub OfRun : FilesSeen → HostTable → Option Job → RunRecord → Type 0
OfRun files hosts asked kept = OfJob files asked (λ job program. IsAccepted program hosts × IsOfRun files hosts kept program job)

-- the record is empty, or that of the run that was asked for
abbrev pub IsEmptyOrRight : FilesSeen → HostTable → Option Job → RunRecord → Type 0
IsEmptyOrRight files hosts asked kept = (kept ≡ empty_record) ⊎ OfRun files hosts asked kept

-- one put of the text of what was found; or out of memory before it
abbrev pub IsTold : SinkSeen → Outcome → RunRecord → ℕ → Type 0
IsTold sink found kept answer =
    Puts sink (text_for found kept) (status_for found kept) answer ⊎ (answer ≡ 9) × Keeps sink.taken_before sink.taken_after

-- the work found something, and its text was put
pub record Told (files : FilesSeen) (hosts : HostTable) (sink : SinkSeen) (asked : Option Job) (kept : RunRecord) (answer : ℕ) : Type 0 where
  pub found : Outcome
  pub cause : HasCause files hosts asked kept found
  pub puts : Puts sink (text_for found kept) (status_for found kept) answer

-- out of memory before anything was put
pub record RanOut (files : FilesSeen) (hosts : HostTable) (sink : SinkSeen) (asked : Option Job) (kept : RunRecord) (answer : ℕ) : Type 0 where
  pub status : answer ≡ 9
  pub nothing : Keeps sink.taken_before sink.taken_after
  pub record_kept : IsEmptyOrRight files hosts asked kept

-- the clause of the top call
abbrev pub Answers : FilesSeen → HostTable → SinkSeen → Option Job → RunRecord → ℕ → Type 0
Answers files hosts sink asked kept answer =
    Told files hosts sink asked kept answer ⊎ RanOut files hosts sink asked kept answer
