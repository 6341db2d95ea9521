-- What is found in a text that is no program's, in a file without a program, and in one with it.
use Rattle.std.proofs.Common.{◌≡◌, ◌≢◌, ◌≤◌, List, ℕ, Option, Some, None, IfSome, IfOk, IsErrOf, Result, Ok, Err, MatchResult, refl, sym, ap, subst, ◌∙◌, arith}
use Rattle.std.specs.Option.{option_map, IsSomeAnd}
use Rattle.bsan_ids.specs.declared.numbers.Limits.{Limits}
use Rattle.bsan_ids.specs.declared.numbers.NoMemory.{NoMemory}
use Rattle.command_words.specs.Jobs.{Job, RecordCheck, Settings, ScheduledRun, default_settings, native_in, on_one_thread}
use Rattle.command_words.specs.Jobs.Job.{Check, Instrument, Replay, Run, Load, Races, Record, Recheck, Hush, Explain}
use Rattle.command_words.specs.Meaning.{job_meant, native_job_meant}
use Rattle.command_words.specs.declared.WordsFault.{WordsFault}
use Rattle.command_words.specs.declared.WordsFault.TheVariants as words
use Rattle.command_words.specs.declared.jobs.Job.{Job as ReadJob}
use Rattle.command_words.specs.declared.jobs.NativeJob.{NativeJob}
use Rattle.ir_ast.specs.declared.hosts.HostTable.{HostTable}
use Rattle.ir_ast.specs.declared.program.Program.{Program}
use Rattle.ir_rules.specs.declared.verified.Verified.{Verified}
use Rattle.ir_text.specs.Bytes.{most_bytes}
use Rattle.outside_io.specs.Counts.{Rose}
use Rattle.outside_io.specs.Reading.{Tells, IsLongerThan}
use Rattle.ir_reader.specs.Readings.{Refuses, IsRefusal}
use Rattle.ir_reader.specs.declared.fault.ReadFault.{ReadFault}
use Rattle.ir_reader.specs.declared.fault.ReadFault.TheVariants as read_fault
use Rattle.history.specs.Records.{empty_record}
use Rattle.history.specs.declared.record.RunRecord.{RunRecord}
use Rattle.bsan.specs.Words.{Text, Origin, origin_of, input_in, rules_in, recheck_in, IsFrom, IsReadOf}
use Rattle.bsan.specs.Words.Origin.{InFile, Generated}
use Rattle.bsan.specs.Seen.{FilesSeen, Failed, WasTooLong, WasRead}
use Rattle.bsan.specs.Runs.{IsInput, IsScheduledRun, IsNativeRun}
use Rattle.bsan.specs.Rules.{AreRulesIn, IsRefusedAt, OfRead}
use Rattle.bsan.specs.Rechecks.{most_record_bytes, IsFoundOf, HasReadInput, OfReadRecord}
use Rattle.bsan.specs.Answer.{OfJob, HasProgram, Serves, FindsIn, HasCause, IsNoProgram, IsLoaded, IsUnloaded}
use Rattle.suppress.specs.declared.rules.Rules.{Rules}
use Rattle.bsan.specs.declared.outcome.Role.TheVariants as role
use Rattle.bsan.specs.declared.outcome.Outcome.{Outcome}
use Rattle.bsan.specs.declared.outcome.Outcome.TheVariants.{Usage, FileFault, TooLong, NotRead, NotVerified, RulesRefused, NotRecord, RecordBroken, Accepted, Instrumented, RecordHolds, Ran, Loaded, Recorded, Hushed, Raced, Traced}

-- what holds of the file that a program is from, where another holds
pub of_origin : (P Q : Text → Type 0) (origin : Origin) → ((name : Text) → P name → Q name) → IsFrom P origin → IsFrom Q origin
of_origin P Q (InFile name) implies is = implies name is
of_origin P Q (Generated run) implies is = absurd is

-- a refusal that is not for memory
refuses : (text : List ℕ) (f : ReadFault) → f ≢ read_fault.NoMemory → IsRefusal text f → Refuses text f
refuses text (read_fault.TooLarge at) some is = is
refuses text (read_fault.BadByte at) some is = is
refuses text (read_fault.IntToPtr at) some is = is
refuses text (read_fault.Unexpected at) some is = is
refuses text (read_fault.NumberTooLarge at) some is = is
refuses text read_fault.NoMemory some is = absurd (some refl)

pub no_text : (hosts : HostTable) (text : List ℕ) (f : ReadFault) (found : Outcome) → f ≢ read_fault.NoMemory → IsRefusal text f → found ≡ NotRead f
    → IsNoProgram hosts text found
no_text hosts text f found some refusal is = subst (IsNoProgram hosts text) (sym is) (refuses text f some refusal)

-- why there is no program of a job is a cause
pub unloaded : (files : FilesSeen) (hosts : HostTable) (asked : Option Job) (kept : RunRecord) (job : Job) (found : Outcome) → asked ≡ Some job
    → kept ≡ empty_record → IsUnloaded files hosts (origin_of job) found → HasCause files hosts asked kept found
unloaded files hosts asked kept job Usage is empty of = absurd of.2
unloaded files hosts asked kept job (FileFault role.Program) is empty of = (record { job = job; is = is; holds = of }, empty)
unloaded files hosts asked kept job (FileFault role.Rules) is empty of = absurd of
unloaded files hosts asked kept job (FileFault role.Input) is empty of = absurd of
unloaded files hosts asked kept job (FileFault role.Record) is empty of = absurd of
unloaded files hosts asked kept job (TooLong role.Program) is empty of = (record { job = job; is = is; holds = of }, empty)
unloaded files hosts asked kept job (TooLong role.Rules) is empty of = absurd of
unloaded files hosts asked kept job (TooLong role.Input) is empty of = absurd of
unloaded files hosts asked kept job (TooLong role.Record) is empty of = absurd of
unloaded files hosts asked kept job (NotRead read_fault) is empty of =
    (record { job = job; is = is; text = of.0; read = of.1; holds = of.2 }, empty)
unloaded files hosts asked kept job (NotVerified rule at) is empty of =
    (record { job = job; is = is; text = of.0; read = of.1; holds = of.2 }, empty)
unloaded files hosts asked kept job (RulesRefused why line) is empty of = absurd of.2
unloaded files hosts asked kept job (NotRecord line) is empty of = absurd of.2
unloaded files hosts asked kept job (RecordBroken clause) is empty of = absurd of.2
unloaded files hosts asked kept job (Accepted functions instructions) is empty of = absurd of.2
unloaded files hosts asked kept job (Instrumented target) is empty of = absurd of.2
unloaded files hosts asked kept job (RecordHolds steps threads) is empty of = absurd of.2
unloaded files hosts asked kept job Ran is empty of = absurd of.2
unloaded files hosts asked kept job (Loaded seed size) is empty of = absurd of.2
unloaded files hosts asked kept job Recorded is empty of = absurd of.2
unloaded files hosts asked kept job (Hushed rules) is empty of = absurd of.2
unloaded files hosts asked kept job (Raced races) is empty of = absurd of.2
unloaded files hosts asked kept job (Traced violations) is empty of = absurd of.2

-- ---- a part of a call that begins later sees no more faults than the call
pub record IsLaterPart (part whole : FilesSeen) : Type 0 where
  pub content : (file : Text) → part.content file ≡ whole.content file
  pub faults_before : (file : Text) → whole.faults_before file ≤ part.faults_before file
  pub faults_after : (file : Text) → part.faults_after file ≡ whole.faults_after file
  pub overlong_before : (file : Text) (limit : ℕ) → whole.overlong_before file limit ≤ part.overlong_before file limit
  pub overlong_after : (file : Text) (limit : ℕ) → part.overlong_after file limit ≡ whole.overlong_after file limit

rose_before : (before later after now : ℕ) → before ≤ later → after ≡ now → Rose later after → Rose before now
rose_before before later after now le same rose = omega (arith, le, same, rose)

later_failed : (part whole : FilesSeen) (file : Text) → IsLaterPart part whole → Failed part file → Failed whole file
later_failed part whole file later failed =
    rose_before (whole.faults_before file) (part.faults_before file) (part.faults_after file) (whole.faults_after file)
    (later.faults_before file) (later.faults_after file) failed

later_too_long : (part whole : FilesSeen) (file : Text) (limit : ℕ) → IsLaterPart part whole → WasTooLong part file limit → WasTooLong whole file limit
later_too_long part whole file limit later long = record {
  rose = rose_before (whole.overlong_before file limit) (part.overlong_before file limit) (part.overlong_after file limit) (whole.overlong_after file limit)
      (later.overlong_before file limit) (later.overlong_after file limit) long.rose;
  longer = subst (IsLongerThan limit) (later.content file) long.longer;
}

same_read : (part whole : FilesSeen) (file : Text) (limit : ℕ) (bytes : List ℕ) → part.content file ≡ whole.content file → WasRead part file limit bytes
    → WasRead whole file limit bytes
same_read part whole file limit bytes same read = record {
  told = subst (λ (o : Option (List ℕ)). Tells o bytes) same read.told;
  within = read.within;
}

later_input : (part whole : FilesSeen) (file : Option Text) (input : List ℕ) → IsLaterPart part whole → IsInput part file input → IsInput whole file input
later_input part whole None input later is = is
later_input part whole (Some file) input later read = same_read part whole file most_bytes input (later.content file) read

later_scheduled : (part whole : FilesSeen) (hosts : HostTable) (kept : RunRecord) (program : Program) (run : ScheduledRun) → IsLaterPart part whole
    → IsScheduledRun part hosts kept program run → IsScheduledRun whole hosts kept program run
later_scheduled part whole hosts kept program run later of = (of.0, later_input part whole run.settings.input of.0 later of.1, of.2)

later_native : (part whole : FilesSeen) (hosts : HostTable) (kept : RunRecord) (program : Program) (settings : Settings) → IsLaterPart part whole
    → IsNativeRun part hosts kept program settings → IsNativeRun whole hosts kept program settings
later_native part whole hosts kept program settings later of = (of.0, later_input part whole settings.input of.0 later of.1, of.2)

of_file : (P Q : Text → Type 0) (file : Option Text) → ((name : Text) → P name → Q name) → IsSomeAnd file P → IsSomeAnd file Q
of_file P Q None implies of = absurd of
of_file P Q (Some name) implies of = implies name of

pub of_check : (P Q : RecordCheck → Type 0) (check : Option RecordCheck) → ((c : RecordCheck) → P c → Q c) → IsSomeAnd check P → IsSomeAnd check Q
of_check P Q None implies of = absurd of
of_check P Q (Some check) implies of = implies check of

-- what holds of the text that was read of a file
later_read : (part whole : FilesSeen) (P : List ℕ → Type 0) (file : Text) → ((name : Text) → part.content name ≡ whole.content name) → OfRead part file P
    → OfRead whole file P
later_read part whole P file same of = (of.0, same_read part whole file most_bytes of.0 (same file) of.1, of.2)

later_rules : (part whole : FilesSeen) (program : Program) (file : Option Text) → IsLaterPart part whole
    → IfSome file (λ name. OfRead part name (λ text. (rules : Rules) × AreRulesIn program text rules))
    → IfSome file (λ name. OfRead whole name (λ text. (rules : Rules) × AreRulesIn program text rules))
later_rules part whole program None later of = of
later_rules part whole program (Some name) later of =
    later_read part whole (λ text. (rules : Rules) × AreRulesIn program text rules) name later.content of

later_has_input : (part whole : FilesSeen) (check : RecordCheck) → IsLaterPart part whole → HasReadInput part check → HasReadInput whole check
later_has_input part whole check later of = (of.0, later_input part whole check.settings.input of.0 later of.1)

later_record : (part whole : FilesSeen) (P : List ℕ → List ℕ → Type 0) (check : RecordCheck) → IsLaterPart part whole → OfReadRecord part check P
    → OfReadRecord whole check P
later_record part whole P check later of = (
  of.0,
  later_input part whole check.settings.input of.0 later of.1,
  of.2,
  same_read part whole check.record most_record_bytes of.2 (later.content check.record) of.3,
  of.4,
)

later_serves : (part whole : FilesSeen) (hosts : HostTable) (kept : RunRecord) (found : Outcome) (program : Program) (job : Job) → IsLaterPart part whole
    → Serves part hosts kept found program job → Serves whole hosts kept found program job
later_serves part whole hosts kept found program (Check file) later serves = serves
later_serves part whole hosts kept found program (Instrument file) later serves = serves
later_serves part whole hosts kept found program (Replay run) later serves =
    (serves.0, later_scheduled part whole hosts kept program run later serves.1)
later_serves part whole hosts kept found program (Run run) later serves =
    (serves.0, later_native part whole hosts kept program run.settings later serves.1)
later_serves part whole hosts kept found program (Load run) later serves =
    (serves.0, later_native part whole hosts kept program default_settings later serves.1)
later_serves part whole hosts kept found program (Races run) later serves =
    (later_scheduled part whole hosts kept program run later serves.0, serves.1)
later_serves part whole hosts kept found program (Record run) later serves =
    (serves.0, later_native part whole hosts kept program run.settings later serves.1)
later_serves part whole hosts kept found program (Recheck check) later serves =
    (later_record part whole (λ input text. IsFoundOf program input hosts check.settings.limits text found) check later serves.0, serves.1)
later_serves part whole hosts kept found program (Hush run) later serves = (
  later_native part whole hosts kept program run.settings later serves.0,
  (serves.1.0, serves.1.1, later_read part whole (λ text. AreRulesIn program text serves.1.0) run.rules later.content serves.1.2),
)
later_serves part whole hosts kept found program (Explain run) later serves =
    (later_scheduled part whole hosts kept program run later serves.0, serves.1)

later_finds : (part whole : FilesSeen) (hosts : HostTable) (kept : RunRecord) (found : Outcome) (job : Job) (program : Program) → IsLaterPart part whole
    → FindsIn part hosts kept found job program → FindsIn whole hosts kept found job program
later_finds part whole hosts kept Usage job program later finds = (finds.0, later_serves part whole hosts kept Usage program job later finds.1)
later_finds part whole hosts kept (FileFault role.Program) job program later finds = (finds.0, later_serves part whole hosts kept (FileFault role.Program) program job later finds.1)
later_finds part whole hosts kept (FileFault role.Rules) job program later finds = (
  finds.0,
  of_file (λ file. Failed part file) (λ file. Failed whole file) (rules_in job) (λ file failed. later_failed part whole file later failed) finds.1,
  finds.2,
)
later_finds part whole hosts kept (FileFault role.Input) job program later finds = (
  finds.0,
  of_file (λ file. Failed part file) (λ file. Failed whole file) (input_in job) (λ file failed. later_failed part whole file later failed) finds.1,
  finds.2,
  later_rules part whole program (rules_in job) later finds.3,
)
later_finds part whole hosts kept (FileFault role.Record) job program later finds = (
  finds.0,
  of_check (λ check. HasReadInput part check × Failed part check.record) (λ check. HasReadInput whole check × Failed whole check.record) (recheck_in job)
      (λ check of. (later_has_input part whole check later of.0, later_failed part whole check.record later of.1)) finds.1,
  finds.2,
)
later_finds part whole hosts kept (TooLong role.Program) job program later finds = (finds.0, later_serves part whole hosts kept (TooLong role.Program) program job later finds.1)
later_finds part whole hosts kept (TooLong role.Rules) job program later finds = (
  finds.0,
  of_file (λ file. WasTooLong part file most_bytes) (λ file. WasTooLong whole file most_bytes) (rules_in job)
      (λ file long. later_too_long part whole file most_bytes later long) finds.1,
  finds.2,
)
later_finds part whole hosts kept (TooLong role.Input) job program later finds = (
  finds.0,
  of_file (λ file. WasTooLong part file most_bytes) (λ file. WasTooLong whole file most_bytes) (input_in job)
      (λ file long. later_too_long part whole file most_bytes later long) finds.1,
  finds.2,
  later_rules part whole program (rules_in job) later finds.3,
)
later_finds part whole hosts kept (TooLong role.Record) job program later finds = (
  finds.0,
  of_check (λ check. HasReadInput part check × WasTooLong part check.record most_record_bytes)
      (λ check. HasReadInput whole check × WasTooLong whole check.record most_record_bytes) (recheck_in job)
      (λ check of. (later_has_input part whole check later of.0, later_too_long part whole check.record most_record_bytes later of.1)) finds.1,
  finds.2,
)
later_finds part whole hosts kept (NotRead read_fault) job program later finds = (finds.0, later_serves part whole hosts kept (NotRead read_fault) program job later finds.1)
later_finds part whole hosts kept (NotVerified rule at) job program later finds = (finds.0, later_serves part whole hosts kept (NotVerified rule at) program job later finds.1)
later_finds part whole hosts kept (RulesRefused why line) job program later finds = (
  finds.0,
  of_file (λ file. OfRead part file (λ text. IsRefusedAt program text why line)) (λ file. OfRead whole file (λ text. IsRefusedAt program text why line)) (rules_in job)
      (λ file of. later_read part whole (λ text. IsRefusedAt program text why line) file later.content of) finds.1,
  finds.2,
)
later_finds part whole hosts kept (NotRecord line) job program later finds = (finds.0, later_serves part whole hosts kept (NotRecord line) program job later finds.1)
later_finds part whole hosts kept (RecordBroken clause) job program later finds = (finds.0, later_serves part whole hosts kept (RecordBroken clause) program job later finds.1)
later_finds part whole hosts kept (Accepted functions instructions) job program later finds = (finds.0, later_serves part whole hosts kept (Accepted functions instructions) program job later finds.1)
later_finds part whole hosts kept (Instrumented target) job program later finds = (finds.0, later_serves part whole hosts kept (Instrumented target) program job later finds.1)
later_finds part whole hosts kept (RecordHolds steps threads) job program later finds = (finds.0, later_serves part whole hosts kept (RecordHolds steps threads) program job later finds.1)
later_finds part whole hosts kept Ran job program later finds = (finds.0, later_serves part whole hosts kept Ran program job later finds.1)
later_finds part whole hosts kept (Loaded seed size) job program later finds = (finds.0, later_serves part whole hosts kept (Loaded seed size) program job later finds.1)
later_finds part whole hosts kept Recorded job program later finds = (finds.0, later_serves part whole hosts kept Recorded program job later finds.1)
later_finds part whole hosts kept (Hushed rules) job program later finds = (finds.0, later_serves part whole hosts kept (Hushed rules) program job later finds.1)
later_finds part whole hosts kept (Raced races) job program later finds = (finds.0, later_serves part whole hosts kept (Raced races) program job later finds.1)
later_finds part whole hosts kept (Traced violations) job program later finds = (finds.0, later_serves part whole hosts kept (Traced violations) program job later finds.1)

-- what a job finds where it is served is no reason why it isn't
abbrev IsServing : Outcome → Type 0
IsServing Usage = ⊥
IsServing (FileFault of) = ⊥
IsServing (TooLong of) = ⊥
IsServing (NotRead read_fault) = ⊥
IsServing (NotVerified rule at) = ⊥
IsServing (RulesRefused why line) = ⊥
IsServing found = Unit {0}

found_serving : (program : Program) (input : List ℕ) (hosts : HostTable) (limits : Limits) (text : List ℕ) (found : Outcome)
    → IsFoundOf program input hosts limits text found → IsServing found
found_serving program input hosts limits text (NotRecord line) of = tt
found_serving program input hosts limits text (RecordBroken clause) of = tt
found_serving program input hosts limits text (RecordHolds steps threads) of = tt
found_serving program input hosts limits text found of = absurd of

serving : (files : FilesSeen) (hosts : HostTable) (kept : RunRecord) (found : Outcome) (program : Program) (job : Job) → Serves files hosts kept found program job
    → IsServing found
serving files hosts kept found program (Check file) serves = subst IsServing (sym serves.0) tt
serving files hosts kept found program (Instrument file) serves = subst IsServing (sym serves.0) tt
serving files hosts kept found program (Replay run) serves = subst IsServing (sym serves.0) tt
serving files hosts kept found program (Run run) serves = subst IsServing (sym serves.0) tt
serving files hosts kept found program (Load run) serves = subst IsServing (sym serves.0) tt
serving files hosts kept found program (Races run) serves = subst IsServing (sym serves.1.1) tt
serving files hosts kept found program (Record run) serves = subst IsServing (sym serves.0) tt
serving files hosts kept found program (Recheck check) serves =
    found_serving program serves.0.0 hosts check.settings.limits serves.0.2 found serves.0.4
serving files hosts kept found program (Hush run) serves = subst IsServing (sym serves.1.1) tt
serving files hosts kept found program (Explain run) serves = subst IsServing (sym serves.1.1) tt

-- what a job finds in its program is a cause
caused : (files : FilesSeen) (hosts : HostTable) (asked : Option Job) (kept : RunRecord) (found : Outcome) → OfJob files asked (FindsIn files hosts kept found)
    → HasCause files hosts asked kept found
caused files hosts asked kept Usage of = absurd (serving files hosts kept Usage of.program of.job of.holds.1)
caused files hosts asked kept (FileFault role.Program) of = absurd (serving files hosts kept (FileFault role.Program) of.program of.job of.holds.1)
caused files hosts asked kept (FileFault role.Rules) of = of
caused files hosts asked kept (FileFault role.Input) of = of
caused files hosts asked kept (FileFault role.Record) of = of
caused files hosts asked kept (TooLong role.Program) of = absurd (serving files hosts kept (TooLong role.Program) of.program of.job of.holds.1)
caused files hosts asked kept (TooLong role.Rules) of = of
caused files hosts asked kept (TooLong role.Input) of = of
caused files hosts asked kept (TooLong role.Record) of = of
caused files hosts asked kept (NotRead read_fault) of = absurd (serving files hosts kept (NotRead read_fault) of.program of.job of.holds.1)
caused files hosts asked kept (NotVerified rule at) of = absurd (serving files hosts kept (NotVerified rule at) of.program of.job of.holds.1)
caused files hosts asked kept (RulesRefused why line) of = of
caused files hosts asked kept (NotRecord line) of = of
caused files hosts asked kept (RecordBroken clause) of = of
caused files hosts asked kept (Accepted functions instructions) of = of
caused files hosts asked kept (Instrumented target) of = of
caused files hosts asked kept (RecordHolds steps threads) of = of
caused files hosts asked kept Ran of = of
caused files hosts asked kept (Loaded seed size) of = of
caused files hosts asked kept Recorded of = of
caused files hosts asked kept (Hushed rules) of = of
caused files hosts asked kept (Raced races) of = of
caused files hosts asked kept (Traced violations) of = of

-- what was loaded is the job's program
has_program : (first whole : FilesSeen) (hosts : HostTable) (origin : Origin) (verified : Verified) → ((file : Text) → first.content file ≡ whole.content file)
    → IsLoaded first hosts origin verified → HasProgram (λ file text. WasRead whole file most_bytes text) origin verified.program
has_program first whole hosts (InFile file) verified same loaded =
    (loaded.0, same_read first whole file most_bytes loaded.0 (same file) loaded.1, loaded.2.0)
has_program first whole hosts (Generated run) verified same loaded = loaded.0

pub loaded_hosts : (files : FilesSeen) (hosts : HostTable) (origin : Origin) (verified : Verified) → IsLoaded files hosts origin verified → verified.hosts ≡ hosts
loaded_hosts files hosts (InFile file) verified loaded = loaded.2.1
loaded_hosts files hosts (Generated run) verified loaded = loaded.1

-- what the rest of a call finds in the program that was loaded is a cause
pub served : (first part whole : FilesSeen) (hosts : HostTable) (asked : Option Job) (kept : RunRecord) (result : Result Outcome NoMemory) (job : Job) (verified : Verified)
    → ((file : Text) → first.content file ≡ whole.content file) → IsLaterPart part whole → asked ≡ Some job → IsLoaded first hosts (origin_of job) verified
    → MatchResult result (λ found. FindsIn part hosts kept found job verified.program) (λ _. kept ≡ empty_record)
    → MatchResult result (HasCause whole hosts asked kept) (λ _. kept ≡ empty_record)
served first part whole hosts asked kept (Err e) job verified same later is loaded finds = finds
served first part whole hosts asked kept (Ok found) job verified same later is loaded finds =
    caused whole hosts asked kept found (record {
      job = job;
      is = is;
      program = verified.program;
      has = has_program first whole hosts (origin_of job) verified same loaded;
      holds = later_finds part whole hosts kept found job verified.program later finds;
    })

-- the value of a result, and its error
pub ok_of : {A E : Type 0} (P : A → Type 0) (Q : E → Type 0) (result : Result A E) (value : A) → result ≡ Ok value → MatchResult result P Q → P value
ok_of P Q (Ok x) value is holds = let same : x ≡ value = cc in subst P same holds
ok_of P Q (Err e) value is holds = absurd cc

pub err_of : {A E : Type 0} (P : A → Type 0) (Q : E → Type 0) (result : Result A E) (error : E) → result ≡ Err error → MatchResult result P Q → Q error
err_of P Q (Ok x) error is holds = absurd cc
err_of P Q (Err e) error is holds = let same : e ≡ error = cc in subst Q same holds

-- ---- what one native thread serves
pub not_alone : (asked : Option Job) (job native : Job) → asked ≡ Some job → native_in job ≡ Some native → on_one_thread asked ≡ None
not_alone asked job native is some = ap on_one_thread is ∙ (rw some refl)

-- a job that is one for native threads
pub native_is : (job native : Job) → native_in job ≡ Some native → job ≡ native
native_is (Check file) native is = absurd cc
native_is (Instrument file) native is = absurd cc
native_is (Replay run) native is = absurd cc
native_is (Run run) native is = cc
native_is (Load run) native is = cc
native_is (Races run) native is = absurd cc
native_is (Record run) native is = cc
native_is (Recheck check) native is = absurd cc
native_is (Hush run) native is = cc
native_is (Explain run) native is = absurd cc

-- what was read of the words, where they ask for this; and where a call can't serve it
pub read_is : (asked : Option Job) (read : Result ReadJob WordsFault) → IfOk read (λ job. asked ≡ Some (job_meant job))
    → (IsErrOf read words.Refused → asked ≡ None) → IsReadOf asked read
read_is asked (Ok job) is none = is
read_is asked (Err words.Refused) is none = none refl
read_is asked (Err words.NoMemory) is none = tt

pub native_read : (asked : Option Job) (read : Result ReadJob WordsFault) (job : ReadJob) (native : Option NativeJob) (one : NativeJob) → IsReadOf asked read
    → read ≡ Ok job → option_map native_job_meant native ≡ native_in (job_meant job) → native ≡ Some one → asked ≡ Some (native_job_meant one)
native_read asked read job native one of is same some =
    let asks : asked ≡ Some (job_meant job) = subst (IsReadOf asked) is of in
    let found : option_map native_job_meant (Some one) ≡ native_in (job_meant job) =
    subst (λ (n : Option NativeJob). option_map native_job_meant n ≡ native_in (job_meant job)) some same in
    asks ∙ ap (λ (j : Job). Some j) (native_is (job_meant job) (native_job_meant one) (sym found))
