-- Rules of which a line is refused are told so.
use Rattle.std.proofs.Common.{◌≡◌, ◌⊎◌, ℕ, List, Option, Some, None, IfSome, sym, subst, ◌∙◌, inl, inr}
use Rattle.std.specs.Option.{IsSomeAnd}
use Rattle.command_words.specs.Jobs.{Job, RecordCheck}
use Rattle.command_words.specs.Jobs.Job.{Check, Instrument, Replay, Run, Load, Races, Record, Recheck, Hush, Explain}
use Rattle.history.specs.declared.record.RunRecord.{RunRecord}
use Rattle.ir_ast.specs.declared.hosts.HostTable.{HostTable}
use Rattle.ir_ast.specs.declared.program.Program.{Program}
use Rattle.ir_reader.specs.Readings.{IsProgramOf, Refuses}
use Rattle.ir_reader.proofs.Verdicts.{one_program, not_both}
use Rattle.ir_rules.specs.Least.{fault}
use Rattle.ir_rules.specs.Rules.{IsFirstBroken}
use Rattle.ir_text.specs.Bytes.{most_bytes}
use Rattle.suppress.specs.declared.rules.Rules.{Rules}
use Rattle.bsan.specs.Words.{Text, Origin, origin_of, rules_in, recheck_in, IsFrom}
use Rattle.bsan.specs.Words.Origin.{InFile, Generated}
use Rattle.bsan.specs.Seen.{FilesSeen, SinkSeen, Failed, WasTooLong, WasRead, IsFault, Puts}
use Rattle.bsan.specs.Rules.{AreRulesIn, OfRead}
use Rattle.bsan.specs.Rechecks.{most_record_bytes, HasReadInput}
use Rattle.bsan.specs.Answer.{OfText, OfProgram, OfJob, HasProgram, Serves, FindsIn, HasCause, Answers, text_for, status_for}
use Rattle.bsan.specs.Causes.{ComesBetween, TellsJob, OfTold, HasRefusedLine, TellsRefusedRules, AreRulesUnread}
use Rattle.bsan.specs.declared.outcome.Role.TheVariants as role
use Rattle.bsan.specs.declared.outcome.Outcome.{Outcome}
use Rattle.bsan.specs.declared.outcome.Outcome.TheVariants.{Usage, FileFault, TooLong, NotRead, NotVerified, RulesRefused, NotRecord, RecordBroken, Accepted, Instrumented, RecordHolds, Ran, Loaded, Recorded, Hushed, Raced, Traced}
use Rattle.bsan.proofs.Complete.{same_job, told_bytes, of_one, unbroken, put_answer, one_put, file_fault, unread_by, taken_or_refused, read_is_told}

-- the program of a text that is told is the one that was read
pub same_program : (files : FilesSeen) (origin : Origin) (read told : Program) → HasProgram (λ file text. WasRead files file most_bytes text) origin read
    → HasProgram (λ file text. files.content file ≡ Some text) origin told → read ≡ told
same_program files (InFile file) read told has tells =
    one_program tells.0 read told
    (subst (λ (t : List ℕ). IsProgramOf t read) (told_bytes (files.content file) has.0 tells.0 has.1.told tells.1) has.2) tells.2
same_program files (Generated run) read told has tells = has ∙ sym tells

-- and the text that was read is that program's
pub told_text : (files : FilesSeen) (origin : Origin) (program : Program) (text : List ℕ) → HasProgram (λ file t. files.content file ≡ Some t) origin program
    → IsFrom (λ file. WasRead files file most_bytes text) origin → IsProgramOf text program
told_text files (InFile file) program text tells read =
    subst (λ (t : List ℕ). IsProgramOf t program) (sym (told_bytes (files.content file) text tells.0 read.told tells.1)) tells.2
told_text files (Generated run) program text tells read = absurd read

-- a file whose text is told to have a line that is refused has no rules
not_taken : (files : FilesSeen) (program : Program) (name : Text) → OfTold files name (HasRefusedLine program)
    → OfRead files name (λ text. (rules : Rules) × AreRulesIn program text rules) → ⊥
not_taken files program name told read =
    let rules = read_is_told files name told.0 (λ text. (rules : Rules) × AreRulesIn program text rules) told.1 read in
    taken_or_refused program told.0 rules.0 told.2.0 told.2.1 rules.1 told.2.2

not_taken_in : (files : FilesSeen) (program : Program) (file : Option Text) → IsSomeAnd file (λ name. OfTold files name (HasRefusedLine program))
    → IfSome file (λ name. OfRead files name (λ text. (rules : Rules) × AreRulesIn program text rules)) → ⊥
not_taken_in files program None told read = told
not_taken_in files program (Some name) told read = not_taken files program name told read

-- a job whose rules are refused isn't served
not_served : (files : FilesSeen) (hosts : HostTable) (kept : RunRecord) (found : Outcome) (program : Program) (job : Job)
    → IsSomeAnd (rules_in job) (λ name. OfTold files name (HasRefusedLine program)) → Serves files hosts kept found program job → ⊥
not_served files hosts kept found program (Check file) told serves = told
not_served files hosts kept found program (Instrument file) told serves = told
not_served files hosts kept found program (Replay run) told serves = told
not_served files hosts kept found program (Run run) told serves = told
not_served files hosts kept found program (Load run) told serves = told
not_served files hosts kept found program (Races run) told serves = told
not_served files hosts kept found program (Record run) told serves = told
not_served files hosts kept found program (Recheck check) told serves = told
not_served files hosts kept found program (Hush run) told serves =
    not_taken files program run.rules told (serves.1.2.0, serves.1.2.1, (serves.1.0, serves.1.2.2))
not_served files hosts kept found program (Explain run) told serves = told

pub of_some : (P Q : Text → Type 0) (file : Option Text) → ((name : Text) → P name → Q name) → IsSomeAnd file P → IsSomeAnd file Q
of_some P Q None implies of = of
of_some P Q (Some name) implies of = implies name of

-- no job has both rules and a record
pub rules_or_record : (P : Text → Type 0) (Q : RecordCheck → Type 0) (job : Job) → IsSomeAnd (rules_in job) P → IsSomeAnd (recheck_in job) Q → ⊥
rules_or_record P Q (Recheck check) rules checks = rules
rules_or_record P Q (Hush run) rules checks = checks
rules_or_record P Q job rules checks = rules

pub told_rules : (files : FilesSeen) (hosts : HostTable) (sink : SinkSeen) (asked : Option Job) (kept : RunRecord) (answer : ℕ)
    → Answers files hosts sink asked kept answer → TellsJob files asked (TellsRefusedRules files hosts)
    → (answer ≡ 12) ⊎ ((answer ≡ 7) × AreRulesUnread files asked) ⊎ ComesBetween files asked answer
told_rules files hosts sink asked kept answer (inr out) tells = inr (inr (inr (inr out.status)))
told_rules files hosts sink asked kept answer (inl told) tells = by_found told.found told.cause told.puts
  where
    in_program : (found : Outcome) → OfJob files asked (FindsIn files hosts kept found) → FindsIn files hosts kept found tells.job tells.program
    in_program found of =
        let same : of.job ≡ tells.job = same_job asked of.job tells.job of.is tells.is in
        let has = subst (λ (j : Job). HasProgram (λ file t. WasRead files file most_bytes t) (origin_of j) of.program) same of.has in
        subst (λ (p : Program). FindsIn files hosts kept found tells.job p) (same_program files (origin_of tells.job) of.program tells.program has tells.has)
        (subst (λ (j : Job). FindsIn files hosts kept found j of.program) same of.holds)

    text_read : (P : List ℕ → Type 0) (of : OfText files asked P) → IsProgramOf of.text tells.program
    text_read P of =
        told_text files (origin_of tells.job) tells.program of.text tells.has
        (subst (λ (j : Job). IsFrom (λ file. WasRead files file most_bytes of.text) (origin_of j)) (same_job asked of.job tells.job of.is tells.is) of.read)

    beside : (answer ≡ 12) ⊎ ComesBetween files asked answer → (answer ≡ 12) ⊎ ((answer ≡ 7) × AreRulesUnread files asked) ⊎ ComesBetween files asked answer
    beside (inl is) = inl is
    beside (inr between) = inr (inr between)

    unread : (text : List ℕ) (P : Text → Type 0) → ((file : Text) → P file → IsFault files file) → IsSomeAnd (rules_in tells.job) P → Puts sink text 7 answer
        → (answer ≡ 12) ⊎ ((answer ≡ 7) × AreRulesUnread files asked) ⊎ ComesBetween files asked answer
    unread text P fault of puts =
        let rules : IsSomeAnd (rules_in tells.job) (λ file. IsFault files file) = of_some P (λ file. IsFault files file) (rules_in tells.job) fault of in
        let all : AreRulesUnread files asked =
        subst (λ (a : Option Job). IsSomeAnd a (λ job. IsSomeAnd (rules_in job) (λ file. IsFault files file))) (sym tells.is) rules in
        elim (put_answer sink text 7 answer puts) [ inl is ↦ inr (inl (is, all)) | inr cut ↦ inr (inr (inr cut)) ]

    unless : (found : Outcome) → Serves files hosts kept found tells.program tells.job → ⊥
    unless found serves = not_served files hosts kept found tells.program tells.job tells.holds.refused serves

    by_found : (found : Outcome) → HasCause files hosts asked kept found → Puts sink (text_for found kept) (status_for found kept) answer
        → (answer ≡ 12) ⊎ ((answer ≡ 7) × AreRulesUnread files asked) ⊎ ComesBetween files asked answer
    by_found Usage cause puts = absurd (let same : None ≡ Some tells.job = sym cause.0 ∙ tells.is in cc)
    by_found (FileFault role.Program) cause puts =
        beside (file_fault files sink asked _ 12 answer (unread_by files asked (λ file. Failed files file) (λ file is. inl is) cause.0) puts)
    by_found (FileFault role.Rules) cause puts = unread _ (λ file. Failed files file) (λ file is. inl is) (in_program (FileFault role.Rules) cause).1 puts
    by_found (FileFault role.Record) cause puts =
        absurd (rules_or_record (λ name. OfTold files name (HasRefusedLine tells.program)) (λ check. HasReadInput files check × Failed files check.record)
        tells.job tells.holds.refused (in_program (FileFault role.Record) cause).1)
    by_found (FileFault role.Input) cause puts =
        absurd (not_taken_in files tells.program (rules_in tells.job) tells.holds.refused (in_program (FileFault role.Input) cause).3)
    by_found (TooLong role.Program) cause puts =
        beside (file_fault files sink asked _ 12 answer (unread_by files asked (λ file. WasTooLong files file most_bytes) (λ file is. inr is) cause.0) puts)
    by_found (TooLong role.Rules) cause puts =
        unread _ (λ file. WasTooLong files file most_bytes) (λ file is. inr is) (in_program (TooLong role.Rules) cause).1 puts
    by_found (TooLong role.Record) cause puts =
        absurd (rules_or_record (λ name. OfTold files name (HasRefusedLine tells.program))
        (λ check. HasReadInput files check × WasTooLong files check.record most_record_bytes) tells.job tells.holds.refused
        (in_program (TooLong role.Record) cause).1)
    by_found (TooLong role.Input) cause puts =
        absurd (not_taken_in files tells.program (rules_in tells.job) tells.holds.refused (in_program (TooLong role.Input) cause).3)
    by_found (NotRead read_fault) cause puts =
        absurd (not_both cause.0.text tells.program read_fault (text_read (λ text. Refuses text read_fault) cause.0) cause.0.holds)
    by_found (NotVerified rule at) cause puts =
        absurd (unbroken tells.program hosts rule at tells.holds.accepted
        (of_one cause.0.text (λ p. IsFirstBroken p hosts (fault rule at)) tells.program
        (text_read (OfProgram (λ p. IsFirstBroken p hosts (fault rule at))) cause.0) cause.0.holds))
    by_found (RulesRefused why line) cause puts = beside (one_put files sink asked _ 12 answer puts)
    by_found (NotRecord line) cause puts = absurd (unless (NotRecord line) (in_program (NotRecord line) cause).1)
    by_found (RecordBroken clause) cause puts = absurd (unless (RecordBroken clause) (in_program (RecordBroken clause) cause).1)
    by_found (Accepted functions instructions) cause puts =
        absurd (unless (Accepted functions instructions) (in_program (Accepted functions instructions) cause).1)
    by_found (Instrumented target) cause puts = absurd (unless (Instrumented target) (in_program (Instrumented target) cause).1)
    by_found (RecordHolds steps threads) cause puts =
        absurd (unless (RecordHolds steps threads) (in_program (RecordHolds steps threads) cause).1)
    by_found Ran cause puts = absurd (unless Ran (in_program Ran cause).1)
    by_found (Loaded seed size) cause puts = absurd (unless (Loaded seed size) (in_program (Loaded seed size) cause).1)
    by_found Recorded cause puts = absurd (unless Recorded (in_program Recorded cause).1)
    by_found (Hushed rules) cause puts = absurd (unless (Hushed rules) (in_program (Hushed rules) cause).1)
    by_found (Raced races) cause puts = absurd (unless (Raced races) (in_program (Raced races) cause).1)
    by_found (Traced violations) cause puts = absurd (unless (Traced violations) (in_program (Traced violations) cause).1)
