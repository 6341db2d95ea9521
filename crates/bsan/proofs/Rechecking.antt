-- A record's text that is told to be right, or wrong, is told so.
use Rattle.std.proofs.Common.{◌≡◌, ◌⊎◌, ℕ, List, Option, Some, None, sym, subst, ◌∙◌, inl, inr}
use Rattle.std.specs.Option.{IsSomeAnd}
use Rattle.bsan_ids.specs.declared.numbers.Limits.{Limits}
use Rattle.command_words.specs.Jobs.{Job, RecordCheck}
use Rattle.command_words.specs.Jobs.Job.{Recheck}
use Rattle.history.specs.declared.record.RunRecord.{RunRecord}
use Rattle.ir_ast.specs.declared.hosts.HostTable.{HostTable}
use Rattle.ir_ast.specs.declared.program.Program.{Program}
use Rattle.ir_reader.specs.Readings.{IsProgramOf, Refuses}
use Rattle.ir_reader.proofs.Verdicts.{not_both}
use Rattle.ir_rules.specs.Least.{fault}
use Rattle.ir_rules.specs.Rules.{IsFirstBroken}
use Rattle.ir_text.specs.Bytes.{most_bytes}
use Rattle.bsan.specs.Words.{Text, origin_of, input_in, rules_in, recheck_in, IsFrom}
use Rattle.bsan.specs.Seen.{FilesSeen, SinkSeen, Failed, WasTooLong, WasRead, IsFault, Puts}
use Rattle.bsan.specs.Rules.{IsRefusedAt, OfRead}
use Rattle.bsan.specs.Runs.{IsInput}
use Rattle.bsan.specs.Rechecks.{TextFact, most_record_bytes, IsFoundOf, HasReadInput, IsRecordFault}
use Rattle.bsan.specs.Answer.{OfText, OfProgram, OfJob, HasProgram, Serves, FindsIn, HasCause, Answers, text_for, status_for}
use Rattle.bsan.specs.Causes.{ComesBetween, ComesBeforeCheck, TellsJob, IsToldInput, OfToldRecord, TellsRecord, IsRecordUnread}
use Rattle.bsan.specs.declared.outcome.Role.TheVariants as role
use Rattle.bsan.specs.declared.outcome.Outcome.{Outcome}
use Rattle.bsan.specs.declared.outcome.Outcome.TheVariants.{Usage, FileFault, TooLong, NotRead, NotVerified, RulesRefused, NotRecord, RecordBroken, Accepted, Instrumented, RecordHolds, Ran, Loaded, Recorded, Hushed, Raced, Traced}
use Rattle.bsan.proofs.Found.{of_check}
use Rattle.bsan.proofs.Complete.{same_job, told_bytes, of_one, unbroken, put_answer, one_put, file_fault, unread_by}
use Rattle.bsan.proofs.Hushing.{same_program, told_text, of_some, rules_or_record}

-- what is found of a text of which P holds has this status
abbrev pub HasStatus : TextFact → ℕ → RunRecord → Type 0
HasStatus P n kept =
    (program : Program) (input : List ℕ) (hosts : HostTable) (limits : Limits) (text : List ℕ) (found : Outcome)
    → IsFoundOf program input hosts limits text found → P program input hosts limits text → status_for found kept ≡ n

-- the input that was read is the one that is told
same_input : (files : FilesSeen) (file : Option Text) (read told : List ℕ) → IsInput files file read → IsToldInput files file told → read ≡ told
same_input files None read told is also = is ∙ sym also
same_input files (Some name) read told is also = told_bytes (files.content name) read told is.told also

-- the same of what a check finds of the text that is told
found_status : (P : TextFact) (n : ℕ) (files : FilesSeen) (hosts : HostTable) (kept : RunRecord) (found : Outcome) (program : Program) (job : Job)
    → HasStatus P n kept → IsSomeAnd (recheck_in job) (λ check. OfToldRecord files check (λ input text. P program input hosts check.settings.limits text))
    → Serves files hosts kept found program job → status_for found kept ≡ n
found_status P n files hosts kept found program (Recheck check) each told serves =
    let input : serves.0.0 ≡ told.0 = same_input files check.settings.input serves.0.0 told.0 serves.0.1 told.1 in
    let text : serves.0.2 ≡ told.2 = told_bytes (files.content check.record) serves.0.2 told.2 serves.0.3.told told.3 in
    each program told.0 hosts check.settings.limits told.2 found
    (subst (λ (t : List ℕ). IsFoundOf program told.0 hosts check.settings.limits t found) text
    (subst (λ (bytes : List ℕ). IsFoundOf program bytes hosts check.settings.limits serves.0.2 found) input serves.0.4)) told.4
found_status P n files hosts kept found program job each told serves = absurd told

pub told_record : (P : TextFact) (n : ℕ) (files : FilesSeen) (hosts : HostTable) (sink : SinkSeen) (asked : Option Job) (kept : RunRecord) (answer : ℕ)
    → HasStatus P n kept → Answers files hosts sink asked kept answer → TellsJob files asked (TellsRecord P files hosts)
    → (answer ≡ n) ⊎ ComesBeforeCheck files asked answer
told_record P n files hosts sink asked kept answer each (inr out) tells = inr (inr (inr (inr out.status)))
told_record P n files hosts sink asked kept answer each (inl told) tells = by_found told.found told.cause told.puts
  where
    in_program : (found : Outcome) → OfJob files asked (FindsIn files hosts kept found) → FindsIn files hosts kept found tells.job tells.program
    in_program found of =
        let same : of.job ≡ tells.job = same_job asked of.job tells.job of.is tells.is in
        let has = subst (λ (j : Job). HasProgram (λ file t. WasRead files file most_bytes t) (origin_of j) of.program) same of.has in
        subst (λ (p : Program). FindsIn files hosts kept found tells.job p) (same_program files (origin_of tells.job) of.program tells.program has tells.has)
        (subst (λ (j : Job). FindsIn files hosts kept found j of.program) same of.holds)

    text_read : (Q : List ℕ → Type 0) (of : OfText files asked Q) → IsProgramOf of.text tells.program
    text_read Q of =
        told_text files (origin_of tells.job) tells.program of.text tells.has
        (subst (λ (j : Job). IsFrom (λ file. WasRead files file most_bytes of.text) (origin_of j)) (same_job asked of.job tells.job of.is tells.is) of.read)

    beside : (answer ≡ n) ⊎ ComesBetween files asked answer → (answer ≡ n) ⊎ ComesBeforeCheck files asked answer
    beside (inl is) = inl is
    beside (inr between) = inr (inr between)

    unread : (text : List ℕ) → IsSomeAnd (input_in tells.job) (λ file. IsFault files file) ⊎ IsSomeAnd (recheck_in tells.job) (λ check. IsRecordFault files check)
        → Puts sink text 7 answer → (answer ≡ n) ⊎ ComesBeforeCheck files asked answer
    unread text why puts =
        let all : IsRecordUnread files asked =
        subst (λ (a : Option Job). IsSomeAnd a (λ job. IsSomeAnd (input_in job) (λ file. IsFault files file) ⊎ IsSomeAnd (recheck_in job) (λ check. IsRecordFault files check)))
        (sym tells.is) why in
        elim (put_answer sink text 7 answer puts) [ inl is ↦ inr (inl (is, all)) | inr cut ↦ inr (inr (inr cut)) ]

    unread_input : (text : List ℕ) (Q : Text → Type 0) → ((file : Text) → Q file → IsFault files file) → IsSomeAnd (input_in tells.job) Q → Puts sink text 7 answer
        → (answer ≡ n) ⊎ ComesBeforeCheck files asked answer
    unread_input text Q fault of puts = unread text (inl (of_some Q (λ file. IsFault files file) (input_in tells.job) fault of)) puts

    unread_record : (text : List ℕ) (Q : RecordCheck → Type 0) → ((check : RecordCheck) → Q check → IsRecordFault files check) → IsSomeAnd (recheck_in tells.job) Q
        → Puts sink text 7 answer → (answer ≡ n) ⊎ ComesBeforeCheck files asked answer
    unread_record text Q fault of puts = unread text (inr (of_check Q (λ check. IsRecordFault files check) (recheck_in tells.job) fault of)) puts

    without_rules : (Q : Text → Type 0) → IsSomeAnd (rules_in tells.job) Q → ⊥
    without_rules Q rules =
        rules_or_record Q (λ check. OfToldRecord files check (λ input text. P tells.program input hosts check.settings.limits text)) tells.job rules tells.holds.holds

    served : (found : Outcome) → Serves files hosts kept found tells.program tells.job → Puts sink (text_for found kept) (status_for found kept) answer
        → (answer ≡ n) ⊎ ComesBeforeCheck files asked answer
    served found serves puts =
        beside (one_put files sink asked (text_for found kept) n answer
        (subst (λ (status : ℕ). Puts sink (text_for found kept) status answer)
        (found_status P n files hosts kept found tells.program tells.job each tells.holds.holds serves) puts))

    by_found : (found : Outcome) → HasCause files hosts asked kept found → Puts sink (text_for found kept) (status_for found kept) answer
        → (answer ≡ n) ⊎ ComesBeforeCheck files asked answer
    by_found Usage cause puts = absurd (let same : None ≡ Some tells.job = sym cause.0 ∙ tells.is in cc)
    by_found (FileFault role.Program) cause puts =
        beside (file_fault files sink asked _ n answer (unread_by files asked (λ file. Failed files file) (λ file is. inl is) cause.0) puts)
    by_found (FileFault role.Rules) cause puts = absurd (without_rules (λ file. Failed files file) (in_program (FileFault role.Rules) cause).1)
    by_found (FileFault role.Input) cause puts = unread_input _ (λ file. Failed files file) (λ file is. inl is) (in_program (FileFault role.Input) cause).1 puts
    by_found (FileFault role.Record) cause puts =
        unread_record _ (λ check. HasReadInput files check × Failed files check.record) (λ check of. inl of.1) (in_program (FileFault role.Record) cause).1 puts
    by_found (TooLong role.Program) cause puts =
        beside (file_fault files sink asked _ n answer (unread_by files asked (λ file. WasTooLong files file most_bytes) (λ file is. inr is) cause.0) puts)
    by_found (TooLong role.Rules) cause puts =
        absurd (without_rules (λ file. WasTooLong files file most_bytes) (in_program (TooLong role.Rules) cause).1)
    by_found (TooLong role.Input) cause puts =
        unread_input _ (λ file. WasTooLong files file most_bytes) (λ file is. inr is) (in_program (TooLong role.Input) cause).1 puts
    by_found (TooLong role.Record) cause puts =
        unread_record _ (λ check. HasReadInput files check × WasTooLong files check.record most_record_bytes) (λ check of. inr of.1)
        (in_program (TooLong role.Record) cause).1 puts
    by_found (NotRead read_fault) cause puts =
        absurd (not_both cause.0.text tells.program read_fault (text_read (λ text. Refuses text read_fault) cause.0) cause.0.holds)
    by_found (NotVerified rule at) cause puts =
        absurd (unbroken tells.program hosts rule at tells.holds.accepted
        (of_one cause.0.text (λ p. IsFirstBroken p hosts (fault rule at)) tells.program
        (text_read (OfProgram (λ p. IsFirstBroken p hosts (fault rule at))) cause.0) cause.0.holds))
    by_found (RulesRefused why line) cause puts =
        absurd (without_rules (λ file. OfRead files file (λ text. IsRefusedAt tells.program text why line)) (in_program (RulesRefused why line) cause).1)
    by_found (NotRecord line) cause puts = served (NotRecord line) (in_program (NotRecord line) cause).1 puts
    by_found (RecordBroken clause) cause puts = served (RecordBroken clause) (in_program (RecordBroken clause) cause).1 puts
    by_found (Accepted functions instructions) cause puts =
        served (Accepted functions instructions) (in_program (Accepted functions instructions) cause).1 puts
    by_found (Instrumented target) cause puts = served (Instrumented target) (in_program (Instrumented target) cause).1 puts
    by_found (RecordHolds steps threads) cause puts = served (RecordHolds steps threads) (in_program (RecordHolds steps threads) cause).1 puts
    by_found Ran cause puts = served Ran (in_program Ran cause).1 puts
    by_found (Loaded seed size) cause puts = served (Loaded seed size) (in_program (Loaded seed size) cause).1 puts
    by_found Recorded cause puts = served Recorded (in_program Recorded cause).1 puts
    by_found (Hushed rules) cause puts = served (Hushed rules) (in_program (Hushed rules) cause).1 puts
    by_found (Raced races) cause puts = served (Raced races) (in_program (Raced races) cause).1 puts
    by_found (Traced violations) cause puts = served (Traced violations) (in_program (Traced violations) cause).1 puts
