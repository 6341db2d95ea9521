-- What follows from the clause of the top call where a content is told.
use Rattle.std.proofs.Common.{◌≡◌, ◌≤◌, ◌⊎◌, ℕ, List, length, Option, Some, None, IfSome, sym, ap, subst, ◌∙◌, arith, inl, inr}
use Rattle.std.specs.Io.KnownBytes.{Appends}
use Rattle.std.specs.Option.{IsSomeAnd, option_and_then}
use Rattle.outside_io.specs.Reading.{Tells, IsLongerThan}
use Rattle.command_words.specs.Jobs.{Job, RecordCheck, Settings, ScheduledRun, default_settings, settings_in}
use Rattle.command_words.specs.Jobs.Job.{Check, Instrument, Replay, Run, Load, Races, Record, Recheck, Hush, Explain}
use Rattle.core_model.specs.Kept.{Replayed}
use Rattle.ir_ast.specs.declared.hosts.HostTable.{HostTable}
use Rattle.ir_ast.specs.declared.program.Program.{Program}
use Rattle.ir_text.specs.Bytes.{most_bytes}
use Rattle.ir_reader.specs.Readings.{IsProgramOf, Refuses}
use Rattle.ir_reader.specs.declared.fault.ReadFault.{ReadFault}
use Rattle.ir_reader.proofs.Verdicts.{one_program, not_both}
use Rattle.ir_rules.specs.declared.rule.Rule.{Rule}
use Rattle.ir_rules.specs.Least.{fault}
use Rattle.ir_rules.specs.Rules.{IsAccepted, IsFirstBroken}
use Rattle.history.specs.declared.record.RunRecord.{RunRecord}
use Rattle.suppress.specs.Files.{lines_of}
use Rattle.suppress.specs.declared.line.Reading.TheVariants as reading
use Rattle.suppress.specs.declared.rules.Rules.{Rules}
use Rattle.suppress.proofs.Refusing.{no_rules}
use Rattle.source_sem.specs.Records.{IsRightRecord}
use Rattle.bsan.specs.Words.{Text, Origin, origin_of, rules_in, recheck_in, IsFrom}
use Rattle.bsan.specs.Words.Origin.{InFile, Generated}
use Rattle.bsan.specs.Seen.{FilesSeen, SinkSeen, Failed, WasTooLong, WasRead, IsFault, Puts}
use Rattle.bsan.specs.Seen.Puts.{whole, failed, no_memory}
use Rattle.bsan.specs.Runs.{IsInput, IsScheduledRun, IsNativeRun}
use Rattle.bsan.specs.Rules.{AreRulesIn, IsRefusedAt, OfRead}
use Rattle.bsan.specs.Rechecks.{most_record_bytes, IsFoundOf, HasReadInput, IsRecordFault}
use Rattle.bsan.specs.Answer.{OfFile, OfText, OfProgram, OfJob, HasProgram, Serves, FindsIn, HasCause, Answers, text_for, status_for}
use Rattle.bsan.specs.Causes.{IsCutShort, IsUnread, ComesBetween, IsRefused, IsBroken, TellsText, IsGivenWithin, IsGiven, IsGivenInput, HasInput, AreRulesGiven, HasRules, HasRecord, IsRechecked, IsServed, IsComplete}
use Rattle.bsan.proofs.Found.{of_origin}
use Rattle.bsan.proofs.FoundTexts.{right_at_0, right_is_0}
use Rattle.bsan.specs.declared.outcome.LineFault.{LineFault}
use Rattle.bsan.specs.declared.outcome.LineFault.TheVariants.{BadLine, NoFunction}
use Rattle.bsan.specs.declared.outcome.Role.TheVariants as role
use Rattle.bsan.specs.declared.outcome.Outcome.{Outcome}
use Rattle.bsan.specs.declared.outcome.Outcome.TheVariants.{Usage, FileFault, TooLong, NotRead, NotVerified, RulesRefused, NotRecord, RecordBroken, Accepted, Instrumented, RecordHolds, Ran, Loaded, Recorded, Hushed, Raced, Traced}

pub same_job : (asked : Option Job) (job other : Job) → asked ≡ Some job → asked ≡ Some other → job ≡ other
same_job asked job other is also = let same : Some job ≡ Some other = sym is ∙ also in cc

pub told_bytes : (content : Option (List ℕ)) (bytes text : List ℕ) → Tells content bytes → content ≡ Some text → bytes ≡ text
told_bytes None bytes text tells is = absurd cc
told_bytes (Some content) bytes text tells is = let same : content ≡ text = cc in tells ∙ same

-- the text that was read is the one that is told
same_text : (files : FilesSeen) (origin : Origin) (bytes text : List ℕ) → IsFrom (λ file. WasRead files file most_bytes bytes) origin
    → IsFrom (λ file. files.content file ≡ Some text) origin → bytes ≡ text
same_text files (InFile file) bytes text read is = told_bytes (files.content file) bytes text read.told is
same_text files (Generated run) bytes text read is = absurd read

-- and so what holds of the one holds of the other
of_told : (files : FilesSeen) (asked : Option Job) (P : List ℕ → Type 0) (job : Job) (text : List ℕ)
    → asked ≡ Some job → IsFrom (λ file. files.content file ≡ Some text) (origin_of job) → OfText files asked P → P text
of_told files asked P job text is content of =
    let here : of.job ≡ job = same_job asked of.job job of.is is in
    let read = subst (λ (j : Job). IsFrom (λ file. WasRead files file most_bytes of.text) (origin_of j)) here of.read in
    subst P (same_text files (origin_of job) of.text text read content) of.holds

-- the program that was read is that of the text that is told
told_program : (files : FilesSeen) (origin : Origin) (program : Program) (text : List ℕ) → HasProgram (λ file t. WasRead files file most_bytes t) origin program
    → IsFrom (λ file. files.content file ≡ Some text) origin → IsProgramOf text program
told_program files (InFile file) program text has is =
    subst (λ (t : List ℕ). IsProgramOf t program) (told_bytes (files.content file) has.0 text has.1.told is) has.2
told_program files (Generated run) program text has is = absurd is

in_told : (files : FilesSeen) (asked : Option Job) (P : Job → Program → Type 0) (job : Job) (text : List ℕ)
    → asked ≡ Some job → IsFrom (λ file. files.content file ≡ Some text) (origin_of job) → (of : OfJob files asked P) → IsProgramOf text of.program
in_told files asked P job text is content of =
    told_program files (origin_of job) of.program text
    (subst (λ (j : Job). HasProgram (λ file t. WasRead files file most_bytes t) (origin_of j) of.program) (same_job asked of.job job of.is is) of.has) content

-- a text has one program
pub of_one : (text : List ℕ) (P : Program → Type 0) (program : Program) → IsProgramOf text program → OfProgram P text → P program
of_one text P program reads of = subst P (one_program text of.program program of.reads reads) of.holds

-- a text that is refused has none
of_none : (text : List ℕ) (P : Program → Type 0) (read_fault : ReadFault) → Refuses text read_fault → OfProgram P text → ⊥
of_none text P read_fault refused of = not_both text of.program read_fault of.reads refused

-- in an accepted program no rule is broken
pub unbroken : (program : Program) (hosts : HostTable) (rule : Rule) (at : ℕ) → IsAccepted program hosts → IsFirstBroken program hosts (fault rule at) → ⊥
unbroken program hosts rule at accepted first = accepted rule at first.0

-- a text that fits is not longer than the limit
not_longer : (limit : ℕ) (content : Option (List ℕ)) (text : List ℕ) → IsLongerThan limit content → content ≡ Some text → length text ≤ limit → ⊥
not_longer limit None text longer is fits = absurd cc
not_longer limit (Some content) text longer is fits =
    let same : content ≡ text = cc in omega (arith, longer, ap length same, fits)

-- a program that is given is the one that was read, and its file was read
given_program : (files : FilesSeen) (origin : Origin) (read given : Program) → HasProgram (λ file t. WasRead files file most_bytes t) origin read
    → HasProgram (IsGiven files) origin given → read ≡ given
given_program files (InFile file) read given has gives =
    one_program gives.0 read given
    (subst (λ (t : List ℕ). IsProgramOf t read) (told_bytes (files.content file) has.0 gives.0 has.1.told gives.1.content) has.2) gives.2
given_program files (Generated run) read given has gives = has ∙ sym gives

given_text : (files : FilesSeen) (origin : Origin) (program : Program) (text : List ℕ) → HasProgram (IsGiven files) origin program
    → IsFrom (λ file. WasRead files file most_bytes text) origin → IsProgramOf text program
given_text files (InFile file) program text gives read =
    subst (λ (t : List ℕ). IsProgramOf t program) (sym (told_bytes (files.content file) text gives.0 read.told gives.1.content)) gives.2
given_text files (Generated run) program text gives read = absurd read

not_unread : (limit : ℕ) (files : FilesSeen) (file : Text) (bytes : List ℕ) → IsGivenWithin limit files file bytes
    → Failed files file ⊎ WasTooLong files file limit → ⊥
not_unread limit files file bytes given (inl fault) = given.no_fault fault
not_unread limit files file bytes given (inr long) = not_longer limit (files.content file) bytes long.longer given.content given.within

not_unread_program : (files : FilesSeen) (origin : Origin) (program : Program) (P : Text → Type 0) → HasProgram (IsGiven files) origin program
    → ((name : Text) → P name → IsFault files name) → IsFrom P origin → ⊥
not_unread_program files (InFile file) program P gives fault of = not_unread most_bytes files file gives.0 gives.1 (fault file of)
not_unread_program files (Generated run) program P gives fault of = of

not_unread_input : (files : FilesSeen) (file : Option Text) (bytes : List ℕ) (P : Text → Type 0) → IsGivenInput files file bytes
    → ((name : Text) → P name → IsFault files name) → IsSomeAnd file P → ⊥
not_unread_input files None bytes P given fault of = of
not_unread_input files (Some name) bytes P given fault of = not_unread most_bytes files name bytes given (fault name of)

-- the input that was read is the one that is given
same_input : (files : FilesSeen) (file : Option Text) (read given : List ℕ) → IsInput files file read → IsGivenInput files file given → read ≡ given
same_input files None read given is also = is ∙ sym also
same_input files (Some name) read given is also = told_bytes (files.content name) read given is.told also.content

-- ---- rules
-- a text of rules has no line that is refused
pub taken_or_refused : (program : Program) (text : List ℕ) (rules : Rules) (why : LineFault) (line : ℕ) → AreRulesIn program text rules
    → IsRefusedAt program text why line → ⊥
taken_or_refused program text rules BadLine line are at = no_rules program.functions (lines_of text) line reading.Bad rules.list tt at are
taken_or_refused program text rules NoFunction line are at = no_rules program.functions (lines_of text) line reading.NoFunction rules.list tt at are

-- what holds of the text that was read of a file holds of the one that is told
pub read_is_told : (files : FilesSeen) (file : Text) (text : List ℕ) (P : List ℕ → Type 0) → files.content file ≡ Some text → OfRead files file P → P text
read_is_told files file text P is of = subst P (told_bytes (files.content file) of.0 text of.1.told is) of.2

-- the rules that are given were read, and taken
rules_were_read : (files : FilesSeen) (program : Program) (file : Option Text) (P : Text → Type 0) → ((name : Text) → P name → IsFault files name)
    → IfSome file (λ name. AreRulesGiven files program name) → IsSomeAnd file P → ⊥
rules_were_read files program None P fault given of = of
rules_were_read files program (Some name) P fault given of = not_unread most_bytes files name given.0 given.1 (fault name of)

rules_were_taken : (files : FilesSeen) (program : Program) (file : Option Text) (why : LineFault) (line : ℕ)
    → IfSome file (λ name. AreRulesGiven files program name) → IsSomeAnd file (λ name. OfRead files name (λ text. IsRefusedAt program text why line)) → ⊥
rules_were_taken files program None why line given of = of
rules_were_taken files program (Some name) why line given of =
    taken_or_refused program given.0 given.2 why line given.3
    (read_is_told files name given.0 (λ text. IsRefusedAt program text why line) given.1.content of)

-- ---- records
-- the record that is given was read
record_was_read : (files : FilesSeen) (check : Option RecordCheck) (P : RecordCheck → Type 0) → ((c : RecordCheck) → P c → IsRecordFault files c)
    → IfSome check (λ c. (text : List ℕ) × IsGivenWithin most_record_bytes files c.record text) → IsSomeAnd check P → ⊥
record_was_read files None P fault given of = of
record_was_read files (Some check) P fault given of = not_unread most_record_bytes files check.record given.0 given.1 (fault check of)

-- one put answers the status, unless it is cut short
pub put_answer : (sink : SinkSeen) (text : List ℕ) (status answer : ℕ) → Puts sink text status answer → (answer ≡ status) ⊎ IsCutShort answer
put_answer sink text status answer (whole is appends) = inl is
put_answer sink text status answer (failed is rose prefix) = inr (inl is)
put_answer sink text status answer (no_memory is keeps) = inr (inr is)

-- the answer after one put, or after the program's file was not read
pub one_put : (files : FilesSeen) (sink : SinkSeen) (asked : Option Job) (text : List ℕ) (status answer : ℕ) → Puts sink text status answer
    → (answer ≡ status) ⊎ ComesBetween files asked answer
one_put files sink asked text status answer puts =
    elim (put_answer sink text status answer puts) [ inl is ↦ inl is | inr cut ↦ inr (inr cut) ]

pub file_fault : (files : FilesSeen) (sink : SinkSeen) (asked : Option Job) (text : List ℕ) (status answer : ℕ) → IsUnread files asked → Puts sink text 7 answer
    → (answer ≡ status) ⊎ ComesBetween files asked answer
file_fault files sink asked text status answer unread puts =
    elim (put_answer sink text 7 answer puts) [ inl is ↦ inr (inl (is, unread)) | inr cut ↦ inr (inr cut) ]

pub unread_by : (files : FilesSeen) (asked : Option Job) (P : Text → Type 0) → ((file : Text) → P file → IsFault files file) → OfFile asked P → IsUnread files asked
unread_by files asked P fault of =
    record { job = of.job; is = of.is; holds = of_origin P (λ file. IsFault files file) (origin_of of.job) fault of.holds }

-- where nothing is asked for the usage is told
pub asks_nothing : (files : FilesSeen) (hosts : HostTable) (sink : SinkSeen) (asked : Option Job) (kept : RunRecord) (answer : ℕ)
    → Answers files hosts sink asked kept answer → asked ≡ None → (answer ≡ 2) ⊎ IsCutShort answer
asks_nothing files hosts sink asked kept answer (inr out) none = inr (inr out.status)
asks_nothing files hosts sink asked kept answer (inl told) none = by_found told.found told.cause told.puts
  where
    by_found : (found : Outcome) → HasCause files hosts asked kept found → Puts sink (text_for found kept) (status_for found kept) answer
        → (answer ≡ 2) ⊎ IsCutShort answer
    by_found Usage cause puts = put_answer sink _ 2 answer puts
    by_found (FileFault role.Program) cause puts = absurd (let same : None ≡ Some cause.0.job = sym none ∙ cause.0.is in cc)
    by_found (TooLong role.Program) cause puts = absurd (let same : None ≡ Some cause.0.job = sym none ∙ cause.0.is in cc)
    by_found (NotRead read_fault) cause puts = absurd (let same : None ≡ Some cause.0.job = sym none ∙ cause.0.is in cc)
    by_found (NotVerified rule at) cause puts = absurd (let same : None ≡ Some cause.0.job = sym none ∙ cause.0.is in cc)
    by_found found cause puts = absurd (let same : None ≡ Some cause.job = sym none ∙ cause.is in cc)

-- a content that is told and refused is told so
pub refused : (files : FilesSeen) (hosts : HostTable) (sink : SinkSeen) (asked : Option Job) (kept : RunRecord) (answer : ℕ)
    → Answers files hosts sink asked kept answer → TellsText files asked IsRefused → (answer ≡ 3) ⊎ ComesBetween files asked answer
refused files hosts sink asked kept answer (inr out) tells = inr (inr (inr out.status))
refused files hosts sink asked kept answer (inl told) tells = by_found told.found told.cause told.puts
  where
    unless : (found : Outcome) → OfJob files asked (FindsIn files hosts kept found) → ⊥
    unless found of =
        not_both tells.text of.program tells.holds.0
        (in_told files asked (FindsIn files hosts kept found) tells.job tells.text tells.is tells.content of) tells.holds.1

    by_found : (found : Outcome) → HasCause files hosts asked kept found → Puts sink (text_for found kept) (status_for found kept) answer
        → (answer ≡ 3) ⊎ ComesBetween files asked answer
    by_found Usage cause puts = absurd (let same : None ≡ Some tells.job = sym cause.0 ∙ tells.is in cc)
    by_found (FileFault role.Program) cause puts =
        file_fault files sink asked _ 3 answer (unread_by files asked (λ file. Failed files file) (λ file is. inl is) cause.0) puts
    by_found (FileFault role.Rules) cause puts = absurd (unless (FileFault role.Rules) cause)
    by_found (FileFault role.Input) cause puts = absurd (unless (FileFault role.Input) cause)
    by_found (FileFault role.Record) cause puts = absurd (unless (FileFault role.Record) cause)
    by_found (TooLong role.Program) cause puts =
        file_fault files sink asked _ 3 answer (unread_by files asked (λ file. WasTooLong files file most_bytes) (λ file is. inr is) cause.0) puts
    by_found (TooLong role.Rules) cause puts = absurd (unless (TooLong role.Rules) cause)
    by_found (TooLong role.Input) cause puts = absurd (unless (TooLong role.Input) cause)
    by_found (TooLong role.Record) cause puts = absurd (unless (TooLong role.Record) cause)
    by_found (NotRead read_fault) cause puts = one_put files sink asked _ 3 answer puts
    by_found (NotVerified rule at) cause puts =
        absurd (of_none tells.text (λ program. IsFirstBroken program hosts (fault rule at)) tells.holds.0 tells.holds.1
        (of_told files asked (OfProgram (λ program. IsFirstBroken program hosts (fault rule at))) tells.job tells.text tells.is tells.content cause.0))
    by_found (RulesRefused why line) cause puts = absurd (unless (RulesRefused why line) cause)
    by_found (NotRecord line) cause puts = absurd (unless (NotRecord line) cause)
    by_found (RecordBroken clause) cause puts = absurd (unless (RecordBroken clause) cause)
    by_found (Accepted functions instructions) cause puts = absurd (unless (Accepted functions instructions) cause)
    by_found (Instrumented target) cause puts = absurd (unless (Instrumented target) cause)
    by_found (RecordHolds steps threads) cause puts = absurd (unless (RecordHolds steps threads) cause)
    by_found Ran cause puts = absurd (unless Ran cause)
    by_found (Loaded seed size) cause puts = absurd (unless (Loaded seed size) cause)
    by_found Recorded cause puts = absurd (unless Recorded cause)
    by_found (Hushed rules) cause puts = absurd (unless (Hushed rules) cause)
    by_found (Raced races) cause puts = absurd (unless (Raced races) cause)
    by_found (Traced violations) cause puts = absurd (unless (Traced violations) cause)

-- a content that is told, and a program's in which a rule is broken, is told so
pub broken : (files : FilesSeen) (hosts : HostTable) (sink : SinkSeen) (asked : Option Job) (kept : RunRecord) (answer : ℕ)
    → Answers files hosts sink asked kept answer → TellsText files asked (OfProgram (IsBroken hosts)) → (answer ≡ 4) ⊎ ComesBetween files asked answer
broken files hosts sink asked kept answer (inr out) tells = inr (inr (inr out.status))
broken files hosts sink asked kept answer (inl told) tells = by_found told.found told.cause told.puts
  where
    -- the program that a job is about has the broken rule
    unless : (found : Outcome) (of : OfJob files asked (FindsIn files hosts kept found)) → IsAccepted of.program hosts → ⊥
    unless found of accepted =
        let same : of.program ≡ tells.holds.program =
        one_program tells.text of.program tells.holds.program
        (in_told files asked (FindsIn files hosts kept found) tells.job tells.text tells.is tells.content of) tells.holds.reads in
        let there : IsAccepted tells.holds.program hosts = subst (λ (p : Program). IsAccepted p hosts) same accepted in
        there tells.holds.holds.0 tells.holds.holds.1 tells.holds.holds.2

    by_found : (found : Outcome) → HasCause files hosts asked kept found → Puts sink (text_for found kept) (status_for found kept) answer
        → (answer ≡ 4) ⊎ ComesBetween files asked answer
    by_found Usage cause puts = absurd (let same : None ≡ Some tells.job = sym cause.0 ∙ tells.is in cc)
    by_found (FileFault role.Program) cause puts =
        file_fault files sink asked _ 4 answer (unread_by files asked (λ file. Failed files file) (λ file is. inl is) cause.0) puts
    by_found (FileFault role.Rules) cause puts = absurd (unless (FileFault role.Rules) cause cause.holds.0)
    by_found (FileFault role.Input) cause puts = absurd (unless (FileFault role.Input) cause cause.holds.0)
    by_found (FileFault role.Record) cause puts = absurd (unless (FileFault role.Record) cause cause.holds.0)
    by_found (TooLong role.Program) cause puts =
        file_fault files sink asked _ 4 answer (unread_by files asked (λ file. WasTooLong files file most_bytes) (λ file is. inr is) cause.0) puts
    by_found (TooLong role.Rules) cause puts = absurd (unless (TooLong role.Rules) cause cause.holds.0)
    by_found (TooLong role.Input) cause puts = absurd (unless (TooLong role.Input) cause cause.holds.0)
    by_found (TooLong role.Record) cause puts = absurd (unless (TooLong role.Record) cause cause.holds.0)
    by_found (NotRead read_fault) cause puts =
        absurd (of_none tells.text (IsBroken hosts) read_fault
        (of_told files asked (λ text. Refuses text read_fault) tells.job tells.text tells.is tells.content cause.0) tells.holds)
    by_found (NotVerified rule at) cause puts = one_put files sink asked _ 4 answer puts
    by_found (RulesRefused why line) cause puts = absurd (unless (RulesRefused why line) cause cause.holds.0)
    by_found (NotRecord line) cause puts = absurd (unless (NotRecord line) cause cause.holds.0)
    by_found (RecordBroken clause) cause puts = absurd (unless (RecordBroken clause) cause cause.holds.0)
    by_found (Accepted functions instructions) cause puts = absurd (unless (Accepted functions instructions) cause cause.holds.0)
    by_found (Instrumented target) cause puts = absurd (unless (Instrumented target) cause cause.holds.0)
    by_found (RecordHolds steps threads) cause puts = absurd (unless (RecordHolds steps threads) cause cause.holds.0)
    by_found Ran cause puts = absurd (unless Ran cause cause.holds.0)
    by_found (Loaded seed size) cause puts = absurd (unless (Loaded seed size) cause cause.holds.0)
    by_found Recorded cause puts = absurd (unless Recorded cause cause.holds.0)
    by_found (Hushed rules) cause puts = absurd (unless (Hushed rules) cause cause.holds.0)
    by_found (Raced races) cause puts = absurd (unless (Raced races) cause cause.holds.0)
    by_found (Traced violations) cause puts = absurd (unless (Traced violations) cause cause.holds.0)

-- where all is well, the job is served, or the call is out of memory
pub complete : (files : FilesSeen) (hosts : HostTable) (sink : SinkSeen) (asked : Option Job) (kept : RunRecord) (answer : ℕ)
    → Answers files hosts sink asked kept answer → IsComplete files hosts sink asked kept answer
complete files hosts sink asked kept answer (inr out) job program input well = inr out.status
complete files hosts sink asked kept answer (inl told) job program input well = by_found told.found told.cause told.puts
  where
    in_program : (found : Outcome) → OfJob files asked (FindsIn files hosts kept found) → FindsIn files hosts kept found job program
    in_program found of =
        let here : of.job ≡ job = same_job asked of.job job of.is well.is in
        let has = subst (λ (j : Job). HasProgram (λ file t. WasRead files file most_bytes t) (origin_of j) of.program) here of.has in
        subst (λ (p : Program). FindsIn files hosts kept found job p) (given_program files (origin_of job) of.program program has well.has)
        (subst (λ (j : Job). FindsIn files hosts kept found j of.program) here of.holds)

    was_read : (P : Text → Type 0) → ((file : Text) → P file → IsFault files file) → OfFile asked P → ⊥
    was_read P fault of =
        not_unread_program files (origin_of job) program P well.has fault
        (subst (λ (j : Job). IsFrom P (origin_of j)) (same_job asked of.job job of.is well.is) of.holds)

    text_read : (P : List ℕ → Type 0) (of : OfText files asked P) → IsProgramOf of.text program
    text_read P of =
        given_text files (origin_of job) program of.text well.has
        (subst (λ (j : Job). IsFrom (λ file. WasRead files file most_bytes of.text) (origin_of j)) (same_job asked of.job job of.is well.is) of.read)

    input_was_read : (P : Text → Type 0) → ((file : Text) → P file → IsFault files file) → (settings : Option Settings)
        → IfSome settings (λ s. IsGivenInput files s.input input) → IsSomeAnd (option_and_then (λ s. s.input) settings) P → ⊥
    input_was_read P fault None has of = of
    input_was_read P fault (Some s) has of = not_unread_input files s.input input P has fault of

    -- the replay of the program with this input
    replayed : (run : ScheduledRun) → IsGivenInput files run.settings.input input → IsScheduledRun files hosts kept program run
        → Replayed program input hosts run.settings.limits run.schedule kept
    replayed run has of =
        subst (λ (bytes : List ℕ). Replayed program bytes hosts run.settings.limits run.schedule kept)
        (same_input files run.settings.input of.0 input of.1 has) of.2

    -- and a right record of it
    right : (settings : Settings) → IsGivenInput files settings.input input → IsNativeRun files hosts kept program settings
        → IsRightRecord program input hosts settings.limits kept
    right settings has of =
        subst (λ (bytes : List ℕ). IsRightRecord program bytes hosts settings.limits kept) (same_input files settings.input of.0 input of.1 has) of.2

    -- the status and the text of what a job finds
    told_status : (found other : Outcome) → found ≡ other → answer ≡ status_for found kept → answer ≡ status_for other kept
    told_status found other same is = is ∙ ap (λ (f : Outcome). status_for f kept) same

    told_text : (found other : Outcome) → found ≡ other → Appends sink.taken_before sink.taken_after (text_for found kept)
        → Appends sink.taken_before sink.taken_after (text_for other kept)
    told_text found other same appends = subst (λ (f : Outcome). Appends sink.taken_before sink.taken_after (text_for f kept)) same appends

    -- what was found of the record's text, which is given, with this input
    of_given : (found : Outcome) (check : RecordCheck) → IsGivenInput files check.settings.input input → (held : HasRecord files (Recheck check))
        → Serves files hosts kept found program (Recheck check) → IsFoundOf program input hosts check.settings.limits held.0 found
    of_given found check has held serves =
        let same : serves.0.2 ≡ held.0 = told_bytes (files.content check.record) serves.0.2 held.0 serves.0.3.told held.1.content in
        subst (λ (text : List ℕ). IsFoundOf program input hosts check.settings.limits text found) same
        (subst (λ (bytes : List ℕ). IsFoundOf program bytes hosts check.settings.limits serves.0.2 found)
        (same_input files check.settings.input serves.0.0 input serves.0.1 has) serves.0.4)

    rechecked : (found : Outcome) (check : RecordCheck) → IsGivenInput files check.settings.input input → HasRecord files (Recheck check)
        → Serves files hosts kept found program (Recheck check) → answer ≡ status_for found kept
        → Appends sink.taken_before sink.taken_after (text_for found kept) → IsRechecked files hosts sink kept program input check answer
    rechecked found check has held serves is appends =
        let of = of_given found check has held serves in record {
          told = held.0;
          content = held.1.content;
          found = found;
          is = of;
          exactly = (
            λ zero. right_at_0 program input hosts check.settings.limits held.0 kept found of (sym zero ∙ is),
            λ right. is ∙ right_is_0 kept program input hosts check.settings.limits held.0 found of right,
          );
          status = is;
          text = appends;
          none = serves.1;
        }

    by_job : (found : Outcome) (job : Job) → HasInput files input job → HasRules files program job → HasRecord files job → Serves files hosts kept found program job
        → answer ≡ status_for found kept → Appends sink.taken_before sink.taken_after (text_for found kept) → IsServed files hosts sink kept program input answer job
    by_job found (Check file) has given held serves is appends =
        record { status = told_status found _ serves.0 is; text = told_text found _ serves.0 appends }
    by_job found (Instrument file) has given held serves is appends =
        record { status = told_status found _ serves.0 is; text = told_text found _ serves.0 appends }
    by_job found (Replay run) has given held serves is appends =
        record { right = replayed run has serves.1; status = told_status found Ran serves.0 is; text = told_text found Ran serves.0 appends }
    by_job found (Run run) has given held serves is appends =
        record { right = right run.settings has serves.1; status = told_status found Ran serves.0 is; text = told_text found Ran serves.0 appends }
    by_job found (Load run) has given held serves is appends = record {
      right = subst (λ (bytes : List ℕ). IsRightRecord program bytes hosts default_settings.limits kept) has (right default_settings has serves.1);
      status = told_status found (Loaded run.seed run.size) serves.0 is;
      text = told_text found (Loaded run.seed run.size) serves.0 appends;
    }
    by_job found (Races run) has given held serves is appends = record {
      right = replayed run has serves.0;
      races = serves.1.0;
      first = serves.1.2;
      status = told_status found (Raced serves.1.0) serves.1.1 is;
      text = told_text found (Raced serves.1.0) serves.1.1 appends;
    }
    by_job found (Record run) has given held serves is appends =
        record { right = right run.settings has serves.1; status = told_status found Recorded serves.0 is; text = told_text found Recorded serves.0 appends }
    by_job found (Recheck check) has given held serves is appends = rechecked found check has held serves is appends
    by_job found (Hush run) has given held serves is appends = record {
      right = right run.settings has serves.0;
      rules = serves.1.0;
      are = (given.0, given.1.content, read_is_told files run.rules given.0 (λ text. AreRulesIn program text serves.1.0) given.1.content serves.1.2);
      status = told_status found (Hushed serves.1.0) serves.1.1 is;
      text = told_text found (Hushed serves.1.0) serves.1.1 appends;
    }
    by_job found (Explain run) has given held serves is appends = record {
      right = replayed run has serves.0;
      violations = serves.1.0;
      explained = serves.1.2;
      status = told_status found (Traced serves.1.0) serves.1.1 is;
      text = told_text found (Traced serves.1.0) serves.1.1 appends;
    }

    by_puts : (found : Outcome) → Serves files hosts kept found program job → Puts sink (text_for found kept) (status_for found kept) answer
        → IsServed files hosts sink kept program input answer job ⊎ (answer ≡ 9)
    by_puts found serves (whole is appends) = inl (by_job found job well.has_input well.has_rules well.has_record serves is appends)
    by_puts found serves (failed is rose prefix) = absurd (well.no_put_fault rose)
    by_puts found serves (no_memory is keeps) = inr is

    by_found : (found : Outcome) → HasCause files hosts asked kept found → Puts sink (text_for found kept) (status_for found kept) answer
        → IsServed files hosts sink kept program input answer job ⊎ (answer ≡ 9)
    by_found Usage cause puts = absurd (let same : None ≡ Some job = sym cause.0 ∙ well.is in cc)
    by_found (FileFault role.Program) cause puts = absurd (was_read (λ file. Failed files file) (λ file is. inl is) cause.0)
    by_found (FileFault role.Rules) cause puts =
        absurd (rules_were_read files program (rules_in job) (λ file. Failed files file) (λ file is. inl is) well.has_rules (in_program (FileFault role.Rules) cause).1)
    by_found (FileFault role.Input) cause puts =
        absurd (input_was_read (λ file. Failed files file) (λ file is. inl is) (settings_in job) well.has_input (in_program (FileFault role.Input) cause).1)
    by_found (FileFault role.Record) cause puts =
        absurd (record_was_read files (recheck_in job) (λ check. HasReadInput files check × Failed files check.record) (λ check of. inl of.1) well.has_record
        (in_program (FileFault role.Record) cause).1)
    by_found (TooLong role.Program) cause puts = absurd (was_read (λ file. WasTooLong files file most_bytes) (λ file is. inr is) cause.0)
    by_found (TooLong role.Rules) cause puts =
        absurd (rules_were_read files program (rules_in job) (λ file. WasTooLong files file most_bytes) (λ file is. inr is) well.has_rules (in_program (TooLong role.Rules) cause).1)
    by_found (TooLong role.Input) cause puts =
        absurd (input_was_read (λ file. WasTooLong files file most_bytes) (λ file is. inr is) (settings_in job) well.has_input (in_program (TooLong role.Input) cause).1)
    by_found (TooLong role.Record) cause puts =
        absurd (record_was_read files (recheck_in job) (λ check. HasReadInput files check × WasTooLong files check.record most_record_bytes)
        (λ check of. inr of.1) well.has_record (in_program (TooLong role.Record) cause).1)
    by_found (NotRead read_fault) cause puts =
        absurd (not_both cause.0.text program read_fault (text_read (λ text. Refuses text read_fault) cause.0) cause.0.holds)
    by_found (NotVerified rule at) cause puts =
        absurd (unbroken program hosts rule at well.accepted
        (of_one cause.0.text (λ p. IsFirstBroken p hosts (fault rule at)) program
        (text_read (OfProgram (λ p. IsFirstBroken p hosts (fault rule at))) cause.0) cause.0.holds))
    by_found (RulesRefused why line) cause puts =
        absurd (rules_were_taken files program (rules_in job) why line well.has_rules (in_program (RulesRefused why line) cause).1)
    by_found (NotRecord line) cause puts = by_puts (NotRecord line) (in_program (NotRecord line) cause).1 puts
    by_found (RecordBroken clause) cause puts = by_puts (RecordBroken clause) (in_program (RecordBroken clause) cause).1 puts
    by_found (Accepted functions instructions) cause puts =
        by_puts (Accepted functions instructions) (in_program (Accepted functions instructions) cause).1 puts
    by_found (Instrumented target) cause puts = by_puts (Instrumented target) (in_program (Instrumented target) cause).1 puts
    by_found (RecordHolds steps threads) cause puts = by_puts (RecordHolds steps threads) (in_program (RecordHolds steps threads) cause).1 puts
    by_found Ran cause puts = by_puts Ran (in_program Ran cause).1 puts
    by_found (Loaded seed size) cause puts = by_puts (Loaded seed size) (in_program (Loaded seed size) cause).1 puts
    by_found Recorded cause puts = by_puts Recorded (in_program Recorded cause).1 puts
    by_found (Hushed rules) cause puts = by_puts (Hushed rules) (in_program (Hushed rules) cause).1 puts
    by_found (Raced races) cause puts = by_puts (Raced races) (in_program (Raced races) cause).1 puts
    by_found (Traced violations) cause puts = by_puts (Traced violations) (in_program (Traced violations) cause).1 puts
