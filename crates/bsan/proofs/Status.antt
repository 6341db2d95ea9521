-- From the answer of the top call back to what was found.
use Rattle.std.proofs.Common.{zero, suc, ◌≡◌, ◌≢◌, ◌<◌, ◌≤◌, ◌==◌, ◌||◌, ◌⊎◌, ℕ, Bool, true, false, true≢false, not, List, length, Option, Some, None, if◌then◌else◌, nat_le, refl, sym, ap, subst, ◌∙◌, arith, inl, inr}
use Rattle.std.specs.Option.{IsSomeAnd}
use Rattle.std.specs.Io.KnownBytes.{Appends}
use Rattle.outside_io.specs.Counts.{Rose}
use Rattle.std.proofs.lemmas.Bool.{leb-true}
use Rattle.command_words.specs.Jobs.{Job}
use Rattle.ir_ast.specs.declared.hosts.HostTable.{HostTable}
use Rattle.ir_text.specs.Bytes.{most_bytes}
use Rattle.history.specs.declared.record.RunRecord.{RunRecord}
use Rattle.history.specs.Records.{empty_record}
use Rattle.ir_rules.specs.Rules.{IsAccepted}
use Rattle.race_check.specs.Text.{race_text}
use Rattle.race_check.specs.declared.race.Race.{Race}
use Rattle.report.specs.Report.{status_of, any_end, is_no_memory, is_limit, is_trap}
use Rattle.bsan.specs.Words.{Text, origin_of, input_in, rules_in, recheck_in, IsRecheck}
use Rattle.bsan.specs.Seen.{FilesSeen, SinkSeen, Failed, WasTooLong, IsFault, Puts}
use Rattle.bsan.specs.Seen.Puts.{whole, failed, no_memory}
use Rattle.bsan.specs.Rules.{IsRefusedAt, OfRead}
use Rattle.bsan.specs.Rechecks.{most_record_bytes, IsRightText, IsWrongText, HasReadInput, OfReadRecord, IsRecordFault}
use Rattle.bsan.specs.Answer.{OfText, OfProgram, OfJob, Serves, FindsIn, HasCause, Answers, IsEmptyOrRight, text_for, status_for}
use Rattle.bsan.specs.Causes.{IsCutShort, IsRefused, IsBrokenFirst, IsUnread, HasRefusedLine, HasRefusedRules, ReadsRecord, HasUnreadFile, ReadCause, PutCause, TellsRun, RanWhole, RanWith, RacedWhole, AcceptedWhole, InstrumentedWhole, RecheckedWhole, RunCause, PutNothing, MemoryCause, LeavesNone, tells_violation}
use Rattle.bsan.proofs.Found.{of_origin, of_check}
use Rattle.bsan.proofs.FoundTexts.{IsOfText, IsFoundBy, wrong_at_11, right_at_0, of_text, of_recheck, not_of_run}
use Rattle.bsan.proofs.Reportable.{left}
use Rattle.bsan.specs.declared.outcome.Role.TheVariants as role
use Rattle.bsan.specs.declared.outcome.Outcome.{Outcome}
use Rattle.bsan.specs.declared.outcome.Outcome.TheVariants.{Usage, FileFault, TooLong, NotRead, NotVerified, RulesRefused, NotRecord, RecordBroken, Accepted, Instrumented, RecordHolds, Ran, Loaded, Recorded, Hushed, Raced, Traced}

-- ---- the status of a record, by the ends of its threads and by its violations
abbrev ranked : Bool → Bool → Bool → Bool → ℕ
ranked memory limit trap violation = if memory then 9 else (if limit then 6 else (if trap then 5 else (if violation then 1 else 0)))

-- the statuses of a run
abbrev is_run_status : ℕ → Bool
is_run_status n = n == 0 || n == 1 || n == 5 || n == 6 || n == 9

ranked_is : (a b c d : Bool) → is_run_status (ranked a b c d) ≡ true
ranked_is true b c d = refl
ranked_is false true c d = refl
ranked_is false false true d = refl
ranked_is false false false true = refl
ranked_is false false false false = refl

-- the status of what is told of a run, races aside
abbrev run_status : Outcome → RunRecord → ℕ
run_status found kept = ranked (any_end is_no_memory kept) (any_end is_limit kept) (any_end is_trap kept) (tells_violation found kept)

run_status_is : (found : Outcome) (kept : RunRecord) → is_run_status (run_status found kept) ≡ true
run_status_is found kept = ranked_is (any_end is_no_memory kept) (any_end is_limit kept) (any_end is_trap kept) (tells_violation found kept)

-- each of its statuses tells what is in the record
none_at_0 : (a b c d : Bool) (n : ℕ) → n ≡ 0 → n ≡ ranked a b c d → not d ≡ true
none_at_0 true b c d n value is = absurd (omega arith)
none_at_0 false true c d n value is = absurd (omega arith)
none_at_0 false false true d n value is = absurd (omega arith)
none_at_0 false false false true n value is = absurd (omega arith)
none_at_0 false false false false n value is = refl

some_at_1 : (a b c d : Bool) (n : ℕ) → n ≡ 1 → n ≡ ranked a b c d → d ≡ true
some_at_1 true b c d n value is = absurd (omega arith)
some_at_1 false true c d n value is = absurd (omega arith)
some_at_1 false false true d n value is = absurd (omega arith)
some_at_1 false false false true n value is = refl
some_at_1 false false false false n value is = absurd (omega arith)

trap_at_5 : (a b c d : Bool) (n : ℕ) → n ≡ 5 → n ≡ ranked a b c d → c ≡ true
trap_at_5 true b c d n value is = absurd (omega arith)
trap_at_5 false true c d n value is = absurd (omega arith)
trap_at_5 false false true d n value is = refl
trap_at_5 false false false true n value is = absurd (omega arith)
trap_at_5 false false false false n value is = absurd (omega arith)

limit_at_6 : (a b c d : Bool) (n : ℕ) → n ≡ 6 → n ≡ ranked a b c d → b ≡ true
limit_at_6 true b c d n value is = absurd (omega arith)
limit_at_6 false true c d n value is = refl
limit_at_6 false false true d n value is = absurd (omega arith)
limit_at_6 false false false true n value is = absurd (omega arith)
limit_at_6 false false false false n value is = absurd (omega arith)

memory_at_9 : (a b c d : Bool) (n : ℕ) → n ≡ 9 → n ≡ ranked a b c d → a ≡ true
memory_at_9 true b c d n value is = refl
memory_at_9 false true c d n value is = absurd (omega arith)
memory_at_9 false false true d n value is = absurd (omega arith)
memory_at_9 false false false true n value is = absurd (omega arith)
memory_at_9 false false false false n value is = absurd (omega arith)

-- ---- the status of the races of a record
-- 10, where there is a race and the run's own status is 0 or 1
record IsTen (n status count : ℕ) : Type 0 where
  pub ten : n ≡ 10
  pub low : status ≤ 1
  pub some : 0 < count

raced_as : (n status count : ℕ) → n ≡ (if nat_le status 1 then (if count == 0 then status else 10) else status) → (n ≡ status) ⊎ IsTen n status count
raced_as n status count is = by_tests (nat_le status 1) (count == 0) refl refl is
  where
    some : (count : ℕ) → (count == 0) ≡ false → 0 < count
    some zero none = absurd cc
    some (suc count) none = omega arith

    by_tests : (low none : Bool) → nat_le status 1 ≡ low → (count == 0) ≡ none → n ≡ (if low then (if none then status else 10) else status)
        → (n ≡ status) ⊎ IsTen n status count
    by_tests false none lows nones is = inl is
    by_tests true true lows nones is = inl is
    by_tests true false lows nones is = inr (record { ten = is; low = leb-true status 1 lows; some = some count nones })

-- what is told of a run has the run's own status, or 10
told_as : (found : Outcome) (kept : RunRecord) (n : ℕ) → TellsRun found → n ≡ status_for found kept → (n ≡ run_status found kept) ⊎ (n ≡ 10)
told_as Usage kept n tells is = absurd tells
told_as (FileFault of) kept n tells is = absurd tells
told_as (TooLong of) kept n tells is = absurd tells
told_as (NotRead read_fault) kept n tells is = absurd tells
told_as (NotVerified rule at) kept n tells is = absurd tells
told_as (RulesRefused why line) kept n tells is = absurd tells
told_as (NotRecord line) kept n tells is = absurd tells
told_as (RecordBroken clause) kept n tells is = absurd tells
told_as (Accepted functions instructions) kept n tells is = absurd tells
told_as (Instrumented target) kept n tells is = absurd tells
told_as (RecordHolds steps threads) kept n tells is = absurd tells
told_as Ran kept n tells is = inl is
told_as (Loaded seed size) kept n tells is = inl is
told_as Recorded kept n tells is = inl is
told_as (Hushed rules) kept n tells is = inl is
told_as (Traced violations) kept n tells is = inl is
told_as (Raced races) kept n tells is = elim (raced_as n (status_of kept) (length races) is) [ inl own ↦ inl own | inr ten ↦ inr ten.ten ]

-- the run's own, where it is not 10
told_own : (found : Outcome) (kept : RunRecord) (n : ℕ) → TellsRun found → n ≡ status_for found kept → n ≢ 10 → n ≡ run_status found kept
told_own found kept n tells is other = elim (told_as found kept n tells is) [ inl own ↦ own | inr ten ↦ absurd (other ten) ]

-- and so none that is no run's
not_told : (found : Outcome) (kept : RunRecord) (n : ℕ) → TellsRun found → n ≡ status_for found kept → n ≢ 10 → is_run_status n ≡ false → ⊥
not_told found kept n tells is other unlike =
    let own = told_own found kept n tells is other in
    true≢false (sym (run_status_is found kept) ∙ ap is_run_status (sym own) ∙ unlike)

-- ---- the statuses of each thing that can be found
-- a status that a test holds of isn't one of which it doesn't hold
other_than : (test : ℕ → Bool) (n k : ℕ) → n ≡ k → test k ≡ true → test n ≡ false → ⊥
other_than test n k e holds fails = true≢false (sym holds ∙ ap test (sym e) ∙ fails)

-- what was found may have this status: its own, that of a run, or with races 10
abbrev pub may_have : Outcome → ℕ → Bool
may_have Usage n = n == 2
may_have (FileFault of) n = n == 7
may_have (TooLong of) n = n == 7
may_have (NotRead read_fault) n = n == 3
may_have (NotVerified rule at) n = n == 4
may_have (RulesRefused why line) n = n == 12
may_have (NotRecord line) n = n == 11
may_have (RecordBroken clause) n = n == 11
may_have (Accepted functions instructions) n = n == 0
may_have (Instrumented target) n = n == 0
may_have (RecordHolds steps threads) n = n == 0
may_have (Raced races) n = n == 10 || is_run_status n
may_have found n = is_run_status n

second_of : (first second : Bool) → (first || second) ≡ false → second ≡ false
second_of true second neither = absurd (true≢false neither)
second_of false second neither = neither

-- and has no other
pub unlike : (found : Outcome) (kept : RunRecord) (n : ℕ) → n ≡ status_for found kept → may_have found n ≡ false → ⊥
unlike Usage kept n e not = other_than (λ m. m == 2) n 2 e refl not
unlike (FileFault of) kept n e not = other_than (λ m. m == 7) n 7 e refl not
unlike (TooLong of) kept n e not = other_than (λ m. m == 7) n 7 e refl not
unlike (NotRead read_fault) kept n e not = other_than (λ m. m == 3) n 3 e refl not
unlike (NotVerified rule at) kept n e not = other_than (λ m. m == 4) n 4 e refl not
unlike (RulesRefused why line) kept n e not = other_than (λ m. m == 12) n 12 e refl not
unlike (NotRecord line) kept n e not = other_than (λ m. m == 11) n 11 e refl not
unlike (RecordBroken clause) kept n e not = other_than (λ m. m == 11) n 11 e refl not
unlike (Accepted functions instructions) kept n e not = other_than (λ m. m == 0) n 0 e refl not
unlike (Instrumented target) kept n e not = other_than (λ m. m == 0) n 0 e refl not
unlike (RecordHolds steps threads) kept n e not = other_than (λ m. m == 0) n 0 e refl not
unlike Ran kept n e not = other_than is_run_status n _ e (run_status_is Ran kept) not
unlike (Loaded seed size) kept n e not = other_than is_run_status n _ e (run_status_is (Loaded seed size) kept) not
unlike Recorded kept n e not = other_than is_run_status n _ e (run_status_is Recorded kept) not
unlike (Hushed rules) kept n e not = other_than is_run_status n _ e (run_status_is (Hushed rules) kept) not
unlike (Traced violations) kept n e not = other_than is_run_status n _ e (run_status_is (Traced violations) kept) not
unlike (Raced races) kept n e not = elim (raced_as n (status_of kept) (length races) e) [
  | inl own ↦ other_than is_run_status n _ own (run_status_is (Raced races) kept) (second_of (n == 10) (is_run_status n) not)
  | inr ten ↦ other_than (λ m. m == 10 || is_run_status m) n 10 ten.ten refl not
]

-- none has 8
never_8 : (found : Outcome) → may_have found 8 ≡ false
never_8 Usage = refl
never_8 found = refl

-- one put that answers a status that is neither 8 nor 9 put the text of this status
put_whole : (sink : SinkSeen) (text : List ℕ) (status answer n : ℕ) → Puts sink text status answer → answer ≡ n → (IsCutShort n → ⊥)
    → (n ≡ status) × Appends sink.taken_before sink.taken_after text
put_whole sink text status answer n (whole is appends) same uncut = (sym same ∙ is, appends)
put_whole sink text status answer n (failed is rose prefix) same uncut = absurd (uncut (inl (sym same ∙ is)))
put_whole sink text status answer n (no_memory is keeps) same uncut = absurd (uncut (inr (sym same ∙ is)))

-- a status below 8 is not cut short
uncut_low : (n : ℕ) → n < 8 → IsCutShort n → ⊥
uncut_low n low (inl is) = omega (arith, low, is)
uncut_low n low (inr is) = omega (arith, low, is)

uncut_11 : IsCutShort 11 → ⊥
uncut_11 (inl is) = omega (arith, is)
uncut_11 (inr is) = omega (arith, is)

uncut_12 : IsCutShort 12 → ⊥
uncut_12 (inl is) = omega (arith, is)
uncut_12 (inr is) = omega (arith, is)

-- 3: the text was refused
pub unread : (files : FilesSeen) (hosts : HostTable) (sink : SinkSeen) (asked : Option Job) (kept : RunRecord) (answer : ℕ)
    → Answers files hosts sink asked kept answer → answer ≡ 3 → OfText files asked IsRefused
unread files hosts sink asked kept answer (inr out) is = absurd (let nine = out.status in omega arith)
unread files hosts sink asked kept answer (inl told) is =
    by_found told.found told.cause (put_whole sink _ (status_for told.found kept) answer 3 told.puts is (uncut_low 3 (omega arith))).0
  where
    by_found : (found : Outcome) → HasCause files hosts asked kept found → 3 ≡ status_for found kept → OfText files asked IsRefused
    by_found (NotRead read_fault) cause e = record {
      job = cause.0.job;
      is = cause.0.is;
      text = cause.0.text;
      read = cause.0.read;
      holds = (read_fault, cause.0.holds);
    }
    by_found found cause e = absurd (unlike found kept 3 e refl)

-- 4: a rule is broken in the program
pub unverified : (files : FilesSeen) (hosts : HostTable) (sink : SinkSeen) (asked : Option Job) (kept : RunRecord) (answer : ℕ)
    → Answers files hosts sink asked kept answer → answer ≡ 4 → OfText files asked (OfProgram (IsBrokenFirst hosts))
unverified files hosts sink asked kept answer (inr out) is = absurd (let nine = out.status in omega arith)
unverified files hosts sink asked kept answer (inl told) is =
    by_found told.found told.cause (put_whole sink _ (status_for told.found kept) answer 4 told.puts is (uncut_low 4 (omega arith))).0
  where
    by_found : (found : Outcome) → HasCause files hosts asked kept found → 4 ≡ status_for found kept
        → OfText files asked (OfProgram (IsBrokenFirst hosts))
    by_found (NotVerified rule at) cause e = record {
      job = cause.0.job;
      is = cause.0.is;
      text = cause.0.text;
      read = cause.0.read;
      holds = record { program = cause.0.holds.program; reads = cause.0.holds.reads; holds = (rule, at, cause.0.holds.holds) };
    }
    by_found found cause e = absurd (unlike found kept 4 e refl)

-- what holds of an input's file, where another holds
of_input : (P Q : Text → Type 0) (file : Option Text) → ((name : Text) → P name → Q name) → IsSomeAnd file P → IsSomeAnd file Q
of_input P Q None implies is = absurd is
of_input P Q (Some name) implies is = implies name is

-- 7: a file was not read
pub read_cause : (files : FilesSeen) (hosts : HostTable) (sink : SinkSeen) (asked : Option Job) (kept : RunRecord) (answer : ℕ)
    → Answers files hosts sink asked kept answer → ReadCause files hosts asked answer
read_cause files hosts sink asked kept answer (inr out) is = absurd (let nine = out.status in omega arith)
read_cause files hosts sink asked kept answer (inl told) is =
    by_found told.found told.cause (put_whole sink _ (status_for told.found kept) answer 7 told.puts is (uncut_low 7 (omega arith))).0
  where
    with_file : (found : Outcome) (of : OfJob files asked (FindsIn files hosts kept found)) → IsAccepted of.program hosts
        → IsSomeAnd (rules_in of.job) (λ file. IsFault files file) ⊎ IsSomeAnd (input_in of.job) (λ file. IsFault files file)
        ⊎ IsSomeAnd (recheck_in of.job) (λ check. IsRecordFault files check)
        → OfJob files asked (HasUnreadFile files hosts)
    with_file found of accepted unread =
        record { job = of.job; is = of.is; program = of.program; has = of.has; holds = record { accepted = accepted; unread = unread } }

    by_found : (found : Outcome) → HasCause files hosts asked kept found → 7 ≡ status_for found kept
        → IsUnread files asked ⊎ OfJob files asked (HasUnreadFile files hosts)
    by_found (FileFault role.Program) cause e = inl (record {
      job = cause.0.job;
      is = cause.0.is;
      holds = of_origin (λ file. Failed files file) (λ file. IsFault files file) (origin_of cause.0.job) (λ file failed. inl failed) cause.0.holds;
    })
    by_found (FileFault role.Rules) cause e =
        inr (with_file (FileFault role.Rules) cause cause.holds.0
        (inl (of_input (λ file. Failed files file) (λ file. IsFault files file) (rules_in cause.job) (λ file failed. inl failed) cause.holds.1)))
    by_found (FileFault role.Input) cause e =
        inr (with_file (FileFault role.Input) cause cause.holds.0
        (inr (inl (of_input (λ file. Failed files file) (λ file. IsFault files file) (input_in cause.job) (λ file failed. inl failed) cause.holds.1))))
    by_found (FileFault role.Record) cause e =
        inr (with_file (FileFault role.Record) cause cause.holds.0
        (inr (inr (of_check (λ check. HasReadInput files check × Failed files check.record) (λ check. IsRecordFault files check) (recheck_in cause.job)
        (λ check of. inl of.1) cause.holds.1))))
    by_found (TooLong role.Program) cause e = inl (record {
      job = cause.0.job;
      is = cause.0.is;
      holds = of_origin (λ file. WasTooLong files file most_bytes) (λ file. IsFault files file) (origin_of cause.0.job) (λ file long. inr long) cause.0.holds;
    })
    by_found (TooLong role.Rules) cause e =
        inr (with_file (TooLong role.Rules) cause cause.holds.0
        (inl (of_input (λ file. WasTooLong files file most_bytes) (λ file. IsFault files file) (rules_in cause.job) (λ file long. inr long) cause.holds.1)))
    by_found (TooLong role.Input) cause e =
        inr (with_file (TooLong role.Input) cause cause.holds.0
        (inr (inl (of_input (λ file. WasTooLong files file most_bytes) (λ file. IsFault files file) (input_in cause.job) (λ file long. inr long) cause.holds.1))))
    by_found (TooLong role.Record) cause e =
        inr (with_file (TooLong role.Record) cause cause.holds.0
        (inr (inr (of_check (λ check. HasReadInput files check × WasTooLong files check.record most_record_bytes) (λ check. IsRecordFault files check)
        (recheck_in cause.job) (λ check of. inr of.1) cause.holds.1))))
    by_found found cause e = absurd (unlike found kept 7 e refl)

-- 12: a line of the rules was refused
pub refused_rules : (files : FilesSeen) (hosts : HostTable) (sink : SinkSeen) (asked : Option Job) (kept : RunRecord) (answer : ℕ)
    → Answers files hosts sink asked kept answer → answer ≡ 12 → OfJob files asked (HasRefusedRules files hosts)
refused_rules files hosts sink asked kept answer (inr out) is = absurd (let nine = out.status in omega arith)
refused_rules files hosts sink asked kept answer (inl told) is =
    by_found told.found told.cause (put_whole sink _ (status_for told.found kept) answer 12 told.puts is uncut_12).0
  where
    by_found : (found : Outcome) → HasCause files hosts asked kept found → 12 ≡ status_for found kept → OfJob files asked (HasRefusedRules files hosts)
    by_found (RulesRefused why line) cause e = record {
      job = cause.job;
      is = cause.is;
      program = cause.program;
      has = cause.has;
      holds = record {
        accepted = cause.holds.0;
        refused = of_input (λ file. OfRead files file (λ text. IsRefusedAt cause.program text why line))
            (λ file. OfRead files file (HasRefusedLine cause.program)) (rules_in cause.job)
            (λ file of. (of.0, of.1, (why, line, of.2))) cause.holds.1;
      };
    }
    by_found found cause e = absurd (unlike found kept 12 e refl)

-- 11: the record's text is not that of a right record
pub wrong_record : (files : FilesSeen) (hosts : HostTable) (sink : SinkSeen) (asked : Option Job) (kept : RunRecord) (answer : ℕ)
    → Answers files hosts sink asked kept answer → answer ≡ 11 → OfJob files asked (ReadsRecord IsWrongText files hosts)
wrong_record files hosts sink asked kept answer (inr out) is = absurd (let nine = out.status in omega arith)
wrong_record files hosts sink asked kept answer (inl told) is =
    by_found told.found told.cause (put_whole sink _ (status_for told.found kept) answer 11 told.puts is uncut_11).0
  where
    with_text : (found : Outcome) → IsOfText found → (of : OfJob files asked (FindsIn files hosts kept found)) → IsAccepted of.program hosts
        → Serves files hosts kept found of.program of.job → 11 ≡ status_for found kept → OfJob files asked (ReadsRecord IsWrongText files hosts)
    with_text found one of accepted serves e = record {
      job = of.job;
      is = of.is;
      program = of.program;
      has = of.has;
      holds = record {
        accepted = accepted;
        holds = of_check (IsFoundBy files hosts of.program found)
            (λ check. OfReadRecord files check (λ input text. IsWrongText of.program input hosts check.settings.limits text)) (recheck_in of.job)
            (λ check read. (
              read.0,
              read.1,
              read.2,
              read.3,
              wrong_at_11 of.program read.0 hosts check.settings.limits read.2 kept found read.4 e,
            )) (of_text files hosts kept found of.program of.job one serves).0;
      };
    }

    by_found : (found : Outcome) → HasCause files hosts asked kept found → 11 ≡ status_for found kept → OfJob files asked (ReadsRecord IsWrongText files hosts)
    by_found (NotRecord line) cause e = with_text (NotRecord line) tt cause cause.holds.0 cause.holds.1 e
    by_found (RecordBroken clause) cause e = with_text (RecordBroken clause) tt cause cause.holds.0 cause.holds.1 e
    by_found found cause e = absurd (unlike found kept 11 e refl)

-- 0 of a check of a record: the record's text is that of a right record
pub right_record : (files : FilesSeen) (hosts : HostTable) (sink : SinkSeen) (asked : Option Job) (kept : RunRecord) (answer : ℕ)
    → Answers files hosts sink asked kept answer → IsSomeAnd asked IsRecheck → answer ≡ 0 → OfJob files asked (ReadsRecord IsRightText files hosts)
right_record files hosts sink asked kept answer (inr out) checks is = absurd (let nine = out.status in omega (arith, nine, is))
right_record files hosts sink asked kept answer (inl told) checks is =
    by_found told.found told.cause (put_whole sink _ (status_for told.found kept) answer 0 told.puts is (uncut_low 0 (omega arith))).0
  where
    with_text : (found : Outcome) (of : OfJob files asked (FindsIn files hosts kept found)) → IsAccepted of.program hosts
        → Serves files hosts kept found of.program of.job → 0 ≡ status_for found kept → OfJob files asked (ReadsRecord IsRightText files hosts)
    with_text found of accepted serves e = record {
      job = of.job;
      is = of.is;
      program = of.program;
      has = of.has;
      holds = record {
        accepted = accepted;
        holds = of_check (IsFoundBy files hosts of.program found)
            (λ check. OfReadRecord files check (λ input text. IsRightText of.program input hosts check.settings.limits text)) (recheck_in of.job)
            (λ check read. (
              read.0,
              read.1,
              read.2,
              read.3,
              right_at_0 of.program read.0 hosts check.settings.limits read.2 kept found read.4 e,
            )) (of_recheck files hosts kept found of.program of.job (subst (λ (a : Option Job). IsSomeAnd a IsRecheck) of.is checks) serves);
      };
    }

    by_found : (found : Outcome) → HasCause files hosts asked kept found → 0 ≡ status_for found kept → OfJob files asked (ReadsRecord IsRightText files hosts)
    by_found Usage cause e = absurd (omega (arith, e))
    by_found (FileFault of) cause e = absurd (omega (arith, e))
    by_found (TooLong of) cause e = absurd (omega (arith, e))
    by_found (NotRead read_fault) cause e = absurd (omega (arith, e))
    by_found (NotVerified rule at) cause e = absurd (omega (arith, e))
    by_found (RulesRefused why line) cause e = absurd (omega (arith, e))
    by_found (NotRecord line) cause e = absurd (omega (arith, e))
    by_found (RecordBroken clause) cause e = absurd (omega (arith, e))
    by_found found cause e = with_text found cause cause.holds.0 cause.holds.1 e

-- a check of a record leaves none
pub leaves_none : (files : FilesSeen) (hosts : HostTable) (sink : SinkSeen) (asked : Option Job) (kept : RunRecord) (answer : ℕ)
    → Answers files hosts sink asked kept answer → IsSomeAnd asked IsRecheck → kept ≡ empty_record
leaves_none files hosts sink asked kept answer answers checks = by_answers answers
  where
    by_record : IsEmptyOrRight files hosts asked kept → kept ≡ empty_record
    by_record (inl is) = is
    by_record (inr run) =
        absurd (not_of_run files hosts kept run.program run.job (subst (λ (a : Option Job). IsSomeAnd a IsRecheck) run.is checks) run.holds.1)

    by_answers : Answers files hosts sink asked kept answer → kept ≡ empty_record
    by_answers (inl told) = by_record (left files hosts asked kept told.found told.cause)
    by_answers (inr out) = by_record out.record_kept

-- 2, 3, 4, 7, 11 and 12: no record is left
pub no_record : (files : FilesSeen) (hosts : HostTable) (sink : SinkSeen) (asked : Option Job) (kept : RunRecord) (answer : ℕ)
    → Answers files hosts sink asked kept answer → LeavesNone kept answer
no_record files hosts sink asked kept answer (inr out) is = absurd (nine out.status is)
  where
    nine : answer ≡ 9 → (answer ≡ 2) ⊎ (answer ≡ 3) ⊎ (answer ≡ 4) ⊎ (answer ≡ 7) ⊎ (answer ≡ 11) ⊎ (answer ≡ 12) → ⊥
    nine at (inl e) = omega (arith, at, e)
    nine at (inr (inl e)) = omega (arith, at, e)
    nine at (inr (inr (inl e))) = omega (arith, at, e)
    nine at (inr (inr (inr (inl e)))) = omega (arith, at, e)
    nine at (inr (inr (inr (inr (inl e))))) = omega (arith, at, e)
    nine at (inr (inr (inr (inr (inr e))))) = omega (arith, at, e)
no_record files hosts sink asked kept answer (inl told) is = by_status is
  where
    by_found : (n : ℕ) (found : Outcome) → HasCause files hosts asked kept found → n ≡ status_for found kept → n ≢ 0 → n ≢ 10 → is_run_status n ≡ false
        → kept ≡ empty_record
    by_found n Usage cause e low other strange = cause.1
    by_found n (FileFault role.Program) cause e low other strange = cause.1
    by_found n (FileFault role.Rules) cause e low other strange = cause.holds.2
    by_found n (FileFault role.Input) cause e low other strange = cause.holds.2
    by_found n (FileFault role.Record) cause e low other strange = cause.holds.2
    by_found n (TooLong role.Program) cause e low other strange = cause.1
    by_found n (TooLong role.Rules) cause e low other strange = cause.holds.2
    by_found n (TooLong role.Input) cause e low other strange = cause.holds.2
    by_found n (TooLong role.Record) cause e low other strange = cause.holds.2
    by_found n (NotRead read_fault) cause e low other strange = cause.1
    by_found n (NotVerified rule at) cause e low other strange = cause.1
    by_found n (RulesRefused why line) cause e low other strange = cause.holds.2
    by_found n (NotRecord line) cause e low other strange = (of_text files hosts kept (NotRecord line) cause.program cause.job tt cause.holds.1).1
    by_found n (RecordBroken clause) cause e low other strange =
        (of_text files hosts kept (RecordBroken clause) cause.program cause.job tt cause.holds.1).1
    by_found n (Accepted functions instructions) cause e low other strange = absurd (low e)
    by_found n (Instrumented target) cause e low other strange = absurd (low e)
    by_found n (RecordHolds steps threads) cause e low other strange = absurd (low e)
    by_found n found cause e low other strange = absurd (not_told found kept n tt e other strange)

    at : (n : ℕ) → answer ≡ n → (IsCutShort n → ⊥) → n ≢ 0 → n ≢ 10 → is_run_status n ≡ false → kept ≡ empty_record
    at n e uncut some other strange =
        by_found n told.found told.cause (put_whole sink _ (status_for told.found kept) answer n told.puts e uncut).0 some other strange

    low : (n : ℕ) → answer ≡ n → n < 8 → n ≢ 0 → is_run_status n ≡ false → kept ≡ empty_record
    low n e small some strange = at n e (uncut_low n small) some (λ ten. omega (arith, small, ten)) strange

    by_status : (answer ≡ 2) ⊎ (answer ≡ 3) ⊎ (answer ≡ 4) ⊎ (answer ≡ 7) ⊎ (answer ≡ 11) ⊎ (answer ≡ 12) → kept ≡ empty_record
    by_status (inl e) = low 2 e (omega arith) (λ z. omega (arith, z)) refl
    by_status (inr (inl e)) = low 3 e (omega arith) (λ z. omega (arith, z)) refl
    by_status (inr (inr (inl e))) = low 4 e (omega arith) (λ z. omega (arith, z)) refl
    by_status (inr (inr (inr (inl e)))) = low 7 e (omega arith) (λ z. omega (arith, z)) refl
    by_status (inr (inr (inr (inr (inl e))))) = at 11 e uncut_11 (λ z. omega (arith, z)) (λ ten. omega (arith, ten)) refl
    by_status (inr (inr (inr (inr (inr e))))) = at 12 e uncut_12 (λ z. omega (arith, z)) (λ ten. omega (arith, ten)) refl

-- ---- statuses of runs
-- a run, of which the whole text was put
abbrev whole_run : (files : FilesSeen) (hosts : HostTable) (sink : SinkSeen) (asked : Option Job) (kept : RunRecord) (answer : ℕ) (found : Outcome)
    → TellsRun found → OfJob files asked (FindsIn files hosts kept found) → answer ≡ status_for found kept → Appends sink.taken_before sink.taken_after (text_for found kept)
    → RanWhole files hosts sink asked kept answer
whole_run files hosts sink asked kept answer found tells cause status text =
    record { found = found; tells = tells; cause = cause; status = status; text = text }

-- 1, 5 and 6: a run of which the whole text was put, and what is in its record
pub run_with : (files : FilesSeen) (hosts : HostTable) (sink : SinkSeen) (asked : Option Job) (kept : RunRecord) (answer n : ℕ) (holds : Outcome → Bool)
    → Answers files hosts sink asked kept answer → answer ≡ n → n < 8 → n ≢ 0 → is_run_status n ≡ true
    → ((found : Outcome) → n ≡ run_status found kept → holds found ≡ true)
    → RanWith files hosts sink asked kept answer holds
run_with files hosts sink asked kept answer n holds (inr out) is small some run shows = absurd (let nine = out.status in omega (arith, nine, is, small))
run_with files hosts sink asked kept answer n holds (inl told) is small some run shows =
    let put = put_whole sink (text_for told.found kept) (status_for told.found kept) answer n told.puts is (uncut_low n small) in
    by_found told.found told.cause put.0 put.1
  where
    other : (status : ℕ) → n ≡ status → is_run_status status ≡ false → ⊥
    other status e unlike = true≢false (sym run ∙ ap is_run_status e ∙ unlike)

    a_run : (found : Outcome) → TellsRun found → OfJob files asked (FindsIn files hosts kept found) → n ≡ status_for found kept
        → Appends sink.taken_before sink.taken_after (text_for found kept) → RanWith files hosts sink asked kept answer holds
    a_run found tells cause e text = record {
      run = whole_run files hosts sink asked kept answer found tells cause (is ∙ e) text;
      shown = shows found (told_own found kept n tells e (λ ten. omega (arith, small, ten)));
    }

    by_found : (found : Outcome) → HasCause files hosts asked kept found → n ≡ status_for found kept
        → Appends sink.taken_before sink.taken_after (text_for found kept) → RanWith files hosts sink asked kept answer holds
    by_found Usage cause e text = absurd (other 2 e refl)
    by_found (FileFault of) cause e text = absurd (other 7 e refl)
    by_found (TooLong of) cause e text = absurd (other 7 e refl)
    by_found (NotRead read_fault) cause e text = absurd (other 3 e refl)
    by_found (NotVerified rule at) cause e text = absurd (other 4 e refl)
    by_found (RulesRefused why line) cause e text = absurd (other 12 e refl)
    by_found (NotRecord line) cause e text = absurd (other 11 e refl)
    by_found (RecordBroken clause) cause e text = absurd (other 11 e refl)
    by_found (Accepted functions instructions) cause e text = absurd (some e)
    by_found (Instrumented target) cause e text = absurd (some e)
    by_found (RecordHolds steps threads) cause e text = absurd (some e)
    by_found found cause e text = a_run found tt cause e text

-- 0: a run without violations, or a program that was accepted, or its target code, or a right record
clean : (files : FilesSeen) (hosts : HostTable) (sink : SinkSeen) (asked : Option Job) (kept : RunRecord) (answer : ℕ)
    → Answers files hosts sink asked kept answer → answer ≡ 0
    → RanWith files hosts sink asked kept answer (λ found. not (tells_violation found kept)) ⊎ AcceptedWhole files hosts sink asked kept
    ⊎ InstrumentedWhole files hosts sink asked kept ⊎ RecheckedWhole files hosts sink asked kept
clean files hosts sink asked kept answer (inr out) is = absurd (let nine = out.status in omega (arith, nine, is))
clean files hosts sink asked kept answer (inl told) is =
    let put = put_whole sink (text_for told.found kept) (status_for told.found kept) answer 0 told.puts is (uncut_low 0 (omega arith)) in
    by_found told.found told.cause put.0 put.1
  where
    a_run : (found : Outcome) → TellsRun found → OfJob files asked (FindsIn files hosts kept found) → 0 ≡ status_for found kept
        → Appends sink.taken_before sink.taken_after (text_for found kept) → RanWith files hosts sink asked kept answer (λ found. not (tells_violation found kept))
    a_run found tells cause e text = record {
      run = whole_run files hosts sink asked kept answer found tells cause (is ∙ e) text;
      shown = none_at_0 (any_end is_no_memory kept) (any_end is_limit kept) (any_end is_trap kept) (tells_violation found kept) 0 refl
          (told_own found kept 0 tells e (λ ten. omega (arith, ten)));
    }

    by_found : (found : Outcome) → HasCause files hosts asked kept found → 0 ≡ status_for found kept
        → Appends sink.taken_before sink.taken_after (text_for found kept)
        → RanWith files hosts sink asked kept answer (λ found. not (tells_violation found kept)) ⊎ AcceptedWhole files hosts sink asked kept
        ⊎ InstrumentedWhole files hosts sink asked kept ⊎ RecheckedWhole files hosts sink asked kept
    by_found (Accepted functions instructions) cause e text =
        inr (inl (record { functions = functions; instructions = instructions; cause = cause; text = text }))
    by_found (Instrumented target) cause e text = inr (inr (inl (record { target = target; cause = cause; text = text })))
    by_found (RecordHolds steps threads) cause e text =
        inr (inr (inr (record { steps = steps; threads = threads; cause = cause; text = text })))
    by_found Ran cause e text = inl (a_run Ran tt cause e text)
    by_found (Loaded seed size) cause e text = inl (a_run (Loaded seed size) tt cause e text)
    by_found Recorded cause e text = inl (a_run Recorded tt cause e text)
    by_found (Hushed rules) cause e text = inl (a_run (Hushed rules) tt cause e text)
    by_found (Raced races) cause e text = inl (a_run (Raced races) tt cause e text)
    by_found (Traced violations) cause e text = inl (a_run (Traced violations) tt cause e text)
    by_found found cause e text = absurd (unlike found kept 0 e refl)

-- 10: a run with data races
raced : (files : FilesSeen) (hosts : HostTable) (sink : SinkSeen) (asked : Option Job) (kept : RunRecord) (answer : ℕ)
    → Answers files hosts sink asked kept answer → answer ≡ 10 → RacedWhole files hosts sink asked kept
raced files hosts sink asked kept answer (inr out) is = absurd (let nine = out.status in omega (arith, nine, is))
raced files hosts sink asked kept answer (inl told) is =
    let put = put_whole sink (text_for told.found kept) (status_for told.found kept) answer 10 told.puts is uncut in
    by_found told.found told.cause put.0 put.1
  where
    uncut : IsCutShort 10 → ⊥
    uncut (inl e) = omega (arith, e)
    uncut (inr e) = omega (arith, e)

    not_own : (found : Outcome) → 10 ≡ run_status found kept → ⊥
    not_own found own = true≢false (sym (run_status_is found kept) ∙ ap is_run_status (sym own))

    with_races : (races : List Race) → OfJob files asked (FindsIn files hosts kept (Raced races)) → (10 ≡ status_of kept) ⊎ IsTen 10 (status_of kept) (length races)
        → Appends sink.taken_before sink.taken_after (race_text kept races) → RacedWhole files hosts sink asked kept
    with_races races cause (inl own) text = absurd (not_own (Raced races) own)
    with_races races cause (inr ten) text = record {
      races = races;
      cause = cause;
      some = λ none. let at : length races ≡ 0 = ap (length {A = Race}) none in let some = ten.some in omega (arith, at, some);
      low = ten.low;
      text = text;
    }

    by_found : (found : Outcome) → HasCause files hosts asked kept found → 10 ≡ status_for found kept
        → Appends sink.taken_before sink.taken_after (text_for found kept) → RacedWhole files hosts sink asked kept
    by_found (Raced races) cause e text = with_races races cause (raced_as 10 (status_of kept) (length races) e) text
    by_found found cause e text = absurd (unlike found kept 10 e refl)

-- 0, 1, 5, 6 and 10: a run of which the whole text was put; 0 also: a program was accepted, or its target code made, or a record
-- found right
pub run_cause : (files : FilesSeen) (hosts : HostTable) (sink : SinkSeen) (asked : Option Job) (kept : RunRecord) (answer : ℕ)
    → Answers files hosts sink asked kept answer → RunCause files hosts sink asked kept answer
run_cause files hosts sink asked kept answer answers = record {
  clean = clean files hosts sink asked kept answer answers;
  violated = λ is. run_with files hosts sink asked kept answer 1 (λ found. tells_violation found kept) answers is (omega arith) (λ e. omega (arith, e)) refl
      (λ found. some_at_1 (any_end is_no_memory kept) (any_end is_limit kept) (any_end is_trap kept) (tells_violation found kept) 1 refl);
  trapped = λ is. run_with files hosts sink asked kept answer 5 (λ found. any_end is_trap kept) answers is (omega arith) (λ e. omega (arith, e)) refl
      (λ found. trap_at_5 (any_end is_no_memory kept) (any_end is_limit kept) (any_end is_trap kept) (tells_violation found kept) 5 refl);
  limited = λ is. run_with files hosts sink asked kept answer 6 (λ found. any_end is_limit kept) answers is (omega arith) (λ e. omega (arith, e)) refl
      (λ found. limit_at_6 (any_end is_no_memory kept) (any_end is_limit kept) (any_end is_trap kept) (tells_violation found kept) 6 refl);
  raced = raced files hosts sink asked kept answer answers;
}

-- 9: nothing was put, or the whole text of a run in which a thread found no memory
pub memory_cause : (files : FilesSeen) (hosts : HostTable) (sink : SinkSeen) (asked : Option Job) (kept : RunRecord) (answer : ℕ)
    → Answers files hosts sink asked kept answer → MemoryCause files hosts sink asked kept answer
memory_cause files hosts sink asked kept answer (inr out) is = inl (record { nothing = out.nothing; record_kept = out.record_kept })
memory_cause files hosts sink asked kept answer (inl told) is = by_puts told.puts
  where
    a_run : (found : Outcome) → TellsRun found → OfJob files asked (FindsIn files hosts kept found) → answer ≡ status_for found kept
        → Appends sink.taken_before sink.taken_after (text_for found kept) → RanWith files hosts sink asked kept answer (λ found. any_end is_no_memory kept)
    a_run found tells cause e text = record {
      run = whole_run files hosts sink asked kept answer found tells cause e text;
      shown = memory_at_9 (any_end is_no_memory kept) (any_end is_limit kept) (any_end is_trap kept) (tells_violation found kept) answer is
          (told_own found kept answer tells e (λ ten. omega (arith, is, ten)));
    }

    by_found : (found : Outcome) → HasCause files hosts asked kept found → answer ≡ status_for found kept
        → Appends sink.taken_before sink.taken_after (text_for found kept) → RanWith files hosts sink asked kept answer (λ found. any_end is_no_memory kept)
    by_found Ran cause e text = a_run Ran tt cause e text
    by_found (Loaded seed size) cause e text = a_run (Loaded seed size) tt cause e text
    by_found Recorded cause e text = a_run Recorded tt cause e text
    by_found (Hushed rules) cause e text = a_run (Hushed rules) tt cause e text
    by_found (Raced races) cause e text = a_run (Raced races) tt cause e text
    by_found (Traced violations) cause e text = a_run (Traced violations) tt cause e text
    by_found found cause e text = absurd (unlike found kept 9 (sym is ∙ e) refl)

    by_puts : Puts sink (text_for told.found kept) (status_for told.found kept) answer
        → PutNothing files hosts sink asked kept ⊎ RanWith files hosts sink asked kept answer (λ found. any_end is_no_memory kept)
    by_puts (whole e text) = inr (by_found told.found told.cause e text)
    by_puts (failed e rose prefix) = absurd (omega (arith, e, is))
    by_puts (no_memory e keeps) = inl (record { nothing = keeps; record_kept = left files hosts asked kept told.found told.cause })

-- 2: nothing was asked for
pub unasked : (files : FilesSeen) (hosts : HostTable) (sink : SinkSeen) (asked : Option Job) (kept : RunRecord) (answer : ℕ)
    → Answers files hosts sink asked kept answer → answer ≡ 2 → asked ≡ None
unasked files hosts sink asked kept answer (inr out) is = absurd (let nine = out.status in omega (arith, nine, is))
unasked files hosts sink asked kept answer (inl told) is =
    by_found told.found told.cause (put_whole sink _ (status_for told.found kept) answer 2 told.puts is (uncut_low 2 (omega arith))).0
  where
    by_found : (found : Outcome) → HasCause files hosts asked kept found → 2 ≡ status_for found kept → asked ≡ None
    by_found Usage cause e = cause.0
    by_found found cause e = absurd (unlike found kept 2 e refl)

-- 8: the sink failed
pub put_cause : (files : FilesSeen) (hosts : HostTable) (sink : SinkSeen) (asked : Option Job) (kept : RunRecord) (answer : ℕ)
    → Answers files hosts sink asked kept answer → PutCause sink answer
put_cause files hosts sink asked kept answer (inr out) is = absurd (let nine = out.status in omega (arith, nine, is))
put_cause files hosts sink asked kept answer (inl told) is = by_puts told.puts
  where
    by_puts : Puts sink (text_for told.found kept) (status_for told.found kept) answer → Rose sink.faults_before sink.faults_after
    by_puts (whole e text) = absurd (unlike told.found kept 8 (sym is ∙ e) (never_8 told.found))
    by_puts (failed e rose prefix) = rose
    by_puts (no_memory e keeps) = absurd (omega (arith, e, is))
