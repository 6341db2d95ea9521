-- What is found of a record's text, and of a job that is its check.
use Rattle.std.proofs.Common.{◌≡◌, ℕ, List, refl, subst, arith}
use Rattle.std.specs.Option.{IsSomeAnd}
use Rattle.bsan_ids.specs.declared.numbers.Limits.{Limits}
use Rattle.command_words.specs.Jobs.{Job, RecordCheck}
use Rattle.command_words.specs.Jobs.Job.{Check, Instrument, Replay, Run, Load, Races, Record, Recheck, Hush, Explain}
use Rattle.history.specs.Records.{empty_record}
use Rattle.history.specs.declared.record.RunRecord.{RunRecord}
use Rattle.ir_ast.specs.declared.hosts.HostTable.{HostTable}
use Rattle.ir_ast.specs.declared.program.Program.{Program}
use Rattle.record_file.specs.Checked.{IsAnswer}
use Rattle.record_file.specs.declared.clauses.Checked.TheVariants.{Fails, Holds}
use Rattle.record_file.specs.declared.clauses.Clause.{Clause}
use Rattle.record_file.proofs.Answering.{holds_iff}
use Rattle.record_text.specs.Texts.{IsFirstWrong}
use Rattle.record_text.proofs.Beginnings.{one_record, no_fault}
use Rattle.source_sem.specs.Records.{IsRightRecord}
use Rattle.bsan.specs.Words.{recheck_in, IsRecheck}
use Rattle.bsan.specs.Seen.{FilesSeen}
use Rattle.bsan.specs.Runs.{IsOfRun}
use Rattle.bsan.specs.Rechecks.{IsRightText, IsWrongText, IsBrokenText, IsFoundOf, OfReadRecord}
use Rattle.bsan.specs.Answer.{Serves, status_for}
use Rattle.bsan.specs.declared.outcome.Outcome.{Outcome}
use Rattle.bsan.specs.declared.outcome.Outcome.TheVariants.{NotRecord, RecordBroken, RecordHolds}

-- ---- texts
-- a text with a wrong line is no record's, and so no right one's
wrong_line : (program : Program) (input : List ℕ) (hosts : HostTable) (limits : Limits) (text : List ℕ) (line : ℕ) → IsFirstWrong text line
    → IsWrongText program input hosts limits text
wrong_line program input hosts limits text line first right = no_fault limits.allocs text right.0 line right.1 first

-- a record of which a clause is broken is not right
not_right : (program : Program) (input : List ℕ) (hosts : HostTable) (limits : Limits) (kept : RunRecord) (clause : Clause)
    → IsAnswer program input hosts limits kept (Fails clause) → IsRightRecord program input hosts limits kept → ⊥
not_right program input hosts limits kept clause fails right =
    let no : Fails clause ≡ Holds = (holds_iff program input hosts limits kept (Fails clause) fails).1 right in cc

broken_clause : (program : Program) (input : List ℕ) (hosts : HostTable) (limits : Limits) (text : List ℕ) (clause : Clause)
    → IsBrokenText program input hosts limits clause text → IsWrongText program input hosts limits text
broken_clause program input hosts limits text clause broken right =
    let same : right.0 ≡ broken.0 = one_record limits.allocs text right.0 broken.0 right.1 broken.1 in
    not_right program input hosts limits broken.0 clause broken.2 (subst (λ (kept : RunRecord). IsRightRecord program input hosts limits kept) same right.2)

-- the status of what is found of a text tells whether it is that of a right record
pub wrong_at_11 : (program : Program) (input : List ℕ) (hosts : HostTable) (limits : Limits) (text : List ℕ) (kept : RunRecord) (found : Outcome)
    → IsFoundOf program input hosts limits text found → 11 ≡ status_for found kept → IsWrongText program input hosts limits text
wrong_at_11 program input hosts limits text kept (NotRecord line) of is = wrong_line program input hosts limits text line of
wrong_at_11 program input hosts limits text kept (RecordBroken clause) of is = broken_clause program input hosts limits text clause of
wrong_at_11 program input hosts limits text kept (RecordHolds steps threads) of is = absurd (omega (arith, is))
wrong_at_11 program input hosts limits text kept found of is = absurd of

pub right_at_0 : (program : Program) (input : List ℕ) (hosts : HostTable) (limits : Limits) (text : List ℕ) (kept : RunRecord) (found : Outcome)
    → IsFoundOf program input hosts limits text found → 0 ≡ status_for found kept → IsRightText program input hosts limits text
right_at_0 program input hosts limits text kept (NotRecord line) of is = absurd (omega (arith, is))
right_at_0 program input hosts limits text kept (RecordBroken clause) of is = absurd (omega (arith, is))
right_at_0 program input hosts limits text kept (RecordHolds steps threads) of is = (of.0, of.1, of.2)
right_at_0 program input hosts limits text kept found of is = absurd of

pub wrong_is_11 : (kept : RunRecord) (program : Program) (input : List ℕ) (hosts : HostTable) (limits : Limits) (text : List ℕ) (found : Outcome)
    → IsFoundOf program input hosts limits text found → IsWrongText program input hosts limits text → status_for found kept ≡ 11
wrong_is_11 kept program input hosts limits text (NotRecord line) of wrong = refl
wrong_is_11 kept program input hosts limits text (RecordBroken clause) of wrong = refl
wrong_is_11 kept program input hosts limits text (RecordHolds steps threads) of wrong = absurd (wrong (of.0, of.1, of.2))
wrong_is_11 kept program input hosts limits text found of wrong = absurd of

pub right_is_0 : (kept : RunRecord) (program : Program) (input : List ℕ) (hosts : HostTable) (limits : Limits) (text : List ℕ) (found : Outcome)
    → IsFoundOf program input hosts limits text found → IsRightText program input hosts limits text → status_for found kept ≡ 0
right_is_0 kept program input hosts limits text (NotRecord line) of right = absurd (wrong_line program input hosts limits text line of right)
right_is_0 kept program input hosts limits text (RecordBroken clause) of right = absurd (broken_clause program input hosts limits text clause of right)
right_is_0 kept program input hosts limits text (RecordHolds steps threads) of right = refl
right_is_0 kept program input hosts limits text found of right = absurd of

-- ---- jobs
-- what is found only of a record's text
abbrev pub IsOfText : Outcome → Type 0
IsOfText (NotRecord line) = Unit {0}
IsOfText (RecordBroken clause) = Unit {0}
IsOfText (RecordHolds steps threads) = Unit {0}
IsOfText found = ⊥

-- this was found of the text that was read of a record's file
abbrev pub IsFoundBy : FilesSeen → HostTable → Program → Outcome → RecordCheck → Type 0
IsFoundBy files hosts program found check = OfReadRecord files check (λ input text. IsFoundOf program input hosts check.settings.limits text found)

-- it is found by a check, which leaves no record
pub of_text : (files : FilesSeen) (hosts : HostTable) (kept : RunRecord) (found : Outcome) (program : Program) (job : Job) → IsOfText found
    → Serves files hosts kept found program job → IsSomeAnd (recheck_in job) (IsFoundBy files hosts program found) × (kept ≡ empty_record)
of_text files hosts kept found program (Check file) one serves = absurd (subst IsOfText serves.0 one)
of_text files hosts kept found program (Instrument file) one serves = absurd (subst IsOfText serves.0 one)
of_text files hosts kept found program (Replay run) one serves = absurd (subst IsOfText serves.0 one)
of_text files hosts kept found program (Run run) one serves = absurd (subst IsOfText serves.0 one)
of_text files hosts kept found program (Load run) one serves = absurd (subst IsOfText serves.0 one)
of_text files hosts kept found program (Races run) one serves = absurd (subst IsOfText serves.1.1 one)
of_text files hosts kept found program (Record run) one serves = absurd (subst IsOfText serves.0 one)
of_text files hosts kept found program (Recheck check) one serves = serves
of_text files hosts kept found program (Hush run) one serves = absurd (subst IsOfText serves.1.1 one)
of_text files hosts kept found program (Explain run) one serves = absurd (subst IsOfText serves.1.1 one)

-- a check finds what it finds of the text
pub of_recheck : (files : FilesSeen) (hosts : HostTable) (kept : RunRecord) (found : Outcome) (program : Program) (job : Job) → IsRecheck job
    → Serves files hosts kept found program job → IsSomeAnd (recheck_in job) (IsFoundBy files hosts program found)
of_recheck files hosts kept found program (Recheck check) one serves = serves.0
of_recheck files hosts kept found program job one serves = absurd one

-- and has no run
pub not_of_run : (files : FilesSeen) (hosts : HostTable) (kept : RunRecord) (program : Program) (job : Job) → IsRecheck job
    → IsOfRun files hosts kept program job → ⊥
not_of_run files hosts kept program (Recheck check) one run = run
not_of_run files hosts kept program job one run = one
