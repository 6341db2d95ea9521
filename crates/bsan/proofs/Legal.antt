-- The allocation logs of a right record are legal histories.
use Rattle.std.proofs.Common.{◌≡◌, ◌<◌, ◌≤◌, ℕ, List, [], ◌∷◌, refl, ap, subst, inl, inr, arith}
use Rattle.std.specs.Prelude.{All}
use Rattle.std.proofs.lemmas.Bool.Decides.{eqb_tells}
use Rattle.std.proofs.lemmas.List.Elements.{All-cons, All-nil}
use Rattle.bsan_ids.specs.declared.numbers.Limits.{Limits}
use Rattle.explain.specs.Explanations.{AreHistories}
use Rattle.history.specs.Histories.{IsHistory}
use Rattle.history.specs.declared.log.AllocLog.{AllocLog}
use Rattle.history.specs.declared.record.RunRecord.{RunRecord}
use Rattle.ir_ast.specs.declared.hosts.HostTable.{HostTable}
use Rattle.ir_ast.specs.declared.program.Program.{Program}
use Rattle.runs.specs.Parts.{Has}
use Rattle.runs.specs.Right.{AllocsRiseFrom, history_of}
use Rattle.source_runs.proofs.LegalHistories.{histories_are_legal}
use Rattle.source_sem.specs.Records.{IsRightFor}
use Rattle.source_sem.specs.Starting.{setting_of}

log_above : (n limit : ℕ) (logs : List AllocLog) (log : AllocLog) → AllocsRiseFrom n limit logs → Has logs log → (n < log.number.0) × (log.number.0 ≤ limit)
log_above n limit [] log rises has = absurd has
log_above n limit (l ∷ ls) log rises (inl is) = subst (λ (z : AllocLog). (n < z.number.0) × (z.number.0 ≤ limit)) is (rises.0, rises.1)
log_above n limit (l ∷ ls) log rises (inr has) =
    let more = log_above l.number.0 limit ls log rises.3 has in let less = rises.0 in (omega (arith, less, more.0), more.1)

-- the history of a log's number is the log's
own_history : (n limit : ℕ) (logs : List AllocLog) (log : AllocLog) → AllocsRiseFrom n limit logs → Has logs log → history_of logs log.number.0 ≡ log.entries
own_history n limit [] log rises has = absurd has
own_history n limit (l ∷ ls) log rises (inl is) = elim (eqb_tells l.number.0 log.number.0) [
  | inl hit ↦ rw hit.0 (ap (λ (z : AllocLog). z.entries) is)
  | inr miss ↦ absurd (miss.1 (ap (λ (z : AllocLog). z.number.0) is))
]
own_history n limit (l ∷ ls) log rises (inr has) = elim (eqb_tells l.number.0 log.number.0) [
  | inl hit ↦ absurd (let above = log_above l.number.0 limit ls log rises.3 has in omega (arith, above.0, hit.1))
  | inr miss ↦ rw miss.0 (own_history l.number.0 limit ls log rises.3 has)
]

all_logs : (P : AllocLog → Type 0) (logs : List AllocLog) → ((log : AllocLog) → Has logs log → P log) → All P logs
all_logs P [] each = All-nil P
all_logs P (l ∷ ls) each = All-cons P l ls (each l (inl refl)) (all_logs P ls (λ log has. each log (inr has)))

pub right_histories : (program : Program) (input : List ℕ) (hosts : HostTable) (limits : Limits) (kept : RunRecord) → IsRightFor program input hosts limits kept
    → AreHistories kept.allocs
right_histories program input hosts limits kept right = all_logs Legal kept.allocs legal
  where
    Legal : AllocLog → Type 0
    Legal log = IsHistory log.number.0 log.entries

    legal : (log : AllocLog) → Has kept.allocs log → Legal log
    legal log has =
        let above = log_above 0 limits.allocs kept.allocs log right.histories.rise has in
        subst (λ es. IsHistory log.number.0 es) (own_history 0 limits.allocs kept.allocs log right.histories.rise has)
        (histories_are_legal (setting_of program input hosts) limits hosts kept right log.number.0 above.0 above.1)
