-- The logs of all numbers are legal exactly where the entries are histories.
use Rattle.std.proofs.Common.{◌≡◌, ◌↔◌, ℕ, suc, ◌+◌, List, [], take, sym, subst, inl, inr, arith}
use Rattle.std.specs.Prelude.{Some, slice_get}
use Rattle.history.specs.declared.entry.Entry.{Entry}
use Rattle.history.specs.declared.log.AllocLog.{AllocLog}
use Rattle.runs.specs.Interleaving.{Legal}
use Rattle.runs.specs.Objects.{objects}
use Rattle.runs.specs.Parts.{Has}
use Rattle.runs.specs.Right.{Numbered}
use Rattle.runs.specs.Stamps.{RisesFrom}
use Rattle.runs.proofs.FiberLists.{numbered_rises}
use Rattle.runs.proofs.Merges.{alloc_rises}
use Rattle.record_text.specs.Texts.{logs_from}
use Rattle.record_file.specs.ByNumber.{AllFit, AreLegalLogs, IsLegalLog, IsSmall}
use Rattle.record_file.specs.Merging.{AreHistories}
use Rattle.record_file.proofs.ByNumber.{all_numbers, in_logs}
use Rattle.record_file.proofs.Threading.{has_more}

abbrev IsHistory : ℕ → List Entry → Type 0
IsHistory n es = Legal objects (objects.unmade n) es × AllFit es

no_history : (n : ℕ) → IsHistory n []
no_history n = (tt, λ e there. absurd there)

module _ (bound : ℕ) (es : List Entry) (logs : List AllocLog) (is : logs ≡ logs_from es 0 bound) where
  pub logs_rise_too : Numbered 1 es → (log : AllocLog) → Has logs log → RisesFrom 0 log.entries
  logs_rise_too numbered log there =
      let own = in_logs es 0 bound log (subst (λ ls. Has ls log) is there) in
      subst (RisesFrom 0) (sym own.2) (alloc_rises log.number.0 0 es (numbered_rises 0 es numbered))

  pub legal_iff : ((e : Entry) → Has es e → IsSmall bound e.alloc) → AreLegalLogs logs ↔ AreHistories es
  legal_iff small = (
    λ legal. (
        let all = (all_numbers IsHistory no_history bound es small).0 (λ log there. (let l = legal log (subst (λ ls. Has ls log) (sym is) there) in (l.legal, l.fitting))) in
        record { legal = λ a. (all a).0; fitting = λ a. (all a).1 }),
    λ h log there. (
        let p = (all_numbers IsHistory no_history bound es small).1 (λ n. (h.legal n, h.fitting n)) log (subst (λ ls. Has ls log) is there) in
        record { legal = p.0; fitting = p.1 }),
  )

-- one more log is legal
pub legal_more : (logs : List AllocLog) (k : ℕ) (log : AllocLog) → AreLegalLogs (take k logs) → slice_get logs k ≡ Some log → IsLegalLog log → AreLegalLogs (take (k + 1) logs)
legal_more logs k log all here one other there = elim (has_more logs k log other here (subst (λ n. Has (take n logs) other) up there)) [
  | inl before ↦ all other before
  | inr same ↦ subst IsLegalLog same one
]
  where
    up : k + 1 ≡ suc k
    up = omega arith
