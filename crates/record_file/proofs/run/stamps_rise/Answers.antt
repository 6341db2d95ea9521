use Rattle.std.proofs.Common.{◌≡◌, ◌+◌, suc, length, take, refl, sym, ◌∙◌, subst, inl, inr, arith}
use Rattle.std.proofs.lemmas.Bool.{true≢false}
use Rattle.std.proofs.lemmas.Option.{slice_get_read}
use Rattle.history.specs.declared.log.ThreadLog.{ThreadLog}
use Rattle.runs.specs.Parts.{Has}
use Rattle.runs.specs.Stamps.{RisesFrom}
use Rattle.record_file.proofs.Marking.{has_at}
use Rattle.record_file.proofs.Threading.{has_more}
use Rattle.record_file.proofs.run.stamps_rise.Goals as goal

pub returns-then-not-rise : goal.returns-then-not-rise
returns-then-not-rise c = (
  λ f. absurd (true≢false (sym f)),
  λ all. (
      let logs = c.args.logs.now in
      let log = c.log-item.result in
      let k = c.loop-log.log-index in
      let here = slice_get_read logs (length logs) k log refl (omega arith) c.log-item.is in
      absurd (true≢false (sym (c.rise.ensures.1 (subst (RisesFrom 0) (sym c.as_slice.ensures) (all log (has_at logs k log here)))) ∙ c.if-not-rise.true))),
)

pub loop-log-preserved : goal.loop-log-preserved
loop-log-preserved c = λ l h. (
    let logs = c.args.logs.now in
    let log = c.log-item.result in
    let k = c.loop-log.log-index in
    let here = slice_get_read logs (length logs) k log refl (omega arith) c.log-item.is in
    let up : k + 1 ≡ suc k = omega arith in
    elim (has_more logs k log l here (subst (λ n. Has (take n logs) l) up h)) [
      | inl before ↦ c.loop-log.invariant l before
      | inr same ↦ subst (λ (z : ThreadLog). RisesFrom 0 z.entries) same (subst (RisesFrom 0) c.as_slice.ensures (c.rise.ensures.0 c.if-not-rise.false))
    ])
