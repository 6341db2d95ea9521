use Rattle.std.proofs.Common.{◌≡◌, ◌+◌, suc, length, take, refl, sym, ◌∙◌, subst, inl, inr, arith}
use Rattle.std.proofs.lemmas.Bool.{true≢false}
use Rattle.std.proofs.lemmas.Option.{slice_get_read}
use Rattle.history.specs.declared.log.ThreadLog.{ThreadLog}
use Rattle.runs.specs.Parts.{Has}
use Rattle.record_file.specs.Joins.{EndsRight, JoinAll}
use Rattle.record_file.proofs.Marking.{has_at}
use Rattle.record_file.proofs.Threading.{has_more}
use Rattle.record_file.proofs.joins.are_joined_right.Goals as goal
use Rattle.record_file.proofs.joins.are_joined_right.Goals.{then-not-join_all-via-then-not-join_all, then-not-join_all-via-else-not-join_all+then-not-ends_right}

pub returns-then-not-join_all : goal.returns-then-not-join_all
returns-then-not-join_all c = (
  λ f. absurd (true≢false (sym f)),
  λ all. (
      let logs = c.args.logs.now in
      let log = c.log-item.result in
      let k = c.loop-log.log-index in
      let here = slice_get_read logs (length logs) k log refl (omega arith) c.log-item.is in
      let both = all log (has_at logs k log here) in
      absurd (elim c.then-not-join_all.branch [
        | then-not-join_all-via-then-not-join_all w ↦ true≢false (sym (c.join_all.ensures.1 (subst (JoinAll logs) (sym c.as_slice.ensures) both.0)) ∙ w.if-not-join_all.true)
        | then-not-join_all-via-else-not-join_all+then-not-ends_right w ↦ true≢false (sym (w.ends_right.ensures.1 both.1) ∙ w.if-not-ends_right.true)
      ])),
)

pub loop-log-preserved : goal.loop-log-preserved
loop-log-preserved c = λ l h. (
    let logs = c.args.logs.now in
    let log = c.log-item.result in
    let k = c.loop-log.log-index in
    let here = slice_get_read logs (length logs) k log refl (omega arith) c.log-item.is in
    let up : k + 1 ≡ suc k = omega arith in
    elim (has_more logs k log l here (subst (λ n. Has (take n logs) l) up h)) [
      | inl before ↦ c.loop-log.invariant l before
      | inr same ↦ subst (λ (z : ThreadLog). JoinAll logs z.entries × EndsRight logs z.«end») same
          (subst (JoinAll logs) c.as_slice.ensures (c.join_all.ensures.0 c.if-not-join_all.false), c.ends_right.ensures.0 c.if-not-ends_right.false)
    ])
