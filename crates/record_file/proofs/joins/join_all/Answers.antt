use Rattle.std.proofs.Common.{◌≡◌, ◌+◌, suc, length, take, refl, sym, ◌∙◌, subst, inl, inr, arith}
use Rattle.std.proofs.lemmas.Bool.{true≢false}
use Rattle.std.proofs.lemmas.Option.{slice_get_read}
use Rattle.history.specs.declared.entry.Entry.{Entry}
use Rattle.runs.specs.Parts.{Has}
use Rattle.record_file.specs.Joins.{JoinsRight}
use Rattle.record_file.proofs.Marking.{has_at}
use Rattle.record_file.proofs.Threading.{has_more}
use Rattle.record_file.proofs.joins.join_all.Goals as goal

pub returns-then-not-joins_right : goal.returns-then-not-joins_right
returns-then-not-joins_right c = (
  λ f. absurd (true≢false (sym f)),
  λ all. (
      let es = c.args.entries.now in
      let e = c.entry-item.result in
      let k = c.loop-entry.entry-index in
      let here = slice_get_read es (length es) k e refl (omega arith) c.entry-item.is in
      absurd (true≢false (sym (c.joins_right.ensures.1 (all e (has_at es k e here))) ∙ c.if-not-joins_right.true))),
)

pub loop-entry-preserved : goal.loop-entry-preserved
loop-entry-preserved c = λ x h. (
    let logs = c.args.logs.now in
    let es = c.args.entries.now in
    let e = c.entry-item.result in
    let k = c.loop-entry.entry-index in
    let here = slice_get_read es (length es) k e refl (omega arith) c.entry-item.is in
    let up : k + 1 ≡ suc k = omega arith in
    elim (has_more es k e x here (subst (λ n. Has (take n es) x) up h)) [
      | inl before ↦ c.loop-entry.invariant x before
      | inr same ↦ subst (λ (z : Entry). JoinsRight logs z z.request) same (c.joins_right.ensures.0 c.if-not-joins_right.false)
    ])
