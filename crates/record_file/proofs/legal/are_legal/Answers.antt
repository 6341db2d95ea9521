use Rattle.std.proofs.Common.{length, refl, sym, ◌∙◌, arith}
use Rattle.std.proofs.lemmas.Bool.{true≢false}
use Rattle.std.proofs.lemmas.Option.{slice_get_read}
use Rattle.record_file.proofs.Histories.{legal_more}
use Rattle.record_file.proofs.Marking.{has_at}
use Rattle.record_file.proofs.legal.are_legal.Goals as goal

pub is_legal-requires : goal.is_legal-requires
is_legal-requires c =
    let logs = c.args.logs.now in
    let log = c.log-item.result in
    let k = c.loop-log.log-index in
    c.requires log (has_at logs k log (slice_get_read logs (length logs) k log refl (omega arith) c.log-item.is))

pub returns-then-not-branch : goal.returns-then-not-branch
returns-then-not-branch c =
    let logs = c.args.logs.now in
    let log = c.log-item.result in
    let k = c.loop-log.log-index in (
      λ f. absurd (true≢false (sym f)),
      λ all. absurd (true≢false (sym (c.in_ok-is_legal.ensures.1 (all log (has_at logs k log (slice_get_read logs (length logs) k log refl (omega arith) c.log-item.is)))) ∙ c.if-not-branch.true)),
    )

pub loop-log-preserved : goal.loop-log-preserved
loop-log-preserved c =
    let logs = c.args.logs.now in
    let log = c.log-item.result in
    let k = c.loop-log.log-index in
    legal_more logs k log c.loop-log.invariant (slice_get_read logs (length logs) k log refl (omega arith) c.log-item.is) (c.in_ok-is_legal.ensures.0 c.if-not-branch.false)
