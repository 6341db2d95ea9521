use Rattle.std.proofs.Common.{arith}
use Rattle.std.proofs.lemmas.Result.{IfOk-weaker, IfErr-weaker, err_from_is_err_and}
use Rattle.record_text.proofs.Beginnings.{none_read, one_read, few_lines, text_refused, lines_missing, all_told}
use Rattle.record_text.proofs.FirstPart.{line_cut, line_plain, none_cut}
use Rattle.record_text.proofs.PieceLoop.{no_some}
use Rattle.record_text.proofs.record.told.Goals as goal

pub loop-more-init : goal.loop-more-init
loop-more-init c = none_read c.args.bytes.now

-- with one more line that isn't refused, the invariant holds of the rest behind it
pub loop-more-preserved : goal.loop-more-preserved
loop-more-preserved c =
    one_read c.args.bytes.now c.loop-more.rest.now c.cut.result.0.now c.in-Some.more.now c.loop-more.state c.in_ok-state.state c.loop-more.line c.loop-more.invariant
    (line_cut c.loop-more.rest.now c.cut.result.0.now c.cut.result.1 c.in-Some.more c.cut.ensures.parts c.in-Some.is)
    (line_plain c.loop-more.rest.now c.cut.result.0.now _ c.cut.ensures.parts) c.in_ok-state.ensures.taken

pub returns-in_default-clause-told : goal.returns-in_default-clause-told
returns-in_default-clause-told c =
    IfOk-weaker c.whole.result _ _ (λ told h. all_told c.args.bytes.now c.loop-more.rest.now c.loop-more.line told.0 told.1 c.loop-more.state c.loop-more.invariant h.0 h.1) c.whole.ensures.whole

pub returns-in_default-clause-refused : goal.returns-in_default-clause-refused
returns-in_default-clause-refused c =
    IfErr-weaker c.whole.result _ _
    (λ fault h. lines_missing c.args.bytes.now c.loop-more.rest.now c.loop-more.state c.loop-more.line fault c.loop-more.invariant
    (none_cut c.loop-more.rest.now c.cut.result.0.now c.cut.result.1 c.cut.ensures.parts (no_some c.cut.result.1 (λ x e. c.in_default.not-Some x e))) h)
    c.whole.ensures.refused

-- the next line is refused
pub returns-in_err-state-clause-refused : goal.returns-in_err-state-clause-refused
returns-in_err-state-clause-refused c =
    let p = err_from_is_err_and c.from_residual.result c.from_residual.ensures.1 in
    rw (p.1, p.2)
    (text_refused c.args.bytes.now c.loop-more.rest.now c.cut.result.0.now c.in-Some.more.now c.loop-more.state c.loop-more.line c.in_err-state.field-0.0 c.loop-more.invariant
    (line_cut c.loop-more.rest.now c.cut.result.0.now c.cut.result.1 c.in-Some.more c.cut.ensures.parts c.in-Some.is)
    (line_plain c.loop-more.rest.now c.cut.result.0.now _ c.cut.ensures.parts) c.in_err-state.ensures.refused)

-- there are no more lines than bytes
pub overflow_add-line : goal.overflow_add-line
overflow_add-line c =
    let few = few_lines c.args.bytes.now c.loop-more.rest.now c.loop-more.state c.loop-more.line c.loop-more.invariant in
    omega (arith, few)
