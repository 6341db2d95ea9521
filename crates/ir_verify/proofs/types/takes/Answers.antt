use Rattle.std.proofs.Common.{◌≡◌, ◌+◌, ◌<◌, ◌≤◌, ◌∙◌, ap, sym, refl, Bool, false, cond, drop, get_or, length, arith}
use Rattle.ir_ast.specs.declared.program.Param.{Param}
use Rattle.ir_rules.specs.Checks.{takes}
use Rattle.ir_rules.specs.Walk.{same_ty}
use Rattle.ir_verify.proofs.Steps.{takes_here, takes_past, takes_not}
use Rattle.ir_verify.proofs.types.takes.Goals as goal

pub returns-then-params-args : goal.returns-then-params-args
returns-then-params-args c = sym (takes_not c.args.params.now c.args.args.now c.if-params-args.true)

pub loop-place-init : goal.loop-place-init
loop-place-init c = refl

pub loop-place-preserved : goal.loop-place-preserved
loop-place-preserved c =
    let params = c.args.params.now in
    let args = c.args.args.now in
    let i = c.loop-place.place in
    let lt : i < length params = c.loop-place-test.true in
    let same : length params ≡ length args = c.if-params-args.false in
    c.loop-place.invariant ∙ takes_here params args i c.index-params-place.result c.index-args-place.result lt (omega (arith, lt, same))
    ∙ ap (λ (b : Bool). cond b (takes (drop (i + 1) params) (drop (i + 1) args)) false) (ap (λ (z : Param). same_ty z.ty (get_or args i c.index-args-place.result).ty) (sym c.index-params-place.is) ∙ sym c.same_ty.ensures ∙ c.if-not-same_ty.false)

pub returns-then-not-same_ty : goal.returns-then-not-same_ty
returns-then-not-same_ty c =
    let params = c.args.params.now in
    let args = c.args.args.now in
    let i = c.loop-place.place in
    let lt : i < length params = c.loop-place-test.true in
    let same : length params ≡ length args = c.if-params-args.false in
    sym (c.loop-place.invariant ∙ takes_here params args i c.index-params-place.result c.index-args-place.result lt (omega (arith, lt, same))
    ∙ ap (λ (b : Bool). cond b (takes (drop (i + 1) params) (drop (i + 1) args)) false) (ap (λ (z : Param). same_ty z.ty (get_or args i c.index-args-place.result).ty) (sym c.index-params-place.is) ∙ sym c.same_ty.ensures ∙ c.if-not-same_ty.true))

pub returns : goal.returns
returns c =
    let params = c.args.params.now in
    let args = c.args.args.now in
    let i = c.loop-place.place in
    let past : length params ≤ i = c.loop-place-test.false in
    let same : length params ≡ length args = c.if-params-args.false in
    sym (c.loop-place.invariant ∙ takes_past params args i past (omega (arith, past, same)))
