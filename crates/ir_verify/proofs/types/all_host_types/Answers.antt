use Rattle.std.proofs.Common.{◌+◌, ◌∙◌, ap, sym, refl, Bool, false, cond, drop}
use Rattle.ir_ast.specs.declared.program.TypedVal.{TypedVal}
use Rattle.ir_rules.specs.Checks.{is_host_type, all_host_types}
use Rattle.ir_verify.proofs.Steps.{hosts_here, hosts_past}
use Rattle.ir_verify.proofs.types.all_host_types.Goals as goal

pub loop-arg-init : goal.loop-arg-init
loop-arg-init c = refl

pub loop-arg-preserved : goal.loop-arg-preserved
loop-arg-preserved c =
    let args = c.args.args.now in
    let i = c.loop-arg.arg-index in
    c.loop-arg.invariant ∙ hosts_here args i c.arg-item.result c.loop-arg-test.true
    ∙ ap (λ (b : Bool). cond b (all_host_types (drop (i + 1) args)) false) (sym (ap (λ (a : TypedVal). is_host_type a.ty) c.arg-item.is) ∙ sym c.is_host_type.ensures ∙ c.if-not-is_host_type.false)

pub returns-then-not-is_host_type : goal.returns-then-not-is_host_type
returns-then-not-is_host_type c =
    let args = c.args.args.now in
    let i = c.loop-arg.arg-index in
    sym (c.loop-arg.invariant ∙ hosts_here args i c.arg-item.result c.loop-arg-test.true
    ∙ ap (λ (b : Bool). cond b (all_host_types (drop (i + 1) args)) false) (sym (ap (λ (a : TypedVal). is_host_type a.ty) c.arg-item.is) ∙ sym c.is_host_type.ensures ∙ c.if-not-is_host_type.true))

pub returns : goal.returns
returns c = sym (c.loop-arg.invariant ∙ hosts_past c.args.args.now c.loop-arg.arg-index c.loop-arg-test.false)
