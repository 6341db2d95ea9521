use Rattle.std.proofs.Common.{◌∙◌, ◌≤◌, ◌+◌, ◌-◌, ◌&&◌, Bool, arith, ap, sym}
use Rattle.history.specs.Memory.{in_range}
use Rattle.history.specs.Fragments.{is_run}
use Rattle.shadow_mem.proofs.Shadows.{is_run-first}
use Rattle.shadow_mem.proofs.ShadowMem.+runs_on.Goals as goal

pub returns-then-not-is_fragment : goal.returns-then-not-is_fragment
returns-then-not-is_fragment t c =
    let some : 1 ≤ c.args.left = omega arith in
    ap (λ (b : Bool). b && is_run c.args.prov (c.args.index + 1) (in_range (c.args.at + 1) (c.args.left - 1) c.args.self.now.frags)) c.if-not-is_fragment.ensures
    ∙ sym (is_run-first c.args.prov c.args.at c.args.index c.args.left c.args.self.now.frags c.frag.result some c.frag.ensures.value)

pub returns : goal.returns
returns t c =
    let some : 1 ≤ c.args.left = omega arith in
    c.runs_on.ensures
    ∙ ap (λ (b : Bool). b && is_run c.args.prov (c.args.index + 1) (in_range (c.args.at + 1) (c.args.left - 1) c.args.self.now.frags)) c.if-not-is_fragment.ensures
    ∙ sym (is_run-first c.args.prov c.args.at c.args.index c.args.left c.args.self.now.frags c.frag.result some c.frag.ensures.value)
