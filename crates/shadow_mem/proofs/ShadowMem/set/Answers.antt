use Rattle.std.proofs.Common.{◌≡◌, ◌+◌, ◌≤◌, length, refl, arith, sym, subst, ap, ◌∙◌, replicate}
use Rattle.history.specs.Memory.{put}
use Rattle.shadow_mem.specs.Origins.{Fragments, frags_from}
use Rattle.shadow_mem.proofs.Shadows.{length-frags_from, IsShadow-set, frags-set, size-set}
use Rattle.shadow_mem.proofs.ShadowMem.set.Goals as goal

pub set_run-requires-clause-within : goal.set_run-requires-clause-within
set_run-requires-clause-within c =
    let long : length (frags_from 0 c.self.inside.map.bytes) ≡ length c.self.inside.map.bytes = length-frags_from 0 c.self.inside.map.bytes in
    let within : c.args.span.start + c.args.span.len ≤ length (frags_from 0 c.self.inside.map.bytes) = subst (λ (s : Fragments). c.args.span.start + c.args.span.len ≤ length s.frags) (sym c.self.view_is) c.requires.within in
    omega (arith, long, within)

pub invariant_of-self : goal.invariant_of-self
invariant_of-self c =
    let long : length (frags_from 0 c.self.inside.map.bytes) ≡ length c.self.inside.map.bytes = length-frags_from 0 c.self.inside.map.bytes in
    let within : c.args.span.start + c.args.span.len ≤ length (frags_from 0 c.self.inside.map.bytes) = subst (λ (s : Fragments). c.args.span.start + c.args.span.len ≤ length s.frags) (sym c.self.view_is) c.requires.within in
    IsShadow-set c.args.span.start c.args.span.len (c.args.span.start + c.args.span.len) c.args.origin c.self.inside.map c.set_run.new.self refl (omega (arith, long, within)) c.set_run.ensures.bytes c.requires.small c.self.invariant

pub returns-clause-frags : goal.returns-clause-frags
returns-clause-frags c =
    let long : length (frags_from 0 c.self.inside.map.bytes) ≡ length c.self.inside.map.bytes = length-frags_from 0 c.self.inside.map.bytes in
    let within : c.args.span.start + c.args.span.len ≤ length (frags_from 0 c.self.inside.map.bytes) = subst (λ (s : Fragments). c.args.span.start + c.args.span.len ≤ length s.frags) (sym c.self.view_is) c.requires.within in
    frags-set c.args.span.start c.args.span.len (c.args.span.start + c.args.span.len) c.args.origin c.self.inside.map c.set_run.new.self refl (omega (arith, long, within)) c.set_run.ensures.bytes
    ∙ ap (λ (s : Fragments). put c.args.span.start (frags_from c.args.span.start (replicate c.args.span.len c.args.origin)) s.frags) c.self.view_is

pub returns-clause-size : goal.returns-clause-size
returns-clause-size c =
    let long : length (frags_from 0 c.self.inside.map.bytes) ≡ length c.self.inside.map.bytes = length-frags_from 0 c.self.inside.map.bytes in
    let within : c.args.span.start + c.args.span.len ≤ length (frags_from 0 c.self.inside.map.bytes) = subst (λ (s : Fragments). c.args.span.start + c.args.span.len ≤ length s.frags) (sym c.self.view_is) c.requires.within in
    size-set c.args.span.start c.args.span.len (c.args.span.start + c.args.span.len) c.args.origin c.self.inside.map c.set_run.new.self refl (omega (arith, long, within)) c.set_run.ensures.bytes
    ∙ ap (λ (s : Fragments). length s.frags) c.self.view_is
