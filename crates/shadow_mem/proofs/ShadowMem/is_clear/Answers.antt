use Rattle.std.proofs.Common.{◌≡◌, ◌∙◌, ◌+◌, ◌<◌, ◌≤◌, Bool, true, Some, None, arith, sym, ap, subst, length, replicate, slice_get}
use Rattle.std.proofs.lemmas.Bool.{leb-true}
use Rattle.history.specs.Memory.{put}
use Rattle.shadow_mem.specs.Origins.{Fragments, frags_from}
use Rattle.shadow_mem.proofs.Shadows.{length-frags_from, clear-put}
use Rattle.shadow_mem.proofs.ShadowMem.is_clear.Goals as goal

pub get-requires : goal.get-requires
get-requires c =
    let long : length (frags_from 0 c.self.inside.map.bytes) ≡ length c.self.inside.map.bytes = length-frags_from 0 c.self.inside.map.bytes in
    let within : c.args.span.start + c.args.span.len ≤ length (frags_from 0 c.self.inside.map.bytes) = subst (λ (s : Fragments). c.args.span.start + c.args.span.len ≤ length s.frags) (sym c.self.view_is) c.requires.within in
    omega (arith, long, within, c.requires.some)

pub overflow_add-result : goal.overflow_add-result
overflow_add-result c =
    let long : length (frags_from 0 c.self.inside.map.bytes) ≡ length c.self.inside.map.bytes = length-frags_from 0 c.self.inside.map.bytes in
    let within : c.args.span.start + c.args.span.len ≤ length (frags_from 0 c.self.inside.map.bytes) = subst (λ (s : Fragments). c.args.span.start + c.args.span.len ≤ length s.frags) (sym c.self.view_is) c.requires.within in
    omega (arith, long, within, c.self.invariant.short)

pub run_end-requires : goal.run_end-requires
run_end-requires c =
    let long : length (frags_from 0 c.self.inside.map.bytes) ≡ length c.self.inside.map.bytes = length-frags_from 0 c.self.inside.map.bytes in
    let within : c.args.span.start + c.args.span.len ≤ length (frags_from 0 c.self.inside.map.bytes) = subst (λ (s : Fragments). c.args.span.start + c.args.span.len ≤ length s.frags) (sym c.self.view_is) c.requires.within in
    omega (arith, long, within, c.requires.some)

pub returns-in-None : goal.returns-in-None
returns-in-None c = λ ends.
    let long : length (frags_from 0 c.self.inside.map.bytes) ≡ length c.self.inside.map.bytes = length-frags_from 0 c.self.inside.map.bytes in
    let within : c.args.span.start + c.args.span.len ≤ length (frags_from 0 c.self.inside.map.bytes) = subst (λ (s : Fragments). c.args.span.start + c.args.span.len ≤ length s.frags) (sym c.self.view_is) c.requires.within in
    let end : c.args.span.start + c.args.span.len ≤ c.run_end.result = leb-true (c.args.span.start + c.args.span.len) c.run_end.result ends in
    subst (λ (s : Fragments). put c.args.span.start (replicate c.args.span.len None) s.frags ≡ s.frags) c.self.view_is
    (clear-put c.args.span.start c.args.span.len c.self.inside.map.bytes (omega (arith, long, within))
    (λ b lo hi. c.run_end.ensures.uniform b lo (omega (arith, hi, end)) ∙ c.in-None.ensures))
