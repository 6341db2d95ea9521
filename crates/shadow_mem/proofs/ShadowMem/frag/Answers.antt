use Rattle.std.proofs.Common.{◌≡◌, ◌∙◌, ◌<◌, Some, None, arith, sym, ap, subst, length, slice_get}
use Rattle.shadow_mem.specs.Origins.{Fragments, frags_from}
use Rattle.shadow_mem.proofs.Shadows.{length-frags_from, slice_get-frags, small-at}
use Rattle.shadow_mem.proofs.ShadowMem.frag.Goals as goal

pub get-requires : goal.get-requires
get-requires c =
    let long : length (frags_from 0 c.self.inside.map.bytes) ≡ length c.self.inside.map.bytes = length-frags_from 0 c.self.inside.map.bytes in
    let within : c.args.at < length (frags_from 0 c.self.inside.map.bytes) = subst (λ (s : Fragments). c.args.at < length s.frags) (sym c.self.view_is) c.requires in
    omega (arith, long, within)

pub overflow_cast-result : goal.overflow_cast-result
overflow_cast-result c =
    let small = small-at (frags_from 0 c.self.inside.map.bytes) c.args.at _ c.self.invariant.small (slice_get-frags c.args.at c.self.inside.map.bytes (Some c.in-Some.origin) c.in-Some.ensures) in
    omega (arith, small)

pub returns-in-None-clause-value : goal.returns-in-None-clause-value
returns-in-None-clause-value c = sym (ap (λ (s : Fragments). slice_get s.frags c.args.at) c.self.view_is) ∙ slice_get-frags c.args.at c.self.inside.map.bytes None c.in-None.ensures

pub returns-in-Some-clause-value : goal.returns-in-Some-clause-value
returns-in-Some-clause-value c = sym (ap (λ (s : Fragments). slice_get s.frags c.args.at) c.self.view_is) ∙ slice_get-frags c.args.at c.self.inside.map.bytes (Some c.in-Some.origin) c.in-Some.ensures

pub returns-in-None-clause-size : goal.returns-in-None-clause-size
returns-in-None-clause-size c =
    let short : length (frags_from 0 c.self.inside.map.bytes) < 4294967296 = omega (arith, c.self.invariant.short, length-frags_from 0 c.self.inside.map.bytes) in
    subst (λ (s : Fragments). length s.frags < 4294967296) c.self.view_is short

pub returns-in-Some-clause-size : goal.returns-in-Some-clause-size
returns-in-Some-clause-size c =
    let short : length (frags_from 0 c.self.inside.map.bytes) < 4294967296 = omega (arith, c.self.invariant.short, length-frags_from 0 c.self.inside.map.bytes) in
    subst (λ (s : Fragments). length s.frags < 4294967296) c.self.view_is short
