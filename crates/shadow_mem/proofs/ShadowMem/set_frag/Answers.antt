use Rattle.std.proofs.Common.{ℕ, ◌-◌, ◌%◌, ◌∙◌, ◌∷◌, [], arith, ap, sym, Option, List, ◌+◌}
use Rattle.bsan_ids.specs.declared.numbers.Frag.{Frag}
use Rattle.history.specs.Memory.{put}
use Rattle.shadow_mem.proofs.Shadows.{small-one, one_frag}
use Rattle.shadow_mem.proofs.ShadowMem.set_frag.Goals as goal

pub set-requires-clause-small : goal.set-requires-clause-small
set-requires-clause-small c = small-one c.args.at ((c.args.at + (4294967296 - c.from.result)) % 4294967296) c.in-Some.frag (ap (λ (n : ℕ). (c.args.at + (4294967296 - n)) % 4294967296) c.from.ensures) (omega arith) (omega arith)

pub returns-in-Some-clause-frags : goal.returns-in-Some-clause-frags
returns-in-Some-clause-frags c =
    c.set.ensures.frags
    ∙ ap (λ (new : List (Option Frag)). put c.args.at new c.args.self.now.frags) (one_frag c.args.at ((c.args.at + (4294967296 - c.from.result)) % 4294967296) c.in-Some.frag (ap (λ (n : ℕ). (c.args.at + (4294967296 - n)) % 4294967296) c.from.ensures) (omega arith) (omega arith))
    ∙ ap (λ (f : Option Frag). put c.args.at (f ∷ []) c.args.self.now.frags) (sym c.in-Some.is)
