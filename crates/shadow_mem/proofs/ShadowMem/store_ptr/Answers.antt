use Rattle.std.proofs.Common.{◌∙◌, arith, ap, sym, Option}
use Rattle.bsan_ids.specs.declared.numbers.Prov.{Prov}
use Rattle.history.specs.Memory.{put}
use Rattle.history.specs.Fragments.{stored}
use Rattle.shadow_mem.proofs.Shadows.{small-stored, stored-put}
use Rattle.shadow_mem.proofs.ShadowMem.store_ptr.Goals as goal

pub set-requires-clause-small : goal.set-requires-clause-small
set-requires-clause-small c = small-stored c.args.at c.in-Some.prov (omega arith)

pub returns-in-Some-clause-frags : goal.returns-in-Some-clause-frags
returns-in-Some-clause-frags c = c.set.ensures.frags ∙ stored-put c.args.at c.in-Some.prov c.args.self.now.frags (omega arith) ∙ ap (λ (k : Option Prov). put c.args.at (stored k) c.args.self.now.frags) (sym c.in-Some.is)
