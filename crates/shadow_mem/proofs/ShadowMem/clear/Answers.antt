use Rattle.std.proofs.Common.{◌∙◌, sym}
use Rattle.shadow_mem.proofs.Shadows.{small-none, cleared-put}
use Rattle.shadow_mem.proofs.ShadowMem.clear.Goals as goal

pub set-requires-clause-small : goal.set-requires-clause-small
set-requires-clause-small c = small-none c.args.span.len c.args.span.start

pub returns-then-not-is_clear-clause-frags : goal.returns-then-not-is_clear-clause-frags
returns-then-not-is_clear-clause-frags c = c.set.ensures.frags ∙ cleared-put c.args.span.start c.args.span.len _
