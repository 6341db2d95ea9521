use Rattle.std.proofs.Common.{◌≡◌, false, ℕ, sym, subst, ◌∙◌}
use Rattle.lazy_tree.specs.Eager.{eager_of}
use Rattle.lazy_access.specs.Ready.{Fits}
use Rattle.explain.specs.Replays.{traps}
use Rattle.explain.proofs.Using.{askable_where, size_eager}
use Rattle.explain.proofs.replay.grow.Goals as goal

pub ask-requires : goal.ask-requires
ask-requires c =
    let request = c.in-Some.request in
    let t = c.args.tree.now in
    let clean : traps c.args.entry.now ≡ false = sym c.traps.ensures ∙ c.if-traps.false in
    let may = askable_where c.args.live (eager_of t) c.args.entry.now request c.requires.asks clean (sym c.request_of.ensures ∙ c.in-Some.is) in
    record {
      node = may.node;
      fits = subst (λ (size : ℕ). Fits size request) (size_eager t) may.fits;
      newest = c.requires.newest;
    }
