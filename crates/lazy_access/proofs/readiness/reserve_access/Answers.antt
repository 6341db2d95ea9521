use Rattle.std.proofs.Common.{◌≡◌, refl, sym, ap, arith}
use Rattle.lazy_tree.specs.Shape.{Shape}
use Rattle.lazy_access.proofs.Settling.{settled-by}
use Rattle.lazy_access.proofs.readiness.reserve_access.Goals as goal

pub settle-requires : goal.settle-requires
settle-requires c =
    let size : c.reserve_cuts.new.tree.size ≡ c.args.tree.now.size = ap (λ (t : Shape). t.size) c.reserve_cuts.ensures.tree in
    settled-by c.reserve_cuts.new.tree c.args.x c.tag-tag.result c.args.span c.args.kind (let count = c.reserve_cuts.ensures.same.links.count in omega (arith, c.requires.node, count)) (sym c.tag-tag.ensures)
    (omega (arith, c.requires.within, size)) c.in_ok-changes.ensures.room (c.in_ok-changes.ensures.quiet c.if-not-changes.true refl)
