use Rattle.std.proofs.Common.{◌≤◌, ◌-◌, ◌==◌, not, length, All, refl, sym, subst, arith}
use Rattle.std.proofs.lemmas.List.Elements.{All-filter}
use Rattle.dated_tree.specs.Stored.{shape_of}
use Rattle.dated_tree.proofs.StoredLemmas.{stored-set}
use Rattle.dated_tree.proofs.tree.DatedTree.release.Goals as goal

pub invariant_of-self : goal.invariant_of-self
invariant_of-self c =
    let stored : c.args.place ≤ length c.self.inside.nodes.items = rw (← c.self.view_is) at c.requires.stored in
    stored-set (shape_of c.self.inside) (c.args.place - 1) c.index_mut.result.now _ c.self.invariant (omega (arith, stored, c.requires.some)) c.index_mut.ensures.value
    (record { tag = refl; parent = refl; child = refl; sized = refl }) _ refl refl refl refl refl
    (subst (λ gs. All (λ place. (1 ≤ place) × (place ≤ length c.self.inside.nodes.items)) gs) (sym c.take_out.ensures.items) (All-filter (λ other. not (other == c.args.place)) (λ place. (1 ≤ place) × (place ≤ length c.self.inside.nodes.items)) c.self.inside.guarded.items c.self.invariant.guarded))
    c.self.invariant.made
