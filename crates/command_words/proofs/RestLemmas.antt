-- What is left to an iterator that owns its items.
use Rattle.std.proofs.Common.{◌≡◌, List, Option, Some, None, drop, refl, sym, ap, ◌∙◌}
use Rattle.std.specs.Iterator.{DrainsIf}
use Rattle.std.specs.Vec.Iter.{into_iter_items, into_iter_steps}
use Rattle.std.specs.declared.vec.IntoIter.{IntoIter}
use Rattle.std.proofs.lemmas.Iterator.{items_from_drains}
use Rattle.std.proofs.lemmas.Iterator.Adapters.{YieldsList-from_vec}
use Rattle.std.proofs.lemmas.List.{nil_from_length, map-id}

-- a `next` leaves all but the first
pub after_next : {X Z : Type 0} (s t : IntoIter X Z) (first : Option X) → into_iter_steps s first t
    → into_iter_items t ≡ drop 1 (into_iter_items s)
after_next s t (Some x) gave = sym (ap (drop 1) gave.0)
after_next s t None gave =
    let before = nil_from_length (into_iter_items s) (sym s.rest.ok.0 ∙ gave.0) in
    let after = nil_from_length (into_iter_items t) (sym t.rest.ok.0 ∙ gave.1) in
    after ∙ sym (ap (drop 1) before)

-- the calls of `next` up to its end give all that are left
pub drained : {X Z : Type 0} (s : IntoIter X Z) (all : List X) → DrainsIf (into_iter_steps {X = X} {Z = Z}) (Unit {0}) s all
    → all ≡ into_iter_items s
drained s all drains = sym (map-id all) ∙ items_from_drains all drains (YieldsList-from_vec (into_iter_items s) refl s.rest.ok.0)
