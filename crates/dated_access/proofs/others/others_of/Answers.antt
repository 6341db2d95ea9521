use Rattle.std.proofs.Common.{arith, not, length, ap, sym, subst, ◌∙◌, ◌<◌, length-append, ◌∷◌, [], ◌≡◌}
use Rattle.dated_access.specs.Path.{entry}
use Rattle.dated_access.specs.Change.{AreOthers}
use Rattle.dated_access.proofs.DeniedLemmas.{path-rises}
use Rattle.dated_access.proofs.OthersLemmas.{others-facts, others-push, others-skip, others-whole}
use Rattle.dated_access.proofs.others.others_of.Goals.{then-not-is_among, else-not-is_among}
use Rattle.dated_access.proofs.others.others_of.Goals as goal

pub is_among-requires : goal.is_among-requires
is_among-requires c = path-rises c.args.tree.now c.args.x c.args.path.now c.requires.sound c.requires.path

pub loop-place-preserved : goal.loop-place-preserved
loop-place-preserved c =
    let lt : c.loop-place.place-index < length c.args.tree.now.guarded = subst (λ l. c.loop-place.place-index < length l) c.guarded-place-items.ensures c.loop-place-test.true in
    let place : entry c.guarded-place-items.result.now c.loop-place.place-index ≡ entry c.args.tree.now.guarded c.loop-place.place-index = ap (λ l. entry l c.loop-place.place-index) c.guarded-place-items.ensures in
    elim c.if-not-is_among.branch [
      | then-not-is_among w ↦ rw w.others-is (record {
        others = others-push c.args.tree.now c.args.x c.loop-place.place-index (entry c.guarded-place-items.result.now c.loop-place.place-index) c.args.path.now c.loop-place.others.items w.push_reserved.new.self.items c.is_among.result
            c.requires.sound c.requires.path lt place c.is_among.ensures.yes c.is_among.ensures.no c.loop-place.invariant.others (ap not w.if-not-is_among.true) w.push_reserved.ensures.items;
        few = omega (arith, c.loop-place.invariant.few, ap length w.push_reserved.ensures.items, length-append c.loop-place.others.items (entry c.guarded-place-items.result.now c.loop-place.place-index ∷ []));
        capacity = w.push_reserved.ensures.capacity ∙ c.loop-place.invariant.capacity;
      })
      | else-not-is_among w ↦ rw w.others-is (record {
        others = others-skip c.args.tree.now c.args.x c.loop-place.place-index (entry c.guarded-place-items.result.now c.loop-place.place-index) c.args.path.now c.loop-place.others.items c.is_among.result
            c.requires.sound c.requires.path lt place c.is_among.ensures.yes c.is_among.ensures.no c.loop-place.invariant.others (ap not w.if-not-is_among.false);
        few = omega (arith, c.loop-place.invariant.few);
        capacity = c.loop-place.invariant.capacity;
      })
    ]

pub returns-clause-others : goal.returns-clause-others
returns-clause-others c =
    let all : c.loop-place.place-index ≡ length c.args.tree.now.guarded = omega (arith, c.loop-place-test.false, c.loop-place.auto.place-index-end, ap length c.guarded-place-items.ensures) in
    subst (AreOthers c.args.tree.now c.args.x) (sym (others-whole c.args.tree.now c.args.x c.loop-place.place-index c.loop-place.others.items all c.loop-place.invariant.others)) (others-facts c.args.tree.now c.args.x c.requires.sound)
