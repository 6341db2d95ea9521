use Rattle.std.proofs.Common.{◌≡◌, ℕ, ◌+◌, ◌<◌, Bool, true, false, List, [], ◌∷◌, ◌++◌, length, drop, get_or, set, Vec, Global, drop-cons, add-one, refl, sym, ap, subst, ◌∙◌, arith, length-set}
use Rattle.flow_paths.specs.Paths.{Visited}
use Rattle.flow_paths.proofs.Marks.{none_visited, old_visited, new_visited, drop_all, marked_read}
use Rattle.flow_paths.proofs.visit.Goals as goal
use Rattle.flow_paths.proofs.visit.Goals.{then-not-index+in_ok-push, else-not-index}

pub loop-node-preserved : goal.loop-node-preserved
loop-node-preserved c =
    let i = c.loop-node.node-index in
    let next = c.args.next.now in
    let s = get_or next i 0 in
    let marks = c.loop-node.marked.items in
    let work = c.loop-node.work.items in
    let front : drop i next ≡ s ∷ drop (i + 1) next = let lt : i < length next = c.loop-node-test.true in rw (add-one, drop-cons next i 0) refl in
    let inside : s < length marks = omega (arith, c.requires.inside i 0 c.loop-node-test.true, c.loop-node.invariant.size) in
    elim c.if-not-index.branch [
      | then-not-index+in_ok-push w ↦
          let em : c.if-not-index.marked.items ≡ set marks s true = ap (λ (z : Vec Bool Global). z.items) w.marked-is in
          let ew : c.if-not-index.work.items ≡ work ++ s ∷ [] = ap (λ (z : Vec ℕ Global). z.items) w.work-is ∙ w.in_ok-push.ensures.items in
          let free : get_or marks s false ≡ false = subst (λ (z : Bool). get_or marks s z ≡ z) w.if-not-index.true (sym c.index.ensures) in
          record {
            size = ap length em ∙ length-set marks s true ∙ c.loop-node.invariant.size;
            goes = λ m w2 v. c.loop-node.invariant.goes m w2 (subst (λ (z : List ℕ). Visited z marks work m w2) (sym front)
                (new_visited s (drop (i + 1) next) marks work m w2 inside free
                (subst (λ (z : List Bool). Visited (drop (i + 1) next) z (work ++ s ∷ []) m w2) em (subst (λ (z : List ℕ). Visited (drop (i + 1) next) c.if-not-index.marked.items z m w2) ew v))));
          }
      | else-not-index w ↦
          let em : c.if-not-index.marked.items ≡ marks = ap (λ (z : Vec Bool Global). z.items) w.marked-is in
          let ew : c.if-not-index.work.items ≡ work = ap (λ (z : Vec ℕ Global). z.items) w.work-is in
          let taken : get_or marks s false ≡ true = marked_read marks s c.index.result.now inside c.index.ensures w.if-not-index.false in
          record {
            size = ap length em ∙ c.loop-node.invariant.size;
            goes = λ m w2 v. c.loop-node.invariant.goes m w2 (subst (λ (z : List ℕ). Visited z marks work m w2) (sym front)
                (old_visited s (drop (i + 1) next) marks work m w2 taken
                (subst (λ (z : List Bool). Visited (drop (i + 1) next) z work m w2) em (subst (λ (z : List ℕ). Visited (drop (i + 1) next) c.if-not-index.marked.items z m w2) ew v))));
          }
    ]

pub returns : goal.returns
returns c =
    let done : drop c.loop-node.node-index c.args.next.now ≡ [] = drop_all c.args.next.now c.loop-node.node-index c.loop-node-test.false in
    c.loop-node.invariant.goes c.loop-node.marked.items c.loop-node.work.items
    (subst (λ (z : List ℕ). Visited z c.loop-node.marked.items c.loop-node.work.items c.loop-node.marked.items c.loop-node.work.items) (sym done) (none_visited c.loop-node.marked.items c.loop-node.work.items))
