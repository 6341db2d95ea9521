use Rattle.std.proofs.Common.{◌≡◌, ℕ, Bool, true, false, ◌<◌, List, [], ◌∷◌, ◌++◌, ◌-◌, take, set, vec_len, length, get_or, refl, sym, ap, subst, ◌∙◌, arith}
use Rattle.std.proofs.lemmas.Option.{slice_get_read}
use Rattle.std.proofs.lemmas.List.{append-nil}
use Rattle.flow_paths.specs.Paths.{Visited}
use Rattle.flow_paths.proofs.Marks.{Sound, starts, read_blank, read_bit, node_inside, step_stops, step_visits, answers}
use Rattle.flow_paths.proofs.entered.Goals as goal

pub loop-node-init : goal.loop-node-init
loop-node-init c =
    let size : length c.in_ok-marked.marked.items ≡ length c.args.graph.now = grind (arith, c.in_ok-marked.ensures) in
    subst (λ (z : List ℕ). Sound c.args.graph.now c.args.stops.now (set c.in_ok-marked.marked.items 0 true) z) (sym (c.in_ok-push.ensures.items ∙ ap (λ (z : List ℕ). z ++ 0 ∷ []) c.new-work.ensures.items))
    (starts c.args.graph.now c.args.stops.now c.in_ok-marked.marked.items size (omega (arith, size, c.requires.some)) (λ b. ap (λ (z : List Bool). get_or z b false) (c.in_ok-marked.ensures.items_if_clones_equal (λ y h. h)) ∙ read_blank (length c.args.graph.now) b))

pub bounds-stops-node : goal.bounds-stops-node
bounds-stops-node c = omega (arith, c.requires.size, node_inside c.args.graph.now c.args.stops.now c.loop-node.marked.items c.loop-node.work.items c.pop.new.self.items c.in-Some.node c.loop-node.invariant c.in-Some.ensures.items)

pub offset_bounds-graph-node : goal.offset_bounds-graph-node
offset_bounds-graph-node c = omega (arith, node_inside c.args.graph.now c.args.stops.now c.loop-node.marked.items c.loop-node.work.items c.pop.new.self.items c.in-Some.node c.loop-node.invariant c.in-Some.ensures.items)

pub bounds-graph-node : goal.bounds-graph-node
bounds-graph-node c = node_inside c.args.graph.now c.args.stops.now c.loop-node.marked.items c.loop-node.work.items c.pop.new.self.items c.in-Some.node c.loop-node.invariant c.in-Some.ensures.items

pub visit-requires : goal.visit-requires
visit-requires c =
    let lt : c.in-Some.node < length c.args.graph.now = node_inside c.args.graph.now c.args.stops.now c.loop-node.marked.items c.loop-node.work.items c.pop.new.self.items c.in-Some.node c.loop-node.invariant c.in-Some.ensures.items in
    let e : c.as_slice.result.now ≡ get_or c.args.graph.now c.in-Some.node c.index-graph-node.result = c.as_slice.ensures ∙ c.index-graph-node.is in
    let all : (k d : ℕ) → k < length c.as_slice.result.now → get_or c.as_slice.result.now k d < length c.args.graph.now =
    subst (λ (z : List ℕ). (k d : ℕ) → k < length z → get_or z k d < length c.args.graph.now) (sym e) (c.requires.inside c.in-Some.node c.index-graph-node.result lt) in
    record { inside = λ k d h. omega (arith, all k d h, c.loop-node.invariant.size) }

pub loop-node-preserved-in-Continue-branch-3 : goal.loop-node-preserved-in-Continue-branch-3
loop-node-preserved-in-Continue-branch-3 c =
    let lt : c.in-Some.node < length c.args.graph.now = node_inside c.args.graph.now c.args.stops.now c.loop-node.marked.items c.loop-node.work.items c.pop.new.self.items c.in-Some.node c.loop-node.invariant c.in-Some.ensures.items in
    step_visits c.args.graph.now c.args.stops.now c.loop-node.marked.items c.loop-node.work.items c.pop.new.self.items c.in-Some.node c.index-graph-node.result c.visit.new.marked.items c.visit.new.work.items
    c.loop-node.invariant c.in-Some.ensures.items (slice_get_read c.args.graph.now (length c.args.graph.now) c.in-Some.node c.index-graph-node.result refl lt c.index-graph-node.is)
    (read_bit c.args.stops.now c.in-Some.node false _ (omega (arith, lt, c.requires.size)) c.if-not-stops-node.true)
    (subst (λ (z : List ℕ). Visited z c.loop-node.marked.items c.pop.new.self.items c.visit.new.marked.items c.visit.new.work.items) c.as_slice.ensures c.in_ok-visit.ensures)

pub loop-node-preserved : goal.loop-node-preserved
loop-node-preserved c =
    step_stops c.args.graph.now c.args.stops.now c.loop-node.marked.items c.loop-node.work.items c.pop.new.self.items c.in-Some.node
    c.loop-node.invariant c.in-Some.ensures.items
    (read_bit c.args.stops.now c.in-Some.node true _ (omega (arith, c.requires.size, node_inside c.args.graph.now c.args.stops.now c.loop-node.marked.items c.loop-node.work.items c.pop.new.self.items c.in-Some.node c.loop-node.invariant c.in-Some.ensures.items)) c.if-not-stops-node.false)

pub returns : goal.returns
returns c =
    let empty : vec_len c.loop-node.work ≡ 0 = c.in_default.ensures.cases.0 in
    let none : take (vec_len c.loop-node.work - 1) c.loop-node.work.items ≡ [] = rw empty refl in
    let nothing : c.loop-node.work.items ≡ [] = c.in_default.ensures.items ∙ append-nil c.pop.new.self.items ∙ c.in_default.ensures.rest ∙ none in
    answers c.args.graph.now c.args.stops.now c.loop-node.marked.items (subst (λ (z : List ℕ). Sound c.args.graph.now c.args.stops.now c.loop-node.marked.items z) nothing c.loop-node.invariant)
