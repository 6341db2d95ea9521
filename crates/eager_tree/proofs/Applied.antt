-- The turns of the loops that do a visit.
use Rattle.std.proofs.Common.{◌≡◌, ℕ, ◌+◌, ◌<◌, ◌≤◌, Bool, true, false, cond, List, ◌++◌, length, map, take, drop, set, get_or, All, Option, Some, None, refl, ap, ◌∙◌, sym, arith, slice_get}
use Rattle.std.proofs.lemmas.Option.{slice_get-get_or}
use Rattle.std.specs.Option.{option_and_then}
use Rattle.std.proofs.lemmas.List.{set-get_or, length-map}
use Rattle.std.proofs.lemmas.List.Edits.{map_over_more}
use Rattle.bsan_ids.specs.declared.numbers.Tag.{Tag}
use Rattle.perm_table.specs.declared.Kind.{Kind}
use Rattle.eager_tree.specs.declared.node.Node.{Node}
use Rattle.eager_tree.specs.declared.sweep.Sweep.{Sweep}
use Rattle.eager_tree.specs.declared.sweep.Sweep.TheVariants.{Access, EndProtector}
use Rattle.eager_tree.specs.Tree.{links, is_on_path}
use Rattle.eager_tree.specs.Visit.{next_node, next_by, next_nodes, only_at}
use Rattle.eager_tree.specs.Steps.{implicit_kind}
use Rattle.eager_tree.specs.Sweeps.{kinds_of, reaches_of}
use Rattle.eager_tree.proofs.Nodes.{kinds_below, kinds_below-past, kinds_below-none, kinds_below-all, next_cell-below, next_nodes-next_nodes, next_nodes-none, next_nodes-same, links-next_nodes, links-next_by, links-over, cell_at-next_nodes}

-- what one byte's access makes of each node
abbrev pub at_byte : Sweep → Tag → ℕ → Kind → List Node → Node → Node
at_byte sweep x n kind before = next_by (only_at n kind) (reaches_of sweep (links before) x) (links before) x

-- the nodes once the offsets below n are done
abbrev pub done_below : Sweep → Tag → ℕ → List Node → List Node
done_below sweep x n before = next_nodes (kinds_below n (kinds_of sweep before x)) (reaches_of sweep (links before) x) (links before) x before

links-done : (sweep : Sweep) (x : Tag) (n i : ℕ) (kind : Kind) (before now : List Node) → now ≡ map (at_byte sweep x n kind before) (take i before) ++ drop i before → links now ≡ links before
links-done sweep x n i kind before now e =
    ap links e ∙ links-over (at_byte sweep x n kind before) (λ node. links-next_by (only_at n kind) (reaches_of sweep (links before) x) (links before) x node) i before

by_reached : (sweep : Sweep) (x : Tag) (n : ℕ) (kind : Kind) (before : List Node) (node : Node) (b : Bool) → reaches_of sweep (links before) x node.tag ≡ b → at_byte sweep x n kind before node ≡ cond b (next_node (only_at n kind) (is_on_path (links before) x node.tag) node) node
by_reached sweep x n kind before node b e = rw e refl

pub reached-more : (sweep : Sweep) (x : Tag) (n i : ℕ) (kind : Kind) (before now : List Node) (after : List Node) (node again : Node) (next : Node) (local : Bool) → i < length before → now ≡ map (at_byte sweep x n kind before) (take i before) ++ drop i before → node ≡ get_or now i node → again ≡ get_or now i again → true ≡ reaches_of sweep (links now) x node.tag → local ≡ is_on_path (links now) x node.tag → next ≡ next_node (only_at n kind) local (get_or now i again) → after ≡ set now i next → after ≡ map (at_byte sweep x n kind before) (take (i + 1) before) ++ drop (i + 1) before
reached-more sweep x n i kind before now after node again next local lt inv is is_again reached path nexts sets =
    let same : links now ≡ links before = links-done sweep x n i kind before now inv in
    let here : reaches_of sweep (links before) x node.tag ≡ true = sym (rw same at reached) in
    let local_is : local ≡ is_on_path (links before) x node.tag = rw same at path in
    let long : i < length now = omega (arith, ap length same, length-map {B = Tag × Option Tag} now (λ (m : Node). (m.tag, m.parent)), length-map {B = Tag × Option Tag} before (λ (m : Node). (m.tag, m.parent))) in
    let one : slice_get now i ≡ Some (get_or now i node) = slice_get-get_or now i node long in
    let two : slice_get now i ≡ Some (get_or now i again) = slice_get-get_or now i again long in
    let same_node : get_or now i again ≡ node = let e : get_or now i again ≡ get_or now i node = cc in e ∙ sym is in
    let made : next ≡ at_byte sweep x n kind before node = nexts ∙ ap (next_node (only_at n kind) local) same_node ∙ ap (λ l. next_node (only_at n kind) l node) local_is ∙ sym (by_reached sweep x n kind before node true here) in
    sets ∙ ap (set now i) made ∙ map_over_more (at_byte sweep x n kind before) before now i node lt inv is

pub spared-more : (sweep : Sweep) (x : Tag) (n i : ℕ) (kind : Kind) (before now : List Node) (after : List Node) (node : Node) → i < length before → now ≡ map (at_byte sweep x n kind before) (take i before) ++ drop i before → node ≡ get_or now i node → false ≡ reaches_of sweep (links now) x node.tag → after ≡ now → after ≡ map (at_byte sweep x n kind before) (take (i + 1) before) ++ drop (i + 1) before
spared-more sweep x n i kind before now after node lt inv is spared stays =
    let same : links now ≡ links before = links-done sweep x n i kind before now inv in
    let here : reaches_of sweep (links before) x node.tag ≡ false = sym (rw same at spared) in
    let kept : set now i (at_byte sweep x n kind before node) ≡ now = ap (set now i) (by_reached sweep x n kind before node false here ∙ is) ∙ set-get_or now i node in
    stays ∙ sym kept ∙ map_over_more (at_byte sweep x n kind before) before now i node lt inv is

-- the kind at n is that of the tree before the visit
kinds-done : (sweep : Sweep) (x : Tag) (n : ℕ) (before now : List Node) → now ≡ done_below sweep x n before → kinds_of sweep now x n ≡ kinds_of sweep before x n
kinds-done (Access span kind) x n before now e = refl
kinds-done EndProtector x n before now e =
    ap (λ nodes. kinds_of EndProtector nodes x n) e
    ∙ ap (option_and_then implicit_kind) (cell_at-next_nodes (kinds_below n (kinds_of EndProtector before x)) (reaches_of EndProtector (links before) x) (links before) x x before n (kinds_below-past (kinds_of EndProtector before x) n n (omega arith)))

pub done-more : (sweep : Sweep) (x : Tag) (n : ℕ) (kind : Kind) (before now after : List Node) → now ≡ done_below sweep x n before → Some kind ≡ kinds_of sweep now x n → after ≡ next_nodes (only_at n kind) (reaches_of sweep (links now) x) (links now) x now → after ≡ done_below sweep x (n + 1) before
done-more sweep x n kind before now after inv some e =
    let kinds = kinds_of sweep before x in
    let reaches = reaches_of sweep (links before) x in
    let same : links now ≡ links before = ap links inv ∙ links-next_nodes (kinds_below n kinds) reaches (links before) x before in
    let here : kinds n ≡ Some kind = sym (kinds-done sweep x n before now inv) ∙ sym some in
    e ∙ ap (λ ls. next_nodes (only_at n kind) (reaches_of sweep ls x) ls x now) same
    ∙ ap (next_nodes (only_at n kind) reaches (links before) x) inv
    ∙ next_nodes-next_nodes (kinds_below n kinds) (only_at n kind) (kinds_below (n + 1) kinds) reaches (links before) x before (next_cell-below kinds n kind here)

pub idle-more : (sweep : Sweep) (x : Tag) (n size : ℕ) (before now after : List Node) → All (λ node. length node.cells ≡ size) before → now ≡ done_below sweep x n before → None ≡ kinds_of sweep now x n → after ≡ now → after ≡ done_below sweep x (n + 1) before
idle-more sweep x n size before now after sized inv none stays =
    let kinds = kinds_of sweep before x in
    let here : kinds n ≡ None = sym (kinds-done sweep x n before now inv) ∙ sym none in
    stays ∙ inv ∙ next_nodes-same (kinds_below n kinds) (kinds_below (n + 1) kinds) (reaches_of sweep (links before) x) (links before) x size before sized (λ k _. kinds_below-none kinds n here k)

pub done-none : (sweep : Sweep) (x : Tag) (before : List Node) → before ≡ done_below sweep x 0 before
done-none sweep x before =
    sym (next_nodes-none (kinds_below 0 (kinds_of sweep before x)) (reaches_of sweep (links before) x) (links before) x before (λ k. kinds_below-past (kinds_of sweep before x) 0 k (omega arith)))

pub done-all : (sweep : Sweep) (x : Tag) (n size : ℕ) (before : List Node) → All (λ node. length node.cells ≡ size) before → size ≤ n → done_below sweep x n before ≡ next_nodes (kinds_of sweep before x) (reaches_of sweep (links before) x) (links before) x before
done-all sweep x n size before sized le =
    next_nodes-same (kinds_below n (kinds_of sweep before x)) (kinds_of sweep before x) (reaches_of sweep (links before) x) (links before) x size before sized (λ k lt. kinds_below-all (kinds_of sweep before x) n k (omega arith))
