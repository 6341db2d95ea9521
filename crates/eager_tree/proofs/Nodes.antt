-- What a visit leaves of a tree's nodes, and one visit after another.
use Rattle.std.proofs.Common.{◌≡◌, ℕ, zero, suc, ◌+◌, ◌<◌, ◌≤◌, Bool, true, false, cond, ltb, List, [], ◌∷◌, ◌++◌, length, map, take, drop, All, Option, Some, None, slice_get, refl, ap, ◌∙◌, sym, arith, inl, inr}
use Rattle.std.proofs.lemmas.Bool.{cases_lt, lt-ltb, le-ltb}
use Rattle.bsan_ids.specs.declared.numbers.Tag.{Tag}
use Rattle.perm_table.specs.declared.Kind.{Kind}
use Rattle.perm_table.specs.declared.Guard.{Guard}
use Rattle.eager_tree.specs.declared.node.Node.{Node}
use Rattle.eager_tree.specs.declared.node.Cell.{Cell}
use Rattle.eager_tree.specs.Tree.{Links, links, is_on_path}
use Rattle.eager_tree.specs.Visit.{first_below, next_cell, next_node, next_by, next_nodes, only_at}
use Rattle.eager_tree.specs.Steps.{cell_at}
use Rattle.eager_tree.proofs.Cells.{next_cells-none, next_cells-next_cells, next_cells-same, length-next_cells, slice_get-next_cells, only_at-same, only_at-other}

-- the kinds of the offsets below n
abbrev pub kinds_below : ℕ → (ℕ → Option Kind) → ℕ → Option Kind
kinds_below n kinds offset = cond (ltb offset n) (kinds offset) None

pub first_below-found : {B : Type 0} (f : ℕ → Option B) (i n : ℕ) (found : B) → i < n → first_below f i ≡ None → f i ≡ Some found → first_below f n ≡ Some found
first_below-found f i zero found lt none some = absurd (omega arith)
first_below-found f i (suc n) found lt none some =
    elim (cases_lt i n) [
      | inl less ↦ rw (first_below-found f i n found less none some) refl
      | inr more ↦ let same : n ≡ i = omega arith in rw (same, none, some) refl
    ]

-- a visit keeps every node's tag and parent
pub links-next_by : (kinds : ℕ → Option Kind) (reaches : Tag → Bool) (ls : Links) (x : Tag) (node : Node) → ((next_by kinds reaches ls x node).tag ≡ node.tag) × ((next_by kinds reaches ls x node).parent ≡ node.parent)
links-next_by kinds reaches ls x node =
    elim (reaches node.tag) as (λ b. ((cond b (next_node kinds (is_on_path ls x node.tag) node) node).tag ≡ node.tag) × ((cond b (next_node kinds (is_on_path ls x node.tag) node) node).parent ≡ node.parent)) [ true ↦ (refl, refl) | false ↦ (refl, refl) ]

pub links-over : (f : Node → Node) → ((node : Node) → ((f node).tag ≡ node.tag) × ((f node).parent ≡ node.parent)) → (i : ℕ) (nodes : List Node) → links (map f (take i nodes) ++ drop i nodes) ≡ links nodes
links-over f h zero nodes = refl
links-over f h (suc i) [] = refl
links-over f h (suc i) (node ∷ nodes) = rw ((h node).0, (h node).1, links-over f h i nodes) refl

pub links-next_nodes : (kinds : ℕ → Option Kind) (reaches : Tag → Bool) (ls : Links) (x : Tag) (nodes : List Node) → links (next_nodes kinds reaches ls x nodes) ≡ links nodes
links-next_nodes kinds reaches ls x [] = refl
links-next_nodes kinds reaches ls x (node ∷ nodes) =
    let h = links-next_by kinds reaches ls x node in
    rw (h.0, h.1, links-next_nodes kinds reaches ls x nodes) refl

-- one node at which nothing is done
next_by-none : (kinds : ℕ → Option Kind) (reaches : Tag → Bool) (ls : Links) (x : Tag) (node : Node) → ((k : ℕ) → kinds k ≡ None) → (b : Bool) → reaches node.tag ≡ b → next_by kinds reaches ls x node ≡ node
next_by-none kinds reaches ls x node h true e =
    simp e (ap (λ cells. record node { cells = cells }) (next_cells-none kinds (is_on_path ls x node.tag) node.guard 0 node.cells (λ k _. h k)))
next_by-none kinds reaches ls x node h false e = simp e

pub next_nodes-none : (kinds : ℕ → Option Kind) (reaches : Tag → Bool) (ls : Links) (x : Tag) (nodes : List Node) → ((k : ℕ) → kinds k ≡ None) → next_nodes kinds reaches ls x nodes ≡ nodes
next_nodes-none kinds reaches ls x [] h = refl
next_nodes-none kinds reaches ls x (node ∷ nodes) h =
    rw (next_by-none kinds reaches ls x node h (reaches node.tag) refl, next_nodes-none kinds reaches ls x nodes h) refl

next_by-next_by : (first then both : ℕ → Option Kind) (reaches : Tag → Bool) (ls : Links) (x : Tag) (node : Node) → ((k : ℕ) (local : Bool) (guard : Guard) (cell : Cell) → next_cell (then k) local guard (next_cell (first k) local guard cell) ≡ next_cell (both k) local guard cell) → (b : Bool) → reaches node.tag ≡ b → next_by then reaches ls x (next_by first reaches ls x node) ≡ next_by both reaches ls x node
next_by-next_by first then both reaches ls x node h true e =
    simp e (ap (λ cells. record node { cells = cells }) (next_cells-next_cells first then both (is_on_path ls x node.tag) node.guard 0 node.cells (λ k cell. h k (is_on_path ls x node.tag) node.guard cell)))
next_by-next_by first then both reaches ls x node h false e = simp e

-- one visit after another, over the same paths
pub next_nodes-next_nodes : (first then both : ℕ → Option Kind) (reaches : Tag → Bool) (ls : Links) (x : Tag) (nodes : List Node) → ((k : ℕ) (local : Bool) (guard : Guard) (cell : Cell) → next_cell (then k) local guard (next_cell (first k) local guard cell) ≡ next_cell (both k) local guard cell) → next_nodes then reaches ls x (next_nodes first reaches ls x nodes) ≡ next_nodes both reaches ls x nodes
next_nodes-next_nodes first then both reaches ls x [] h = refl
next_nodes-next_nodes first then both reaches ls x (node ∷ nodes) h =
    rw (next_by-next_by first then both reaches ls x node h (reaches node.tag) refl, next_nodes-next_nodes first then both reaches ls x nodes h) refl

next_by-same : (one other : ℕ → Option Kind) (reaches : Tag → Bool) (ls : Links) (x : Tag) (node : Node) → ((k : ℕ) → k < length node.cells → one k ≡ other k) → (b : Bool) → reaches node.tag ≡ b → next_by one reaches ls x node ≡ next_by other reaches ls x node
next_by-same one other reaches ls x node h true e =
    simp e (ap (λ cells. record node { cells = cells }) (next_cells-same one other (is_on_path ls x node.tag) node.guard 0 node.cells (λ k lo hi. h k (omega arith))))
next_by-same one other reaches ls x node h false e = simp e

-- kinds past the last byte don't matter
pub next_nodes-same : (one other : ℕ → Option Kind) (reaches : Tag → Bool) (ls : Links) (x : Tag) (size : ℕ) (nodes : List Node) → All (λ n. length n.cells ≡ size) nodes → ((k : ℕ) → k < size → one k ≡ other k) → next_nodes one reaches ls x nodes ≡ next_nodes other reaches ls x nodes
next_nodes-same one other reaches ls x size [] sized h = refl
next_nodes-same one other reaches ls x size (node ∷ nodes) sized h =
    rw (next_by-same one other reaches ls x node (λ k lt. h k (omega (arith, sized 0 node (omega arith)))) (reaches node.tag) refl, next_nodes-same one other reaches ls x size nodes (λ k d lt. sized (suc k) d (omega arith)) h) refl

-- the kind at n, after those below it
pub kinds_below-all : (kinds : ℕ → Option Kind) (n k : ℕ) → k < n → kinds_below n kinds k ≡ kinds k
kinds_below-all kinds n k lt = rw (lt-ltb k n lt) refl

pub kinds_below-past : (kinds : ℕ → Option Kind) (n k : ℕ) → n ≤ k → kinds_below n kinds k ≡ None
kinds_below-past kinds n k le = rw (le-ltb k n le) refl

pub next_cell-below : (kinds : ℕ → Option Kind) (n : ℕ) (kind : Kind) → kinds n ≡ Some kind → (k : ℕ) (local : Bool) (guard : Guard) (cell : Cell) → next_cell (only_at n kind k) local guard (next_cell (kinds_below n kinds k) local guard cell) ≡ next_cell (kinds_below (n + 1) kinds k) local guard cell
next_cell-below kinds n kind h k local guard cell =
    elim (cases_lt k n) [
      | inl lt ↦
          rw (kinds_below-all kinds n k lt, kinds_below-all kinds (n + 1) k (omega arith), only_at-other n k kind (λ e. omega arith)) refl
      | inr le ↦ elim (cases_lt n k) [
        | inl more ↦
            rw (kinds_below-past kinds n k le, kinds_below-past kinds (n + 1) k (omega arith), only_at-other n k kind (λ e. omega arith)) refl
        | inr less ↦
            let same : k ≡ n = omega arith in
            rw (kinds_below-past kinds n k le, kinds_below-all kinds (n + 1) k (omega arith), only_at-same n k kind same, same, h) refl
      ]
    ]

pub kinds_below-none : (kinds : ℕ → Option Kind) (n : ℕ) → kinds n ≡ None → (k : ℕ) → kinds_below n kinds k ≡ kinds_below (n + 1) kinds k
kinds_below-none kinds n h k =
    elim (cases_lt k n) [
      | inl lt ↦ kinds_below-all kinds n k lt ∙ sym (kinds_below-all kinds (n + 1) k (omega arith))
      | inr le ↦ elim (cases_lt n k) [
        | inl more ↦ kinds_below-past kinds n k le ∙ sym (kinds_below-past kinds (n + 1) k (omega arith))
        | inr less ↦
            let same : n ≡ k = omega arith in
            kinds_below-past kinds n k le ∙ sym (kinds_below-all kinds (n + 1) k (omega arith) ∙ rw same at h)
      ]
    ]

-- a byte without a kind keeps its state
cell_at-next_by : (kinds : ℕ → Option Kind) (reaches : Tag → Bool) (ls : Links) (x : Tag) (node : Node) (offset : ℕ) → kinds offset ≡ None → (b : Bool) → reaches node.tag ≡ b → slice_get (next_by kinds reaches ls x node).cells offset ≡ slice_get node.cells offset
cell_at-next_by kinds reaches ls x node offset h true e =
    simp e (slice_get-next_cells kinds (is_on_path ls x node.tag) node.guard 0 offset node.cells (let same : 0 + offset ≡ offset = omega arith in rw same h))
cell_at-next_by kinds reaches ls x node offset h false e = simp e

pub cell_at-next_nodes : (kinds : ℕ → Option Kind) (reaches : Tag → Bool) (ls : Links) (x y : Tag) (nodes : List Node) (offset : ℕ) → kinds offset ≡ None → cell_at (next_nodes kinds reaches ls x nodes) y offset ≡ cell_at nodes y offset
cell_at-next_nodes kinds reaches ls x y [] offset h = refl
cell_at-next_nodes kinds reaches ls x y (node ∷ nodes) offset h =
    rw ((links-next_by kinds reaches ls x node).0, cell_at-next_by kinds reaches ls x node offset h (reaches node.tag) refl, cell_at-next_nodes kinds reaches ls x y nodes offset h) refl

sized-next_by : (kinds : ℕ → Option Kind) (reaches : Tag → Bool) (ls : Links) (x : Tag) (size : ℕ) (node : Node) → length node.cells ≡ size → (b : Bool) → reaches node.tag ≡ b → length (next_by kinds reaches ls x node).cells ≡ size
sized-next_by kinds reaches ls x size node h true e = simp e (length-next_cells kinds (is_on_path ls x node.tag) node.guard 0 node.cells ∙ h)
sized-next_by kinds reaches ls x size node h false e = simp e h

pub sized-next_nodes : (kinds : ℕ → Option Kind) (reaches : Tag → Bool) (ls : Links) (x : Tag) (size : ℕ) (nodes : List Node) → All (λ n. length n.cells ≡ size) nodes → All (λ n. length n.cells ≡ size) (next_nodes kinds reaches ls x nodes)
sized-next_nodes kinds reaches ls x size [] sized k d lt = absurd (omega arith)
sized-next_nodes kinds reaches ls x size (node ∷ nodes) sized zero d lt = sized-next_by kinds reaches ls x size node (sized 0 node (omega arith)) (reaches node.tag) refl
sized-next_nodes kinds reaches ls x size (node ∷ nodes) sized (suc k) d lt = sized-next_nodes kinds reaches ls x size nodes (λ k d lt. sized (suc k) d (omega arith)) k d (omega arith)
