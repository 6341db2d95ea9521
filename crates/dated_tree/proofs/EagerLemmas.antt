-- A visit of the eager tree for which a dated tree stands.
use Rattle.std.proofs.Common.{◌≡◌, ℕ, zero, suc, ◌+◌, ◌<◌, ◌≤◌, ◌⊎◌, inl, inr, Bool, true, false, cond, List, [], ◌∷◌, length, map, replicate, get_or, slice_get, Option, Some, None, refl, sym, ap, ◌∙◌, arith}
use Rattle.std.proofs.lemmas.List.FromFn.{get_or-map-range_with_len, length-map-range_with_len}
use Rattle.std.specs.List.{range_with_len}
use Rattle.std.specs.Option.{option_and_then}
use Rattle.bsan_ids.specs.declared.numbers.Tag.{Tag}
use Rattle.perm_table.specs.declared.Perm.{Perm}
use Rattle.perm_table.specs.declared.Perm.TheVariants.{Unique}
use Rattle.perm_table.specs.declared.Kind.{Kind}
use Rattle.perm_table.specs.declared.Kind.TheVariants.{Read, Write}
use Rattle.perm_table.specs.declared.Guard.{Guard}
use Rattle.perm_table.specs.declared.Guard.TheVariants.{Free}
use Rattle.perm_table.specs.declared.Outcome.{Outcome}
use Rattle.perm_table.specs.declared.Outcome.TheVariants.{Next, Denied as IsDenied}
use Rattle.perm_table.specs.Table.{outcome}
use Rattle.eager_tree.specs.declared.node.Cell.{Cell}
use Rattle.eager_tree.specs.declared.node.Node.{Node}
use Rattle.eager_tree.specs.declared.violation.Violation.{Violation}
use Rattle.eager_tree.specs.declared.violation.Violation.TheVariants.{Denied}
use Rattle.eager_tree.specs.Tree.{Tree, links, is_on_path as is_above}
use Rattle.eager_tree.specs.Visit.{first_in, first_below, denial, denial_of, denial_by, denial_at, first_denial, next_cell, next_cells, next_node, next_by, next_nodes, visit, visit_unless}
use Rattle.eager_tree.proofs.Nodes.{first_below-found}
use Rattle.dated_tree.specs.Shape.{Shape, node_at}
use Rattle.dated_tree.specs.Eager.{eager_of, eager_node, cell_of, tag_at}
use Rattle.dated_tree.specs.Path.{is_on_path}
use Rattle.dated_tree.specs.Meet.{is_denied, is_refused}
use Rattle.dated_tree.specs.Access.{HasSameLinks}
use Rattle.dated_tree.specs.Kept.{IsSound}
use Rattle.dated_tree.proofs.PathLemmas.{eager_links, path-places, root-on-path}

abbrev pub root_cell : Cell
root_cell = record { perm = Unique; accessed = true }

abbrev pub root_node : Tag → ℕ → Node
root_node root size = record { tag = root; parent = None; guard = Free; cells = replicate size root_cell }

-- the nodes of the eager tree
abbrev pub eager_nodes : Shape → List Node
eager_nodes t = (eager_of t).nodes

-- the first answer along a list, by places
pub first_in-none : {A B : Type 0} (f : A → Option B) (xs : List A) (d : A) → ((i : ℕ) → i < length xs → f (get_or xs i d) ≡ None) → first_in f xs ≡ None
first_in-none f [] d h = refl
first_in-none f (x ∷ xs) d h = rw (h 0 (omega arith), first_in-none f xs d (λ i lt. h (suc i) (omega (arith, lt)))) refl

pub first_in-at : {A B : Type 0} (f : A → Option B) (xs : List A) (i : ℕ) (d : A) (v : B) → i < length xs → ((j : ℕ) → j < i → f (get_or xs j d) ≡ None) → f (get_or xs i d) ≡ Some v → first_in f xs ≡ Some v
first_in-at f [] i d v lt h e = absurd (omega arith)
first_in-at f (x ∷ xs) zero d v lt h e = rw e refl
first_in-at f (x ∷ xs) (suc i) d v lt h e = rw (h 0 (omega arith), first_in-at f xs i d v (omega (arith, lt)) (λ j low. h (suc j) (omega (arith, low))) e) refl

pub first_below-none : {B : Type 0} (f : ℕ → Option B) (n : ℕ) → ((b : ℕ) → b < n → f b ≡ None) → first_below f n ≡ None
first_below-none f zero h = refl
first_below-none f (suc n) h = rw (first_below-none f n (λ b lt. h b (omega arith)), h n (omega arith)) refl

-- the denial at one byte of one node
pub slice_get-from : (f : ℕ → Cell) (a n k p : ℕ) → a + k ≡ p → k < n → slice_get (map f (range_with_len a n)) k ≡ Some (f p)
slice_get-from f a zero k p e lt = absurd (omega arith)
slice_get-from f a (suc n) zero p e lt = ap (λ q. Some (f q)) (let same : a ≡ p = omega arith in same)
slice_get-from f a (suc n) (suc k) p e lt = slice_get-from f (a + 1) n k p (omega arith) (omega arith)

denial_of-none : (node : Node) (local : Bool) (b : ℕ) (perm : Perm) (o : Outcome) → is_denied o ≡ false → denial_of node local b perm o ≡ None
denial_of-none node local b perm (Next p a) e = refl
denial_of-none node local b perm IsDenied e = cc

denial_of-some : (node : Node) (local : Bool) (b : ℕ) (perm : Perm) (o : Outcome) → is_denied o ≡ true → denial_of node local b perm o ≡ Some (Denied b node.tag perm local)
denial_of-some node local b perm (Next p a) e = cc
denial_of-some node local b perm IsDenied e = refl

denial-cell : (t : Shape) (i : ℕ) (local : Bool) (kind : Kind) (b : ℕ) → b < t.size → denial (eager_node t i) local kind b ≡ denial_of (eager_node t i) local b (cell_of t i b).perm (outcome (cell_of t i b).perm (cell_of t i b).accessed (node_at t.nodes i).guard local kind)
denial-cell t i local kind b lt =
    ap (λ o. option_and_then (λ (cell : Cell). denial_of (eager_node t i) local b cell.perm (outcome cell.perm cell.accessed (node_at t.nodes i).guard local kind)) o)
    (slice_get-from (cell_of t i) 0 t.size b b (omega arith) lt)

-- whether a node denies an access of a kind at a byte
abbrev pub denies_at : Shape → ℕ → ℕ → ℕ → Kind → Bool
denies_at t x i b kind = is_refused (Some kind) (is_on_path t.nodes x i) (node_at t.nodes i).guard (cell_of t i b)

abbrev by_node : Shape → ℕ → (Tag → Bool) → Kind → ℕ → Node → Option Violation
by_node t x reaches kind b = denial_by reaches (eager_links t) (tag_at t x) kind b

node-silent : (t : Shape) (x : ℕ) (reaches : Tag → Bool) (kind : Kind) (i b : ℕ) → IsSound t → x ≤ length t.nodes → i ≤ length t.nodes → b < t.size → (reaches (tag_at t i) ≡ true → denies_at t x i b kind ≡ false) → by_node t x reaches kind b (eager_node t i) ≡ None
node-silent t x reaches kind i b s low high in_size h =
    elim (reaches (tag_at t i)) as (λ r. r ≡ reaches (tag_at t i) → cond r (denial (eager_node t i) (is_above (eager_links t) (tag_at t x) (tag_at t i)) kind b) None ≡ None) [
      | true ↦ λ e.
          ap (λ l. denial (eager_node t i) l kind b) (path-places t x i s low high)
          ∙ denial-cell t i (is_on_path t.nodes x i) kind b in_size
          ∙ denial_of-none (eager_node t i) (is_on_path t.nodes x i) b (cell_of t i b).perm _ (h (sym e))
      | false ↦ λ e. refl
    ] refl

node-denies : (t : Shape) (x : ℕ) (reaches : Tag → Bool) (kind : Kind) (i b : ℕ) → IsSound t → x ≤ length t.nodes → i ≤ length t.nodes → b < t.size → reaches (tag_at t i) ≡ true → denies_at t x i b kind ≡ true →
    by_node t x reaches kind b (eager_node t i) ≡ Some (Denied b (tag_at t i) (cell_of t i b).perm (is_on_path t.nodes x i))
node-denies t x reaches kind i b s low high in_size reached h =
    ap (λ r. cond r (denial (eager_node t i) (is_above (eager_links t) (tag_at t x) (tag_at t i)) kind b) None) reached
    ∙ ap (λ l. denial (eager_node t i) l kind b) (path-places t x i s low high)
    ∙ denial-cell t i (is_on_path t.nodes x i) kind b in_size
    ∙ denial_of-some (eager_node t i) (is_on_path t.nodes x i) b (cell_of t i b).perm _ h

-- the root denies nothing
pub slice_get-replicate : (n k : ℕ) (c : Cell) → k < n → slice_get (replicate n c) k ≡ Some c
slice_get-replicate zero k c lt = absurd (omega arith)
slice_get-replicate (suc n) zero c lt = refl
slice_get-replicate (suc n) (suc k) c lt = slice_get-replicate n k c (omega arith)

root-fine : (root : Tag) (size b : ℕ) (kind : Kind) → denial_of (root_node root size) true b Unique (outcome Unique true Free true kind) ≡ None
root-fine root size b Read = refl
root-fine root size b Write = refl

root-silent : (t : Shape) (x : ℕ) (reaches : Tag → Bool) (kind : Kind) (b : ℕ) → IsSound t → x ≤ length t.nodes → b < t.size → by_node t x reaches kind b (root_node t.root t.size) ≡ None
root-silent t x reaches kind b s low in_size =
    elim (reaches t.root) as (λ r. cond r (denial (root_node t.root t.size) (is_above (eager_links t) (tag_at t x) (tag_at t 0)) kind b) None ≡ None) [
      | true ↦
          ap (λ l. denial (root_node t.root t.size) l kind b) (path-places t x 0 s low (omega arith) ∙ root-on-path t x s low)
          ∙ ap (λ o. option_and_then (λ (cell : Cell). denial_of (root_node t.root t.size) true b cell.perm (outcome cell.perm cell.accessed Free true kind)) o) (slice_get-replicate t.size b root_cell in_size)
          ∙ root-fine t.root t.size b kind
      | false ↦ refl
    ]

-- the node at a place
pub eager-at : (t : Shape) (i : ℕ) (d : Node) → 1 ≤ i → i ≤ length t.nodes → get_or (eager_nodes t) i d ≡ eager_node t i
eager-at t zero d some stored = absurd (omega arith)
eager-at t (suc k) d some stored = get_or-map-range_with_len (eager_node t) 1 (length t.nodes) k (suc k) d (omega arith) (omega arith)

pub length-eager : (t : Shape) → length (eager_nodes t) ≡ length t.nodes + 1
length-eager t = let l = length-map-range_with_len (eager_node t) 1 (length t.nodes) in omega (arith, l)

silent-at : (t : Shape) (x : ℕ) (reaches : Tag → Bool) (kind : Kind) (i b : ℕ) → IsSound t → x ≤ length t.nodes → i ≤ length t.nodes → b < t.size → (1 ≤ i → reaches (tag_at t i) ≡ true → denies_at t x i b kind ≡ false) → by_node t x reaches kind b (get_or (eager_nodes t) i (root_node t.root t.size)) ≡ None
silent-at t x reaches kind zero b s low high in_size h = root-silent t x reaches kind b s low in_size
silent-at t x reaches kind (suc k) b s low high in_size h =
    ap (by_node t x reaches kind b) (eager-at t (suc k) (root_node t.root t.size) (omega arith) high)
    ∙ node-silent t x reaches kind (suc k) b s low high in_size (h (omega arith))

byte-silent : (t : Shape) (x : ℕ) (kinds : ℕ → Option Kind) (reaches : Tag → Bool) (b : ℕ) (o : Option Kind) → kinds b ≡ o → IsSound t → x ≤ length t.nodes → b < t.size →
    ((i : ℕ) → 1 ≤ i → i ≤ length t.nodes → reaches (tag_at t i) ≡ true → is_refused (kinds b) (is_on_path t.nodes x i) (node_at t.nodes i).guard (cell_of t i b) ≡ false) →
    denial_at kinds reaches (eager_links t) (tag_at t x) (eager_nodes t) b ≡ None
byte-silent t x kinds reaches b None e s low in_size h = rw e refl
byte-silent t x kinds reaches b (Some kind) e s low in_size h =
    ap (option_and_then (λ k. first_in (by_node t x reaches k b) (eager_nodes t))) e
    ∙ first_in-none (by_node t x reaches kind b) (eager_nodes t) (root_node t.root t.size)
    (λ i lt. silent-at t x reaches kind i b s low (omega (arith, lt, length-eager t)) in_size
    (λ some r. ap (λ k. is_refused k (is_on_path t.nodes x i) (node_at t.nodes i).guard (cell_of t i b)) (sym e) ∙ h i some (omega (arith, lt, length-eager t)) r))

-- nothing is denied
pub visit-silent : (t : Shape) (x : ℕ) (kinds : ℕ → Option Kind) (reaches : Tag → Bool) → IsSound t → x ≤ length t.nodes →
    ((i b : ℕ) → 1 ≤ i → i ≤ length t.nodes → b < t.size → reaches (tag_at t i) ≡ true → is_refused (kinds b) (is_on_path t.nodes x i) (node_at t.nodes i).guard (cell_of t i b) ≡ false) →
    first_denial kinds reaches (eager_links t) (tag_at t x) t.size (eager_nodes t) ≡ None
visit-silent t x kinds reaches s low h =
    first_below-none (denial_at kinds reaches (eager_links t) (tag_at t x) (eager_nodes t)) t.size
    (λ b in_size. byte-silent t x kinds reaches b (kinds b) refl s low in_size (λ i some stored r. h i b some stored in_size r))

pub none-true : (b : Bool) → (b ≡ true → ⊥) → b ≡ false
none-true true h = absurd (h refl)
none-true false h = refl

-- the first denial is that of the least byte, and there of the least place
pub visit-denied : (t : Shape) (x : ℕ) (kinds : ℕ → Option Kind) (reaches : Tag → Bool) (i b : ℕ) (kind : Kind) → IsSound t → x ≤ length t.nodes → 1 ≤ i → i ≤ length t.nodes → b < t.size → kinds b ≡ Some kind → reaches (tag_at t i) ≡ true → denies_at t x i b kind ≡ true →
    ((j c : ℕ) → 1 ≤ j → j ≤ length t.nodes → c < t.size → reaches (tag_at t j) ≡ true → is_refused (kinds c) (is_on_path t.nodes x j) (node_at t.nodes j).guard (cell_of t j c) ≡ true → (b < c) ⊎ ((b ≡ c) × (i ≤ j))) →
    first_denial kinds reaches (eager_links t) (tag_at t x) t.size (eager_nodes t) ≡ Some (Denied b (tag_at t i) (cell_of t i b).perm (is_on_path t.nodes x i))
visit-denied t x kinds reaches i b kind s low some stored in_size e reached denied least =
    first_below-found (denial_at kinds reaches (eager_links t) (tag_at t x) (eager_nodes t)) b t.size _ in_size
    (first_below-none (denial_at kinds reaches (eager_links t) (tag_at t x) (eager_nodes t)) b
    (λ c less. byte-silent t x kinds reaches c (kinds c) refl s low (omega (arith, less, in_size))
    (λ j one in_nodes r. none-true _ (λ d. elim (least j c one in_nodes (omega (arith, less, in_size)) r d) [ inl more ↦ omega (arith, less, more) | inr same ↦ omega (arith, less, same.0) ]))))
    (ap (option_and_then (λ k. first_in (by_node t x reaches k b) (eager_nodes t))) e
    ∙ first_in-at (by_node t x reaches kind b) (eager_nodes t) i (root_node t.root t.size) _ (omega (arith, stored, length-eager t))
    (λ j less. silent-at t x reaches kind j b s low (omega (arith, less, stored)) in_size
    (λ one r. none-true _ (λ d. elim (least j b one (omega (arith, less, stored)) in_size r (ap (λ k. is_refused k (is_on_path t.nodes x j) (node_at t.nodes j).guard (cell_of t j b)) e ∙ d)) [ inl more ↦ omega (arith, more) | inr same ↦ omega (arith, same.1, less) ])))
    (ap (by_node t x reaches kind b) (eager-at t i (root_node t.root t.size) some stored) ∙ node-denies t x reaches kind i b s low stored in_size reached denied))

-- each cell of the one tree is that of the other one after the visit
pub record Steps (t u : Shape) (x : ℕ) (kinds : ℕ → Option Kind) (reaches : Tag → Bool) : Type 0 where
  pub root : u.root ≡ t.root
  pub size : u.size ≡ t.size
  pub count : length u.nodes ≡ length t.nodes
  pub links : (place : ℕ) → HasSameLinks (node_at t.nodes place) (node_at u.nodes place)
  pub reached : (i b : ℕ) → 1 ≤ i → i ≤ length t.nodes → b < t.size → reaches (tag_at t i) ≡ true → cell_of u i b ≡ next_cell (kinds b) (is_on_path t.nodes x i) (node_at t.nodes i).guard (cell_of t i b)
  pub left : (i b : ℕ) → 1 ≤ i → i ≤ length t.nodes → b < t.size → reaches (tag_at t i) ≡ false → cell_of u i b ≡ cell_of t i b

pub cells-from : (kinds : ℕ → Option Kind) (local : Bool) (guard : Guard) (f g : ℕ → Cell) (a n : ℕ) → ((b : ℕ) → b < a + n → g b ≡ next_cell (kinds b) local guard (f b)) → map g (range_with_len a n) ≡ next_cells kinds local guard a (map f (range_with_len a n))
cells-from kinds local guard f g a zero h = refl
cells-from kinds local guard f g a (suc n) h =
    let rest : map g (range_with_len (a + 1) n) ≡ next_cells kinds local guard (a + 1) (map f (range_with_len (a + 1) n)) = cells-from kinds local guard f g (a + 1) n (λ b lt. h b (omega (arith, lt))) in
    ap (λ c. c ∷ map g (range_with_len (a + 1) n)) (h a (omega arith)) ∙ ap (λ cs. next_cell (kinds a) local guard (f a) ∷ cs) rest

pub map-from : {B : Type 0} (f g : ℕ → B) (a n : ℕ) → ((b : ℕ) → a ≤ b → b < a + n → g b ≡ f b) → map g (range_with_len a n) ≡ map f (range_with_len a n)
map-from f g a zero h = refl
map-from f g a (suc n) h =
    ap (λ c. c ∷ map g (range_with_len (a + 1) n)) (h a (omega arith) (omega arith)) ∙ ap (λ cs. f a ∷ cs) (map-from f g (a + 1) n (λ b low lt. h b (omega (arith, low)) (omega (arith, lt))))

pub map-next : (f g : ℕ → Node) (next : Node → Node) (a n : ℕ) → ((b : ℕ) → a ≤ b → b < a + n → g b ≡ next (f b)) → map g (range_with_len a n) ≡ map next (map f (range_with_len a n))
map-next f g next a zero h = refl
map-next f g next a (suc n) h =
    ap (λ c. c ∷ map g (range_with_len (a + 1) n)) (h a (omega arith) (omega arith)) ∙ ap (λ cs. next (f a) ∷ cs) (map-next f g next (a + 1) n (λ b low lt. h b (omega (arith, low)) (omega (arith, lt))))

pub node-parts : (a b : Node) → a.tag ≡ b.tag → a.parent ≡ b.parent → a.guard ≡ b.guard → a.cells ≡ b.cells → a ≡ b
node-parts a b t p g c =
    ap (λ x. record { tag = x; parent = a.parent; guard = a.guard; cells = a.cells }) t
    ∙ ap (λ x. record { tag = b.tag; parent = x; guard = a.guard; cells = a.cells }) p
    ∙ ap (λ x. record { tag = b.tag; parent = b.parent; guard = x; cells = a.cells }) g
    ∙ ap (λ x. record { tag = b.tag; parent = b.parent; guard = b.guard; cells = x }) c

-- a node keeps its tag
pub same-tag : (t u : Shape) (place : ℕ) → u.root ≡ t.root → (node_at u.nodes place).tag ≡ (node_at t.nodes place).tag → tag_at u place ≡ tag_at t place
same-tag t u place root tag = rw (root, tag) refl

pub same-parent : (t u : Shape) (i : ℕ) (root : u.root ≡ t.root) → ((place : ℕ) → HasSameLinks (node_at t.nodes place) (node_at u.nodes place)) → (eager_node u i).parent ≡ (eager_node t i).parent
same-parent t u i root links =
    ap (λ p. Some (tag_at u p)) (links i).parent ∙ ap (λ g. Some g) (same-tag t u (node_at t.nodes i).parent root (links (node_at t.nodes i).parent).tag)

node-steps : (t u : Shape) (x : ℕ) (kinds : ℕ → Option Kind) (reaches : Tag → Bool) (i : ℕ) → Steps t u x kinds reaches → 1 ≤ i → i ≤ length t.nodes → (r : Bool) → reaches (tag_at t i) ≡ r →
    eager_node u i ≡ cond r (next_node kinds (is_on_path t.nodes x i) (eager_node t i)) (eager_node t i)
node-steps t u x kinds reaches i h some stored true e =
    node-parts (eager_node u i) (next_node kinds (is_on_path t.nodes x i) (eager_node t i))
    (same-tag t u i h.root (h.links i).tag) (same-parent t u i h.root h.links) (h.links i).guard
    (ap (λ n. map (cell_of u i) (range_with_len 0 n)) h.size ∙ cells-from kinds (is_on_path t.nodes x i) (node_at t.nodes i).guard (cell_of t i) (cell_of u i) 0 t.size (λ b lt. h.reached i b some stored (omega (arith, lt)) e))
node-steps t u x kinds reaches i h some stored false e =
    node-parts (eager_node u i) (eager_node t i)
    (same-tag t u i h.root (h.links i).tag) (same-parent t u i h.root h.links) (h.links i).guard
    (ap (λ n. map (cell_of u i) (range_with_len 0 n)) h.size ∙ map-from (cell_of t i) (cell_of u i) 0 t.size (λ b low lt. h.left i b some stored (omega (arith, lt)) e))

root-stays : (o : Option Kind) → next_cell o true Free root_cell ≡ root_cell
root-stays None = refl
root-stays (Some Read) = refl
root-stays (Some Write) = refl

root-cells : (kinds : ℕ → Option Kind) (from n : ℕ) → next_cells kinds true Free from (replicate n root_cell) ≡ replicate n root_cell
root-cells kinds from zero = refl
root-cells kinds from (suc n) = rw (root-stays (kinds from), root-cells kinds (from + 1) n) refl

pub root-steps : (t : Shape) (x : ℕ) (kinds : ℕ → Option Kind) (reaches : Tag → Bool) → IsSound t → x ≤ length t.nodes → root_node t.root t.size ≡ next_by kinds reaches (eager_links t) (tag_at t x) (root_node t.root t.size)
root-steps t x kinds reaches s low =
    elim (reaches t.root) as (λ r. root_node t.root t.size ≡ cond r (next_node kinds (is_above (eager_links t) (tag_at t x) (tag_at t 0)) (root_node t.root t.size)) (root_node t.root t.size)) [
      | true ↦
          ap (λ cs. (let n : Node = record { tag = t.root; parent = None; guard = Free; cells = cs } in n)) (sym (root-cells kinds 0 t.size))
          ∙ ap (λ l. next_node kinds l (root_node t.root t.size)) (sym (path-places t x 0 s low (omega arith) ∙ root-on-path t x s low))
      | false ↦ refl
    ]

pub nodes-steps : (t u : Shape) (x : ℕ) (kinds : ℕ → Option Kind) (reaches : Tag → Bool) → IsSound t → x ≤ length t.nodes → Steps t u x kinds reaches → eager_nodes u ≡ next_nodes kinds reaches (eager_links t) (tag_at t x) (eager_nodes t)
nodes-steps t u x kinds reaches s low h =
    ap (λ r. root_node r u.size ∷ map (eager_node u) (range_with_len 1 (length u.nodes))) h.root
    ∙ ap (λ n. root_node t.root n ∷ map (eager_node u) (range_with_len 1 (length u.nodes))) h.size
    ∙ ap (λ n. root_node t.root t.size ∷ map (eager_node u) (range_with_len 1 n)) h.count
    ∙ ap (λ ns. root_node t.root t.size ∷ ns) (map-next (eager_node t) (eager_node u) (next_by kinds reaches (eager_links t) (tag_at t x)) 1 (length t.nodes)
    (λ i some lt. node-steps t u x kinds reaches i h some (omega (arith, lt)) (reaches (tag_at t i)) refl
    ∙ ap (λ l. cond (reaches (tag_at t i)) (next_node kinds l (eager_node t i)) (eager_node t i)) (sym (path-places t x i s low (omega (arith, lt))))))
    ∙ ap (λ n. n ∷ map (next_by kinds reaches (eager_links t) (tag_at t x)) (map (eager_node t) (range_with_len 1 (length t.nodes)))) (root-steps t x kinds reaches s low)

-- a visit that is done
pub visit-done : (t u : Shape) (x : ℕ) (kinds : ℕ → Option Kind) (reaches : Tag → Bool) → IsSound t → x ≤ length t.nodes → Steps t u x kinds reaches → first_denial kinds reaches (eager_links t) (tag_at t x) t.size (eager_nodes t) ≡ None →
    (let p : Option Violation × Tree = (None, eager_of u) in p) ≡ visit kinds reaches (tag_at t x) (eager_of t)
visit-done t u x kinds reaches s low h none =
    ap (λ n. (let p : Option Violation × Tree = (None, record { size = n; nodes = eager_nodes u }) in p)) h.size
    ∙ ap (λ ns. (let p : Option Violation × Tree = (None, record { size = t.size; nodes = ns }) in p)) (nodes-steps t u x kinds reaches s low h)
    ∙ ap (λ o. visit_unless o (next_nodes kinds reaches (eager_links t) (tag_at t x) (eager_nodes t)) (eager_of t)) (sym none)

-- a visit that is denied
pub visit-refused : (t : Shape) (x : ℕ) (kinds : ℕ → Option Kind) (reaches : Tag → Bool) (w : Violation) → first_denial kinds reaches (eager_links t) (tag_at t x) t.size (eager_nodes t) ≡ Some w →
    (let p : Option Violation × Tree = (Some w, eager_of t) in p) ≡ visit kinds reaches (tag_at t x) (eager_of t)
visit-refused t x kinds reaches w some =
    ap (λ o. visit_unless o (next_nodes kinds reaches (eager_links t) (tag_at t x) (eager_nodes t)) (eager_of t)) (sym some)
