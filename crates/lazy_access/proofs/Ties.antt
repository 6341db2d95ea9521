-- A tree of stored nodes, in the words of the eager tree for which it stands.
use Rattle.std.proofs.Common.{◌≡◌, ◌≢◌, ◌⊎◌, ℕ, zero, suc, ◌+◌, ◌<◌, ◌≤◌, Bool, true, false, cond, eqb, eq-eqb, List, [], ◌∷◌, length, map, get_or, Option, Some, None, refl, sym, ap, subst, ◌∙◌, arith, inl, inr, add-zero}
use Rattle.std.proofs.lemmas.Bool.{cases_lt, cases_eq, ne_eqb}
use Rattle.std.proofs.lemmas.List.{get_or-map, length-map, ext_get_or}
use Rattle.std.proofs.lemmas.Option.{slice_get-map, slice_get-get_or}
use Rattle.std.specs.Option.{option_and_then, option_map}
use Rattle.bsan_ids.specs.declared.numbers.Tag.{Tag}
use Rattle.perm_table.specs.declared.Kind.{Kind}
use Rattle.perm_table.specs.declared.Guard.{Guard}
use Rattle.perm_table.specs.declared.Perm.{Perm}
use Rattle.perm_table.specs.declared.Outcome.{Outcome}
use Rattle.perm_table.specs.declared.Outcome.TheVariants.{Next, Denied as IsDenied}
use Rattle.eager_tree.specs.declared.violation.Violation.{Violation}
use Rattle.eager_tree.specs.declared.violation.Violation.TheVariants.{Denied}
use Rattle.perm_table.specs.Table.{outcome}
use Rattle.eager_tree.specs.declared.node.Cell.{Cell}
use Rattle.eager_tree.specs.declared.node.Node.{Node}
use Rattle.eager_tree.specs.Tree.{Tree, Links, links, parent_in, leads_to, is_on_path}
use Rattle.eager_tree.specs.Visit.{first_in, first_below, denial, denial_of, denial_by, denial_at, first_denial, next_cell, next_cells, next_node, next_by, next_nodes, visit, visit_unless}
use Rattle.eager_tree.proofs.Nodes.{first_below-found}
use Rattle.eager_tree.proofs.Cells.{length-next_cells}
use Rattle.lazy_tree.specs.declared.slot.Slot.{Slot}
use Rattle.lazy_tree.specs.declared.tree.Node.{Node as Stored}
use Rattle.lazy_tree.specs.Skip.{node_at, slot_at, no_node, no_slot, bool_at, above, IsSound}
use Rattle.lazy_tree.specs.Eager.{eager_cell, eager_node, eager_nodes, eager_with}
use Rattle.lazy_tree.specs.Quiet.{slot_outcome}
use Rattle.lazy_access.specs.Step.{is_denied}
use Rattle.lazy_access.specs.Walk.{IsUnder, IsPath, denies}
use Rattle.lazy_access.specs.Change.{IsJoined}
use Rattle.lazy_access.proofs.Places.{under-itself, under-up, under-down}

-- the parent of a node by its tag
parent_in-rising : (all ns : List Stored) (k : ℕ) → k < length ns → ((j : ℕ) → j < k → (get_or ns j no_node).tag.0 < (get_or ns k no_node).tag.0) →
    parent_in (links (map (eager_node all) ns)) (get_or ns k no_node).tag ≡ (eager_node all (get_or ns k no_node)).parent
parent_in-rising all [] k lt h = absurd (omega arith)
parent_in-rising all (n ∷ ns) zero lt h = rw (eq-eqb n.tag.0 n.tag.0 refl) refl
parent_in-rising all (n ∷ ns) (suc k) lt h =
    let less = h 0 (omega arith) in
    let other : eqb n.tag.0 (get_or ns k no_node).tag.0 ≡ false = ne_eqb n.tag.0 (get_or ns k no_node).tag.0 (λ same. omega (arith, less, same)) in
    rw other (parent_in-rising all ns k (omega (arith, lt)) (λ j low. h (suc j) (omega (arith, low))))

pub parent_in-at : (size : ℕ) (nodes : List Stored) (i : ℕ) → IsSound size nodes → i < length nodes → parent_in (links (eager_nodes nodes)) (node_at nodes i).tag ≡ option_map (λ p. (node_at nodes p).tag) (node_at nodes i).parent
unfolding eager_nodes
parent_in-at size nodes i h lt = parent_in-rising nodes nodes i lt (λ j low. h.rising j i low lt)

pub one-tag : (size : ℕ) (nodes : List Stored) (i j : ℕ) → IsSound size nodes → i < length nodes → j < length nodes → (node_at nodes i).tag.0 ≡ (node_at nodes j).tag.0 → i ≡ j
one-tag size nodes i j h low high e =
    elim (cases_lt i j) [
      | inl less ↦ absurd (let r = h.rising i j less high in omega (arith, r, e))
      | inr more ↦ elim (cases_lt j i) [
        | inl less ↦ absurd (let r = h.rising j i less low in omega (arith, r, e))
        | inr back ↦ omega (arith, more, back)
      ]
    ]

-- a step up the tags from a node that is not the one looked for
leads_to-here : (m : ℕ) (ls : Links) (x y : Tag) → eqb x.0 y.0 ≡ true → leads_to m ls x y ≡ true
leads_to-here zero ls x y e = e
leads_to-here (suc m) ls x y e = rw e refl

leads_to-root : (m : ℕ) (ls : Links) (x y : Tag) → eqb x.0 y.0 ≡ false → parent_in ls x ≡ None → leads_to m ls x y ≡ false
leads_to-root zero ls x y ne none = ne
leads_to-root (suc m) ls x y ne none = rw (ne, none) refl

leads_to-step : (m : ℕ) (ls : Links) (x y p : Tag) → eqb x.0 y.0 ≡ false → parent_in ls x ≡ Some p → leads_to (suc m) ls x y ≡ leads_to m ls p y
leads_to-step m ls x y p ne up = rw (ne, up) refl

false-not-true : (b : Bool) → b ≡ false → b ≡ true → ⊥
false-not-true true e f = cc
false-not-true false e f = cc

-- by tags a node leads to those on its path alone
pub record Leads (nodes : List Stored) (m k i : ℕ) : Type 0 where
  pub up : leads_to m (links (eager_nodes nodes)) (node_at nodes k).tag (node_at nodes i).tag ≡ true → IsUnder nodes i k
  pub down : IsUnder nodes i k → leads_to m (links (eager_nodes nodes)) (node_at nodes k).tag (node_at nodes i).tag ≡ true

leads-here : (size : ℕ) (nodes : List Stored) (m k i : ℕ) → IsSound size nodes → i < length nodes → k ≡ i → Leads nodes m k i
leads-here size nodes m k i h low same = record {
  up = λ e. subst (λ j. IsUnder nodes i j) (sym same) (under-itself nodes i h.linked low);
  down = λ s. leads_to-here m (links (eager_nodes nodes)) (node_at nodes k).tag (node_at nodes i).tag (eq-eqb _ _ (ap (λ j. (node_at nodes j).tag.0) same));
}

apart : (size : ℕ) (nodes : List Stored) (k i : ℕ) → IsSound size nodes → k < length nodes → i < length nodes → k ≢ i → eqb (node_at nodes k).tag.0 (node_at nodes i).tag.0 ≡ false
apart size nodes k i h low high ne = ne_eqb _ _ (λ e. ne (one-tag size nodes k i h low high e))

leads-root : (size : ℕ) (nodes : List Stored) (m k i : ℕ) → IsSound size nodes → k < length nodes → i < length nodes → k ≢ i → k ≡ 0 → Leads nodes m k i
leads-root size nodes m k i h low high ne zero_k =
    let none : parent_in (links (eager_nodes nodes)) (node_at nodes k).tag ≡ None =
    parent_in-at size nodes k h low ∙ ap (option_map (λ p. (node_at nodes p).tag)) (ap (λ j. (node_at nodes j).parent) zero_k ∙ h.linked.root) in
    record {
      up = λ e. absurd (false-not-true _ (leads_to-root m (links (eager_nodes nodes)) (node_at nodes k).tag (node_at nodes i).tag (apart size nodes k i h low high ne) none) e);
      down = λ s. absurd (let over = under-up nodes i k h.linked high low ne s in let some = over.0 in omega (arith, some, zero_k));
    }

pub leads : (m : ℕ) (size : ℕ) (nodes : List Stored) (k i : ℕ) → k ≤ m → IsSound size nodes → k < length nodes → i < length nodes → Leads nodes m k i
leads zero size nodes k i le h low high =
    elim (cases_eq k i) [ inl same ↦ leads-here size nodes zero k i h high same | inr ne ↦ leads-root size nodes zero k i h low high ne (omega (arith, le)) ]
leads (suc m) size nodes k i le h low high =
    elim (cases_eq k i) [
      | inl same ↦ leads-here size nodes (suc m) k i h high same
      | inr ne ↦ elim (cases_eq k 0) [
        | inl root ↦ leads-root size nodes (suc m) k i h low high ne root
        | inr some ↦
            let one : 1 ≤ k = omega (arith, some) in
            let less = h.linked.before k one low in
            let rest = leads m size nodes (above nodes k) i (omega (arith, less, le)) h (omega (arith, less, low)) high in
            let up : parent_in (links (eager_nodes nodes)) (node_at nodes k).tag ≡ Some (node_at nodes (above nodes k)).tag =
            parent_in-at size nodes k h low ∙ ap (option_map (λ p. (node_at nodes p).tag)) (h.linked.parents k one low) in
            let step = leads_to-step m (links (eager_nodes nodes)) (node_at nodes k).tag (node_at nodes i).tag (node_at nodes (above nodes k)).tag (apart size nodes k i h low high ne) up in
            record {
              up = λ e. under-down nodes i k h.linked high low one (rest.up (sym step ∙ e));
              down = λ s. step ∙ rest.down (under-up nodes i k h.linked high low ne s).1;
            }
      ]
    ]

pub length-links : (nodes : List Stored) → length (links (eager_nodes nodes)) ≡ length nodes
unfolding eager_nodes
length-links nodes = length-map (eager_nodes nodes) _ ∙ length-map nodes (eager_node nodes)

same-bools : (a b : Bool) → (a ≡ true → b ≡ true) → (b ≡ true → a ≡ true) → a ≡ b
same-bools true b to from = sym (to refl)
same-bools false true to from = from refl
same-bools false false to from = refl

on-path : (size : ℕ) (nodes : List Stored) (k i : ℕ) → IsSound size nodes → k < length nodes → i < length nodes → Leads nodes (length (links (eager_nodes nodes))) k i
on-path size nodes k i h low high = leads (length (links (eager_nodes nodes))) size nodes k i (omega (arith, low, length-links nodes)) h low high

-- a node stands below another where the eager tree says so
pub under-eager : (size : ℕ) (nodes : List Stored) (k i : ℕ) → IsSound size nodes → k < length nodes → i < length nodes → is_on_path (links (eager_nodes nodes)) (node_at nodes k).tag (node_at nodes i).tag ≡ true → IsUnder nodes i k
under-eager size nodes k i h low high e = (on-path size nodes k i h low high).up e

pub eager-under : (size : ℕ) (nodes : List Stored) (k i : ℕ) → IsSound size nodes → k < length nodes → i < length nodes → IsUnder nodes i k → is_on_path (links (eager_nodes nodes)) (node_at nodes k).tag (node_at nodes i).tag ≡ true
eager-under size nodes k i h low high s = (on-path size nodes k i h low high).down s

pub path-eager : (size : ℕ) (nodes : List Stored) (x : ℕ) (marks : List Bool) (i : ℕ) → IsSound size nodes → x < length nodes → IsPath nodes x marks → i < length nodes → bool_at marks i ≡ is_on_path (links (eager_nodes nodes)) (node_at nodes x).tag (node_at nodes i).tag
path-eager size nodes x marks i h inside path lt =
    same-bools (bool_at marks i) _ (λ e. eager-under size nodes x i h inside lt (path.up i lt e)) (λ e. path.down i lt (under-eager size nodes x i h inside lt e))

-- the first answer along a list, by places
pub first_in-none : {A B : Type 0} (f : A → Option B) (xs : List A) (d : A) → ((i : ℕ) → i < length xs → f (get_or xs i d) ≡ None) → first_in f xs ≡ None
first_in-none f [] d h = refl
first_in-none f (x ∷ xs) d h = rw (h 0 (omega arith), first_in-none f xs d (λ i lt. h (suc i) (omega (arith, lt)))) refl

pub first_in-at : {A B : Type 0} (f : A → Option B) (xs : List A) (i : ℕ) (d : A) (v : B) → i < length xs → ((j : ℕ) → j < i → f (get_or xs j d) ≡ None) → f (get_or xs i d) ≡ Some v → first_in f xs ≡ Some v
first_in-at f [] i d v lt h e = absurd (omega arith)
first_in-at f (x ∷ xs) zero d v lt h e = rw e refl
first_in-at f (x ∷ xs) (suc i) d v lt h e = rw (h 0 (omega arith), first_in-at f xs i d v (omega (arith, lt)) (λ j low. h (suc j) (omega (arith, low))) e) refl

pub first_below-none : {B : Type 0} (f : ℕ → Option B) (n : ℕ) → ((b : ℕ) → b < n → f b ≡ None) → first_below f n ≡ None
first_below-none f zero h = refl
first_below-none f (suc n) h = rw (first_below-none f n (λ b lt. h b (omega arith)), h n (omega arith)) refl

denial-slot : (nodes : List Stored) (i : ℕ) (local : Bool) (kind : Kind) (b : ℕ) → b < length (node_at nodes i).runs.bytes →
    denial (eager_node nodes (node_at nodes i)) local kind b ≡ denial_of (eager_node nodes (node_at nodes i)) local b (slot_at nodes i b).perm (slot_outcome (node_at nodes i).guard local kind (slot_at nodes i b))
denial-slot nodes i local kind b lt =
    ap (λ o. option_and_then (λ cell. denial_of (eager_node nodes (node_at nodes i)) local b cell.perm (outcome cell.perm cell.accessed (node_at nodes i).guard local kind)) o)
    (slice_get-map eager_cell (node_at nodes i).runs.bytes b ∙ ap (option_map eager_cell) (slice_get-get_or (node_at nodes i).runs.bytes b no_slot lt))

denial_of-none : (node : Node) (local : Bool) (b : ℕ) (perm : Perm) (o : Outcome) → is_denied o ≡ false → denial_of node local b perm o ≡ None
denial_of-none node local b perm (Next p a) e = refl
denial_of-none node local b perm IsDenied e = cc

denial_of-some : (node : Node) (local : Bool) (b : ℕ) (perm : Perm) (o : Outcome) → is_denied o ≡ true → denial_of node local b perm o ≡ Some (Denied b node.tag perm local)
denial_of-some node local b perm (Next p a) e = cc
denial_of-some node local b perm IsDenied e = refl

-- what a visit is, over stored nodes
pub record Visits (size : ℕ) (nodes : List Stored) (x : ℕ) (local : ℕ → Bool) : Type 0 where
  pub sound : IsSound size nodes
  pub inside : x < length nodes
  pub path : (i : ℕ) → i < length nodes → local i ≡ is_on_path (links (eager_nodes nodes)) (node_at nodes x).tag (node_at nodes i).tag

abbrev by_node : List Stored → ℕ → (Tag → Bool) → Kind → ℕ → Node → Option Violation
by_node nodes x reaches kind b = denial_by reaches (links (eager_nodes nodes)) (node_at nodes x).tag kind b

node-silent : (size : ℕ) (nodes : List Stored) (x : ℕ) (local : ℕ → Bool) (reaches : Tag → Bool) (kind : Kind) (i b : ℕ) → Visits size nodes x local → i < length nodes → b < size → (reaches (node_at nodes i).tag ≡ true → denies nodes local kind i b ≡ false) → by_node nodes x reaches kind b (eager_node nodes (node_at nodes i)) ≡ None
node-silent size nodes x local reaches kind i b v lt in_size h =
    elim (reaches (node_at nodes i).tag) as (λ r. r ≡ reaches (node_at nodes i).tag → cond r (denial (eager_node nodes (node_at nodes i)) (is_on_path (links (eager_nodes nodes)) (node_at nodes x).tag (node_at nodes i).tag) kind b) None ≡ None) [
      | true ↦ λ e.
          ap (λ (l : Bool). denial (eager_node nodes (node_at nodes i)) l kind b) (sym (v.path i lt))
          ∙ denial-slot nodes i (local i) kind b (let s = v.sound.sizes i lt in omega (arith, s, in_size))
          ∙ denial_of-none (eager_node nodes (node_at nodes i)) (local i) b (slot_at nodes i b).perm _ (h (sym e))
      | false ↦ λ e. refl
    ] refl

node-denies : (size : ℕ) (nodes : List Stored) (x : ℕ) (local : ℕ → Bool) (reaches : Tag → Bool) (kind : Kind) (i b : ℕ) → Visits size nodes x local → i < length nodes → b < size → reaches (node_at nodes i).tag ≡ true → denies nodes local kind i b ≡ true → by_node nodes x reaches kind b (eager_node nodes (node_at nodes i)) ≡ Some (Denied b (node_at nodes i).tag (slot_at nodes i b).perm (local i))
node-denies size nodes x local reaches kind i b v lt in_size reached h =
    ap (λ (r : Bool). cond r (denial (eager_node nodes (node_at nodes i)) (is_on_path (links (eager_nodes nodes)) (node_at nodes x).tag (node_at nodes i).tag) kind b) None) reached
    ∙ ap (λ (l : Bool). denial (eager_node nodes (node_at nodes i)) l kind b) (sym (v.path i lt))
    ∙ denial-slot nodes i (local i) kind b (let s = v.sound.sizes i lt in omega (arith, s, in_size))
    ∙ denial_of-some (eager_node nodes (node_at nodes i)) (local i) b (slot_at nodes i b).perm _ h

pub eager_at : (nodes : List Stored) (i : ℕ) → i < length nodes → get_or (eager_nodes nodes) i (eager_node nodes no_node) ≡ eager_node nodes (node_at nodes i)
unfolding eager_nodes
eager_at nodes i lt = get_or-map (eager_node nodes) nodes i no_node (eager_node nodes no_node) lt

pub length-eager : (nodes : List Stored) → length (eager_nodes nodes) ≡ length nodes
unfolding eager_nodes
length-eager nodes = length-map nodes (eager_node nodes)

byte-silent : (size : ℕ) (nodes : List Stored) (x : ℕ) (local : ℕ → Bool) (kinds : ℕ → Option Kind) (reaches : Tag → Bool) (b : ℕ) (o : Option Kind) → Visits size nodes x local → b < size → ((i : ℕ) (k : Kind) → i < length nodes → o ≡ Some k → reaches (node_at nodes i).tag ≡ true → denies nodes local k i b ≡ false) →
    option_and_then (λ kind. first_in (by_node nodes x reaches kind b) (eager_nodes nodes)) o ≡ None
byte-silent size nodes x local kinds reaches b None v in_size h = refl
byte-silent size nodes x local kinds reaches b (Some k) v in_size h =
    first_in-none (by_node nodes x reaches k b) (eager_nodes nodes) (eager_node nodes no_node)
    (λ i lt. let low : i < length nodes = omega (arith, lt, length-eager nodes) in
    ap (by_node nodes x reaches k b) (eager_at nodes i low) ∙ node-silent size nodes x local reaches k i b v low in_size (λ r. h i k low refl r))

-- a visit that no node denies
pub visit-silent : (size : ℕ) (nodes : List Stored) (x : ℕ) (local : ℕ → Bool) (kinds : ℕ → Option Kind) (reaches : Tag → Bool) → Visits size nodes x local → ((i b : ℕ) (k : Kind) → i < length nodes → b < size → kinds b ≡ Some k → reaches (node_at nodes i).tag ≡ true → denies nodes local k i b ≡ false) →
    first_denial kinds reaches (links (eager_nodes nodes)) (node_at nodes x).tag size (eager_nodes nodes) ≡ None
visit-silent size nodes x local kinds reaches v h =
    first_below-none (denial_at kinds reaches (links (eager_nodes nodes)) (node_at nodes x).tag (eager_nodes nodes)) size
    (λ b lt. byte-silent size nodes x local kinds reaches b (kinds b) v lt (λ i k low e r. h i b k low lt e r))

none-true : (b : Bool) → (b ≡ true → ⊥) → b ≡ false
none-true true h = absurd (h refl)
none-true false h = refl

-- a visit whose least denial is that of node i at byte b
pub visit-denied : (size : ℕ) (nodes : List Stored) (x : ℕ) (local : ℕ → Bool) (kinds : ℕ → Option Kind) (reaches : Tag → Bool) (i b : ℕ) (k : Kind) → Visits size nodes x local → i < length nodes → b < size → kinds b ≡ Some k → reaches (node_at nodes i).tag ≡ true → denies nodes local k i b ≡ true →
    ((j c : ℕ) (o : Kind) → j < length nodes → c < size → kinds c ≡ Some o → reaches (node_at nodes j).tag ≡ true → denies nodes local o j c ≡ true → (b < c) ⊎ ((b ≡ c) × (i ≤ j))) →
    first_denial kinds reaches (links (eager_nodes nodes)) (node_at nodes x).tag size (eager_nodes nodes) ≡ Some (Denied b (node_at nodes i).tag (slot_at nodes i b).perm (local i))
visit-denied size nodes x local kinds reaches i b k v lt in_size kind reached denied least =
    first_below-found (denial_at kinds reaches (links (eager_nodes nodes)) (node_at nodes x).tag (eager_nodes nodes)) b size _ in_size
    (first_below-none (denial_at kinds reaches (links (eager_nodes nodes)) (node_at nodes x).tag (eager_nodes nodes)) b
    (λ c low. byte-silent size nodes x local kinds reaches c (kinds c) v (omega (arith, low, in_size))
    (λ j o inside e r. none-true (denies nodes local o j c) (λ d. elim (least j c o inside (omega (arith, low, in_size)) e r d) [ inl more ↦ omega (arith, low, more) | inr same ↦ omega (arith, low, same.0) ]))))
    (ap (option_and_then (λ o. first_in (by_node nodes x reaches o b) (eager_nodes nodes))) kind
    ∙ first_in-at (by_node nodes x reaches k b) (eager_nodes nodes) i (eager_node nodes no_node) _ (omega (arith, lt, length-eager nodes))
    (λ j low. let inside : j < length nodes = omega (arith, low, lt) in
    ap (by_node nodes x reaches k b) (eager_at nodes j inside)
    ∙ node-silent size nodes x local reaches k j b v inside in_size (λ r. none-true (denies nodes local k j b) (λ d. elim (least j b k inside in_size kind r d) [ inl more ↦ omega (arith, more) | inr same ↦ omega (arith, same.1, low) ])))
    (ap (by_node nodes x reaches k b) (eager_at nodes i lt) ∙ node-denies size nodes x local reaches k i b v lt in_size reached denied))

-- each cell of `after` is the cell of `before` after the visit
pub record Steps (size : ℕ) (before after : List Stored) (local : ℕ → Bool) (kinds : ℕ → Option Kind) (reaches : Tag → Bool) : Type 0 where
  pub count : length after ≡ length before
  pub tag : (i : ℕ) → (node_at after i).tag ≡ (node_at before i).tag
  pub parent : (i : ℕ) → (node_at after i).parent ≡ (node_at before i).parent
  pub guard : (i : ℕ) → (node_at after i).guard ≡ (node_at before i).guard
  pub was : (i : ℕ) → i < length before → length (node_at before i).runs.bytes ≡ size
  pub is : (i : ℕ) → i < length before → length (node_at after i).runs.bytes ≡ size
  pub reached : (i b : ℕ) → i < length before → b < size → reaches (node_at before i).tag ≡ true → eager_cell (slot_at after i b) ≡ next_cell (kinds b) (local i) (node_at before i).guard (eager_cell (slot_at before i b))
  pub left : (i b : ℕ) → i < length before → b < size → reaches (node_at before i).tag ≡ false → eager_cell (slot_at after i b) ≡ eager_cell (slot_at before i b)

get_or-next_cells : (kinds : ℕ → Option Kind) (local : Bool) (guard : Guard) (from k : ℕ) (cells : List Cell) (d : Cell) → k < length cells → get_or (next_cells kinds local guard from cells) k d ≡ next_cell (kinds (from + k)) local guard (get_or cells k d)
get_or-next_cells kinds local guard from k [] d lt = absurd (omega arith)
get_or-next_cells kinds local guard from zero (cell ∷ cells) d lt = ap (λ k. next_cell (kinds k) local guard cell) (sym (add-zero from))
get_or-next_cells kinds local guard from (suc k) (cell ∷ cells) d lt =
    get_or-next_cells kinds local guard (from + 1) k cells d (omega (arith, lt))
    ∙ ap (λ j. next_cell (kinds j) local guard (get_or cells k d)) (let e : from + 1 + k ≡ from + suc k = omega arith in e)

cells-stepped : (kinds : ℕ → Option Kind) (local : Bool) (guard : Guard) (size : ℕ) (was is : List Slot) → length was ≡ size → length is ≡ size → ((b : ℕ) → b < size → eager_cell (get_or is b no_slot) ≡ next_cell (kinds b) local guard (eager_cell (get_or was b no_slot))) →
    map eager_cell is ≡ next_cells kinds local guard 0 (map eager_cell was)
cells-stepped kinds local guard size was is low high h =
    let long : length (map eager_cell is) ≡ size = length-map is eager_cell ∙ high in
    let old : length (map eager_cell was) ≡ size = length-map was eager_cell ∙ low in
    ext_get_or (eager_cell no_slot) (map eager_cell is) (next_cells kinds local guard 0 (map eager_cell was))
    (long ∙ sym (length-next_cells kinds local guard 0 (map eager_cell was) ∙ old))
    (λ b lt.
    get_or-map eager_cell is b no_slot (eager_cell no_slot) (omega (arith, lt, long, high))
    ∙ h b (omega (arith, lt, long))
    ∙ ap (λ k. next_cell (kinds k) local guard (eager_cell (get_or was b no_slot))) (let zero-add : b ≡ 0 + b = omega arith in zero-add)
    ∙ ap (next_cell (kinds (0 + b)) local guard) (sym (get_or-map eager_cell was b no_slot (eager_cell no_slot) (omega (arith, lt, long, low))))
    ∙ sym (get_or-next_cells kinds local guard 0 b (map eager_cell was) (eager_cell no_slot) (omega (arith, lt, long, old))))

pub cells-same : (size : ℕ) (was is : List Slot) → length was ≡ size → length is ≡ size → ((b : ℕ) → b < size → eager_cell (get_or is b no_slot) ≡ eager_cell (get_or was b no_slot)) → map eager_cell is ≡ map eager_cell was
cells-same size was is low high h =
    ext_get_or (eager_cell no_slot) (map eager_cell is) (map eager_cell was) (length-map is eager_cell ∙ high ∙ sym (length-map was eager_cell ∙ low))
    (λ b lt. let within : b < size = omega (arith, lt, length-map is eager_cell, high) in
    get_or-map eager_cell is b no_slot (eager_cell no_slot) (omega (arith, within, high)) ∙ h b within ∙ sym (get_or-map eager_cell was b no_slot (eager_cell no_slot) (omega (arith, within, low))))

pub parents-same : (f g : ℕ → Tag) → ((i : ℕ) → f i ≡ g i) → (o : Option ℕ) → option_map f o ≡ option_map g o
parents-same f g h None = refl
parents-same f g h (Some i) = ap (λ t. Some t) (h i)

pub node-parts : (a b : Node) → a.tag ≡ b.tag → a.parent ≡ b.parent → a.guard ≡ b.guard → a.cells ≡ b.cells → a ≡ b
node-parts a b t p g c =
    ap (λ x. record { tag = x; parent = a.parent; guard = a.guard; cells = a.cells }) t
    ∙ ap (λ x. record { tag = b.tag; parent = x; guard = a.guard; cells = a.cells }) p
    ∙ ap (λ x. record { tag = b.tag; parent = b.parent; guard = x; cells = a.cells }) g
    ∙ ap (λ x. record { tag = b.tag; parent = b.parent; guard = b.guard; cells = x }) c

node-steps : (size : ℕ) (before after : List Stored) (local : ℕ → Bool) (kinds : ℕ → Option Kind) (reaches : Tag → Bool) (i : ℕ) → Steps size before after local kinds reaches → i < length before → (r : Bool) → reaches (node_at before i).tag ≡ r →
    eager_node after (node_at after i) ≡ cond r (next_node kinds (local i) (eager_node before (node_at before i))) (eager_node before (node_at before i))
node-steps size before after local kinds reaches i h lt true e =
    node-parts (eager_node after (node_at after i)) (next_node kinds (local i) (eager_node before (node_at before i)))
    (h.tag i)
    (ap (option_map (λ p. (node_at after p).tag)) (h.parent i) ∙ parents-same (λ p. (node_at after p).tag) (λ p. (node_at before p).tag) h.tag (node_at before i).parent)
    (h.guard i)
    (cells-stepped kinds (local i) (node_at before i).guard size (node_at before i).runs.bytes (node_at after i).runs.bytes (h.was i lt) (h.is i lt) (λ b in_size. h.reached i b lt in_size e))
node-steps size before after local kinds reaches i h lt false e =
    node-parts (eager_node after (node_at after i)) (eager_node before (node_at before i))
    (h.tag i)
    (ap (option_map (λ p. (node_at after p).tag)) (h.parent i) ∙ parents-same (λ p. (node_at after p).tag) (λ p. (node_at before p).tag) h.tag (node_at before i).parent)
    (h.guard i)
    (cells-same size (node_at before i).runs.bytes (node_at after i).runs.bytes (h.was i lt) (h.is i lt) (λ b in_size. h.left i b lt in_size e))

steps-over : (size : ℕ) (before after : List Stored) (local : ℕ → Bool) (kinds : ℕ → Option Kind) (reaches : Tag → Bool) (ls : Links) (x : Tag) → Steps size before after local kinds reaches → ((i : ℕ) → i < length before → local i ≡ is_on_path ls x (node_at before i).tag) →
    eager_nodes after ≡ next_nodes kinds reaches ls x (eager_nodes before)
unfolding eager_nodes
steps-over size before after local kinds reaches ls x h path =
    let long : length (eager_nodes after) ≡ length before = length-map after (eager_node after) ∙ h.count in
    let old : length (eager_nodes before) ≡ length before = length-map before (eager_node before) in
    ext_get_or (eager_node after no_node) (eager_nodes after) (next_nodes kinds reaches ls x (eager_nodes before))
    (long ∙ sym (length-map (eager_nodes before) (next_by kinds reaches ls x) ∙ old))
    (λ i lt.
    let inside : i < length before = omega (arith, lt, long) in
    get_or-map (eager_node after) after i no_node (eager_node after no_node) (omega (arith, inside, h.count))
    ∙ node-steps size before after local kinds reaches i h inside (reaches (node_at before i).tag) refl
    ∙ ap (λ (l : Bool). cond (reaches (node_at before i).tag) (next_node kinds l (eager_node before (node_at before i))) (eager_node before (node_at before i))) (path i inside)
    ∙ ap (next_by kinds reaches ls x) (sym (get_or-map (eager_node before) before i no_node (eager_node before no_node) inside))
    ∙ sym (get_or-map (next_by kinds reaches ls x) (eager_nodes before) i (eager_node before no_node) (eager_node after no_node) (omega (arith, inside, old))))

pub nodes-steps : (size x : ℕ) (before after : List Stored) (local : ℕ → Bool) (kinds : ℕ → Option Kind) (reaches : Tag → Bool) → Steps size before after local kinds reaches → Visits size before x local →
    eager_nodes after ≡ next_nodes kinds reaches (links (eager_nodes before)) (node_at before x).tag (eager_nodes before)
nodes-steps size x before after local kinds reaches h v =
    steps-over size before after local kinds reaches (links (eager_nodes before)) (node_at before x).tag h v.path

pub eager_with-some : (root : Tag) (size : ℕ) (nodes : List Stored) → 1 ≤ length nodes → eager_with root size nodes ≡ record { size = size; nodes = eager_nodes nodes }
eager_with-some root size [] h = absurd (omega (arith, h))
eager_with-some root size (n ∷ ns) h = refl

-- a visit that is done
pub visit-done : (root : Tag) (size x : ℕ) (before after : List Stored) (local : ℕ → Bool) (kinds : ℕ → Option Kind) (reaches : Tag → Bool) → Visits size before x local → Steps size before after local kinds reaches →
    first_denial kinds reaches (links (eager_nodes before)) (node_at before x).tag size (eager_nodes before) ≡ None →
    (let p : Option Violation × Tree = (None, eager_with root size after) in p) ≡ visit kinds reaches (node_at before x).tag (eager_with root size before)
visit-done root size x before after local kinds reaches v h none =
    let some : 1 ≤ length before = (let i = v.inside in omega (arith, i)) in
    ap (λ (t : Tree). (let p : Option Violation × Tree = (None, t) in p)) (eager_with-some root size after (let c = h.count in omega (arith, some, c)))
    ∙ ap (λ (ns : List Node). (let p : Option Violation × Tree = (None, record { size = size; nodes = ns }) in p)) (nodes-steps size x before after local kinds reaches h v)
    ∙ ap (λ o. visit_unless o (next_nodes kinds reaches (links (eager_nodes before)) (node_at before x).tag (eager_nodes before)) (record { size = size; nodes = eager_nodes before })) (sym none)
    ∙ ap (λ t. visit kinds reaches (node_at before x).tag t) (sym (eager_with-some root size before some))

-- a visit that is denied
pub visit-refused : (root : Tag) (size x : ℕ) (nodes : List Stored) (kinds : ℕ → Option Kind) (reaches : Tag → Bool) (w : Violation) → 1 ≤ length nodes → first_denial kinds reaches (links (eager_nodes nodes)) (node_at nodes x).tag size (eager_nodes nodes) ≡ Some w →
    (let p : Option Violation × Tree = (Some w, eager_with root size nodes) in p) ≡ visit kinds reaches (node_at nodes x).tag (eager_with root size nodes)
visit-refused root size x nodes kinds reaches w some denied =
    ap (λ (t : Tree). (let p : Option Violation × Tree = (Some w, t) in p)) (eager_with-some root size nodes some)
    ∙ ap (λ o. visit_unless o (next_nodes kinds reaches (links (eager_nodes nodes)) (node_at nodes x).tag (eager_nodes nodes)) (record { size = size; nodes = eager_nodes nodes })) (sym denied)
    ∙ ap (λ t. visit kinds reaches (node_at nodes x).tag t) (sym (eager_with-some root size nodes some))

-- joined runs stand for the same nodes
pub nodes-joined : (before after : List Stored) → IsJoined before after → eager_nodes after ≡ eager_nodes before
unfolding eager_nodes
nodes-joined before after h =
    let long : length (eager_nodes after) ≡ length before = length-map after (eager_node after) ∙ h.links.count in
    let old : length (eager_nodes before) ≡ length before = length-map before (eager_node before) in
    ext_get_or (eager_node after no_node) (eager_nodes after) (eager_nodes before) (long ∙ sym old)
    (λ i lt.
    let inside : i < length before = omega (arith, lt, long) in
    get_or-map (eager_node after) after i no_node (eager_node after no_node) (let c = h.links.count in omega (arith, inside, c))
    ∙ node-parts (eager_node after (node_at after i)) (eager_node before (node_at before i)) (h.links.tag i)
    (ap (option_map (λ p. (node_at after p).tag)) (h.links.parent i) ∙ parents-same (λ p. (node_at after p).tag) (λ p. (node_at before p).tag) h.links.tag (node_at before i).parent)
    (h.guard i) (ap (map eager_cell) (h.bytes i))
    ∙ sym (get_or-map (eager_node before) before i no_node (eager_node after no_node) inside))

link-at : (all : List Stored) (ns : List Stored) (i : ℕ) → i < length ns → get_or (links (map (eager_node all) ns)) i (no_node.tag, None) ≡ ((get_or ns i no_node).tag, option_map (λ p. (node_at all p).tag) (get_or ns i no_node).parent)
link-at all [] i lt = absurd (omega arith)
link-at all (n ∷ ns) zero lt = refl
link-at all (n ∷ ns) (suc i) lt = link-at all ns i (omega (arith, lt))

-- the tag of a node, with its parent's
pub link_at : (nodes : List Stored) (i : ℕ) → i < length nodes → get_or (links (eager_nodes nodes)) i (no_node.tag, None) ≡ ((node_at nodes i).tag, option_map (λ p. (node_at nodes p).tag) (node_at nodes i).parent)
unfolding eager_nodes
link_at nodes i lt = link-at nodes nodes i lt

pub links-same : (before after : List Stored) → length after ≡ length before → ((i : ℕ) → (node_at after i).tag ≡ (node_at before i).tag) → ((i : ℕ) → (node_at after i).parent ≡ (node_at before i).parent) → links (eager_nodes after) ≡ links (eager_nodes before)
unfolding eager_nodes
links-same before after count tag parent =
    ext_get_or (no_node.tag, None) (links (eager_nodes after)) (links (eager_nodes before)) (length-links after ∙ count ∙ sym (length-links before))
    (λ i lt.
    let low : i < length after = omega (arith, lt, length-links after) in
    link-at after after i low
    ∙ ap (λ (t : Tag). (let l : Tag × Option Tag = (t, option_map (λ p. (node_at after p).tag) (node_at after i).parent) in l)) (tag i)
    ∙ ap (λ (o : Option Tag). (let l : Tag × Option Tag = ((node_at before i).tag, o) in l)) (ap (option_map (λ p. (node_at after p).tag)) (parent i) ∙ parents-same (λ p. (node_at after p).tag) (λ p. (node_at before p).tag) tag (node_at before i).parent)
    ∙ sym (link-at before before i (omega (arith, low, count))))
