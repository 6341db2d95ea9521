-- What every step keeps of a tree.
use Rattle.std.proofs.Common.{◌≡◌, ℕ, zero, suc, ◌+◌, ◌<◌, Bool, true, false, List, [], ◌∷◌, ◌++◌, length, map, take, drop, All, Option, Some, None, refl, ap, ◌∙◌, sym, subst, arith, add-zero, length-append, length-drop, append_assoc, drop-cons, set, eqb, inl, inr, ◌⊎◌, IsTrue, MatchOption, slice_get, get_or}
use Rattle.std.proofs.lemmas.Grind.{common_steps}
use Rattle.std.proofs.lemmas.List.{length-map}
use Rattle.bsan_ids.specs.declared.numbers.Tag.{Tag}
use Rattle.perm_table.specs.declared.Kind.{Kind}
use Rattle.perm_table.specs.declared.Perm.{Perm}
use Rattle.bsan_ids.specs.declared.numbers.Span.{Span}
use Rattle.eager_tree.specs.declared.node.Node.{Node}
use Rattle.eager_tree.specs.Tree.{Tree, Links, links, IsTree, AreLinked}
use Rattle.eager_tree.specs.Visit.{next_nodes, next_by, visit_unless}
use Rattle.std.specs.Option.{option_or}
use Rattle.eager_tree.specs.declared.violation.Violation.{Violation}
use Rattle.eager_tree.specs.Steps.{freed_guard, freed_unless}
use Rattle.eager_tree.specs.declared.sweep.Sweep.{Sweep}
use Rattle.eager_tree.specs.declared.node.Cell.{Cell}
use Rattle.eager_tree.specs.Sweeps.{kinds_of, reaches_of, visited}
use Rattle.eager_tree.proofs.Nodes.{links-next_nodes, links-next_by, sized-next_nodes}
use Rattle.std.specs.List.Sorted.{IsStrictlyIncreasing}
use Rattle.std.proofs.lemmas.Bool.{cases_lt}
use Rattle.std.proofs.lemmas.List.{map-append, take-append-le}
use Rattle.std.proofs.Math.Seq.{take-append_seam, set-append_seam}
use Rattle.std.proofs.Math.ListN.{get_or-append}
use Rattle.std.proofs.lemmas.Option.{slice_get_within}
use Rattle.std.proofs.lemmas.List.Elements.{All-map, All-append, All-cons, All-nil}
use Rattle.eager_tree.specs.Tree.{has_tag, retagged}
use Rattle.eager_tree.specs.Steps.{new_cells, is_within}

-- what a Vec holds after a write through its slice
pub put_back : {A : Type 0} (new old : List A) (n : ℕ) → length old ≡ n → length new ≡ length old → take n (new ++ drop (length new) old) ≡ new
put_back new old n e h = grind (arith, common_steps)

pub IsTree-linked : (size : ℕ) (before after : List Node) → IsTree (record { size = size; nodes = before }) → links after ≡ links before → All (λ n. length n.cells ≡ size) after → IsTree (record { size = size; nodes = after })
IsTree-linked size before after h e sized =
    record {
      some = h.some;
      planted = omega (arith, h.planted, ap length e, length-map {B = Tag × Option Tag} before (λ (m : Node). (m.tag, m.parent)), length-map {B = Tag × Option Tag} after (λ (m : Node). (m.tag, m.parent)));
      sized = sized;
      linked = subst AreLinked (sym e) h.linked;
    }

pub IsTree-visited : (kinds : ℕ → Option Kind) (reaches : Tag → Bool) (ls : Links) (x : Tag) (size : ℕ) (nodes : List Node) → IsTree (record { size = size; nodes = nodes }) → IsTree (record { size = size; nodes = next_nodes kinds reaches ls x nodes })
IsTree-visited kinds reaches ls x size nodes h =
    IsTree-linked size nodes (next_nodes kinds reaches ls x nodes) h (links-next_nodes kinds reaches ls x nodes) (sized-next_nodes kinds reaches ls x size nodes h.sized)

freed_guard-keeps : (x : Tag) (size : ℕ) (node : Node) (b : Bool) → eqb node.tag.0 x.0 ≡ b → ((freed_guard x node).tag ≡ node.tag) × ((freed_guard x node).parent ≡ node.parent) × (length (freed_guard x node).cells ≡ length node.cells)
freed_guard-keeps x size node true e = simp e (refl, refl, refl)
freed_guard-keeps x size node false e = simp e (refl, refl, refl)

pub links-freed : (x : Tag) (nodes : List Node) → links (map (freed_guard x) nodes) ≡ links nodes
links-freed x [] = refl
links-freed x (node ∷ nodes) =
    let h = freed_guard-keeps x 0 node (eqb node.tag.0 x.0) refl in
    rw (h.0, h.1, links-freed x nodes) refl

sized-freed : (x : Tag) (size : ℕ) (nodes : List Node) → All (λ n. length n.cells ≡ size) nodes → All (λ n. length n.cells ≡ size) (map (freed_guard x) nodes)
sized-freed x size nodes sized =
    All-map (λ (n : Node). length n.cells ≡ size) (freed_guard x) nodes (λ k d lt. (freed_guard-keeps x 0 (get_or nodes k d) (eqb (get_or nodes k d).tag.0 x.0) refl).2 ∙ sized k d lt)

pub freed_back : (x : Tag) (size n : ℕ) (items now new : List Node) → IsTree (record { size = size; nodes = items }) → now ≡ items → length now ≡ n → new ≡ map (freed_guard x) now → IsTree (record { size = size; nodes = take n (new ++ drop (length new) items) })
freed_back x size n items now new h same len e =
    let lengths : length new ≡ length now = ap length e ∙ length-map {B = Node} now (freed_guard x) in
    let back : take n (new ++ drop (length new) items) ≡ new = put_back new items n (ap length (sym same) ∙ len) (lengths ∙ ap length same) in
    let tree : IsTree (record { size = size; nodes = now }) = subst (λ (ns : List Node). IsTree (record { size = size; nodes = ns })) (sym same) h in
    subst (λ (ns : List Node). IsTree (record { size = size; nodes = ns })) (sym (back ∙ e)) (IsTree-linked size now (map (freed_guard x) now) tree (links-freed x now) (sized-freed x size now tree.sized))

-- a new child
get_or-last : {A : Type 0} (xs : List A) (y d : A) (k : ℕ) → k ≡ length xs → get_or (xs ++ y ∷ []) k d ≡ y
get_or-last [] y d k e = rw e refl
get_or-last (x ∷ xs) y d zero e = absurd (omega arith)
get_or-last (x ∷ xs) y d (suc k) e = get_or-last xs y d k (omega arith)

rising-push : (xs : List ℕ) (y : ℕ) → IsStrictlyIncreasing xs → All (λ x. x < y) xs → IsStrictlyIncreasing (xs ++ y ∷ [])
rising-push xs y rising below = λ k lt.
    let long : k + 1 < length xs + 1 = omega (arith, lt, length-append xs (y ∷ [])) in
    let first : get_or (xs ++ y ∷ []) k 0 ≡ get_or xs k 0 = get_or-append xs (y ∷ []) 0 k (omega arith) in
    elim (cases_lt (k + 1) (length xs)) [
      | inl less ↦
          let second : get_or (xs ++ y ∷ []) (k + 1) 0 ≡ get_or xs (k + 1) 0 = get_or-append xs (y ∷ []) 0 (k + 1) less in
          rw (first, second) (rising k less)
      | inr more ↦
          let second : get_or (xs ++ y ∷ []) (k + 1) 0 ≡ y = get_or-last xs y 0 (k + 1) (omega arith) in
          rw (first, second) (below k 0 (omega arith))
    ]

slice_get-push : {A : Type 0} (xs : List A) (y z : A) (k : ℕ) → slice_get (xs ++ y ∷ []) k ≡ Some z → (slice_get xs k ≡ Some z) ⊎ ((k ≡ length xs) × (z ≡ y))
slice_get-push [] y z zero h = inr (refl, (let e : z ≡ y = cc in e))
slice_get-push [] y z (suc k) h = cc
slice_get-push (x ∷ xs) y z zero h = inl h
slice_get-push (x ∷ xs) y z (suc k) h =
    elim (slice_get-push xs y z k h) [ inl found ↦ inl found | inr last ↦ inr (let e : suc k ≡ length (x ∷ xs) = omega (arith, last.0) in e, last.1) ]

AreLinked-push : (ls : Links) (parent tag : Tag) → AreLinked ls → IsTrue (has_tag ls parent) → All (λ l. l.0.0 < tag.0) ls → AreLinked (ls ++ (tag, Some parent) ∷ [])
AreLinked-push ls parent tag h known newest =
    record {
      rising = rw (map-append (λ (l : Tag × Option Tag). l.0.0) ls ((tag, Some parent) ∷ [])) (rising-push (map (λ l. l.0.0) ls) tag.0 h.rising (All-map (λ x. x < tag.0) (λ (l : Tag × Option Tag). l.0.0) ls newest));
      parents = λ k l at.
          elim (slice_get-push ls (tag, Some parent) l k at) [
            | inl found ↦
                let within = slice_get_within ls k l found in
                rw (take-append-le k ls ((tag, Some parent) ∷ []) (omega arith)) (h.parents k l found)
            | inr last ↦
                let all : take k (ls ++ (tag, Some parent) ∷ []) ≡ ls = rw (last.0, take-append_seam ls ((tag, Some parent) ∷ [])) refl in
                rw (last.1, all) known
          ];
    }

pub IsTree-push : (size : ℕ) (nodes : List Node) (node : Node) (parent : Tag) → IsTree (record { size = size; nodes = nodes }) → node.parent ≡ Some parent → length node.cells ≡ size → IsTrue (has_tag (links nodes) parent) → All (λ n. n.tag.0 < node.tag.0) nodes → IsTree (record { size = size; nodes = nodes ++ node ∷ [] })
IsTree-push size nodes node parent h child sized known newest =
    record {
      some = h.some;
      planted = omega (arith, h.planted, length-append nodes (node ∷ []));
      sized = All-append (λ (n : Node). length n.cells ≡ size) nodes (node ∷ []) h.sized (All-cons (λ (n : Node). length n.cells ≡ size) node [] sized (All-nil (λ (n : Node). length n.cells ≡ size)));
      linked =
          rw (map-append {B = Tag × Option Tag} (λ (n : Node). (n.tag, n.parent)) nodes (node ∷ []), child)
          (AreLinked-push (links nodes) parent node.tag h.linked known (All-map (λ (l : Tag × Option Tag). l.0.0 < node.tag.0) (λ (n : Node). (n.tag, n.parent)) nodes newest));
    }

newest-visited : (kinds : ℕ → Option Kind) (reaches : Tag → Bool) (ls : Links) (x : Tag) (nodes : List Node) (tag : Tag) → All (λ n. n.tag.0 < tag.0) nodes → All (λ n. n.tag.0 < tag.0) (next_nodes kinds reaches ls x nodes)
newest-visited kinds reaches ls x nodes tag newest =
    All-map (λ (n : Node). n.tag.0 < tag.0) (next_by kinds reaches ls x) nodes (λ k d lt. rw ((links-next_by kinds reaches ls x (get_or nodes k d)).0) (newest k d lt))

-- a Vec of nodes after a visit through its slice
pub visited_items : (sweep : Sweep) (x : Tag) (n : ℕ) (items now new : List Node) → now ≡ items → length now ≡ n → new ≡ visited sweep x now → take n (new ++ drop (length new) items) ≡ visited sweep x items
visited_items sweep x n items now new same len e =
    let lengths : length new ≡ length now = ap length e ∙ length-map {B = Node} now _ in
    put_back new items n (ap length (sym same) ∙ len) (lengths ∙ ap length same) ∙ e ∙ ap (visited sweep x) same

pub visited_back : (sweep : Sweep) (x : Tag) (size n : ℕ) (items now new : List Node) → IsTree (record { size = size; nodes = items }) → now ≡ items → length now ≡ n → new ≡ visited sweep x now → IsTree (record { size = size; nodes = take n (new ++ drop (length new) items) })
visited_back sweep x size n items now new h same len e =
    subst (λ (ns : List Node). IsTree (record { size = size; nodes = ns })) (sym (visited_items sweep x n items now new same len e))
    (IsTree-visited (kinds_of sweep items x) (reaches_of sweep (links items) x) (links items) x size items h)

-- the tree after a retag
pub grown : (sweep : Sweep) (x : Tag) (size : ℕ) (items after : List Node) (node : Node) → IsTree (record { size = size; nodes = items }) → after ≡ visited sweep x items ++ node ∷ [] → node.parent ≡ Some x → length node.cells ≡ size → IsTrue (has_tag (links items) x) → All (λ n. n.tag.0 < node.tag.0) items → IsTree (record { size = size; nodes = after })
grown sweep x size items after node h all child sized known newest =
    subst (λ (ns : List Node). IsTree (record { size = size; nodes = ns })) (sym all)
    (IsTree-push size _ node x (IsTree-visited (kinds_of sweep items x) (reaches_of sweep (links items) x) (links items) x size items h) child sized
    (rw (links-next_nodes (kinds_of sweep items x) (reaches_of sweep (links items) x) (links items) x items) known)
    (newest-visited (kinds_of sweep items x) (reaches_of sweep (links items) x) (links items) x items node.tag newest))

pub length-new_cells : (perm : Perm) (span : Span) (from n : ℕ) → length (new_cells perm span from n) ≡ n
length-new_cells perm span from zero = refl
length-new_cells perm span from (suc n) = omega (arith, length-new_cells perm span (from + 1) n)

-- one more byte of a new node
pub new_cells-more : (perm : Perm) (span : Span) (from n : ℕ) → new_cells perm span from (n + 1) ≡ new_cells perm span from n ++ record { perm = perm; accessed = is_within span (from + n) } ∷ []
new_cells-more perm span from zero = rw add-zero refl
new_cells-more perm span from (suc n) =
    let less : suc n + 1 ≡ suc (n + 1) = omega arith in
    let place : from + suc n ≡ from + 1 + n = omega arith in
    rw (less, place) (ap (λ rest. record { perm = perm; accessed = is_within span from } ∷ rest) (new_cells-more perm span (from + 1) n))

-- room for a node stays room in a larger Vec
pub room_kept : (ready : Option (List Cell)) (size : ℕ) (P Q : Type 0) → MatchOption ready (Unit {0}) (λ cells. (length cells ≡ size) × P) → Q → MatchOption ready (Unit {0}) (λ cells. (length cells ≡ size) × Q)
room_kept None size P Q h q = tt
room_kept (Some cells) size P Q h q = (h.0, q)

pub length-filled : (perm : Perm) (span : Span) (offset : ℕ) (old : List Cell) → offset < length old → offset < length (new_cells perm span 0 offset ++ drop offset old)
length-filled perm span offset old lt =
    omega (arith, length-append (new_cells perm span 0 offset) (drop offset old), length-new_cells perm span 0 offset, length-drop offset old)

-- one more byte of a node to come
pub fill-more : (perm : Perm) (span : Span) (offset : ℕ) (old now after : List Cell) (accessed : Bool) → offset < length old → now ≡ new_cells perm span 0 offset ++ drop offset old → accessed ≡ is_within span offset → after ≡ set now offset (record { perm = perm; accessed = accessed }) → after ≡ new_cells perm span 0 (offset + 1) ++ drop (offset + 1) old
fill-more perm span offset old now after accessed lt inv is sets =
    let cell : Cell = record { perm = perm; accessed = accessed } in
    let front : List Cell = new_cells perm span 0 offset in
    let rest : List Cell = drop (suc offset) old in
    let whole : now ≡ front ++ get_or old offset cell ∷ rest = inv ∙ ap (λ (ys : List Cell). front ++ ys) (drop-cons old offset cell lt) in
    let place : offset ≡ length front = sym (length-new_cells perm span 0 offset) in
    let less : offset + 1 ≡ suc offset = omega arith in
    let zero_more : 0 + offset ≡ offset = omega arith in
    let grown : new_cells perm span 0 (offset + 1) ≡ front ++ cell ∷ [] = new_cells-more perm span 0 offset ∙ ap (λ (b : Bool). front ++ record { perm = perm; accessed = b } ∷ []) (ap (is_within span) zero_more ∙ sym is) in
    sets ∙ ap (λ (xs : List Cell). set xs offset cell) whole
    ∙ ap (λ (k : ℕ). set (front ++ get_or old offset cell ∷ rest) k cell) place
    ∙ set-append_seam front (get_or old offset cell) rest cell
    ∙ sym (append_assoc front (cell ∷ []) rest)
    ∙ ap (λ (xs : List Cell). xs ++ rest) (sym grown)
    ∙ ap (λ (k : ℕ). new_cells perm span 0 (offset + 1) ++ drop k old) (sym less)

-- another tag at a root that is alone
pub set-retagged : (nodes : List Node) (root : Tag) (node : Node) → length nodes ≡ 1 → node ≡ get_or nodes 0 node → set nodes 0 (retagged root node) ≡ map (retagged root) nodes
set-retagged [] root node one is = absurd (omega arith)
set-retagged (first ∷ []) root node one is = ap (λ (n : Node). retagged root n ∷ []) is
set-retagged (first ∷ second ∷ nodes) root node one is = absurd (omega arith)

rising-one : (k : ℕ) → IsStrictlyIncreasing (k ∷ [])
rising-one k i lt = absurd (omega arith)

parents-one : (root : Tag) (parent : Option Tag) → MatchOption parent (◌≡◌ {A = ℕ} 0 0) (λ p. IsTrue (has_tag [] p)) → (k : ℕ) (l : Tag × Option Tag) → slice_get ((root, parent) ∷ []) k ≡ Some l → MatchOption l.1 (k ≡ 0) (λ p. IsTrue (has_tag (take k ((root, parent) ∷ [])) p))
parents-one root parent h zero l e = let same : (root, parent) ≡ l = cc in subst (λ (m : Tag × Option Tag). MatchOption m.1 (◌≡◌ {A = ℕ} 0 0) (λ p. IsTrue (has_tag [] p))) same h
parents-one root parent h (suc k) l e = cc

pub IsTree-retagged : (size : ℕ) (nodes : List Node) (root : Tag) → IsTree (record { size = size; nodes = nodes }) → length nodes ≡ 1 → IsTree (record { size = size; nodes = map (retagged root) nodes })
IsTree-retagged size [] root h one = absurd (omega arith)
IsTree-retagged size (first ∷ []) root h one =
    record {
      some = h.some;
      planted = omega arith;
      sized = All-cons (λ (n : Node). length n.cells ≡ size) (retagged root first) [] (h.sized 0 first (omega arith)) (All-nil (λ (n : Node). length n.cells ≡ size));
      linked = record { rising = rising-one root.0; parents = parents-one root first.parent (h.linked.parents 0 (first.tag, first.parent) refl) };
    }
IsTree-retagged size (first ∷ second ∷ nodes) root h one = absurd (omega arith)

-- a free, by one denial or the other
pub freed_visit : (denial held : Option Violation) (nodes : List Node) (t : Tree) → visit_unless (option_or denial held) nodes t ≡ freed_unless held t (visit_unless denial nodes t)
freed_visit (Some violation) held nodes t = refl
freed_visit None (Some violation) nodes t = refl
freed_visit None None nodes t = refl
