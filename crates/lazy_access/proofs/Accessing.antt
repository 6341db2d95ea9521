-- An access, in the eager tree's words.
use Rattle.std.proofs.Common.{◌≡◌, ◌⊎◌, ℕ, zero, suc, ◌+◌, ◌<◌, ◌≤◌, ◌||◌, Bool, true, false, eqb, List, [], ◌∷◌, length, map, replicate, get_or, Option, Some, None, OnSome, Result, Ok, Err, OnOk, OnErr, refl, sym, ap, subst, ◌∙◌, arith, inl, inr}
use Rattle.std.proofs.lemmas.Bool.{cases_lt, cases_eq, eqb-true}
use Rattle.std.proofs.lemmas.Bool.Decides.{nat_tests}
use Rattle.std.proofs.lemmas.List.{length-replicate, get_or-replicate}
use Rattle.bsan_ids.specs.declared.numbers.Tag.{Tag}
use Rattle.bsan_ids.specs.declared.numbers.Span.{Span}
use Rattle.range_map.specs.Ranges.{Ranges}
use Rattle.perm_table.specs.declared.Kind.{Kind}
use Rattle.perm_table.specs.declared.Kind.TheVariants.{Read, Write}
use Rattle.perm_table.specs.declared.Perm.{Perm}
use Rattle.perm_table.specs.declared.Guard.{Guard}
use Rattle.perm_table.specs.declared.Guard.TheVariants.{Free}
use Rattle.eager_tree.specs.declared.violation.Violation.{Violation}
use Rattle.eager_tree.specs.declared.violation.Violation.TheVariants.{Denied}
use Rattle.eager_tree.specs.Tree.{Tree, links, is_node, is_on_path, new_tree}
use Rattle.eager_tree.specs.Visit.{next_cell, next_nodes, visit, visit_unless}
use Rattle.eager_tree.specs.Steps.{on_span, access}
use Rattle.lazy_tree.specs.declared.slot.Slot.{Slot}
use Rattle.lazy_tree.specs.declared.tree.Node.{Node}
use Rattle.lazy_tree.specs.Skip.{node_at, slot_at, no_slot, rank, IsSound, SameLinks, root_node, root_slot, IsRootAlone}
use Rattle.lazy_tree.specs.Eager.{eager_cell, eager_nodes, eager_with}
use Rattle.lazy_tree.proofs.Adding.{sound-root}
use Rattle.lazy_tree.proofs.Finding.{tag-same, has-found, has-not}
use Rattle.lazy_access.specs.declared.check.Found.{Found}
use Rattle.lazy_tree.specs.Quiet.{slot_outcome, IsQuietSlot, IsQuietNode}
use Rattle.lazy_access.specs.Step.{is_denied, stepped}
use Rattle.lazy_access.specs.Walk.{IsReached, IsMet, denies, Finds, NoDenial, IsLeast}
use Rattle.lazy_access.specs.Change.{IsDone, IsJoined}
use Rattle.lazy_access.specs.Requests.{local_in, violation_in}
use Rattle.lazy_access.proofs.Places.{met-all, under-itself}
use Rattle.lazy_access.proofs.Changing.{links-through}
use Rattle.lazy_access.proofs.Ties.{Visits, visit-silent, visit-denied, Steps, visit-done, visit-refused, nodes-joined, links-same, eager_with-some, eager-under}

pub on_span-in : (span : Span) (kind : Kind) (b : ℕ) → span.start ≤ b → b < span.start + span.len → on_span span kind b ≡ Some kind
on_span-in span kind b from lt = grind (arith, nat_tests, from, lt)

pub on_span-out : (span : Span) (kind : Kind) (b : ℕ) → ((b < span.start) ⊎ (span.start + span.len ≤ b)) → on_span span kind b ≡ None
on_span-out span kind b (inl lt) = grind (arith, nat_tests, lt)
on_span-out span kind b (inr le) = grind (arith, nat_tests, le)

-- a byte lies in the span or outside
pub in-span : (span : Span) (b : ℕ) → ((span.start ≤ b) × (b < span.start + span.len)) ⊎ ((b < span.start) ⊎ (span.start + span.len ≤ b))
in-span span b =
    elim (cases_lt b span.start) [
      | inl less ↦ inr (inl less)
      | inr more ↦ elim (cases_lt b (span.start + span.len)) [ inl to ↦ inl (more, to) | inr past ↦ inr (inr past) ]
    ]

none-some : (k : Kind) → None ≡ Some k → ⊥
none-some k e = cc

some-kind : (a b : Kind) → Some a ≡ Some b → a ≡ b
some-kind a b e = cc

-- where the span gives a byte a kind, the byte lies in the span
pub on_span-some : (span : Span) (kind k : Kind) (b : ℕ) → on_span span kind b ≡ Some k → (span.start ≤ b) × (b < span.start + span.len) × (kind ≡ k)
on_span-some span kind k b e =
    elim (in-span span b) [
      | inl inside ↦ (inside.0, inside.1, some-kind kind k (sym (on_span-in span kind b inside.0 inside.1) ∙ e))
      | inr out ↦ absurd (none-some k (sym (on_span-out span kind b out) ∙ e))
    ]

reached-all : (nodes : List Node) (x i : ℕ) → IsReached nodes x true i
reached-all nodes x i e under = absurd (true-false e)
  where
    true-false : true ≡ false → ⊥
    true-false e = cc

pub visits-at : (size : ℕ) (nodes : List Node) (x : ℕ) → IsSound size nodes → x < length nodes → Visits size nodes x (local_in nodes x)
visits-at size nodes x h lt = record { sound = h; inside = lt; path = λ i low. refl }

cell-step : (span : Span) (kind : Kind) (local : Bool) (was now : Slot) (b : ℕ) (g : _) → (span.start ≤ b → b < span.start + span.len → eager_cell now ≡ eager_cell (stepped g local kind was)) → (((b < span.start) ⊎ (span.start + span.len ≤ b)) → now ≡ was) → eager_cell now ≡ next_cell (on_span span kind b) local g (eager_cell was)
cell-step span kind local was now b g inside outside =
    elim (in-span span b) [
      | inl there ↦ inside there.0 there.1 ∙ sym (ap (λ o. next_cell o local g (eager_cell was)) (on_span-in span kind b there.0 there.1))
      | inr out ↦ ap eager_cell (outside out) ∙ sym (ap (λ o. next_cell o local g (eager_cell was)) (on_span-out span kind b out))
    ]

pub joined-slots : (before after : List Node) → IsJoined before after → (i b : ℕ) → slot_at after i b ≡ slot_at before i b
joined-slots before after h i b = ap (λ (l : List Slot). get_or l b no_slot) (h.bytes i)

access-steps : (size : ℕ) (before mid after : List Node) (x : ℕ) (kind : Kind) (span : Span) → IsSound size before → IsSound size after → IsDone size before mid (local_in before x) x true kind span → IsJoined mid after → Steps size before after (local_in before x) (on_span span kind) (λ _. true)
access-steps size before mid after x kind span was is d j = record {
  count = j.links.count ∙ d.links.count;
  tag = λ i. j.links.tag i ∙ d.links.tag i;
  parent = λ i. j.links.parent i ∙ d.links.parent i;
  guard = λ i. j.guard i ∙ d.guard i;
  was = was.sizes;
  is = λ i lt. is.sizes i (let a = j.links.count in let b = d.links.count in omega (arith, lt, a, b));
  reached = λ i b lt in_size yes.
      ap eager_cell (joined-slots mid after j i b)
      ∙ cell-step span kind (local_in before x i) (slot_at before i b) (slot_at mid i b) b (node_at before i).guard (λ from to. d.cells i b lt (reached-all before x i) from to) (λ out. d.outside i b lt in_size out);
  left = λ i b lt in_size no_reach. let wrong : true ≡ false = no_reach in cc;
}

-- joined runs stand for the same tree
eager-joined : (root : Tag) (size : ℕ) (before mid after : List Node) → IsSound size before → IsSound size after → 1 ≤ length before → mid ≡ before → IsJoined mid after → eager_with root size after ≡ eager_with root size before
eager-joined root size before mid after was is some same j =
    eager_with-some root size after (let c = j.links.count in let l : length mid ≡ length before = ap length same in omega (arith, some, c, l))
    ∙ ap (λ ns. (let t : Tree = record { size = size; nodes = ns } in t)) (nodes-joined mid after j ∙ ap eager_nodes same)
    ∙ sym (eager_with-some root size before some)

-- an access of stored nodes
pub access-tie : (root : Tag) (size : ℕ) (before mid after : List Node) (x : ℕ) (tag : Tag) (kind : Kind) (span : Span) (found : Option Found) → IsSound size before → IsSound size after → x < length before → span.start + span.len ≤ size → (node_at before x).tag ≡ tag →
    Finds before (local_in before x) kind span (IsMet before x true (length before)) found → OnSome found (mid ≡ before) → (found ≡ None → IsDone size before mid (local_in before x) x true kind span) → IsJoined mid after →
    (let p : Option Violation × Tree = (violation_in before found, eager_with root size after) in p) ≡ access (eager_with root size before) tag span kind
access-tie root size before mid after x tag kind span None was is lt within e finds same done j =
    visit-done root size x before after (local_in before x) (on_span span kind) (λ _. true) (visits-at size before x was lt) (access-steps size before mid after x kind span was is (done refl) j)
    (visit-silent size before x (local_in before x) (on_span span kind) (λ _. true) (visits-at size before x was lt)
    (λ i b k low in_size kinds r. let s = on_span-some span kind k b kinds in
    subst (λ (o : Kind). denies before (local_in before x) o i b ≡ false) s.2 (finds i b (met-all before x true i was.linked low (reached-all before x i)) s.0 s.1)))
    ∙ ap (λ t. access (eager_with root size before) t span kind) e
access-tie root size before mid after x tag kind span (Some f) was is lt within e finds same done j =
    ap (λ (t : Tree). (let p : Option Violation × Tree = (violation_in before (Some f), t) in p)) (eager-joined root size before mid after was is (omega (arith, lt)) same j)
    ∙ visit-refused root size x before (on_span span kind) (λ _. true) (Denied f.offset (node_at before f.node).tag f.perm f.local) (omega (arith, lt))
    (visit-denied size before x (local_in before x) (on_span span kind) (λ _. true) f.node f.offset kind (visits-at size before x was lt) finds.node.within (let t = finds.to in omega (arith, t, within)) (on_span-in span kind f.offset finds.from finds.to) refl finds.denied
    (λ i c k low in_size kinds r d. let s = on_span-some span kind k c kinds in
    finds.least i c (met-all before x true i was.linked low (reached-all before x i)) s.0 s.1 (subst (λ (o : Kind). denies before (local_in before x) o i c ≡ true) (sym s.2) d))
    ∙ ap (λ (p : Perm). Some (Denied f.offset (node_at before f.node).tag p (local_in before x f.node))) (sym finds.perm) ∙ ap (λ (l : Bool). Some (Denied f.offset (node_at before f.node).tag f.perm l)) (sym finds.local_there))
    ∙ ap (λ t. access (eager_with root size before) t span kind) e

-- after an access its triple is quiet
pub access-quiet : (size : ℕ) (before mid after : List Node) (x : ℕ) (kind : Kind) (span : Span) → IsSound size before → IsDone size before mid (local_in before x) x true kind span → IsJoined mid after → (i : ℕ) → i < length before → IsQuietNode after (local_in before x) kind span i
access-quiet size before mid after x kind span h d j i lt b from to =
    rw (joined-slots mid after j i b, j.guard i) (d.quiet i lt (reached-all before x i) b from to)

-- the links are the same in the eager tree's words
pub links-eager : (before after : List Node) → SameLinks before after → links (eager_nodes after) ≡ links (eager_nodes before)
links-eager before after s = links-same before after s.count s.tag s.parent

pub quiet-after : (size : ℕ) (before mid after : List Node) (x : ℕ) (tag : Tag) (kind : Kind) (span : Span) → IsSound size before → (node_at before x).tag ≡ tag → IsDone size before mid (local_in before x) x true kind span → IsJoined mid after → (i : ℕ) → i < length after →
    IsQuietNode after (λ k. is_on_path (links (eager_nodes after)) tag (node_at after k).tag) kind span i
quiet-after size before mid after x tag kind span h e d j i lt b from to =
    let all : SameLinks before after = links-through before mid after d.links j.links in
    subst (λ (l : Bool). IsQuietSlot (node_at after i).guard l kind (slot_at after i b))
    (ap (λ (t : Tag). is_on_path (links (eager_nodes before)) t (node_at before i).tag) e
    ∙ ap (is_on_path (links (eager_nodes before)) tag) (sym (all.tag i)) ∙ ap (λ ls. is_on_path ls tag (node_at after i).tag) (sym (links-eager before after all)))
    (access-quiet size before mid after x kind span h d j i (let c = all.count in omega (arith, lt, c)) b from to)

-- the root alone, as a stored node
abbrev pub root_runs : ℕ → Ranges Slot
root_runs size = record { bytes = replicate size root_slot; starts = 0 ∷ []; spare = 0 }

abbrev pub alone : Tag → ℕ → List Node
alone root size = root_node root (root_runs size) ∷ []

root-slot : (root : Tag) (size i b : ℕ) → i < length (alone root size) → b < size → slot_at (alone root size) i b ≡ root_slot
root-slot root size i b lt in_size =
    elim (cases_eq i 0) [
      | inl here ↦ ap (λ k. slot_at (alone root size) k b) here ∙ get_or-replicate size b root_slot no_slot in_size
      | inr other ↦ absurd (omega (arith, other, lt))
    ]

map-replicate : (n : ℕ) (s : Slot) → map eager_cell (replicate n s) ≡ replicate n (eager_cell s)
map-replicate zero s = refl
map-replicate (suc n) s = ap (λ rest. eager_cell s ∷ rest) (map-replicate n s)

pub root-tree : (root : Tag) (size : ℕ) (runs : Ranges Slot) → runs.bytes ≡ replicate size root_slot → eager_with root size (root_node root runs ∷ []) ≡ new_tree size root
unfolding eager_nodes
root-tree root size runs e =
    ap (λ cells. (let t : Tree = record { size = size; nodes = record { tag = root; parent = None; guard = Free; cells = cells } ∷ [] } in t)) (ap (map eager_cell) e ∙ map-replicate size root_slot)

root-local : (root : Tag) (size i : ℕ) → IsSound size (alone root size) → i < length (alone root size) → local_in (alone root size) 0 i ≡ true
root-local root size i h lt =
    elim (cases_eq i 0) [
      | inl here ↦ ap (local_in (alone root size) 0) here ∙ eager-under size (alone root size) 0 0 h (omega arith) (omega arith) (under-itself (alone root size) 0 h.linked (omega arith))
      | inr other ↦ absurd (omega (arith, other, lt))
    ]

root-fine : (kind : Kind) (guard : Guard) → is_denied (slot_outcome guard true kind root_slot) ≡ false
root-fine Read g = refl
root-fine Write g = refl

root-next : (o : Option Kind) (guard : Guard) → eager_cell root_slot ≡ next_cell o true guard (eager_cell root_slot)
root-next None g = refl
root-next (Some Read) g = refl
root-next (Some Write) g = refl

pub root-sound : (root : Tag) (size : ℕ) → IsSound size (alone root size)
root-sound root size = sound-root root size (root_runs size) (length-replicate size root_slot) (λ b lt. ap (λ (s : Slot). rank s.level) (get_or-replicate size b root_slot no_slot lt))

-- every visit from the root alone is clean and changes nothing
pub root-visit : (root : Tag) (size : ℕ) (kinds : ℕ → Option Kind) (reaches : Tag → Bool) → (let p : Option Violation × Tree = (None, new_tree size root) in p) ≡ visit kinds reaches root (new_tree size root)
root-visit root size kinds reaches =
    let h = root-sound root size in
    let v : Visits size (alone root size) 0 (local_in (alone root size) 0) = visits-at size (alone root size) 0 h (omega arith) in
    ap (λ (t : Tree). (let p : Option Violation × Tree = (None, t) in p)) (sym (root-tree root size (root_runs size) refl))
    ∙ visit-done root size 0 (alone root size) (alone root size) (local_in (alone root size) 0) kinds reaches v
    (record {
      count = refl;
      tag = λ i. refl;
      parent = λ i. refl;
      guard = λ i. refl;
      was = h.sizes;
      is = h.sizes;
      reached = λ i b lt in_size yes.
          subst (λ (s : Slot). eager_cell s ≡ next_cell (kinds b) (local_in (alone root size) 0 i) (node_at (alone root size) i).guard (eager_cell s)) (sym (root-slot root size i b lt in_size))
          (subst (λ (l : Bool). eager_cell root_slot ≡ next_cell (kinds b) l (node_at (alone root size) i).guard (eager_cell root_slot)) (sym (root-local root size i h lt)) (root-next (kinds b) (node_at (alone root size) i).guard));
      left = λ i b lt in_size r. refl;
    })
    (visit-silent size (alone root size) 0 (local_in (alone root size) 0) kinds reaches v
    (λ i b k lt in_size made r.
    subst (λ (s : Slot). is_denied (slot_outcome (node_at (alone root size) i).guard (local_in (alone root size) 0 i) k s) ≡ false) (sym (root-slot root size i b lt in_size))
    (subst (λ (l : Bool). is_denied (slot_outcome (node_at (alone root size) i).guard l k root_slot) ≡ false) (sym (root-local root size i h lt)) (root-fine k (node_at (alone root size) i).guard))))
    ∙ ap (visit kinds reaches root) (root-tree root size (root_runs size) refl)

-- every access through the root alone is clean and changes nothing
pub access-root : (root tag : Tag) (size : ℕ) (span : Span) (kind : Kind) → tag ≡ root → (let p : Option Violation × Tree = (None, new_tree size root) in p) ≡ access (new_tree size root) tag span kind
access-root root tag size span kind e = root-visit root size (on_span span kind) (λ _. true) ∙ ap (λ (t : Tag). access (new_tree size root) t span kind) (sym e)

or-false : (b : Bool) → (b || false) ≡ b
or-false true = refl
or-false false = refl

-- a stored node is a node of the eager tree
pub node-there : (root : Tag) (size : ℕ) (nodes : List Node) (i : ℕ) (tag : Tag) → i < length nodes → (node_at nodes i).tag ≡ tag → is_node (eager_with root size nodes) tag ≡ true
node-there root size [] i tag lt e = absurd (omega arith)
node-there root size (n ∷ ns) i tag lt e = has-found (n ∷ ns) tag i lt e

-- where no node has a tag of the tree, it is the root's and none is stored
pub root-alone : (root : Tag) (size : ℕ) (nodes : List Node) (tag : Tag) → is_node (eager_with root size nodes) tag ≡ true → ((i : ℕ) → i < length nodes → (node_at nodes i).tag.0 ≡ tag.0 → ⊥) → (nodes ≡ []) × (tag ≡ root)
root-alone root size [] tag e none = (refl, tag-same tag root (sym (eqb-true root.0 tag.0 (sym (or-false (eqb root.0 tag.0)) ∙ e))))
root-alone root size (n ∷ ns) tag e none = let wrong : false ≡ true = sym (has-not (n ∷ ns) tag none) ∙ e in cc

pub access-none : (root : Tag) (size : ℕ) (nodes : List Node) (tag : Tag) (span : Span) (kind : Kind) → nodes ≡ [] → tag ≡ root → (let p : Option Violation × Tree = (None, eager_with root size nodes) in p) ≡ access (eager_with root size nodes) tag span kind
access-none root size nodes tag span kind none e =
    subst (λ (ns : List Node). (let p : Option Violation × Tree = (None, eager_with root size ns) in p) ≡ access (eager_with root size ns) tag span kind) (sym none) (access-root root tag size span kind e)

-- stored or not, the tree is the new one
pub stored-same : {A E : Type 0} (r : Result A E) (root other : Tag) (size sum : ℕ) (before now : List Node) → before ≡ [] → other ≡ root → sum ≡ size → OnOk r (IsRootAlone root size now) → OnErr r (now ≡ before) → eager_with other sum now ≡ eager_with root size before
stored-same (Ok a) root other size sum before now none e s ok err =
    ap (λ t. eager_with t sum now) e ∙ ap (λ n. eager_with root n now) s
    ∙ ap (eager_with root size) ok.alone ∙ root-tree root size (node_at now 0).runs ok.bytes ∙ ap (eager_with root size) (sym none)
stored-same (Err x) root other size sum before now none e s ok err =
    ap (λ t. eager_with t sum now) e ∙ ap (λ n. eager_with root n now) s ∙ ap (eager_with root size) err

-- the eager access that is denied, or not, by what a walk found
pub access-found : (root : Tag) (size : ℕ) (nodes : List Node) (x : ℕ) (kind : Kind) (span : Span) (f : Found) → IsSound size nodes → x < length nodes → span.start + span.len ≤ size → IsLeast nodes (local_in nodes x) kind span (IsMet nodes x true (length nodes)) f →
    (let p : Option Violation × Tree = (violation_in nodes (Some f), eager_with root size nodes) in p) ≡ access (eager_with root size nodes) (node_at nodes x).tag span kind
access-found root size nodes x kind span f h lt within found =
    visit-refused root size x nodes (on_span span kind) (λ _. true) (Denied f.offset (node_at nodes f.node).tag f.perm f.local) (omega (arith, lt))
    (visit-denied size nodes x (local_in nodes x) (on_span span kind) (λ _. true) f.node f.offset kind (visits-at size nodes x h lt) found.node.within (let t = found.to in omega (arith, t, within)) (on_span-in span kind f.offset found.from found.to) refl found.denied
    (λ i c k low in_size kinds r d. let s = on_span-some span kind k c kinds in
    found.least i c (met-all nodes x true i h.linked low (reached-all nodes x i)) s.0 s.1 (subst (λ (o : Kind). denies nodes (local_in nodes x) o i c ≡ true) (sym s.2) d))
    ∙ ap (λ (p : Perm). Some (Denied f.offset (node_at nodes f.node).tag p (local_in nodes x f.node))) (sym found.perm) ∙ ap (λ (l : Bool). Some (Denied f.offset (node_at nodes f.node).tag f.perm l)) (sym found.local_there))

-- what the eager access leaves where no node denies it
abbrev pub left_by : Tag → ℕ → List Node → ℕ → Kind → Span → Tree
left_by root size nodes x kind span =
    record { size = size; nodes = next_nodes (on_span span kind) (λ _. true) (links (eager_nodes nodes)) (node_at nodes x).tag (eager_nodes nodes) }

pub access-clean : (root : Tag) (size : ℕ) (nodes : List Node) (x : ℕ) (kind : Kind) (span : Span) → IsSound size nodes → x < length nodes → NoDenial nodes (local_in nodes x) kind span (IsMet nodes x true (length nodes)) →
    (let p : Option Violation × Tree = (None, left_by root size nodes x kind span) in p) ≡ access (eager_with root size nodes) (node_at nodes x).tag span kind
access-clean root size nodes x kind span h lt finds =
    ap (λ o. visit_unless o (next_nodes (on_span span kind) (λ _. true) (links (eager_nodes nodes)) (node_at nodes x).tag (eager_nodes nodes)) (record { size = size; nodes = eager_nodes nodes }))
    (sym (visit-silent size nodes x (local_in nodes x) (on_span span kind) (λ _. true) (visits-at size nodes x h lt)
    (λ i b k low in_size kinds r. let s = on_span-some span kind k b kinds in
    subst (λ (o : Kind). denies nodes (local_in nodes x) o i b ≡ false) s.2 (finds i b (met-all nodes x true i h.linked low (reached-all nodes x i)) s.0 s.1))))
    ∙ ap (λ t. access t (node_at nodes x).tag span kind) (sym (eager_with-some root size nodes (omega (arith, lt))))
