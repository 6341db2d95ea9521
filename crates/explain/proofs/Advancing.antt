-- One step of an allocation before its first violation: what it leaves is told by the entry alone.
use Rattle.std.proofs.Common.{◌≡◌, ℕ, zero, suc, ◌+◌, ◌≤◌, ◌==◌, ◌&&◌, ◌||◌, nat_le, not, is_some, Bool, true, false, if◌then◌else◌, IsTrue, Option, Some, None, MatchOption, List, [], ◌∷◌, ◌++◌, length, map, take, All, slice_get, get_or, ◌<◌, refl, sym, ap, subst, ◌∙◌, arith, length-append, length-take, length-take-le, length-drop}
use Rattle.std.specs.Option.{option_map}
use Rattle.std.proofs.lemmas.Bool.{ltb-false}
use Rattle.std.proofs.lemmas.Bool.Decides.{nat_tests}
use Rattle.std.proofs.lemmas.List.{length-replicate, length-map}
use Rattle.std.proofs.lemmas.List.Elements.{All-map, All-cons, All-nil}
use Rattle.bsan_ids.specs.declared.numbers.Tag.{Tag}
use Rattle.bsan_ids.specs.declared.numbers.Span.{Span}
use Rattle.bsan_ids.specs.declared.numbers.Prov.{Prov}
use Rattle.perm_table.specs.declared.Kind.{Kind}
use Rattle.perm_table.specs.declared.Kind.TheVariants.{Read, Write}
use Rattle.perm_table.specs.declared.Guard.{Guard}
use Rattle.perm_table.specs.declared.Perm.TheVariants.{Unique}
use Rattle.perm_table.specs.Table.{starting}
use Rattle.perm_table.specs.declared.RetagKind.{RetagKind}
use Rattle.ir_ast.specs.declared.operators.ModifyOp.{ModifyOp}
use Rattle.ir_ast.specs.declared.types.Ty.{Ty}
use Rattle.ir_ast.specs.declared.types.Ty.TheVariants.{Int, Ptr}
use Rattle.ir_ast.specs.declared.types.Width.{Width}
use Rattle.ir_ast.specs.declared.types.Width.TheVariants.{W8, W16, W32, W64}
use Rattle.ir_ast.specs.Words.{width_bytes, ty_bytes, bytes_of}
use Rattle.eager_tree.specs.declared.node.Node.{Node}
use Rattle.eager_tree.specs.declared.violation.Violation.{Violation}
use Rattle.eager_tree.specs.declared.violation.Violation.TheVariants.{Freed as WasFreed, OutOfRange}
use Rattle.eager_tree.specs.declared.sweep.Sweep.TheVariants.{Access as AccessSweep}
use Rattle.eager_tree.specs.Tree.{Tree, IsTree, has_tag, is_node, new_tree, links}
use Rattle.eager_tree.specs.Visit.{visit, visit_unless, first_denial, next_nodes}
use Rattle.eager_tree.specs.Steps.{access, retag, end_protector, with_node, new_node, unguarded, freed_guard, freed_unless, strong_free, on_span, implicit_kinds, is_no_descendant}
use Rattle.eager_tree.proofs.Trees.{IsTree-linked, IsTree-visited, links-freed, length-new_cells, grown}
use Rattle.history.specs.declared.trap.Trap.{Trap}
use Rattle.history.specs.declared.trap.Trap.TheVariants.{OutOfBounds, Freed, BadFree}
use Rattle.history.specs.declared.entry.Entry.{Entry}
use Rattle.history.specs.declared.entry.Reply.{Reply}
use Rattle.history.specs.declared.entry.Request.{Request}
use Rattle.history.specs.declared.entry.Request.TheVariants.{Make, Load, Store, Modify, CmpXchg, CopyOut, CopyIn, Retag, EndProtector, Free, Print, Host, Spawn, Join}
use Rattle.history.specs.declared.entry.Verdict.TheVariants.{Clean, Closed}
use Rattle.history.specs.Memory.{Memory, put, span_of, is_outside, trap_in, next_memory, with_word, word_at}
use Rattle.history.specs.Pieces.{Byte}
use Rattle.history.specs.Fragments.{next_shadow}
use Rattle.history.specs.Objects.{Object, Made, Judged, answer, data_unless, data_done, judged, judged_by, judged_through, node_through, retag_judged, end_judged, step_of, step_on, through, kind_of, plain_reply, violated, Reborrow, reborrow}
use Rattle.ir_ast.specs.Sizes.{most_size}
use Rattle.history.specs.Histories.{fits}
use Rattle.history.specs.Merge.{stamp_of}
use Rattle.history.specs.Records.{is_violation}
use Rattle.history.specs.Replies.{trap_of}
use Rattle.lazy_access.specs.declared.request.TreeRequest.{TreeRequest}
use Rattle.lazy_access.specs.declared.request.TreeRequest.TheVariants.{Access as AskAccess, Retag as AskRetag, EndProtector as AskEnd, FreeAll as AskFree}
use Rattle.lazy_access.specs.Ready.{Fits}
use Rattle.alloc_state.specs.Asking.{asks_on, asker, told}
use Rattle.explain.specs.Explanations.{is_free}
use Rattle.explain.specs.Replays.{Grown, grown_in, grown_of, advanced, asked, asked_by, tree_told, tag_of, traps, frees, is_done, IsAskable}

-- An allocation before its first violation: its tree isn't closed, and has a state for each byte.
pub record IsOpen (m : Made) : Type 0 where
  pub unclosed : m.closed ≡ false
  pub size : length m.memory.bytes ≡ m.tree.size
  pub tree : IsTree m.tree

abbrev pub StandsOpen : Option Made → Type 0
StandsOpen made = MatchOption made (Unit {0}) IsOpen

-- No step changes the number of bytes.

size-visit_unless : (found : Option Violation) (nodes : List Node) (t : Tree) → (visit_unless found nodes t).1.size ≡ t.size
size-visit_unless None nodes t = refl
size-visit_unless (Some violation) nodes t = refl

size-access : (t : Tree) (x : Tag) (span : Span) (kind : Kind) → (access t x span kind).1.size ≡ t.size
size-access t x span kind = size-visit_unless (first_denial (on_span span kind) (λ _. true) (links t.nodes) x t.size t.nodes) (next_nodes (on_span span kind) (λ _. true) (links t.nodes) x t.nodes) t

size-with_node : (node : Node) (r : Option Violation × Tree) → (with_node node r).1.size ≡ r.1.size
size-with_node node (None, t) = refl
size-with_node node (Some violation, t) = refl

size-unguarded : (x : Tag) (r : Option Violation × Tree) → (unguarded x r).1.size ≡ r.1.size
size-unguarded x (None, t) = refl
size-unguarded x (Some violation, t) = refl

size-freed_unless : (held : Option Violation) (t : Tree) (r : Option Violation × Tree) → r.1.size ≡ t.size → (freed_unless held t r).1.size ≡ t.size
size-freed_unless held t (Some violation, next) same = same
size-freed_unless None t (None, next) same = same
size-freed_unless (Some violation) t (None, next) same = refl

pub size-told : (t : Tree) (request : TreeRequest) (new : Tag) → (told t request new).1.size ≡ t.size
size-told t (AskAccess x span kind) new = size-access t x span kind
size-told t (AskRetag x span kind guard) new = size-with_node (new_node t.size x span kind guard new) (access t x span Read) ∙ size-access t x span Read
size-told t (AskEnd x) new =
    size-unguarded x (visit (implicit_kinds t.nodes x) (is_no_descendant (links t.nodes) x) x t)
    ∙ size-visit_unless (first_denial (implicit_kinds t.nodes x) (is_no_descendant (links t.nodes) x) (links t.nodes) x t.size t.nodes) (next_nodes (implicit_kinds t.nodes x) (is_no_descendant (links t.nodes) x) (links t.nodes) x t.nodes) t
size-told t (AskFree x) new =
    size-freed_unless (strong_free t) t (access t x (record { start = 0; len = t.size }) Write) (size-access t x (record { start = 0; len = t.size }) Write)

-- A tree stays one.

tree-unless : (found : Option Violation) (nodes : List Node) (t : Tree) → IsTree t → IsTree (record t { nodes = nodes }) → IsTree (visit_unless found nodes t).1
tree-unless None nodes t h g = g
tree-unless (Some violation) nodes t h g = h

tree-access : (t : Tree) (x : Tag) (span : Span) (kind : Kind) → IsTree t → IsTree (access t x span kind).1
tree-access t x span kind h =
    tree-unless (first_denial (on_span span kind) (λ _. true) (links t.nodes) x t.size t.nodes) (next_nodes (on_span span kind) (λ _. true) (links t.nodes) x t.nodes) t h
    (IsTree-visited (on_span span kind) (λ _. true) (links t.nodes) x t.size t.nodes h)

tree-with_node : (node : Node) (found : Option Violation) (nodes : List Node) (t : Tree) → IsTree t → IsTree (record t { nodes = nodes ++ node ∷ [] }) → IsTree (with_node node (visit_unless found nodes t)).1
tree-with_node node None nodes t h g = g
tree-with_node node (Some violation) nodes t h g = h

tree-unguarded : (x : Tag) (found : Option Violation) (nodes : List Node) (t : Tree) → IsTree t → IsTree (record t { nodes = map (freed_guard x) nodes }) → IsTree (unguarded x (visit_unless found nodes t)).1
tree-unguarded x None nodes t h g = g
tree-unguarded x (Some violation) nodes t h g = h

tree-freed_unless : (held : Option Violation) (t : Tree) (r : Option Violation × Tree) → IsTree t → IsTree r.1 → IsTree (freed_unless held t r).1
tree-freed_unless held t (Some violation, next) h g = g
tree-freed_unless None t (None, next) h g = g
tree-freed_unless (Some violation) t (None, next) h g = h

length-freed : (x : Tag) (node : Node) (b : Bool) → (node.tag.0 == x.0) ≡ b → length (freed_guard x node).cells ≡ length node.cells
length-freed x node true e = simp e refl
length-freed x node false e = simp e refl

tree-told : (t : Tree) (request : TreeRequest) (new : Tag) → IsTree t → IsTrue (is_node t (asker request)) → All (λ n. n.tag.0 < new.0) t.nodes → IsTree (told t request new).1
tree-told t (AskAccess x span kind) new h there newest = tree-access t x span kind h
tree-told t (AskRetag x span kind guard) new h there newest =
    let node : Node = new_node t.size x span kind guard new in
    let nodes : List Node = next_nodes (on_span span Read) (λ _. true) (links t.nodes) x t.nodes in
    tree-with_node node (first_denial (on_span span Read) (λ _. true) (links t.nodes) x t.size t.nodes) nodes t h
    (grown (AccessSweep span Read) x t.size t.nodes (nodes ++ node ∷ []) node h refl refl (length-new_cells (starting kind guard) span 0 t.size) there newest)
tree-told t (AskEnd x) new h there newest =
    let nodes : List Node = next_nodes (implicit_kinds t.nodes x) (is_no_descendant (links t.nodes) x) (links t.nodes) x t.nodes in
    let visited : IsTree (record t { nodes = nodes }) = IsTree-visited (implicit_kinds t.nodes x) (is_no_descendant (links t.nodes) x) (links t.nodes) x t.size t.nodes h in
    tree-unguarded x (first_denial (implicit_kinds t.nodes x) (is_no_descendant (links t.nodes) x) (links t.nodes) x t.size t.nodes) nodes t h
    (IsTree-linked t.size nodes (map (freed_guard x) nodes) visited (links-freed x nodes)
    (All-map (λ (n : Node). length n.cells ≡ t.size) (freed_guard x) nodes (λ k d lt. length-freed x (get_or nodes k d) ((get_or nodes k d).tag.0 == x.0) refl ∙ visited.sized k d lt)))
tree-told t (AskFree x) new h there newest =
    tree-freed_unless (strong_free t) t (access t x (record { start = 0; len = t.size }) Write) h (tree-access t x (record { start = 0; len = t.size }) Write h)

root_parents : (root : Tag) (k : ℕ) (l : Tag × Option Tag) → slice_get ((root, None) ∷ []) k ≡ Some l → MatchOption l.1 (k ≡ 0) (λ p. IsTrue (has_tag (take k ((root, None) ∷ [])) p))
root_parents root zero l e = let same : (root, None) ≡ l = cc in subst (λ (m : Tag × Option Tag). MatchOption m.1 (◌≡◌ {A = ℕ} 0 0) (λ p. IsTrue (has_tag [] p))) same refl
root_parents root (suc k) l e = cc

tree-new : (size : ℕ) (root : Tag) → 1 ≤ size → IsTree (new_tree size root)
tree-new size root some = record {
  some = some;
  planted = omega arith;
  sized = All-cons (λ (n : Node). length n.cells ≡ size) _ [] (length-replicate size (record { perm = Unique; accessed = true })) (All-nil (λ (n : Node). length n.cells ≡ size));
  linked = record { rising = λ k lt. absurd (omega arith); parents = root_parents root };
}

-- Plain memory, where it refuses nothing.

length_put : (at n : ℕ) (new xs : List ℕ) → length new ≡ n → at + n ≤ length xs → length (put at new xs) ≡ length xs
length_put at n new xs is within = grind (arith, length-append, length-take, length-take-le, length-drop)

length_bytes : (n value : ℕ) → length (bytes_of n value) ≡ n
length_bytes zero value = refl
length_bytes (suc n) value = ap suc (length_bytes n _)

within_unless : (live outside bad : Bool) → (if not live then Some Freed else if outside then Some OutOfBounds else if bad then Some BadFree else None) ≡ None → outside ≡ false
within_unless true true bad e = absurd (let no_trap : Some OutOfBounds ≡ None = e in cc)
within_unless true false bad e = refl
within_unless false outside bad e = absurd (let no_trap : Some Freed ≡ None = e in cc)

-- what a request that plain memory doesn't refuse reaches
within : (m : Memory) (span : Span) (bad : Bool) → (if not m.live then Some Freed else if is_outside (length m.bytes) span then Some OutOfBounds else if bad then Some BadFree else None) ≡ None → span.start + span.len ≤ length m.bytes
within m span bad e = ltb-false (length m.bytes) (span.start + span.len) (within_unless m.live (is_outside (length m.bytes) span) bad e)

one_width : (width : Width) → 1 ≤ width_bytes width
one_width W8 = omega arith
one_width W16 = omega arith
one_width W32 = omega arith
one_width W64 = omega arith

one_ty : (ty : Ty) → 1 ≤ ty_bytes ty
one_ty (Int width) = one_width width
one_ty Ptr = omega arith

le_of : (a b : ℕ) → nat_le a b ≡ true → a ≤ b
le_of a b e = grind (arith, nat_tests, e)

first_of_two : (a b : Bool) → (a && b) ≡ true → a ≡ true
first_of_two true b e = refl
first_of_two false b e = e

and_true : (b : Bool) → b ≡ (b && true)
and_true true = refl
and_true false = refl

-- The verdict.

no_violation : {A : Type 0} → true ≡ false → A
no_violation e = absurd (cc)

-- a verdict through a node that is no violation
record IsPassed (x : Option Tag) (j : Judged) (step : Tag → Option Violation × Tree) : Type 0 where
  node : Tag
  is : x ≡ Some node
  judged : j ≡ record { verdict = Clean; tree = (step node).1; closed = false }

passed_by : (r : Option Violation × Tree) → is_violation (judged_by r).verdict ≡ false → judged_by r ≡ record { verdict = Clean; tree = r.1; closed = false }
passed_by (None, next) clean = refl
passed_by (Some violation, next) clean = no_violation clean

passed : (t : Tree) (x : Option Tag) (step : Tag → Option Violation × Tree) → is_violation (judged_through t x step).verdict ≡ false → IsPassed x (judged_through t x step) step
passed t None step clean = no_violation clean
passed t (Some x) step clean = record { node = x; is = refl; judged = passed_by (step x) clean }

-- the node through which a provenance may use the allocation
record IsNode (number : ℕ) (t : Tree) (prov : Option Prov) (x : Tag) : Type 0 where
  pointer : Prov
  is : prov ≡ Some pointer
  tag : pointer.tag ≡ x
  there : IsTrue (is_node t x)

node_by : (t : Tree) (pointer : Prov) (x : Tag) (same there : Bool) → is_node t pointer.tag ≡ there → (if same && there then Some pointer.tag else None) ≡ Some x → (pointer.tag ≡ x) × IsTrue (is_node t x)
node_by t pointer x true true e is = let tag : pointer.tag ≡ x = cc in (tag, subst (λ (y : Tag). is_node t y ≡ true) tag e)
node_by t pointer x true false e is = absurd (let none : None ≡ Some x = is in cc)
node_by t pointer x false there e is = absurd (let none : None ≡ Some x = is in cc)

node_of : (number : ℕ) (t : Tree) (prov : Option Prov) (x : Tag) → node_through number t prov ≡ Some x → IsNode number t prov x
node_of number t None x is = absurd (let none : None ≡ Some x = is in cc)
node_of number t (Some pointer) x is =
    let h = node_by t pointer x (pointer.alloc.0 == number) (is_node t pointer.tag) refl is in
    record { pointer = pointer; is = refl; tag = h.0; there = h.1 }

-- What a step on a made allocation leaves, and what it asked of the tree.
record Left (m : Made) (e : Entry) (next : Object) : Type 0 where
  grown : grown_of next ≡ record { tree = Some (tree_told m.tree (tag_of e) (asked m.memory.live m.tree e)); live = m.memory.live && not (frees e) }
  opens : StandsOpen next.made
  asks : MatchOption (asked m.memory.live m.tree e) (Unit {0}) (IsAskable m.tree)

abbrev answered : Entry → Request → Reply → Entry
answered e r reply = record e { request = r; reply = reply }

-- a step that asked the tree
left : (m : Made) (e : Entry) (next : Object) (n : Made) (request : TreeRequest) → next.made ≡ Some n → n.tree ≡ (told m.tree request (tag_of e)).1 → n.memory.live ≡ (m.memory.live && not (frees e)) → n.closed ≡ false → length n.memory.bytes ≡ m.tree.size
    → asked m.memory.live m.tree e ≡ Some request → IsAskable m.tree request → IsTree m.tree → All (λ n. n.tag.0 < stamp_of e) m.tree.nodes → Left m e next
left m e next n request made tree live closed size is askable before newest = record {
  grown = ap grown_in made
      ∙ ap (λ (t : Tree). record { tree = Some t; live = n.memory.live }) (tree ∙ ap (λ (q : Option TreeRequest). tree_told m.tree (tag_of e) q) (sym is))
      ∙ ap (λ (b : Bool). record { tree = Some (tree_told m.tree (tag_of e) (asked m.memory.live m.tree e)); live = b }) live;
  opens = subst StandsOpen (sym made) (record {
    unclosed = closed;
    size = size ∙ sym (ap (λ (t : Tree). t.size) tree ∙ size-told m.tree request (tag_of e));
    tree = subst IsTree (sym tree) (tree-told m.tree request (tag_of e) before askable.node newest);
  });
  asks = subst (λ (q : Option TreeRequest). MatchOption q (Unit {0}) (IsAskable m.tree)) (sym is) askable;
}

asked_plain : (live : Bool) (t : Tree) (e : Entry) → traps e ≡ false → asked live t e ≡ asked_by live t e.request
asked_plain live t e h = ap (λ (b : Bool). if b then None else asked_by live t e.request) h

told_on : (t : Tree) (span : Option Span) (kind : Kind) (x new : Tag) → step_on span t kind x ≡ told t (asks_on span kind x) new
told_on t None kind x new = refl
told_on t (Some span) kind x new = refl

open_judged : (number : ℕ) (m : Made) (prov : Option Prov) (step : Tag → Option Violation × Tree) → m.closed ≡ false → judged number m prov step ≡ judged_through m.tree (node_through number m.tree prov) step
open_judged number m prov step h = ap (λ (b : Bool). if b then record { verdict = Closed; tree = m.tree; closed = true } else judged_through m.tree (node_through number m.tree prov) step) h

trapped_live : (live free : Bool) → live ≡ (live && not (free && false))
trapped_live true true = refl
trapped_live true false = refl
trapped_live false free = refl

-- what is known of a request for data
record IsData (m : Made) (r : Request) : Type 0 where
  asks : (live : Bool) → asked_by live m.tree r ≡ option_map (λ (p : Prov). asks_on (span_of r) (kind_of r) p.tag) (through r)
  plain : trap_of (plain_reply m r) ≡ None
  live : (next_memory m.memory r).live ≡ (m.memory.live && not (is_free r && is_done (plain_reply m r)))
  bytes : trap_in m.memory r ≡ None → length (next_memory m.memory r).bytes ≡ length m.memory.bytes
  fits : trap_in m.memory r ≡ None → (x : Tag) → Fits (length m.memory.bytes) (asks_on (span_of r) (kind_of r) x)

node_asks : (t : Tree) (span : Option Span) (kind : Kind) (x : Tag) → IsTrue (is_node t x) → IsTrue (is_node t (asker (asks_on span kind x)))
node_asks t None kind x there = there
node_asks t (Some span) kind x there = there

abbrev made_object : ℕ → Made → Object
made_object number m = record { number = number; made = Some m }

data_left : (number : ℕ) (m : Made) (e : Entry) (r : Request) (trap : Option Trap) → trap_in m.memory r ≡ trap → IsOpen m → All (λ n. n.tag.0 < stamp_of e) m.tree.nodes → IsData m r → is_violation (data_unless (made_object number m) m r trap).reply.verdict ≡ false
    → Left m (answered e r (data_unless (made_object number m) m r trap).reply) (data_unless (made_object number m) m r trap).object
data_left number m e r (Some trap) is opened newest facts clean = record {
  grown = ap (λ (b : Bool). record { tree = Some m.tree; live = b }) (trapped_live m.memory.live (is_free r));
  opens = opened;
  asks = tt;
}
data_left number m e r None is opened newest facts clean =
    let prov = through r in
    let step = step_of m.tree r in
    let j : Judged = judged number m prov step in
    let opening : j ≡ judged_through m.tree (node_through number m.tree prov) step = open_judged number m prov step opened.unclosed in
    let p = passed m.tree (node_through number m.tree prov) step (subst (λ (k : Judged). is_violation k.verdict ≡ false) opening clean) in
    let n = node_of number m.tree prov p.node p.is in
    let judge : j ≡ record { verdict = Clean; tree = (step p.node).1; closed = false } = opening ∙ p.judged in
    let f : Entry = answered e r (data_done (made_object number m) m r j).reply in
    let untrapped : traps f ≡ false = ap (λ (t : Option Trap). is_some t) facts.plain in
    let request : TreeRequest = asks_on (span_of r) (kind_of r) p.node in
    let asks : asked m.memory.live m.tree f ≡ Some request =
    asked_plain m.memory.live m.tree f untrapped ∙ facts.asks m.memory.live
    ∙ ap (λ (q : Option Prov). option_map (λ (w : Prov). asks_on (span_of r) (kind_of r) w.tag) q) n.is
    ∙ ap (λ (x : Tag). Some (asks_on (span_of r) (kind_of r) x)) n.tag in
    left m f (data_done (made_object number m) m r j).object
    (record { memory = next_memory m.memory r; shadow = next_shadow m.memory m.shadow r; tree = j.tree; closed = j.closed })
    request refl
    (ap (λ (k : Judged). k.tree) judge ∙ ap (λ (a : Option Violation × Tree). a.1) (told_on m.tree (span_of r) (kind_of r) p.node (tag_of e)))
    facts.live
    (ap (λ (k : Judged). k.closed) judge)
    (facts.bytes is ∙ opened.size)
    asks
    (record { node = node_asks m.tree (span_of r) (kind_of r) p.node n.there; fits = subst (λ (s : ℕ). Fits s request) opened.size (facts.fits is p.node) })
    opened.tree newest

-- Each request for data.

free_live : (live : Bool) → false ≡ (live && not true)
free_live true = refl
free_live false = refl

cas_live : (found : Bool) (m n : Memory) → n.live ≡ m.live → (if found then n else m).live ≡ m.live
cas_live true m n same = same
cas_live false m n same = refl

cas_bytes : (found : Bool) (m n : Memory) → length n.bytes ≡ length m.bytes → length (if found then n else m).bytes ≡ length m.bytes
cas_bytes true m n same = same
cas_bytes false m n same = refl

word_kept : (m : Memory) (at n value : ℕ) → at + n ≤ length m.bytes → length (put at (bytes_of n value) m.bytes) ≡ length m.bytes
word_kept m at n value fit = length_put at n (bytes_of n value) m.bytes (length_bytes n value) fit

abbrev span : ℕ → ℕ → Span
span at len = record { start = at; len = len }

load_data : (m : Made) (at : ℕ) (ty : Ty) (prov : Option Prov) → IsData m (Load at ty prov)
load_data m at ty prov = record {
  asks = λ live. refl;
  plain = refl;
  live = and_true m.memory.live;
  bytes = λ e. refl;
  fits = λ e x. (one_ty ty, within m.memory (span at (ty_bytes ty)) false e);
}

store_data : (m : Made) (at : ℕ) (ty : Ty) (value : ℕ) (carried prov : Option Prov) → IsData m (Store at ty value carried prov)
store_data m at ty value carried prov = record {
  asks = λ live. refl;
  plain = refl;
  live = and_true m.memory.live;
  bytes = λ e. word_kept m.memory at (ty_bytes ty) value (within m.memory (span at (ty_bytes ty)) false e);
  fits = λ e x. (one_ty ty, within m.memory (span at (ty_bytes ty)) false e);
}

modify_data : (m : Made) (at : ℕ) (width : Width) (op : ModifyOp) (value : ℕ) (prov : Option Prov) → IsData m (Modify at width op value prov)
modify_data m at width op value prov = record {
  asks = λ live. refl;
  plain = refl;
  live = and_true m.memory.live;
  bytes = λ e. word_kept m.memory at (width_bytes width) _ (within m.memory (span at (width_bytes width)) false e);
  fits = λ e x. (one_width width, within m.memory (span at (width_bytes width)) false e);
}

exchange_data : (m : Made) (at : ℕ) (width : Width) (expected value : ℕ) (prov : Option Prov) → IsData m (CmpXchg at width expected value prov)
exchange_data m at width expected value prov =
    let n : Memory = with_word m.memory at (width_bytes width) value in
    let found : Bool = word_at m.memory at (width_bytes width) == expected in
    record {
      asks = λ live. refl;
      plain = refl;
      live = cas_live found m.memory n refl ∙ and_true m.memory.live;
      bytes = λ e. cas_bytes found m.memory n (word_kept m.memory at (width_bytes width) value (within m.memory (span at (width_bytes width)) false e));
      fits = λ e x. (one_width width, within m.memory (span at (width_bytes width)) false e);
    }

out_data : (m : Made) (at len : ℕ) (prov : Option Prov) → IsTrue (fits (CopyOut at len prov)) → IsData m (CopyOut at len prov)
out_data m at len prov fit = record {
  asks = λ live. refl;
  plain = refl;
  live = and_true m.memory.live;
  bytes = λ e. refl;
  fits = λ e x. (le_of 1 len (first_of_two (nat_le 1 len) (nat_le len 32) fit), within m.memory (span at len) false e);
}

in_data : (m : Made) (at : ℕ) (piece : List Byte) (prov : Option Prov) → IsTrue (fits (CopyIn at piece prov)) → IsData m (CopyIn at piece prov)
in_data m at piece prov fit = record {
  asks = λ live. refl;
  plain = refl;
  live = and_true m.memory.live;
  bytes = λ e. length_put at (length piece) (map (λ (pair : Byte). pair.0) piece) m.memory.bytes (length-map piece (λ (pair : Byte). pair.0)) (within m.memory (span at (length piece)) false e);
  fits = λ e x. (le_of 1 (length piece) (first_of_two (nat_le 1 (length piece)) (nat_le (length piece) 32) fit), within m.memory (span at (length piece)) false e);
}

free_data : (m : Made) (at : ℕ) (stack : Bool) (prov : Option Prov) → IsData m (Free at stack prov)
free_data m at stack prov = record {
  asks = λ live. refl;
  plain = refl;
  live = free_live m.memory.live;
  bytes = λ e. refl;
  fits = λ e x. tt;
}

-- A reborrow, and the end of a protector.

unless_freed : (live outside : Bool) (t : Tree) (j : Judged) → is_violation (if not live then violated t WasFreed else if outside then violated t OutOfRange else j).verdict ≡ false
    → (outside ≡ false) × ((if not live then violated t WasFreed else if outside then violated t OutOfRange else j) ≡ j)
unless_freed true true t j clean = no_violation clean
unless_freed true false t j clean = (refl, refl)
unless_freed false outside t j clean = no_violation clean

retag_open : (number : ℕ) (m : Made) (r : Reborrow) (stamp : ℕ) → m.closed ≡ false
    → retag_judged number m r stamp
    ≡ (if not m.memory.live then violated m.tree WasFreed else if is_outside (length m.memory.bytes) r.span then violated m.tree OutOfRange else judged number m r.prov (λ x. retag m.tree x r.span r.kind r.guard (record { 0 = stamp })))
retag_open number m r stamp h =
    ap (λ (b : Bool). if b then record { verdict = Closed; tree = m.tree; closed = true }
    else if not m.memory.live then violated m.tree WasFreed else if is_outside (length m.memory.bytes) r.span then violated m.tree OutOfRange else judged number m r.prov (λ x. retag m.tree x r.span r.kind r.guard (record { 0 = stamp }))) h

retag_left : (number : ℕ) (m : Made) (e : Entry) (at len : ℕ) (kind : RetagKind) (guard : Guard) (prov : Option Prov) → IsOpen m → All (λ n. n.tag.0 < stamp_of e) m.tree.nodes → IsTrue (fits (Retag at len kind guard prov))
    → is_violation (answer (made_object number m) (Retag at len kind guard prov) e.stamp).reply.verdict ≡ false
    → Left m (answered e (Retag at len kind guard prov) (answer (made_object number m) (Retag at len kind guard prov) e.stamp).reply) (answer (made_object number m) (Retag at len kind guard prov) e.stamp).object
retag_left number m e at len kind guard prov opened newest fit clean =
    let r : Request = Retag at len kind guard prov in
    let b : Reborrow = reborrow at len kind guard prov in
    let step : Tag → Option Violation × Tree = λ x. retag m.tree x (span at len) kind guard (tag_of e) in
    let j : Judged = retag_judged number m b e.stamp.0 in
    let last : Judged = judged number m prov step in
    let first = retag_open number m b e.stamp.0 opened.unclosed in
    let u = unless_freed m.memory.live (is_outside (length m.memory.bytes) (span at len)) m.tree last (subst (λ (k : Judged). is_violation k.verdict ≡ false) first clean) in
    let opening : j ≡ judged_through m.tree (node_through number m.tree prov) step = first ∙ u.1 ∙ open_judged number m prov step opened.unclosed in
    let p = passed m.tree (node_through number m.tree prov) step (subst (λ (k : Judged). is_violation k.verdict ≡ false) opening clean) in
    let n = node_of number m.tree prov p.node p.is in
    let judge : j ≡ record { verdict = Clean; tree = (step p.node).1; closed = false } = opening ∙ p.judged in
    let f : Entry = answered e r (answer (made_object number m) r e.stamp).reply in
    let request : TreeRequest = AskRetag p.node (span at len) kind guard in
    let asks : asked m.memory.live m.tree f ≡ Some request =
    ap (λ (q : Option Prov). option_map (λ (w : Prov). AskRetag w.tag (span at len) kind guard) q) n.is
    ∙ ap (λ (x : Tag). Some (AskRetag x (span at len) kind guard)) n.tag in
    let fit_size : at + len ≤ m.tree.size = omega (arith, opened.size, ltb-false (length m.memory.bytes) (at + len) u.0) in
    left m f (answer (made_object number m) r e.stamp).object
    (record m { tree = j.tree; closed = j.closed })
    request refl
    (ap (λ (k : Judged). k.tree) judge)
    (and_true m.memory.live)
    (ap (λ (k : Judged). k.closed) judge)
    opened.size
    asks
    (record { node = n.there; fits = (le_of 1 len fit, fit_size) })
    opened.tree newest

-- the end of a protector asks the tree where the allocation is live and the node is there
record IsEnded (t : Tree) (new : Tag) (j : Judged) (asks : Option TreeRequest) : Type 0 where
  judged : j ≡ record { verdict = Clean; tree = tree_told t new asks; closed = false }
  askable : MatchOption asks (Unit {0}) (IsAskable t)

ended : (t : Tree) (x new : Tag) (live there : Bool) → is_node t x ≡ there → is_violation (if not live || not there then record { verdict = Clean; tree = t; closed = false } else judged_by (end_protector t x)).verdict ≡ false
    → IsEnded t new (if not live || not there then record { verdict = Clean; tree = t; closed = false } else judged_by (end_protector t x)) (if live && there then Some (AskEnd x) else None)
ended t x new true true is clean = record { judged = passed_by (end_protector t x) clean; askable = record { node = is; fits = tt } }
ended t x new true false is clean = record { judged = refl; askable = tt }
ended t x new false there is clean = record { judged = refl; askable = tt }

end_open : (m : Made) (x : Tag) → m.closed ≡ false → end_judged m x ≡ (if not m.memory.live || not (is_node m.tree x) then record { verdict = Clean; tree = m.tree; closed = false } else judged_by (end_protector m.tree x))
end_open m x h = ap (λ (b : Bool). if b then record { verdict = Closed; tree = m.tree; closed = true } else if not m.memory.live || not (is_node m.tree x) then record { verdict = Clean; tree = m.tree; closed = false } else judged_by (end_protector m.tree x)) h

size-tree_told : (t : Tree) (new : Tag) (request : Option TreeRequest) → (tree_told t new request).size ≡ t.size
size-tree_told t new None = refl
size-tree_told t new (Some request) = size-told t request new

tree-tree_told : (t : Tree) (new : Tag) (request : Option TreeRequest) → MatchOption request (Unit {0}) (IsAskable t) → IsTree t → All (λ n. n.tag.0 < new.0) t.nodes → IsTree (tree_told t new request)
tree-tree_told t new None askable h newest = h
tree-tree_told t new (Some request) askable h newest = tree-told t request new h askable.node newest

end_left : (number : ℕ) (m : Made) (e : Entry) (x : Tag) → IsOpen m → All (λ n. n.tag.0 < stamp_of e) m.tree.nodes → is_violation (answer (made_object number m) (EndProtector x) e.stamp).reply.verdict ≡ false
    → Left m (answered e (EndProtector x) (answer (made_object number m) (EndProtector x) e.stamp).reply) (answer (made_object number m) (EndProtector x) e.stamp).object
end_left number m e x opened newest clean =
    let j : Judged = end_judged m x in
    let first = end_open m x opened.unclosed in
    let asks : Option TreeRequest = if m.memory.live && is_node m.tree x then Some (AskEnd x) else None in
    let h = ended m.tree x (tag_of e) m.memory.live (is_node m.tree x) refl (subst (λ (k : Judged). is_violation k.verdict ≡ false) first clean) in
    let judge : j ≡ record { verdict = Clean; tree = tree_told m.tree (tag_of e) asks; closed = false } = first ∙ h.judged in
    record {
      grown = ap (λ (t : Tree). record { tree = Some t; live = m.memory.live }) (ap (λ (k : Judged). k.tree) judge)
          ∙ ap (λ (b : Bool). record { tree = Some (tree_told m.tree (tag_of e) asks); live = b }) (and_true m.memory.live);
      opens = record {
        unclosed = ap (λ (k : Judged). k.closed) judge;
        size = opened.size ∙ sym (ap (λ (k : Judged). k.tree.size) judge ∙ size-tree_told m.tree (tag_of e) asks);
        tree = subst IsTree (sym (ap (λ (k : Judged). k.tree) judge)) (tree-tree_told m.tree (tag_of e) asks h.askable opened.tree newest);
      };
      asks = h.askable;
    }

-- What a step leaves, on an allocation that may not be made yet.
pub record Steps (g : Grown) (e : Entry) (next : Object) : Type 0 where
  pub grown : grown_of next ≡ advanced g e
  pub opens : StandsOpen next.made
  pub asks : MatchOption g.tree (Unit {0}) (λ t. MatchOption (asked g.live t e) (Unit {0}) (IsAskable t))

abbrev StepsAt : ℕ → Option Made → Entry → Request → Type 0
StepsAt number made e r =
    Steps (grown_in made) (answered e r (answer (record { number = number; made = made }) r e.stamp).reply) (answer (record { number = number; made = made }) r e.stamp).object

abbrev IsCleanAt : ℕ → Option Made → Entry → Request → Type 0
IsCleanAt number made e r = is_violation (answer (record { number = number; made = made }) r e.stamp).reply.verdict ≡ false

unfit : {A : Type 0} → false ≡ true → A
unfit e = absurd (cc)

abbrev pub IsNewest : Entry → Option Made → Type 0
IsNewest e made = MatchOption made (Unit {0}) (λ m. All (λ n. n.tag.0 < stamp_of e) m.tree.nodes)

steps_at : (number : ℕ) (made : Option Made) (e : Entry) (r : Request) → StandsOpen made → IsNewest e made → IsTrue (fits r) → IsCleanAt number made e r → StepsAt number made e r
steps_at number made e (Make size place) opened newest fit clean = record {
  grown = refl;
  opens = record { unclosed = refl; size = length-replicate size 0; tree = tree-new size (tag_of e) (le_of 1 size (first_of_two (nat_le 1 size) (nat_le size most_size) fit)) };
  asks = option_none made;
}
  where
    option_none : (m : Option Made) → MatchOption (grown_in m).tree (Unit {0}) (λ t. Unit {0})
    option_none None = tt
    option_none (Some m) = tt
steps_at number None e (Retag at len kind guard prov) opened newest fit clean = record { grown = refl; opens = tt; asks = tt }
steps_at number None e (EndProtector x) opened newest fit clean = record { grown = refl; opens = tt; asks = tt }
steps_at number None e (Load at ty prov) opened newest fit clean = record { grown = refl; opens = tt; asks = tt }
steps_at number None e (Store at ty value carried prov) opened newest fit clean = record { grown = refl; opens = tt; asks = tt }
steps_at number None e (Modify at width op value prov) opened newest fit clean = record { grown = refl; opens = tt; asks = tt }
steps_at number None e (CmpXchg at width expected value prov) opened newest fit clean = record { grown = refl; opens = tt; asks = tt }
steps_at number None e (CopyOut at len prov) opened newest fit clean = record { grown = refl; opens = tt; asks = tt }
steps_at number None e (CopyIn at piece prov) opened newest fit clean = record { grown = refl; opens = tt; asks = tt }
steps_at number None e (Free at stack prov) opened newest fit clean = record { grown = refl; opens = tt; asks = tt }
steps_at number (Some m) e (Retag at len kind guard prov) opened newest fit clean =
    let l = retag_left number m e at len kind guard prov opened newest fit clean in record { grown = l.grown; opens = l.opens; asks = l.asks }
steps_at number (Some m) e (EndProtector x) opened newest fit clean =
    let l = end_left number m e x opened newest clean in record { grown = l.grown; opens = l.opens; asks = l.asks }
steps_at number (Some m) e (Load at ty prov) opened newest fit clean =
    let l = data_left number m e (Load at ty prov) (trap_in m.memory (Load at ty prov)) refl opened newest (load_data m at ty prov) clean in record { grown = l.grown; opens = l.opens; asks = l.asks }
steps_at number (Some m) e (Store at ty value carried prov) opened newest fit clean =
    let l = data_left number m e (Store at ty value carried prov) (trap_in m.memory (Store at ty value carried prov)) refl opened newest (store_data m at ty value carried prov) clean in record { grown = l.grown; opens = l.opens; asks = l.asks }
steps_at number (Some m) e (Modify at width op value prov) opened newest fit clean =
    let l = data_left number m e (Modify at width op value prov) (trap_in m.memory (Modify at width op value prov)) refl opened newest (modify_data m at width op value prov) clean in record { grown = l.grown; opens = l.opens; asks = l.asks }
steps_at number (Some m) e (CmpXchg at width expected value prov) opened newest fit clean =
    let l = data_left number m e (CmpXchg at width expected value prov) (trap_in m.memory (CmpXchg at width expected value prov)) refl opened newest (exchange_data m at width expected value prov) clean in record { grown = l.grown; opens = l.opens; asks = l.asks }
steps_at number (Some m) e (CopyOut at len prov) opened newest fit clean =
    let l = data_left number m e (CopyOut at len prov) (trap_in m.memory (CopyOut at len prov)) refl opened newest (out_data m at len prov fit) clean in record { grown = l.grown; opens = l.opens; asks = l.asks }
steps_at number (Some m) e (CopyIn at piece prov) opened newest fit clean =
    let l = data_left number m e (CopyIn at piece prov) (trap_in m.memory (CopyIn at piece prov)) refl opened newest (in_data m at piece prov fit) clean in record { grown = l.grown; opens = l.opens; asks = l.asks }
steps_at number (Some m) e (Free at stack prov) opened newest fit clean =
    let l = data_left number m e (Free at stack prov) (trap_in m.memory (Free at stack prov)) refl opened newest (free_data m at stack prov) clean in record { grown = l.grown; opens = l.opens; asks = l.asks }
steps_at number made e (Print value) opened newest fit clean = unfit fit
steps_at number made e (Host n first second) opened newest fit clean = unfit fit
steps_at number made e (Spawn function) opened newest fit clean = unfit fit
steps_at number made e (Join child) opened newest fit clean = unfit fit

-- a step of a legal history that is no violation
pub steps : (o : Object) (e : Entry) → StandsOpen o.made → IsNewest e o.made → IsTrue (fits e.request) → e.reply ≡ (answer o e.request e.stamp).reply → is_violation e.reply.verdict ≡ false → Steps (grown_of o) e (answer o e.request e.stamp).object
steps o e opened newest fit is clean =
    subst (λ (p : Reply). Steps (grown_of o) (answered e e.request p) (answer o e.request e.stamp).object) (sym is)
    (steps_at o.number o.made e e.request opened newest fit (subst (λ (p : Reply). is_violation p.verdict ≡ false) is clean))
