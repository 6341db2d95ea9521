-- The tags of an allocation's tree stay below a bound that is above each request's stamp.
use Rattle.std.proofs.Common.{◌≡◌, ℕ, ◌<◌, Bool, true, false, List, [], ◌∷◌, All, Option, Some, None, refl, length, ◌==◌, get_or, arith, if◌then◌else◌, not, ◌||◌}
use Rattle.std.proofs.lemmas.List.Elements.{All-map, All-append, All-cons, All-nil, All-tail}
use Rattle.bsan_ids.specs.declared.numbers.Tag.{Tag}
use Rattle.bsan_ids.specs.declared.numbers.Span.{Span}
use Rattle.bsan_ids.specs.declared.numbers.Stamp.{Stamp}
use Rattle.bsan_ids.specs.declared.numbers.Prov.{Prov}
use Rattle.perm_table.specs.declared.Kind.{Kind}
use Rattle.perm_table.specs.declared.Kind.TheVariants.{Read, Write}
use Rattle.perm_table.specs.declared.RetagKind.{RetagKind}
use Rattle.perm_table.specs.declared.Guard.{Guard}
use Rattle.eager_tree.specs.declared.node.Node.{Node}
use Rattle.eager_tree.specs.declared.violation.Violation.{Violation}
use Rattle.eager_tree.specs.declared.violation.Violation.TheVariants.{Freed as WasFreed, OutOfRange}
use Rattle.eager_tree.specs.Tree.{Tree, Links, links, is_node}
use Rattle.eager_tree.specs.Visit.{visit, visit_unless, first_denial, next_nodes, next_by}
use Rattle.eager_tree.specs.Steps.{access, retag, end_protector, free_all, with_node, new_node, unguarded, freed_unless, freed_guard, strong_free, implicit_kinds, is_no_descendant, on_span}
use Rattle.eager_tree.proofs.Nodes.{links-next_by}
use Rattle.history.specs.declared.trap.Trap.{Trap}
use Rattle.history.specs.declared.entry.Entry.{Entry}
use Rattle.history.specs.declared.entry.Request.{Request}
use Rattle.history.specs.declared.entry.Request.TheVariants.{Make, Load, Store, Modify, CmpXchg, CopyOut, CopyIn, Retag, EndProtector, Free, Print, Host, Spawn, Join}
use Rattle.history.specs.declared.entry.Verdict.TheVariants.{Clean, Closed}
use Rattle.history.specs.Memory.{trap_in, is_outside, span_of}
use Rattle.history.specs.Objects.{Object, Made, Judged, answer, data_answer, data_unless, judged, judged_by, judged_through, node_through, step_of, step_on, violated, retag_judged, end_judged, through, kind_of, reborrow}
use Rattle.history.specs.Histories.{replay}
use Rattle.alloc_state.specs.Prepared.{AreBelow}

abbrev NodesBelow : ℕ → List Node → Type 0
NodesBelow bound nodes = All (λ (n : Node). n.tag.0 < bound) nodes

next_nodes_below : (kinds : ℕ → Option Kind) (reaches : Tag → Bool) (ls : Links) (x : Tag) (nodes : List Node) (bound : ℕ) → NodesBelow bound nodes → NodesBelow bound (next_nodes kinds reaches ls x nodes)
next_nodes_below kinds reaches ls x nodes bound h =
    All-map (λ (n : Node). n.tag.0 < bound) (next_by kinds reaches ls x) nodes (λ k d lt. rw ((links-next_by kinds reaches ls x (get_or nodes k d)).0) (h k d lt))

visit_unless_below : (found : Option Violation) (nodes : List Node) (t : Tree) (bound : ℕ) → NodesBelow bound nodes → NodesBelow bound t.nodes → NodesBelow bound (visit_unless found nodes t).1.nodes
visit_unless_below None nodes t bound h g = h
visit_unless_below (Some violation) nodes t bound h g = g

visit_below : (kinds : ℕ → Option Kind) (reaches : Tag → Bool) (x : Tag) (t : Tree) (bound : ℕ) → NodesBelow bound t.nodes → NodesBelow bound (visit kinds reaches x t).1.nodes
visit_below kinds reaches x t bound h =
    visit_unless_below (first_denial kinds reaches (links t.nodes) x t.size t.nodes) (next_nodes kinds reaches (links t.nodes) x t.nodes) t bound
    (next_nodes_below kinds reaches (links t.nodes) x t.nodes bound h) h

access_below : (t : Tree) (x : Tag) (span : Span) (kind : Kind) (bound : ℕ) → NodesBelow bound t.nodes → NodesBelow bound (access t x span kind).1.nodes
access_below t x span kind bound h = visit_below (on_span span kind) (λ _. true) x t bound h

with_node_below : (node : Node) (r : Option Violation × Tree) (bound : ℕ) → node.tag.0 < bound → NodesBelow bound r.1.nodes → NodesBelow bound (with_node node r).1.nodes
with_node_below node (None, t) bound lt h = All-append (λ (n : Node). n.tag.0 < bound) t.nodes (node ∷ []) h (All-cons (λ (n : Node). n.tag.0 < bound) node [] lt (All-nil (λ (n : Node). n.tag.0 < bound)))
with_node_below node (Some violation, t) bound lt h = h

freed_tag : (x : Tag) (node : Node) (b : Bool) → (node.tag.0 == x.0) ≡ b → (freed_guard x node).tag ≡ node.tag
freed_tag x node true e = simp e refl
freed_tag x node false e = simp e refl

unguarded_below : (x : Tag) (r : Option Violation × Tree) (bound : ℕ) → NodesBelow bound r.1.nodes → NodesBelow bound (unguarded x r).1.nodes
unguarded_below x (None, t) bound h =
    All-map (λ (n : Node). n.tag.0 < bound) (freed_guard x) t.nodes (λ k d lt. rw (freed_tag x (get_or t.nodes k d) ((get_or t.nodes k d).tag.0 == x.0) refl) (h k d lt))
unguarded_below x (Some violation, t) bound h = h

freed_unless_below : (held : Option Violation) (t : Tree) (r : Option Violation × Tree) (bound : ℕ) → NodesBelow bound t.nodes → NodesBelow bound r.1.nodes → NodesBelow bound (freed_unless held t r).1.nodes
freed_unless_below held t (Some violation, next) bound h g = g
freed_unless_below None t (None, next) bound h g = g
freed_unless_below (Some violation) t (None, next) bound h g = h

free_all_below : (t : Tree) (x : Tag) (bound : ℕ) → NodesBelow bound t.nodes → NodesBelow bound (free_all t x).1.nodes
free_all_below t x bound h =
    freed_unless_below (strong_free t) t (access t x (record { start = 0; len = t.size }) Write) bound h (access_below t x (record { start = 0; len = t.size }) Write bound h)

judged_by_below : (r : Option Violation × Tree) (bound : ℕ) → NodesBelow bound r.1.nodes → NodesBelow bound (judged_by r).tree.nodes
judged_by_below (None, t) bound h = h
judged_by_below (Some violation, t) bound h = h

either_below : (b : Bool) (j k : Judged) (bound : ℕ) → NodesBelow bound j.tree.nodes → NodesBelow bound k.tree.nodes → NodesBelow bound (if b then j else k).tree.nodes
either_below true j k bound h g = h
either_below false j k bound h g = g

judged_through_below : (t : Tree) (x : Option Tag) (step : Tag → Option Violation × Tree) (bound : ℕ) → NodesBelow bound t.nodes → ((x : Tag) → NodesBelow bound (step x).1.nodes) → NodesBelow bound (judged_through t x step).tree.nodes
judged_through_below t None step bound h g = h
judged_through_below t (Some x) step bound h g = judged_by_below (step x) bound (g x)

judged_below : (number : ℕ) (m : Made) (prov : Option Prov) (step : Tag → Option Violation × Tree) (bound : ℕ) → NodesBelow bound m.tree.nodes → ((x : Tag) → NodesBelow bound (step x).1.nodes) → NodesBelow bound (judged number m prov step).tree.nodes
judged_below number m prov step bound h g =
    either_below m.closed (record { verdict = Closed; tree = m.tree; closed = true }) (judged_through m.tree (node_through number m.tree prov) step) bound h
    (judged_through_below m.tree (node_through number m.tree prov) step bound h g)

-- an access on a span, a free where there is none
step_on_below : (span : Option Span) (t : Tree) (kind : Kind) (x : Tag) (bound : ℕ) → NodesBelow bound t.nodes → NodesBelow bound (step_on span t kind x).1.nodes
step_on_below None t kind x bound h = free_all_below t x bound h
step_on_below (Some span) t kind x bound h = access_below t x span kind bound h

data_below : (number : ℕ) (m : Made) (request : Request) (trap : Option Trap) (bound : ℕ) → NodesBelow bound m.tree.nodes → AreBelow bound (data_unless (record { number = number; made = Some m }) m request trap).object
data_below number m request (Some trap) bound h = h
data_below number m request None bound h =
    judged_below number m (through request) (step_of m.tree request) bound h (λ x. step_on_below (span_of request) m.tree (kind_of request) x bound h)

data_stays : (number : ℕ) (made : Option Made) (request : Request) (bound : ℕ) → AreBelow bound (record { number = number; made = made }) → AreBelow bound (data_answer (record { number = number; made = made }) made request).object
data_stays number None request bound h = h
data_stays number (Some m) request bound h = data_below number m request (trap_in m.memory request) bound h

retag_below : (number : ℕ) (m : Made) (at len : ℕ) (kind : RetagKind) (guard : Guard) (prov : Option Prov) (stamp bound : ℕ) → stamp < bound → NodesBelow bound m.tree.nodes → NodesBelow bound (retag_judged number m (reborrow at len kind guard prov) stamp).tree.nodes
retag_below number m at len kind guard prov stamp bound lt h =
    let span : Span = record { start = at; len = len } in
    let step : Tag → Option Violation × Tree = λ (x : Tag). retag m.tree x span kind guard (record { 0 = stamp }) in
    let last : Judged = judged number m prov step in
    let ranged : Judged = if is_outside (length m.memory.bytes) span then violated m.tree OutOfRange else last in
    let lived : Judged = if not m.memory.live then violated m.tree WasFreed else ranged in
    either_below m.closed (record { verdict = Closed; tree = m.tree; closed = true }) lived bound h
    (either_below (not m.memory.live) (violated m.tree WasFreed) ranged bound h
    (either_below (is_outside (length m.memory.bytes) span) (violated m.tree OutOfRange) last bound h
    (judged_below number m prov step bound h
    (λ x. with_node_below (new_node m.tree.size x span kind guard (record { 0 = stamp })) (access m.tree x span Read) bound lt (access_below m.tree x span Read bound h)))))

end_below : (m : Made) (x : Tag) (bound : ℕ) → NodesBelow bound m.tree.nodes → NodesBelow bound (end_judged m x).tree.nodes
end_below m x bound h =
    let last : Judged = judged_by (end_protector m.tree x) in
    let quiet : Judged = record { verdict = Clean; tree = m.tree; closed = false } in
    either_below m.closed (record { verdict = Closed; tree = m.tree; closed = true }) (if not m.memory.live || not (is_node m.tree x) then quiet else last) bound h
    (either_below (not m.memory.live || not (is_node m.tree x)) quiet last bound h
    (judged_by_below (end_protector m.tree x) bound
    (unguarded_below x (visit (implicit_kinds m.tree.nodes x) (is_no_descendant (links m.tree.nodes) x) x m.tree) bound
    (visit_below (implicit_kinds m.tree.nodes x) (is_no_descendant (links m.tree.nodes) x) x m.tree bound h))))

-- every request keeps the tags below a bound that is above its stamp
pub AreBelow-answer : (number : ℕ) (made : Option Made) (request : Request) (stamp : Stamp) (bound : ℕ) → stamp.0 < bound → AreBelow bound (record { number = number; made = made }) → AreBelow bound (answer (record { number = number; made = made }) request stamp).object
AreBelow-answer number made (Make size place) stamp bound lt h = All-cons (λ (n : Node). n.tag.0 < bound) _ [] lt (All-nil (λ (n : Node). n.tag.0 < bound))
AreBelow-answer number None (Retag at len kind guard prov) stamp bound lt h = h
AreBelow-answer number (Some m) (Retag at len kind guard prov) stamp bound lt h = retag_below number m at len kind guard prov stamp.0 bound lt h
AreBelow-answer number None (EndProtector tag) stamp bound lt h = h
AreBelow-answer number (Some m) (EndProtector tag) stamp bound lt h = end_below m tag bound h
AreBelow-answer number made (Load at ty prov) stamp bound lt h = data_stays number made (Load at ty prov) bound h
AreBelow-answer number made (Store at ty value carried prov) stamp bound lt h = data_stays number made (Store at ty value carried prov) bound h
AreBelow-answer number made (Modify at width op value prov) stamp bound lt h = data_stays number made (Modify at width op value prov) bound h
AreBelow-answer number made (CmpXchg at width expected value prov) stamp bound lt h = data_stays number made (CmpXchg at width expected value prov) bound h
AreBelow-answer number made (CopyOut at len prov) stamp bound lt h = data_stays number made (CopyOut at len prov) bound h
AreBelow-answer number made (CopyIn at piece prov) stamp bound lt h = data_stays number made (CopyIn at piece prov) bound h
AreBelow-answer number made (Free at stack prov) stamp bound lt h = data_stays number made (Free at stack prov) bound h
AreBelow-answer number made (Print value) stamp bound lt h = data_stays number made (Print value) bound h
AreBelow-answer number made (Host n first second) stamp bound lt h = data_stays number made (Host n first second) bound h
AreBelow-answer number made (Spawn function) stamp bound lt h = data_stays number made (Spawn function) bound h
AreBelow-answer number made (Join child) stamp bound lt h = data_stays number made (Join child) bound h

pub AreBelow-replay : (o : Object) (entries : List Entry) (bound : ℕ) → All (λ (e : Entry). e.stamp.0 < bound) entries → AreBelow bound o → AreBelow bound (replay o entries)
AreBelow-replay o [] bound later h = h
AreBelow-replay o (e ∷ entries) bound later h =
    AreBelow-replay (answer o e.request e.stamp).object entries bound (All-tail (λ (x : Entry). x.stamp.0 < bound) e entries later)
    (AreBelow-answer o.number o.made e.request e.stamp bound (later 0 e (omega arith)) h)
