-- A stored tree whose nodes change.
use Rattle.std.proofs.Common.{◌≡◌, ◌⊎◌, inl, inr, ℕ, suc, ◌+◌, ◌-◌, ◌<◌, ◌≤◌, ◌==◌, cond, Bool, true, false, List, [], ◌∷◌, ◌++◌, All, IsTrue, IfSome, None, length, set, get_or, get_or-set_same, get_or-set_other, refl, sym, ap, subst, ◌∙◌, arith}
use Rattle.std.proofs.lemmas.Bool.{cases_eq, ne_eqb}
use Rattle.std.proofs.lemmas.List.{length-set, length-append, get_or_default}
use Rattle.std.proofs.Math.ListN.{get_or-append}
use Rattle.std.proofs.Math.Seq.{get_or-append_seam}
use Rattle.range_map.specs.Ranges.{Ranges}
use Rattle.dated_tree.specs.declared.node.Slot.{Slot}
use Rattle.dated_tree.specs.declared.node.Node.{Node}
use Rattle.dated_tree.specs.Shape.{Shape, Room, node_at, no_node, with_parent}
use Rattle.dated_tree.specs.Adding.{with_guarded, with_node}
use Rattle.dated_tree.specs.Eager.{tag_at}
use Rattle.dated_tree.specs.Stored.{AreStored, IsStored}

-- the node at a place, where one has changed
pub node-set : (nodes : List Node) (i place : ℕ) (node : Node) → i < length nodes → ((place - 1 ≡ i) × (node_at (set nodes i node) place ≡ node)) ⊎ (node_at (set nodes i node) place ≡ node_at nodes place)
node-set nodes i place node lt =
    elim (cases_eq (place - 1) i) [
      | inl same ↦ inl (same, ap (λ k. get_or (set nodes i node) k no_node) same ∙ get_or-set_same nodes i node no_node lt)
      | inr other ↦ inr (get_or-set_other nodes i (place - 1) node no_node other)
    ]

-- what the new node has of the old one, each place keeps
pub part-kept : {A : Type 0} (f : Node → A) (nodes : List Node) (i place : ℕ) (node : Node) → i < length nodes → f node ≡ f (get_or nodes i no_node) → f (node_at (set nodes i node) place) ≡ f (node_at nodes place)
part-kept f nodes i place node lt e =
    elim (node-set nodes i place node lt) [
      | inl here ↦ ap f here.1 ∙ e ∙ ap (λ k. f (get_or nodes k no_node)) (sym here.0)
      | inr other ↦ ap f other
    ]

-- what a step leaves of a node in the midst of which it is
pub record IsAlike (was is : Node) : Type 0 where
  pub tag : is.tag ≡ was.tag
  pub parent : is.parent ≡ was.parent
  pub child : is.has_child ≡ was.has_child
  pub sized : length is.runs.bytes ≡ length was.runs.bytes

pub alike-set : (nodes : List Node) (i : ℕ) (node : Node) → i < length nodes → IsAlike (get_or nodes i no_node) node → (place : ℕ) → IsAlike (node_at nodes place) (node_at (set nodes i node) place)
alike-set nodes i node lt a place = record {
  tag = part-kept (λ (n : Node). n.tag) nodes i place node lt a.tag;
  parent = part-kept (λ (n : Node). n.parent) nodes i place node lt a.parent;
  child = part-kept (λ (n : Node). n.has_child) nodes i place node lt a.child;
  sized = part-kept (λ (n : Node). length n.runs.bytes) nodes i place node lt a.sized;
}

nodes-alike : (size : ℕ) (was is : List Node) → AreStored size was → length is ≡ length was → ((place : ℕ) → IsAlike (node_at was place) (node_at is place)) → AreStored size is
nodes-alike size was is h count alike = record {
  parent = λ place some stored. (let p = h.parent place some (omega (arith, stored, count)) in let e = (alike place).parent in omega (arith, p, e));
  sized = λ place some stored. (alike place).sized ∙ h.sized place some (omega (arith, stored, count));
}

-- a tree whose nodes are alike, with maps of the same length
pub stored-alike : (t u : Shape) → IsStored t → u.root ≡ t.root → u.size ≡ t.size → length u.accesses.bytes ≡ length t.accesses.bytes → length u.writes.bytes ≡ length t.writes.bytes → length u.nodes ≡ length t.nodes → ((place : ℕ) → IsAlike (node_at t.nodes place) (node_at u.nodes place)) → All (λ place. (1 ≤ place) × (place ≤ length t.nodes)) u.guarded → IfSome u.room.runs (λ runs. length runs.bytes ≡ t.size) → IsStored u
stored-alike t u h root size accesses writes count alike guarded made =
    let tags : (place : ℕ) → tag_at u place ≡ tag_at t place = λ place. ap (λ r. cond (place == 0) r (node_at u.nodes place).tag) root ∙ ap (λ g. cond (place == 0) t.root g) (alike place).tag in
    record {
      some = rw size h.some;
      accesses = accesses ∙ h.accesses ∙ sym size;
      writes = writes ∙ h.writes ∙ sym size;
      rising = λ j k less stored. rw (tags j, tags k) (h.rising j k less (omega (arith, stored, count)));
      nodes = rw size (nodes-alike t.size t.nodes u.nodes h.nodes count alike);
      guarded = λ k d low. (let g = guarded k d low in (g.0, (let s = g.1 in omega (arith, s, count))));
      known = λ place some stored above.
          let e : (node_at u.nodes place).parent ≡ (node_at t.nodes place).parent = (alike place).parent in
          let k : IsTrue (node_at t.nodes (node_at t.nodes place).parent).has_child = h.known place some (omega (arith, stored, count)) (omega (arith, above, e)) in
          subst (λ q. IsTrue (node_at u.nodes q).has_child) (sym e) (subst IsTrue (sym (alike (node_at t.nodes place).parent).child) k);
      made = rw size made;
    }

pub stored-put : (t : Shape) (i visits : ℕ) (was : Node) (runs : Ranges Slot) → IsStored t → i < length t.nodes → was ≡ get_or t.nodes i was → length runs.bytes ≡ length was.runs.bytes → IsStored (record t { nodes = set t.nodes i (record was { runs = runs }); visits = visits })
stored-put t i visits was runs h lt read sized =
    let node : Node = record was { runs = runs } in
    let here : was ≡ get_or t.nodes i no_node = read ∙ get_or_default t.nodes i was no_node lt in
    stored-alike t (record t { nodes = set t.nodes i node; visits = visits }) h refl refl refl refl (length-set t.nodes i node)
    (alike-set t.nodes i node lt (record {
      tag = ap (λ (n : Node). n.tag) here;
      parent = ap (λ (n : Node). n.parent) here;
      child = ap (λ (n : Node). n.has_child) here;
      sized = sized ∙ ap (λ (n : Node). length n.runs.bytes) here;
    })) h.guarded h.made

-- a node changes in what a step may change
pub stored-set : (t : Shape) (i : ℕ) (was node : Node) → IsStored t → i < length t.nodes → was ≡ get_or t.nodes i was → IsAlike was node → (u : Shape) → u.root ≡ t.root → u.size ≡ t.size → length u.accesses.bytes ≡ length t.accesses.bytes → length u.writes.bytes ≡ length t.writes.bytes → u.nodes ≡ set t.nodes i node → All (λ place. (1 ≤ place) × (place ≤ length t.nodes)) u.guarded → IfSome u.room.runs (λ runs. length runs.bytes ≡ t.size) → IsStored u
stored-set t i was node h lt read alike u root size accesses writes nodes guarded made =
    let here : was ≡ get_or t.nodes i no_node = read ∙ get_or_default t.nodes i was no_node lt in
    let same : IsAlike (get_or t.nodes i no_node) node = subst (λ n. IsAlike n node) here alike in
    stored-alike t u h root size accesses writes (ap length nodes ∙ length-set t.nodes i node)
    (λ place. subst (λ ns. IsAlike (node_at t.nodes place) (node_at ns place)) (sym nodes) (alike-set t.nodes i node lt same place)) guarded made

-- a node is known to have a child
pub stored-marked : (t : Shape) (i : ℕ) (was : Node) → IsStored t → i < length t.nodes → was ≡ get_or t.nodes i was → IsStored (record t { nodes = set t.nodes i (record was { has_child = true }) })
stored-marked t i was h lt read =
    let node : Node = record was { has_child = true } in
    let here : was ≡ get_or t.nodes i no_node = read ∙ get_or_default t.nodes i was no_node lt in
    let count : length (set t.nodes i node) ≡ length t.nodes = length-set t.nodes i node in
    let parents : (place : ℕ) → (node_at (set t.nodes i node) place).parent ≡ (node_at t.nodes place).parent = λ place. part-kept (λ (n : Node). n.parent) t.nodes i place node lt (ap (λ (n : Node). n.parent) here) in
    let tags : (place : ℕ) → tag_at (record t { nodes = set t.nodes i node }) place ≡ tag_at t place = λ place. ap (λ g. cond (place == 0) t.root g) (part-kept (λ (n : Node). n.tag) t.nodes i place node lt (ap (λ (n : Node). n.tag) here)) in
    let still : (place : ℕ) → IsTrue (node_at t.nodes place).has_child → IsTrue (node_at (set t.nodes i node) place).has_child = λ place k. elim (node-set t.nodes i place node lt) [
      | inl there ↦ subst (λ (n : Node). IsTrue n.has_child) (sym there.1) refl
      | inr other ↦ subst (λ (n : Node). IsTrue n.has_child) (sym other) k
    ] in
    record {
      some = h.some;
      accesses = h.accesses;
      writes = h.writes;
      rising = λ j k less stored. rw (tags j, tags k) (h.rising j k less (omega (arith, stored, count)));
      nodes = record {
        parent = λ place some stored. (let p = h.nodes.parent place some (omega (arith, stored, count)) in let e = parents place in omega (arith, p, e));
        sized = λ place some stored. part-kept (λ (n : Node). length n.runs.bytes) t.nodes i place node lt (ap (λ (n : Node). length n.runs.bytes) here) ∙ h.nodes.sized place some (omega (arith, stored, count));
      };
      guarded = λ k d low. (let g = h.guarded k d low in (g.0, (let s = g.1 in omega (arith, s, count))));
      known = λ place some stored above.
          (let e = parents place in
          subst (λ q. IsTrue (node_at (set t.nodes i node) q).has_child) (sym e) (still (node_at t.nodes place).parent (h.known place some (omega (arith, stored, count)) (omega (arith, above, e)))));
      made = h.made;
    }

pred-suc : (n : ℕ) → suc n - 1 ≡ n
pred-suc n = omega arith

-- the node at a place, where one was added
old-node : (nodes : List Node) (node : Node) (place : ℕ) → place ≤ length nodes → 1 ≤ length nodes → node_at (nodes ++ node ∷ []) place ≡ node_at nodes place
old-node nodes node place le some = get_or-append nodes (node ∷ []) no_node (place - 1) (omega (arith, le, some))

new-node : (nodes : List Node) (node : Node) → node_at (nodes ++ node ∷ []) (suc (length nodes)) ≡ node
new-node nodes node = ap (λ k. get_or (nodes ++ node ∷ []) k no_node) (pred-suc (length nodes)) ∙ get_or-append_seam nodes node [] no_node

-- the tag of a stored node, by its index
pub tag-suc : (t : Shape) (i : ℕ) → tag_at t (suc i) ≡ (get_or t.nodes i no_node).tag
tag-suc t i = rw (ne_eqb (suc i) 0 (λ e. absurd (omega (arith, e)))) (ap (λ k. (get_or t.nodes k no_node).tag) (pred-suc i))

pub stored-push : (t u : Shape) (node : Node) → IsStored t → node.parent ≤ length t.nodes → (1 ≤ node.parent → IsTrue (node_at t.nodes node.parent).has_child) → (tag_at t (length t.nodes)).0 < node.tag.0 → length node.runs.bytes ≡ t.size → u.root ≡ t.root → u.size ≡ t.size → u.accesses ≡ t.accesses → u.writes ≡ t.writes → u.guarded ≡ t.guarded → u.room.runs ≡ t.room.runs → u.nodes ≡ t.nodes ++ node ∷ [] → IsStored u
stored-push t u node h low known newest sized root size accesses writes guarded made nodes =
    let n : ℕ = length t.nodes in
    let count : length u.nodes ≡ suc n = ap length nodes ∙ length-append t.nodes (node ∷ []) ∙ omega arith in
    let at : (place : ℕ) → node_at u.nodes place ≡ node_at (t.nodes ++ node ∷ []) place = λ place. ap (λ ns. node_at ns place) nodes in
    let old : (place : ℕ) → 1 ≤ place → place ≤ n → node_at u.nodes place ≡ node_at t.nodes place = λ place some le. at place ∙ old-node t.nodes node place le (omega (arith, some, le)) in
    let last : (place : ℕ) → place ≡ suc n → node_at u.nodes place ≡ node = λ place e. ap (λ k. node_at u.nodes k) e ∙ at (suc n) ∙ new-node t.nodes node in
    let old_tag : (place : ℕ) → place ≤ n → tag_at u place ≡ tag_at t place = λ place le. elim (cases_eq place 0) [
      | inl zero_is ↦ subst (λ k. tag_at u k ≡ tag_at t k) (sym zero_is) root
      | inr other ↦ ap (λ r. cond (place == 0) r (node_at u.nodes place).tag) root ∙ ap (λ (m : Node). cond (place == 0) t.root m.tag) (old place (omega (arith, other)) le)
    ] in
    let last_tag : (place : ℕ) → place ≡ suc n → tag_at u place ≡ node.tag = λ place e. ap (λ k. tag_at u k) e ∙ tag-suc u n ∙ ap (λ (m : Node). m.tag) (ap (λ ns. get_or ns n no_node) nodes ∙ get_or-append_seam t.nodes node [] no_node) in
    let below_last : (place : ℕ) → place ≤ n → (tag_at t place).0 < node.tag.0 = λ place le. elim (cases_eq place n) [
      | inl same ↦ subst (λ k. (tag_at t k).0 < node.tag.0) (sym same) newest
      | inr other ↦ (let r = h.rising place n (omega (arith, le, other)) (omega arith) in omega (arith, r, newest))
    ] in
    record {
      some = rw size h.some;
      accesses = rw (accesses, size) h.accesses;
      writes = rw (writes, size) h.writes;
      rising = λ j k less stored. elim (cases_eq k (suc n)) [
        | inl top ↦ rw (last_tag k top, old_tag j (omega (arith, less, top))) (below_last j (omega (arith, less, top)))
        | inr other ↦ (let le : k ≤ n = omega (arith, stored, count, other) in rw (old_tag j (omega (arith, less, le)), old_tag k le) (h.rising j k less le))
      ];
      nodes = record {
        parent = λ place some stored. elim (cases_eq place (suc n)) [
          | inl top ↦ (let e = ap (λ (m : Node). m.parent) (last place top) in omega (arith, e, low, top))
          | inr other ↦ (let le : place ≤ n = omega (arith, stored, count, other) in let e = ap (λ (m : Node). m.parent) (old place some le) in let p = h.nodes.parent place some le in omega (arith, e, p))
        ];
        sized = λ place some stored. elim (cases_eq place (suc n)) [
          | inl top ↦ ap (λ (m : Node). length m.runs.bytes) (last place top) ∙ sized ∙ sym size
          | inr other ↦ (let le : place ≤ n = omega (arith, stored, count, other) in ap (λ (m : Node). length m.runs.bytes) (old place some le) ∙ h.nodes.sized place some le ∙ sym size)
        ];
      };
      guarded = subst (λ gs. All (λ place. (1 ≤ place) × (place ≤ length u.nodes)) gs) (sym guarded) (λ k d lt. (let g = h.guarded k d lt in (g.0, (let s = g.1 in omega (arith, s, count)))));
      known = λ place some stored above. elim (cases_eq place (suc n)) [
        | inl top ↦
            (let e : (node_at u.nodes place).parent ≡ node.parent = ap (λ (m : Node). m.parent) (last place top) in
            subst (λ q. IsTrue (node_at u.nodes q).has_child) (sym e) (subst (λ (m : Node). IsTrue m.has_child) (sym (old node.parent (omega (arith, e, above)) low)) (known (omega (arith, e, above)))))
        | inr other ↦
            (let le : place ≤ n = omega (arith, stored, count, other) in
            let e : (node_at u.nodes place).parent ≡ (node_at t.nodes place).parent = ap (λ (m : Node). m.parent) (old place some le) in
            let p = h.nodes.parent place some le in
            subst (λ q. IsTrue (node_at u.nodes q).has_child) (sym e) (subst (λ (m : Node). IsTrue m.has_child) (sym (old (node_at t.nodes place).parent (omega (arith, e, above)) (omega (arith, p, le)))) (h.known place some le (omega (arith, e, above)))))
      ];
      made = subst (λ r. IfSome r (λ runs. length runs.bytes ≡ u.size)) (sym made) (rw size h.made);
    }

-- nothing but room changes
pub stored-same : (t u : Shape) → IsStored t → u.root ≡ t.root → u.size ≡ t.size → u.accesses ≡ t.accesses → u.writes ≡ t.writes → u.nodes ≡ t.nodes → u.guarded ≡ t.guarded → IfSome u.room.runs (λ runs. length runs.bytes ≡ t.size) → IsStored u
stored-same t u h root size accesses writes nodes guarded made =
    stored-alike t u h root size (ap (λ (m : Ranges ℕ). length m.bytes) accesses) (ap (λ (m : Ranges ℕ). length m.bytes) writes) (ap length nodes)
    (λ place. subst (λ ns. IsAlike (node_at t.nodes place) (node_at ns place)) (sym nodes) (record { tag = refl; parent = refl; child = refl; sized = refl }))
    (subst (λ gs. All (λ place. (1 ≤ place) × (place ≤ length t.nodes)) gs) (sym guarded) h.guarded) made

pub rising-nodes : (t : Shape) → IsStored t → (i j : ℕ) → i < j → j < length t.nodes → (get_or t.nodes i no_node).tag.0 < (get_or t.nodes j no_node).tag.0
rising-nodes t h i j less low = rw (← tag-suc t i, ← tag-suc t j) (h.rising (suc i) (suc j) (omega (arith, less)) (omega (arith, low)))

-- the last node, where one was added below another one
length-with_parent : (nodes : List Node) (parent : ℕ) (b : Bool) → length (cond b nodes (set nodes (parent - 1) (record (node_at nodes parent) { has_child = true }))) ≡ length nodes
length-with_parent nodes parent true = refl
length-with_parent nodes parent false = length-set nodes (parent - 1) (record (node_at nodes parent) { has_child = true })

pub added_last : (nodes : List Node) (parent : ℕ) (node : Node) → node_at (with_parent nodes parent ++ node ∷ []) (suc (length nodes)) ≡ node
added_last nodes parent node =
    ap (λ n. node_at (with_parent nodes parent ++ node ∷ []) (suc n)) (sym (length-with_parent nodes parent (parent == 0))) ∙ new-node (with_parent nodes parent) node

-- the steps by which a node is added
pub added-tree : (t a b d e f : Shape) (node : Node) (r1 r2 r3 : Room) → a ≡ record t { room = r1 } → b ≡ record a { nodes = with_parent a.nodes node.parent } → d ≡ record b { nodes = b.nodes ++ node ∷ []; room = r2 } → e ≡ record d { guarded = with_guarded node.guard (length d.nodes) d.guarded; room = r3 } → f ≡ record e { actor = None } → f ≡ record (with_node t (node_at f.nodes (suc (length t.nodes)))) { room = f.room }
added-tree t a b d e f node r1 r2 r3 ea eb ed ee ef =
    let nodes : List Node = with_parent t.nodes node.parent ++ node ∷ [] in
    let end : ℕ → Shape = λ k. record t { nodes = nodes; guarded = with_guarded node.guard k t.guarded; actor = None; room = r3 } in
    let whole : f ≡ end (length nodes) =
    ef
    ∙ ap (λ (s : Shape). record s { actor = None })
    (ee
    ∙ ap (λ (s : Shape). record s { guarded = with_guarded node.guard (length s.nodes) s.guarded; room = r3 })
    (ed
    ∙ ap (λ (s : Shape). record s { nodes = s.nodes ++ node ∷ []; room = r2 })
    (eb ∙ ap (λ (s : Shape). record s { nodes = with_parent s.nodes node.parent }) ea))) in
    let count : length nodes ≡ suc (length t.nodes) = length-append (with_parent t.nodes node.parent) (node ∷ []) ∙ ap (λ n. n + 1) (length-with_parent t.nodes node.parent (node.parent == 0)) ∙ omega arith in
    let last : node_at f.nodes (suc (length t.nodes)) ≡ node = ap (λ (s : Shape). node_at s.nodes (suc (length t.nodes))) whole ∙ added_last t.nodes node.parent node in
    whole ∙ ap end count ∙ ap (λ r. record (with_node t node) { room = r }) (sym (ap (λ (s : Shape). s.room) whole)) ∙ ap (λ n. record (with_node t n) { room = f.room }) (sym last)
