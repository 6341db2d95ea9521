-- A tree without the guard of one node.
use Rattle.std.proofs.Common.{◌≡◌, ℕ, zero, suc, ◌-◌, ◌<◌, ◌≤◌, ◌⊎◌, inl, inr, Bool, true, false, not, cond, eqb, eq-eqb, List, [], ◌∷◌, length, map, get_or, get_or-set_same, get_or-set_other, All, IsTrue, Some, refl, sym, ap, subst, ◌∙◌, arith}
use Rattle.std.specs.List.{Contains, filter}
use Rattle.std.proofs.lemmas.Bool.{cases_eq, ne_eqb}
use Rattle.std.proofs.lemmas.List.{length-set}
use Rattle.std.proofs.lemmas.List.Elements.{All-filter, filter_passes}
use Rattle.std.proofs.lemmas.List.Kept.{IsStrictlyIncreasing-filter}
use Rattle.bsan_ids.specs.declared.numbers.Tag.{Tag}
use Rattle.perm_table.specs.declared.Guard.TheVariants.{Free}
use Rattle.perm_table.specs.Table.{is_protected}
use Rattle.eager_tree.specs.declared.node.Node.{Node as Eager}
use Rattle.eager_tree.specs.Tree.{Tree}
use Rattle.eager_tree.specs.Steps.{freed_guard}
use Rattle.dated_tree.specs.declared.node.Node.{Node}
use Rattle.dated_tree.specs.Shape.{Shape, node_at, slot_at, no_slot, no_node}
use Rattle.dated_tree.specs.Dates.{seen, IsAsMet}
use Rattle.dated_tree.specs.Eager.{eager_of, eager_node, eager_cell, cell_of, tag_at}
use Rattle.dated_tree.specs.Kept.{IsSound, KeepsGuarded}
use Rattle.dated_tree.proofs.AccessLemmas.{seen_within-same}
use Rattle.dated_tree.proofs.EagerLemmas.{root_node, eager_nodes, map-from, node-parts, same-tag}
use Rattle.dated_tree.proofs.PathLemmas.{tags-eqb}
use Rattle.dated_tree.proofs.StoredLemmas.{part-kept}
use Rattle.dated_tree.specs.Guards.{without_guard}
use Rattle.dated_ends.proofs.NodesLemmas.{nodes-map}

abbrev freed : Shape → ℕ → Node
freed t x = record (node_at t.nodes x) { guard = Free }

-- what a node keeps besides its guard
part : {A : Type 0} (f : Node → A) (t : Shape) (x place : ℕ) → 1 ≤ x → x ≤ length t.nodes → f (freed t x) ≡ f (node_at t.nodes x) → f (node_at (without_guard t x).nodes place) ≡ f (node_at t.nodes place)
part f t x place some stored e = part-kept f t.nodes (x - 1) place (freed t x) (omega arith) e

pub same-slot : (t : Shape) (x place b : ℕ) → 1 ≤ x → x ≤ length t.nodes → slot_at (without_guard t x).nodes place b ≡ slot_at t.nodes place b
same-slot t x place b some stored = part (λ (n : Node). get_or n.runs.bytes b no_slot) t x place some stored refl

pub same-seen : (t : Shape) (x place b : ℕ) → 1 ≤ x → x ≤ length t.nodes → seen (without_guard t x) place b ≡ seen t place b
same-seen t x place b some stored =
    seen_within-same place b t (without_guard t x) refl
    (λ p. part (λ (n : Node). n.parent) t x p some stored refl)
    (λ p. part (λ (n : Node). n.ends) t x p some stored refl)
    (λ p. same-slot t x p b some stored) place

pub same-cell : (t : Shape) (x place b : ℕ) → 1 ≤ x → x ≤ length t.nodes → cell_of (without_guard t x) place b ≡ cell_of t place b
same-cell t x place b some stored =
    ap (λ d. eager_cell d (slot_at (without_guard t x).nodes place b)) (same-seen t x place b some stored)
    ∙ ap (eager_cell (seen t place b)) (same-slot t x place b some stored)

same-name : (t : Shape) (x place : ℕ) → 1 ≤ x → x ≤ length t.nodes → tag_at (without_guard t x) place ≡ tag_at t place
same-name t x place some stored = same-tag t (without_guard t x) place refl (part (λ (n : Node). n.tag) t x place some stored refl)

here : (t : Shape) (x : ℕ) → 1 ≤ x → x ≤ length t.nodes → node_at (without_guard t x).nodes x ≡ freed t x
here t x some stored = get_or-set_same t.nodes (x - 1) (freed t x) no_node (omega arith)

there : (t : Shape) (x place : ℕ) → 1 ≤ x → 1 ≤ place → (place ≡ x → ⊥) → node_at (without_guard t x).nodes place ≡ node_at t.nodes place
there t x place some one other = get_or-set_other t.nodes (x - 1) (place - 1) (freed t x) no_node (λ e. other (omega (arith, e)))

-- the eager tree without the guard
freed_guard-on : (x : Tag) (node : Eager) → eqb node.tag.0 x.0 ≡ true → freed_guard x node ≡ record node { guard = Free }
freed_guard-on x node e = rw e refl

freed_guard-off : (x : Tag) (node : Eager) → eqb node.tag.0 x.0 ≡ false → freed_guard x node ≡ node
freed_guard-off x node e = rw e refl

same-cells : (t : Shape) (x place : ℕ) → 1 ≤ x → x ≤ length t.nodes → (eager_node (without_guard t x) place).cells ≡ (eager_node t place).cells
same-cells t x place some stored = map-from (cell_of t place) (cell_of (without_guard t x) place) 0 t.size (λ b low lt. same-cell t x place b some stored)

same-above : (t : Shape) (x place : ℕ) → 1 ≤ x → x ≤ length t.nodes → (eager_node (without_guard t x) place).parent ≡ (eager_node t place).parent
same-above t x place some stored =
    ap (λ p. Some (tag_at (without_guard t x) p)) (part (λ (n : Node). n.parent) t x place some stored refl)
    ∙ ap (λ g. Some g) (same-name t x (node_at t.nodes place).parent some stored)

node-freed : (t : Shape) (x i : ℕ) → IsSound t → 1 ≤ x → x ≤ length t.nodes → 1 ≤ i → i ≤ length t.nodes → eager_node (without_guard t x) i ≡ freed_guard (tag_at t x) (eager_node t i)
node-freed t x i h some stored one in_nodes =
    elim (cases_eq i x) [
      | inl same ↦
          node-parts (eager_node (without_guard t x) i) (record (eager_node t i) { guard = Free })
          (same-name t x i some stored) (same-above t x i some stored)
          (ap (λ p. (node_at (without_guard t x).nodes p).guard) same ∙ ap (λ (n : Node). n.guard) (here t x some stored))
          (same-cells t x i some stored)
          ∙ sym (freed_guard-on (tag_at t x) (eager_node t i) (tags-eqb t i x h in_nodes stored ∙ eq-eqb i x same))
      | inr other ↦
          node-parts (eager_node (without_guard t x) i) (eager_node t i)
          (same-name t x i some stored) (same-above t x i some stored)
          (ap (λ (n : Node). n.guard) (there t x i some one other))
          (same-cells t x i some stored)
          ∙ sym (freed_guard-off (tag_at t x) (eager_node t i) (tags-eqb t i x h in_nodes stored ∙ ne_eqb i x other))
    ]

pub guard-gone : (t : Shape) (x : ℕ) → IsSound t → 1 ≤ x → x ≤ length t.nodes → eager_nodes (without_guard t x) ≡ map (freed_guard (tag_at t x)) (eager_nodes t)
guard-gone t x h some stored =
    nodes-map t (without_guard t x) (freed_guard (tag_at t x)) refl refl (length-set t.nodes (x - 1) (freed t x))
    (sym (freed_guard-off (tag_at t x) (root_node t.root t.size) (tags-eqb t 0 x h (omega arith) stored ∙ ne_eqb 0 x (λ e. omega arith))))
    (λ i one in_nodes. node-freed t x i h some stored one in_nodes)

pub guard-gone-tree : (t : Shape) (x : ℕ) → IsSound t → 1 ≤ x → x ≤ length t.nodes → eager_of (without_guard t x) ≡ record (eager_of t) { nodes = map (freed_guard (tag_at t x)) (eager_of t).nodes }
guard-gone-tree t x h some stored = ap (λ ns. (let r : Tree = record { size = t.size; nodes = ns } in r)) (guard-gone t x h some stored)

-- a listed place stays listed where the test lets it pass
Contains-filter : (p : ℕ → Bool) (xs : List ℕ) (x : ℕ) → Contains xs x → p x ≡ true → Contains (filter p xs) x
Contains-filter p [] x h pass = absurd (omega (arith, h.1))
Contains-filter p (y ∷ ys) x (zero, lt, e) pass = let same : y ≡ x = e in rw (same, pass) (zero, omega arith, refl)
Contains-filter p (y ∷ ys) x (suc k, lt, e) pass =
    let rest = Contains-filter p ys x (k, omega (arith, lt), e) pass in
    elim (p y) as (λ b. Contains (cond b (y ∷ filter p ys) (filter p ys)) x) [
      | true ↦ (suc rest.0, (let l = rest.1 in omega (arith, l)), rest.2)
      | false ↦ rest
    ]

not-same : (a b : ℕ) → not (eqb a b) ≡ true → a ≡ b → ⊥
not-same a b h e = let s = eq-eqb a b e in cc

guarded-rest : (t : Shape) (x : ℕ) → IsSound t → 1 ≤ x → x ≤ length t.nodes → KeepsGuarded (without_guard t x)
guarded-rest t x h some stored =
    let rest : ℕ → Bool = λ place. not (eqb place x) in
    record {
      rising = IsStrictlyIncreasing-filter rest t.guarded h.guarded.rising;
      sound = λ k d lt.
          let place = get_or (filter rest t.guarded) k d in
          let was = All-filter rest (λ p. (1 ≤ p) × (p ≤ length t.nodes) × IsTrue (is_protected (node_at t.nodes p).guard)) t.guarded h.guarded.sound k d lt in
          let other = not-same place x (filter_passes rest t.guarded k d lt) in
          (was.0, (let w = was.1 in omega (arith, w, length-set t.nodes (x - 1) (freed t x))), ap (λ (n : Node). is_protected n.guard) (there t x place some was.0 other) ∙ was.2);
      whole = λ place one in_nodes protected.
          elim (cases_eq place x) [
            | inl same ↦
                let free : (node_at (without_guard t x).nodes place).guard ≡ Free = ap (λ p. (node_at (without_guard t x).nodes p).guard) same ∙ ap (λ (n : Node). n.guard) (here t x some stored) in
                let wrong : false ≡ true = sym (ap is_protected free) ∙ protected in
                cc
            | inr other ↦
                Contains-filter rest t.guarded place
                (h.guarded.whole place one (omega (arith, in_nodes, length-set t.nodes (x - 1) (freed t x))) (sym (ap (λ (n : Node). is_protected n.guard) (there t x place some one other)) ∙ protected))
                (ap not (ne_eqb place x other))
          ];
    }

still-met : (t : Shape) (x place b : ℕ) → IsSound t → 1 ≤ x → x ≤ length t.nodes → 1 ≤ place → place ≤ length t.nodes → b < t.size → ((node_at (without_guard t x).nodes place).guard ≡ Free) ⊎ IsAsMet (seen (without_guard t x) place b) (slot_at (without_guard t x).nodes place b)
still-met t x place b h some stored one in_nodes in_size =
    elim (cases_eq place x) [
      | inl same ↦ inl (ap (λ p. (node_at (without_guard t x).nodes p).guard) same ∙ ap (λ (n : Node). n.guard) (here t x some stored))
      | inr other ↦
          elim (h.slots place b one in_nodes in_size).guard [
            | inl free ↦ inl (ap (λ (n : Node). n.guard) (there t x place some one other) ∙ free)
            | inr as_met ↦ inr (subst (λ d. IsAsMet d (slot_at (without_guard t x).nodes place b)) (sym (same-seen t x place b some stored)) (subst (IsAsMet (seen t place b)) (sym (same-slot t x place b some stored)) as_met))
          ]
    ]

-- what every tree keeps stays without the guard
pub guard-gone-sound : (t : Shape) (x : ℕ) → IsSound t → 1 ≤ x → x ≤ length t.nodes → IsSound (without_guard t x)
guard-gone-sound t x h some stored =
    let count : length (without_guard t x).nodes ≡ length t.nodes = length-set t.nodes (x - 1) (freed t x) in
    record {
      some = h.some;
      accesses = h.accesses;
      writes = h.writes;
      last = λ b in_size. (let l = h.last b in_size in record { write = l.write; access = l.access });
      rising = λ i j less in_nodes. rw (same-name t x i some stored, same-name t x j some stored) (h.rising i j less (omega (arith, in_nodes, count)));
      nodes = λ place one in_nodes.
          let was = h.nodes place one (omega (arith, in_nodes, count)) in
          record {
            parent = rw (part (λ (n : Node). n.parent) t x place some stored refl) was.parent;
            sized = part (λ (n : Node). length n.runs.bytes) t x place some stored refl ∙ was.sized;
            ends = subst (λ e. All (λ end. end ≤ t.clock) e) (sym (part (λ (n : Node). n.ends) t x place some stored refl)) was.ends;
          };
      slots = λ place b one in_nodes in_size.
          let low : place ≤ length t.nodes = omega (arith, in_nodes, count) in
          let was = h.slots place b one low in_size in
          record {
            access = rw (same-slot t x place b some stored) was.access;
            write = rw (same-slot t x place b some stored) was.write;
            guard = still-met t x place b h some stored one low in_size;
          };
      guarded = guarded-rest t x h some stored;
      actor = λ y in_nodes e. cc;
    }
