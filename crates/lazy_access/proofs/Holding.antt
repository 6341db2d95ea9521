-- The first byte that strongly guarded nodes hold, one node more, and in the eager tree's words.
use Rattle.std.proofs.Common.{◌≡◌, ℕ, ◌+◌, ◌<◌, ◌≤◌, ◌&&◌, Bool, true, false, cond, nat_lt, List, length, get_or, Option, Some, None, refl, sym, ap, subst, ◌∙◌, arith, inl, inr}
use Rattle.std.proofs.lemmas.Bool.{cases_lt, cases_eq}
use Rattle.std.proofs.lemmas.Bool.Decides.{nat_tests}
use Rattle.std.proofs.lemmas.Option.{slice_get-map, slice_get-get_or}
use Rattle.std.specs.Option.{option_and_then, option_map}
use Rattle.eager_tree.specs.declared.violation.Violation.TheVariants.{StrongFree}
use Rattle.eager_tree.specs.declared.node.Cell.{Cell}
use Rattle.eager_tree.specs.Visit.{first_in, first_below}
use Rattle.eager_tree.specs.Steps.{is_strong, strong_at}
use Rattle.eager_tree.proofs.Nodes.{first_below-found}
use Rattle.lazy_tree.specs.declared.tree.Node.{Node}
use Rattle.lazy_tree.specs.Skip.{node_at, slot_at, no_node, no_slot, IsSound}
use Rattle.lazy_tree.specs.Eager.{eager_cell, eager_node, eager_nodes}
use Rattle.lazy_access.specs.declared.frees.Held.{Held}
use Rattle.lazy_access.specs.Held.{holds, IsFirstHeld, NoneHeld, FindsHeld, IsFirstAccessed, FindsHeldBy, earlier_held, strong_free_of}
use Rattle.lazy_access.proofs.Ties.{first_in-none, first_in-at, first_below-none, length-eager, eager_at}

no-both : (b : Bool) → b ≡ false → b ≡ true → ⊥
no-both true e f = cc
no-both false e f = cc

and-right : (a b : Bool) → (a && b) ≡ true → b ≡ true
and-right true b e = e
and-right false b e = cc

and-both : (a b : Bool) → a ≡ true → b ≡ true → (a && b) ≡ true
and-both true b e f = f
and-both false b e f = cc

-- the bytes that one node holds
by-first : (size : ℕ) (nodes : List Node) (n : ℕ) (f : Held) → IsFirstAccessed size nodes n f → (b : ℕ) → holds nodes n b ≡ true → f.offset ≤ b
by-first size nodes n f h b held =
    elim (cases_lt b f.offset) [
      | inl less ↦ absurd (no-both (slot_at nodes n b).accessed (h.before b less) (and-right _ _ held))
      | inr more ↦ more
    ]

pub held-none : (size : ℕ) (nodes : List Node) → FindsHeld size nodes 0 None
held-none size nodes i b lt = absurd (omega (arith, lt))

keep-held : (size : ℕ) (nodes : List Node) (n : ℕ) (k : Held) → IsFirstHeld size nodes n k → ((b : ℕ) → b < size → holds nodes n b ≡ true → k.offset ≤ b) → IsFirstHeld size nodes (n + 1) k
keep-held size nodes n k h over = record {
  node = (let l = h.node in omega (arith, l));
  offset = h.offset;
  perm = h.perm;
  here = h.here;
  least = λ i b lt in_size held. elim (cases_eq i n) [
    | inl last ↦
        let le : k.offset ≤ b = over b in_size (subst (λ j. holds nodes j b ≡ true) last held) in
        elim (cases_lt k.offset b) [ inl less ↦ inl less | inr more ↦ inr ((let e : k.offset ≡ b = omega (arith, le, more) in e), (let l = h.node in let e : k.node ≤ i = omega (arith, l, last) in e)) ]
    | inr other ↦ h.least i b (omega (arith, lt, other)) in_size held
  ];
}

take-held : (size : ℕ) (nodes : List Node) (n : ℕ) (f : Held) → IsFirstAccessed size nodes n f → is_strong (node_at nodes n).guard ≡ true → ((i b : ℕ) → i < n → b < size → holds nodes i b ≡ true → f.offset < b) → IsFirstHeld size nodes (n + 1) f
take-held size nodes n f h strong less_than = record {
  node = (let e = h.node in omega (arith, e));
  offset = h.offset;
  perm = h.perm ∙ ap (λ j. (slot_at nodes j f.offset).perm) (sym h.node);
  here = subst (λ j. holds nodes j f.offset ≡ true) (sym h.node) (and-both _ _ strong h.here);
  least = λ i b lt in_size held. elim (cases_eq i n) [
    | inl last ↦
        let le : f.offset ≤ b = by-first size nodes n f h b (subst (λ j. holds nodes j b ≡ true) last held) in
        elim (cases_lt f.offset b) [ inl less ↦ inl less | inr more ↦ inr ((let e : f.offset ≡ b = omega (arith, le, more) in e), (let l = h.node in let e : f.node ≤ i = omega (arith, l, last) in e)) ]
    | inr other ↦ inl (less_than i b (omega (arith, lt, other)) in_size held)
  ];
}

held-test : (size : ℕ) (nodes : List Node) (n : ℕ) (k f : Held) (first : Bool) → nat_lt f.offset k.offset ≡ first → IsFirstHeld size nodes n k → IsFirstAccessed size nodes n f → is_strong (node_at nodes n).guard ≡ true → FindsHeld size nodes (n + 1) (cond first (Some f) (Some k))
held-test size nodes n k f true t h g strong =
    let less : f.offset < k.offset = grind (arith, nat_tests, t) in
    take-held size nodes n f g strong (λ i b lt in_size held. elim (h.least i b lt in_size held) [ inl more ↦ omega (arith, less, more) | inr same ↦ (let e = same.0 in omega (arith, less, e)) ])
held-test size nodes n k f false t h g strong =
    let le : k.offset ≤ f.offset = grind (arith, nat_tests, t) in
    keep-held size nodes n k h (λ b in_size held. (let first = by-first size nodes n f g b held in omega (arith, le, first)))

pub held-more : (size : ℕ) (nodes : List Node) (n : ℕ) (kept found : Option Held) → FindsHeld size nodes n kept → FindsHeldBy size nodes n found → FindsHeld size nodes (n + 1) (earlier_held kept found)
held-more size nodes n None None h g = λ i b lt in_size. elim (cases_eq i n) [ inl last ↦ subst (λ j. holds nodes j b ≡ false) (sym last) (g b in_size) | inr other ↦ h i b (omega (arith, lt, other)) in_size ]
held-more size nodes n None (Some f) h g = take-held size nodes n f g.0 g.1 (λ i b lt in_size held. absurd (no-both (holds nodes i b) (h i b lt in_size) held))
held-more size nodes n (Some k) None h g = keep-held size nodes n k h (λ b in_size held. absurd (no-both (holds nodes n b) (g b in_size) held))
held-more size nodes n (Some k) (Some f) h g = held-test size nodes n k f (nat_lt f.offset k.offset) refl h g.0 g.1

-- one node at one byte, in the eager tree's words
strong-slot : (size : ℕ) (nodes : List Node) (i b : ℕ) → IsSound size nodes → i < length nodes → b < size → strong_at b (eager_node nodes (node_at nodes i)) ≡ cond (holds nodes i b) (Some (StrongFree b (node_at nodes i).tag (slot_at nodes i b).perm)) None
strong-slot size nodes i b h lt in_size =
    ap (option_and_then (λ (cell : Cell). cond (is_strong (node_at nodes i).guard && cell.accessed) (Some (StrongFree b (node_at nodes i).tag cell.perm)) None))
    (slice_get-map eager_cell (node_at nodes i).runs.bytes b ∙ ap (option_map eager_cell) (slice_get-get_or (node_at nodes i).runs.bytes b no_slot (let s = h.sizes i lt in omega (arith, s, in_size))))

strong-byte : (size : ℕ) (nodes : List Node) (i b : ℕ) → IsSound size nodes → i < length nodes → b < size → strong_at b (get_or (eager_nodes nodes) i (eager_node nodes no_node)) ≡ cond (holds nodes i b) (Some (StrongFree b (node_at nodes i).tag (slot_at nodes i b).perm)) None
strong-byte size nodes i b h lt in_size = ap (strong_at b) (eager_at nodes i lt) ∙ strong-slot size nodes i b h lt in_size

pub strong-none : (size : ℕ) (nodes : List Node) → IsSound size nodes → NoneHeld size nodes (length nodes) → first_below (λ b. first_in (strong_at b) (eager_nodes nodes)) size ≡ None
strong-none size nodes h none =
    first_below-none (λ b. first_in (strong_at b) (eager_nodes nodes)) size
    (λ b in_size. first_in-none (strong_at b) (eager_nodes nodes) (eager_node nodes no_node)
    (λ i lt. let low : i < length nodes = omega (arith, lt, length-eager nodes) in
    strong-byte size nodes i b h low in_size ∙ ap (λ (t : Bool). cond t (Some (StrongFree b (node_at nodes i).tag (slot_at nodes i b).perm)) None) (none i b low in_size)))

not-held : (b : Bool) → (b ≡ true → ⊥) → b ≡ false
not-held true h = absurd (h refl)
not-held false h = refl

pub strong-some : (size : ℕ) (nodes : List Node) (f : Held) → IsSound size nodes → IsFirstHeld size nodes (length nodes) f → first_below (λ b. first_in (strong_at b) (eager_nodes nodes)) size ≡ Some (strong_free_of nodes f)
strong-some size nodes f h g =
    first_below-found (λ b. first_in (strong_at b) (eager_nodes nodes)) f.offset size _ g.offset
    (first_below-none (λ b. first_in (strong_at b) (eager_nodes nodes)) f.offset
    (λ b less. let in_size : b < size = (let o = g.offset in omega (arith, less, o)) in
    first_in-none (strong_at b) (eager_nodes nodes) (eager_node nodes no_node)
    (λ i lt. let low : i < length nodes = omega (arith, lt, length-eager nodes) in
    strong-byte size nodes i b h low in_size
    ∙ ap (λ (t : Bool). cond t (Some (StrongFree b (node_at nodes i).tag (slot_at nodes i b).perm)) None)
    (not-held (holds nodes i b) (λ held. elim (g.least i b low in_size held) [ inl more ↦ omega (arith, less, more) | inr same ↦ (let e = same.0 in omega (arith, less, e)) ])))))
    (first_in-at (strong_at f.offset) (eager_nodes nodes) f.node (eager_node nodes no_node) _ (let l = g.node in omega (arith, l, length-eager nodes))
    (λ j low. let inside : j < length nodes = (let l = g.node in omega (arith, low, l)) in
    strong-byte size nodes j f.offset h inside g.offset
    ∙ ap (λ (t : Bool). cond t (Some (StrongFree f.offset (node_at nodes j).tag (slot_at nodes j f.offset).perm)) None)
    (not-held (holds nodes j f.offset) (λ held. elim (g.least j f.offset inside g.offset held) [ inl more ↦ omega (arith, more) | inr same ↦ (let e = same.1 in omega (arith, low, e)) ])))
    (strong-byte size nodes f.node f.offset h g.node g.offset
    ∙ ap (λ (t : Bool). cond t (Some (StrongFree f.offset (node_at nodes f.node).tag (slot_at nodes f.node f.offset).perm)) None) g.here
    ∙ ap (λ p. Some (StrongFree f.offset (node_at nodes f.node).tag p)) (sym g.perm)))
