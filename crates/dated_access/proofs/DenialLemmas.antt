-- What is read on the way to a denial.
use Rattle.std.proofs.Common.{◌≡◌, inl, inr, ℕ, ◌+◌, ◌-◌, ◌^◌, ◌<◌, ◌≤◌, min, Bool, true, false, List, length, Some, refl, sym, ap, ◌∙◌, arith}
use Rattle.std.proofs.lemmas.Bool.{cases_lt, ne_eqb}
use Rattle.std.proofs.lemmas.List.{get_or_past}
use Rattle.perm_table.specs.declared.Guard.{Guard}
use Rattle.perm_table.specs.declared.Perm.{Perm}
use Rattle.perm_table.specs.declared.Kind.{Kind}
use Rattle.dated_tree.specs.declared.node.Dates.{Dates}
use Rattle.dated_tree.specs.declared.node.Slot.{Slot}
use Rattle.dated_tree.specs.declared.node.Node.{Node}
use Rattle.dated_tree.specs.Shape.{Shape, node_at, slot_at, no_node, counted}
use Rattle.dated_tree.specs.Dates.{seen, seen_below}
use Rattle.dated_tree.specs.Eager.{eager_cell}
use Rattle.dated_tree.specs.Meet.{is_refused, kept_cell}
use Rattle.dated_tree.specs.Stored.{AreStored}
use Rattle.dated_tree.proofs.EndedLemmas.{seen-up}
use Rattle.dated_access.specs.Path.{entry, above_entry, IsWay}
use Rattle.dated_access.specs.Denial.{refuses_local, refuses_foreign, perm_at, IsFirstOf}

-- nothing but the counter has changed
pub visits-more : (t u v : Shape) → u ≡ record t { visits = u.visits } → v ≡ counted u → v ≡ record t { visits = v.visits }
visits-more t u v e f =
    let h : v ≡ record t { visits = min (u.visits + 1) (2 ^ 64 - 1) } = f ∙ ap counted e in
    h ∙ ap (λ n. record t { visits = n }) (sym (ap (λ (s : Shape). s.visits) h))

pub nodes-of : (t u : Shape) → u ≡ record t { visits = u.visits } → u.nodes ≡ t.nodes
nodes-of t u e = ap (λ (s : Shape). s.nodes) e

-- one place more that doesn't deny
pub none-more : (refuses : ℕ → Bool) (places : List ℕ) (i : ℕ) → ((k : ℕ) → k < i → refuses (entry places k) ≡ false) → refuses (entry places i) ≡ false → (k : ℕ) → k < i + 1 → refuses (entry places k) ≡ false
none-more refuses places i none here k lt =
    elim (cases_lt k i) [ inl less ↦ none k less | inr more ↦ (let same : k ≡ i = omega arith in ap (λ j. refuses (entry places j)) same ∙ here) ]

-- each node's parent is before it
pub all-before : (size : ℕ) (nodes : List Node) → AreStored size nodes → (p : ℕ) → 1 ≤ p → (node_at nodes p).parent < p
all-before size nodes h p some =
    elim (cases_lt (p - 1) (length nodes)) [
      | inl stored ↦ h.parent p some (omega (arith, stored, some))
      | inr past ↦ (let none : node_at nodes p ≡ no_node = get_or_past nodes (p - 1) no_node past in omega (arith, some, ap (λ (n : Node). n.parent) none))
    ]

-- what the node of a path sees, by what the one above it does
pub seen-entry : (t : Shape) (size b i : ℕ) (path : List ℕ) (ends : List ℕ) (slot : Slot) (above below : Dates) → AreStored size t.nodes → IsWay t.nodes path → i < length path → above ≡ seen t (above_entry path i) b → slot ≡ slot_at t.nodes (entry path i) b → ends ≡ (node_at t.nodes (entry path i)).ends → below ≡ seen_below ends slot.met above →
    below ≡ seen t (entry path i) b
seen-entry t size b i path ends slot above below h way lt a s e is =
    is ∙ ap (λ (l : List ℕ). seen_below l slot.met above) e ∙ ap (λ (c : Slot). seen_below (node_at t.nodes (entry path i)).ends c.met above) s
    ∙ ap (λ d. seen_below (node_at t.nodes (entry path i)).ends (slot_at t.nodes (entry path i) b).met d) (a ∙ ap (λ p. seen t p b) (sym (way.parent i lt)))
    ∙ sym (seen-up (entry path i) b t (all-before size t.nodes h) (way.some i lt))

above-next : (path : List ℕ) (i : ℕ) → above_entry path (i + 1) ≡ entry path i
above-next path i =
    rw (ne_eqb (i + 1) 0 (λ e. omega arith)) (ap (entry path) (let k : i + 1 - 1 ≡ i = omega arith in k))

pub seen-next : (t : Shape) (size b i : ℕ) (path : List ℕ) (below : Dates) → below ≡ seen t (entry path i) b → below ≡ seen t (above_entry path (i + 1)) b
seen-next t size b i path below e = e ∙ ap (λ p. seen t p b) (sym (above-next path i))

pub refused-local : (t : Shape) (kind : Kind) (b place : ℕ) (guard : Guard) (slot : Slot) (below : Dates) (r : Bool) → slot ≡ slot_at t.nodes place b → guard ≡ (node_at t.nodes place).guard → below ≡ seen t place b → r ≡ is_refused (Some kind) true guard (eager_cell below slot) → r ≡ refuses_local t kind b place
refused-local t kind b place guard slot below r s g d e =
    e ∙ ap (λ h. is_refused (Some kind) true h (eager_cell below slot)) g ∙ ap (λ c. is_refused (Some kind) true (node_at t.nodes place).guard (eager_cell below c)) s ∙ ap (λ c. is_refused (Some kind) true (node_at t.nodes place).guard (eager_cell c (slot_at t.nodes place b))) d

pub perm-local : (t : Shape) (b place : ℕ) (slot : Slot) (below : Dates) (perm : Perm) → slot ≡ slot_at t.nodes place b → below ≡ seen t place b → perm ≡ (eager_cell below slot).perm → perm ≡ perm_at t b place
perm-local t b place slot below perm s d e = e ∙ ap (λ c. (eager_cell below c).perm) s ∙ ap (λ c. (eager_cell c (slot_at t.nodes place b)).perm) d

pub refused-foreign : (t : Shape) (kind : Kind) (b place : ℕ) (guard : Guard) (slot : Slot) (r : Bool) → slot ≡ slot_at t.nodes place b → guard ≡ (node_at t.nodes place).guard → r ≡ is_refused (Some kind) false guard (kept_cell slot) → r ≡ refuses_foreign t kind b place
refused-foreign t kind b place guard slot r s g e =
    e ∙ ap (λ h. is_refused (Some kind) false h (kept_cell slot)) g ∙ ap (λ c. is_refused (Some kind) false (node_at t.nodes place).guard (kept_cell c)) s

-- what was read at the i-th place of a path, in the words of the tree as it was
pub record AtEntry (t : Shape) (kind : Kind) (b place : ℕ) (slot : Slot) (below : Dates) (r : Bool) : Type 0 where
  pub slot_is : slot ≡ slot_at t.nodes place b
  pub seen_is : below ≡ seen t place b
  pub refused : r ≡ refuses_local t kind b place

pub at-entry : (t u v : Shape) (size b i : ℕ) (kind : Kind) (path ends : List ℕ) (guard : Guard) (slot : Slot) (above below : Dates) (r : Bool) → u ≡ record t { visits = u.visits } → v ≡ counted u → AreStored size t.nodes → IsWay t.nodes path → i < length path → above ≡ seen t (above_entry path i) b → slot ≡ slot_at u.nodes (entry path i) b →
    ends ≡ (node_at v.nodes (entry path i)).ends → guard ≡ (node_at v.nodes (entry path i)).guard → below ≡ seen_below ends slot.met above → r ≡ is_refused (Some kind) true guard (eager_cell below slot) → AtEntry t kind b (entry path i) slot below r
at-entry t u v size b i kind path ends guard slot above below r e f h way lt a s en g is rf =
    let before : u.nodes ≡ t.nodes = nodes-of t u e in
    let after : v.nodes ≡ t.nodes = nodes-of t v (visits-more t u v e f) in
    let slot_now : slot ≡ slot_at t.nodes (entry path i) b = s ∙ ap (λ ns. slot_at ns (entry path i) b) before in
    let ends_now : ends ≡ (node_at t.nodes (entry path i)).ends = en ∙ ap (λ ns. (node_at ns (entry path i)).ends) after in
    let guard_now : guard ≡ (node_at t.nodes (entry path i)).guard = g ∙ ap (λ ns. (node_at ns (entry path i)).guard) after in
    let seen_now = seen-entry t size b i path ends slot above below h way lt a slot_now ends_now is in
    record {
      slot_is = slot_now;
      seen_is = seen_now;
      refused = refused-local t kind b (entry path i) guard slot below r slot_now guard_now seen_now rf;
    }

pub found-local : (t : Shape) (kind : Kind) (b i : ℕ) (path : List ℕ) (slot : Slot) (below : Dates) (r : Bool) (perm : Perm) → i < length path → ((k : ℕ) → k < i → refuses_local t kind b (entry path k) ≡ false) → AtEntry t kind b (entry path i) slot below r → r ≡ true → perm ≡ (eager_cell below slot).perm →
    IsFirstOf (refuses_local t kind b) (perm_at t b) path (record { place = entry path i; perm = perm })
found-local t kind b i path slot below r perm lt none here is_so e = record {
  at = i;
  below = lt;
  here = refl;
  perm_there = perm-local t b (entry path i) slot below perm here.slot_is here.seen_is e;
  denied = sym here.refused ∙ is_so;
  first = none;
}
