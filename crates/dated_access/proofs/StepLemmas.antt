-- One step of the way over places: what was read, and what is put.
use Rattle.std.proofs.Common.{◌≡◌, ℕ, ◌+◌, ◌-◌, ◌^◌, ◌<◌, ◌≤◌, min, List, length, get_or, refl, sym, ap, subst, ◌∙◌, arith}
use Rattle.bsan_ids.specs.declared.numbers.Span.{Span}
use Rattle.perm_table.specs.declared.Kind.{Kind}
use Rattle.perm_table.specs.declared.Guard.{Guard}
use Rattle.dated_tree.specs.declared.node.Dates.{Dates}
use Rattle.dated_tree.specs.declared.node.Slot.{Slot}
use Rattle.dated_tree.specs.declared.node.Node.{Node}
use Rattle.dated_tree.specs.Shape.{Shape, node_at, slot_at, no_slot, counted}
use Rattle.dated_tree.specs.Dates.{seen, seen_below}
use Rattle.dated_tree.specs.Meet.{IsLocalSlot, IsForeignSlot}
use Rattle.dated_tree.specs.Stored.{AreStored}
use Rattle.dated_access.specs.Path.{entry, above_entry, IsWay}
use Rattle.dated_access.specs.Change.{HasChanged, AfterLocal, AfterForeign, AreDistinct, AreUniform, IsDatedAlike}
use Rattle.dated_access.proofs.ChangeLemmas.{seen-alike}
use Rattle.dated_access.proofs.DenialLemmas.{seen-entry, seen-next}

-- nothing but nodes and the counter has changed
pub tree-more : (t u v w : Shape) → u ≡ record t { nodes = u.nodes; visits = u.visits } → v ≡ counted u → w ≡ record v { nodes = w.nodes; visits = w.visits } → w ≡ record t { nodes = w.nodes; visits = w.visits }
tree-more t u v w e f g = g ∙ ap {A = Shape} (λ (s : Shape). record s { nodes = w.nodes; visits = w.visits }) (f ∙ ap {A = Shape} counted e)

counted-changed : (After : ℕ → ℕ → Slot → Type 0) (t u : Shape) (places : List ℕ) (i : ℕ) (span : Span) → HasChanged After t u places i span → HasChanged After t (counted u) places i span
counted-changed After t u places i span h = record {
  count = h.count;
  links = h.links;
  sized = h.sized;
  spare = h.spare;
  met = h.met;
  outside = h.outside;
  rest = h.rest;
}

-- what was read at the i-th place, in the words of the tree as it was
pub record AtPlace (After : ℕ → ℕ → Slot → Type 0) (t v : Shape) (places : List ℕ) (i : ℕ) (span : Span) (slot : Slot) : Type 0 where
  pub changed : HasChanged After t v places i span
  pub node : node_at v.nodes (entry places i) ≡ node_at t.nodes (entry places i)
  pub slot_is : slot ≡ slot_at t.nodes (entry places i) span.start
  pub size : v.size ≡ t.size

pub at-place : (After : ℕ → ℕ → Slot → Type 0) (t u v : Shape) (places : List ℕ) (i : ℕ) (span : Span) (slot : Slot) → u ≡ record t { nodes = u.nodes; visits = u.visits } → v ≡ counted u → AreDistinct t places → i < length places → HasChanged After t u places i span → slot ≡ slot_at u.nodes (entry places i) span.start →
    AtPlace After t v places i span slot
at-place After t u v places i span slot e f d lt h s =
    let there : node_at u.nodes (entry places i) ≡ node_at t.nodes (entry places i) = h.rest (entry places i) (d.some i lt) (λ k less same. d.once k i less lt same) in
    record {
      changed = subst (λ w. HasChanged After t w places i span) (sym f) (counted-changed After t u places i span h);
      node = ap (λ (w : Shape). node_at w.nodes (entry places i)) f ∙ there;
      slot_is = s ∙ ap (λ (n : Node). get_or n.runs.bytes span.start no_slot) there;
      size = ap (λ (w : Shape). w.size) f ∙ ap (λ (w : Shape). w.size) e;
    }

pub put-room : (After : ℕ → ℕ → Slot → Type 0) (t v : Shape) (places : List ℕ) (i : ℕ) (span : Span) (slot : Slot) → AtPlace After t v places i span slot → AreUniform t places span → i < length places → 2 ≤ (node_at v.nodes (entry places i)).runs.spare
put-room After t v places i span slot a u lt = let room = u.room i lt in let same = ap (λ (n : Node). n.runs.spare) a.node in omega (arith, room, same)

pub put-slots : (After : ℕ → ℕ → Slot → Type 0) (t v : Shape) (places : List ℕ) (i : ℕ) (span : Span) (slot : Slot) → AtPlace After t v places i span slot → AreUniform t places span → i < length places → (b : ℕ) → span.start ≤ b → b < span.start + span.len → slot_at v.nodes (entry places i) b ≡ slot
put-slots After t v places i span slot a u lt b from to = ap (λ (n : Node). get_or n.runs.bytes b no_slot) a.node ∙ u.slots i b lt from to ∙ sym a.slot_is

pub foreign-after : (After : ℕ → ℕ → Slot → Type 0) (t v : Shape) (places : List ℕ) (i : ℕ) (span : Span) (slot next : Slot) (kind : Kind) (guard : Guard) → AtPlace After t v places i span slot → AreUniform t places span → i < length places → guard ≡ (node_at v.nodes (entry places i)).guard → IsForeignSlot kind guard slot next →
    (b : ℕ) → span.start ≤ b → b < span.start + span.len → AfterForeign t kind (entry places i) b next
foreign-after After t v places i span slot next kind guard a u lt g h b from to =
    subst (λ s. IsForeignSlot kind (node_at t.nodes (entry places i)).guard s next) (a.slot_is ∙ sym (u.slots i b lt from to))
    (subst (λ d. IsForeignSlot kind d slot next) (g ∙ ap (λ (n : Node). n.guard) a.node) h)

-- what the i-th node of a path sees at the span's first byte
pub seen-here : (After : ℕ → ℕ → Slot → Type 0) (t v : Shape) (path : List ℕ) (i : ℕ) (span : Span) (slot : Slot) (ends : List ℕ) (above below : Dates) → AtPlace After t v path i span slot → AreStored t.size t.nodes → IsWay t.nodes path → i < length path → above ≡ seen t (above_entry path i) span.start → ends ≡ (node_at v.nodes (entry path i)).ends → below ≡ seen_below ends slot.met above → below ≡ seen t (entry path i) span.start
seen-here After t v path i span slot ends above below a h w lt up e is =
    seen-entry t t.size span.start i path ends slot above below h w lt up a.slot_is (e ∙ ap (λ (n : Node). n.ends) a.node) is

pub local-after : (After : ℕ → ℕ → Slot → Type 0) (t v : Shape) (path : List ℕ) (i : ℕ) (span : Span) (slot next : Slot) (kind : Kind) (guard : Guard) (ends : List ℕ) (date : ℕ) (below : Dates) → AtPlace After t v path i span slot → AreStored t.size t.nodes → IsWay t.nodes path → AreUniform t path span → IsDatedAlike t span → i < length path →
    guard ≡ (node_at v.nodes (entry path i)).guard → ends ≡ (node_at v.nodes (entry path i)).ends → date ≡ t.clock → below ≡ seen t (entry path i) span.start → IsLocalSlot kind guard ends date below slot next →
    (b : ℕ) → span.start ≤ b → b < span.start + span.len → AfterLocal t kind (entry path i) b next
local-after After t v path i span slot next kind guard ends date below a h w u d lt g e c s is b from to =
    let here : seen t (entry path i) span.start ≡ seen t (entry path i) b =
    sym (seen-next t t.size b i path (seen t (entry path i) b) refl ∙ seen-alike (i + 1) t.size b t path span h w u.slots d from to (i + 1) (omega arith) (omega (arith, lt)) ∙ sym (seen-next t t.size span.start i path (seen t (entry path i) span.start) refl)) in
    subst (λ x. IsLocalSlot kind (node_at t.nodes (entry path i)).guard (node_at t.nodes (entry path i)).ends t.clock (seen t (entry path i) b) x next) (a.slot_is ∙ sym (u.slots i b lt from to))
    (subst (λ x. IsLocalSlot kind (node_at t.nodes (entry path i)).guard (node_at t.nodes (entry path i)).ends t.clock x slot next) (s ∙ here)
    (subst (λ x. IsLocalSlot kind (node_at t.nodes (entry path i)).guard (node_at t.nodes (entry path i)).ends x below slot next) c
    (subst (λ x. IsLocalSlot kind (node_at t.nodes (entry path i)).guard x date below slot next) (e ∙ ap (λ (n : Node). n.ends) a.node)
    (subst (λ x. IsLocalSlot kind x ends date below slot next) (g ∙ ap (λ (n : Node). n.guard) a.node) is))))

-- the counter of a tree after one more run that is read or changed
pub counted-visits : (t u : Shape) → u ≡ counted t → u.visits ≤ t.visits + 1
counted-visits t u e = (let v : u.visits ≡ min (t.visits + 1) (2 ^ 64 - 1) = ap (λ (s : Shape). s.visits) e in at-most u.visits (t.visits + 1) (2 ^ 64 - 1) v)
  where
    at-most : (n a b : ℕ) → n ≡ min a b → n ≤ a
    at-most n a b e = omega (arith, e)
