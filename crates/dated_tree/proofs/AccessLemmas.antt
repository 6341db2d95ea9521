-- What each node sees after an access, and for which cell it stands.
use Rattle.std.proofs.Common.{◌≡◌, ℕ, zero, suc, ◌-◌, ◌<◌, ◌≤◌, ◌⊎◌, inl, inr, ◌==◌, Bool, true, false, cond, List, [], ◌∷◌, length, Option, Some, None, refl, sym, ap, subst, ◌∙◌, arith}
use Rattle.std.proofs.lemmas.Bool.{cases_lt, cases_eq}
use Rattle.std.proofs.lemmas.List.{get_or_past}
use Rattle.perm_table.specs.declared.Kind.{Kind}
use Rattle.perm_table.specs.declared.Kind.TheVariants.{Read, Write}
use Rattle.perm_table.specs.declared.Guard.{Guard}
use Rattle.perm_table.specs.declared.Guard.TheVariants.{Free, Weak, Strong}
use Rattle.eager_tree.specs.Visit.{next_cell}
use Rattle.dated_tree.specs.declared.node.Dates.{Dates}
use Rattle.dated_tree.specs.declared.node.Slot.{Slot}
use Rattle.dated_tree.specs.declared.node.Node.{Node}
use Rattle.dated_tree.specs.Shape.{Shape, node_at, slot_at, no_node}
use Rattle.dated_tree.specs.Dates.{last, is_noted, seen_below, seen_within, seen, IsAsMet}
use Rattle.dated_tree.specs.Eager.{eager_cell, cell_of}
use Rattle.dated_tree.specs.Path.{is_on_path}
use Rattle.dated_tree.specs.Meet.{dated_by, IsSlotAfter}
use Rattle.dated_tree.specs.Access.{IsFresh, IsAccessed, denies}
use Rattle.dated_tree.specs.Kept.{IsSound}
use Rattle.dated_tree.proofs.SeenLemmas.{seen-dated}
use Rattle.dated_tree.proofs.MeetLemmas.{Knows, slot-after}

-- a node is seen no later than now
at-most : (now kept date : ℕ) (b : Bool) → kept ≤ now → date ≤ now → cond b kept date ≤ now
at-most now kept date true k d = k
at-most now kept date false k d = d

pub record SeenBy (now : ℕ) (dates : Dates) : Type 0 where
  pub access : dates.access ≤ now
  pub write : dates.write ≤ now

root-or : (now : ℕ) (b : Bool) (root other : Dates) → SeenBy now root → SeenBy now other → SeenBy now (cond b root other)
root-or now true root other r o = r
root-or now false root other r o = o

last-by : (t : Shape) (b : ℕ) → IsSound t → b < t.size → SeenBy t.clock (last t b)
last-by t b h in_size = let l = h.last b in_size in record { access = l.access; write = omega (arith, l.write, l.access) }

seen-by : (more : ℕ) (t : Shape) (place b : ℕ) → IsSound t → place ≤ length t.nodes → b < t.size → SeenBy t.clock (seen_within more t place b)
seen-by zero t place b h stored in_size = last-by t b h in_size
seen-by (suc more) t place b h stored in_size =
    elim (cases_eq place 0) [
      | inl e ↦ rw e (last-by t b h in_size)
      | inr ne ↦
          let some : 1 ≤ place = omega (arith, ne) in
          let before = (h.nodes place some stored).parent in
          let slot = h.slots place b some stored in_size in
          let up = seen-by more t (node_at t.nodes place).parent b h (omega (arith, before)) in_size in
          root-or t.clock (place == 0) (last t b) (seen_below (node_at t.nodes place).ends (slot_at t.nodes place b).met (seen_within more t (node_at t.nodes place).parent b)) (last-by t b h in_size)
          (record {
            access = at-most t.clock _ _ (is_noted (node_at t.nodes place).ends (seen_within more t (node_at t.nodes place).parent b).access) slot.access up.access;
            write = at-most t.clock _ _ (is_noted (node_at t.nodes place).ends (seen_within more t (node_at t.nodes place).parent b).write) slot.write up.write;
          })
    ]

pub seen-at-most : (t : Shape) (place b : ℕ) → IsSound t → place ≤ length t.nodes → b < t.size → SeenBy t.clock (seen t place b)
seen-at-most t place b h stored in_size = seen-by place t place b h stored in_size

-- A fact of all stored nodes holds at each place, since a place past them names none.
pub every-place : (P : Node → Node → Type 0) (t u : Shape) → length u.nodes ≡ length t.nodes → P no_node no_node → ((place : ℕ) → 1 ≤ place → place ≤ length t.nodes → P (node_at t.nodes place) (node_at u.nodes place)) → (place : ℕ) → P (node_at t.nodes place) (node_at u.nodes place)
every-place P t u count none each zero =
    elim (cases_lt 0 (length t.nodes)) [
      | inl some ↦ each 1 (omega arith) (omega arith)
      | inr empty ↦
          subst (λ n. P n (node_at u.nodes zero)) (sym (get_or_past t.nodes 0 no_node empty))
          (subst (λ n. P no_node n) (sym (get_or_past u.nodes 0 no_node (omega (arith, count, empty)))) none)
    ]
every-place P t u count none each (suc k) =
    elim (cases_lt k (length t.nodes)) [
      | inl some ↦ each (suc k) (omega arith) (omega arith)
      | inr past ↦
          subst (λ n. P n (node_at u.nodes (suc k))) (sym (get_or_past t.nodes (suc k - 1) no_node (omega arith)))
          (subst (λ n. P no_node n) (sym (get_or_past u.nodes (suc k - 1) no_node (omega (arith, count)))) none)
    ]

-- where a byte has the dates that it had, and each node its slot, each node sees what it saw
pub seen_within-same : (more b : ℕ) (t u : Shape) → last u b ≡ last t b → ((place : ℕ) → (node_at u.nodes place).parent ≡ (node_at t.nodes place).parent) → ((place : ℕ) → (node_at u.nodes place).ends ≡ (node_at t.nodes place).ends) → ((place : ℕ) → slot_at u.nodes place b ≡ slot_at t.nodes place b) →
    (place : ℕ) → seen_within more u place b ≡ seen_within more t place b
seen_within-same zero b t u l p e s place = l
seen_within-same (suc more) b t u l p e s place =
    let up : seen_within more u (node_at u.nodes place).parent b ≡ seen_within more t (node_at t.nodes place).parent b =
    ap (λ q. seen_within more u q b) (p place) ∙ seen_within-same more b t u l p e s (node_at t.nodes place).parent in
    cc (l, e place, s place, up)

-- by a read a node with noted dates keeps the write that it met
pub keeps-write : (kind : Kind) (local : Bool) (guard : Guard) (ends : List ℕ) (date : ℕ) (above : Dates) (slot next : Slot) → IsSlotAfter (Some kind) local guard ends date above slot next → (kind ≡ Write) ⊎ ((ends ≡ []) ⊎ (next.met.write ≡ slot.met.write))
keeps-write Write local guard ends date above slot next h = inl refl
keeps-write Read true guard [] date above slot next h = inr (inl refl)
keeps-write Read true guard (end ∷ ends) date above slot next h =
    elim h.met [ inl met ↦ inr (inr (ap (λ (d : Dates). d.write) met)) | inr same ↦ inr (inr (ap (λ (s : Slot). s.met.write) same.2)) ]
keeps-write Read false Free ends date above slot next h = inr (inr (ap (λ (s : Slot). s.met.write) h))
keeps-write Read false Weak ends date above slot next h = inr (inr (ap (λ (d : Dates). d.write) h.met))
keeps-write Read false Strong ends date above slot next h = inr (inr (ap (λ (d : Dates). d.write) h.met))

seen-by-kind : (o : Option Kind) (b x : ℕ) (kinds : ℕ → Option Kind) (date : ℕ) (t u : Shape) → IsFresh t x date → IsAccessed x kinds date t u → b < t.size → kinds b ≡ o → (place : ℕ) → seen u place b ≡ dated_by (kinds b) date (seen t place b)
seen-by-kind None b x kinds date t u f a in_size e place =
    seen_within-same place b t u (a.last b in_size ∙ ap (λ o. dated_by o date (last t b)) e) (λ p. (a.links p).parent) (λ p. (a.links p).ends)
    (every-place (λ n m. slot_at (m ∷ []) 1 b ≡ slot_at (n ∷ []) 1 b) t u a.count refl
    (λ p some stored. subst (λ o. IsSlotAfter o (is_on_path t.nodes x p) (node_at t.nodes p).guard (node_at t.nodes p).ends date (seen t p b) (slot_at t.nodes p b) (slot_at u.nodes p b)) e (a.slots p b some stored in_size)))
    place
    ∙ ap (λ o. dated_by o date (seen t place b)) (sym e)
seen-by-kind (Some kind) b x kinds date t u f a in_size e place =
    seen-dated b kind date t u (record {
      last = a.last b in_size ∙ ap (λ o. dated_by o date (last t b)) e;
      parents = λ p. (a.links p).parent;
      ends = λ p. (a.links p).ends;
      fresh = f.ends;
      writes = every-place (λ n m. (kind ≡ Write) ⊎ ((n.ends ≡ []) ⊎ ((slot_at (m ∷ []) 1 b).met.write ≡ (slot_at (n ∷ []) 1 b).met.write))) t u a.count (inr (inr refl))
          (λ p some stored. keeps-write kind (is_on_path t.nodes x p) (node_at t.nodes p).guard (node_at t.nodes p).ends date (seen t p b) (slot_at t.nodes p b) (slot_at u.nodes p b)
          (subst (λ o. IsSlotAfter o (is_on_path t.nodes x p) (node_at t.nodes p).guard (node_at t.nodes p).ends date (seen t p b) (slot_at t.nodes p b) (slot_at u.nodes p b)) e (a.slots p b some stored in_size)));
    }) place
    ∙ ap (λ o. dated_by o date (seen t place b)) (sym e)

-- what each node sees after an access
pub seen-after : (b x : ℕ) (kinds : ℕ → Option Kind) (date : ℕ) (t u : Shape) → IsFresh t x date → IsAccessed x kinds date t u → b < t.size → (place : ℕ) → seen u place b ≡ dated_by (kinds b) date (seen t place b)
seen-after b x kinds date t u f a in_size place = seen-by-kind (kinds b) b x kinds date t u f a in_size refl place

pub knows : (x date : ℕ) (t : Shape) (place b : ℕ) → IsSound t → IsFresh t x date → 1 ≤ place → place ≤ length t.nodes → b < t.size → Knows (is_on_path t.nodes x place) (node_at t.nodes place).guard date (seen t place b) (slot_at t.nodes place b)
knows x date t place b h f some stored in_size = record {
  write = (let s = seen-at-most t place b h stored in_size in omega (arith, s.write, f.now));
  before = λ off. f.met place b some stored in_size off;
  guarded = (h.slots place b some stored in_size).guard;
}

-- each node stands for the cell that the table gives, and where a guard stands, it has met all
pub cell-after : (x : ℕ) (kinds : ℕ → Option Kind) (date : ℕ) (t u : Shape) → IsSound t → IsFresh t x date → IsAccessed x kinds date t u → (place b : ℕ) → 1 ≤ place → place ≤ length t.nodes → b < t.size → denies t x kinds place b ≡ false →
    (((node_at t.nodes place).guard ≡ Free) ⊎ IsAsMet (seen u place b) (slot_at u.nodes place b)) × (cell_of u place b ≡ next_cell (kinds b) (is_on_path t.nodes x place) (node_at t.nodes place).guard (cell_of t place b))
cell-after x kinds date t u h f a place b some stored in_size fine =
    subst (λ d. (((node_at t.nodes place).guard ≡ Free) ⊎ IsAsMet d (slot_at u.nodes place b)) × (eager_cell d (slot_at u.nodes place b) ≡ next_cell (kinds b) (is_on_path t.nodes x place) (node_at t.nodes place).guard (cell_of t place b)))
    (sym (seen-after b x kinds date t u f a in_size place))
    (slot-after (kinds b) (is_on_path t.nodes x place) (node_at t.nodes place).guard (node_at t.nodes place).ends date (seen t place b) (slot_at t.nodes place b) (slot_at u.nodes place b) (a.slots place b some stored in_size) (knows x date t place b h f some stored in_size) fine)
