-- What a new node keeps of a dated tree.
use Rattle.std.proofs.Common.{◌≡◌, ℕ, ◌+◌, ◌<◌, ◌≤◌, inl, inr, Bool, true, false, cond, nat_lt, List, [], ◌∷◌, ◌++◌, length, get_or, All, Contains, IsTrue, refl, sym, ap, subst, ◌∙◌, arith, length-append}
use Rattle.std.proofs.Math.ListN.{get_or-append}
use Rattle.std.proofs.Math.Seq.{get_or-append_seam}
use Rattle.std.proofs.lemmas.Bool.{cases_lt}
use Rattle.std.proofs.lemmas.List.Elements.{All-append, All-cons, All-nil, Contains-append_left, Contains-append_right}
use Rattle.std.specs.List.Sorted.{IsStrictlyIncreasing}
use Rattle.bsan_ids.specs.declared.numbers.Span.{Span}
use Rattle.bsan_ids.specs.declared.numbers.Tag.{Tag}
use Rattle.perm_table.specs.declared.Guard.{Guard}
use Rattle.perm_table.specs.declared.RetagKind.{RetagKind}
use Rattle.perm_table.specs.Table.{is_protected, starting}
use Rattle.dated_tree.specs.declared.node.Slot.{Slot}
use Rattle.dated_tree.specs.declared.node.Node.{Node}
use Rattle.dated_tree.specs.Shape.{Shape, node_at, slot_at}
use Rattle.dated_tree.specs.Dates.{seen, IsAsMet}
use Rattle.dated_tree.specs.Eager.{tag_at}
use Rattle.dated_tree.specs.Kept.{KeepsNode, KeepsSlot, KeepsGuarded, IsSound}
use Rattle.dated_tree.proofs.AccessLemmas.{seen-at-most}
use Rattle.dated_tree.proofs.MeetLemmas.{not-later, none-off}
use Rattle.dated_nodes.specs.Added.{new_slot, IsChild, IsNewest, with_child}
use Rattle.dated_nodes.proofs.AddedLemmas.{old-node, last-node, one-more, old-or-new, old-slot, seen-kept, tag-kept, last-tag, last-seen, last-slot}

-- a list of rising numbers with a greater one
rising-push : (xs : List ℕ) (y : ℕ) → IsStrictlyIncreasing xs → All (λ x. x < y) xs → IsStrictlyIncreasing (xs ++ y ∷ [])
rising-push xs y rising below = λ k lt.
    let long : k + 1 < length xs + 1 = omega (arith, lt, length-append xs (y ∷ [])) in
    let first : get_or (xs ++ y ∷ []) k 0 ≡ get_or xs k 0 = get_or-append xs (y ∷ []) 0 k (omega (arith, long)) in
    elim (cases_lt (k + 1) (length xs)) [
      | inl less ↦
          let second : get_or (xs ++ y ∷ []) (k + 1) 0 ≡ get_or xs (k + 1) 0 = get_or-append xs (y ∷ []) 0 (k + 1) less in
          rw (first, second) (rising k less)
      | inr more ↦
          let at : k + 1 ≡ length xs = omega (arith, long, more) in
          let second : get_or (xs ++ y ∷ []) (k + 1) 0 ≡ y = ap (λ i. get_or (xs ++ y ∷ []) i 0) at ∙ get_or-append_seam xs y [] 0 in
          rw (first, second) (below k 0 (omega (arith, long)))
    ]

-- the tags still rise
tags-rise : (t : Shape) (node : Node) (tag : Tag) → IsSound t → IsNewest t tag → node.tag ≡ tag → (i j : ℕ) → i < j → j ≤ length (with_child node t).nodes → (tag_at (with_child node t) i).0 < (tag_at (with_child node t) j).0
tags-rise t node tag h newest e i j less stored =
    elim (old-or-new t node j stored) [
      | inl old ↦ rw (tag-kept t node i (omega (arith, less, old)), tag-kept t node j old) (h.rising i j less old)
      | inr new ↦
          let there : tag_at (with_child node t) j ≡ tag = ap (tag_at (with_child node t)) new ∙ last-tag t node ∙ e in
          rw (tag-kept t node i (omega (arith, less, new)), there) (newest i (omega (arith, less, new)))
    ]

node-added : (t : Shape) (x : ℕ) (span : Span) (kind : RetagKind) (guard : Guard) (tag : Tag) (node : Node) (place : ℕ) → IsSound t → x ≤ length t.nodes → IsChild t x span kind guard tag node → 1 ≤ place → place ≤ length (with_child node t).nodes → KeepsNode (with_child node t) place
node-added t x span kind guard tag node place h low c some stored =
    elim (old-or-new t node place stored) [
      | inl old ↦
          let was = h.nodes place some old in
          let same = old-node t.nodes node place some old in
          record {
            parent = subst (λ (n : Node). n.parent < place) (sym same) was.parent;
            sized = ap (λ (n : Node). length n.runs.bytes) same ∙ was.sized;
            ends = subst (λ (n : Node). All (λ end. end ≤ t.clock) n.ends) (sym same) was.ends;
          }
      | inr new ↦
          let here : node_at (with_child node t).nodes place ≡ node = ap (node_at (with_child node t).nodes) new ∙ last-node t.nodes node in
          record {
            parent = (let p : (node_at (with_child node t).nodes place).parent ≡ x = ap (λ (n : Node). n.parent) here ∙ c.parent_is in omega (arith, p, low, new));
            sized = ap (λ (n : Node). length n.runs.bytes) here ∙ c.sized;
            ends = subst (λ (l : List ℕ). All (λ end. end ≤ t.clock) l) (sym (ap (λ (n : Node). n.ends) here ∙ c.ends_are)) (All-nil (λ end. end ≤ t.clock));
          }
    ]

-- nothing is put off at the new node
last-as-met : (t : Shape) (x : ℕ) (span : Span) (kind : RetagKind) (guard : Guard) (b : ℕ) → IsSound t → x ≤ length t.nodes → b < t.size → IsAsMet (seen t x b) (new_slot kind guard span t.clock b)
last-as-met t x span kind guard b h low in_size =
    let by = seen-at-most t x b h low in_size in
    none-off (nat_lt t.clock (seen t x b).access) (nat_lt t.clock (seen t x b).write) (starting kind guard) (not-later t.clock (seen t x b).access by.access) (not-later t.clock (seen t x b).write by.write)

slot-added : (t : Shape) (x : ℕ) (span : Span) (kind : RetagKind) (guard : Guard) (tag : Tag) (node : Node) (place b : ℕ) → IsSound t → x ≤ length t.nodes → IsChild t x span kind guard tag node → 1 ≤ place → place ≤ length (with_child node t).nodes → b < t.size → KeepsSlot (with_child node t) place b
slot-added t x span kind guard tag node place b h low c some stored in_size =
    elim (old-or-new t node place stored) [
      | inl old ↦
          let was = h.slots place b some old in_size in
          let same = old-slot t node place b some old in
          record {
            access = subst (λ (s : Slot). s.met.access ≤ t.clock) (sym same) was.access;
            write = subst (λ (s : Slot). s.met.write ≤ t.clock) (sym same) was.write;
            guard = rw (old-node t.nodes node place some old, seen-kept t node place b h old) was.guard;
          }
      | inr new ↦
          let here : slot_at (with_child node t).nodes place b ≡ new_slot kind guard span t.clock b = ap (λ p. slot_at (with_child node t).nodes p b) new ∙ last-slot t x span kind guard tag node b in_size c in
          let sees : seen (with_child node t) place b ≡ seen t x b = ap (λ p. seen (with_child node t) p b) new ∙ last-seen t x span kind guard tag node b h low c in
          record {
            access = subst (λ (s : Slot). s.met.access ≤ t.clock) (sym here) (omega arith);
            write = subst (λ (s : Slot). s.met.write ≤ t.clock) (sym here) (omega arith);
            guard = inr (rw (sees, here) (last-as-met t x span kind guard b h low in_size));
          }
    ]

-- what the list of guarded places says of a tree's nodes
abbrev Listed : List Node → ℕ → Type 0
Listed nodes place = (1 ≤ place) × (place ≤ length nodes) × IsTrue (is_protected (node_at nodes place).guard)

still-listed : (t : Shape) (node : Node) (place : ℕ) → Listed t.nodes place → Listed (t.nodes ++ node ∷ []) place
still-listed t node place l = (l.0, (let s = l.1 in omega (arith, s, one-more t.nodes node)), ap (λ (n : Node). is_protected n.guard) (old-node t.nodes node place l.0 l.1) ∙ l.2)

all-listed : (t : Shape) (node : Node) → IsSound t → All (Listed (t.nodes ++ node ∷ [])) t.guarded
all-listed t node h = λ k d lt. still-listed t node (get_or t.guarded k d) (h.guarded.sound k d lt)

old-listed : (t : Shape) (node : Node) (place : ℕ) → IsSound t → 1 ≤ place → place ≤ length t.nodes → is_protected (node_at (t.nodes ++ node ∷ []) place).guard ≡ true → Contains t.guarded place
old-listed t node place h some old p = h.guarded.whole place some old (ap (λ (n : Node). is_protected n.guard) (sym (old-node t.nodes node place some old)) ∙ p)

with-guard : (t : Shape) (node : Node) → IsSound t → is_protected node.guard ≡ true → KeepsGuarded (record (with_child node t) { guarded = t.guarded ++ (length t.nodes + 1) ∷ [] })
with-guard t node h protected = record {
  rising = rising-push t.guarded (length t.nodes + 1) h.guarded.rising (λ k d lt. (let s = (h.guarded.sound k d lt).1 in omega (arith, s)));
  sound = All-append (Listed (t.nodes ++ node ∷ [])) t.guarded ((length t.nodes + 1) ∷ []) (all-listed t node h)
      (All-cons (Listed (t.nodes ++ node ∷ [])) (length t.nodes + 1) [] (omega arith, omega (arith, one-more t.nodes node), ap (λ (n : Node). is_protected n.guard) (last-node t.nodes node) ∙ protected) (All-nil (Listed (t.nodes ++ node ∷ []))));
  whole = λ place some stored p.
      elim (old-or-new t node place stored) [
        | inl old ↦ Contains-append_left t.guarded ((length t.nodes + 1) ∷ []) place (old-listed t node place h some old p)
        | inr new ↦ Contains-append_right t.guarded ((length t.nodes + 1) ∷ []) place (0, omega arith, sym new)
      ];
}

without-guard : (t : Shape) (node : Node) → IsSound t → is_protected node.guard ≡ false → KeepsGuarded (record (with_child node t) { guarded = t.guarded })
without-guard t node h free = record {
  rising = h.guarded.rising;
  sound = all-listed t node h;
  whole = λ place some stored p.
      elim (old-or-new t node place stored) [
        | inl old ↦ old-listed t node place h some old p
        | inr new ↦
            let wrong : true ≡ false = sym p ∙ ap (λ q. is_protected (node_at (t.nodes ++ node ∷ []) q).guard) new ∙ ap (λ (n : Node). is_protected n.guard) (last-node t.nodes node) ∙ free in
            cc
      ];
}

guarded-added : (t : Shape) (node : Node) → IsSound t → KeepsGuarded (with_child node t)
guarded-added t node h = by (is_protected node.guard) refl
  where
    by : (b : Bool) → is_protected node.guard ≡ b → KeepsGuarded (record (with_child node t) { guarded = cond (is_protected node.guard) (t.guarded ++ (length t.nodes + 1) ∷ []) t.guarded })
    by true e = subst (λ b. KeepsGuarded (record (with_child node t) { guarded = cond b (t.guarded ++ (length t.nodes + 1) ∷ []) t.guarded })) (sym e) (with-guard t node h e)
    by false e = subst (λ b. KeepsGuarded (record (with_child node t) { guarded = cond b (t.guarded ++ (length t.nodes + 1) ∷ []) t.guarded })) (sym e) (without-guard t node h e)

pub sound-added : (t : Shape) (x : ℕ) (span : Span) (kind : RetagKind) (guard : Guard) (tag : Tag) (node : Node) → IsSound t → x ≤ length t.nodes → IsNewest t tag → IsChild t x span kind guard tag node → IsSound (with_child node t)
sound-added t x span kind guard tag node h low newest c = record {
  some = h.some;
  accesses = h.accesses;
  writes = h.writes;
  last = λ b in_size. (let l = h.last b in_size in record { write = l.write; access = l.access });
  rising = tags-rise t node tag h newest c.tag_is;
  nodes = λ place some stored. node-added t x span kind guard tag node place h low c some stored;
  slots = λ place b some stored in_size. slot-added t x span kind guard tag node place b h low c some stored in_size;
  guarded = guarded-added t node h;
  actor = λ y stored e. cc;
}
