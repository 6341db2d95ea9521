-- One node more has new slots on a span.
use Rattle.std.proofs.Common.{◌≡◌, ◌⊎◌, inl, inr, ℕ, zero, suc, ◌+◌, ◌-◌, ◌<◌, ◌≤◌, nat_le, nat_lt, cond, List, [], ◌∷◌, length, set, get_or, get_or-set_same, refl, sym, ap, subst, ◌∙◌, arith}
use Rattle.std.proofs.lemmas.Bool.{cases_lt, cases_eq, ne_eqb}
use Rattle.std.proofs.lemmas.Bool.Decides.{nat_tests}
use Rattle.std.proofs.lemmas.List.{length-set}
use Rattle.bsan_ids.specs.declared.numbers.Span.{Span}
use Rattle.range_map.specs.Ranges.{Ranges, overwrite}
use Rattle.range_map.proofs.RunLemmas.{get_or-overwrite, length-overwrite}
use Rattle.dated_tree.specs.declared.node.Slot.{Slot}
use Rattle.dated_tree.specs.declared.node.Node.{Node}
use Rattle.dated_tree.specs.Shape.{Shape, node_at, slot_at, no_slot, no_node, with_runs}
use Rattle.dated_tree.specs.Access.{HasSameLinks}
use Rattle.dated_tree.specs.Stored.{AreStored}
use Rattle.dated_tree.proofs.StoredLemmas.{node-set, part-kept}
use Rattle.dated_tree.specs.Dates.{seen, seen_below}
use Rattle.dated_tree.proofs.EndedLemmas.{seen-up}
use Rattle.dated_access.specs.Path.{entry, above_entry, IsWay}
use Rattle.dated_access.specs.Change.{HasChanged, AreDistinct, IsDatedAlike}
use Rattle.dated_access.specs.Pieces.{HaveOneSlot}
use Rattle.dated_access.proofs.DenialLemmas.{all-before}

pub nothing-changed : (After : ℕ → ℕ → Slot → Type 0) (t u : Shape) (places : List ℕ) (span : Span) → u.nodes ≡ t.nodes → HasChanged After t u places 0 span
nothing-changed After t u places span e = record {
  count = ap length e;
  links = λ place. record { tag = ap (λ ns. (node_at ns place).tag) e; parent = ap (λ ns. (node_at ns place).parent) e; guard = ap (λ ns. (node_at ns place).guard) e; ends = ap (λ ns. (node_at ns place).ends) e };
  sized = λ place. ap (λ ns. length (node_at ns place).runs.bytes) e;
  spare = λ place. (let s : (node_at u.nodes place).runs.spare ≡ (node_at t.nodes place).runs.spare = ap (λ ns. (node_at ns place).runs.spare) e in omega (arith, s));
  met = λ k b lt from to. absurd (omega arith);
  outside = λ place b some stored in_size out. ap (λ ns. slot_at ns place b) e;
  rest = λ place some none. ap (λ ns. node_at ns place) e;
}

value-in : (from end b : ℕ) (new old now : Slot) → now ≡ cond (nat_le from b) (cond (nat_lt b end) new old) old → from ≤ b → b < end → now ≡ new
value-in from end b new old now is low high = grind (arith, nat_tests, is, low, high)

value-out : (from end b : ℕ) (new old now : Slot) → now ≡ cond (nat_le from b) (cond (nat_lt b end) new old) old → (b < from) ⊎ (end ≤ b) → now ≡ old
value-out from end b new old now is (inl low) = grind (arith, nat_tests, is, low)
value-out from end b new old now is (inr high) = grind (arith, nat_tests, is, high)

-- a put at a place, byte by byte
record IsPut (size : ℕ) (before now : List Node) (place : ℕ) (span : Span) (next : Slot) : Type 0 where
  count : length now ≡ length before
  links : (p : ℕ) → HasSameLinks (node_at before p) (node_at now p)
  sized : (p : ℕ) → length (node_at now p).runs.bytes ≡ length (node_at before p).runs.bytes
  spare : (p : ℕ) → ((p - 1 ≡ place - 1) × ((node_at before p).runs.spare ≤ (node_at now p).runs.spare + 2)) ⊎ (node_at now p ≡ node_at before p)
  inside : (b : ℕ) → span.start ≤ b → b < span.start + span.len → slot_at now place b ≡ next
  outside : (p b : ℕ) → b < size → (b < span.start) ⊎ (span.start + span.len ≤ b) → slot_at now p b ≡ slot_at before p b
  rest : (p : ℕ) → 1 ≤ p → (place ≡ p → ⊥) → node_at now p ≡ node_at before p

is-put : (size : ℕ) (before : List Node) (place : ℕ) (span : Span) (next : Slot) (runs : Ranges Slot) → 1 ≤ place → place ≤ length before → length (node_at before place).runs.bytes ≡ size → span.start + span.len ≤ size → runs.bytes ≡ overwrite span.start (span.start + span.len) next (node_at before place).runs.bytes → (node_at before place).runs.spare ≤ runs.spare + 2 →
    IsPut size before (with_runs before place runs) place span next
is-put size before place span next runs some stored sized within bytes spare =
    let node : Node = record (node_at before place) { runs = runs } in
    let lt : place - 1 < length before = omega (arith, some, stored) in
    let long : length runs.bytes ≡ length (node_at before place).runs.bytes = ap length bytes ∙ length-overwrite span.start (span.start + span.len) next (node_at before place).runs.bytes (omega arith) (omega (arith, within, sized)) in
    let value : (b : ℕ) → b < size → get_or runs.bytes b no_slot ≡ cond (nat_le span.start b) (cond (nat_lt b (span.start + span.len)) next (slot_at before place b)) (slot_at before place b) =
    λ b in_size. ap (λ l. get_or l b no_slot) bytes ∙ get_or-overwrite span.start (span.start + span.len) b next no_slot (node_at before place).runs.bytes (omega arith) (omega (arith, within, sized)) (omega (arith, in_size, sized)) in
    record {
      count = length-set before (place - 1) node;
      links = λ p. record {
        tag = part-kept (λ (n : Node). n.tag) before (place - 1) p node lt refl;
        parent = part-kept (λ (n : Node). n.parent) before (place - 1) p node lt refl;
        guard = part-kept (λ (n : Node). n.guard) before (place - 1) p node lt refl;
        ends = part-kept (λ (n : Node). n.ends) before (place - 1) p node lt refl;
      };
      sized = λ p. part-kept (λ (n : Node). length n.runs.bytes) before (place - 1) p node lt long;
      spare = λ p. elim (node-set before (place - 1) p node lt) [
        | inl here ↦ inl (here.0, (let now : (node_at (with_runs before place runs) p).runs.spare ≡ runs.spare = ap (λ (n : Node). n.runs.spare) here.1 in let was : (node_at before p).runs.spare ≡ (node_at before place).runs.spare = ap (λ k. (get_or before k no_node).runs.spare) here.0 in omega (arith, now, was, spare)))
        | inr other ↦ inr other
      ];
      inside = λ b from to. elim (node-set before (place - 1) place node lt) [
        | inl here ↦ ap (λ (n : Node). get_or n.runs.bytes b no_slot) here.1 ∙ value-in span.start (span.start + span.len) b next (slot_at before place b) (get_or runs.bytes b no_slot) (value b (omega (arith, to, within))) from to
        | inr same ↦ ap (λ (n : Node). get_or n.runs.bytes b no_slot) (at-place before place node lt) ∙ value-in span.start (span.start + span.len) b next (slot_at before place b) (get_or runs.bytes b no_slot) (value b (omega (arith, to, within))) from to
      ];
      outside = λ p b in_size out. elim (node-set before (place - 1) p node lt) [
        | inl here ↦ ap (λ (n : Node). get_or n.runs.bytes b no_slot) here.1 ∙ value-out span.start (span.start + span.len) b next (slot_at before place b) (get_or runs.bytes b no_slot) (value b in_size) out ∙ ap (λ k. get_or (get_or before k no_node).runs.bytes b no_slot) (sym here.0)
        | inr same ↦ ap (λ (n : Node). get_or n.runs.bytes b no_slot) same
      ];
      rest = λ p one ne. elim (node-set before (place - 1) p node lt) [
        | inl here ↦ absurd (ne (let e = here.0 in omega (arith, e, some, one)))
        | inr same ↦ same
      ];
    }
  where
    at-place : (nodes : List Node) (q : ℕ) (n : Node) → q - 1 < length nodes → node_at (set nodes (q - 1) n) q ≡ n
    at-place nodes q n low = get_or-set_same nodes (q - 1) n no_node low

-- a put at a place, as a change of it alone
pub put-changes : (t v : Shape) (place : ℕ) (span : Span) (next : Slot) (runs : Ranges Slot) → AreStored t.size t.nodes → 1 ≤ place → place ≤ length t.nodes → span.start + span.len ≤ t.size → v.nodes ≡ with_runs t.nodes place runs → runs.bytes ≡ overwrite span.start (span.start + span.len) next (node_at t.nodes place).runs.bytes → (node_at t.nodes place).runs.spare ≤ runs.spare + 2 →
    HasChanged (λ p b s. s ≡ next) t v (place ∷ []) 1 span
put-changes t v place span next runs stored some low within e bytes spare =
    let put : IsPut t.size t.nodes (with_runs t.nodes place runs) place span next = is-put t.size t.nodes place span next runs some low (stored.sized place some low) within bytes spare in
    let p : IsPut t.size t.nodes v.nodes place span next = subst (λ ns. IsPut t.size t.nodes ns place span next) (sym e) put in
    record {
      count = p.count;
      links = p.links;
      sized = p.sized;
      spare = λ q. elim (p.spare q) [ inl here ↦ here.1 | inr other ↦ (let same = ap (λ (n : Node). n.runs.spare) other in omega (arith, same)) ];
      met = λ k b lt from to. (let first : k ≡ 0 = omega arith in rw first (p.inside b from to));
      outside = λ q b one stored_q in_size out. p.outside q b in_size out;
      rest = λ q one none. p.rest q one (λ same. none 0 (omega arith) same);
    }

-- a slot that is put where it was, as a change that changes nothing
pub same-changes : (t v : Shape) (place : ℕ) (span : Span) (slot next : Slot) → v.nodes ≡ t.nodes → next ≡ slot → ((b : ℕ) → span.start ≤ b → b < span.start + span.len → slot_at t.nodes place b ≡ slot) → HasChanged (λ p b s. s ≡ next) t v (place ∷ []) 1 span
same-changes t v place span slot next e same slots =
    let none = nothing-changed (λ p b s. s ≡ next) t v (place ∷ []) span e in
    record {
      count = none.count;
      links = none.links;
      sized = none.sized;
      spare = none.spare;
      met = λ k b lt from to. (let first : k ≡ 0 = omega arith in rw first (ap (λ ns. slot_at ns place b) e ∙ slots b from to ∙ sym same));
      outside = none.outside;
      rest = λ q one no. none.rest q one (λ k less same. absurd (omega (arith, less)));
    }

-- away from the one place that has changed, a node is as it was
kept-else : (t u : Shape) (place : ℕ) (span : Span) (next : Slot) → HasChanged (λ p b s. s ≡ next) t u (place ∷ []) 1 span → (q : ℕ) → 1 ≤ q → (place ≡ q → ⊥) → node_at u.nodes q ≡ node_at t.nodes q
kept-else t u place span next h q some ne = h.rest q some (λ k lt same. (let first : k ≡ 0 = omega arith in ne (rw first at same)))

spare-of : (t u v : Shape) (After : ℕ → ℕ → Slot → Type 0) (places : List ℕ) (i place : ℕ) (span : Span) (next : Slot) → HasChanged After t u places i span → HasChanged (λ p b s. s ≡ next) u v (place ∷ []) 1 span → node_at u.nodes place ≡ node_at t.nodes place → (q : ℕ) → 1 ≤ q → (node_at t.nodes q).runs.spare ≤ (node_at v.nodes q).runs.spare + 2
spare-of t u v After places i place span next h p was q some =
    elim (cases_eq place q) [
      | inl here ↦ (let same : (node_at u.nodes q).runs.spare ≡ (node_at t.nodes q).runs.spare = subst (λ k. (node_at u.nodes k).runs.spare ≡ (node_at t.nodes k).runs.spare) here (ap (λ (n : Node). n.runs.spare) was) in let room = p.spare q in omega (arith, same, room))
      | inr ne ↦ (let same = ap (λ (n : Node). n.runs.spare) (kept-else u v place span next p q some ne) in let room = h.spare q in omega (arith, same, room))
    ]

pub spare-all : (t v : Shape) → ((q : ℕ) → 1 ≤ q → (node_at t.nodes q).runs.spare ≤ (node_at v.nodes q).runs.spare + 2) → (q : ℕ) → (node_at t.nodes q).runs.spare ≤ (node_at v.nodes q).runs.spare + 2
spare-all t v h zero = h 1 (omega arith)
spare-all t v h (suc q) = h (suc q) (omega arith)

-- one place more
pub changed-more : (After : ℕ → ℕ → Slot → Type 0) (t u v : Shape) (places : List ℕ) (i : ℕ) (span : Span) (next : Slot) → AreDistinct t places → i < length places → HasChanged After t u places i span → u.size ≡ t.size → HasChanged (λ p b s. s ≡ next) u v (entry places i ∷ []) 1 span →
    ((b : ℕ) → span.start ≤ b → b < span.start + span.len → After (entry places i) b next) → HasChanged After t v places (i + 1) span
changed-more After t u v places i span next d lt h size p after =
    let place : ℕ = entry places i in
    let was : node_at u.nodes place ≡ node_at t.nodes place = h.rest place (d.some i lt) (λ k less same. d.once k i less lt same) in
    record {
      count = p.count ∙ h.count;
      links = λ q. record {
        tag = (p.links q).tag ∙ (h.links q).tag;
        parent = (p.links q).parent ∙ (h.links q).parent;
        guard = (p.links q).guard ∙ (h.links q).guard;
        ends = (p.links q).ends ∙ (h.links q).ends;
      };
      sized = λ q. p.sized q ∙ h.sized q;
      spare = spare-all t v (spare-of t u v After places i place span next h p was);
      met = λ k b less from to. elim (cases_lt k i) [
        | inl old ↦ subst (After (entry places k) b) (sym (ap (λ (n : Node). get_or n.runs.bytes b no_slot) (kept-else u v place span next p (entry places k) (d.some k (omega (arith, old, lt))) (λ same. d.once k i old lt (sym same))))) (h.met k b old from to)
        | inr new ↦ (let here : k ≡ i = omega (arith, less, new) in subst (λ j. After (entry places j) b (slot_at v.nodes (entry places j) b)) (sym here) (subst (After place b) (sym (p.met 0 b (omega arith) from to)) (after b from to)))
      ];
      outside = λ q b some_q stored_q in_size out. p.outside q b some_q (omega (arith, stored_q, h.count)) (omega (arith, in_size, size)) out ∙ h.outside q b some_q stored_q in_size out;
      rest = λ q some_q none. kept-else u v place span next p q some_q (λ same. none i (omega arith) same) ∙ h.rest q some_q (λ k less same. none k (omega arith) same);
    }

-- a way down has each place once
pub rising-way : (n size : ℕ) (t : Shape) (path : List ℕ) → AreStored size t.nodes → IsWay t.nodes path → (j k : ℕ) → k ≤ n → j < k → k < length path → entry path j < entry path k
rising-way zero size t path h w j k le less lt = absurd (omega arith)
rising-way (suc n) size t path h w j k le less lt =
    let one : 1 ≤ k = omega (arith, less) in
    let up : (node_at t.nodes (entry path k)).parent ≡ entry path (k - 1) = w.parent k lt ∙ above-some path k one in
    let before = h.parent (entry path k) (w.some k lt) (w.stored k lt) in
    elim (cases_eq j (k - 1)) [
      | inl same ↦ (let e : entry path j ≡ entry path (k - 1) = ap (entry path) same in omega (arith, e, up, before))
      | inr other ↦ (let rest = rising-way n size t path h w j (k - 1) (omega (arith, le, one)) (omega (arith, less, other)) (omega (arith, lt)) in omega (arith, rest, up, before))
    ]
  where
    above-some : (path : List ℕ) (k : ℕ) → 1 ≤ k → above_entry path k ≡ entry path (k - 1)
    above-some path k one = rw (ne_eqb k 0 (λ e. omega (arith, e, one))) refl

pub way-distinct : (size : ℕ) (t : Shape) (path : List ℕ) → AreStored size t.nodes → IsWay t.nodes path → AreDistinct t path
way-distinct size t path h w = record {
  some = w.some;
  stored = w.stored;
  once = λ j k less lt same. (let up = rising-way k size t path h w j k (omega arith) less lt in omega (arith, up, same));
}

-- Where the bytes of a span have the same dates, and each node of a path one slot there, it sees the same.
pub seen-alike : (n size b : ℕ) (t : Shape) (path : List ℕ) (span : Span) → AreStored size t.nodes → IsWay t.nodes path → HaveOneSlot t path span.start (span.start + span.len) → IsDatedAlike t span → span.start ≤ b → b < span.start + span.len → (k : ℕ) → k ≤ n → k ≤ length path → seen t (above_entry path k) b ≡ seen t (above_entry path k) span.start
seen-alike zero size b t path span h w u d from to k le within = let e : k ≡ 0 = omega arith in rw e (d b from to)
seen-alike (suc n) size b t path span h w u d from to k le within =
    elim (cases_eq k 0) [
      | inl e ↦ rw e (d b from to)
      | inr ne ↦
          let lt : k - 1 < length path = omega (arith, ne, within) in
          let up = seen-alike n size b t path span h w u d from to (k - 1) (omega (arith, le, ne)) (omega (arith, within)) in
          let here : above_entry path k ≡ entry path (k - 1) = rw (ne_eqb k 0 ne) refl in
          let each : (c : ℕ) → seen t (entry path (k - 1)) c ≡ seen_below (node_at t.nodes (entry path (k - 1))).ends (slot_at t.nodes (entry path (k - 1)) c).met (seen t (above_entry path (k - 1)) c) =
          λ c. seen-up (entry path (k - 1)) c t (all-before size t.nodes h) (w.some (k - 1) lt) ∙ ap (λ p. seen_below (node_at t.nodes (entry path (k - 1))).ends (slot_at t.nodes (entry path (k - 1)) c).met (seen t p c)) (w.parent (k - 1) lt) in
          ap (λ p. seen t p b) here ∙ each b
          ∙ ap (λ (s : Slot). seen_below (node_at t.nodes (entry path (k - 1))).ends s.met (seen t (above_entry path (k - 1)) b)) (u (k - 1) b lt from to)
          ∙ ap (seen_below (node_at t.nodes (entry path (k - 1))).ends (slot_at t.nodes (entry path (k - 1)) span.start).met) up
          ∙ sym (each span.start) ∙ ap (λ p. seen t p span.start) (sym here)
    ]
