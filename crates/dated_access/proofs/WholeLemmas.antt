-- What was done at the path, at the other guarded nodes and at the dates is an access.
use Rattle.std.proofs.Common.{◌≡◌, ◌⊎◌, inl, inr, ℕ, ◌+◌, ◌<◌, ◌≤◌, nat_le, nat_lt, Bool, true, false, cond, List, length, get_or, Option, Some, None, refl, sym, ap, subst, ◌∙◌, arith}
use Rattle.std.proofs.lemmas.Bool.{cases_lt}
use Rattle.std.proofs.lemmas.Bool.Decides.{nat_tests}
use Rattle.std.proofs.lemmas.List.{get_or_default}
use Rattle.std.specs.List.{Contains}
use Rattle.bsan_ids.specs.declared.numbers.Span.{Span}
use Rattle.range_map.specs.Ranges.{Ranges, overwrite}
use Rattle.range_map.proofs.RunLemmas.{get_or-overwrite, length-overwrite}
use Rattle.perm_table.specs.declared.Kind.{Kind}
use Rattle.perm_table.specs.declared.Kind.TheVariants.{Read, Write}
use Rattle.perm_table.specs.declared.Guard.{Guard}
use Rattle.perm_table.specs.declared.Guard.TheVariants.{Free, Weak, Strong}
use Rattle.perm_table.specs.Table.{is_protected}
use Rattle.eager_tree.specs.Steps.{on_span}
use Rattle.dated_tree.specs.declared.node.Dates.{Dates}
use Rattle.dated_tree.specs.declared.node.Slot.{Slot}
use Rattle.dated_tree.specs.declared.node.Node.{Node}
use Rattle.dated_tree.specs.Shape.{Shape, node_at, slot_at, no_slot, counted}
use Rattle.dated_tree.specs.Dates.{last, seen, dated}
use Rattle.dated_tree.specs.Eager.{tag_at}
use Rattle.dated_tree.specs.Path.{is_on_path}
use Rattle.dated_tree.specs.Meet.{dated_by, IsSlotAfter, IsLocalSlot, IsForeignSlot}
use Rattle.dated_tree.specs.Access.{IsAccessed}
use Rattle.dated_tree.specs.Stored.{IsStored, written}
use Rattle.dated_access.specs.Path.{entry, IsPathTo}
use Rattle.dated_access.specs.Change.{HasChanged, AfterLocal, AfterForeign, AreDistinct, AreUniform, AreOthers}
use Rattle.dated_access.proofs.ChangeLemmas.{spare-all}

-- a byte lies in the span or outside
pub in-span : (span : Span) (b : ℕ) → ((span.start ≤ b) × (b < span.start + span.len)) ⊎ ((b < span.start) ⊎ (span.start + span.len ≤ b))
in-span span b =
    elim (cases_lt b span.start) [
      | inl less ↦ inr (inl less)
      | inr more ↦ elim (cases_lt b (span.start + span.len)) [ inl to ↦ inl (more, to) | inr past ↦ inr (inr past) ]
    ]

pub on_span-in : (span : Span) (kind : Kind) (b : ℕ) → span.start ≤ b → b < span.start + span.len → on_span span kind b ≡ Some kind
on_span-in span kind b from lt = grind (arith, nat_tests, from, lt)

pub on_span-out : (span : Span) (kind : Kind) (b : ℕ) → ((b < span.start) ⊎ (span.start + span.len ≤ b)) → on_span span kind b ≡ None
on_span-out span kind b (inl lt) = grind (arith, nat_tests, lt)
on_span-out span kind b (inr le) = grind (arith, nat_tests, le)

date-in : (from end b new old now : ℕ) → now ≡ cond (nat_le from b) (cond (nat_lt b end) new old) old → from ≤ b → b < end → now ≡ new
date-in from end b new old now is low high = grind (arith, nat_tests, is, low, high)

date-out : (from end b new old now : ℕ) → now ≡ cond (nat_le from b) (cond (nat_lt b end) new old) old → (b < from) ⊎ (end ≤ b) → now ≡ old
date-out from end b new old now is (inl low) = grind (arith, nat_tests, is, low)
date-out from end b new old now is (inr high) = grind (arith, nat_tests, is, high)

length-written : (kind : Kind) (span : Span) (date : ℕ) (dates : List ℕ) → span.start + span.len ≤ length dates → length (written kind span.start (span.start + span.len) date dates) ≡ length dates
length-written Read span date dates within = refl
length-written Write span date dates within = length-overwrite span.start (span.start + span.len) date dates (omega arith) within

overwritten : (span : Span) (date b : ℕ) (dates : List ℕ) → span.start + span.len ≤ length dates → b < length dates → get_or (overwrite span.start (span.start + span.len) date dates) b 0 ≡ cond (nat_le span.start b) (cond (nat_lt b (span.start + span.len)) date (get_or dates b 0)) (get_or dates b 0)
overwritten span date b dates within lt = get_or-overwrite span.start (span.start + span.len) b date 0 dates (omega arith) within lt

-- the dates of one byte
dates-in : (kind : Kind) (span : Span) (date b : ℕ) (accesses writes : List ℕ) → span.start + span.len ≤ length accesses → span.start + span.len ≤ length writes → span.start ≤ b → b < span.start + span.len →
    (let d : Dates = record { access = get_or (overwrite span.start (span.start + span.len) date accesses) b 0; write = get_or (written kind span.start (span.start + span.len) date writes) b 0 } in d) ≡ dated kind date (record { access = get_or accesses b 0; write = get_or writes b 0 })
dates-in Read span date b accesses writes la lw from to =
    ap (λ n. (let d : Dates = record { access = n; write = get_or writes b 0 } in d)) (date-in span.start (span.start + span.len) b date (get_or accesses b 0) _ (overwritten span date b accesses la (omega (arith, to, la))) from to)
dates-in Write span date b accesses writes la lw from to =
    ap (λ n. (let d : Dates = record { access = n; write = get_or (overwrite span.start (span.start + span.len) date writes) b 0 } in d)) (date-in span.start (span.start + span.len) b date (get_or accesses b 0) _ (overwritten span date b accesses la (omega (arith, to, la))) from to)
    ∙ ap (λ n. (let d : Dates = record { access = date; write = n } in d)) (date-in span.start (span.start + span.len) b date (get_or writes b 0) _ (overwritten span date b writes lw (omega (arith, to, lw))) from to)

write-out : (kind : Kind) (span : Span) (date b : ℕ) (writes : List ℕ) → span.start + span.len ≤ length writes → b < length writes → (b < span.start) ⊎ (span.start + span.len ≤ b) → get_or (written kind span.start (span.start + span.len) date writes) b 0 ≡ get_or writes b 0
write-out Read span date b writes lw lt out = refl
write-out Write span date b writes lw lt out = date-out span.start (span.start + span.len) b date (get_or writes b 0) _ (overwritten span date b writes lw lt) out

dates-out : (kind : Kind) (span : Span) (date b : ℕ) (accesses writes : List ℕ) → span.start + span.len ≤ length accesses → span.start + span.len ≤ length writes → b < length accesses → b < length writes → (b < span.start) ⊎ (span.start + span.len ≤ b) →
    (let d : Dates = record { access = get_or (overwrite span.start (span.start + span.len) date accesses) b 0; write = get_or (written kind span.start (span.start + span.len) date writes) b 0 } in d) ≡ record { access = get_or accesses b 0; write = get_or writes b 0 }
dates-out kind span date b accesses writes la lw ba bw out =
    ap (λ n. (let d : Dates = record { access = n; write = get_or (written kind span.start (span.start + span.len) date writes) b 0 } in d)) (date-out span.start (span.start + span.len) b date (get_or accesses b 0) _ (overwritten span date b accesses la ba) out)
    ∙ ap (λ n. (let d : Dates = record { access = get_or accesses b 0; write = n } in d)) (write-out kind span date b writes lw bw out)

-- what a slot has become, by cases
slot-cases : (o : Option Kind) (local : Bool) (guard : Guard) (ends : List ℕ) (date : ℕ) (above : Dates) (slot next : Slot) → (o ≡ None → next ≡ slot) → ((kind : Kind) → o ≡ Some kind → local ≡ true → IsLocalSlot kind guard ends date above slot next) → ((kind : Kind) → o ≡ Some kind → local ≡ false → is_protected guard ≡ true → IsForeignSlot kind guard slot next) →
    (local ≡ false → guard ≡ Free → next ≡ slot) → IsSlotAfter o local guard ends date above slot next
slot-cases None local guard ends date above slot next none here other free = none refl
slot-cases (Some kind) true guard ends date above slot next none here other free = here kind refl refl
slot-cases (Some kind) false Free ends date above slot next none here other free = free refl refl
slot-cases (Some kind) false Weak ends date above slot next none here other free = other kind refl refl refl
slot-cases (Some kind) false Strong ends date above slot next none here other free = other kind refl refl refl

true-not-false : (b : Bool) → b ≡ true → b ≡ false → ⊥
true-not-false true e f = cc
true-not-false false e f = cc

not-free : (guard : Guard) → guard ≡ Free → is_protected guard ≡ true → ⊥
not-free Free e p = cc
not-free Weak e p = cc
not-free Strong e p = cc

same-kind : (span : Span) (kind k : Kind) (b : ℕ) → on_span span kind b ≡ Some k → ((span.start ≤ b) × (b < span.start + span.len)) × (kind ≡ k)
same-kind span kind k b e =
    elim (in-span span b) [
      | inl inside ↦ (inside, some-kind kind k (sym (on_span-in span kind b inside.0 inside.1) ∙ e))
      | inr out ↦ absurd (none-some k (sym (on_span-out span kind b out) ∙ e))
    ]
  where
    some-kind : (a c : Kind) → Some a ≡ Some c → a ≡ c
    some-kind a c e = cc

    none-some : (c : Kind) → None ≡ Some c → ⊥
    none-some c e = cc

none-out : (span : Span) (kind : Kind) (b : ℕ) → on_span span kind b ≡ None → (b < span.start) ⊎ (span.start + span.len ≤ b)
none-out span kind b e =
    elim (in-span span b) [
      | inl inside ↦ absurd (some-none kind (sym (on_span-in span kind b inside.0 inside.1) ∙ e))
      | inr out ↦ out
    ]
  where
    some-none : (c : Kind) → Some c ≡ None → ⊥
    some-none c e = cc

entry-of : (places : List ℕ) (place : ℕ) (h : Contains places place) → entry places h.0 ≡ place
entry-of places place h = get_or_default places h.0 0 place h.1 ∙ h.2

slot-of : (t u : Shape) (place b : ℕ) → node_at u.nodes place ≡ node_at t.nodes place → slot_at u.nodes place b ≡ slot_at t.nodes place b
slot-of t u place b e = ap (λ (n : Node). get_or n.runs.bytes b no_slot) e

-- a node of the path is no other one
off-others : (t : Shape) (x place : ℕ) (others : List ℕ) → AreOthers t x others → is_on_path t.nodes x place ≡ true → (k : ℕ) → k < length others → entry others k ≡ place → ⊥
off-others t x place others o on k lt e = true-not-false (is_on_path t.nodes x place) on (ap (is_on_path t.nodes x) (sym e) ∙ o.off k lt)

off-path : (t : Shape) (x place : ℕ) (path : List ℕ) → IsPathTo t.nodes x path → is_on_path t.nodes x place ≡ false → (k : ℕ) → k < length path → entry path k ≡ place → ⊥
off-path t x place path p off k lt e = true-not-false (is_on_path t.nodes x place) (ap (is_on_path t.nodes x) (sym e) ∙ p.sound k lt) off

-- the other nodes are as they were when the path has met the access
pub others-kept : (t u : Shape) (x : ℕ) (path others : List ℕ) (kind : Kind) (span : Span) → IsPathTo t.nodes x path → AreOthers t x others → HasChanged (AfterLocal t kind) t u path (length path) span → (k : ℕ) → k < length others → node_at u.nodes (entry others k) ≡ node_at t.nodes (entry others k)
others-kept t u x path others kind span p o h k lt = h.rest (entry others k) (o.distinct.some k lt) (λ j low same. off-path t x (entry others k) path p (o.off k lt) j low same)

pub others-distinct : (t u : Shape) (others : List ℕ) → length u.nodes ≡ length t.nodes → AreDistinct t others → AreDistinct u others
others-distinct t u others count d = record { some = d.some; stored = λ k lt. (let s = d.stored k lt in omega (arith, s, count)); once = d.once }

pub others-uniform : (t u : Shape) (x : ℕ) (path others : List ℕ) (kind : Kind) (span : Span) → 1 ≤ span.len → IsPathTo t.nodes x path → AreOthers t x others → HasChanged (AfterLocal t kind) t u path (length path) span → AreUniform t others span → AreUniform u others span
others-uniform t u x path others kind span some p o h a = record {
  slots = λ k b lt from to. slot-of t u (entry others k) b (others-kept t u x path others kind span p o h k lt) ∙ a.slots k b lt from to ∙ sym (slot-of t u (entry others k) span.start (others-kept t u x path others kind span p o h k lt));
  room = λ k lt. (let room = a.room k lt in let same = ap (λ (n : Node). n.runs.spare) (others-kept t u x path others kind span p o h k lt) in omega (arith, room, same));
}

slots-after : (t u v : Shape) (x : ℕ) (path others : List ℕ) (kind : Kind) (span : Span) → IsPathTo t.nodes x path → AreOthers t x others → u.size ≡ t.size → HasChanged (AfterLocal t kind) t u path (length path) span → HasChanged (AfterForeign u kind) u v others (length others) span →
    (place b : ℕ) → 1 ≤ place → place ≤ length t.nodes → b < t.size → IsSlotAfter (on_span span kind b) (is_on_path t.nodes x place) (node_at t.nodes place).guard (node_at t.nodes place).ends t.clock (seen t place b) (slot_at t.nodes place b) (slot_at v.nodes place b)
slots-after t u v x path others kind span p o size h g place b some stored in_size =
    slot-cases (on_span span kind b) (is_on_path t.nodes x place) (node_at t.nodes place).guard (node_at t.nodes place).ends t.clock (seen t place b) (slot_at t.nodes place b) (slot_at v.nodes place b)
    (λ e. (let out = none-out span kind b e in g.outside place b some (omega (arith, stored, h.count)) (omega (arith, in_size, size)) out ∙ h.outside place b some stored in_size out))
    (λ k e on.
    let inside = same-kind span kind k b e in
    let among = p.whole place some on in
    let met : AfterLocal t kind (entry path among.0) b (slot_at u.nodes (entry path among.0) b) = h.met among.0 b among.1 inside.0.0 inside.0.1 in
    let here : AfterLocal t kind place b (slot_at u.nodes place b) = subst (λ q. AfterLocal t kind q b (slot_at u.nodes q b)) (entry-of path place among) met in
    let kept : slot_at v.nodes place b ≡ slot_at u.nodes place b = slot-of u v place b (g.rest place some (λ j low same. off-others t x place others o on j low same)) in
    subst (λ c. IsLocalSlot c (node_at t.nodes place).guard (node_at t.nodes place).ends t.clock (seen t place b) (slot_at t.nodes place b) (slot_at v.nodes place b)) inside.1
    (subst (λ s. IsLocalSlot kind (node_at t.nodes place).guard (node_at t.nodes place).ends t.clock (seen t place b) (slot_at t.nodes place b) s) (sym kept) here))
    (λ k e off protected.
    let inside = same-kind span kind k b e in
    let among = o.whole place some stored off protected in
    let met : AfterForeign u kind (entry others among.0) b (slot_at v.nodes (entry others among.0) b) = g.met among.0 b among.1 inside.0.0 inside.0.1 in
    let here : AfterForeign u kind place b (slot_at v.nodes place b) = subst (λ q. AfterForeign u kind q b (slot_at v.nodes q b)) (entry-of others place among) met in
    let kept : slot_at u.nodes place b ≡ slot_at t.nodes place b = slot-of t u place b (h.rest place some (λ j low same. off-path t x place path p off j low same)) in
    subst (λ c. IsForeignSlot c (node_at t.nodes place).guard (slot_at t.nodes place b) (slot_at v.nodes place b)) inside.1
    (subst (λ s. IsForeignSlot kind (node_at t.nodes place).guard s (slot_at v.nodes place b)) kept
    (subst (λ d. IsForeignSlot kind d (slot_at u.nodes place b) (slot_at v.nodes place b)) (h.links place).guard here)))
    (λ off free.
    slot-of u v place b (g.rest place some (λ j low same. not-free (node_at t.nodes place).guard free (ap (λ q. is_protected (node_at t.nodes q).guard) (sym same) ∙ o.guarded j low)))
    ∙ slot-of t u place b (h.rest place some (λ j low same. off-path t x place path p off j low same)))

pub last-after : (t w : Shape) (kind : Kind) (span : Span) → IsStored t → span.start + span.len ≤ t.size → w.accesses.bytes ≡ overwrite span.start (span.start + span.len) t.clock t.accesses.bytes → w.writes.bytes ≡ written kind span.start (span.start + span.len) t.clock t.writes.bytes → (b : ℕ) → b < t.size → last w b ≡ dated_by (on_span span kind b) t.clock (last t b)
last-after t w kind span s within ea ew b in_size =
    let la : span.start + span.len ≤ length t.accesses.bytes = omega (arith, within, s.accesses) in
    let lw : span.start + span.len ≤ length t.writes.bytes = omega (arith, within, s.writes) in
    ap (λ l. (let d : Dates = record { access = get_or l b 0; write = get_or w.writes.bytes b 0 } in d)) ea
    ∙ ap (λ l. (let d : Dates = record { access = get_or (overwrite span.start (span.start + span.len) t.clock t.accesses.bytes) b 0; write = get_or l b 0 } in d)) ew
    ∙ elim (in-span span b) as (λ _. (let d : Dates = record { access = get_or (overwrite span.start (span.start + span.len) t.clock t.accesses.bytes) b 0; write = get_or (written kind span.start (span.start + span.len) t.clock t.writes.bytes) b 0 } in d) ≡ dated_by (on_span span kind b) t.clock (last t b)) [
      | inl inside ↦ dates-in kind span t.clock b t.accesses.bytes t.writes.bytes la lw inside.0 inside.1 ∙ ap (λ o. dated_by o t.clock (last t b)) (sym (on_span-in span kind b inside.0 inside.1))
      | inr out ↦ dates-out kind span t.clock b t.accesses.bytes t.writes.bytes la lw (omega (arith, in_size, s.accesses)) (omega (arith, in_size, s.writes)) out ∙ ap (λ o. dated_by o t.clock (last t b)) (sym (on_span-out span kind b out))
    ]

-- the path, the others and the dates together are the access
pub accessed : (t u v w : Shape) (x : ℕ) (path others : List ℕ) (kind : Kind) (span : Span) → IsStored t → span.start + span.len ≤ t.size → t.actor ≡ Some (tag_at t x) → IsPathTo t.nodes x path → AreOthers t x others →
    u ≡ record t { nodes = u.nodes; visits = u.visits } → HasChanged (AfterLocal t kind) t u path (length path) span →
    v ≡ record u { nodes = v.nodes; visits = v.visits } → HasChanged (AfterForeign u kind) u v others (length others) span →
    w ≡ record (counted v) { accesses = w.accesses; writes = w.writes } → w.accesses.bytes ≡ overwrite span.start (span.start + span.len) v.clock v.accesses.bytes → w.writes.bytes ≡ written kind span.start (span.start + span.len) v.clock v.writes.bytes →
    IsAccessed x (on_span span kind) t.clock t w
accessed t u v w x path others kind span s within actor p o eu h ev g ew ea ewr =
    let clock : v.clock ≡ t.clock = ap (λ (q : Shape). q.clock) ev ∙ ap (λ (q : Shape). q.clock) eu in
    let was_a : v.accesses ≡ t.accesses = ap (λ (q : Shape). q.accesses) ev ∙ ap (λ (q : Shape). q.accesses) eu in
    let was_w : v.writes ≡ t.writes = ap (λ (q : Shape). q.writes) ev ∙ ap (λ (q : Shape). q.writes) eu in
    let nodes : w.nodes ≡ v.nodes = ap (λ (q : Shape). q.nodes) ew in
    let access : w.accesses.bytes ≡ overwrite span.start (span.start + span.len) t.clock t.accesses.bytes = ea ∙ ap (λ d. overwrite span.start (span.start + span.len) d v.accesses.bytes) clock ∙ ap (λ (m : Ranges ℕ). overwrite span.start (span.start + span.len) t.clock m.bytes) was_a in
    let write : w.writes.bytes ≡ written kind span.start (span.start + span.len) t.clock t.writes.bytes = ewr ∙ ap (λ d. written kind span.start (span.start + span.len) d v.writes.bytes) clock ∙ ap (λ (m : Ranges ℕ). written kind span.start (span.start + span.len) t.clock m.bytes) was_w in
    record {
      root = ap (λ (q : Shape). q.root) ew ∙ ap (λ (q : Shape). q.root) ev ∙ ap (λ (q : Shape). q.root) eu;
      size = ap (λ (q : Shape). q.size) ew ∙ ap (λ (q : Shape). q.size) ev ∙ ap (λ (q : Shape). q.size) eu;
      now = ap (λ (q : Shape). q.clock) ew ∙ clock;
      actor = ap (λ (q : Shape). q.actor) ew ∙ ap (λ (q : Shape). q.actor) ev ∙ ap (λ (q : Shape). q.actor) eu ∙ actor;
      guarded = ap (λ (q : Shape). q.guarded) ew ∙ ap (λ (q : Shape). q.guarded) ev ∙ ap (λ (q : Shape). q.guarded) eu;
      count = ap length nodes ∙ g.count ∙ h.count;
      links = λ q. record {
        tag = ap (λ ns. (node_at ns q).tag) nodes ∙ (g.links q).tag ∙ (h.links q).tag;
        parent = ap (λ ns. (node_at ns q).parent) nodes ∙ (g.links q).parent ∙ (h.links q).parent;
        guard = ap (λ ns. (node_at ns q).guard) nodes ∙ (g.links q).guard ∙ (h.links q).guard;
        ends = ap (λ ns. (node_at ns q).ends) nodes ∙ (g.links q).ends ∙ (h.links q).ends;
      };
      sized = λ q. ap (λ ns. length (node_at ns q).runs.bytes) nodes ∙ g.sized q ∙ h.sized q;
      accesses = ap length access ∙ length-overwrite span.start (span.start + span.len) t.clock t.accesses.bytes (omega arith) (omega (arith, within, s.accesses));
      writes = ap length write ∙ length-written kind span t.clock t.writes.bytes (omega (arith, within, s.writes));
      last = last-after t w kind span s within access write;
      slots = λ place b some stored in_size. subst (λ ns. IsSlotAfter (on_span span kind b) (is_on_path t.nodes x place) (node_at t.nodes place).guard (node_at t.nodes place).ends t.clock (seen t place b) (slot_at t.nodes place b) (slot_at ns place b)) (sym nodes)
          (slots-after t u v x path others kind span p o (ap (λ (q : Shape). q.size) eu) h g place b some stored in_size);
    }

-- no node has taken room for more than two runs
pub spare-after : (t u v w : Shape) (x : ℕ) (path others : List ℕ) (kind : Kind) (span : Span) → IsPathTo t.nodes x path → AreOthers t x others → HasChanged (AfterLocal t kind) t u path (length path) span → HasChanged (AfterForeign u kind) u v others (length others) span → w.nodes ≡ v.nodes →
    (place : ℕ) → (node_at t.nodes place).runs.spare ≤ (node_at w.nodes place).runs.spare + 2
spare-after t u v w x path others kind span p o h g e place =
    subst (λ ns. (node_at t.nodes place).runs.spare ≤ (node_at ns place).runs.spare + 2) (sym e) (spare-all t v (λ q some. each q some (is_on_path t.nodes x q) refl) place)
  where
    each : (q : ℕ) → 1 ≤ q → (b : Bool) → is_on_path t.nodes x q ≡ b → (node_at t.nodes q).runs.spare ≤ (node_at v.nodes q).runs.spare + 2
    each q some true on =
        let kept = ap (λ (n : Node). n.runs.spare) (g.rest q some (λ j low same. off-others t x q others o on j low same)) in
        let room = h.spare q in
        omega (arith, kept, room)
    each q some false off =
        let kept = ap (λ (n : Node). n.runs.spare) (h.rest q some (λ j low same. off-path t x q path p off j low same)) in
        let room = g.spare q in
        omega (arith, kept, room)
