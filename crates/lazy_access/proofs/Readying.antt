-- What a tree was ready for, it is with more room.
use Rattle.std.proofs.Common.{◌≡◌, ℕ, zero, suc, ◌+◌, ◌-◌, ◌*◌, ◌<◌, ◌≤◌, ◌||◌, Bool, true, false, List, [], ◌∷◌, length, get_or, eqb, Result, Ok, Err, OnOk, OnErr, sym, ap, subst, ◌∙◌, arith, inl, inr}
use Rattle.std.proofs.lemmas.Bool.Decides.{nat_tests}
use Rattle.bsan_ids.specs.declared.numbers.Tag.{Tag}
use Rattle.bsan_ids.specs.declared.numbers.Span.{Span}
use Rattle.perm_table.specs.declared.Kind.{Kind}
use Rattle.range_map.specs.Ranges.{has_start}
use Rattle.lazy_tree.specs.declared.slot.Slot.{Slot}
use Rattle.lazy_tree.specs.declared.tree.Node.{Node}
use Rattle.lazy_tree.specs.Shape.{Shape}
use Rattle.lazy_tree.specs.Ring.{count}
use Rattle.lazy_tree.specs.Skip.{node_at, no_slot, need, rank, IsRootAlone}
use Rattle.lazy_tree.proofs.Counting.{count-none}
use Rattle.lazy_access.specs.declared.request.TreeRequest.TheVariants.{Access, Retag, EndProtector, FreeAll}
use Rattle.lazy_access.specs.Change.{IsRoomier}
use Rattle.lazy_access.specs.Ends.{HasEndRoomOn, HasEndRoom, runs_from}
use Rattle.lazy_access.specs.Ready.{IsReadyToAccess, KeepsReady}
use Rattle.lazy_access.specs.Requests.{HasWalk, HasRoom}
use Rattle.lazy_access.proofs.Ending.{end-room-more, runs-same}
use Rattle.lazy_access.proofs.Reserving.{roomier-itself, reached-links, local-links}

room-kept : (before now : List Node) (x : ℕ) (below : Bool) (span : Span) (kind : Kind) (runs : ℕ) → IsRoomier before now → HasRoom before x below span kind runs → HasRoom now x below span kind runs
room-kept before now x below span kind runs r h i lt reached =
    elim (h i (let c = r.links.count in omega (arith, lt, c)) (reached-links before now x i below r.links reached)) [
      | inl some ↦ inl (let s = r.spare i in omega (arith, some, s))
      | inr covered ↦ inr (
        local-links before now x i r.links ∙ covered.0,
        λ b from to. subst (λ (l : List Slot). need kind ≤ rank (get_or l b no_slot).level) (sym (r.bytes i)) (covered.1 b from to),
      )
    ]

end-kept : (size : ℕ) (before now : List Node) (x : ℕ) → IsRoomier before now → HasEndRoom size before x → HasEndRoom size now x
end-kept size before now x r h =
    subst (λ n. HasEndRoomOn now x 0 size (2 * n)) (sym (runs-same size before now x r))
    (end-room-more before now x size size (2 * runs_from size before x 0) r h (λ i b kind lt reached from to made. absurd (omega (arith, from, to))))

access-kept : (t u : Shape) (tag : Tag) (span : Span) (kind : Kind) → IsRoomier t.nodes u.nodes → (HasWalk t → HasWalk u) → IsReadyToAccess t tag span kind → IsReadyToAccess u tag span kind
access-kept t u tag span kind r walk h = record {
  walk = walk h.walk;
  cuts = λ x lt same. room-kept t.nodes u.nodes x true span kind 2 r (h.cuts x (let c = r.links.count in omega (arith, lt, c)) (sym (r.links.tag x) ∙ same));
}

-- with the same bytes, and no less room
pub ready-roomier : (t u : Shape) → u.size ≡ t.size → IsRoomier t.nodes u.nodes → (HasWalk t → HasWalk u) → t.spare ≤ u.spare → u.ready ≡ t.ready → KeepsReady t u
ready-roomier t u size r walk spare ready (Access tag span kind) h = access-kept t u tag span kind r walk h
ready-roomier t u size r walk spare ready (Retag parent span kind guard) h = record {
  stored = (let c = r.links.count in omega (arith, h.stored, c));
  access = access-kept t u parent span _ r walk h.access;
  room = omega (arith, spare, h.room);
  child = rw (ready, size) h.child;
}
ready-roomier t u size r walk spare ready (EndProtector tag) h = record {
  walk = walk h.walk;
  cuts = λ x lt same. rw size (end-kept t.size t.nodes u.nodes x r (h.cuts x (let c = r.links.count in omega (arith, lt, c)) (sym (r.links.tag x) ∙ same)));
}
ready-roomier t u size r walk spare ready (FreeAll tag) h = walk h

-- with the same nodes
pub ready-same : (t u : Shape) → u.size ≡ t.size → u.nodes ≡ t.nodes → (HasWalk t → HasWalk u) → t.spare ≤ u.spare → u.ready ≡ t.ready → KeepsReady t u
ready-same t u size nodes walk spare ready = ready-roomier t u size (subst (λ (ns : List Node). IsRoomier t.nodes ns) (sym nodes) (roomier-itself t.nodes)) walk spare ready

none-after : (b : ℕ) → 1 ≤ b → (eqb b 0 || (eqb 0 b || false)) ≡ false
none-after b low = grind (arith, nat_tests, low)

-- one run begins, at the first byte
one-run : (size : ℕ) (nodes : List Node) (x : ℕ) → (node_at nodes x).runs.starts ≡ 0 ∷ [] → runs_from size nodes x 0 ≤ 1
one-run size nodes x e = subst (λ (ss : List ℕ). count (λ b. eqb b 0 || has_start b ss) 0 (size - 0) ≤ 1) (sym e) (few (size - 0)) where
  rest : (n : ℕ) → count (λ b. eqb b 0 || has_start b (0 ∷ [])) (0 + 1) n ≡ 0
  rest n = count-none (λ b. eqb b 0 || has_start b (0 ∷ [])) (0 + 1) n (λ b low high. none-after b (omega (arith, low)))

  few : (n : ℕ) → count (λ b. eqb b 0 || has_start b (0 ∷ [])) 0 n ≤ 1
  few zero = omega arith
  few (suc n) = omega (arith, rest n)

root-room : (nodes : List Node) (x : ℕ) (below : Bool) (span : Span) (kind : Kind) → length nodes ≡ 1 → 2 ≤ (node_at nodes 0).runs.spare → HasRoom nodes x below span kind 2
root-room nodes x below span kind one spare i lt reached =
    inl (let first : i ≡ 0 = omega (arith, lt, one) in rw first spare)

root-end-room : (size : ℕ) (nodes : List Node) (x : ℕ) → length nodes ≡ 1 → x < length nodes → (node_at nodes 0).runs.starts ≡ 0 ∷ [] → 2 ≤ (node_at nodes 0).runs.spare → HasEndRoom size nodes x
root-end-room size nodes x one low starts spare i b kind lt reached from to made =
    let first : i ≡ 0 = omega (arith, lt, one) in
    let same : x ≡ 0 = omega (arith, low, one) in
    let few : runs_from size nodes x 0 ≤ 1 = one-run size nodes x (rw same starts) in
    inl (let room : 2 ≤ (node_at nodes i).runs.spare = rw first spare in omega (arith, few, room))

root-ready : (t u : Shape) → t.nodes ≡ [] → length u.nodes ≡ 1 → (node_at u.nodes 0).runs.starts ≡ 0 ∷ [] → 2 ≤ (node_at u.nodes 0).runs.spare → HasWalk u → KeepsReady t u
root-ready t u none one starts spare walk (Access tag span kind) h = record { walk = walk; cuts = λ x lt same. root-room u.nodes x true span kind one spare }
root-ready t u none one starts spare walk (Retag parent span kind guard) h = absurd (let e : length t.nodes ≡ 0 = ap length none in omega (arith, e, h.stored))
root-ready t u none one starts spare walk (EndProtector tag) h = record { walk = walk; cuts = λ x lt same. root-end-room u.size u.nodes x one lt starts spare }
root-ready t u none one starts spare walk (FreeAll tag) h = walk

unstored-ready : (t u : Shape) → t.nodes ≡ [] → length u.nodes ≡ 0 → (HasWalk t → HasWalk u) → KeepsReady t u
unstored-ready t u none empty walk (Access tag span kind) h = record { walk = walk h.walk; cuts = λ x lt same. absurd (omega (arith, empty, lt)) }
unstored-ready t u none empty walk (Retag parent span kind guard) h = absurd (let e : length t.nodes ≡ 0 = ap length none in omega (arith, e, h.stored))
unstored-ready t u none empty walk (EndProtector tag) h = record { walk = walk h.walk; cuts = λ x lt same. absurd (omega (arith, empty, lt)) }
unstored-ready t u none empty walk (FreeAll tag) h = walk h

-- the same room for a walk, or more
pub walk-grows : (t u : Shape) → length u.nodes ≡ length t.nodes → u.marks ≡ t.marks → t.list_room ≤ u.list_room → HasWalk t → HasWalk u
walk-grows t u count marks list h = record { marks = marks ∙ h.marks ∙ sym count; list = omega (arith, count, list, h.list) }

-- the root that is stored has the room that it may need
pub stored-ready : {A E : Type 0} (r : Result A E) (t u : Shape) → t.nodes ≡ [] → OnOk r (IsRootAlone t.root t.size u.nodes) → OnOk r (2 ≤ (node_at u.nodes 0).runs.spare) → OnOk r (u.marks ≡ 1) → OnOk r (1 ≤ u.list_room) → OnErr r (u.nodes ≡ t.nodes) → OnErr r (u.marks ≡ t.marks) → t.list_room ≤ u.list_room → KeepsReady t u
stored-ready (Ok a) t u none root room marks list nodes err grows =
    let one : length u.nodes ≡ 1 = ap length root.alone in
    root-ready t u none one root.starts room (record { marks = marks ∙ sym one; list = omega (arith, one, list) })
stored-ready (Err e) t u none root room marks list nodes err grows =
    unstored-ready t u none (ap length (nodes ∙ none)) (walk-grows t u (ap length nodes) err grows)

-- the room for a walk that was made, or was there
pub walk-made : {A E : Type 0} (r : Result A E) (t u : Shape) → u.nodes ≡ t.nodes → OnOk r (u.marks ≡ length t.nodes) → OnOk r (length t.nodes ≤ u.list_room) → OnErr r (u.marks ≡ t.marks) → t.list_room ≤ u.list_room → HasWalk t → HasWalk u
walk-made (Ok a) t u nodes marks list err grows h = record { marks = marks ∙ ap length (sym nodes); list = (let e : length u.nodes ≡ length t.nodes = ap length nodes in omega (arith, e, list)) }
walk-made (Err e) t u nodes marks list err grows h = walk-grows t u (ap length nodes) err grows h

pub access-same : (t u : Shape) (tag : Tag) (span : Span) (kind : Kind) → u.nodes ≡ t.nodes → u.marks ≡ t.marks → u.list_room ≡ t.list_room → IsReadyToAccess t tag span kind → IsReadyToAccess u tag span kind
access-same t u tag span kind nodes marks list h =
    access-kept t u tag span kind (subst (λ (ns : List Node). IsRoomier t.nodes ns) (sym nodes) (roomier-itself t.nodes)) (walk-grows t u (ap length nodes) marks (omega (arith, list))) h

-- what holds after both ends holds after an error
pub after-any : {A E : Type 0} (r : Result A E) (P : Type 0) → P → OnErr r P
after-any (Ok a) P h = tt
after-any (Err e) P h = h
