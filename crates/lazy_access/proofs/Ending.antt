-- The end of a protector: the run of a node at hand, and one run after another.
use Rattle.std.proofs.Common.{◌≡◌, ◌⊎◌, ℕ, ◌+◌, ◌-◌, ◌*◌, ◌<◌, ◌≤◌, ◌||◌, Bool, true, false, eqb, eq-eqb, List, length, get_or, Option, Some, None, refl, sym, ap, subst, ◌∙◌, arith, inl, inr}
use Rattle.std.proofs.lemmas.Bool.{cases_lt, cases_eq, ne_eqb}
use Rattle.bsan_ids.specs.declared.numbers.Span.{Span}
use Rattle.perm_table.specs.declared.Guard.{Guard}
use Rattle.perm_table.specs.declared.Kind.{Kind}
use Rattle.perm_table.specs.declared.Kind.TheVariants.{Read, Write}
use Rattle.range_map.specs.Ranges.{IsRanges, has_start, next_start}
use Rattle.eager_tree.specs.Visit.{next_cell}
use Rattle.eager_tree.specs.Steps.{implicit_kind}
use Rattle.lazy_tree.specs.declared.slot.Slot.{Slot}
use Rattle.lazy_tree.specs.declared.tree.Node.{Node}
use Rattle.lazy_tree.specs.Ring.{count}
use Rattle.lazy_tree.specs.Skip.{node_at, slot_at, no_slot, need, rank, run_after, IsSound}
use Rattle.lazy_tree.specs.Eager.{eager_cell}
use Rattle.lazy_tree.specs.Quiet.{slot_outcome}
use Rattle.lazy_tree.proofs.Counting.{count-split, count-first, count-none, count-within}
use Rattle.lazy_access.specs.declared.check.Found.{Found}
use Rattle.lazy_access.specs.Step.{stepped, is_denied}
use Rattle.lazy_access.specs.Walk.{IsReached, IsMet, Finds, denies}
use Rattle.lazy_access.specs.Change.{AddsStarts, IsDone, IsRoomier}
use Rattle.lazy_access.specs.Requests.{local_in, HasCuts, HasRoom}
use Rattle.lazy_access.specs.Ends.{end_kind, DeniesEnd, NoEndDenial, IsLeastEnd, FindsEnd, IsEnded, runs_from, HasEndRoomOn}
use Rattle.lazy_access.proofs.Places.{met-all}
use Rattle.lazy_access.proofs.Changing.{links-itself, links-through, next_start-cases}
use Rattle.lazy_access.proofs.Cutting.{next_start-before}
use Rattle.lazy_access.proofs.Reserving.{reached-links, reached-back, local-links}

none-some : {A : Type 0} (k : A) → None ≡ Some k → ⊥
none-some k e = cc

one-kind : (o : Option Kind) (a b : Kind) → o ≡ Some a → o ≡ Some b → a ≡ b
one-kind o a b e f = some-one a b (sym e ∙ f)
  where
    some-one : (a b : Kind) → Some a ≡ Some b → a ≡ b
    some-one a b e = cc

-- all bytes from `at` to before `end` have one slot at a node
abbrev pub IsUniform : List Node → ℕ → ℕ → ℕ → Type 0
IsUniform nodes x at end = (b : ℕ) → at ≤ b → b < end → slot_at nodes x b ≡ slot_at nodes x at

kind-run : (nodes : List Node) (x at end b : ℕ) → IsUniform nodes x at end → at ≤ b → b < end → end_kind nodes x b ≡ end_kind nodes x at
kind-run nodes x at end b same from to = ap (λ (s : Slot). implicit_kind (eager_cell s)) (same b from to)

-- a run at which the node's end makes no access
pub run-none : (nodes : List Node) (x at end : ℕ) → IsUniform nodes x at end → end_kind nodes x at ≡ None → NoEndDenial nodes x at end
run-none nodes x at end same none i b from to d = none-some d.kind (sym none ∙ sym (kind-run nodes x at end b same from to) ∙ d.made)

-- a denial of the end at a run is one of the access that it makes there
run-denies : (nodes : List Node) (x at end i b : ℕ) (kind : Kind) → IsUniform nodes x at end → end_kind nodes x at ≡ Some kind → at ≤ b → b < end → DeniesEnd nodes x i b → denies nodes (local_in nodes x) kind i b ≡ true
run-denies nodes x at end i b kind same is from to d =
    subst (λ (k : Kind). denies nodes (local_in nodes x) k i b ≡ true) (one-kind (end_kind nodes x b) d.kind kind d.made (kind-run nodes x at end b same from to ∙ is)) d.denied

pub run-found : (size : ℕ) (nodes : List Node) (x at end : ℕ) (kind : Kind) (span : Span) (found : Option Found) → IsSound size nodes → IsUniform nodes x at end → end_kind nodes x at ≡ Some kind → span.start ≡ at → span.start + span.len ≡ end →
    Finds nodes (local_in nodes x) kind span (IsMet nodes x false (length nodes)) found → FindsEnd nodes x at end found
run-found size nodes x at end kind span None h same is start stop finds = λ i b from to d.
    let fine : denies nodes (local_in nodes x) kind i b ≡ false = finds i b (met-all nodes x false i h.linked d.within d.reached) (omega (arith, from, start)) (omega (arith, to, stop)) in
    let wrong : true ≡ false = sym (run-denies nodes x at end i b kind same is from to d) ∙ fine in cc
run-found size nodes x at end kind span (Some f) h same is start stop finds =
    let low : at ≤ f.offset = (let l = finds.from in omega (arith, l, start)) in
    let high : f.offset < end = (let l = finds.to in omega (arith, l, stop)) in
    record {
      low = low;
      high = high;
      denied = record { within = finds.node.within; reached = finds.node.reached; kind = kind; made = kind-run nodes x at end f.offset same low high ∙ is; denied = finds.denied };
      local_there = finds.local_there;
      perm = finds.perm;
      least = λ i b from to d. finds.least i b (met-all nodes x false i h.linked d.within d.reached) (omega (arith, from, start)) (omega (arith, to, stop)) (run-denies nodes x at end i b kind same is from to d);
    }

-- the first denial of a run, after runs without one
pub end-found : (nodes : List Node) (x at end size : ℕ) (f : Found) → NoEndDenial nodes x 0 at → end ≤ size → IsLeastEnd nodes x at end f → IsLeastEnd nodes x 0 size f
end-found nodes x at end size f none within h =
    let high = h.high in
    record {
      low = omega arith;
      high = omega (arith, high, within);
      denied = h.denied;
      local_there = h.local_there;
      perm = h.perm;
      least = λ i b from to d. elim (cases_lt b at) [
        | inl before ↦ absurd (none i b from before d)
        | inr past ↦ elim (cases_lt b end) [
          | inl inside ↦ h.least i b past inside d
          | inr after ↦ inl (omega (arith, high, after))
        ]
      ];
    }

pub end-more : (nodes : List Node) (x at end : ℕ) → NoEndDenial nodes x 0 at → NoEndDenial nodes x at end → NoEndDenial nodes x 0 end
end-more nodes x at end one two i b from to d = elim (cases_lt b at) [ inl before ↦ one i b from before d | inr past ↦ two i b past to d ]

-- room at each byte of a run is room for the cuts of the access there
pub run-cuts : (size : ℕ) (nodes : List Node) (x at end : ℕ) (kind : Kind) (span : Span) → IsUniform nodes x at end → at < end → end_kind nodes x at ≡ Some kind → span.start ≡ at → span.start + span.len ≡ end → HasEndRoomOn nodes x at end 2 → HasCuts size nodes x false span kind
run-cuts size nodes x at end kind span same some is start stop room i lt reached =
    elim (cases_lt (node_at nodes i).runs.spare 2) [
      | inr more ↦ inl (inr more)
      | inl less ↦
          let covered : (b : ℕ) → at ≤ b → b < end → (local_in nodes x i ≡ false) × (need kind ≤ rank (slot_at nodes i b).level) = λ b from to.
          elim (room i b kind lt reached from to (kind-run nodes x at end b same from to ∙ is)) [ inl more ↦ absurd (omega (arith, less, more)) | inr shut ↦ shut ] in
          inr ((covered at (omega arith) some).0, λ b from to. (covered b (omega (arith, from, start)) (omega (arith, to, stop))).1)
    ]

-- no denial of the end is found at a run without one
pub run-silent : (nodes : List Node) (x at end : ℕ) (kind : Kind) (span : Span) (found : Option Found) → IsUniform nodes x at end → end_kind nodes x at ≡ Some kind → span.start ≡ at → span.start + span.len ≡ end → NoEndDenial nodes x at end → Finds nodes (local_in nodes x) kind span (IsMet nodes x false (length nodes)) found → found ≡ None
run-silent nodes x at end kind span None same is start stop none finds = refl
run-silent nodes x at end kind span (Some f) same is start stop none finds =
    let low : at ≤ f.offset = (let l = finds.from in omega (arith, l, start)) in
    let high : f.offset < end = (let l = finds.to in omega (arith, l, stop)) in
    absurd (none f.node f.offset low high (record { within = finds.node.within; reached = finds.node.reached; kind = kind; made = kind-run nodes x at end f.offset same low high ∙ is; denied = finds.denied }))

stepped-cell : (guard : Guard) (local : Bool) (kind : Kind) (slot : Slot) → eager_cell (stepped guard local kind slot) ≡ next_cell (Some kind) local guard (eager_cell slot)
stepped-cell guard true Read slot = refl
stepped-cell guard true Write slot = refl
stepped-cell guard false Read slot = refl
stepped-cell guard false Write slot = refl

-- the access at a run
pub run-ended : (size : ℕ) (before now : List Node) (x at end : ℕ) (kind : Kind) (span : Span) → IsUniform before x at end → end_kind before x at ≡ Some kind → span.start ≡ at → span.start + span.len ≡ end → IsDone size before now (local_in before x) x false kind span → IsEnded size before now x at end
run-ended size before now x at end kind span same is start stop d = record {
  links = d.links;
  guard = d.guard;
  cells = λ i b lt reached from to.
      d.cells i b lt reached (omega (arith, from, start)) (omega (arith, to, stop))
      ∙ stepped-cell (node_at before i).guard (local_in before x i) kind (slot_at before i b)
      ∙ ap (λ (o : Option Kind). next_cell o (local_in before x i) (node_at before i).guard (eager_cell (slot_at before i b))) (sym (kind-run before x at end b same from to ∙ is));
  outside = λ i b lt in_size out. d.outside i b lt in_size (elim out [ inl less ↦ inl (omega (arith, less, start)) | inr more ↦ inr (omega (arith, more, stop)) ]);
  left = d.left;
}

pub run-left : (size : ℕ) (nodes : List Node) (x at end : ℕ) → IsUniform nodes x at end → end_kind nodes x at ≡ None → IsEnded size nodes nodes x at end
run-left size nodes x at end same none = record {
  links = links-itself nodes;
  guard = λ j. refl;
  cells = λ i b lt reached from to. ap (λ (o : Option Kind). next_cell o (local_in nodes x i) (node_at nodes i).guard (eager_cell (slot_at nodes i b))) (sym (kind-run nodes x at end b same from to ∙ none));
  outside = λ i b lt in_size out. refl;
  left = λ i b lt in_size out. refl;
}

pub ended-none : (size : ℕ) (nodes : List Node) (x : ℕ) → IsEnded size nodes nodes x 0 0
ended-none size nodes x = record {
  links = links-itself nodes;
  guard = λ j. refl;
  cells = λ i b lt reached from to. absurd (omega (arith, to));
  outside = λ i b lt in_size out. refl;
  left = λ i b lt in_size out. refl;
}

-- what is past the runs that were done is as before
past-kind : (size : ℕ) (before now : List Node) (x at b : ℕ) → IsEnded size before now x 0 at → x < length before → b < size → at ≤ b → end_kind now x b ≡ end_kind before x b
past-kind size before now x at b e lt in_size past = ap (λ (s : Slot). implicit_kind (eager_cell s)) (e.outside x b lt in_size (inr past))

pub ended-more : (size : ℕ) (before now next : List Node) (x at end : ℕ) → x < length before → end ≤ size → IsEnded size before now x 0 at → IsEnded size now next x at end → at < end → IsEnded size before next x 0 end
ended-more size before now next x at end inside within e r some = record {
  links = links-through before now next e.links r.links;
  guard = λ j. r.guard j ∙ e.guard j;
  cells = λ i b lt reached from to. elim (cases_lt b at) [
    | inl less ↦ ap eager_cell (r.outside i b (count i lt) (omega (arith, to, within)) (inl less)) ∙ e.cells i b lt reached from less
    | inr past ↦
        r.cells i b (count i lt) (reached-back before now x i false e.links reached) past to
        ∙ ap (λ (o : Option Kind). next_cell o (local_in now x i) (node_at now i).guard (eager_cell (slot_at now i b))) (past-kind size before now x at b e inside (omega (arith, to, within)) past)
        ∙ ap (λ (l : Bool). next_cell (end_kind before x b) l (node_at now i).guard (eager_cell (slot_at now i b))) (local-links before now x i e.links)
        ∙ ap (λ (g : Guard). next_cell (end_kind before x b) (local_in before x i) g (eager_cell (slot_at now i b))) (e.guard i)
        ∙ ap (λ (s : Slot). next_cell (end_kind before x b) (local_in before x i) (node_at before i).guard (eager_cell s)) (e.outside i b lt (omega (arith, to, within)) (inr past))
  ];
  outside = λ i b lt in_size out.
      r.outside i b (count i lt) in_size (elim out [ inl less ↦ absurd (omega (arith, less)) | inr more ↦ inr more ])
      ∙ e.outside i b lt in_size (elim out [ inl less ↦ absurd (omega (arith, less)) | inr more ↦ inr (omega (arith, more, some)) ]);
  left = λ i b lt in_size out.
      r.left i b (count i lt) in_size (λ reached. out (reached-links before now x i false e.links reached)) ∙ e.left i b lt in_size out;
}
  where
    count : (i : ℕ) → i < length before → i < length now
    count i lt = (let c = e.links.count in omega (arith, lt, c))

-- what the end denies past the runs that were done it denied before
pub denies-back : (size : ℕ) (before now : List Node) (x at end : ℕ) → x < length before → end ≤ size → IsEnded size before now x 0 at → NoEndDenial before x 0 size → NoEndDenial now x at end
denies-back size before now x at end inside within e none i b from to d =
    let lt : i < length before = (let c = e.links.count in let w = d.within in omega (arith, c, w)) in
    let in_size : b < size = omega (arith, to, within) in
    none i b (omega arith) in_size (record {
      within = lt;
      reached = reached-links before now x i false e.links d.reached;
      kind = d.kind;
      made = sym (past-kind size before now x at b e inside in_size from) ∙ d.made;
      denied =
          subst (λ (l : Bool). is_denied (slot_outcome (node_at before i).guard l d.kind (slot_at before i b)) ≡ true) (local-links before now x i e.links)
          (subst (λ (g : Guard). is_denied (slot_outcome g (local_in now x i) d.kind (slot_at before i b)) ≡ true) (e.guard i)
          (subst (λ (s : Slot). is_denied (slot_outcome (node_at now i).guard (local_in now x i) d.kind s) ≡ true) (e.outside i b lt in_size (inr from)) d.denied));
    })

-- the room that is left for the runs from a byte on, in the words of the tree at the beginning
abbrev pub HasRoomLeft : ℕ → List Node → List Node → ℕ → ℕ → Type 0
HasRoomLeft size before now x at =
    (i b : ℕ) (kind : Kind) → i < length before → IsReached before x false i → at ≤ b → b < size → end_kind before x b ≡ Some kind → (2 * runs_from size now x at ≤ (node_at now i).runs.spare) ⊎ ((local_in before x i ≡ false) × (need kind ≤ rank (slot_at before i b).level))

or-left : (a b : Bool) → a ≡ true → (a || b) ≡ true
or-left true b e = refl
or-left false b e = cc

no-left : (a b : Bool) → a ≡ false → (a || b) ≡ true → b ≡ true
no-left true b e f = cc
no-left false b e f = f

or-right : (a : Bool) {b : Bool} → b ≡ true → (a || b) ≡ true
or-right true e = refl
or-right false e = e

-- a run begins at the byte at hand, or is taken to begin there
abbrev begins_from : List Node → ℕ → ℕ → ℕ → Bool
begins_from nodes x at b = eqb b at || has_start b (node_at nodes x).runs.starts

pub runs-some : (size : ℕ) (nodes : List Node) (x at : ℕ) → at < size → 1 ≤ runs_from size nodes x at
runs-some size nodes x at lt = count-first (begins_from nodes x at) at (size - at) (or-left (eqb at at) _ (eq-eqb at at refl)) (omega (arith, lt))

pub runs-end : (size : ℕ) (nodes : List Node) (x : ℕ) → runs_from size nodes x size ≡ 0
runs-end size nodes x = ap (λ n. count (begins_from nodes x size) size n) (let e : size - size ≡ 0 = omega arith in e)

runs-split : (size : ℕ) (nodes : List Node) (x at end : ℕ) → at < end → end ≤ size → runs_from size nodes x at ≡ count (begins_from nodes x at) at (end - at) + count (begins_from nodes x at) end (size - end)
runs-split size nodes x at end some within =
    ap (λ n. count (begins_from nodes x at) at n) (let e : size - at ≡ end - at + (size - end) = omega (arith, some, within) in e)
    ∙ count-split (begins_from nodes x at) at (end - at) (size - end)
    ∙ ap (λ k. count (begins_from nodes x at) at (end - at) + count (begins_from nodes x at) k (size - end)) (let e : at + (end - at) ≡ end = omega (arith, some) in e)

-- each run that is done leaves one run less, whatever was cut at its ends
pub runs-fewer : (size : ℕ) (now next : List Node) (x at end : ℕ) (span : Span) → IsSound size now → x < length now → at < end → end ≤ size → end ≡ run_after now x at → span.start ≡ at → span.start + span.len ≡ end → AddsStarts now next span → runs_from size next x end + 1 ≤ runs_from size now x at
runs-fewer size now next x at end span h inside some within is start stop adds =
    let split = runs-split size now x at end some within in
    let first = count-first (begins_from now x at) at (end - at) (or-left (eqb at at) _ (eq-eqb at at refl)) (omega (arith, some)) in
    let rest = count-within (begins_from next x end) (begins_from now x at) end (size - end) (λ b low high e. later b low (omega (arith, high, within)) e) in
    omega (arith, split, first, rest)
  where
    at-end : end < size → has_start end (node_at now x).runs.starts ≡ true
    at-end lt = elim (next_start-cases (length (node_at now x).runs.bytes) at (node_at now x).runs.starts) [
      | inl whole ↦ absurd (let s = h.sizes x inside in omega (arith, lt, is, whole, s))
      | inr begins ↦ subst (λ k. has_start k (node_at now x).runs.starts ≡ true) (sym is) begins
    ]

    later : (b : ℕ) → end ≤ b → b < size → begins_from next x end b ≡ true → begins_from now x at b ≡ true
    later b low in_size e =
        elim (cases_eq b end) [
          | inl here ↦ or-right (eqb b at) (subst (λ k. has_start k (node_at now x).runs.starts ≡ true) (sym here) (at-end (omega (arith, here, in_size))))
          | inr other ↦ elim (adds x b (no-left (eqb b end) _ (ne_eqb b end other) e)) [
            | inl old ↦ or-right (eqb b at) old
            | inr ends ↦ elim ends [ inl a ↦ absurd (omega (arith, a, start, low, some)) | inr z ↦ absurd (omega (arith, z, stop, other)) ]
          ]
        ]

-- and no more than one
pub runs-step : (size : ℕ) (nodes : List Node) (x at end : ℕ) → IsRanges (node_at nodes x).runs → at < end → end ≤ size → end ≡ run_after nodes x at → runs_from size nodes x at ≤ 1 + runs_from size nodes x end
runs-step size nodes x at end ranges some within is =
    let split = runs-split size nodes x at end some within in
    let one : count (begins_from nodes x at) at (end - at) ≡ count (begins_from nodes x at) at 1 + count (begins_from nodes x at) (at + 1) (end - at - 1) =
    ap (λ n. count (begins_from nodes x at) at n) (let e : end - at ≡ 1 + (end - at - 1) = omega (arith, some) in e) ∙ count-split (begins_from nodes x at) at 1 (end - at - 1) in
    let none = count-none (begins_from nodes x at) (at + 1) (end - at - 1) (λ b low high. between b (omega (arith, low)) (omega (arith, high, some))) in
    let rest = count-within (begins_from nodes x at) (begins_from nodes x end) end (size - end) (λ b low high e. later b low e) in
    let single = at-most-one (begins_from nodes x at at) in
    omega (arith, split, one, none, rest, single)
  where
    at-most-one : (c : Bool) → count (λ b. c) at 1 ≤ 1
    at-most-one true = omega arith
    at-most-one false = omega arith

    no-start : (b : ℕ) → at < b → b < end → (c : Bool) → c ≡ has_start b (node_at nodes x).runs.starts → c ≡ false
    no-start b low high true e = absurd (let before = next_start-before (length (node_at nodes x).runs.bytes) at b (node_at nodes x).runs.starts ranges.rising (sym e) low in omega (arith, before, is, high))
    no-start b low high false e = refl

    between : (b : ℕ) → at < b → b < end → begins_from nodes x at b ≡ false
    between b low high = rw (ne_eqb b at (λ e. omega (arith, e, low))) (no-start b low high (has_start b (node_at nodes x).runs.starts) refl)

    later : (b : ℕ) → end ≤ b → begins_from nodes x at b ≡ true → begins_from nodes x end b ≡ true
    later b low e = or-right (eqb b end) (no-left (eqb b at) _ (ne_eqb b at (λ same. omega (arith, same, low, some))) e)

-- the room at the run at hand
pub room-here : (size : ℕ) (before now : List Node) (x at end : ℕ) → x < length before → at < end → end ≤ size → IsEnded size before now x 0 at → HasRoomLeft size before now x at → HasEndRoomOn now x at end 2
room-here size before now x at end inside some within e room i b kind lt reached from to made =
    let low : i < length before = (let c = e.links.count in omega (arith, lt, c)) in
    let in_size : b < size = omega (arith, to, within) in
    elim (room i b kind low (reached-links before now x i false e.links reached) from in_size (sym (past-kind size before now x at b e inside in_size from) ∙ made)) [
      | inl more ↦ inl (let one = runs-some size now x at (omega (arith, some, within)) in omega (arith, more, one))
      | inr shut ↦ inr (local-links before now x i e.links ∙ shut.0, subst (λ (s : Slot). need kind ≤ rank s.level) (sym (e.outside i b low in_size (inr from))) shut.1)
    ]

pub room-more : (size : ℕ) (before now next : List Node) (x at end : ℕ) → at < end → runs_from size next x end + 1 ≤ runs_from size now x at → ((i : ℕ) → (node_at now i).runs.spare ≤ (node_at next i).runs.spare + 2) → HasRoomLeft size before now x at → HasRoomLeft size before next x end
room-more size before now next x at end some fewer spare room i b kind lt reached from in_size made =
    elim (room i b kind lt reached (omega (arith, from, some)) in_size made) [
      | inl more ↦ inl (let s = spare i in omega (arith, more, fewer, s))
      | inr shut ↦ inr shut
    ]

-- room made run by run
pub end-room-none : (nodes : List Node) (x runs : ℕ) → HasEndRoomOn nodes x 0 0 runs
end-room-none nodes x runs i b kind lt reached from to = absurd (omega (arith, to))

pub end-room-more : (before now : List Node) (x at end runs : ℕ) → IsRoomier before now → HasEndRoomOn before x 0 at runs → HasEndRoomOn now x at end runs → HasEndRoomOn now x 0 end runs
end-room-more before now x at end runs r old new i b kind lt reached from to made =
    elim (cases_lt b at) [
      | inr past ↦ new i b kind lt reached past to made
      | inl less ↦
          elim (old i b kind (let c = r.links.count in omega (arith, lt, c)) (reached-links before now x i false r.links reached) from less (ap (λ (s : Slot). implicit_kind (eager_cell s)) (sym (slots x b)) ∙ made)) [
            | inl more ↦ inl (let s = r.spare i in omega (arith, more, s))
            | inr shut ↦ inr (local-links before now x i r.links ∙ shut.0, subst (λ (s : Slot). need kind ≤ rank s.level) (sym (slots i b)) shut.1)
          ]
    ]
  where
    slots : (i b : ℕ) → slot_at now i b ≡ slot_at before i b
    slots i b = ap (λ (l : List Slot). get_or l b no_slot) (r.bytes i)

pub end-room-less : (nodes : List Node) (x from to more runs : ℕ) → runs ≤ more → HasEndRoomOn nodes x from to more → HasEndRoomOn nodes x from to runs
end-room-less nodes x from to more runs le h i b kind lt reached low high made = elim (h i b kind lt reached low high made) [ inl some ↦ inl (omega (arith, some, le)) | inr shut ↦ inr shut ]

-- room for the access at a run
pub end-room-run : (before now : List Node) (x at end runs : ℕ) (kind : Kind) (span : Span) → IsRoomier before now → IsUniform before x at end → end_kind before x at ≡ Some kind → span.start ≡ at → span.start + span.len ≡ end → HasRoom now x false span kind runs → HasEndRoomOn now x at end runs
end-room-run before now x at end runs kind span r same is start stop room i b k lt reached from to made =
    elim (room i lt reached) [
      | inl some ↦ inl some
      | inr shut ↦ inr (shut.0, subst (λ (o : Kind). need o ≤ rank (slot_at now i b).level) (one-kind (end_kind now x b) kind k (ap (λ (s : Slot). implicit_kind (eager_cell s)) (ap (λ (l : List Slot). get_or l b no_slot) (r.bytes x)) ∙ kind-run before x at end b same from to ∙ is) made) (shut.1 b (omega (arith, from, start)) (omega (arith, to, stop))))
    ]

pub end-room-skip : (before now : List Node) (x at end runs : ℕ) → IsRoomier before now → IsUniform before x at end → end_kind before x at ≡ None → HasEndRoomOn now x at end runs
end-room-skip before now x at end runs r same none i b k lt reached from to made =
    absurd (none-some k (sym none ∙ sym (kind-run before x at end b same from to) ∙ sym (ap (λ (s : Slot). implicit_kind (eager_cell s)) (ap (λ (l : List Slot). get_or l b no_slot) (r.bytes x))) ∙ made))

-- a run ends where it did, with more room
pub run-after-same : (before now : List Node) (x at : ℕ) → IsRoomier before now → run_after now x at ≡ run_after before x at
run-after-same before now x at r =
    ap (λ (l : List Slot). next_start (length l) at (node_at now x).runs.starts) (r.bytes x) ∙ ap (next_start (length (node_at before x).runs.bytes) at) (r.starts x)

pub runs-same : (size : ℕ) (before now : List Node) (x : ℕ) → IsRoomier before now → runs_from size now x 0 ≡ runs_from size before x 0
runs-same size before now x r = ap (λ (ss : List ℕ). count (λ b. eqb b 0 || has_start b ss) 0 (size - 0)) (r.starts x)

pub room-first : (size : ℕ) (nodes : List Node) (x : ℕ) → HasEndRoomOn nodes x 0 size (2 * runs_from size nodes x 0) → HasRoomLeft size nodes nodes x 0
room-first size nodes x h i b kind lt reached from to made = h i b kind lt reached from to made
