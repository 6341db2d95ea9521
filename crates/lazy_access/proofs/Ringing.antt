-- The nodes that a walk meets where an access changes nothing: the ring of its node, each at the pieces of
-- the span.
use Rattle.std.proofs.Common.{◌≡◌, ◌≢◌, ◌⊎◌, ℕ, ◌+◌, ◌-◌, ◌*◌, ◌<◌, ◌≤◌, ◌||◌, ◌&&◌, nat_lt, Bool, true, false, eqb, eq-eqb, List, [], ◌∷◌, length, replicate, get_or, MatchOption, IfSome, Option, Some, None, Result, Ok, Err, OnOk, OnErr, refl, sym, ap, subst, ◌∙◌, arith, inl, inr}
use Rattle.std.proofs.lemmas.Bool.{cases_lt, cases_eq, ne_eqb}
use Rattle.std.proofs.lemmas.Bool.Decides.{nat_tests}
use Rattle.std.proofs.Math.Nat.{mul-le-mul_right, add-mul}
use Rattle.std.specs.Option.{option_map}
use Rattle.std.proofs.lemmas.List.{length-set, length-replicate, get_or-replicate}
use Rattle.bsan_ids.specs.declared.numbers.Tag.{Tag}
use Rattle.bsan_ids.specs.declared.numbers.Span.{Span}
use Rattle.perm_table.specs.declared.Kind.{Kind}
use Rattle.range_map.specs.Ranges.{Ranges, has_start}
use Rattle.eager_tree.specs.Tree.{Tree, links, is_node, is_on_path}
use Rattle.lazy_tree.specs.declared.tree.Node.{Node}
use Rattle.lazy_tree.specs.Order.{after_among}
use Rattle.lazy_tree.specs.Quiet.{IsQuietSlot, IsQuietNode, KeepsQuiet, KeepsCuts}
use Rattle.lazy_tree.specs.Shape.{Shape}
use Rattle.lazy_tree.specs.declared.slot.Slot.{Slot}
use Rattle.perm_table.specs.declared.Guard.{Guard}
use Rattle.perm_table.specs.declared.Guard.TheVariants.{Free}
use Rattle.perm_table.specs.declared.Kind.TheVariants.{Read, Write}
use Rattle.perm_table.specs.declared.RetagKind.{RetagKind}
use Rattle.lazy_tree.specs.Ring.{count, is_in_ring, ring_size, is_cut, pieces}
use Rattle.lazy_tree.specs.Skip.{node_at, no_node, slot_at, no_slot, root_slot, root_node, with_free, with_child, IsRootAlone, bool_at, run_after, above, last_of, need, rank, IsLinked, IsSound}
use Rattle.lazy_tree.specs.Eager.{eager_nodes, eager_with, eager_of}
use Rattle.lazy_tree.proofs.Counting.{IsCutOf, cut-at, cut-of, count-split, count-first, count-within, count-more, count-list}
use Rattle.lazy_access.specs.Walk.{IsUnder, place_of, IsPath, IsCovered, IsQuietAll, in_ring, ring_of}
use Rattle.lazy_access.specs.Change.{AddsStarts, IsRoomier}
use Rattle.lazy_access.specs.Requests.{local_in, IsChild}
use Rattle.lazy_access.proofs.Places.{place_at, under-itself, under-up, under-down, under-through, place-one, next-place}
use Rattle.lazy_access.proofs.Changing.{next_start-cases}
use Rattle.lazy_access.proofs.Ties.{length-links, link_at, eager_with-some, eager-under}
use Rattle.lazy_access.proofs.Accessing.{links-eager, root-alone}
use Rattle.lazy_tree.proofs.SkipLemmas.{part-kept}
use Rattle.lazy_tree.proofs.Adding.{sound-root, old-part, child-at, length-with_child}

or-left : (a b : Bool) → a ≡ true → (a || b) ≡ true
or-left true b e = refl
or-left false b e = cc

or-right : (a b : Bool) → b ≡ true → (a || b) ≡ true
or-right true b e = refl
or-right false b e = e

or-two : (a b : Bool) → a ≡ false → (a || b) ≡ true → b ≡ true
or-two true b e f = cc
or-two false b e f = f

-- a piece of the span begins at the byte
abbrev pub begins_piece : List Node → ℕ → ℕ → Bool
begins_piece nodes start b = eqb b start || is_cut nodes b

-- how many pieces begin before a byte
abbrev pub pieces_to : List Node → Span → ℕ → ℕ
pieces_to nodes span at = count (begins_piece nodes span.start) span.start (at - span.start)

pub pieces-first : (nodes : List Node) (start : ℕ) → begins_piece nodes start start ≡ true
pieces-first nodes start = or-left (eqb start start) (is_cut nodes start) (eq-eqb start start refl)

pub pieces-cut : (nodes : List Node) (start b : ℕ) → is_cut nodes b ≡ true → begins_piece nodes start b ≡ true
pieces-cut nodes start b e = or-right (eqb b start) (is_cut nodes b) e

-- past a run of a node a piece begins, if the bytes go on
pub begins-next : (size : ℕ) (nodes : List Node) (i start at next : ℕ) → IsSound size nodes → i < length nodes → next ≡ run_after nodes i at → next < size → at < next → begins_piece nodes start next ≡ true
begins-next size nodes i start at next h lt is within some =
    elim (next_start-cases (length (node_at nodes i).runs.bytes) at (node_at nodes i).runs.starts) [
      | inl whole ↦ absurd (let s = h.sizes i lt in omega (arith, within, is, whole, s))
      | inr begins ↦ pieces-cut nodes start next (cut-at nodes i next lt (λ e. omega (arith, e, some)) (subst (λ k. has_start k (node_at nodes i).runs.starts ≡ true) (sym is) begins))
    ]

-- one piece more
pub pieces-more : (nodes : List Node) (span : Span) (at end : ℕ) → span.start ≤ at → at < end → begins_piece nodes span.start at ≡ true → pieces_to nodes span at + 1 ≤ pieces_to nodes span end
pieces-more nodes span at end from some begins =
    let split : pieces_to nodes span end ≡ pieces_to nodes span at + count (begins_piece nodes span.start) at (end - at) =
    ap (count (begins_piece nodes span.start) span.start) (let e : end - span.start ≡ at - span.start + (end - at) = omega (arith, from, some) in e)
    ∙ count-split (begins_piece nodes span.start) span.start (at - span.start) (end - at)
    ∙ ap (λ k. pieces_to nodes span at + count (begins_piece nodes span.start) k (end - at)) (let e : span.start + (at - span.start) ≡ at = omega (arith, from) in e) in
    let one = count-first (begins_piece nodes span.start) at (end - at) begins (omega (arith, some)) in
    omega (arith, split, one)

pub pieces-upto : (nodes : List Node) (span : Span) (at end : ℕ) → span.start ≤ at → at ≤ end → pieces_to nodes span at ≤ pieces_to nodes span end
pieces-upto nodes span at end from le =
    let split : pieces_to nodes span end ≡ pieces_to nodes span at + count (begins_piece nodes span.start) (span.start + (at - span.start)) (end - at) =
    ap (count (begins_piece nodes span.start) span.start) (let e : end - span.start ≡ at - span.start + (end - at) = omega (arith, from, le) in e)
    ∙ count-split (begins_piece nodes span.start) span.start (at - span.start) (end - at) in
    omega (arith, split)

-- the pieces are 1 and the cuts inside
pub pieces-all : (nodes : List Node) (span : Span) → pieces_to nodes span (span.start + span.len) ≤ pieces nodes span
unfolding pieces
pieces-all nodes span =
    elim (cases_eq span.len 0) [
      | inl none ↦ (let e : pieces_to nodes span (span.start + span.len) ≡ 0 = ap (count (begins_piece nodes span.start) span.start) (let z : span.start + span.len - span.start ≡ 0 = omega (arith, none) in z) in omega (arith, e))
      | inr some ↦
          let split : pieces_to nodes span (span.start + span.len) ≡ count (begins_piece nodes span.start) span.start 1 + count (begins_piece nodes span.start) (span.start + 1) (span.len - 1) =
          ap (count (begins_piece nodes span.start) span.start) (let z : span.start + span.len - span.start ≡ 1 + (span.len - 1) = omega (arith, some) in z) ∙ count-split (begins_piece nodes span.start) span.start 1 (span.len - 1) in
          let first = at-most-one (begins_piece nodes span.start span.start) in
          let rest = count-within (begins_piece nodes span.start) (is_cut nodes) (span.start + 1) (span.len - 1)
          (λ b low high e. or-two (eqb b span.start) (is_cut nodes b) (ne_eqb b span.start (λ same. omega (arith, same, low))) e) in
          omega (arith, split, first, rest)
    ]
  where
    at-most-one : (c : Bool) → count (λ b. c) span.start 1 ≤ 1
    at-most-one true = omega arith
    at-most-one false = omega arith

-- the ring's nodes before a place
abbrev pub ring_before : List Node → (ℕ → Bool) → ℕ → ℕ
ring_before nodes path m = count (λ i. in_ring nodes path i && nat_lt (place_of nodes i) m) 0 (length nodes)

and-both : (a b : Bool) → a ≡ true → b ≡ true → (a && b) ≡ true
and-both true b e f = f
and-both false b e f = cc

and-one : (a b : Bool) → (a && b) ≡ true → a ≡ true
and-one true b e = refl
and-one false b e = e

and-two : (a b : Bool) → (a && b) ≡ true → b ≡ true
and-two true b e = e
and-two false b e = cc

and-none : (a b : Bool) → b ≡ false → (a && b) ≡ false
and-none true b e = e
and-none false b e = refl

less-true : (a b : ℕ) → a < b → nat_lt a b ≡ true
less-true a b lt = grind (arith, nat_tests, lt)

true-less : (a b : ℕ) → nat_lt a b ≡ true → a < b
true-less a b e = grind (arith, nat_tests, e)

not-less : (a : ℕ) → nat_lt a a ≡ false
not-less a = grind (arith, nat_tests)

-- a walk that goes on from a node of the ring has met one node of it more
pub ring-more : (nodes : List Node) (path : ℕ → Bool) (at m : ℕ) → at < length nodes → in_ring nodes path at ≡ true → place_of nodes at < m → ring_before nodes path (place_of nodes at) + 1 ≤ ring_before nodes path m
ring-more nodes path at m lt on grows =
    count-more (λ i. in_ring nodes path i && nat_lt (place_of nodes i) (place_of nodes at)) (λ i. in_ring nodes path i && nat_lt (place_of nodes i) m) 0 (length nodes) at
    (λ i low high e. and-both (in_ring nodes path i) _ (and-one (in_ring nodes path i) _ e) (less-true (place_of nodes i) m (let l = true-less (place_of nodes i) (place_of nodes at) (and-two (in_ring nodes path i) _ e) in omega (arith, l, grows))))
    (omega arith) (omega (arith, lt)) (and-none (in_ring nodes path at) _ (not-less (place_of nodes at))) (and-both (in_ring nodes path at) _ on (less-true (place_of nodes at) m grows))

pub ring-all : (nodes : List Node) (path : ℕ → Bool) (m : ℕ) → ring_before nodes path m ≤ ring_of nodes path
unfolding ring_of
ring-all nodes path m = count-within (λ i. in_ring nodes path i && nat_lt (place_of nodes i) m) (in_ring nodes path) 0 (length nodes) (λ i low high e. and-one (in_ring nodes path i) _ e)

pub ring-root : (nodes : List Node) (path : ℕ → Bool) (at : ℕ) → at ≡ 0 → in_ring nodes path at ≡ true
ring-root nodes path at e = or-left (eqb at 0) (path (above nodes at)) (eq-eqb at 0 e)

true-false : true ≡ false → ⊥
true-false e = cc

-- a node of the path has its parent on the path
path-over : (nodes : List Node) (x : ℕ) (marks : List Bool) (p k : ℕ) → IsLinked nodes → x < length nodes → IsPath nodes x marks → p < length nodes → k < length nodes → bool_at marks k ≡ true → IsUnder nodes p k → bool_at marks p ≡ true
path-over nodes x marks p k h inside path low lt on under = path.down p low (under-through nodes p k x h low lt inside under (path.up k lt on))

-- a walk that goes below the path's nodes alone meets the ring alone
pub ring-next : (size : ℕ) (nodes : List Node) (x : ℕ) (marks : List Bool) (at k : ℕ) (next : Option ℕ) (deeper : Bool) → IsSound size nodes → x < length nodes → IsPath nodes x marks → at < length nodes → in_ring nodes (bool_at marks) at ≡ true →
    (deeper ≡ true → bool_at marks at ≡ true) → (deeper ≡ true → next ≡ (node_at nodes at).next) → (deeper ≡ false → next ≡ (node_at nodes at).after) → next ≡ Some k → k < length nodes → place_of nodes at < place_of nodes k → in_ring nodes (bool_at marks) k ≡ true
ring-next size nodes x marks at k next deeper h inside path lt on local down past is low grows =
    elim (cases_eq k 0) [
      | inl root ↦ ring-root nodes (bool_at marks) k root
      | inr some ↦ or-right (eqb k 0) (bool_at marks (above nodes k)) (parent-on (omega (arith, some)))
    ]
  where
    one-on : deeper ≡ true → place_of nodes k ≡ place_of nodes at + 1
    one-on e = sym (ap (place_at nodes) is) ∙ next-place nodes at next h.linked lt (down e)

    end : deeper ≡ false → IsUnder nodes at k → ⊥
    end e under =
        let place : place_of nodes k ≡ place_at nodes (after_among (above nodes) (last_of nodes) at) = sym (ap (place_at nodes) is) ∙ ap (place_at nodes) (past e ∙ h.linked.after at lt) in
        (let l = under.last in omega (arith, l, place))

    over : 1 ≤ k → IsUnder nodes (above nodes k) k
    over one =
        let less = h.linked.before k one low in
        under-down nodes (above nodes k) k h.linked (omega (arith, less, low)) low one (under-itself nodes (above nodes k) h.linked (omega (arith, less, low)))

    place-less : 1 ≤ k → place_of nodes (above nodes k) < place_of nodes k
    place-less one =
        let less_k = h.linked.before k one low in
        let p_low : above nodes k < length nodes = omega (arith, less_k, low) in
        elim (cases_eq (place_of nodes (above nodes k)) (place_of nodes k)) [
          | inl same ↦ (let e = place-one nodes (above nodes k) k h.linked p_low low same in absurd (omega (arith, e, less_k)))
          | inr other ↦ (let first = (over one).first in omega (arith, first, other))
        ]

    -- the parent of the next node, where that is not the node at hand
    strict : 1 ≤ k → above nodes k ≢ at → IsUnder nodes (above nodes k) at → bool_at marks (above nodes k) ≡ true
    strict one other under =
        let less = h.linked.before k one low in
        let p_low : above nodes k < length nodes = omega (arith, less, low) in
        let up = under-up nodes (above nodes k) at h.linked p_low lt (λ same. other (sym same)) under in
        let less_at = h.linked.before at up.0 lt in
        let a_low : above nodes at < length nodes = omega (arith, less_at, lt) in
        let parent_on : bool_at marks (above nodes at) ≡ true = or-two (eqb at 0) (bool_at marks (above nodes at)) (ne_eqb at 0 (λ zero_at. (let one_at = up.0 in omega (arith, one_at, zero_at)))) on in
        path-over nodes x marks (above nodes k) (above nodes at) h.linked inside path p_low a_low parent_on up.1

    itself : (d : Bool) → d ≡ deeper → 1 ≤ k → above nodes k ≡ at → bool_at marks (above nodes k) ≡ true
    itself true e one same = ap (bool_at marks) same ∙ local (sym e)
    itself false e one same = absurd (end (sym e) (subst (λ j. IsUnder nodes j k) same (over one)))

    between : (d : Bool) → d ≡ deeper → 1 ≤ k → place_of nodes at < place_of nodes (above nodes k) → ⊥
    between true e one less = (let l = one-on (sym e) in let apart = place-less one in omega (arith, less, l, apart))
    between false e one less =
        let less_k = h.linked.before k one low in
        let p_low : above nodes k < length nodes = omega (arith, less_k, low) in
        let under_at : IsUnder nodes at (above nodes k) = record { first = omega (arith, less); last = (let place : place_of nodes k ≡ place_at nodes (after_among (above nodes) (last_of nodes) at) = sym (ap (place_at nodes) is) ∙ ap (place_at nodes) (past (sym e) ∙ h.linked.after at lt) in let l = place-less one in omega (arith, place, l)) } in
        end (sym e) (under-down nodes at k h.linked lt low one under_at)

    parent-on : 1 ≤ k → bool_at marks (above nodes k) ≡ true
    parent-on one =
        elim (cases_lt (place_of nodes at) (place_of nodes (above nodes k))) [
          | inl less ↦ absurd (between deeper refl one less)
          | inr more ↦ elim (cases_eq (above nodes k) at) [
            | inl same ↦ itself deeper refl one same
            | inr other ↦ strict one other (record { first = more; last = (let l = (over one).last in omega (arith, grows, l)) })
          ]
        ]

-- where nothing changes a walk goes below the path's nodes alone
pub quiet-local : (nodes : List Node) (path : ℕ → Bool) (kind : Kind) (span : Span) (at : ℕ) (opens deeper : Bool) → IsQuietNode nodes path kind span at → (opens ≡ true → IsCovered nodes kind span at → ⊥) → (deeper ≡ true → opens ≡ false → path at ≡ true) → deeper ≡ true → path at ≡ true
quiet-local nodes path kind span at true deeper quiet bare shut e =
    elim (path at) as (λ l. l ≡ path at → path at ≡ true) [
      | true ↦ λ is. sym is
      | false ↦ λ is. absurd (bare refl (λ b from to. subst (λ (l : Bool). IsQuietSlot (node_at nodes at).guard l kind (slot_at nodes at b)) (sym is) (quiet b from to)))
    ] refl
quiet-local nodes path kind span at false deeper quiet bare shut e = shut e refl

-- how far the walk has raised the counter
pub record IsRingCount (nodes : List Node) (path : ℕ → Bool) (span : Span) (here : Option ℕ) (old now : ℕ) : Type 0 where
  pub visited : now ≤ old + ring_before nodes path (place_at nodes here) * pieces nodes span
  pub on : (k : ℕ) → here ≡ Some k → in_ring nodes path k ≡ true

pub ring-count-start : (nodes : List Node) (path : ℕ → Bool) (span : Span) (old : ℕ) → IsRingCount nodes path span (Some 0) old old
ring-count-start nodes path span old = record { visited = omega arith; on = λ k e. (let zero_k : 0 ≡ k = cc in ring-root nodes path k (sym zero_k)) }

times-more : (a b p : ℕ) → a + 1 ≤ b → a * p + p ≤ b * p
times-more a b p le = (let one = mul-le-mul_right p le in let step : (a + 1) * p ≡ a * p + 1 * p = add-mul a 1 p in omega (arith, one, step))

pub ring-count-more : (nodes : List Node) (path : ℕ → Bool) (span : Span) (at : ℕ) (next : Option ℕ) (old before now : ℕ) → at < length nodes → IsRingCount nodes path span (Some at) old before → place_of nodes at < place_at nodes next → now ≤ before + pieces nodes span → ((k : ℕ) → next ≡ Some k → in_ring nodes path k ≡ true) → IsRingCount nodes path span next old now
ring-count-more nodes path span at next old before now lt h grows one on =
    let more = ring-more nodes path at (place_at nodes next) lt (h.on at refl) grows in
    let times = times-more (ring_before nodes path (place_of nodes at)) (ring_before nodes path (place_at nodes next)) (pieces nodes span) more in
    record { visited = (let t = h.visited in omega (arith, t, one, times)); on = on }

pub times-upto : (a b p : ℕ) → a ≤ b → a * p ≤ b * p
times-upto a b p le = mul-le-mul_right p le

-- when the walk has come to its end, or breaks off
pub ring-count-end : (nodes : List Node) (path : ℕ → Bool) (span : Span) (here : Option ℕ) (old now : ℕ) → IsRingCount nodes path span here old now → now ≤ old + ring_of nodes path * pieces nodes span
ring-count-end nodes path span here old now h =
    let times = times-upto (ring_before nodes path (place_at nodes here)) (ring_of nodes path) (pieces nodes span) (ring-all nodes path (place_at nodes here)) in
    let t = h.visited in omega (arith, t, times)

pub ring-count-last : (nodes : List Node) (path : ℕ → Bool) (span : Span) (at : ℕ) (old before now : ℕ) → at < length nodes → IsRingCount nodes path span (Some at) old before → now ≤ before + pieces nodes span → now ≤ old + ring_of nodes path * pieces nodes span
ring-count-last nodes path span at old before now lt h one =
    let more = ring-more nodes path at (place_of nodes at + 1) lt (h.on at refl) (omega arith) in
    let all = ring-all nodes path (place_of nodes at + 1) in
    let times = times-more (ring_before nodes path (place_of nodes at)) (ring_of nodes path) (pieces nodes span) (omega (arith, more, all)) in
    let t = h.visited in omega (arith, t, one, times)

-- the same flags make the same ring
pub ring-flags : (nodes : List Node) (one two : ℕ → Bool) → ((i : ℕ) → i < length nodes → one i ≡ two i) → IsLinked nodes → ring_of nodes one ≤ ring_of nodes two
unfolding ring_of
ring-flags nodes one two same h =
    count-within (in_ring nodes one) (in_ring nodes two) 0 (length nodes)
    (λ i low high e. elim (cases_eq i 0) [
      | inl root ↦ or-left (eqb i 0) (two (above nodes i)) (eq-eqb i 0 root)
      | inr some ↦
          let less = h.before i (omega (arith, some)) (omega (arith, high)) in
          or-right (eqb i 0) (two (above nodes i)) (sym (same (above nodes i) (omega (arith, less, high))) ∙ or-two (eqb i 0) (one (above nodes i)) (ne_eqb i 0 some) e)
    ])

pub quiet-flags : (nodes : List Node) (one two : ℕ → Bool) (kind : Kind) (span : Span) → ((i : ℕ) → i < length nodes → one i ≡ two i) → IsQuietAll nodes one kind span → IsQuietAll nodes two kind span
quiet-flags nodes one two kind span same h i lt b from to = subst (λ (l : Bool). IsQuietSlot (node_at nodes i).guard l kind (slot_at nodes i b)) (same i lt) (h i lt b from to)

-- the ring by the tags
pub ring-tags : (size : ℕ) (nodes : List Node) (x : ℕ) → IsSound size nodes → ring_of nodes (local_in nodes x) ≤ ring_size (links (eager_nodes nodes)) (node_at nodes x).tag
unfolding ring_of ring_size
ring-tags size nodes x h =
    let within = count-within (in_ring nodes (local_in nodes x)) (λ i. is_in_ring (links (eager_nodes nodes)) (node_at nodes x).tag (get_or (links (eager_nodes nodes)) i (no_node.tag, None))) 0 (length nodes) (λ i low high e. by-tag i (omega (arith, high)) e) in
    let list = count-list (is_in_ring (links (eager_nodes nodes)) (node_at nodes x).tag) (links (eager_nodes nodes)) (no_node.tag, None) in
    let sized : count (λ i. is_in_ring (links (eager_nodes nodes)) (node_at nodes x).tag (get_or (links (eager_nodes nodes)) i (no_node.tag, None))) 0 (length (links (eager_nodes nodes))) ≡ count (λ i. is_in_ring (links (eager_nodes nodes)) (node_at nodes x).tag (get_or (links (eager_nodes nodes)) i (no_node.tag, None))) 0 (length nodes) =
    ap (count (λ i. is_in_ring (links (eager_nodes nodes)) (node_at nodes x).tag (get_or (links (eager_nodes nodes)) i (no_node.tag, None))) 0) (length-links nodes) in
    omega (arith, within, list, sized)
  where
    linked : (i : ℕ) → i < length nodes → (p : Tag) → option_map (λ p. (node_at nodes p).tag) (node_at nodes i).parent ≡ Some p → is_on_path (links (eager_nodes nodes)) (node_at nodes x).tag p ≡ true → is_in_ring (links (eager_nodes nodes)) (node_at nodes x).tag (get_or (links (eager_nodes nodes)) i (no_node.tag, None)) ≡ true
    linked i lt p e on =
        ap (is_in_ring (links (eager_nodes nodes)) (node_at nodes x).tag) (link_at nodes i lt ∙ ap (λ (o : Option Tag). (let l : Tag × Option Tag = ((node_at nodes i).tag, o) in l)) e) ∙ on

    by-tag : (i : ℕ) → i < length nodes → in_ring nodes (local_in nodes x) i ≡ true → is_in_ring (links (eager_nodes nodes)) (node_at nodes x).tag (get_or (links (eager_nodes nodes)) i (no_node.tag, None)) ≡ true
    by-tag i lt e =
        elim (cases_eq i 0) [
          | inl root ↦
              ap (is_in_ring (links (eager_nodes nodes)) (node_at nodes x).tag)
              (link_at nodes i lt ∙ ap (λ (o : Option Tag). (let l : Tag × Option Tag = ((node_at nodes i).tag, o) in l)) (ap (option_map (λ p. (node_at nodes p).tag)) (ap (λ k. (node_at nodes k).parent) root ∙ h.linked.root)))
          | inr some ↦
              linked i lt (node_at nodes (above nodes i)).tag (ap (option_map (λ p. (node_at nodes p).tag)) (h.linked.parents i (omega (arith, some)) lt))
              (or-two (eqb i 0) (local_in nodes x (above nodes i)) (ne_eqb i 0 some) e)
        ]

-- the bound, in the words of the eager tree
pub ring-bound : (root : Tag) (size : ℕ) (nodes : List Node) (x : ℕ) (tag : Tag) (p old now : ℕ) → IsSound size nodes → x < length nodes → (node_at nodes x).tag ≡ tag → now ≤ old + ring_of nodes (local_in nodes x) * p → now ≤ old + ring_size (links (eager_with root size nodes).nodes) tag * p
ring-bound root size nodes x tag p old now h lt e visited =
    let times = times-upto (ring_of nodes (local_in nodes x)) (ring_size (links (eager_nodes nodes)) (node_at nodes x).tag) p (ring-tags size nodes x h) in
    let same : ring_size (links (eager_nodes nodes)) (node_at nodes x).tag ≡ ring_size (links (eager_with root size nodes).nodes) tag =
    ap (λ (t : Tree). ring_size (links t.nodes) (node_at nodes x).tag) (sym (eager_with-some root size nodes (omega (arith, lt)))) ∙ ap (ring_size (links (eager_with root size nodes).nodes)) e in
    let product : ring_size (links (eager_nodes nodes)) (node_at nodes x).tag * p ≡ ring_size (links (eager_with root size nodes).nodes) tag * p = ap (λ n. n * p) same in
    omega (arith, visited, times, product)

-- what begins at most at the ends of a span adds no other cut
pub cuts-added : (before after : List Node) (span : Span) (s : ℕ) → length after ≡ length before → AddsStarts before after span → is_cut after s ≡ true → (is_cut before s ≡ true) ⊎ ((s ≡ span.start) ⊎ (s ≡ span.start + span.len))
cuts-added before after span s count adds e =
    let cut = cut-of after s e in
    elim (adds cut.0 s cut.1.begins) [
      | inl old ↦ inl (cut-at before cut.0 s (let w = cut.1.within in omega (arith, w, count)) cut.1.past old)
      | inr new ↦ inr new
    ]

-- a cut is no first byte
pub cut-past : (nodes : List Node) (s : ℕ) → is_cut nodes s ≡ true → 1 ≤ s
cut-past nodes s e = (let cut = cut-of nodes s e in elim (cases_eq s 0) [ inl zero_s ↦ absurd (cut.1.past zero_s) | inr some ↦ omega (arith, some) ])

-- a run ends at a cut, if the bytes go on
pub run-cut : (size : ℕ) (nodes : List Node) (i at end : ℕ) → IsSound size nodes → i < length nodes → end ≡ run_after nodes i at → end < size → at < end → is_cut nodes end ≡ true
run-cut size nodes i at end h lt is within some =
    elim (next_start-cases (length (node_at nodes i).runs.bytes) at (node_at nodes i).runs.starts) [
      | inl whole ↦ absurd (let s = h.sizes i lt in omega (arith, within, is, whole, s))
      | inr begins ↦ cut-at nodes i end lt (λ e. omega (arith, e, some)) (subst (λ k. has_start k (node_at nodes i).runs.starts ≡ true) (sym is) begins)
    ]

-- the same run starts make the same cuts
pub cut-starts : (before after : List Node) (s : ℕ) → length after ≡ length before → ((j : ℕ) → (node_at after j).runs.starts ≡ (node_at before j).runs.starts) → is_cut after s ≡ true → is_cut before s ≡ true
cut-starts before after s count same e =
    let cut = cut-of after s e in
    cut-at before cut.0 s (let w = cut.1.within in omega (arith, w, count)) cut.1.past (subst (λ (ss : List ℕ). has_start s ss ≡ true) (same cut.0) cut.1.begins)

pub cut-freed : (nodes : List Node) (x s : ℕ) → x < length nodes → is_cut (with_free nodes x) s ≡ true → is_cut nodes s ≡ true
cut-freed nodes x s lt e =
    let node : Node = record (node_at nodes x) { guard = Free } in
    cut-starts nodes (with_free nodes x) s (length-set nodes x node) (λ j. part-kept (λ (n : Node). n.runs.starts) nodes x j node lt refl) e

-- a new child adds the cuts of its own runs
pub cut-child : (size : ℕ) (span : Span) (kind : RetagKind) (guard : Guard) (now after : List Node) (p s : ℕ) (tag : Tag) (made : Option (Ranges Slot)) → p < length now → MatchOption made ⊥ (IsChild size span kind guard) → IfSome made (λ runs. after ≡ with_child now p tag guard runs) → is_cut after s ≡ true → (is_cut now s ≡ true) ⊎ ((s ≡ span.start) ⊎ (s ≡ span.start + span.len))
cut-child size span kind guard now after p s tag None lt child made e = absurd child
cut-child size span kind guard now after p s tag (Some runs) lt child made e =
    let cut = cut-of (with_child now p tag guard runs) s (subst (λ (ns : List Node). is_cut ns s ≡ true) made e) in
    elim (cases_lt cut.0 (length now)) [
      | inl old ↦ inl (cut-at now cut.0 s old cut.1.past (subst (λ (ss : List ℕ). has_start s ss ≡ true) (old-part (λ (n : Node). n.runs.starts) now p tag guard runs cut.0 lt old refl) cut.1.begins))
      | inr more ↦
          let last : cut.0 ≡ length now = (let w = cut.1.within in omega (arith, w, more, length-with_child now p tag guard runs)) in
          elim (child.starts s (subst (λ (ss : List ℕ). has_start s ss ≡ true) (ap (λ (n : Node). n.runs.starts) (child-at now p tag guard runs cut.0 last)) cut.1.begins)) [
            | inl first ↦ absurd (cut.1.past first)
            | inr ends ↦ inr ends
          ]
    ]

same-bools : (a b : Bool) → (a ≡ true → b ≡ true) → (b ≡ true → a ≡ true) → a ≡ b
same-bools true b to from = sym (to refl)
same-bools false true to from = from refl
same-bools false false to from = refl

-- more room leaves the cuts
pub cuts-roomier : (before now : List Node) (s : ℕ) → IsRoomier before now → is_cut now s ≡ is_cut before s
cuts-roomier before now s r =
    same-bools (is_cut now s) (is_cut before s) (cut-starts before now s r.links.count r.starts) (cut-starts now before s (sym r.links.count) (λ j. sym (r.starts j)))

-- and what was quiet
pub quiet-roomier : (t u : Shape) → u.root ≡ t.root → u.size ≡ t.size → eager_of u ≡ eager_of t → IsRoomier t.nodes u.nodes → KeepsQuiet t u
quiet-roomier t u root size eager r tag span kind q = record {
  node = subst (λ (e : Tree). is_node e tag ≡ true) (sym eager) q.node;
  within = (let w = q.within in omega (arith, w, size));
  still = λ i lt b from to.
      let low : i < length t.nodes = (let c = r.links.count in omega (arith, lt, c)) in
      let flag : is_on_path (links (eager_nodes t.nodes)) tag (node_at t.nodes i).tag ≡ is_on_path (links (eager_nodes u.nodes)) tag (node_at u.nodes i).tag =
      ap (is_on_path (links (eager_nodes t.nodes)) tag) (sym (r.links.tag i)) ∙ ap (λ ls. is_on_path ls tag (node_at u.nodes i).tag) (sym (links-eager t.nodes u.nodes r.links)) in
      subst (λ (l : Bool). IsQuietSlot (node_at u.nodes i).guard l kind (slot_at u.nodes i b)) flag
      (subst (λ (g : Guard). IsQuietSlot g (is_on_path (links (eager_nodes t.nodes)) tag (node_at t.nodes i).tag) kind (slot_at u.nodes i b)) (sym (r.guard i))
      (subst (λ (l : List Slot). IsQuietSlot (node_at t.nodes i).guard (is_on_path (links (eager_nodes t.nodes)) tag (node_at t.nodes i).tag) kind (get_or l b no_slot)) (sym (r.bytes i)) (q.still i low b from to)));
}

-- the root alone, stored or not
root-quiet : (kind : Kind) → IsQuietSlot Free true kind root_slot
root-quiet Read = (refl, refl)
root-quiet Write = (refl, refl)

stored-quiet : (root : Tag) (size : ℕ) (runs : Ranges Slot) (kind : Kind) (span : Span) → runs.bytes ≡ replicate size root_slot → span.start + span.len ≤ size → (i : ℕ) → i < length (root_node root runs ∷ []) → IsQuietNode (root_node root runs ∷ []) (λ j. is_on_path (links (eager_nodes (root_node root runs ∷ []))) root (node_at (root_node root runs ∷ []) j).tag) kind span i
stored-quiet root size runs kind span bytes within i lt b from to =
    let h : IsSound size (root_node root runs ∷ []) = sound-root root size runs (ap length bytes ∙ length-replicate size root_slot) (λ b lt. ap (λ (s : Slot). rank s.level) (ap (λ (l : List Slot). get_or l b no_slot) bytes ∙ get_or-replicate size b root_slot no_slot lt)) in
    let here : i ≡ 0 = omega (arith, lt) in
    let on : is_on_path (links (eager_nodes (root_node root runs ∷ []))) root root ≡ true = eager-under size (root_node root runs ∷ []) 0 0 h (omega arith) (omega arith) (under-itself (root_node root runs ∷ []) 0 h.linked (omega arith)) in
    let slot : get_or runs.bytes b no_slot ≡ root_slot = ap (λ (l : List Slot). get_or l b no_slot) bytes ∙ get_or-replicate size b root_slot no_slot (omega (arith, to, within)) in
    subst (λ k. IsQuietSlot (node_at (root_node root runs ∷ []) k).guard (is_on_path (links (eager_nodes (root_node root runs ∷ []))) root (node_at (root_node root runs ∷ []) k).tag) kind (slot_at (root_node root runs ∷ []) k b)) (sym here)
    (subst (λ (l : Bool). IsQuietSlot Free l kind (get_or runs.bytes b no_slot)) (sym on) (subst (IsQuietSlot Free true kind) (sym slot) (root-quiet kind)))

pub quiet-stored : (t u : Shape) → t.nodes ≡ [] → u.root ≡ t.root → u.size ≡ t.size → eager_of u ≡ eager_of t → IsRootAlone t.root t.size u.nodes → KeepsQuiet t u
quiet-stored t u none root size eager planted tag span kind q =
    let alone = root-alone t.root t.size t.nodes tag q.node (λ i lt. absurd (let z : length t.nodes ≡ 0 = ap length none in omega (arith, lt, z))) in
    record {
      node = subst (λ (e : Tree). is_node e tag ≡ true) (sym eager) q.node;
      within = (let w = q.within in omega (arith, w, size));
      still = λ i lt.
          subst (λ (g : Tag). IsQuietNode u.nodes (λ j. is_on_path (links (eager_nodes u.nodes)) g (node_at u.nodes j).tag) kind span i) (sym alone.1)
          (subst (λ (ns : List Node). IsQuietNode ns (λ j. is_on_path (links (eager_nodes ns)) t.root (node_at ns j).tag) kind span i) (sym planted.alone)
          (stored-quiet t.root t.size (node_at u.nodes 0).runs kind span planted.bytes q.within i (let l : length u.nodes ≡ 1 = ap length planted.alone in omega (arith, lt, l))));
    }

pub cuts-stored : (t u : Shape) → t.nodes ≡ [] → IsRootAlone t.root t.size u.nodes → KeepsCuts t u
cuts-stored t u none planted s =
    same-bools (is_cut u.nodes s) (is_cut t.nodes s)
    (λ e. absurd (no-cut s (cut-of (root_node t.root (node_at u.nodes 0).runs ∷ []) s (subst (λ (ns : List Node). is_cut ns s ≡ true) planted.alone e))))
    (λ e. absurd (let cut = cut-of t.nodes s e in let w = cut.1.within in let z : length t.nodes ≡ 0 = ap length none in omega (arith, w, z)))
  where
    false-true : false ≡ true → ⊥
    false-true e = cc

    only-first : (s : ℕ) → has_start s (0 ∷ []) ≡ true → s ≡ 0
    only-first s e = elim (cases_eq 0 s) [ inl zero_s ↦ sym zero_s | inr other ↦ absurd (false-true (sym (rw (ne_eqb 0 s other) refl) ∙ e)) ]

    no-cut : (s : ℕ) → (i : ℕ) × IsCutOf (root_node t.root (node_at u.nodes 0).runs ∷ []) s i → ⊥
    no-cut s cut =
        let here : cut.0 ≡ 0 = (let w = cut.1.within in omega (arith, w)) in
        let begins : has_start s (node_at u.nodes 0).runs.starts ≡ true = subst (λ k. has_start s (node_at (root_node t.root (node_at u.nodes 0).runs ∷ []) k).runs.starts ≡ true) here cut.1.begins in
        let first : has_start s (0 ∷ []) ≡ true = subst (λ (ss : List ℕ). has_start s ss ≡ true) planted.starts begins in
        cut.1.past (only-first s first)

-- the same nodes
pub quiet-same : (t u : Shape) → u.root ≡ t.root → u.size ≡ t.size → u.nodes ≡ t.nodes → KeepsQuiet t u
quiet-same t u root size nodes tag span kind q = record {
  node = subst (λ (ns : List Node). is_node (eager_with u.root u.size ns) tag ≡ true) (sym nodes) (subst (λ s. is_node (eager_with u.root s t.nodes) tag ≡ true) (sym size) (subst (λ (r : Tag). is_node (eager_with r t.size t.nodes) tag ≡ true) (sym root) q.node));
  within = (let w = q.within in omega (arith, w, size));
  still = subst (λ (ns : List Node). (i : ℕ) → i < length ns → IsQuietNode ns (λ j. is_on_path (links (eager_nodes ns)) tag (node_at ns j).tag) kind span i) (sym nodes) q.still;
}

-- the same with more room
pub quiet-there : (nodes now : List Node) (marks : List Bool) (kind : Kind) (span : Span) (at : ℕ) → IsRoomier nodes now → get_or marks at false ≡ bool_at marks at → IsQuietNode nodes (bool_at marks) kind span at → IsQuietNode now (λ _. get_or marks at false) kind span at
quiet-there nodes now marks kind span at r idx h b from to =
    subst (λ (l : Bool). IsQuietSlot (node_at now at).guard l kind (slot_at now at b)) (sym idx)
    (subst (λ (g : Guard). IsQuietSlot g (bool_at marks at) kind (slot_at now at b)) (sym (r.guard at))
    (subst (λ (l : List Slot). IsQuietSlot (node_at nodes at).guard (bool_at marks at) kind (get_or l b no_slot)) (sym (r.bytes at)) (h b from to)))

pub quiet-back : (nodes now : List Node) (marks : List Bool) (kind : Kind) (span : Span) (at : ℕ) → IsRoomier nodes now → get_or marks at false ≡ bool_at marks at → IsQuietNode now (λ _. get_or marks at false) kind span at → IsQuietNode nodes (λ _. bool_at marks at) kind span at
quiet-back nodes now marks kind span at r idx h b from to =
    subst (λ (l : Bool). IsQuietSlot (node_at nodes at).guard l kind (slot_at nodes at b)) idx
    (subst (λ (g : Guard). IsQuietSlot g (get_or marks at false) kind (slot_at nodes at b)) (r.guard at)
    (subst (λ (l : List Slot). IsQuietSlot (node_at now at).guard (get_or marks at false) kind (get_or l b no_slot)) (r.bytes at) (h b from to)))

pub covered-roomier : (nodes now : List Node) (kind : Kind) (span : Span) (i : ℕ) → IsRoomier nodes now → IsCovered nodes kind span i → IsCovered now kind span i
covered-roomier nodes now kind span i r covers b from to = subst (λ (l : List Slot). need kind ≤ rank (get_or l b no_slot).level) (sym (r.bytes i)) (covers b from to)

pub pieces-roomier : (before now : List Node) (span : Span) → IsRoomier before now → pieces now span ≤ pieces before span
unfolding pieces
pieces-roomier before now span r =
    let less = count-within (is_cut now) (is_cut before) (span.start + 1) (span.len - 1) (λ s low high e. sym (cuts-roomier before now s r) ∙ e) in omega (arith, less)

-- one visit is within the ring
pub ring-one : (nodes : List Node) (path : ℕ → Bool) (span : Span) (old now : ℕ) → 1 ≤ length nodes → now ≤ old + 1 → now ≤ old + ring_of nodes path * pieces nodes span
unfolding pieces
ring-one nodes path span old now some one =
    ring-count-last nodes path span 0 old old now (omega (arith, some)) (ring-count-start nodes path span old) (omega (arith, one))

-- stored or not, by the answer
pub root-keeps : {A E : Type 0} (r : Result A E) (t u : Shape) → t.nodes ≡ [] → u.root ≡ t.root → u.size ≡ t.size → eager_of u ≡ eager_of t → OnOk r (IsRootAlone t.root t.size u.nodes) → OnErr r (u.nodes ≡ t.nodes) → KeepsQuiet t u × KeepsCuts t u
root-keeps (Ok a) t u none root size eager ok err = (quiet-stored t u none root size eager ok, cuts-stored t u none ok)
root-keeps (Err x) t u none root size eager ok err = (quiet-same t u root size err, λ s. ap (λ (ns : List Node). is_cut ns s) err)
