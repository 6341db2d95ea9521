-- An access in a tree whose date it has begun, and one that is denied.
use Rattle.std.proofs.Common.{◌≡◌, ◌⊎◌, inl, inr, ℕ, zero, suc, ◌+◌, ◌*◌, ◌<◌, ◌≤◌, ◌==◌, Bool, true, false, cond, List, [], ◌∷◌, ◌++◌, length, map, eqb-true, Option, Some, None, refl, sym, ap, subst, ◌∙◌, arith}
use Rattle.std.proofs.Math.Nat.{mul-le-mul_right, mul-add}
use Rattle.std.proofs.lemmas.Bool.{cases_lt, cases_eq}
use Rattle.std.specs.List.{range_with_len}
use Rattle.bsan_ids.specs.declared.numbers.Span.{Span}
use Rattle.bsan_ids.specs.declared.numbers.Tag.{Tag}
use Rattle.perm_table.specs.declared.Kind.{Kind}
use Rattle.eager_tree.specs.declared.node.Node.{Node}
use Rattle.eager_tree.specs.declared.violation.Violation.{Violation}
use Rattle.eager_tree.specs.declared.violation.Violation.TheVariants.{Denied}
use Rattle.eager_tree.specs.Tree.{Tree, new_tree}
use Rattle.eager_tree.specs.Steps.{access, on_span}
use Rattle.dated_tree.specs.Shape.{Shape, node_at, slot_at}
use Rattle.dated_tree.specs.Dates.{last, seen_within, seen_below}
use Rattle.dated_tree.specs.Eager.{eager_of, eager_node, cell_of, tag_at}
use Rattle.dated_tree.specs.Path.{is_on_path}
use Rattle.dated_tree.specs.Meet.{is_refused, IsSlotAfter}
use Rattle.dated_tree.specs.Access.{IsFresh, IsAccessed, NoDenial, IsFirstDenial}
use Rattle.dated_tree.specs.Kept.{IsSound}
use Rattle.dated_tree.specs.Stored.{is_acting, date_for}
use Rattle.dated_tree.proofs.SoundLemmas.{sound-after}
use Rattle.dated_tree.proofs.WholeLemmas.{access-done, access-refused, next-fresh}
use Rattle.dated_access.specs.Change.{AreOthers}
use Rattle.dated_access.specs.Pieces.{ArePieces, HasRoom}
use Rattle.dated_access.specs.Denied.{refuses, NoneRefuses, IsFirstOn}
use Rattle.dated_access.specs.declared.denied.Denial.{Denial}
use Rattle.dated_access.proofs.WholeLemmas.{in-span, on_span-in, on_span-out}
use Rattle.dated_access.proofs.DeniedLemmas.{cell-counted}

-- the tree with another date, actor and counter
abbrev pub begun : Shape → ℕ → Option Tag → ℕ → Shape
begun t clock actor visits = record t { clock = clock; actor = actor; visits = visits }

seen-steps : (more b : ℕ) (t : Shape) (clock : ℕ) (actor : Option Tag) (visits place : ℕ) → seen_within more (begun t clock actor visits) place b ≡ seen_within more t place b
seen-steps zero b t clock actor visits place = refl
seen-steps (suc more) b t clock actor visits place =
    ap (λ d. cond (place == 0) (last t b) (seen_below (node_at t.nodes place).ends (slot_at t.nodes place b).met d)) (seen-steps more b t clock actor visits (node_at t.nodes place).parent)

-- an access from there is one from the tree before
accessed-begun : (t v : Shape) (clock : ℕ) (actor : Option Tag) (visits x date : ℕ) (kinds : ℕ → Option Kind) → IsAccessed x kinds date (begun t clock actor visits) v → IsAccessed x kinds date t v
accessed-begun t v clock actor visits x date kinds a = record {
  root = a.root;
  size = a.size;
  now = a.now;
  actor = a.actor;
  guarded = a.guarded;
  count = a.count;
  links = a.links;
  sized = a.sized;
  accesses = a.accesses;
  writes = a.writes;
  last = a.last;
  slots = λ place b some stored in_size. subst (λ d. IsSlotAfter (kinds b) (is_on_path t.nodes x place) (node_at t.nodes place).guard (node_at t.nodes place).ends date d (slot_at t.nodes place b) (slot_at v.nodes place b)) (seen-steps place b t clock actor visits place) (a.slots place b some stored in_size);
}

-- the date of an access through the node is fresh
pub date-fresh : (t : Shape) (x : ℕ) → IsSound t → x ≤ length t.nodes → IsFresh t x (date_for t (tag_at t x))
date-fresh t x h low = by (is_acting t.actor (tag_at t x)) refl
  where
    acting : (a : Option Tag) (g : Tag) → is_acting a g ≡ true → a ≡ Some g
    acting None g e = cc
    acting (Some b) g e = (let n : b.0 ≡ g.0 = eqb-true b.0 g.0 e in ap (λ m. (let q : Tag = record { 0 = m } in Some q)) n)

    by : (b : Bool) → is_acting t.actor (tag_at t x) ≡ b → IsFresh t x (cond b t.clock (t.clock + 1))
    by true e = h.actor x low (acting t.actor (tag_at t x) e)
    by false e = next-fresh t x h

-- what holds of the tree whose date has begun
pub record Begins (t w : Shape) (x : ℕ) (path others ends : List ℕ) (start runs : ℕ) : Type 0 where
  pub actor : w.actor ≡ Some (tag_at w x)
  pub fresh : IsFresh w x w.clock
  pub others_are : AreOthers w x others
  pub pieces_are : ArePieces w path others start ends
  pub room : HasRoom w path others runs

pub begins : (t : Shape) (x : ℕ) (path others ends : List ℕ) (start visits runs few : ℕ) → IsSound t → x ≤ length t.nodes → AreOthers t x others → ArePieces t path others start ends → few ≤ runs → HasRoom t path others runs →
    Begins t (begun t (date_for t (tag_at t x)) (Some (tag_at t x)) visits) x path others ends start few
begins t x path others ends start visits runs few h low o p le room =
    let f = date-fresh t x h low in
    record {
      actor = refl;
      fresh = record { now = omega arith; ends = f.ends; met = f.met };
      others_are = record { distinct = record { some = o.distinct.some; stored = o.distinct.stored; once = o.distinct.once }; rising = o.rising; off = o.off; guarded = o.guarded; whole = o.whole };
      pieces_are = λ k lt. (let q = p k lt in record { some = q.some; within = q.within; on_path = q.on_path; off_path = q.off_path; dates = q.dates });
      room = record {
        on_path = λ k lt. (let r = room.on_path k lt in omega (arith, r, le));
        off_path = λ k lt. (let r = room.off_path k lt in omega (arith, r, le));
        accesses = (let r = room.accesses in omega (arith, r, le));
        writes = (let r = room.writes in omega (arith, r, le));
      };
    }

-- where no node denies the access at a byte of the span, none does
pub no-denial : (t : Shape) (x : ℕ) (span : Span) (kind : Kind) → ((b : ℕ) → span.start ≤ b → b < span.start + span.len → NoneRefuses t x kind b) → NoDenial t x (on_span span kind)
no-denial t x span kind none = λ place b some stored in_size. elim (in-span span b) [
  | inl inside ↦ ap (λ o. is_refused o (is_on_path t.nodes x place) (node_at t.nodes place).guard (cell_of t place b)) (on_span-in span kind b inside.0 inside.1) ∙ none b inside.0 inside.1 place some stored
  | inr out ↦ ap (λ o. is_refused o (is_on_path t.nodes x place) (node_at t.nodes place).guard (cell_of t place b)) (on_span-out span kind b out)
]

both : (b : Bool) → b ≡ true → b ≡ false → ⊥
both true e f = cc
both false e f = cc

pub first-denial : (t : Shape) (x : ℕ) (span : Span) (kind : Kind) (found : Denial) → span.start + span.len ≤ t.size → IsFirstOn t x span kind found → IsFirstDenial t x (on_span span kind) found.place found.offset
first-denial t x span kind found fits f = record {
  some = f.here.some;
  stored = f.here.stored;
  within = (let to = f.to in omega (arith, to, fits));
  denied = ap (λ o. is_refused o (is_on_path t.nodes x found.place) (node_at t.nodes found.place).guard (cell_of t found.place found.offset)) (on_span-in span kind found.offset f.from f.to) ∙ f.here.denied;
  least = λ i c some stored in_size r. elim (in-span span c) [
    | inr out ↦ absurd (both _ r (ap (λ o. is_refused o (is_on_path t.nodes x i) (node_at t.nodes i).guard (cell_of t i c)) (on_span-out span kind c out)))
    | inl inside ↦
        let there : refuses t x kind c i ≡ true = sym (ap (λ o. is_refused o (is_on_path t.nodes x i) (node_at t.nodes i).guard (cell_of t i c)) (on_span-in span kind c inside.0 inside.1)) ∙ r in
        elim (cases c) [
          | inl before ↦ absurd (both _ there (f.before c inside.0 before i some stored))
          | inr (inl same) ↦ inr (same, f.here.least i some stored (ap (λ b. refuses t x kind b i) same ∙ there))
          | inr (inr after) ↦ inl after
        ]
  ];
}
  where
    cases : (c : ℕ) → (c < found.offset) ⊎ ((found.offset ≡ c) ⊎ (found.offset < c))
    cases c = elim (cases_lt c found.offset) [ inl before ↦ inl before | inr more ↦ elim (cases_eq found.offset c) [ inl same ↦ inr (inl same) | inr other ↦ inr (inr (omega (arith, more, other))) ] ]

map-same : {A B : Type 0} (f g : A → B) → ((x : A) → f x ≡ g x) → (xs : List A) → map f xs ≡ map g xs
map-same f g h [] = refl
map-same f g h (x ∷ xs) = ap (λ y. y ∷ map f xs) (h x) ∙ ap (λ ys. g x ∷ ys) (map-same f g h xs)

eager-node-counted : (t : Shape) (visits place : ℕ) → eager_node (record t { visits = visits }) place ≡ eager_node t place
eager-node-counted t visits place =
    ap (λ cells. (let n : Node = record { tag = tag_at t place; parent = Some (tag_at t (node_at t.nodes place).parent); guard = (node_at t.nodes place).guard; cells = cells } in n)) (map-same (cell_of (record t { visits = visits }) place) (cell_of t place) (λ b. cell-counted t visits place b) (range_with_len 0 t.size))

eager-counted : (t : Shape) (visits : ℕ) → eager_of (record t { visits = visits }) ≡ eager_of t
eager-counted t visits =
    ap (λ ns. (let e : Tree = record { size = t.size; nodes = (new_tree t.size t.root).nodes ++ ns } in e)) (map-same (eager_node (record t { visits = visits })) (eager_node t) (eager-node-counted t visits) (range_with_len 1 (length t.nodes)))

-- the answer of a denied access
pub denied-answer : (t u : Shape) (x : ℕ) (span : Span) (kind : Kind) (found : Denial) (tag : Tag) → IsSound t → x ≤ length t.nodes → span.start + span.len ≤ t.size → IsFirstOn t x span kind found → u ≡ record t { visits = u.visits } → tag ≡ tag_at u found.place →
    (let p : Option Violation × Tree = (Some (Denied found.offset tag found.perm found.local), eager_of u) in p) ≡ access (eager_of t) (tag_at t x) span kind
denied-answer t u x span kind found tag h low fits f e g =
    ap (λ y. (let p : Option Violation × Tree = (Some (Denied found.offset tag found.perm found.local), y) in p)) (ap eager_of e ∙ eager-counted t u.visits)
    ∙ ap (λ q. (let p : Option Violation × Tree = (Some (Denied found.offset q found.perm found.local), eager_of t) in p)) (g ∙ ap (λ (s : Shape). tag_at s found.place) e)
    ∙ ap (λ q. (let p : Option Violation × Tree = (Some (Denied found.offset (tag_at t found.place) q found.local), eager_of t) in p)) f.here.perm_there
    ∙ ap (λ q. (let p : Option Violation × Tree = (Some (Denied found.offset (tag_at t found.place) (cell_of t found.place found.offset).perm q), eager_of t) in p)) f.here.local_there
    ∙ access-refused t x span kind found.place found.offset h low (first-denial t x span kind found fits f)

-- the tree after an access that isn't denied
pub record IsDone (t v : Shape) (x : ℕ) (span : Span) (kind : Kind) : Type 0 where
  pub sound : IsSound v
  pub answer : (let p : Option Violation × Tree = (None, eager_of v) in p) ≡ access (eager_of t) (tag_at t x) span kind

pub done : (t v : Shape) (x visits : ℕ) (span : Span) (kind : Kind) → IsSound t → x ≤ length t.nodes → ((b : ℕ) → span.start ≤ b → b < span.start + span.len → NoneRefuses t x kind b) →
    IsAccessed x (on_span span kind) (date_for t (tag_at t x)) (begun t (date_for t (tag_at t x)) (Some (tag_at t x)) visits) v → IsDone t v x span kind
done t v x visits span kind h low none a =
    let date = date_for t (tag_at t x) in
    let was = accessed-begun t v date (Some (tag_at t x)) visits x date (on_span span kind) a in
    let fresh = date-fresh t x h low in
    let fine = no-denial t x span kind none in
    record {
      sound = sound-after x (on_span span kind) date t v h low fresh fine was;
      answer = access-done t v x span kind date h low fresh fine was;
    }

-- the tree whose date has begun, by the steps to it
pub begun-by : (t u w : Shape) (x : ℕ) (tag : Tag) → u ≡ record t { visits = u.visits } → tag ≡ tag_at u x → w ≡ record u { clock = date_for u tag; actor = Some tag } → w ≡ begun t (date_for t (tag_at t x)) (Some (tag_at t x)) u.visits
begun-by t u w x tag e g f =
    let same : tag ≡ tag_at t x = g ∙ ap (λ (s : Shape). tag_at s x) e in
    f ∙ ap {A = Tag} (λ q. (let s : Shape = record u { clock = date_for u q; actor = Some q } in s)) same
    ∙ ap {A = Shape} (λ (s : Shape). (let r : Shape = record s { clock = date_for s (tag_at t x); actor = Some (tag_at t x) } in r)) e

pub times-three : (k m n : ℕ) → n ≤ k → k * m + n * (2 * m) ≤ k * (3 * m)
times-three k m n le =
    let some = mul-le-mul_right (2 * m) le in
    let sum : k * (m + 2 * m) ≡ k * m + k * (2 * m) = mul-add k m (2 * m) in
    let three : k * (3 * m) ≡ k * (m + 2 * m) = ap (λ i. k * i) (omega arith) in
    omega (arith, some, sum, three)
