-- An access piece by piece.
use Rattle.std.proofs.Common.{◌≡◌, ◌⊎◌, inl, inr, ℕ, ◌+◌, ◌-◌, ◌*◌, ◌<◌, ◌≤◌, List, length, Option, Some, None, refl, sym, ap, subst, ◌∙◌, arith}
use Rattle.std.proofs.lemmas.Bool.{cases_lt, ne_eqb}
use Rattle.bsan_ids.specs.declared.numbers.Span.{Span}
use Rattle.perm_table.specs.declared.Kind.{Kind}
use Rattle.eager_tree.specs.Steps.{on_span}
use Rattle.dated_tree.specs.Shape.{Shape, node_at, slot_at}
use Rattle.dated_tree.specs.Dates.{last, seen}
use Rattle.dated_tree.specs.Eager.{tag_at}
use Rattle.dated_tree.specs.Path.{is_on_path}
use Rattle.dated_tree.specs.Meet.{dated_by, IsSlotAfter}
use Rattle.dated_tree.specs.Access.{IsFresh, IsAccessed}
use Rattle.dated_tree.proofs.AccessLemmas.{seen-after}
use Rattle.dated_tree.proofs.EagerLemmas.{same-tag}
use Rattle.dated_tree.proofs.SoundLemmas.{same-path}
use Rattle.dated_access.specs.Path.{entry, IsPathTo}
use Rattle.dated_access.specs.Change.{AreOthers, AreDistinct, AreUniform, IsDatedAlike}
use Rattle.dated_access.specs.Pieces.{HaveOneSlot, IsPiece, ArePieces, piece_start}
use Rattle.dated_access.proofs.WholeLemmas.{on_span-in, on_span-out}

-- at a byte without an access everything is as it was
last-kept : (t u : Shape) (x date b : ℕ) (kinds : ℕ → Option Kind) → IsAccessed x kinds date t u → b < t.size → kinds b ≡ None → last u b ≡ last t b
last-kept t u x date b kinds a in_size e = a.last b in_size ∙ ap (λ o. dated_by o date (last t b)) e

seen-kept : (t u : Shape) (x date b place : ℕ) (kinds : ℕ → Option Kind) → IsFresh t x date → IsAccessed x kinds date t u → b < t.size → kinds b ≡ None → seen u place b ≡ seen t place b
seen-kept t u x date b place kinds f a in_size e = seen-after b x kinds date t u f a in_size place ∙ ap (λ o. dated_by o date (seen t place b)) e

slot-kept : (t u : Shape) (x date b place : ℕ) (kinds : ℕ → Option Kind) → IsAccessed x kinds date t u → 1 ≤ place → place ≤ length t.nodes → b < t.size → kinds b ≡ None → slot_at u.nodes place b ≡ slot_at t.nodes place b
slot-kept t u x date b place kinds a some stored in_size e =
    subst (λ o. IsSlotAfter o (is_on_path t.nodes x place) (node_at t.nodes place).guard (node_at t.nodes place).ends date (seen t place b) (slot_at t.nodes place b) (slot_at u.nodes place b)) e (a.slots place b some stored in_size)

parents-kept : (t u : Shape) (x date : ℕ) (kinds : ℕ → Option Kind) → IsAccessed x kinds date t u → (place : ℕ) → is_on_path u.nodes x place ≡ is_on_path t.nodes x place
parents-kept t u x date kinds a place = same-path t u x place (λ p. (a.links p).parent)

-- at each byte at most one of the two accesses takes place
abbrev pub AreApart : ℕ → (ℕ → Option Kind) → (ℕ → Option Kind) → (ℕ → Option Kind) → Type 0
AreApart size first second whole = (b : ℕ) → b < size → ((second b ≡ None) × (whole b ≡ first b)) ⊎ ((first b ≡ None) × (whole b ≡ second b))

-- two accesses at one date at different bytes are one
pub both-accessed : (t u v : Shape) (x date : ℕ) (first second whole : ℕ → Option Kind) → IsFresh t x date → AreApart t.size first second whole → IsAccessed x first date t u → IsAccessed x second date u v → IsAccessed x whole date t v
both-accessed t u v x date first second whole f apart a c = record {
  root = c.root ∙ a.root;
  size = c.size ∙ a.size;
  now = c.now;
  actor = c.actor ∙ ap (λ g. Some g) (same-tag t u x a.root (a.links x).tag);
  guarded = c.guarded ∙ a.guarded;
  count = c.count ∙ a.count;
  links = λ p. record {
    tag = (c.links p).tag ∙ (a.links p).tag;
    parent = (c.links p).parent ∙ (a.links p).parent;
    guard = (c.links p).guard ∙ (a.links p).guard;
    ends = (c.links p).ends ∙ (a.links p).ends;
  };
  sized = λ p. c.sized p ∙ a.sized p;
  accesses = c.accesses ∙ a.accesses;
  writes = c.writes ∙ a.writes;
  last = λ b in_size. let now : b < u.size = omega (arith, in_size, a.size) in
      elim (apart b in_size) [
        | inl one ↦ last-kept u v x date b second c now one.0 ∙ a.last b in_size ∙ ap (λ o. dated_by o date (last t b)) (sym one.1)
        | inr two ↦ c.last b now ∙ ap (dated_by (second b) date) (last-kept t u x date b first a in_size two.0) ∙ ap (λ o. dated_by o date (last t b)) (sym two.1)
      ];
  slots = λ place b some stored in_size.
      let now : b < u.size = omega (arith, in_size, a.size) in
      let stored_now : place ≤ length u.nodes = omega (arith, stored, a.count) in
      elim (apart b in_size) [
        | inl one ↦
            subst (λ o. IsSlotAfter o (is_on_path t.nodes x place) (node_at t.nodes place).guard (node_at t.nodes place).ends date (seen t place b) (slot_at t.nodes place b) (slot_at v.nodes place b)) (sym one.1)
            (subst (IsSlotAfter (first b) (is_on_path t.nodes x place) (node_at t.nodes place).guard (node_at t.nodes place).ends date (seen t place b) (slot_at t.nodes place b)) (sym (slot-kept u v x date b place second c some stored_now now one.0)) (a.slots place b some stored in_size))
        | inr two ↦
            subst (λ o. IsSlotAfter o (is_on_path t.nodes x place) (node_at t.nodes place).guard (node_at t.nodes place).ends date (seen t place b) (slot_at t.nodes place b) (slot_at v.nodes place b)) (sym two.1)
            (subst (λ s. IsSlotAfter (second b) (is_on_path t.nodes x place) (node_at t.nodes place).guard (node_at t.nodes place).ends date (seen t place b) s (slot_at v.nodes place b)) (slot-kept t u x date b place first a some stored in_size two.0)
            (subst (λ d. IsSlotAfter (second b) (is_on_path t.nodes x place) (node_at t.nodes place).guard (node_at t.nodes place).ends date d (slot_at u.nodes place b) (slot_at v.nodes place b)) (seen-kept t u x date b place first f a in_size two.0)
            (subst (λ e. IsSlotAfter (second b) (is_on_path t.nodes x place) (node_at t.nodes place).guard e date (seen u place b) (slot_at u.nodes place b) (slot_at v.nodes place b)) (a.links place).ends
            (subst (λ g. IsSlotAfter (second b) (is_on_path t.nodes x place) g (node_at u.nodes place).ends date (seen u place b) (slot_at u.nodes place b) (slot_at v.nodes place b)) (a.links place).guard
            (subst (λ l. IsSlotAfter (second b) l (node_at u.nodes place).guard (node_at u.nodes place).ends date (seen u place b) (slot_at u.nodes place b) (slot_at v.nodes place b)) (parents-kept t u x date first a place)
            (c.slots place b some stored_now now))))))
      ];
}

-- an access at no byte
pub none-accessed : (t : Shape) (x : ℕ) (kinds : ℕ → Option Kind) → t.actor ≡ Some (tag_at t x) → ((b : ℕ) → kinds b ≡ None) → IsAccessed x kinds t.clock t t
none-accessed t x kinds actor none = record {
  root = refl;
  size = refl;
  now = refl;
  actor = actor;
  guarded = refl;
  count = refl;
  links = λ p. record { tag = refl; parent = refl; guard = refl; ends = refl };
  sized = λ p. refl;
  accesses = refl;
  writes = refl;
  last = λ b in_size. ap (λ o. dated_by o t.clock (last t b)) (sym (none b));
  slots = λ place b some stored in_size. subst (λ o. IsSlotAfter o (is_on_path t.nodes x place) (node_at t.nodes place).guard (node_at t.nodes place).ends t.clock (seen t place b) (slot_at t.nodes place b) (slot_at t.nodes place b)) (sym (none b)) refl;
}

abbrev pub bytes : ℕ → ℕ → Span
bytes from end = record { start = from; len = end - from }

pub empty-span : (t : Shape) (x from : ℕ) (kind : Kind) → t.actor ≡ Some (tag_at t x) → IsAccessed x (on_span (bytes from from) kind) t.clock t t
empty-span t x from kind actor = none-accessed t x (on_span (bytes from from) kind) actor (λ b. on_span-out (bytes from from) kind b (out b))
  where
    out : (b : ℕ) → (b < from) ⊎ (from + (from - from) ≤ b)
    out b = elim (cases_lt b from) [ inl less ↦ inl less | inr more ↦ inr (omega (arith, more)) ]

-- the bytes up to a piece and those of the piece
pub spans-apart : (size start from end : ℕ) (kind : Kind) → start ≤ from → from < end → AreApart size (on_span (bytes start from) kind) (on_span (bytes from end) kind) (on_span (bytes start end) kind)
spans-apart size start from end kind low some = λ b in_size.
    elim (cases_lt b start) [
      | inl before ↦ inl (on_span-out (bytes from end) kind b (inl (omega (arith, before, low))), on_span-out (bytes start end) kind b (inl before) ∙ sym (on_span-out (bytes start from) kind b (inl before)))
      | inr after ↦ elim (cases_lt b from) [
        | inl first ↦ inl (on_span-out (bytes from end) kind b (inl first), on_span-in (bytes start end) kind b after (omega (arith, first, some, low)) ∙ sym (on_span-in (bytes start from) kind b after (omega (arith, first, low))))
        | inr later ↦ inr (
          on_span-out (bytes start from) kind b (inr (omega (arith, later, low))),
          elim (cases_lt b end) [
            | inl second ↦ on_span-in (bytes start end) kind b after (omega (arith, second, low, some)) ∙ sym (on_span-in (bytes from end) kind b later (omega (arith, second, some)))
            | inr past ↦ on_span-out (bytes start end) kind b (inr (omega (arith, past, low, some))) ∙ sym (on_span-out (bytes from end) kind b (inr (omega (arith, past, some))))
          ],
        )
      ]
    ]

pub path-kept : (t u : Shape) (x date : ℕ) (path : List ℕ) (kinds : ℕ → Option Kind) → IsAccessed x kinds date t u → IsPathTo t.nodes x path → IsPathTo u.nodes x path
path-kept t u x date path kinds a p = record {
  way = record {
    some = p.way.some;
    stored = λ k lt. (let s = p.way.stored k lt in omega (arith, s, a.count));
    parent = λ k lt. (a.links (entry path k)).parent ∙ p.way.parent k lt;
  };
  sound = λ k lt. parents-kept t u x date kinds a (entry path k) ∙ p.sound k lt;
  whole = λ place some on. p.whole place some (sym (parents-kept t u x date kinds a place) ∙ on);
}

pub others-kept-by : (t u : Shape) (x date : ℕ) (others : List ℕ) (kinds : ℕ → Option Kind) → IsAccessed x kinds date t u → AreOthers t x others → AreOthers u x others
others-kept-by t u x date others kinds a o = record {
  distinct = record { some = o.distinct.some; stored = λ k lt. (let s = o.distinct.stored k lt in omega (arith, s, a.count)); once = o.distinct.once };
  rising = o.rising;
  off = λ k lt. parents-kept t u x date kinds a (entry others k) ∙ o.off k lt;
  guarded = λ k lt. rw (a.links (entry others k)).guard (o.guarded k lt);
  whole = λ place some stored off protected. o.whole place some (omega (arith, stored, a.count)) (sym (parents-kept t u x date kinds a place) ∙ off) (rw (a.links place).guard at protected);
}

-- a piece that isn't met yet is as it was
pub uniform-still : (t u : Shape) (x date start from end runs : ℕ) (kind : Kind) (places : List ℕ) → start ≤ from → from < end → end ≤ t.size → IsAccessed x (on_span (bytes start from) kind) date t u → AreDistinct t places → HaveOneSlot t places from end →
    ((k : ℕ) → k < length places → 2 ≤ (node_at u.nodes (entry places k)).runs.spare) → AreUniform u places (bytes from end)
uniform-still t u x date start from end runs kind places low some fits a d one room = record {
  slots = λ k b lt f to.
      let high : b < end = omega (arith, to, some) in
      slot-kept t u x date b (entry places k) (on_span (bytes start from) kind) a (d.some k lt) (d.stored k lt) (omega (arith, high, fits)) (on_span-out (bytes start from) kind b (inr (omega (arith, f, low))))
      ∙ one k b lt f high
      ∙ sym (slot-kept t u x date from (entry places k) (on_span (bytes start from) kind) a (d.some k lt) (d.stored k lt) (omega (arith, some, fits)) (on_span-out (bytes start from) kind from (inr (omega (arith, low)))));
  room = room;
}

pub dated-still : (t u : Shape) (x date start from end : ℕ) (kind : Kind) → start ≤ from → from < end → end ≤ t.size → IsAccessed x (on_span (bytes start from) kind) date t u → ((b : ℕ) → from ≤ b → b < end → last t b ≡ last t from) → IsDatedAlike u (bytes from end)
dated-still t u x date start from end kind low some fits a alike = λ b f to.
    let high : b < end = omega (arith, to, some) in
    last-kept t u x date b (on_span (bytes start from) kind) a (omega (arith, high, fits)) (on_span-out (bytes start from) kind b (inr (omega (arith, f, low))))
    ∙ alike b f high
    ∙ sym (last-kept t u x date from (on_span (bytes start from) kind) a (omega (arith, some, fits)) (on_span-out (bytes start from) kind from (inr (omega (arith, low)))))

pub next-start : (from : ℕ) (ends : List ℕ) (k end : ℕ) → end ≡ entry ends k → end ≡ piece_start from ends (k + 1)
next-start from ends k end e = e ∙ sym (rw (ne_eqb (k + 1) 0 (λ z. omega (arith, z))) (ap (entry ends) (let n : k + 1 - 1 ≡ k = omega arith in n)))

-- the piece that is met next, and what holds of it in the tree as it is now
pub record Next (t u : Shape) (x start from end : ℕ) (path others : List ℕ) : Type 0 where
  pub low : start ≤ from
  pub piece : IsPiece t path others from end

pub next-piece : (t u : Shape) (x start from i : ℕ) (path others ends : List ℕ) → ArePieces t path others start ends → i < length ends → from ≡ piece_start start ends i → start ≤ from → Next t u x start from (entry ends i) path others
next-piece t u x start from i path others ends h lt e low = record {
  low = low;
  piece = subst (λ s. IsPiece t path others s (entry ends i)) (sym e) (h i lt);
}

pub room-still : (t u : Shape) (places : List ℕ) (i n : ℕ) → i < n → ((k : ℕ) → k < length places → 2 * n ≤ (node_at t.nodes (entry places k)).runs.spare) → ((place : ℕ) → (node_at t.nodes place).runs.spare ≤ (node_at u.nodes place).runs.spare + 2 * i) → (k : ℕ) → k < length places → 2 ≤ (node_at u.nodes (entry places k)).runs.spare
room-still t u places i n lt room spare k less = (let a = room k less in let b = spare (entry places k) in omega (arith, a, b, lt))

-- the first bytes and one piece more
pub accessed-more : (t u v : Shape) (x start from end : ℕ) (path others : List ℕ) (kind : Kind) → IsFresh t x t.clock → Next t u x start from end path others → IsAccessed x (on_span (bytes start from) kind) t.clock t u → IsAccessed x (on_span (bytes from end) kind) u.clock u v → IsAccessed x (on_span (bytes start end) kind) t.clock t v
accessed-more t u v x start from end path others kind f n a c =
    both-accessed t u v x t.clock (on_span (bytes start from) kind) (on_span (bytes from end) kind) (on_span (bytes start end) kind) f (spans-apart t.size start from end kind n.low n.piece.some) a (subst (λ d. IsAccessed x (on_span (bytes from end) kind) d u v) a.now c)
