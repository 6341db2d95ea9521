-- The ends of runs, and the pieces that they make.
use Rattle.std.proofs.Common.{◌≡◌, ◌⊎◌, inl, inr, ℕ, zero, suc, ◌+◌, ◌<◌, ◌≤◌, ◌||◌, nat_lt, min, Bool, true, false, cond, eqb, eq-eqb, List, [], ◌∷◌, length, refl, sym, subst, ◌∙◌, arith}
use Rattle.std.proofs.lemmas.Bool.{cases_lt}
use Rattle.std.specs.List.{list_any}
use Rattle.range_map.specs.Ranges.{has_start, next_start}
use Rattle.dated_tree.specs.Shape.{Shape, node_at, slot_at}
use Rattle.dated_tree.specs.Dates.{last}
use Rattle.dated_access.specs.Path.{entry}
use Rattle.dated_access.specs.Pieces.{begins_in, begins_dates, is_cut, IsRunEnd, IsPiece}

pub or-left : (a b : Bool) → a ≡ true → (a || b) ≡ true
or-left true b e = refl
or-left false b e = cc

pub or-right : (a b : Bool) → b ≡ true → (a || b) ≡ true
or-right true b e = refl
or-right false b e = e

-- the next run start is the end, or a run begins there
pub next-found : (len at : ℕ) (starts : List ℕ) → (next_start len at starts ≡ len) ⊎ (has_start (next_start len at starts) starts ≡ true)
next-found len at [] = inl refl
next-found len at (s ∷ ss) = pick (nat_lt at s) (next_start len at ss) (next-found len at ss)
  where
    pick : (b : Bool) (n : ℕ) → (n ≡ len) ⊎ (has_start n ss ≡ true) → (cond b s n ≡ len) ⊎ (has_start (cond b s n) (s ∷ ss) ≡ true)
    pick true n h = inr (or-left (eqb s s) _ (eq-eqb s s refl))
    pick false n (inl end) = inl end
    pick false n (inr start) = inr (or-right (eqb s n) _ start)

pub any-at : (test : ℕ → Bool) (places : List ℕ) (k : ℕ) → k < length places → test (entry places k) ≡ true → list_any test places ≡ true
any-at test [] k lt e = absurd (omega arith)
any-at test (p ∷ ps) zero lt e = or-left (test p) _ e
any-at test (p ∷ ps) (suc k) lt e = or-right (test p) _ (any-at test ps k (omega (arith, lt)) e)

-- the ends of the runs of the first n of some nodes
pub record UpTo (t : Shape) (places : List ℕ) (n at end next : ℕ) : Type 0 where
  pub after : at < next
  pub within : next ≤ end
  pub slots : (k b : ℕ) → k < n → at ≤ b → b < next → slot_at t.nodes (entry places k) b ≡ slot_at t.nodes (entry places k) at
  pub cut : (next ≡ end) ⊎ (begins_in t.nodes places next ≡ true)

pub up-to-none : (t : Shape) (places : List ℕ) (at end : ℕ) → at < end → UpTo t places 0 at end end
up-to-none t places at end some = record {
  after = some;
  within = omega arith;
  slots = λ k b lt from to. absurd (omega (arith, lt));
  cut = inl refl;
}

least : (a b : ℕ) → ((min a b ≡ a) × (a ≤ b)) ⊎ ((min a b ≡ b) × (b ≤ a))
least a b = elim (cases_lt b a) [ inl less ↦ inr (omega (arith, less), omega (arith, less)) | inr more ↦ inl (omega (arith, more), omega (arith, more)) ]

pub up-to-more : (t : Shape) (places : List ℕ) (i at end next run now : ℕ) → i < length places → end ≤ t.size → UpTo t places i at end next → run ≡ next_start t.size at (node_at t.nodes (entry places i)).runs.starts → at < run → run ≤ t.size →
    ((b : ℕ) → at ≤ b → b < run → slot_at t.nodes (entry places i) b ≡ slot_at t.nodes (entry places i) at) → now ≡ min next run → UpTo t places (i + 1) at end now
up-to-more t places i at end next run now lt fits h is after within same e = record {
  after = (let a = h.after in omega (arith, a, after, e));
  within = (let w = h.within in omega (arith, w, e));
  slots = λ k b less from to. elim (cases_lt k i) [
    | inl old ↦ h.slots k b old from (omega (arith, to, e))
    | inr new ↦ (let here : k ≡ i = omega (arith, less, new) in rw here (same b from (omega (arith, to, e))))
  ];
  cut = elim (least next run) [
    | inl old ↦ subst (λ n. (n ≡ end) ⊎ (begins_in t.nodes places n ≡ true)) (sym (e ∙ old.0)) h.cut
    | inr new ↦ elim (next-found t.size at (node_at t.nodes (entry places i)).runs.starts) [
      | inl last_run ↦ inl (let w = h.within in let less = new.1 in omega (arith, w, fits, less, e, new.0, is, last_run))
      | inr start ↦ inr (subst (λ n. begins_in t.nodes places n ≡ true) (sym (e ∙ new.0 ∙ is)) (any-at (λ place. has_start (next_start t.size at (node_at t.nodes (entry places i)).runs.starts) (node_at t.nodes place).runs.starts) places i lt start))
    ]
  ];
}

pub up-to-all : (t : Shape) (places : List ℕ) (n at end next : ℕ) → length places ≤ n → UpTo t places n at end next → IsRunEnd t places at end next
up-to-all t places n at end next all h = record {
  after = h.after;
  within = h.within;
  slots = λ k b lt from to. h.slots k b (omega (arith, lt, all)) from to;
  cut = h.cut;
}

-- the dates' runs, the path's and the others' together
pub piece-of : (t : Shape) (path others : List ℕ) (at end dates same local next : ℕ) → at < end → end ≤ t.size → dates ≡ min (next_start t.size at t.accesses.starts) (next_start t.size at t.writes.starts) → at < dates → ((b : ℕ) → at ≤ b → b < dates → last t b ≡ last t at) → same ≡ min dates end →
    IsRunEnd t path at same local → IsRunEnd t others at local next → IsPiece t path others at next × (next ≤ end) × ((next ≡ end) ⊎ (is_cut t path others next ≡ true))
piece-of t path others at end dates same local next some fits is after alike e p o = (
  record {
    some = o.after;
    within = (let w = o.within in let v = p.within in omega (arith, w, v, e, fits));
    on_path = λ k b lt from to. p.slots k b lt from (let w = o.within in omega (arith, to, w));
    off_path = o.slots;
    dates = λ b from to. alike b from (let w = o.within in let v = p.within in omega (arith, to, w, v, e));
  },
  (let w = o.within in let v = p.within in omega (arith, w, v, e)),
  elim o.cut [
    | inr start ↦ inr (or-right (begins_dates t next) _ (or-right (begins_in t.nodes path next) _ start))
    | inl whole ↦ elim p.cut [
      | inr start ↦ inr (or-right (begins_dates t next) _ (or-left _ (begins_in t.nodes others next) (subst (λ n. begins_in t.nodes path n ≡ true) (sym whole) start)))
      | inl all ↦ elim (least dates end) [
        | inr ends ↦ inl (omega (arith, whole, all, e, ends.0))
        | inl cut ↦ subst (λ n. (n ≡ end) ⊎ (is_cut t path others n ≡ true)) (sym (whole ∙ all ∙ e ∙ cut.0)) (dates-cut cut.1)
      ]
    ]
  ],
)
  where
    at-dates : (n : ℕ) → dates ≡ n → n ≡ next_start t.size at t.accesses.starts → (dates ≡ t.size) ⊎ (has_start dates t.accesses.starts ≡ true)
    at-dates n d e = elim (next-found t.size at t.accesses.starts) [
      | inl end ↦ inl (d ∙ e ∙ end)
      | inr start ↦ inr (subst (λ m. has_start m t.accesses.starts ≡ true) (sym (d ∙ e)) start)
    ]

    dates-cut : dates ≤ end → (dates ≡ end) ⊎ (is_cut t path others dates ≡ true)
    dates-cut le = elim (least (next_start t.size at t.accesses.starts) (next_start t.size at t.writes.starts)) [
      | inl first ↦ elim (at-dates _ (is ∙ first.0) refl) [
        | inl size ↦ inl (omega (arith, size, le, fits))
        | inr start ↦ inr (or-left _ _ (or-left _ _ start))
      ]
      | inr second ↦ elim (next-found t.size at t.writes.starts) [
        | inl size ↦ inl (omega (arith, is, second.0, size, le, fits))
        | inr start ↦ inr (or-left _ _ (or-right (has_start dates t.accesses.starts) _ (subst (λ m. has_start m t.writes.starts ≡ true) (sym (is ∙ second.0)) start)))
      ]
    ]
