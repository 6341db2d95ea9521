-- Lemmas on the joining of neighbours.
use Rattle.std.proofs.Common.{◌≡◌, ℕ, zero, suc, ◌+◌, ◌<◌, ◌≤◌, List, [], ◌∷◌, ◌++◌, length, take, drop, get_or, set, map, Bool, true, false, not, ◌||◌, eqb, cond, refl, sym, ap, subst, ◌∙◌, inl, inr, arith, length-append, length-set}
use Rattle.std.proofs.lemmas.Bool.Decides.{nat_tests}
use Rattle.std.proofs.lemmas.Bool.{cases_lt}
use Rattle.std.proofs.lemmas.List.{take_more, places, drop_more, drop-set-lt, take-set-le, get_or-set_same}
use Rattle.std.specs.List.{range_with_len}
use Rattle.range_map.specs.declared.Run.{Run}
use Rattle.range_map.specs.Runs.{value_at, IsRisingTo, bytes_of, starts_of, compacted, last_value}
use Rattle.range_map.proofs.RunLemmas.{rising-weaken, rising-bound, value_at-low}
use Rattle.range_map.specs.Ranges.{boundaries, boundaries_from, has_start}

cond-cons : {T : Type 0} (b : Bool) (x : T) (xs ys : List T) → x ∷ cond b xs ys ≡ cond b (x ∷ xs) (x ∷ ys)
cond-cons true x xs ys = refl
cond-cons false x xs ys = refl

-- the runs kept of one more
pub compacted-more : {T : Type 0} (same : T → T → Bool) (v : T) (xs : List (Run T)) (r : Run T) → compacted same v (xs ++ r ∷ []) ≡ cond (same (last_value v (compacted same v xs)) r.value) (compacted same v xs) (compacted same v xs ++ r ∷ [])
compacted-more same v [] r = refl
compacted-more same v (x ∷ xs) r =
    elim (same v x.value) as (λ b. cond b (compacted same v (xs ++ r ∷ [])) (x ∷ compacted same x.value (xs ++ r ∷ []))
    ≡ cond (same (last_value v (cond b (compacted same v xs) (x ∷ compacted same x.value xs))) r.value) (cond b (compacted same v xs) (x ∷ compacted same x.value xs)) (cond b (compacted same v xs) (x ∷ compacted same x.value xs) ++ r ∷ [])) [
      | true ↦ compacted-more same v xs r
      | false ↦ ap (λ l. x ∷ l) (compacted-more same x.value xs r) ∙ cond-cons (same (last_value x.value (compacted same x.value xs)) r.value) x (compacted same x.value xs) (compacted same x.value xs ++ r ∷ [])
    ]

last_value-more : {T : Type 0} (v : T) (xs : List (Run T)) (r : Run T) → last_value v (xs ++ r ∷ []) ≡ r.value
last_value-more v [] r = refl
last_value-more v (x ∷ xs) r = last_value-more x.value xs r

-- the first `index` of `runs` are compacted to the first `kept` of `now`
pub record Compacts {T : Type 0} (same : T → T → Bool) (first : T) (runs : List (Run T)) (index kept : ℕ) (last : T) (now : List (Run T)) : Type 0 where
  pub kept_le : kept ≤ index
  pub done : take kept now ≡ compacted same first (take index runs)
  pub counted : kept ≡ length (compacted same first (take index runs))
  pub rest : drop index now ≡ drop index runs
  pub last_is : last ≡ last_value first (compacted same first (take index runs))

read-rest : {T : Type 0} (runs now : List (Run T)) (index : ℕ) (run : Run T) → index < length now → length now ≡ length runs → drop index now ≡ drop index runs → run ≡ get_or now index run → (get_or runs index run ≡ run) × (drop (index + 1) now ≡ drop (index + 1) runs)
read-rest runs now index run lt size rest read =
    let joined : get_or now index run ∷ drop (index + 1) now ≡ get_or runs index run ∷ drop (index + 1) runs = sym (drop_more now index run lt) ∙ rest ∙ drop_more runs index run (omega (arith, size, lt)) in
    (cc (joined, read), cc joined)

pub compacts-same : {T : Type 0} (same : T → T → Bool) (first : T) (runs : List (Run T)) (index kept : ℕ) (last : T) (now : List (Run T)) (run : Run T) → Compacts same first runs index kept last now → index < length now → length now ≡ length runs → run ≡ get_or now index run → same last run.value ≡ true → Compacts same first runs (index + 1) kept last now
compacts-same same first runs index kept last now run h lt size read eq =
    let both = read-rest runs now index run lt size h.rest read in
    let test : same (last_value first (compacted same first (take index runs))) run.value ≡ true = ap (λ x. same x run.value) (sym h.last_is) ∙ eq in
    let more : compacted same first (take (index + 1) runs) ≡ compacted same first (take index runs) =
    ap (compacted same first) (take_more runs index run (omega (arith, size, lt)) ∙ ap (λ r. take index runs ++ r ∷ []) both.0)
    ∙ compacted-more same first (take index runs) run ∙ ap (λ b. cond b (compacted same first (take index runs)) (compacted same first (take index runs) ++ run ∷ [])) test in
    record {
      kept_le = omega (arith, h.kept_le);
      done = h.done ∙ sym more;
      counted = h.counted ∙ ap length (sym more);
      rest = both.1;
      last_is = h.last_is ∙ ap (last_value first) (sym more);
    }

written-more : {T : Type 0} (xs : List T) (i : ℕ) (x : T) → i < length xs → take (i + 1) (set xs i x) ≡ take i xs ++ x ∷ []
written-more xs i x lt =
    take_more (set xs i x) i x (omega (arith, length-set xs i x, lt)) ∙ ap (λ l. l ++ get_or (set xs i x) i x ∷ []) (take-set-le i xs i x (omega arith)) ∙ ap (λ y. take i xs ++ y ∷ []) (get_or-set_same xs i x x lt)

pub compacts-more : {T : Type 0} (same : T → T → Bool) (first : T) (runs : List (Run T)) (index kept : ℕ) (last : T) (now : List (Run T)) (run : Run T) → Compacts same first runs index kept last now → index < length now → length now ≡ length runs → run ≡ get_or now index run → same last run.value ≡ false → Compacts same first runs (index + 1) (kept + 1) run.value (set now kept run)
compacts-more same first runs index kept last now run h lt size read ne =
    let both = read-rest runs now index run lt size h.rest read in
    let test : same (last_value first (compacted same first (take index runs))) run.value ≡ false = ap (λ x. same x run.value) (sym h.last_is) ∙ ne in
    let more : compacted same first (take (index + 1) runs) ≡ compacted same first (take index runs) ++ run ∷ [] =
    ap (compacted same first) (take_more runs index run (omega (arith, size, lt)) ∙ ap (λ r. take index runs ++ r ∷ []) both.0)
    ∙ compacted-more same first (take index runs) run ∙ ap (λ b. cond b (compacted same first (take index runs)) (compacted same first (take index runs) ++ run ∷ [])) test in
    record {
      kept_le = omega (arith, h.kept_le);
      done = written-more now kept run (omega (arith, h.kept_le, lt)) ∙ ap (λ l. l ++ run ∷ []) h.done ∙ sym more;
      counted = omega (arith, h.counted, ap length more, length-append (compacted same first (take index runs)) (run ∷ []));
      rest = drop-set-lt (index + 1) now kept run (omega (arith, h.kept_le)) ∙ both.1;
      last_is = sym (last_value-more first (compacted same first (take index runs)) run) ∙ ap (last_value first) (sym more);
    }

pub rising-compacted : {T : Type 0} (same : T → T → Bool) (len low : ℕ) (v : T) (rs : List (Run T)) → IsRisingTo len low rs → IsRisingTo len low (compacted same v rs)
rising-compacted same len low v [] h = h
rising-compacted same len low v (r ∷ rs) h =
    elim (same v r.value) as (λ b. IsRisingTo len low (cond b (compacted same v rs) (r ∷ compacted same r.value rs))) [
      | true ↦ rising-weaken len r.start low (compacted same v rs) (omega (arith, h.0)) (rising-compacted same len r.start v rs h.1)
      | false ↦ (h.0, rising-compacted same len r.start r.value rs h.1)
    ]

pub value_at-compacted : {T : Type 0} (same : T → T → Bool) → ((a b : T) → same a b ≡ true → a ≡ b) → (len low b : ℕ) (v : T) (rs : List (Run T)) → IsRisingTo len low rs → value_at v (compacted same v rs) b ≡ value_at v rs b
value_at-compacted same exact len low b v [] h = refl
value_at-compacted same exact len low b v (r ∷ rs) h =
    grind (arith, nat_tests, h.0, exact v r.value, value_at-low len r.start b v rs h.1, value_at-compacted same exact len r.start b v rs h.1, value_at-compacted same exact len r.start b r.value rs h.1)

map-range : {T : Type 0} (f g : ℕ → T) (i n : ℕ) → ((b : ℕ) → i ≤ b → f b ≡ g b) → map f (range_with_len i n) ≡ map g (range_with_len i n)
map-range f g i zero h = refl
map-range f g i (suc n) h = cc (h i (omega arith), map-range f g (i + 1) n (λ b le. h b (omega arith)))

-- at a run's start: a boundary where its value differs
meets-run : {T : Type 0} (same : T → T → Bool) → ((a b : T) → same a b ≡ true → a ≡ b) → (v : T) (r : Run T) (rs : List (Run T)) (at : ℕ) → at ≡ r.start → (places : List ℕ) → places ≡ map (λ (r : Run T). r.start) (compacted same r.value rs) →
    cond (same v r.value) places (at ∷ places) ≡ map (λ (r : Run T). r.start) (compacted same v (r ∷ rs))
meets-run same exact v r rs at here places later = grind (arith, here, later, exact v r.value)

-- the places where the value changes are the starts of the runs that are kept
pub boundaries-compacted : {T : Type 0} (same : T → T → Bool) → ((a b : T) → same a b ≡ true → a ≡ b) → ((a : T) → same a a ≡ true) → (len low n : ℕ) (v : T) (rs : List (Run T)) → IsRisingTo len low rs → low + 1 + n ≡ len →
    boundaries_from same (low + 1) v (map (value_at v rs) (range_with_len (low + 1) n)) ≡ map (λ (r : Run T). r.start) (compacted same v rs)
boundaries-compacted same exact whole len low zero v [] h e = refl
boundaries-compacted same exact whole len low zero v (r ∷ rs) h e = absurd (omega (arith, h.0, rising-bound len r.start rs h.1))
boundaries-compacted same exact whole len low (suc n) v [] h e = rw (whole v) (boundaries-compacted same exact whole len (low + 1) n v [] (omega arith) (omega arith))
boundaries-compacted same exact whole len low (suc n) v (r ∷ rs) h e =
    elim (cases_lt (low + 1) r.start) [
      | inl before ↦
          let here : value_at v (r ∷ rs) (low + 1) ≡ v = grind (arith, nat_tests, before) in
          subst (λ x. cond (same v x) (boundaries_from same (low + 1 + 1) x (map (value_at v (r ∷ rs)) (range_with_len (low + 1 + 1) n))) ((low + 1) ∷ boundaries_from same (low + 1 + 1) x (map (value_at v (r ∷ rs)) (range_with_len (low + 1 + 1) n))) ≡ map (λ (r : Run _). r.start) (compacted same v (r ∷ rs))) (sym here)
          (rw (whole v) (boundaries-compacted same exact whole len (low + 1) n v (r ∷ rs) (before, h.1) (omega arith)))
      | inr reached ↦
          let at : low + 1 ≡ r.start = omega (arith, reached, h.0) in
          let here : value_at v (r ∷ rs) (low + 1) ≡ r.value = grind (arith, nat_tests, at, value_at-low len r.start (low + 1) r.value rs h.1) in
          let rest : map (value_at v (r ∷ rs)) (range_with_len (low + 1 + 1) n) ≡ map (value_at r.value rs) (range_with_len (r.start + 1) n) =
          map-range (value_at v (r ∷ rs)) (value_at r.value rs) (low + 1 + 1) n (λ b le. grind (arith, nat_tests, at, le)) ∙ ap (λ i. map (value_at r.value rs) (range_with_len (i + 1) n)) at in
          let later : boundaries_from same (low + 1 + 1) r.value (map (value_at v (r ∷ rs)) (range_with_len (low + 1 + 1) n)) ≡ map (λ (r : Run _). r.start) (compacted same r.value rs) =
          ap (λ i. boundaries_from same (i + 1) r.value (map (value_at v (r ∷ rs)) (range_with_len (low + 1 + 1) n))) at ∙ ap (boundaries_from same (r.start + 1) r.value) rest ∙ boundaries-compacted same exact whole len r.start n r.value rs h.1 (omega (arith, at)) in
          subst (λ x. cond (same v x) (boundaries_from same (low + 1 + 1) x (map (value_at v (r ∷ rs)) (range_with_len (low + 1 + 1) n))) ((low + 1) ∷ boundaries_from same (low + 1 + 1) x (map (value_at v (r ∷ rs)) (range_with_len (low + 1 + 1) n))) ≡ map (λ (r : Run _). r.start) (compacted same v (r ∷ rs))) (sym here)
          (meets-run same exact v r rs (low + 1) at (boundaries_from same (low + 1 + 1) r.value (map (value_at v (r ∷ rs)) (range_with_len (low + 1 + 1) n))) later)
    ]

pub starts-compacted : {T : Type 0} (same : T → T → Bool) → ((a b : T) → same a b ≡ true → a ≡ b) → ((a : T) → same a a ≡ true) → (len : ℕ) (first : T) (rs : List (Run T)) → IsRisingTo len 0 rs → starts_of (compacted same first rs) ≡ boundaries same (bytes_of len first rs)
unfolding bytes_of
starts-compacted same exact whole zero first rs h = absurd (omega (arith, rising-bound 0 0 rs h))
starts-compacted same exact whole (suc n) first rs h =
    let here : value_at first rs 0 ≡ first = value_at-low (suc n) 0 0 first rs h (omega arith) in
    rw here (ap (λ ss. 0 ∷ ss) (sym (boundaries-compacted same exact whole (suc n) 0 n first rs h (omega arith))))

pub not-true : (b : Bool) → not b ≡ true → b ≡ false
not-true true h = sym h
not-true false h = refl

pub not-false : (b : Bool) → not b ≡ false → b ≡ true
not-false true h = refl
not-false false h = sym h

-- joined runs begin where a run began before
pub has_start-compacted : {T : Type 0} (same : T → T → Bool) (s : ℕ) (v : T) (rs : List (Run T)) → has_start s (map (λ (r : Run T). r.start) (compacted same v rs)) ≡ true → has_start s (map (λ (r : Run T). r.start) rs) ≡ true
has_start-compacted same s v [] h = h
has_start-compacted same s v (r ∷ rs) h =
    elim (same v r.value) as (λ b. has_start s (map (λ (r : Run _). r.start) (cond b (compacted same v rs) (r ∷ compacted same r.value rs))) ≡ true → (eqb r.start s || has_start s (map (λ (r : Run _). r.start) rs)) ≡ true) [
      | true ↦ λ e. or-right (eqb r.start s) (has_start-compacted same s v rs e)
      | false ↦ λ e. or-more (eqb r.start s) (has_start s (map (λ (r : Run _). r.start) (compacted same r.value rs))) (has_start s (map (λ (r : Run _). r.start) rs)) (λ e. has_start-compacted same s r.value rs e) e
    ] h
  where
    or-right : (a : Bool) {b : Bool} → b ≡ true → (a || b) ≡ true
    or-right true e = refl
    or-right false e = e

    or-more : (a b c : Bool) → (b ≡ true → c ≡ true) → (a || b) ≡ true → (a || c) ≡ true
    or-more true b c f e = refl
    or-more false b c f e = f e

pub starts-fewer : {T : Type 0} (same : T → T → Bool) (s : ℕ) (v : T) (rs : List (Run T)) → has_start s (starts_of (compacted same v rs)) ≡ true → has_start s (starts_of rs) ≡ true
starts-fewer same s v rs h =
    elim (eqb 0 s) as (λ b. (b || has_start s (map (λ (r : Run _). r.start) (compacted same v rs))) ≡ true → (b || has_start s (map (λ (r : Run _). r.start) rs)) ≡ true) [
      | true ↦ λ e. refl
      | false ↦ λ e. has_start-compacted same s v rs e
    ] h
