-- Lemmas on runs and the bytes that they stand for.
use Rattle.std.proofs.Common.{◌≡◌, ℕ, zero, suc, ◌+◌, ◌<◌, ◌≤◌, List, [], ◌∷◌, length, get_or, set, map, replicate, ◌-◌, ◌++◌, drop, take, Bool, true, false, cond, ◌⊎◌, refl, sym, ap, subst, ◌∙◌, inl, inr, arith, nat_lt, nat_le, rules, Some, All}
use Rattle.std.proofs.lemmas.Bool.Decides.{nat_tests}
use Rattle.std.proofs.lemmas.List.{same_lists, length-replicate, get_or-replicate, places}
use Rattle.std.proofs.lemmas.List.FromFn.{length-map-range_with_len, get_or-map-range_with_len}
use Rattle.std.proofs.lemmas.Option.{slice_get-get_or}
use Rattle.std.specs.List.{insert, filter, slice_get}
use Rattle.std.proofs.lemmas.List.Elements.{All-cons, All-nil}
use Rattle.std.specs.List.Sorted.{IsNonDecreasingBy, IsPartitionPoint, IsStrictlyIncreasing}
use Rattle.range_map.specs.declared.Run.{Run}
use Rattle.range_map.specs.Runs.{value_at, IsRisingTo, runs_until, bytes_of, starts_of, run_at}
use Rattle.range_map.specs.Ranges.{stays, with_start, with_end, has_start, next_start, overwrite, IsRanges}

pub length-bytes_of : {T : Type 0} (len : ℕ) (first : T) (later : List (Run T)) → length (bytes_of len first later) ≡ len
unfolding bytes_of
length-bytes_of len first later = length-map-range_with_len _ 0 len

pub get_or-bytes_of : {T : Type 0} (len : ℕ) (first : T) (later : List (Run T)) (b : ℕ) (d : T) → b < len → get_or (bytes_of len first later) b d ≡ value_at first later b
unfolding bytes_of
get_or-bytes_of len first later b d h = get_or-map-range_with_len (value_at first later) 0 len b b d h (omega arith)

-- two maps with the same value at each byte are the same list
pub same_bytes : {T : Type 0} (len : ℕ) (f g : T) (rs ss : List (Run T)) → ((b : ℕ) → value_at f rs b ≡ value_at g ss b) → bytes_of len f rs ≡ bytes_of len g ss
same_bytes len f g rs ss h =
    same_lists _ _ (length-bytes_of len f rs ∙ sym (length-bytes_of len g ss))
    (λ b d lt. let below : b < len = omega (arith, length-bytes_of len f rs) in
    get_or-bytes_of len f rs b d below ∙ h b ∙ sym (get_or-bytes_of len g ss b d below))

pub bytes_of-one : {T : Type 0} (len : ℕ) (first : T) → bytes_of len first [] ≡ replicate len first
bytes_of-one len first =
    same_lists _ _ (length-bytes_of len first [] ∙ sym (length-replicate len first))
    (λ b d lt. let below : b < len = omega (arith, length-bytes_of len first []) in
    get_or-bytes_of len first [] b d below ∙ sym (get_or-replicate len b first d below))

-- each run begins above the bound
pub rising-above : {T : Type 0} (len low : ℕ) (rs : List (Run T)) (k : ℕ) (d : Run T) → IsRisingTo len low rs → k < length rs → low < (get_or rs k d).start
rising-above len low [] k d h lt = absurd (omega arith)
rising-above len low (r ∷ rs) zero d h lt = h.0
rising-above len low (r ∷ rs) (suc k) d h lt =
    let later = rising-above len r.start rs k d h.1 (omega arith) in omega (arith, later, h.0)

pub rising-bound : {T : Type 0} (len low : ℕ) (rs : List (Run T)) → IsRisingTo len low rs → low < len
rising-bound len low [] h = h
rising-bound len low (r ∷ rs) h = let later = rising-bound len r.start rs h.1 in omega (arith, later, h.0)

pub rising-order : {T : Type 0} (len low : ℕ) (rs : List (Run T)) → IsRisingTo len low rs → IsNonDecreasingBy (λ (r : Run T). r.start) rs
rising-order len low [] h i j d le lt = absurd (omega arith)
rising-order len low (r ∷ rs) h zero zero d le lt = omega arith
rising-order len low (r ∷ rs) h zero (suc j) d le lt = let later = rising-above len r.start rs j d h.1 (omega arith) in omega (arith, later)
rising-order len low (r ∷ rs) h (suc i) zero d le lt = absurd (omega arith)
rising-order len low (r ∷ rs) h (suc i) (suc j) d le lt = rising-order len r.start rs h.1 i j d (omega arith) (omega arith)

-- a run that is begun at `at` with the value there changes no byte
pub value_at-split : {T : Type 0} (first v : T) (rs : List (Run T)) (at b : ℕ) → v ≡ value_at first rs at → value_at first (insert rs (runs_until at rs) (record { start = at; value = v })) b ≡ value_at first rs b
value_at-split first v [] at b e = grind (arith, nat_tests, e)
value_at-split first v (r ∷ rs) at b e = grind (arith, nat_tests, e, value_at-split r.value v rs at b)

pub run_at-value : {T : Type 0} (head : Run T) (rs : List (Run T)) (at : ℕ) → (run_at at head rs).value ≡ value_at head.value rs at
run_at-value head [] at = refl
run_at-value head (r ∷ rs) at = grind (arith, nat_tests, run_at-value r rs at)

pub rising-split : {T : Type 0} (len at : ℕ) (head : Run T) (v : T) (rs : List (Run T)) → IsRisingTo len head.start rs → (run_at at head rs).start < at → at < len → IsRisingTo len head.start (insert rs (runs_until at rs) (record { start = at; value = v }))
rising-split len at head v [] h below lt = (below, lt)
rising-split len at head v (r ∷ rs) h below lt = grind (arith, nat_tests, h.0, h.1, rising-split len at r v rs h.1)

pub run_at-above : {T : Type 0} (len at : ℕ) (head : Run T) (rs : List (Run T)) → IsRisingTo len head.start rs → head.start ≤ (run_at at head rs).start
run_at-above len at head [] h = omega arith
run_at-above len at head (r ∷ rs) h = grind (arith, nat_tests, h.0, run_at-above len at r rs h.1)

pub starts-split : {T : Type 0} (len at : ℕ) (head : Run T) (v : T) (rs : List (Run T)) → IsRisingTo len head.start rs → (run_at at head rs).start < at → map (λ (r : Run T). r.start) (insert rs (runs_until at rs) (record { start = at; value = v })) ≡ with_start at (map (λ (r : Run T). r.start) rs)
starts-split len at head v [] h below = refl
starts-split len at head v (r ∷ rs) h below = grind (arith, nat_tests, h.0, run_at-above len at r rs h.1, starts-split len at r v rs h.1)

-- a run that begins at `at` is there already
pub starts-there : {T : Type 0} (len at : ℕ) (head : Run T) (rs : List (Run T)) → IsRisingTo len head.start rs → at ≤ (run_at at head rs).start → head.start < at → with_start at (map (λ (r : Run T). r.start) rs) ≡ map (λ (r : Run T). r.start) rs
starts-there len at head [] h le lt = absurd (omega arith)
starts-there len at head (r ∷ rs) h le lt = grind (arith, nat_tests, h.0, h.1, starts-there len at r rs h.1)

-- the number of runs up to `at`, by the point that parts the list
pub runs_until-point : {T : Type 0} (at : ℕ) (rs : List (Run T)) (k : ℕ) → k ≤ length rs → IsPartitionPoint (λ (r : Run T). nat_le r.start at ≡ true) (λ (r : Run T). nat_le r.start at ≡ false) rs k → k ≡ runs_until at rs
runs_until-point at [] k le p = omega arith
runs_until-point at (r ∷ rs) zero le p = grind (arith, nat_tests, p.1 0 r (omega arith) (omega arith))
runs_until-point at (r ∷ rs) (suc k) le p =
    grind (
      arith,
      nat_tests,
      p.0 0 r (omega arith) (omega arith),
      runs_until-point at rs k (omega arith) (λ i d lo hi. p.0 (suc i) d (omega arith) (omega arith), λ i d lo hi. p.1 (suc i) d (omega arith) (omega arith)),
    )

pub runs_until-bound : {T : Type 0} (at : ℕ) (rs : List (Run T)) → runs_until at rs ≤ length rs
runs_until-bound at [] = omega arith
runs_until-bound at (r ∷ rs) = grind (arith, nat_tests, runs_until-bound at rs)

pub run_at-head : {T : Type 0} (at : ℕ) (head : Run T) (rs : List (Run T)) → runs_until at rs ≡ 0 → run_at at head rs ≡ head
run_at-head at head [] e = refl
run_at-head at head (r ∷ rs) e = grind (arith, nat_tests, e)

pub run_at-later : {T : Type 0} (at k : ℕ) (head d : Run T) (rs : List (Run T)) → runs_until at rs ≡ suc k → run_at at head rs ≡ get_or rs k d
run_at-later at k head d [] e = absurd (omega arith)
run_at-later at zero head d (r ∷ rs) e = grind (arith, nat_tests, e, run_at-head at r rs)
run_at-later at (suc k) head d (r ∷ rs) e = grind (arith, nat_tests, e, run_at-later at k r d rs)

pub next_start-run : {T : Type 0} (len at : ℕ) (rs : List (Run T)) (k : ℕ) (d : Run T) → runs_until at rs ≡ k → k < length rs → next_start len at (map (λ (r : Run T). r.start) rs) ≡ (get_or rs k d).start
next_start-run len at [] k d e lt = absurd (omega arith)
next_start-run len at (r ∷ rs) zero d e lt = grind (arith, nat_tests, e)
next_start-run len at (r ∷ rs) (suc k) d e lt = grind (arith, nat_tests, e, next_start-run len at rs k d)

pub next_start-end : {T : Type 0} (len at : ℕ) (rs : List (Run T)) → length rs ≤ runs_until at rs → next_start len at (map (λ (r : Run T). r.start) rs) ≡ len
next_start-end len at [] le = refl
next_start-end len at (r ∷ rs) le = grind (arith, nat_tests, next_start-end len at rs)

pub next_start-bounds : {T : Type 0} (len low at : ℕ) (rs : List (Run T)) → IsRisingTo len low rs → at < len → (at < next_start len at (map (λ (r : Run T). r.start) rs)) × (next_start len at (map (λ (r : Run T). r.start) rs) ≤ len)
next_start-bounds len low at [] h lt = (lt, omega arith)
next_start-bounds len low at (r ∷ rs) h lt = grind (arith, nat_tests, h.0, rising-bound len r.start rs h.1, next_start-bounds len r.start at rs h.1 lt)

pub value_at-uniform : {T : Type 0} (len low at b : ℕ) (first : T) (rs : List (Run T)) → IsRisingTo len low rs → at ≤ b → b < next_start len at (map (λ (r : Run T). r.start) rs) → value_at first rs b ≡ value_at first rs at
value_at-uniform len low at b first [] h le lt = refl
value_at-uniform len low at b first (r ∷ rs) h le lt = grind (arith, nat_tests, h.0, value_at-uniform len r.start at b r.value rs h.1 le)

-- up to the next start the value is that of the first run
pub value_at-after : {T : Type 0} (len low at b : ℕ) (v w : T) (rs : List (Run T)) → IsRisingTo len low rs → b < len → runs_until at rs ≡ 0 → value_at v rs b ≡ cond (nat_lt b (next_start len at (map (λ (r : Run T). r.start) rs))) v (value_at w rs b)
value_at-after len low at b v w [] h lt e = grind (arith, nat_tests)
value_at-after len low at b v w (r ∷ rs) h lt e = grind (arith, nat_tests, e)

-- one more value at the run that begins at `at`
pub value_at-put : {T : Type 0} (len low at b k : ℕ) (first v : T) (d : Run T) (rs : List (Run T)) → IsRisingTo len low rs → b < len → runs_until at rs ≡ suc k → (get_or rs k d).start ≡ at → value_at first (set rs k (record { start = at; value = v })) b ≡ cond (nat_le at b) (cond (nat_lt b (next_start len at (map (λ (r : Run T). r.start) rs))) v (value_at first rs b)) (value_at first rs b)
value_at-put len low at b k first v d [] h lt e there = absurd (omega arith)
value_at-put len low at b zero first v d (r ∷ rs) h lt e there = grind (arith, nat_tests, h.0, e, there, value_at-after len r.start at b v r.value rs h.1 lt)
value_at-put len low at b (suc k) first v d (r ∷ rs) h lt e there = grind (arith, nat_tests, h.0, e, there, rising-above len r.start rs k d h.1, runs_until-bound at rs, value_at-put len r.start at b k r.value v d rs h.1 lt)

-- what is written, with the place where it ends
overwrite-parts : {T : Type 0} (from end : ℕ) (v : T) (xs : List T) → from ≤ end → overwrite from end v xs ≡ take from xs ++ replicate (end - from) v ++ drop end xs
overwrite-parts from end v xs le =
    let long : from + length (replicate (end - from) v) ≡ end = omega (arith, length-replicate (end - from) v) in
    ap (λ n. take from xs ++ replicate (end - from) v ++ drop n xs) long

pub get_or-overwrite : {T : Type 0} (from end b : ℕ) (v d : T) (xs : List T) → from ≤ end → end ≤ length xs → b < length xs → get_or (overwrite from end v xs) b d ≡ cond (nat_le from b) (cond (nat_lt b end) v (get_or xs b d)) (get_or xs b d)
get_or-overwrite from end b v d xs le within lt = rw (overwrite-parts from end v xs le) (grind (arith, nat_tests, places))

pub slice_get-bytes_of : {T : Type 0} (len : ℕ) (first : T) (rs : List (Run T)) (at : ℕ) → at < length (bytes_of len first rs) → slice_get (bytes_of len first rs) at ≡ Some (value_at first rs at)
slice_get-bytes_of len first rs at lt =
    let below : at < len = omega (arith, length-bytes_of len first rs) in
    slice_get-get_or (bytes_of len first rs) at first lt ∙ ap Some (get_or-bytes_of len first rs at first below)

pub slice_get-run_at : {T : Type 0} (len : ℕ) (first : T) (rs : List (Run T)) (at : ℕ) → at < length (bytes_of len first rs) → slice_get (bytes_of len first rs) at ≡ Some (run_at at (record { start = 0; value = first }) rs).value
slice_get-run_at len first rs at lt = slice_get-bytes_of len first rs at lt ∙ ap Some (sym (run_at-value _ rs at))

pub has_start-none : {T : Type 0} (len low at : ℕ) (rs : List (Run T)) → IsRisingTo len low rs → at ≤ low → has_start at (map (λ (r : Run T). r.start) rs) ≡ false
has_start-none len low at [] h le = refl
has_start-none len low at (r ∷ rs) h le = grind (arith, nat_tests, h.0, has_start-none len r.start at rs h.1)

pub runs_until-low : {T : Type 0} (len low at k : ℕ) (rs : List (Run T)) → IsRisingTo len low rs → runs_until at rs ≡ suc k → low < at
runs_until-low len low at k [] h e = absurd (omega arith)
runs_until-low len low at k (r ∷ rs) h e = grind (arith, nat_tests, h.0, e)

-- where no run begins up to `at`, none begins at `at`
pub start-found-not : {T : Type 0} (len low at : ℕ) (rs : List (Run T)) → IsRisingTo len low rs → runs_until at rs ≡ 0 → has_start at (map (λ (r : Run T). r.start) rs) ≡ false
start-found-not len low at [] h e = refl
start-found-not len low at (r ∷ rs) h e = grind (arith, nat_tests, h.0, e, has_start-none len r.start at rs h.1)

pub start-found : {T : Type 0} (len low at k : ℕ) (d : Run T) (rs : List (Run T)) → IsRisingTo len low rs → runs_until at rs ≡ suc k → has_start at (map (λ (r : Run T). r.start) rs) ≡ true → (get_or rs k d).start ≡ at
start-found len low at k d [] h e has = absurd (omega arith)
start-found len low at zero d (r ∷ rs) h e has = grind (arith, nat_tests, h.0, e, has, has_start-none len r.start at rs h.1, start-found-not len r.start at rs h.1)
start-found len low at (suc k) d (r ∷ rs) h e has = grind (arith, nat_tests, h.0, e, has, runs_until-low len r.start at k rs h.1, start-found len r.start at k d rs h.1)

pub begins-later : {T : Type 0} (len at k : ℕ) (rs : List (Run T)) → IsRisingTo len 0 rs → runs_until at rs ≡ suc k → 0 < at
begins-later len at k rs h e = runs_until-low len 0 at k rs h e

pub next_start-starts_of : {T : Type 0} (len at : ℕ) (rs : List (Run T)) → next_start len at (starts_of rs) ≡ next_start len at (map (λ (r : Run T). r.start) rs)
next_start-starts_of len at rs = grind (arith, nat_tests)

pub length-overwrite : {T : Type 0} (from end : ℕ) (v : T) (xs : List T) → from ≤ end → end ≤ length xs → length (overwrite from end v xs) ≡ length xs
length-overwrite from end v xs le within = rw (overwrite-parts from end v xs le) (search (rules, places))

-- the bytes after a write, by what each byte is
pub overwritten : {T : Type 0} (len from end : ℕ) (f g v : T) (rs ss : List (Run T)) → from ≤ end → end ≤ len →
    ((b : ℕ) → b < len → value_at g ss b ≡ cond (nat_le from b) (cond (nat_lt b end) v (value_at f rs b)) (value_at f rs b)) →
    bytes_of len g ss ≡ overwrite from end v (bytes_of len f rs)
overwritten len from end f g v rs ss le within each =
    let size : length (bytes_of len f rs) ≡ len = length-bytes_of len f rs in
    let fits : end ≤ length (bytes_of len f rs) = omega (arith, size) in
    same_lists _ _ (length-bytes_of len g ss ∙ sym (length-overwrite from end v (bytes_of len f rs) le fits ∙ size))
    (λ b d lt. let below : b < len = omega (arith, length-bytes_of len g ss) in
    get_or-bytes_of len g ss b d below ∙ each b below
    ∙ sym (get_or-overwrite from end b v d (bytes_of len f rs) le fits (omega (arith, size))
    ∙ ap (λ x. cond (nat_le from b) (cond (nat_lt b end) v x) x) (get_or-bytes_of len f rs b d below)))

pub bytes-put : {T : Type 0} (len at k : ℕ) (first v : T) (d : Run T) (rs : List (Run T)) → IsRisingTo len 0 rs → at < length (bytes_of len first rs) → runs_until at rs ≡ suc k → has_start at (starts_of rs) ≡ true →
    bytes_of len first (set rs k (record { start = (get_or rs k d).start; value = v })) ≡ overwrite at (next_start (length (bytes_of len first rs)) at (starts_of rs)) v (bytes_of len first rs)
bytes-put len at k first v d rs h inside e has =
    let lt : at < len = omega (arith, inside, length-bytes_of len first rs) in
    let low : 0 < at = runs_until-low len 0 at k rs h e in
    let found : has_start at (map (λ (r : Run _). r.start) rs) ≡ true = grind (arith, nat_tests, has, low) in
    let there : (get_or rs k d).start ≡ at = start-found len 0 at k d rs h e found in
    let bounds = next_start-bounds len 0 at rs h lt in
    let next : next_start (length (bytes_of len first rs)) at (starts_of rs) ≡ next_start len at (map (λ (r : Run _). r.start) rs) =
    ap (λ n. next_start n at (starts_of rs)) (length-bytes_of len first rs) ∙ next_start-starts_of len at rs in
    rw (there, next)
    (overwritten len at (next_start len at (map (λ (r : Run _). r.start) rs)) first first v rs (set rs k (record { start = at; value = v })) (omega (arith, bounds.0)) bounds.1
    (λ b below. value_at-put len 0 at b k first v d rs h below e there))

pub bytes-put_first : {T : Type 0} (len at : ℕ) (first v : T) (rs : List (Run T)) → IsRisingTo len 0 rs → at < length (bytes_of len first rs) → runs_until at rs ≡ 0 → has_start at (starts_of rs) ≡ true →
    bytes_of len v rs ≡ overwrite at (next_start (length (bytes_of len first rs)) at (starts_of rs)) v (bytes_of len first rs)
bytes-put_first len at first v rs h inside e has =
    let lt : at < len = omega (arith, inside, length-bytes_of len first rs) in
    let zeroth : at ≡ 0 = grind (arith, nat_tests, has, start-found-not len 0 at rs h e) in
    let bounds = next_start-bounds len 0 at rs h lt in
    let next : next_start (length (bytes_of len first rs)) at (starts_of rs) ≡ next_start len at (map (λ (r : Run _). r.start) rs) =
    ap (λ n. next_start n at (starts_of rs)) (length-bytes_of len first rs) ∙ next_start-starts_of len at rs in
    rw next
    (overwritten len at (next_start len at (map (λ (r : Run _). r.start) rs)) first v v rs rs (omega (arith, bounds.0)) bounds.1
    (λ b below. grind (arith, nat_tests, zeroth, value_at-after len 0 at b v first rs h below e)))

pub rising-put : {T : Type 0} (len low k : ℕ) (v : T) (d : Run T) (rs : List (Run T)) → IsRisingTo len low rs → IsRisingTo len low (set rs k (record { start = (get_or rs k d).start; value = v }))
rising-put len low k v d [] h = h
rising-put len low zero v d (r ∷ rs) h = h
rising-put len low (suc k) v d (r ∷ rs) h = (h.0, rising-put len r.start k v d rs h.1)

pub starts-put : {T : Type 0} (k : ℕ) (v : T) (d : Run T) (rs : List (Run T)) → map (λ (r : Run T). r.start) (set rs k (record { start = (get_or rs k d).start; value = v })) ≡ map (λ (r : Run T). r.start) rs
starts-put k v d [] = refl
starts-put zero v d (r ∷ rs) = refl
starts-put (suc k) v d (r ∷ rs) = ap (λ ss. r.start ∷ ss) (starts-put k v d rs)

starts-rise : {T : Type 0} (len low : ℕ) (rs : List (Run T)) → IsRisingTo len low rs → IsStrictlyIncreasing (low ∷ map (λ (r : Run T). r.start) rs)
starts-rise len low [] h k lt = absurd (omega arith)
starts-rise len low (r ∷ rs) h zero lt = h.0
starts-rise len low (r ∷ rs) h (suc k) lt =
    let next : suc k + 1 ≡ suc (k + 1) = omega arith in
    rw next (starts-rise len r.start rs h.1 k (omega arith))

starts-within : {T : Type 0} (len low : ℕ) (rs : List (Run T)) → IsRisingTo len low rs → All (λ s. s < len) (low ∷ map (λ (r : Run T). r.start) rs)
starts-within len low [] h = All-cons (λ s. s < len) low [] h (All-nil (λ s. s < len))
starts-within len low (r ∷ rs) h = All-cons (λ s. s < len) low (map (λ (r : Run _). r.start) (r ∷ rs)) (rising-bound len low (r ∷ rs) h) (starts-within len r.start rs h.1)

pub is_ranges : {T : Type 0} (len spare : ℕ) (first : T) (rs : List (Run T)) → IsRisingTo len 0 rs → IsRanges (record { bytes = bytes_of len first rs; starts = starts_of rs; spare = spare })
is_ranges len spare first rs h = record {
  first = refl;
  rising = starts-rise len 0 rs h;
  within = rw (length-bytes_of len first rs) (starts-within len 0 rs h);
}

-- what the end of a run is: `e` is the next start
pub record RunEnds {T : Type 0} (len e at : ℕ) (first : T) (rs : List (Run T)) : Type 0 where
  pub next : e ≡ next_start (length (bytes_of len first rs)) at (starts_of rs)
  pub after : at < e
  pub within : e ≤ length (bytes_of len first rs)
  pub uniform : (b : ℕ) → at ≤ b → b < e → slice_get (bytes_of len first rs) b ≡ slice_get (bytes_of len first rs) at

pub run_ends : {T : Type 0} (len e at : ℕ) (first : T) (rs : List (Run T)) → IsRisingTo len 0 rs → at < length (bytes_of len first rs) → e ≡ next_start len at (map (λ (r : Run T). r.start) rs) → RunEnds len e at first rs
run_ends len e at first rs h lt end =
    let size : length (bytes_of len first rs) ≡ len = length-bytes_of len first rs in
    let bounds = next_start-bounds len 0 at rs h (omega (arith, size)) in
    record {
      next = end ∙ sym (ap (λ n. next_start n at (starts_of rs)) size ∙ next_start-starts_of len at rs);
      after = omega (arith, bounds.0, end);
      within = omega (arith, bounds.1, end, size);
      uniform = λ b le below.
          slice_get-bytes_of len first rs b (omega (arith, bounds.1, end, size, below))
          ∙ ap Some (value_at-uniform len 0 at b first rs h le (omega (arith, end, below)))
          ∙ sym (slice_get-bytes_of len first rs at lt);
    }

-- what a new run start leaves: the runs are then `ss`
pub record Splits {T : Type 0} (len at : ℕ) (first : T) (rs ss : List (Run T)) : Type 0 where
  pub rising : IsRisingTo len 0 ss
  pub bytes : bytes_of len first ss ≡ bytes_of len first rs
  pub starts : starts_of ss ≡ with_start at (starts_of rs)

pub splits : {T : Type 0} (len at : ℕ) (first : T) (run : Run T) (rs ss : List (Run T)) → IsRisingTo len 0 rs → at < length (bytes_of len first rs) → run ≡ run_at at (record { start = 0; value = first }) rs → run.start < at → ss ≡ insert rs (runs_until at rs) (record { start = at; value = run.value }) → Splits len at first rs ss
splits len at first run rs ss h lt e below made =
    let head : Run _ = record { start = 0; value = first } in
    let size : length (bytes_of len first rs) ≡ len = length-bytes_of len first rs in
    let before : (run_at at head rs).start < at = omega (arith, ap (λ (r : Run _). r.start) e, below) in
    record {
      rising = rw made (rising-split len at head run.value rs h before (omega (arith, size)));
      bytes = rw made (same_bytes len first first _ rs (λ b. value_at-split first run.value rs at b (ap (λ (r : Run _). r.value) e ∙ run_at-value head rs at)));
      starts = rw made (grind (arith, nat_tests, below, starts-split len at head run.value rs h before));
    }

-- where a run begins at `at`, nothing is split
pub split-there : {T : Type 0} (len at : ℕ) (first : T) (run : Run T) (rs : List (Run T)) → IsRisingTo len 0 rs → run ≡ run_at at (record { start = 0; value = first }) rs → at ≤ run.start → starts_of rs ≡ with_start at (starts_of rs)
split-there len at first run rs h e le =
    let head : Run _ = record { start = 0; value = first } in
    let before : at ≤ (run_at at head rs).start = omega (arith, ap (λ (r : Run _). r.start) e, le) in
    grind (arith, nat_tests, starts-there len at head rs h before)

pub rising-weaken : {T : Type 0} (len low lower : ℕ) (rs : List (Run T)) → lower ≤ low → IsRisingTo len low rs → IsRisingTo len lower rs
rising-weaken len low lower [] le h = omega arith
rising-weaken len low lower (r ∷ rs) le h = (omega (arith, h.0), h.1)

pub rising-filter : {T : Type 0} (p : Run T → Bool) (len low : ℕ) (rs : List (Run T)) → IsRisingTo len low rs → IsRisingTo len low (filter p rs)
rising-filter p len low [] h = h
rising-filter p len low (r ∷ rs) h =
    let later = rising-filter p len r.start rs h.1 in
    elim (p r) as (λ b. IsRisingTo len low (cond b (r ∷ filter p rs) (filter p rs))) [ true ↦ (h.0, later) | false ↦ rising-weaken len r.start low (filter p rs) (omega (arith, h.0)) later ]

pub map-filter_start : {T : Type 0} (q : ℕ → Bool) (rs : List (Run T)) → map (λ (r : Run T). r.start) (filter (λ r. q r.start) rs) ≡ filter q (map (λ (r : Run T). r.start) rs)
map-filter_start q [] = refl
map-filter_start q (r ∷ rs) = elim (q r.start) as (λ b. map (λ (r : Run _). r.start) (cond b (r ∷ filter (λ r. q r.start) rs) (filter (λ r. q r.start) rs)) ≡ cond b (r.start ∷ filter q (map (λ (r : Run _). r.start) rs)) (filter q (map (λ (r : Run _). r.start) rs))) [ true ↦ ap (λ ss. r.start ∷ ss) (map-filter_start q rs) | false ↦ map-filter_start q rs ]

pub starts-filter : {T : Type 0} (from end : ℕ) (rs : List (Run T)) → starts_of (filter (λ r. stays from end r.start) rs) ≡ filter (stays from end) (starts_of rs)
starts-filter from end rs = grind (arith, nat_tests, map-filter_start (stays from end) rs)

pub has_start-with_start : (at : ℕ) (ss : List ℕ) → has_start at (with_start at ss) ≡ true
has_start-with_start at [] = grind (arith, nat_tests)
has_start-with_start at (s ∷ ss) = grind (arith, nat_tests, has_start-with_start at ss)

pub has_start-other : (at other : ℕ) (ss : List ℕ) → has_start at ss ≡ true → has_start at (with_start other ss) ≡ true
has_start-other at other [] h = absurd cc
has_start-other at other (s ∷ ss) h = grind (arith, nat_tests, h, has_start-other at other ss)

pub has_start-filter : (from end at : ℕ) (ss : List ℕ) → has_start at ss ≡ true → stays from end at ≡ true → has_start at (filter (stays from end) ss) ≡ true
has_start-filter from end at [] h s = h
has_start-filter from end at (x ∷ ss) h s = grind (arith, nat_tests, h, s, has_start-filter from end at ss)

-- an end at which no run begins is the length
no_start : (len end : ℕ) → (end < len → false ≡ true) → end < len → len ≡ end
no_start len end h lt = absurd (let e = h lt in cc)

pub next_start-filter : {T : Type 0} (len low from end : ℕ) (rs : List (Run T)) → IsRisingTo len low rs → from < end → end ≤ len → (end < len → has_start end (map (λ (r : Run T). r.start) rs) ≡ true) → next_start len from (map (λ (r : Run T). r.start) (filter (λ r. stays from end r.start) rs)) ≡ end
next_start-filter len low from end [] h lt le has = grind (arith, nat_tests, no_start len end has)
next_start-filter len low from end (r ∷ rs) h lt le has =
    grind (arith, nat_tests, has, h.0, rising-bound len r.start rs h.1, has_start-none len r.start end rs h.1, next_start-filter len r.start from end rs h.1 lt le)

pub value_at-low : {T : Type 0} (len low b : ℕ) (first : T) (rs : List (Run T)) → IsRisingTo len low rs → b ≤ low → value_at first rs b ≡ first
value_at-low len low b first [] h le = refl
value_at-low len low b first (r ∷ rs) h le = grind (arith, nat_tests, h.0)

pub filter-all_stay : {T : Type 0} (len low from end : ℕ) (rs : List (Run T)) → IsRisingTo len low rs → end ≤ low → filter (λ r. stays from end r.start) rs ≡ rs
filter-all_stay len low from end [] h le = refl
filter-all_stay len low from end (r ∷ rs) h le = grind (arith, nat_tests, h.0, filter-all_stay len r.start from end rs h.1)

-- where the first run that begins after `from` begins at `end` or later, all stay
pub none_between-by : {T : Type 0} (from end : ℕ) (rs : List (Run T)) → IsNonDecreasingBy (λ (r : Run T). r.start) rs → ((k : ℕ) (d : Run T) → k < length rs → end ≤ (get_or rs k d).start) → filter (λ r. stays from end r.start) rs ≡ rs
none_between-by from end [] up far = refl
none_between-by from end (r ∷ rs) up far =
    grind (arith, nat_tests, far 0 r (omega arith), none_between-by from end rs (λ i j d le lt. up (suc i) (suc j) d (omega arith) (omega arith)) (λ k d lt. far (suc k) d (omega arith)))

pub none_between : {T : Type 0} (from end : ℕ) (rs : List (Run T)) → IsNonDecreasingBy (λ (r : Run T). r.start) rs → ((d : Run T) → runs_until from rs < length rs → end ≤ (get_or rs (runs_until from rs) d).start) → filter (λ r. stays from end r.start) rs ≡ rs
none_between from end [] up far = refl
none_between {T} from end (r ∷ rs) up far =
    by_first (nat_lt from r.start) refl far (none_between from end rs (λ i j d le lt. up (suc i) (suc j) d (omega arith) (omega arith)))
  where
    all_far : end ≤ r.start → (k : ℕ) (d : Run T) → k < length (r ∷ rs) → end ≤ (get_or (r ∷ rs) k d).start
    all_far h zero d lt = h
    all_far h (suc k) d lt =
        let le : r.start ≤ (get_or rs k d).start = up 0 (suc k) d (omega arith) (omega arith) in
        omega (arith, h, le)

    by_first : (b : Bool) → nat_lt from r.start ≡ b
        → ((d : Run T) → cond b 0 (suc (runs_until from rs)) < length (r ∷ rs) → end ≤ (get_or (r ∷ rs) (cond b 0 (suc (runs_until from rs))) d).start)
        → (((d : Run T) → runs_until from rs < length rs → end ≤ (get_or rs (runs_until from rs) d).start) → filter (λ (x : Run T). stays from end x.start) rs ≡ rs)
        → filter (λ (x : Run T). stays from end x.start) (r ∷ rs) ≡ r ∷ rs
    by_first true is far later = none_between-by from end (r ∷ rs) up (all_far (far r (omega arith)))
    by_first false is far later = grind (arith, nat_tests, is, later (λ d lt. far d (omega arith)))

-- the bytes before and after the written ones
pub value_at-filter_below : {T : Type 0} (len low from end b : ℕ) (first : T) (rs : List (Run T)) → IsRisingTo len low rs → b ≤ from → value_at first (filter (λ r. stays from end r.start) rs) b ≡ value_at first rs b
value_at-filter_below len low from end b first [] h le = refl
value_at-filter_below len low from end b first (r ∷ rs) h le =
    grind (arith, nat_tests, h.0, value_at-filter_below len r.start from end b first rs h.1 le, value_at-filter_below len r.start from end b r.value rs h.1 le, value_at-low len r.start b first rs h.1)

pub value_at-filter_above : {T : Type 0} (len low from end b : ℕ) (f g : T) (rs : List (Run T)) → IsRisingTo len low rs → end ≤ b → has_start end (map (λ (r : Run T). r.start) rs) ≡ true → value_at f (filter (λ r. stays from end r.start) rs) b ≡ value_at g rs b
value_at-filter_above len low from end b f g [] h le has = absurd cc
value_at-filter_above len low from end b f g (r ∷ rs) h le has =
    grind (
      arith,
      nat_tests,
      h.0,
      has,
      has_start-none len r.start end rs h.1,
      filter-all_stay len r.start from end rs h.1,
      value_at-filter_above len r.start from end b f r.value rs h.1 le,
      value_at-filter_above len r.start from end b r.value r.value rs h.1 le,
    )

-- a write hides what stood in its place
overwrite-same-at : {T : Type 0} (from end b : ℕ) (v x y : T) → ((b < from) ⊎ (end ≤ b) → x ≡ y) → cond (nat_le from b) (cond (nat_lt b end) v x) x ≡ cond (nat_le from b) (cond (nat_lt b end) v y) y
overwrite-same-at from end b v x y same = grind (arith, nat_tests, λ (h : b < from). same (inl h), λ (h : end ≤ b). same (inr h))

pub overwrite-same : {T : Type 0} (from end : ℕ) (v : T) (xs ys : List T) → from ≤ end → end ≤ length xs → length ys ≡ length xs → ((b : ℕ) (d : T) → b < length xs → (b < from) ⊎ (end ≤ b) → get_or xs b d ≡ get_or ys b d) → overwrite from end v xs ≡ overwrite from end v ys
overwrite-same from end v xs ys le within same outside =
    same_lists _ _ (length-overwrite from end v xs le within ∙ sym same ∙ sym (length-overwrite from end v ys le (omega (arith, same))))
    (λ b d lt. let below : b < length xs = omega (arith, lt, length-overwrite from end v xs le within) in
    get_or-overwrite from end b v d xs le within below ∙ overwrite-same-at from end b v _ _ (outside b d below) ∙ sym (get_or-overwrite from end b v d ys le (omega (arith, same)) (omega (arith, same, below))))

-- the runs `rs`, in which one begins at `from` and one at `end`, without those between
pub record Writes {T : Type 0} (len from end : ℕ) (first v : T) (rs ss : List (Run T)) : Type 0 where
  pub rising : IsRisingTo len 0 ss
  pub begins : has_start from (starts_of ss) ≡ true
  pub bytes : overwrite from (next_start (length (bytes_of len first ss)) from (starts_of ss)) v (bytes_of len first ss) ≡ overwrite from end v (bytes_of len first rs)

pub writes : {T : Type 0} (len from end : ℕ) (first v : T) (rs ss : List (Run T)) → IsRisingTo len 0 rs → from < end → end ≤ len → has_start from (starts_of rs) ≡ true → (end < len → has_start end (starts_of rs) ≡ true) → ss ≡ filter (λ (r : Run T). stays from end r.start) rs → Writes len from end first v rs ss
writes len from end first v rs ss h lt le from_begins end_begins made =
    let size : length (bytes_of len first rs) ≡ len = length-bytes_of len first rs in
    let size' : length (bytes_of len first (filter (λ (r : Run _). stays from end r.start) rs)) ≡ len = length-bytes_of len first _ in
    let tail : end < len → has_start end (map (λ (r : Run _). r.start) rs) ≡ true = λ below. grind (arith, nat_tests, end_begins below, lt) in
    let next : next_start (length (bytes_of len first (filter (λ (r : Run _). stays from end r.start) rs))) from (starts_of (filter (λ (r : Run _). stays from end r.start) rs)) ≡ end =
    ap (λ n. next_start n from (starts_of (filter (λ (r : Run _). stays from end r.start) rs))) size' ∙ next_start-starts_of len from _ ∙ next_start-filter len 0 from end rs h lt le tail in
    rw made
    (record {
      rising = rising-filter _ len 0 rs h;
      begins = subst (λ l. has_start from l ≡ true) (sym (starts-filter from end rs)) (has_start-filter from end from (starts_of rs) from_begins (grind (arith, nat_tests)));
      bytes = rw next
          (overwrite-same from end v _ _ (omega (arith, lt)) (omega (arith, le, size')) (size ∙ sym size')
          (λ b d below side. let inside : b < len = omega (arith, below, size') in
          get_or-bytes_of len first _ b d inside
          ∙ elim side [ inl lower ↦ value_at-filter_below len 0 from end b first rs h (omega (arith, lower)) | inr upper ↦ value_at-filter_above len 0 from end b first first rs h upper (tail (omega (arith, upper, inside))) ]
          ∙ sym (get_or-bytes_of len first rs b d inside)));
    })

with_end-begins : (len end : ℕ) (ss : List ℕ) → end < len → has_start end (with_end len end ss) ≡ true
with_end-begins len end ss lt = grind (arith, nat_tests, has_start-with_start end ss)

-- the same, from what the two splits left
pub written : {T : Type 0} (len from end : ℕ) (first v : T) (rs ss : List (Run T)) (bytes : List T) (starts : List ℕ) → IsRisingTo len 0 rs → bytes_of len first rs ≡ bytes → starts_of rs ≡ with_start from (with_end (length bytes) end starts) → from < end → end ≤ length bytes → ss ≡ filter (λ (r : Run T). stays from end r.start) rs → Writes len from end first v rs ss
written len from end first v rs ss bytes starts h same begins lt le made =
    let size : length bytes ≡ len = ap length (sym same) ∙ length-bytes_of len first rs in
    writes len from end first v rs ss h lt (omega (arith, size, le)) (subst (λ l. has_start from l ≡ true) (sym begins) (has_start-with_start from _))
    (λ below. subst (λ l. has_start end l ≡ true) (sym begins) (has_start-other end from _ (with_end-begins (length bytes) end starts (omega (arith, size, below)))))
    made

-- the run that begins at or before a byte inside ends after it, inside
pub next_start-inside : {T : Type 0} (len at : ℕ) (first : T) (rs : List (Run T)) → IsRisingTo len 0 rs → at < length (bytes_of len first rs) → (at < next_start (length (bytes_of len first rs)) at (starts_of rs)) × (next_start (length (bytes_of len first rs)) at (starts_of rs) ≤ length (bytes_of len first rs))
next_start-inside len at first rs h lt =
    let ends = run_ends len (next_start len at (map (λ (r : Run _). r.start) rs)) at first rs h lt refl in
    (subst (λ e. at < e) ends.next ends.after, subst (λ e. e ≤ length (bytes_of len first rs)) ends.next ends.within)
