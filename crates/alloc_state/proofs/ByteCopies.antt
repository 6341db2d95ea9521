-- Copies byte by byte.
use Rattle.std.proofs.Common.{◌≡◌, ℕ, zero, suc, ◌+◌, ◌<◌, ◌≤◌, Bool, true, false, not, if◌then◌else◌, Option, Some, None, List, [], ◌∷◌, ◌++◌, length, length-append, map, take, drop, slice_get, slice_set, min, get_or, refl, ap, ◌∙◌, sym, arith, append_assoc}
use Rattle.std.specs.List.{zip}
use Rattle.std.specs.Option.{option_map}
use Rattle.std.proofs.lemmas.List.{append-nil, take-append-drop, take_more, drop_more, get_or-drop, length-drop, length-take-le}
use Rattle.std.proofs.lemmas.Option.{slice_get_within, get_or_from_slice_get, slice_get-map}
use Rattle.std.proofs.lemmas.Slice.Zip.{length-zip}
use Rattle.std.proofs.lemmas.Bool.{true≢false, ltb-true, ltb-false}
use Rattle.bsan_ids.specs.declared.numbers.Frag.{Frag}
use Rattle.history.specs.declared.trap.Trap.TheVariants.{OutOfBounds, Freed}
use Rattle.history.specs.declared.entry.Request.TheVariants.{CopyOut}
use Rattle.history.specs.Memory.{Memory, in_range, put, is_outside, trap_in}
use Rattle.history.specs.Fragments.{Shadow, piece_at}

-- the bytes of a range with the next one
in_range-push : {A : Type 0} (at n : ℕ) (xs : List A) (x : A) → slice_get xs (at + n) ≡ Some x → in_range at (n + 1) xs ≡ in_range at n xs ++ x ∷ []
in_range-push at n xs x e =
    let within : at + n < length xs = slice_get_within xs (at + n) x e in
    let long : n < length (drop at xs) = omega (arith, within, length-drop at xs) in
    take_more (drop at xs) n x long
    ∙ ap (λ y. take n (drop at xs) ++ y ∷ []) (get_or-drop at xs n x ∙ get_or_from_slice_get xs (at + n) x x e)

length-in_range : {A : Type 0} (at n : ℕ) (xs : List A) → at + n ≤ length xs → length (in_range at n xs) ≡ n
length-in_range at n xs le = length-take-le n (drop at xs) (omega (arith, le, length-drop at xs))

zip-push : {A B : Type 0} (xs : List A) (ys : List B) (a : A) (b : B) → length xs ≡ length ys → zip (xs ++ a ∷ []) (ys ++ b ∷ []) ≡ zip xs ys ++ (a, b) ∷ []
zip-push [] [] a b e = refl
zip-push [] (y ∷ ys) a b e = absurd (omega (arith, e))
zip-push (x ∷ xs) [] a b e = absurd (omega (arith, e))
zip-push (x ∷ xs) (y ∷ ys) a b e = ap (λ rest. (x, y) ∷ rest) (zip-push xs ys a b (omega (arith, e)))

pub piece_push : (m : Memory) (frags : Shadow) (at n : ℕ) (byte : ℕ) (frag : Option Frag) → slice_get m.bytes (at + n) ≡ Some byte → slice_get frags (at + n) ≡ Some frag → piece_at m frags at (n + 1) ≡ piece_at m frags at n ++ (byte, frag) ∷ []
piece_push m frags at n byte frag e f =
    let bytes-within : at + n < length m.bytes = slice_get_within m.bytes (at + n) byte e in
    let frags-within : at + n < length frags = slice_get_within frags (at + n) frag f in
    let same : length (in_range at n m.bytes) ≡ length (in_range at n frags) =
    length-in_range at n m.bytes (omega (arith, bytes-within)) ∙ sym (length-in_range at n frags (omega (arith, frags-within))) in
    ap (λ (bs : List ℕ). zip bs (in_range at (n + 1) frags)) (in_range-push at n m.bytes byte e)
    ∙ ap (λ (fs : Shadow). zip (in_range at n m.bytes ++ byte ∷ []) fs) (in_range-push at n frags frag f)
    ∙ zip-push (in_range at n m.bytes) (in_range at n frags) byte frag same

pub length_piece : (m : Memory) (frags : Shadow) (at n : ℕ) → at + n ≤ length m.bytes → at + n ≤ length frags → length (piece_at m frags at n) ≡ n
length_piece m frags at n le lf =
    let both = length-zip (in_range at n m.bytes) (in_range at n frags) in
    let first : length (in_range at n m.bytes) ≡ n = length-in_range at n m.bytes le in
    let second : length (in_range at n frags) ≡ n = length-in_range at n frags lf in
    let least : min n n ≡ n = omega arith in
    both ∙ rw (first, second) least

slice_set-seam : {A : Type 0} (xs ys : List A) (y x : A) (k : ℕ) → k ≡ length xs → slice_set (xs ++ y ∷ ys) k x ≡ xs ++ x ∷ ys
slice_set-seam [] ys y x zero e = refl
slice_set-seam [] ys y x (suc k) e = absurd (omega (arith, e))
slice_set-seam (z ∷ xs) ys y x zero e = absurd (omega (arith, e))
slice_set-seam (z ∷ xs) ys y x (suc k) e = ap (λ rest. z ∷ rest) (slice_set-seam xs ys y x k (omega (arith, e)))

joined : {A : Type 0} (before first longer rest : List A) (x : A) → longer ≡ first ++ (x ∷ []) → (before ++ first) ++ (x ∷ rest) ≡ (before ++ longer) ++ rest
joined before first longer rest x more =
    sym (append_assoc (before ++ first) (x ∷ []) rest)
    ∙ ap (λ ys. ys ++ rest) (append_assoc before first (x ∷ []))
    ∙ ap (λ ys. (before ++ ys) ++ rest) (sym more)

-- a list over which the first items of another were put, with the next one put too
pub put_more : {A : Type 0} (at i : ℕ) (new old : List A) (x : A) → slice_get new i ≡ Some x → at + length new ≤ length old → slice_set (put at (take i new) old) (at + i) x ≡ put at (take (i + 1) new) old
put_more at i new old x e le =
    let within : i < length new = slice_get_within new i x e in
    let before : length (take i new) ≡ i = length-take-le i new (omega (arith, within)) in
    let more : take (i + 1) new ≡ take i new ++ x ∷ [] = take_more new i x within ∙ ap (λ y. take i new ++ y ∷ []) (get_or_from_slice_get new i x x e) in
    let after : length (take (i + 1) new) ≡ i + 1 = length-take-le (i + 1) new (omega (arith, within)) in
    let start : length (take at old) ≡ at = length-take-le at old (omega (arith, le)) in
    let place : at + i ≡ length (take at old ++ take i new) = omega (arith, length-append (take at old) (take i new), start, before) in
    let next = get_or old (at + i) x in
    let tail = drop (at + i + 1) old in
    let rest : drop (at + length (take i new)) old ≡ next ∷ tail = rw before (drop_more old (at + i) x (omega (arith, le, within))) in
    let last : at + i + 1 ≡ at + length (take (i + 1) new) = omega (arith, after) in
    ap (λ ys. slice_set ((take at old ++ take i new) ++ ys) (at + i) x) rest
    ∙ slice_set-seam (take at old ++ take i new) tail next x (at + i) place
    ∙ joined (take at old) (take i new) (take (i + 1) new) tail x more
    ∙ ap (λ (n : ℕ). (take at old ++ take (i + 1) new) ++ drop n old) last

-- one item put is one item set
pub put_one : {A : Type 0} (k : ℕ) (xs : List A) (x : A) → k < length xs → put k (x ∷ []) xs ≡ slice_set xs k x
put_one k [] x lt = absurd (omega (arith, lt))
put_one zero (y ∷ ys) x lt = refl
put_one (suc k) (y ∷ ys) x lt =
    let less : suc k + 1 ≡ suc (k + 1) = omega arith in
    ap (λ (n : ℕ). (take (suc k) (y ∷ ys) ++ (x ∷ [])) ++ drop n (y ∷ ys)) less
    ∙ ap (λ rest. y ∷ rest) (put_one k ys x (omega (arith, lt)))

put-nothing : {A : Type 0} (at : ℕ) (old : List A) → put at [] old ≡ old
put-nothing at old =
    let same : at + 0 ≡ at = omega arith in
    ap (λ (n : ℕ). (take at old ++ []) ++ drop n old) same
    ∙ ap (λ xs. xs ++ drop at old) (append-nil (take at old))
    ∙ take-append-drop at old

pub put_none : {A : Type 0} (at : ℕ) (new old : List A) → put at (take 0 new) old ≡ old
put_none at new old = put-nothing at old

-- the first parts, and the second parts, of pairs
pub first_at : (pairs : List (ℕ × Option Frag)) (i : ℕ) (byte : ℕ) (frag : Option Frag) → slice_get pairs i ≡ Some (byte, frag) → slice_get (map (λ (pair : ℕ × Option Frag). pair.0) pairs) i ≡ Some byte
first_at pairs i byte frag e = slice_get-map (λ (pair : ℕ × Option Frag). pair.0) pairs i ∙ ap (option_map (λ (pair : ℕ × Option Frag). pair.0)) e

pub second_at : (pairs : List (ℕ × Option Frag)) (i : ℕ) (byte : ℕ) (frag : Option Frag) → slice_get pairs i ≡ Some (byte, frag) → slice_get (map (λ (pair : ℕ × Option Frag). pair.1) pairs) i ≡ Some frag
second_at pairs i byte frag e = slice_get-map (λ (pair : ℕ × Option Frag). pair.1) pairs i ∙ ap (option_map (λ (pair : ℕ × Option Frag). pair.1)) e

untrapped_by : (live outside : Bool) → (if not live then Some Freed else if outside then Some OutOfBounds else None) ≡ None → (live ≡ true) × (outside ≡ false)
untrapped_by true false e = (refl, refl)
untrapped_by true true e = absurd (let bad : Some OutOfBounds ≡ None = e in cc)
untrapped_by false outside e = absurd (let bad : Some Freed ≡ None = e in cc)

-- where an access doesn't trap the allocation is live and has its bytes
pub untrapped : (m : Memory) (at len : ℕ) → trap_in m (CopyOut at len None) ≡ None → (m.live ≡ true) × (at + len ≤ length m.bytes)
untrapped m at len e =
    let parts = untrapped_by m.live (is_outside (length m.bytes) (record { start = at; len = len })) e in
    (parts.0, omega (arith, ltb-false (length m.bytes) (at + len) parts.1))

no_trap_by : (live outside : Bool) → live ≡ true → outside ≡ false → (if not live then Some Freed else if outside then Some OutOfBounds else None) ≡ None
no_trap_by true false l o = refl
no_trap_by true true l o = absurd (true≢false o)
no_trap_by false outside l o = absurd (true≢false (sym l))

pub no_trap : (m : Memory) (at : ℕ) → m.live ≡ true → at < length m.bytes → trap_in m (CopyOut at 1 None) ≡ None
no_trap m at live lt = no_trap_by m.live (is_outside (length m.bytes) (record { start = at; len = 1 })) live (inside (is_outside (length m.bytes) (record { start = at; len = 1 })) refl) where
  inside : (b : Bool) → is_outside (length m.bytes) (record { start = at; len = 1 }) ≡ b → b ≡ false
  inside false e = refl
  inside true e = absurd (omega (arith, lt, ltb-true (length m.bytes) (at + 1) e))
