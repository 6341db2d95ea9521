-- The fragments of parts of a map of origins.
use Rattle.std.proofs.lemmas.Bool.{cases_lt}
use Rattle.std.proofs.Common.{◌⊎◌, inl, inr, ◌≡◌, ℕ, zero, suc, ◌+◌, ◌-◌, ◌%◌, ◌<◌, ◌≤◌, List, [], ◌∷◌, ◌++◌, All, Option, Some, None, Bool, true, false, ◌&&◌, ◌==◌, if◌then◌else◌, subst, refl, ap, ◌∙◌, sym, length, replicate, take, drop, arith, add-zero, slice_get, length-append, length-take, length-drop}
use Rattle.std.proofs.lemmas.List.Elements.{All-append, All-cons, All-drop, All-nil, All-tail, All-take}
use Rattle.std.proofs.lemmas.List.{length-replicate}
use Rattle.bsan_ids.specs.declared.numbers.Frag.{Frag}
use Rattle.bsan_ids.specs.declared.numbers.Prov.{Prov}
use Rattle.history.specs.Pieces.{fragments_from}
use Rattle.history.specs.Fragments.{stored, same_prov, is_run, loaded}
use Rattle.history.specs.Memory.{put, in_range}
use Rattle.range_map.specs.Ranges.{Ranges, overwrite}
use Rattle.shadow_mem.specs.declared.Origin.{Origin}
use Rattle.shadow_mem.specs.Origins.{index_at, frag_at, frags_from, is_small, IsShadow, is_at}

pub length-frags_from : (at : ℕ) (xs : List (Option Origin)) → length (frags_from at xs) ≡ length xs
length-frags_from at [] = refl
length-frags_from at (x ∷ xs) = omega (arith, length-frags_from (at + 1) xs)

pub frags_from-append : (at : ℕ) (xs ys : List (Option Origin)) → frags_from at (xs ++ ys) ≡ frags_from at xs ++ frags_from (at + length xs) ys
frags_from-append at [] ys = rw add-zero refl
frags_from-append at (x ∷ xs) ys =
    let place : at + length (x ∷ xs) ≡ at + 1 + length xs = omega arith in
    rw place (ap (λ (rest : List (Option Frag)). frag_at at x ∷ rest) (frags_from-append (at + 1) xs ys))

pub frags_from-take : (n at : ℕ) (xs : List (Option Origin)) → frags_from at (take n xs) ≡ take n (frags_from at xs)
frags_from-take zero at xs = refl
frags_from-take (suc n) at [] = refl
frags_from-take (suc n) at (x ∷ xs) = ap (λ (rest : List (Option Frag)). frag_at at x ∷ rest) (frags_from-take n (at + 1) xs)

pub frags_from-drop : (n at : ℕ) (xs : List (Option Origin)) → frags_from (at + n) (drop n xs) ≡ drop n (frags_from at xs)
frags_from-drop zero at xs = rw add-zero refl
frags_from-drop (suc n) at [] = refl
frags_from-drop (suc n) at (x ∷ xs) =
    let place : at + suc n ≡ at + 1 + n = omega arith in
    rw place (frags_from-drop n (at + 1) xs)

pub frags_from-none : (n at : ℕ) → frags_from at (replicate n None) ≡ replicate n None
frags_from-none zero at = refl
frags_from-none (suc n) at = ap (λ (rest : List (Option Frag)). None ∷ rest) (frags_from-none n (at + 1))

pub slice_get-frags_from : (at k : ℕ) (xs : List (Option Origin)) (x : Option Origin) → slice_get xs k ≡ Some x → slice_get (frags_from at xs) k ≡ Some (frag_at (at + k) x)
slice_get-frags_from at zero [] x e = absurd (let none : None ≡ Some x = e in cc)
slice_get-frags_from at (suc k) [] x e = absurd (let none : None ≡ Some x = e in cc)
slice_get-frags_from at zero (first ∷ xs) x e =
    let same : first ≡ x = cc in
    rw (same, add-zero) refl
slice_get-frags_from at (suc k) (first ∷ xs) x e =
    let place : at + suc k ≡ at + 1 + k = omega arith in
    rw place (slice_get-frags_from (at + 1) k xs x e)

-- what a write leaves
frags_from-put : (from : ℕ) (new xs : List (Option Origin)) → from + length new ≤ length xs → frags_from 0 (put from new xs) ≡ put from (frags_from from new) (frags_from 0 xs)
frags_from-put from new xs within =
    let front : List (Option Origin) = take from xs in
    let end : ℕ = from + length new in
    let back : List (Option Origin) = drop end xs in
    let la : 0 + length (take from xs) ≡ from = omega (arith, length-take from xs, within) in
    let lab : 0 + length (take from xs ++ new) ≡ 0 + (from + length new) = omega (arith, length-append (take from xs) new, la) in
    let long : from + length new ≡ from + length (frags_from from new) = ap (λ (k : ℕ). from + k) (sym (length-frags_from from new)) in
    frags_from-append 0 (front ++ new) back
    ∙ ap (λ (k : ℕ). frags_from 0 (front ++ new) ++ frags_from k back) lab
    ∙ ap (λ (ys : List (Option Frag)). ys ++ frags_from (0 + end) back) (frags_from-append 0 front new ∙ ap (λ (k : ℕ). frags_from 0 front ++ frags_from k new) la ∙ ap (λ (ys : List (Option Frag)). ys ++ frags_from from new) (frags_from-take from 0 xs))
    ∙ ap (λ (ys : List (Option Frag)). take from (frags_from 0 xs) ++ frags_from from new ++ ys) (frags_from-drop end 0 xs ∙ ap (λ (k : ℕ). drop k (frags_from 0 xs)) long)

frags_from-overwrite : (from n end : ℕ) (v : Option Origin) (xs : List (Option Origin)) → end ≡ from + n → end ≤ length xs → frags_from 0 (overwrite from end v xs) ≡ put from (frags_from from (replicate n v)) (frags_from 0 xs)
frags_from-overwrite from n end v xs e within =
    let count : end - from ≡ n = omega arith in
    ap (λ (k : ℕ). frags_from 0 (put from (replicate k v) xs)) count ∙ frags_from-put from (replicate n v) xs (omega (arith, length-replicate n v, e, within))

length-put : (from : ℕ) (new xs : List (Option Frag)) → from + length new ≤ length xs → length (put from new xs) ≡ length xs
length-put from new xs within =
    omega (arith, length-append (take from xs ++ new) (drop (from + length new) xs), length-append (take from xs) new, length-take from xs, length-drop (from + length new) xs)

-- a shadow after a write of one origin
pub IsShadow-set : (from n end : ℕ) (v : Option Origin) (old new : Ranges (Option Origin)) → end ≡ from + n → end ≤ length old.bytes → new.bytes ≡ overwrite from end v old.bytes → All is_small (frags_from from (replicate n v)) → IsShadow old → IsShadow new
IsShadow-set from n end v old new e within bytes small h =
    let F : List (Option Frag) = frags_from 0 old.bytes in
    let M : List (Option Frag) = frags_from from (replicate n v) in
    let frags : frags_from 0 new.bytes ≡ put from M F = ap (frags_from 0) bytes ∙ frags_from-overwrite from n end v old.bytes e within in
    let lf : length F ≡ length old.bytes = length-frags_from 0 old.bytes in
    let lm : length M ≡ n = length-frags_from from (replicate n v) ∙ length-replicate n v in
    let ln : length (frags_from 0 new.bytes) ≡ length new.bytes = length-frags_from 0 new.bytes in
    let same : length (put from M F) ≡ length F = length-put from M F (omega (arith, lm, lf, e, within)) in
    let long : length (frags_from 0 new.bytes) ≡ length F = ap length frags ∙ same in
    record {
      small = rw frags (All-append is_small (take from F ++ M) (drop (from + length M) F) (All-append is_small (take from F) M (All-take is_small from F h.small) small) (All-drop is_small (from + length M) F h.small));
      short = omega (arith, h.short, lf, ln, long);
    }

pub frags-set : (from n end : ℕ) (v : Option Origin) (old new : Ranges (Option Origin)) → end ≡ from + n → end ≤ length old.bytes → new.bytes ≡ overwrite from end v old.bytes → frags_from 0 new.bytes ≡ put from (frags_from from (replicate n v)) (frags_from 0 old.bytes)
frags-set from n end v old new e within bytes = ap (frags_from 0) bytes ∙ frags_from-overwrite from n end v old.bytes e within

pub small-none : (n from : ℕ) → All is_small (frags_from from (replicate n None))
small-none zero from = All-nil is_small
small-none (suc n) from = All-cons is_small None (frags_from (from + 1) (replicate n None)) tt (small-none n (from + 1))

-- the fragments of a run whose fragment 0 stands at a place
pub index-above : (at i : ℕ) → i < 4294967296 → at < 4294967296 → index_at (at + i) at ≡ i
index-above at i lt below =
    let e : at + i + (4294967296 - at) ≡ i + 4294967296 = omega arith in
    let r : (i + 4294967296) % 4294967296 ≡ i = omega arith in
    ap (λ (n : ℕ). n % 4294967296) e ∙ r

pub frags_from-stored : (at i n : ℕ) (prov : Prov) → at < 4294967296 → i + n ≤ 256 → frags_from (at + i) (replicate n (Some (record { prov = prov; zero_at = at }))) ≡ fragments_from prov i n
frags_from-stored at i zero prov below le = refl
frags_from-stored at i (suc n) prov below le =
    let place : at + i + 1 ≡ at + (i + 1) = omega arith in
    let index : index_at (at + i) at ≡ i = index-above at i (omega (arith, le)) below in
    rw (index, place) (ap (λ (rest : List (Option Frag)). Some (record { prov = prov; index = i }) ∷ rest) (frags_from-stored at (i + 1) n prov below (omega arith)))

small-fragments : (prov : Prov) (i n : ℕ) → i + n ≤ 256 → All is_small (fragments_from prov i n)
small-fragments prov i zero le = All-nil is_small
small-fragments prov i (suc n) le = All-cons is_small (Some (record { prov = prov; index = i })) (fragments_from prov (i + 1) n) (omega arith) (small-fragments prov (i + 1) n (omega arith))

stored_frags : (at : ℕ) (prov : Prov) → at < 4294967296 → frags_from at (replicate 8 (Some (record { prov = prov; zero_at = at }))) ≡ fragments_from prov 0 8
stored_frags at prov below =
    let e : frags_from (at + 0) (replicate 8 (Some (record { prov = prov; zero_at = at }))) ≡ fragments_from prov 0 8 = frags_from-stored at 0 8 prov below (omega arith) in
    let same : at ≡ at + 0 = omega arith in
    ap (λ (k : ℕ). frags_from k (replicate 8 (Some (record { prov = prov; zero_at = at })))) same ∙ e

pub small-stored : (at : ℕ) (prov : Prov) → at < 4294967296 → All is_small (frags_from at (replicate 8 (Some (record { prov = prov; zero_at = at }))))
small-stored at prov below =
    subst (λ (fs : List (Option Frag)). All is_small fs) (sym (stored_frags at prov below)) (small-fragments prov 0 8 (omega arith))

pub stored-put : (at : ℕ) (prov : Prov) (xs : List (Option Frag)) → at < 4294967296 → put at (frags_from at (replicate 8 (Some (record { prov = prov; zero_at = at })))) xs ≡ put at (stored (Some prov)) xs
stored-put at prov xs below = ap (λ (new : List (Option Frag)). put at new xs) (stored_frags at prov below)

pub cleared-put : (at n : ℕ) (xs : List (Option Frag)) → put at (frags_from at (replicate n None)) xs ≡ put at (replicate n None) xs
cleared-put at n xs = ap (λ (new : List (Option Frag)). put at new xs) (frags_from-none n at)

pub size-set : (from n end : ℕ) (v : Option Origin) (old new : Ranges (Option Origin)) → end ≡ from + n → end ≤ length old.bytes → new.bytes ≡ overwrite from end v old.bytes → length (frags_from 0 new.bytes) ≡ length (frags_from 0 old.bytes)
size-set from n end v old new e within bytes =
    ap length (frags-set from n end v old new e within bytes)
    ∙ length-put from (frags_from from (replicate n v)) (frags_from 0 old.bytes) (omega (arith, length-frags_from 0 old.bytes, length-frags_from from (replicate n v), length-replicate n v, e, within))

pub IsShadow-new : (n : ℕ) (map : Ranges (Option Origin)) → map.bytes ≡ replicate n None → n < 4294967296 → IsShadow map
IsShadow-new n map e le =
    record {
      small = subst (λ (xs : List (Option Origin)). All is_small (frags_from 0 xs)) (sym e) (small-none n 0);
      short = omega (arith, ap length e, length-replicate {A = Option Origin} n None);
    }

pub slice_get-frags : (k : ℕ) (xs : List (Option Origin)) (x : Option Origin) → slice_get xs k ≡ Some x → slice_get (frags_from 0 xs) k ≡ Some (frag_at k x)
slice_get-frags k xs x e =
    let place : 0 + k ≡ k = omega arith in
    subst (λ (n : ℕ). slice_get (frags_from 0 xs) k ≡ Some (frag_at n x)) place (slice_get-frags_from 0 k xs x e)

-- fragments that are one value from a place on, where that value is written there again
put-same : (from n : ℕ) (v : Option Frag) (xs : List (Option Frag)) → from + n ≤ length xs → ((b : ℕ) → from ≤ b → b < from + n → slice_get xs b ≡ Some v) → put from (replicate n v) xs ≡ xs
put-same zero zero v xs within same = refl
put-same zero (suc n) v [] within same = absurd (omega (arith, within))
put-same zero (suc n) v (x ∷ xs) within same =
    let first : Some x ≡ Some v = same 0 (omega arith) (omega arith) in
    let e : v ≡ x = cc in
    let place : 0 + length (v ∷ replicate n v) ≡ suc (0 + length (replicate n v)) = omega arith in
    let rest : put zero (replicate n v) xs ≡ xs = put-same zero n v xs (omega (arith, within)) (λ b lo hi. same (suc b) (omega arith) (omega (arith, hi))) in
    rw place (ap (λ (ys : List (Option Frag)). v ∷ ys) rest ∙ ap (λ (y : Option Frag). y ∷ xs) e)
put-same (suc from) n v [] within same = absurd (omega (arith, within))
put-same (suc from) n v (x ∷ xs) within same =
    let rest : put from (replicate n v) xs ≡ xs = put-same from n v xs (omega (arith, within)) (λ b lo hi. same (suc b) (omega (arith, lo)) (omega (arith, hi))) in
    let place : suc from + length (replicate n v) ≡ suc (from + length (replicate n v)) = omega arith in
    rw place (ap (λ (ys : List (Option Frag)). x ∷ ys) rest)

-- bytes without a fragment, from which the fragments are taken again
pub clear-put : (from n : ℕ) (xs : List (Option Origin)) → from + n ≤ length xs → ((b : ℕ) → from ≤ b → b < from + n → slice_get xs b ≡ Some None) → put from (replicate n None) (frags_from 0 xs) ≡ frags_from 0 xs
clear-put from n xs within same =
    put-same from n None (frags_from 0 xs) (omega (arith, within, length-frags_from 0 xs)) (λ b lo hi. slice_get-frags b xs None (same b lo hi))

pub small-at : (fs : List (Option Frag)) (k : ℕ) (f : Frag) → All is_small fs → slice_get fs k ≡ Some (Some f) → f.index < 256
small-at [] zero f h e = absurd (let none : None ≡ Some (Some f) = e in cc)
small-at [] (suc k) f h e = absurd (let none : None ≡ Some (Some f) = e in cc)
small-at (x ∷ fs) zero f h e = subst is_small (let same : x ≡ Some f = cc in same) (h 0 x (omega arith))
small-at (x ∷ fs) (suc k) f h e = small-at fs k f (All-tail is_small x fs h) e

in_range-cons : (at n : ℕ) (xs : List (Option Frag)) (x : Option Frag) → slice_get xs at ≡ Some x → in_range at (suc n) xs ≡ x ∷ in_range (at + 1) n xs
in_range-cons zero n [] x e = absurd (let none : None ≡ Some x = e in cc)
in_range-cons (suc at) n [] x e = absurd (let none : None ≡ Some x = e in cc)
in_range-cons zero n (y ∷ xs) x e = ap (λ (h : Option Frag). h ∷ take n xs) (let same : y ≡ x = cc in same)
in_range-cons (suc at) n (y ∷ xs) x e =
    let next : suc at + 1 ≡ suc (at + 1) = omega arith in
    rw next (in_range-cons at n xs x e)

and_same : (a b c : Bool) → (a && b && c) ≡ ((a && b) && c)
and_same true b c = refl
and_same false b c = refl

is_run-cons : (prov : Prov) (index : ℕ) (x : Option Frag) (frags : List (Option Frag)) → is_run prov index (x ∷ frags) ≡ (is_at prov index x && is_run prov (index + 1) frags)
is_run-cons prov index None frags = refl
is_run-cons prov index (Some frag) frags = and_same (same_prov frag.prov prov) (frag.index == index) (is_run prov (index + 1) frags)

-- a run by its first fragment and the rest
pub is_run-first : (prov : Prov) (at index left : ℕ) (xs : List (Option Frag)) (x : Option Frag) → 1 ≤ left → slice_get xs at ≡ Some x → is_run prov index (in_range at left xs) ≡ (is_at prov index x && is_run prov (index + 1) (in_range (at + 1) (left - 1) xs))
is_run-first prov at index left xs x some e =
    let more : left ≡ suc (left - 1) = omega arith in
    ap (λ (n : ℕ). is_run prov index (in_range at n xs)) more ∙ ap (is_run prov index) (in_range-cons at (left - 1) xs x e) ∙ is_run-cons prov index x (in_range (at + 1) (left - 1) xs)

pub loaded-none : (at : ℕ) (xs : List (Option Frag)) → slice_get xs at ≡ Some None → loaded (in_range at 8 xs) ≡ None
loaded-none at xs e = ap loaded (in_range-cons at 7 xs None e)

pub loaded-some : (at : ℕ) (xs : List (Option Frag)) (f : Frag) (b : Bool) → slice_get xs at ≡ Some (Some f) → is_run f.prov 0 (in_range at 8 xs) ≡ b → loaded (in_range at 8 xs) ≡ (if b then Some f.prov else None)
loaded-some at xs f b e run =
    let whole : in_range at 8 xs ≡ Some f ∷ in_range (at + 1) 7 xs = in_range-cons at 7 xs (Some f) e in
    let same : is_run f.prov 0 (Some f ∷ in_range (at + 1) 7 xs) ≡ b = sym (ap (is_run f.prov 0) whole) ∙ run in
    ap loaded whole ∙ ap (λ (t : Bool). if t then Some f.prov else None) same

-- a byte whose fragment 0 would stand `index` bytes below it, modulo 2^32
set_index : (at index : ℕ) → index < 256 → at < 4294967296 → index_at at ((at + (4294967296 - index)) % 4294967296) ≡ index
set_index at index small below = by (cases_lt at index) where
  by : (at < index) ⊎ (index ≤ at) → index_at at ((at + (4294967296 - index)) % 4294967296) ≡ index
  by (inl lt) =
      let z : (at + (4294967296 - index)) % 4294967296 ≡ at + (4294967296 - index) = omega arith in
      let e : at + (4294967296 - (at + (4294967296 - index))) ≡ index = omega arith in
      let r : index % 4294967296 ≡ index = omega arith in
      ap (λ (n : ℕ). (at + (4294967296 - n)) % 4294967296) z ∙ ap (λ (n : ℕ). n % 4294967296) e ∙ r
  by (inr le) =
      let z : (at + (4294967296 - index)) % 4294967296 ≡ at - index = omega arith in
      let e : at + (4294967296 - (at - index)) ≡ index + 4294967296 = omega arith in
      let r : (index + 4294967296) % 4294967296 ≡ index = omega arith in
      ap (λ (n : ℕ). (at + (4294967296 - n)) % 4294967296) z ∙ ap (λ (n : ℕ). n % 4294967296) e ∙ r

pub one_frag : (at zero_at : ℕ) (f : Frag) → zero_at ≡ (at + (4294967296 - f.index)) % 4294967296 → f.index < 256 → at < 4294967296 → frags_from at (replicate 1 (Some (record { prov = f.prov; zero_at = zero_at }))) ≡ Some f ∷ []
one_frag at zero_at f e small below =
    let same : index_at at zero_at ≡ f.index = ap (index_at at) e ∙ set_index at f.index small below in
    ap (λ (n : ℕ). Some (record { prov = f.prov; index = n }) ∷ []) same

pub small-one : (at zero_at : ℕ) (f : Frag) → zero_at ≡ (at + (4294967296 - f.index)) % 4294967296 → f.index < 256 → at < 4294967296 → All is_small (frags_from at (replicate 1 (Some (record { prov = f.prov; zero_at = zero_at }))))
small-one at zero_at f e small below =
    subst (λ (fs : List (Option Frag)). All is_small fs) (sym (one_frag at zero_at f e small below)) (All-cons is_small (Some f) [] small (All-nil is_small))
