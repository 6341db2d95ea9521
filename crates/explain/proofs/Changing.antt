-- The last change that the search finds is the changer.
use Rattle.std.proofs.Common.{◌≡◌, ◌⊎◌, ℕ, zero, suc, ◌+◌, ◌<◌, ◌≤◌, List, [], ◌∷◌, ◌++◌, length, take, drop, get_or, length-take-le, refl, sym, ap, ◌∙◌, arith, inl, inr}
use Rattle.std.proofs.lemmas.Bool.{cases_lt}
use Rattle.std.proofs.lemmas.List.{get_or-take}
use Rattle.bsan_ids.specs.declared.numbers.Tag.{Tag}
use Rattle.history.specs.declared.entry.Entry.{Entry}
use Rattle.history.specs.declared.log.AllocLog.{AllocLog}
use Rattle.explain.specs.Explanations.{IsChanger, perm_after}
use Rattle.explain.specs.Searches.{IsLastChange, perm_at}
use Rattle.explain.proofs.Stepping.{take_more}

pub split_at : {A : Type 0} (xs : List A) (k : ℕ) (d : A) → k < length xs → xs ≡ take k xs ++ get_or xs k d ∷ drop (k + 1) xs
split_at [] k d lt = absurd (omega arith)
split_at (x ∷ xs) zero d lt = refl
split_at (x ∷ xs) (suc k) d lt = let more : suc k + 1 ≡ suc (k + 1) = omega arith in rw more (ap (λ ys. x ∷ ys) (split_at xs k d (omega arith)))

-- the entries up to one, it, and some after it
pub taken : {A : Type 0} (xs : List A) (k n : ℕ) (d : A) → k < length xs → take k xs ++ get_or xs k d ∷ take n (drop (k + 1) xs) ≡ take (k + 1 + n) xs
taken [] k n d lt = absurd (omega arith)
taken (x ∷ xs) zero n d lt = let more : 0 + 1 + n ≡ suc n = omega arith in rw more refl
taken (x ∷ xs) (suc k) n d lt =
    let more : suc k + 1 ≡ suc (k + 1) = omega arith in
    let most : suc k + 1 + n ≡ suc (k + 1 + n) = omega arith in
    rw (most, more) (ap (λ ys. x ∷ ys) (taken xs k n d (omega arith)))

take_none : {A : Type 0} (i : ℕ) → take {A = A} i [] ≡ []
take_none zero = refl
take_none (suc i) = refl

take_within : {A : Type 0} (xs : List A) (i len : ℕ) → i ≤ len → take i (take len xs) ≡ take i xs
take_within xs zero len le = refl
take_within xs (suc i) zero le = absurd (omega arith)
take_within [] (suc i) (suc len) le = refl
take_within (x ∷ xs) (suc i) (suc len) le = ap (λ ys. x ∷ ys) (take_within xs i len (omega arith))

take_past : {A : Type 0} (xs : List A) (i len : ℕ) → len ≤ i → take i (take len xs) ≡ take len xs
take_past xs i zero le = take_none i
take_past xs zero (suc len) le = absurd (omega arith)
take_past [] (suc i) (suc len) le = refl
take_past (x ∷ xs) (suc i) (suc len) le = ap (λ ys. x ∷ ys) (take_past xs i len (omega arith))

pub changer_is : (log : AllocLog) (x : Tag) (offset len k : ℕ) (d : Entry) → len ≤ length log.entries → IsLastChange log x offset len k → IsChanger log.number.0 (take len log.entries) x offset (get_or log.entries k d)
changer_is log x offset len k d fits h =
    let es = log.entries in
    let before = take len es in
    let number = log.number.0 in
    let e : Entry = get_or es k d in
    let inside : k < length es = omega (arith, h.inside) in
    let within : k < length before = omega (arith, length-take-le len es, h.inside, fits) in
    let own : get_or before k d ≡ e = get_or-take len es k d h.inside in
    let first : take k before ≡ take k es = take_within es k len (let lt = h.inside in omega arith) in
    let up_to : take (k + 1) es ≡ take k es ++ e ∷ [] = take_more es k d inside in
    record {
      earlier = take k es;
      later = drop (k + 1) before;
      place = split_at before k d within
          ∙ ap (λ (ys : List Entry). ys ++ get_or before k d ∷ drop (k + 1) before) first
          ∙ ap (λ (y : Entry). take k es ++ y ∷ drop (k + 1) before) own;
      changed = λ same. h.changed (ap (λ (ys : List Entry). perm_after number ys x offset) up_to ∙ same);
      last = λ n. (
          let all : take k es ++ e ∷ take n (drop (k + 1) before) ≡ take (k + 1 + n) before =
          sym (ap (λ (ys : List Entry). ys ++ get_or before k d ∷ take n (drop (k + 1) before)) first
          ∙ ap (λ (y : Entry). take k es ++ y ∷ take n (drop (k + 1) before)) own) ∙ taken before k n d within in
          ap (λ (ys : List Entry). perm_after number ys x offset) all
          ∙ stays n (cases_lt len (k + 1 + n))
          ∙ ap (λ (ys : List Entry). perm_after number ys x offset) up_to);
    }
  where
    stays : (n : ℕ) → (len < k + 1 + n) ⊎ (k + 1 + n ≤ len) → perm_after log.number.0 (take (k + 1 + n) (take len log.entries)) x offset ≡ perm_at log x offset (k + 1)
    stays n (inl past) = ap (λ (ys : List Entry). perm_after log.number.0 ys x offset) (take_past log.entries (k + 1 + n) len (omega arith)) ∙ h.last len h.inside (omega arith)
    stays n (inr low) = ap (λ (ys : List Entry). perm_after log.number.0 ys x offset) (take_within log.entries (k + 1 + n) len low) ∙ h.last (k + 1 + n) (omega arith) (omega arith)
