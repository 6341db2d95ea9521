-- The merge of logs whose stamps rise is in stamp order, and its part of each thread is that thread's log.
use Rattle.std.proofs.Common.{◌≡◌, ℕ, suc, ◌<◌, ◌≤◌, Bool, true, false, List, [], ◌∷◌, ◌++◌, refl, sym, ◌∙◌, ap, subst, ◌≢◌, inl, inr, arith}
use Rattle.std.specs.Prelude.{if◌then◌else◌, ◌==◌, ◌⊎◌, nat_le}
use Rattle.std.proofs.lemmas.Bool.{eq-eqb}
use Rattle.std.proofs.lemmas.Bool.Decides.{eqb_tells, nat_tests}
use Rattle.history.specs.declared.entry.Entry.{Entry}
use Rattle.history.specs.declared.log.ThreadLog.{ThreadLog}
use Rattle.runs.specs.Parts.{Has, of_thread}
use Rattle.runs.specs.Stamps.{RisesFrom}
use Rattle.history.specs.Merge.{by_stamp, put_by_stamp}
use Rattle.runs.specs.Merge.{all_entries, merged, entries_of, IsPartwiseMerge, IsOwn, MayMerge, no_logs, one_more}
use Rattle.runs.specs.Right.{NumbersRiseFrom}

pub at_most_tells : (a b : ℕ) → ((nat_le a b ≡ true) × (a ≤ b)) ⊎ ((nat_le a b ≡ false) × (b < a))
at_most_tells a b = by_test (nat_le a b) refl
  where
    by_test : (c : Bool) → nat_le a b ≡ c → ((nat_le a b ≡ true) × (a ≤ b)) ⊎ ((nat_le a b ≡ false) × (b < a))
    by_test true is = inl (is, grind (arith, nat_tests))
    by_test false is = inr (is, grind (arith, nat_tests))

pub in_inserted : (x : Entry) (ys : List Entry) (z : Entry) → Has (put_by_stamp x ys) z → (x ≡ z) ⊎ Has ys z
in_inserted x [] z (inl h) = inl h
in_inserted x [] z (inr h) = absurd h
in_inserted x (y ∷ ys) z h = by_test (in_inserted x ys z) (nat_le x.stamp.0 y.stamp.0) h
  where
    by_test : (Has (put_by_stamp x ys) z → (x ≡ z) ⊎ Has ys z) → (b : Bool) → Has (if b then x ∷ y ∷ ys else y ∷ put_by_stamp x ys) z → (x ≡ z) ⊎ Has (y ∷ ys) z
    by_test more true (inl g) = inl g
    by_test more true (inr g) = inr g
    by_test more false (inl g) = inr (inl g)
    by_test more false (inr g) = elim (more g) [ inl same ↦ inl same | inr there ↦ inr (inr there) ]

pub inserted_rises : (n : ℕ) (x : Entry) (ys : List Entry) → n < x.stamp.0 → RisesFrom n ys → ((y : Entry) → Has ys y → y.stamp.0 ≢ x.stamp.0) → RisesFrom n (put_by_stamp x ys)
inserted_rises n x [] h r apart = (h, tt)
inserted_rises n x (y ∷ ys) h r apart = elim (at_most_tells x.stamp.0 y.stamp.0) [
  | inl lower ↦
      let other : y.stamp.0 ≢ x.stamp.0 = apart y (inl refl) in
      let strictly : x.stamp.0 < y.stamp.0 = omega (arith, lower.1, other) in
      rw lower.0 (h, (strictly, r.1))
  | inr above ↦ rw above.0 (r.0, inserted_rises y.stamp.0 x ys above.1 r.1 (λ z g. apart z (inr g)))
]

-- into the part of its own thread it goes first, where that part is later
pub own_inserted : (t : ℕ) (x : Entry) (zs xs : List Entry) → of_thread t zs ≡ xs → RisesFrom x.stamp.0 xs → x.thread.0 ≡ t → of_thread t (put_by_stamp x zs) ≡ x ∷ xs
own_inserted t x [] xs is r own = rw (eq-eqb x.thread.0 t own) (ap (λ l. x ∷ l) is)
own_inserted t x (z ∷ zs) xs is r own = elim (at_most_tells x.stamp.0 z.stamp.0) [
  | inl lower ↦ rw lower.0 (rw (eq-eqb x.thread.0 t own) (ap (λ l. x ∷ l) is))
  | inr above ↦ rw above.0 (by_thread (own_inserted t x zs xs) (z.thread.0 == t) refl above.1)
]
  where
    by_thread : (of_thread t zs ≡ xs → RisesFrom x.stamp.0 xs → x.thread.0 ≡ t → of_thread t (put_by_stamp x zs) ≡ x ∷ xs)
        → (b : Bool) → (z.thread.0 == t) ≡ b → z.stamp.0 < x.stamp.0 → of_thread t (z ∷ put_by_stamp x zs) ≡ x ∷ xs
    by_thread more true at le =
        let all : z ∷ of_thread t zs ≡ xs = rw at at is in
        let rises : RisesFrom x.stamp.0 (z ∷ of_thread t zs) = subst (λ l. RisesFrom x.stamp.0 l) (sym all) r in
        absurd (omega (arith, rises.0, le))
    by_thread more false at le = rw at (more (rw at at is) r own)

pub other_inserted : (t : ℕ) (x : Entry) (zs : List Entry) → (x.thread.0 == t) ≡ false → of_thread t (put_by_stamp x zs) ≡ of_thread t zs
other_inserted t x [] miss = rw miss refl
other_inserted t x (z ∷ zs) miss = elim (at_most_tells x.stamp.0 z.stamp.0) [
  | inl lower ↦ rw lower.0 (rw miss refl)
  | inr above ↦ rw above.0 (ap (λ l. if z.thread.0 == t then z ∷ l else l) (other_inserted t x zs miss))
]

-- these entries and more, in stamp order
abbrev pub merged_with : List Entry → List Entry → List Entry
merged_with xs ys = by_stamp (xs ++ ys)

pub own_merged : (t n : ℕ) (xs ys : List Entry) → IsOwn t xs → RisesFrom n xs → of_thread t (by_stamp ys) ≡ [] → of_thread t (merged_with xs ys) ≡ xs
own_merged t n [] ys own r none = none
own_merged t n (x ∷ xs) ys own r none = own_inserted t x (merged_with xs ys) xs (own_merged t x.stamp.0 xs ys own.1 r.1 none) r.1 own.0

pub other_merged : (t u : ℕ) (xs ys : List Entry) → IsOwn u xs → u ≢ t → of_thread t (merged_with xs ys) ≡ of_thread t (by_stamp ys)
other_merged t u [] ys own ne = refl
other_merged t u (x ∷ xs) ys own ne =
    let miss : (x.thread.0 == t) ≡ false = elim (eqb_tells x.thread.0 t) [ inl hit ↦ absurd (ne (sym own.0 ∙ hit.1)) | inr off ↦ off.0 ] in
    other_inserted t x (merged_with xs ys) miss ∙ other_merged t u xs ys own.1 ne

-- in a merge there are the entries of the logs alone
pub in_merged_with : (xs ys : List Entry) (z : Entry) → Has (merged_with xs ys) z → Has xs z ⊎ Has (by_stamp ys) z
in_merged_with [] ys z h = inr h
in_merged_with (x ∷ xs) ys z h = elim (in_inserted x (merged_with xs ys) z h) [
  | inl same ↦ inl (inl same)
  | inr there ↦ elim (in_merged_with xs ys z there) [ inl own ↦ inl (inr own) | inr other ↦ inr other ]
]

pub rises_lower : (n k : ℕ) (es : List Entry) → n ≤ k → RisesFrom k es → RisesFrom n es
rises_lower n k [] le r = tt
rises_lower n k (e ∷ es) le r = (omega (arith, r.0), r.1)

pub above_first : (n : ℕ) (es : List Entry) (x : Entry) → RisesFrom n es → Has es x → n < x.stamp.0
above_first n [] x r h = absurd h
above_first n (e ∷ es) x r (inl is) = subst (λ y. n < y.stamp.0) is r.0
above_first n (e ∷ es) x r (inr h) = omega (arith, above_first e.stamp.0 es x r.1 h, r.0)

pub merged_with_rises : (n : ℕ) (xs ys : List Entry) → RisesFrom n xs → RisesFrom n (by_stamp ys) → ((x y : Entry) → Has xs x → Has (by_stamp ys) y → y.stamp.0 ≢ x.stamp.0) → RisesFrom n (merged_with xs ys)
merged_with_rises n [] ys r s apart = s
merged_with_rises n (x ∷ xs) ys r s apart =
    inserted_rises n x (merged_with xs ys) r.0
    (merged_with_rises n xs ys (rises_lower n x.stamp.0 xs (omega (arith, r.0)) r.1) s (λ u y g h. apart u y (inr g) h))
    (λ y g. elim (in_merged_with xs ys y g) [
      | inl own ↦ λ same. omega (arith, above_first x.stamp.0 xs y r.1 own, same)
      | inr other ↦ apart x y (inl refl) other
    ])

pub no_entries : (n t : ℕ) (logs : List ThreadLog) → NumbersRiseFrom n logs → t < n → entries_of logs t ≡ []
no_entries n t [] r less = refl
no_entries n t (l ∷ ls) r less =
    let miss : (l.number.0 == t) ≡ false = elim (eqb_tells l.number.0 t) [ inl hit ↦ absurd (omega (arith, hit.1, r.0, less)) | inr off ↦ off.0 ] in
    rw miss (no_entries (suc l.number.0) t ls r.1 (omega (arith, r.0, less)))

pub merged_rises : (logs : List ThreadLog) → MayMerge logs → RisesFrom 0 (merged logs)
merged_rises [] no_logs = tt
merged_rises (l ∷ ls) (one_more own r apart more) = merged_with_rises 0 l.entries (all_entries ls) r (merged_rises ls more) apart

pub merged_parts : (n t : ℕ) (logs : List ThreadLog) → NumbersRiseFrom n logs → MayMerge logs → of_thread t (merged logs) ≡ entries_of logs t
merged_parts n t [] r no_logs = refl
merged_parts n t (l ∷ ls) r (one_more own rises apart more) = elim (eqb_tells l.number.0 t) [
  | inl hit ↦
      let own' : IsOwn t l.entries = subst (λ k. IsOwn k l.entries) hit.1 own in
      let none : of_thread t (merged ls) ≡ [] = merged_parts (suc l.number.0) t ls r.1 more ∙ no_entries (suc l.number.0) t ls r.1 (omega (arith, hit.1)) in
      rw hit.0 (own_merged t 0 l.entries (all_entries ls) own' rises none)
  | inr miss ↦ rw miss.0 (other_merged t l.number.0 l.entries (all_entries ls) own miss.1 ∙ merged_parts (suc l.number.0) t ls r.1 more)
]

-- the merge is in stamp order, and its parts are the logs
pub merged_is_merge : (logs : List ThreadLog) → NumbersRiseFrom 0 logs → MayMerge logs → IsPartwiseMerge logs (merged logs)
merged_is_merge logs r may = record { rises = merged_rises logs may; parts = λ t. merged_parts 0 t logs r may }
