-- The allocation logs that entries make.
use Rattle.std.proofs.Common.{◌≡◌, ◌≢◌, ◌↔◌, ◌⊎◌, ℕ, zero, suc, ◌+◌, ◌<◌, ◌≤◌, false, List, [], ◌∷◌, ◌++◌, refl, sym, ap, subst, ◌∙◌, inl, inr, arith}
use Rattle.std.specs.Prelude.{Option, Some, None}
use Rattle.std.proofs.lemmas.Bool.{eq-eqb}
use Rattle.std.proofs.lemmas.Bool.Decides.{eqb_tells}
use Rattle.bsan_ids.specs.declared.numbers.AllocNo.{AllocNo}
use Rattle.bsan_ids.specs.declared.numbers.Limits.{Limits}
use Rattle.history.specs.declared.entry.Entry.{Entry}
use Rattle.history.specs.declared.log.AllocLog.{AllocLog}
use Rattle.history.specs.declared.log.ThreadLog.{ThreadLog}
use Rattle.runs.specs.Interleaving.{Legal}
use Rattle.runs.specs.Machine.{Memory}
use Rattle.runs.specs.Merge.{IsPartwiseMerge}
use Rattle.runs.specs.Parts.{Has, names, of_alloc, of_thread}
use Rattle.runs.specs.Right.{AllocsRiseFrom, HasHistories, history_of}
use Rattle.runs.specs.Stamps.{RisesFrom}
use Rattle.runs.proofs.MergeLaws.{at_most_tells}
use Rattle.runs.proofs.Merges.{alloc_part, alloc_rises, restrictions_swap}
use Rattle.runs.proofs.WholeParts.{history_outside}
use Rattle.record_text.specs.Texts.{alloc_log, kept_log, logs_from}
use Rattle.record_file.specs.ByNumber.{IsSmall}

-- the log of a number among them ------------------------------------------------------------

some_kept : (es : List Entry) (n : ℕ) (own : List Entry) → own ≢ [] → kept_log (record { number = record { 0 = n }; entries = own }) own ≡ (record { number = record { 0 = n }; entries = own }) ∷ []
some_kept es n [] some = absurd (some refl)
some_kept es n (e ∷ own) some = refl

-- each of them is of a number in the range, has an entry, and has all entries on its number
pub in_logs : (es : List Entry) (first count : ℕ) (log : AllocLog) → Has (logs_from es first count) log → (first ≤ log.number.0) × (log.number.0 < first + count) × (log.entries ≡ of_alloc log.number.0 es)
in_logs es first zero log h = absurd h
in_logs es first (suc more) log h = by_kept (of_alloc first es) refl (in_logs es (suc first) more log) h
  where
    by_kept : (own : List Entry) → of_alloc first es ≡ own
        → (Has (logs_from es (suc first) more) log → (suc first ≤ log.number.0) × (log.number.0 < suc first + more) × (log.entries ≡ of_alloc log.number.0 es))
        → Has (kept_log (record { number = record { 0 = first }; entries = of_alloc first es }) own ++ logs_from es (suc first) more) log
        → (first ≤ log.number.0) × (log.number.0 < first + suc more) × (log.entries ≡ of_alloc log.number.0 es)
    by_kept [] is rest g = let r = rest g in let a = r.0 in let b = r.1 in (omega (arith, a), omega (arith, b), r.2)
    by_kept (e ∷ own) is rest (inl same) =
        let number : first ≡ log.number.0 = ap (λ (l : AllocLog). l.number.0) same in
        (omega (arith, number), omega (arith, number), ap (λ (l : AllocLog). l.entries) (sym same) ∙ ap (λ n. of_alloc n es) number)
    by_kept (e ∷ own) is rest (inr g) = let r = rest g in let a = r.0 in let b = r.1 in (omega (arith, a), omega (arith, b), r.2)

-- a number on which there is an entry has its log there
pub has_log : (es : List Entry) (first count n : ℕ) → first ≤ n → n < first + count → (of_alloc n es ≡ []) ⊎ Has (logs_from es first count) (alloc_log es n)
has_log es first zero n le less = absurd (omega (arith, le, less))
has_log es first (suc more) n le less = elim (eqb_tells first n) [
  | inl hit ↦ by_own (of_alloc n es) refl hit.1
  | inr miss ↦ (let other = miss.1 in elim (has_log es (suc first) more n (omega (arith, le, other)) (omega (arith, less))) [
    | inl none ↦ inl none
    | inr there ↦ inr (after (kept_log (alloc_log es first) (of_alloc first es)) there)
  ])
]
  where
    after : (ls : List AllocLog) → Has (logs_from es (suc first) more) (alloc_log es n) → Has (ls ++ logs_from es (suc first) more) (alloc_log es n)
    after [] h = h
    after (l ∷ ls) h = inr (after ls h)

    by_own : (own : List Entry) → of_alloc n es ≡ own → first ≡ n → (of_alloc n es ≡ []) ⊎ Has (logs_from es first (suc more)) (alloc_log es n)
    by_own [] is same = inl is
    by_own (e ∷ own) is same =
        let some : of_alloc n es ≢ [] = λ none. (let no : [] ≡ e ∷ own = sym none ∙ is in cc) in
        let kept = some_kept es n (of_alloc n es) some in
        inr (subst (λ k. Has (kept_log (alloc_log es k) (of_alloc k es) ++ logs_from es (suc first) more) (alloc_log es n)) (sym same)
        (subst (λ ls. Has (ls ++ logs_from es (suc first) more) (alloc_log es n)) (sym kept) (inl refl)))

-- a number that no entry names has no entry
unnamed : (bound n : ℕ) (es : List Entry) → ((e : Entry) → Has es e → IsSmall bound e.alloc) → bound ≤ n → of_alloc n es ≡ []
unnamed bound n [] small le = refl
unnamed bound n (e ∷ es) small le = by_alloc e.alloc refl (unnamed bound n es (λ x h. small x (inr h)) le)
  where
    by_alloc : (o : Option AllocNo) → e.alloc ≡ o → of_alloc n es ≡ [] → of_alloc n (e ∷ es) ≡ []
    by_alloc None is none = rw (ap (λ p. names p n) is) none
    by_alloc (Some a) is none =
        let less : a.0 < bound = subst (IsSmall bound) is (small e (inl refl)) in
        let other : names (Some a) n ≡ false = elim (eqb_tells a.0 n) [ inl hit ↦ (let same = hit.1 in absurd (omega (arith, same, less, le))) | inr miss ↦ miss.0 ] in
        rw (ap (λ p. names p n) is ∙ other) none

-- what is said of all their logs is said of all numbers
module _ (P : ℕ → List Entry → Type 0) (nothing : (n : ℕ) → P n []) (bound : ℕ) (es : List Entry) (small : (e : Entry) → Has es e → IsSmall bound e.alloc) where
  each_number : ((log : AllocLog) → Has (logs_from es 0 bound) log → P log.number.0 log.entries) → (n : ℕ) → P n (of_alloc n es)
  each_number h n = elim (at_most_tells bound n) [
    | inl far ↦ subst (P n) (sym (unnamed bound n es small far.1)) (nothing n)
    | inr near ↦ elim (has_log es 0 bound n (omega arith) (let less = near.1 in omega (arith, less))) [
      | inl none ↦ subst (P n) (sym none) (nothing n)
      | inr there ↦ h (alloc_log es n) there
    ]
  ]

  pub all_numbers : ((log : AllocLog) → Has (logs_from es 0 bound) log → P log.number.0 log.entries) ↔ ((n : ℕ) → P n (of_alloc n es))
  all_numbers = (each_number, λ h log there. (let r = in_logs es 0 bound log there in subst (P log.number.0) (sym r.2) (h log.number.0)))

-- the allocation logs of a record --------------------------------------------------------------

rise_lower : (n m limit : ℕ) (logs : List AllocLog) → n ≤ m → AllocsRiseFrom m limit logs → AllocsRiseFrom n limit logs
rise_lower n m limit [] le r = tt
rise_lower n m limit (l ∷ ls) le r = let above = r.0 in (omega (arith, above, le), r.1, r.2, r.3)

logs_rise : (es : List Entry) (limit n count : ℕ) → n + count ≤ limit → AllocsRiseFrom n limit (logs_from es (suc n) count)
logs_rise es limit n zero le = tt
logs_rise es limit n (suc more) le = by_own (of_alloc (suc n) es) refl (logs_rise es limit (suc n) more (omega (arith, le)))
  where
    by_own : (own : List Entry) → of_alloc (suc n) es ≡ own → AllocsRiseFrom (suc n) limit (logs_from es (suc (suc n)) more)
        → AllocsRiseFrom n limit (kept_log (record { number = record { 0 = suc n }; entries = of_alloc (suc n) es }) own ++ logs_from es (suc (suc n)) more)
    by_own [] is rest = rise_lower n (suc n) limit (logs_from es (suc (suc n)) more) (omega arith) rest
    by_own (e ∷ own) is rest = (omega arith, omega (arith, le), (λ none. (let no : [] ≡ e ∷ own = sym none ∙ is in cc)), rest)

history_here : (l : AllocLog) (ls : List AllocLog) (n : ℕ) → l.number.0 ≡ n → history_of (l ∷ ls) n ≡ l.entries
history_here l ls n same = rw (eq-eqb l.number.0 n same) refl

history_later : (l : AllocLog) (ls : List AllocLog) (n : ℕ) → l.number.0 ≢ n → history_of (l ∷ ls) n ≡ history_of ls n
history_later l ls n other = elim (eqb_tells l.number.0 n) [ inl hit ↦ absurd (other hit.1) | inr miss ↦ rw miss.0 refl ]

histories : (es : List Entry) (limit n count a : ℕ) → n + count ≤ limit → n < a → a ≤ n + count → history_of (logs_from es (suc n) count) a ≡ of_alloc a es
histories es limit n zero a le less most = absurd (omega (arith, less, most))
histories es limit n (suc more) a le less most = by_own (of_alloc (suc n) es) refl (λ above. histories es limit (suc n) more a (omega (arith, le)) above (omega (arith, most)))
  where
    by_own : (own : List Entry) → of_alloc (suc n) es ≡ own → (suc n < a → history_of (logs_from es (suc (suc n)) more) a ≡ of_alloc a es)
        → history_of (kept_log (record { number = record { 0 = suc n }; entries = of_alloc (suc n) es }) own ++ logs_from es (suc (suc n)) more) a ≡ of_alloc a es
    by_own [] is rest = elim (eqb_tells (suc n) a) [
      | inl hit ↦ (let same = hit.1 in history_outside (suc n) limit (logs_from es (suc (suc n)) more) a (logs_rise es limit (suc n) more (omega (arith, le))) (inl (omega (arith, same))) ∙ sym (ap (λ k. of_alloc k es) (sym same) ∙ is))
      | inr miss ↦ (let other = miss.1 in rest (omega (arith, less, other)))
    ]
    by_own (e ∷ own) is rest = elim (eqb_tells (suc n) a) [
      | inl hit ↦ history_here (record { number = record { 0 = suc n }; entries = of_alloc (suc n) es }) (logs_from es (suc (suc n)) more) a hit.1 ∙ ap (λ k. of_alloc k es) hit.1
      | inr miss ↦ (let other = miss.1 in
          history_later (record { number = record { 0 = suc n }; entries = of_alloc (suc n) es }) (logs_from es (suc (suc n)) more) a miss.1 ∙ rest (omega (arith, less, other)))
    ]

-- logs that rise and have these histories are these logs
are_logs : (es : List Entry) (limit n count : ℕ) (logs : List AllocLog) → n + count ≡ limit → AllocsRiseFrom n limit logs → ((a : ℕ) → n < a → a ≤ limit → history_of logs a ≡ of_alloc a es) → logs ≡ logs_from es (suc n) count
are_logs es limit n zero [] sum r h = refl
are_logs es limit n zero (l ∷ ls) sum r h = let low = r.0 in let high = r.1 in absurd (omega (arith, sum, low, high))
are_logs es limit n (suc more) [] sum r h =
    let none : of_alloc (suc n) es ≡ [] = sym (h (suc n) (omega arith) (omega (arith, sum))) in
    are_logs es limit (suc n) more [] (omega (arith, sum)) tt (λ a less le. h a (omega (arith, less)) le)
    ∙ ap (λ own. kept_log (record { number = record { 0 = suc n }; entries = own }) own ++ logs_from es (suc (suc n)) more) (sym none)
are_logs es limit n (suc more) (l ∷ ls) sum r h = elim (eqb_tells l.number.0 (suc n)) [
  | inl hit ↦
      let own : l.entries ≡ of_alloc (suc n) es = sym (history_here l ls (suc n) hit.1) ∙ h (suc n) (omega arith) (omega (arith, sum)) in
      let some : of_alloc (suc n) es ≢ [] = λ none. r.2 (own ∙ none) in
      let one : l ≡ alloc_log es (suc n) = (let two : (k : ℕ) (xs : List Entry) → AllocLog = λ k xs. record { number = record { 0 = k }; entries = xs } in ap (λ k. two k l.entries) hit.1 ∙ ap (two (suc n)) own) in
      let same = hit.1 in
      let rest = are_logs es limit (suc n) more ls (omega (arith, sum)) (subst (λ k. AllocsRiseFrom k limit ls) hit.1 r.3)
      (λ a less le. sym (history_later l ls a (λ is. (omega (arith, less, is, same)))) ∙ h a (omega (arith, less)) le) in
      ap (λ (z : AllocLog). z ∷ ls) one ∙ ap (λ zs. alloc_log es (suc n) ∷ zs) rest ∙ sym (ap (λ zs. zs ++ logs_from es (suc (suc n)) more) (some_kept es (suc n) (of_alloc (suc n) es) some))
  | inr miss ↦
      let low = r.0 in
      let other = miss.1 in
      let above : suc n < l.number.0 = omega (arith, low, other) in
      let later : AllocsRiseFrom (suc n) limit (l ∷ ls) = (above, r.1, r.2, r.3) in
      let none : of_alloc (suc n) es ≡ [] = sym (h (suc n) (omega arith) (omega (arith, sum))) ∙ history_outside (suc n) limit (l ∷ ls) (suc n) later (inl (omega arith)) in
      are_logs es limit (suc n) more (l ∷ ls) (omega (arith, sum)) later (λ a less le. h a (omega (arith, less)) le)
      ∙ ap (λ own. kept_log (record { number = record { 0 = suc n }; entries = own }) own ++ logs_from es (suc (suc n)) more) (sym none)
]

-- the allocation logs of a record whose merge is a run are right exactly where they are the merge's
pub histories_iff : (O : Memory) (limits : Limits) (logs : List ThreadLog) (allocs : List AllocLog) (es : List Entry) → IsPartwiseMerge logs es → ((a : ℕ) → Legal O (O.unmade a) (of_alloc a es))
    → (allocs ≡ logs_from es 1 limits.allocs) ↔ HasHistories O limits logs allocs
histories_iff O limits logs allocs es merge legal = (λ same. subst (HasHistories O limits logs) (sym same) made, told)
  where
    range : (a : ℕ) → ((0 < a) × (a ≤ limits.allocs)) ⊎ ((a ≤ 0) ⊎ (limits.allocs < a))
    range zero = inr (inl (omega arith))
    range (suc a) = elim (at_most_tells (suc a) limits.allocs) [ inl hit ↦ inl (omega arith, hit.1) | inr miss ↦ inr (inr miss.1) ]

    rise : AllocsRiseFrom 0 limits.allocs (logs_from es 1 limits.allocs)
    rise = logs_rise es limits.allocs 0 limits.allocs (omega arith)

    by_range : (P : List Entry → Type 0) → P [] → (a : ℕ) → P (of_alloc a es) → P (history_of (logs_from es 1 limits.allocs) a)
    by_range P nothing a h = elim (range a) [
      | inl in_ ↦ (let less = in_.0 in let most = in_.1 in subst P (sym (histories es limits.allocs 0 limits.allocs a (omega arith) less (omega (arith, most)))) h)
      | inr out ↦ subst P (sym (history_outside 0 limits.allocs (logs_from es 1 limits.allocs) a rise out)) nothing
    ]

    made : HasHistories O limits logs (logs_from es 1 limits.allocs)
    made = record {
      rise = rise;
      stamps = λ a. by_range (RisesFrom 0) tt a (alloc_rises a 0 es merge.rises);
      legal = λ a. by_range (Legal O (O.unmade a)) tt a (legal a);
      parts = λ a t above most. ap (of_thread t) (histories es limits.allocs 0 limits.allocs a (omega arith) above (omega (arith, most))) ∙ restrictions_swap t a es ∙ ap (of_alloc a) (merge.parts t);
    }

    told : HasHistories O limits logs allocs → allocs ≡ logs_from es 1 limits.allocs
    told h = are_logs es limits.allocs 0 limits.allocs allocs (omega arith) h.rise
        (λ a above most. sym (alloc_part logs es (history_of allocs a) a merge (h.stamps a) (λ t. h.parts a t above most)))
