-- The children that are not thread 0, and their first states.
use Rattle.std.proofs.Common.{◌≡◌, ◌≢◌, ◌↔◌, ℕ, zero, suc, ◌+◌, true, false, List, [], ◌∷◌, ◌++◌, refl, sym, ◌∙◌, ap, subst, inl, inr, arith, sum_by}
use Rattle.std.specs.Prelude.{◌==◌}
use Rattle.std.proofs.lemmas.Bool.Decides.{eqb_tells}
use Rattle.std.proofs.lemmas.List.Sums.{sum_by-cons, sum_by-append}
use Rattle.runs.specs.Parts.{Has}
use Rattle.runs.specs.Tree.{Agrees, Firsts, first_numbers}
use Rattle.runs.proofs.Weights.{equals, equals_other}
use Rattle.source_sem.specs.Source.{Setting, Source}
use Rattle.record_file.specs.declared.feed.Child.{Child}
use Rattle.record_file.specs.AsWritten.{AllBeginAs, BeginsAs}
use Rattle.record_file.specs.Feeding.{AreOf, IsOf, firsts, numbers}
use Rattle.record_file.specs.Reaching.{others}

-- two lists of first states
pub agrees_both : (starts : ℕ → Source) (ps qs : Firsts Source) → Agrees starts (ps ++ qs) ↔ (Agrees starts ps × Agrees starts qs)
agrees_both starts [] qs = (λ a. (tt, a), λ a. a.1)
agrees_both starts (p ∷ ps) qs =
    let more = agrees_both starts ps qs in
    (λ a. (let m = more.0 a.1 in ((a.0, m.0), m.1)), λ a. (a.0.0, more.1 (a.0.1, a.1)))

pub firsts_both : (bs cs : List Child) → firsts (bs ++ cs) ≡ firsts bs ++ firsts cs
firsts_both [] cs = refl
firsts_both (b ∷ bs) cs = ap (λ ps. (b.number.0, b.machine.thread) ∷ ps) (firsts_both bs cs)

pub numbers_of_both : (ps qs : Firsts Source) → first_numbers (ps ++ qs) ≡ first_numbers ps ++ first_numbers qs
numbers_of_both [] qs = refl
numbers_of_both (p ∷ ps) qs = ap (λ ns. p.0 ∷ ns) (numbers_of_both ps qs)

pub sum_both : (h : ℕ → ℕ) (ps qs : Firsts Source) → sum_by h (first_numbers (ps ++ qs)) ≡ sum_by h (first_numbers ps) + sum_by h (first_numbers qs)
sum_both h ps qs = ap (sum_by h) (numbers_of_both ps qs) ∙ sum_by-append h (first_numbers ps) (first_numbers qs)

pub sum_waiting : (h : ℕ → ℕ) (bs cs : List Child) → sum_by h (numbers (bs ++ cs)) ≡ sum_by h (numbers bs) + sum_by h (numbers cs)
sum_waiting h bs cs = ap (λ ps. sum_by h (first_numbers ps)) (firsts_both bs cs) ∙ sum_both h (firsts bs) (firsts cs)

pub of_both : (x : Setting) (bs cs : List Child) → AreOf x bs → AreOf x cs → AreOf x (bs ++ cs)
of_both x [] cs h g = g
of_both x (b ∷ bs) cs h g = (h.0, of_both x bs cs h.1 g)

pub of_parts : (x : Setting) (bs cs : List Child) → AreOf x (bs ++ cs) → AreOf x bs × AreOf x cs
of_parts x [] cs h = (tt, h)
of_parts x (b ∷ bs) cs h = let more = of_parts x bs cs h.1 in ((h.0, more.0), more.1)

pub of_one : (x : Setting) (cs : List Child) (c : Child) → AreOf x cs → Has cs c → IsOf x c
of_one x [] c h g = absurd g
of_one x (b ∷ bs) c h (inl same) = subst (IsOf x) same h.0
of_one x (b ∷ bs) c h (inr g) = of_one x bs c h.1 g

-- the children without thread 0 ---------------------------------------------------------

zero_left : (c : Child) (cs : List Child) → (c.number.0 == 0) ≡ true → others (c ∷ cs) ≡ others cs
zero_left c cs is = rw is refl

other_kept : (c : Child) (cs : List Child) → (c.number.0 == 0) ≡ false → others (c ∷ cs) ≡ c ∷ others cs
other_kept c cs is = rw is refl

pub of_others : (x : Setting) (cs : List Child) → AreOf x cs → AreOf x (others cs)
of_others x [] h = tt
of_others x (c ∷ cs) h = elim (eqb_tells c.number.0 0) [
  | inl hit ↦ subst (AreOf x) (sym (zero_left c cs hit.0)) (of_others x cs h.1)
  | inr miss ↦ subst (AreOf x) (sym (other_kept c cs miss.0)) (h.0, of_others x cs h.1)
]

-- a child that is not thread 0 begins as said
begins_other : (starts : ℕ → Source) (n : ℕ) (s : Source) → n ≢ 0 → BeginsAs starts n s → starts n ≡ s
begins_other starts zero s other h = absurd (other refl)
begins_other starts (suc n) s other h = h

begins_own : (starts : ℕ → Source) (n : ℕ) (s : Source) → starts n ≡ s → BeginsAs starts n s
begins_own starts zero s h = tt
begins_own starts (suc n) s h = h

-- children begin as said exactly where those that are not thread 0 do
pub agrees_others : (starts : ℕ → Source) (cs : List Child) → AllBeginAs starts (firsts cs) → Agrees starts (firsts (others cs))
agrees_others starts [] h = tt
agrees_others starts (c ∷ cs) h = elim (eqb_tells c.number.0 0) [
  | inl hit ↦ subst (λ ds. Agrees starts (firsts ds)) (sym (zero_left c cs hit.0)) (agrees_others starts cs h.1)
  | inr miss ↦ subst (λ ds. Agrees starts (firsts ds)) (sym (other_kept c cs miss.0)) (begins_other starts c.number.0 c.machine.thread miss.1 h.0, agrees_others starts cs h.1)
]

pub agrees_all : (starts : ℕ → Source) (cs : List Child) → Agrees starts (firsts (others cs)) → AllBeginAs starts (firsts cs)
agrees_all starts [] h = tt
agrees_all starts (c ∷ cs) h = elim (eqb_tells c.number.0 0) [
  | inl hit ↦ (subst (λ n. BeginsAs starts n c.machine.thread) (sym hit.1) tt, agrees_all starts cs (subst (λ ds. Agrees starts (firsts ds)) (zero_left c cs hit.0) h))
  | inr miss ↦
      let both : Agrees starts (firsts (c ∷ others cs)) = subst (λ ds. Agrees starts (firsts ds)) (other_kept c cs miss.0) h in
      (begins_own starts c.number.0 c.machine.thread both.0, agrees_all starts cs both.1)
]

pub sum_others : (h : ℕ → ℕ) → h 0 ≡ 0 → (cs : List Child) → sum_by h (numbers (others cs)) ≡ sum_by h (numbers cs)
sum_others h none [] = refl
sum_others h none (c ∷ cs) = elim (eqb_tells c.number.0 0) [
  | inl hit ↦
      let more = sum_others h none cs in
      let here : h c.number.0 ≡ h 0 = ap h hit.1 in
      let same = ap (λ ds. sum_by h (numbers ds)) (zero_left c cs hit.0) in
      omega (arith, more, here, none, same, sum_by-cons h c.number.0 (numbers cs))
  | inr miss ↦
      let more = sum_others h none cs in
      let same = ap (λ ds. sum_by h (numbers ds)) (other_kept c cs miss.0) in
      omega (arith, more, same, sum_by-cons h c.number.0 (numbers cs), sum_by-cons h c.number.0 (numbers (others cs)))
]

pub no_zero : (cs : List Child) → sum_by (equals 0) (numbers (others cs)) ≡ 0
no_zero [] = refl
no_zero (c ∷ cs) = elim (eqb_tells c.number.0 0) [
  | inl hit ↦ ap (λ ds. sum_by (equals 0) (numbers ds)) (zero_left c cs hit.0) ∙ no_zero cs
  | inr miss ↦
      let more = no_zero cs in
      let none = equals_other 0 c.number.0 miss.1 in
      let same = ap (λ ds. sum_by (equals 0) (numbers ds)) (other_kept c cs miss.0) in
      omega (arith, more, none, same, sum_by-cons (equals 0) c.number.0 (numbers (others cs)))
]
