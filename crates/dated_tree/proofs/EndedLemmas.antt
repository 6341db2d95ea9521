-- The date of a protector's end is seen at every node but its own and those below.
use Rattle.std.proofs.Common.{◌≡◌, ℕ, zero, suc, ◌<◌, ◌≤◌, Bool, true, false, ◌||◌, ◌==◌, cond, IsFalse, List, [], ◌∷◌, ◌++◌, ◌⊎◌, inl, inr, refl, ap, ◌∙◌, sym, arith, eqb}
use Rattle.std.proofs.lemmas.Bool.{cases_eq, ne_eqb}
use Rattle.perm_table.specs.declared.Kind.{Kind}
use Rattle.perm_table.specs.declared.Kind.TheVariants.{Read, Write}
use Rattle.dated_tree.specs.declared.node.Dates.{Dates}
use Rattle.dated_tree.specs.Shape.{Shape, node_at, slot_at}
use Rattle.dated_tree.specs.Dates.{last, is_noted, seen_date, seen_below, seen_within, seen, dated}
use Rattle.dated_tree.specs.Ended.{IsTestOf, IsEndedAt}
use Rattle.dated_tree.proofs.SeenLemmas.{seen_below-dated}

pub is_noted-add : (ends : List ℕ) (date d : ℕ) → is_noted (ends ++ date ∷ []) d ≡ (is_noted ends d || eqb date d)
is_noted-add [] date d = grind arith
is_noted-add (end ∷ ends) date d = let rest = is_noted-add ends date d in grind arith

same-date : (date : ℕ) → eqb date date ≡ true
same-date date = grind arith

kept-date : (ends : List ℕ) (met date d : ℕ) (b : Bool) → is_noted ends d ≡ b → (e : Bool) → eqb date d ≡ e → seen_date (ends ++ date ∷ []) (seen_date ends met d) d ≡ seen_date ends met d
kept-date ends met date d true h e he = rw (is_noted-add ends date d, h) refl
kept-date ends met date d false h true he = rw (is_noted-add ends date d, h, he) refl
kept-date ends met date d false h false he = rw (is_noted-add ends date d, h, he) refl

new-date : (ends : List ℕ) (kept date : ℕ) (b : Bool) → is_noted ends date ≡ b → seen_date (ends ++ date ∷ []) kept date ≡ kept
new-date ends kept date true h = rw (is_noted-add ends date date, h) refl
new-date ends kept date false h = rw (is_noted-add ends date date, h, same-date date) refl

noted-here : (ends : List ℕ) (met above : Dates) (kind : Kind) (date : ℕ) → seen_below (ends ++ date ∷ []) (seen_below ends met above) (dated kind date above) ≡ seen_below ends met above
noted-here ends met above Write date =
    let a = new-date ends (seen_date ends met.access above.access) date (is_noted ends date) refl in
    let w = new-date ends (seen_date ends met.write above.write) date (is_noted ends date) refl in
    cc
noted-here ends met above Read date =
    let a = new-date ends (seen_date ends met.access above.access) date (is_noted ends date) refl in
    let w = kept-date ends met.write date above.write (is_noted ends above.write) refl (eqb date above.write) refl in
    cc

-- as many steps to a parent as the place says are enough
root-sees : (n : ℕ) (t : Shape) (b : ℕ) → seen_within n t 0 b ≡ last t b
root-sees zero t b = refl
root-sees (suc n) t b = refl

steps : (m n place b : ℕ) (t : Shape) → ((p : ℕ) → 1 ≤ p → (node_at t.nodes p).parent < p) → place ≤ m → place ≤ n → seen_within m t place b ≡ seen_within n t place b
steps zero n place b t h lm ln =
    let e : place ≡ 0 = omega arith in rw e (sym (root-sees n t b))
steps (suc m) zero place b t h lm ln =
    let e : place ≡ 0 = omega arith in rw e (root-sees (suc m) t b)
steps (suc m) (suc n) place b t h lm ln =
    elim (cases_eq place 0) [
      | inl e ↦ rw e refl
      | inr ne ↦
          let lt = h place (omega (arith, ne)) in
          ap (λ d. cond (place == 0) (last t b) (seen_below (node_at t.nodes place).ends (slot_at t.nodes place b).met d)) (steps m n (node_at t.nodes place).parent b t h (omega (arith, lt)) (omega (arith, lt)))
    ]

up-within : (n place b : ℕ) (t : Shape) → ((p : ℕ) → 1 ≤ p → (node_at t.nodes p).parent < p) → 1 ≤ place → place ≤ n → seen_within n t place b ≡ seen_below (node_at t.nodes place).ends (slot_at t.nodes place b).met (seen t (node_at t.nodes place).parent b)
up-within zero place b t h some le = absurd (omega arith)
up-within (suc n) place b t h some le =
    let lt = h place some in
    let ne : eqb place 0 ≡ false = ne_eqb place 0 (λ e. omega arith) in
    rw ne (ap (λ d. seen_below (node_at t.nodes place).ends (slot_at t.nodes place b).met d) (steps n (node_at t.nodes place).parent (node_at t.nodes place).parent b t h (omega (arith, lt)) (omega arith)))

-- what a node sees, by what its parent sees
pub seen-up : (place b : ℕ) (t : Shape) → ((p : ℕ) → 1 ≤ p → (node_at t.nodes p).parent < p) → 1 ≤ place → seen t place b ≡ seen_below (node_at t.nodes place).ends (slot_at t.nodes place b).met (seen t (node_at t.nodes place).parent b)
seen-up place b t h some = up-within place place b t h some (omega arith)

-- a node but x
other : (is_in : Bool) (ends ends' : List ℕ) (met met' above above' : Dates) (kind : Kind) (date : ℕ) → ends' ≡ ends → IsFalse (is_noted ends date) → (is_in ≡ true → met' ≡ met) → (is_in ≡ false → (kind ≡ Write) ⊎ ((ends ≡ []) ⊎ (met'.write ≡ met.write))) →
    above' ≡ cond is_in above (dated kind date above) → seen_below ends' met' above' ≡ cond is_in (seen_below ends met above) (dated kind date (seen_below ends met above))
other true ends ends' met met' above above' kind date e h same w a = rw (e, a, same refl) refl
other false ends ends' met met' above above' kind date e h same w a = rw (e, a) (seen_below-dated ends met met' above kind date h (w refl))

at-x : (b : ℕ) (kind : Kind) (date x : ℕ) (is_in : ℕ → Bool) (t u : Shape) → IsTestOf x t.nodes is_in → IsEndedAt b kind date x is_in t u → seen u x b ≡ seen_below (node_at u.nodes x).ends (slot_at u.nodes x b).met (seen u (node_at t.nodes x).parent b) → seen t x b ≡ seen_below (node_at t.nodes x).ends (slot_at t.nodes x b).met (seen t (node_at t.nodes x).parent b) →
    seen u (node_at t.nodes x).parent b ≡ dated kind date (seen t (node_at t.nodes x).parent b) → seen u x b ≡ seen t x b
at-x b kind date x is_in t u test s up was above =
    let kept : (slot_at u.nodes x b).met ≡ seen_below (node_at t.nodes x).ends (slot_at t.nodes x b).met (seen t (node_at t.nodes x).parent b) = s.kept ∙ was in
    up ∙ ap (λ e. seen_below e (slot_at u.nodes x b).met (seen u (node_at t.nodes x).parent b)) s.noted
    ∙ ap (λ m. seen_below ((node_at t.nodes x).ends ++ date ∷ []) m (seen u (node_at t.nodes x).parent b)) kept
    ∙ ap (λ d. seen_below ((node_at t.nodes x).ends ++ date ∷ []) (seen_below (node_at t.nodes x).ends (slot_at t.nodes x b).met (seen t (node_at t.nodes x).parent b)) d) above
    ∙ noted-here (node_at t.nodes x).ends (slot_at t.nodes x b).met (seen t (node_at t.nodes x).parent b) kind date
    ∙ sym was

ended-within : (n b : ℕ) (kind : Kind) (date x : ℕ) (is_in : ℕ → Bool) (t u : Shape) → IsTestOf x t.nodes is_in → IsEndedAt b kind date x is_in t u → (place : ℕ) → place ≤ n → seen u place b ≡ cond (is_in place) (seen t place b) (dated kind date (seen t place b))
ended-within zero b kind date x is_in t u test s place le =
    let e : place ≡ 0 = omega arith in rw (e, test.root) s.last
ended-within (suc n) b kind date x is_in t u test s place le =
    elim (cases_eq place 0) [
      | inl e ↦ rw (e, test.root) s.last
      | inr ne ↦
          let some : 1 ≤ place = omega (arith, ne) in
          let lt = s.before place some in
          let before : (p : ℕ) → 1 ≤ p → (node_at u.nodes p).parent < p = λ p q. omega (arith, s.parents p, s.before p q) in
          let ih = ended-within n b kind date x is_in t u test s (node_at t.nodes place).parent (omega (arith, lt)) in
          let up : seen u place b ≡ seen_below (node_at u.nodes place).ends (slot_at u.nodes place b).met (seen u (node_at t.nodes place).parent b) =
          seen-up place b u before some ∙ ap (λ p. seen_below (node_at u.nodes place).ends (slot_at u.nodes place b).met (seen u p b)) (s.parents place) in
          let was = seen-up place b t s.before some in
          elim (cases_eq place x) [
            | inl here ↦
                let ltx = s.before x s.some in
                let ihx = ended-within n b kind date x is_in t u test s (node_at t.nodes x).parent (omega (arith, ltx, here)) in
                let upx : seen u x b ≡ seen_below (node_at u.nodes x).ends (slot_at u.nodes x b).met (seen u (node_at t.nodes x).parent b) =
                seen-up x b u before s.some ∙ ap (λ p. seen_below (node_at u.nodes x).ends (slot_at u.nodes x b).met (seen u p b)) (s.parents x) in
                rw (here, test.here) (at-x b kind date x is_in t u test s upx (seen-up x b t s.before s.some) (rw test.above at ihx))
            | inr off ↦
                up
                ∙ other (is_in place) (node_at t.nodes place).ends (node_at u.nodes place).ends (slot_at t.nodes place b).met (slot_at u.nodes place b).met (seen t (node_at t.nodes place).parent b) (seen u (node_at t.nodes place).parent b) kind date (s.ends place some off) (s.fresh place) (s.below place off) (s.writes place some) (rw (test.others place some off) ih)
                ∙ ap (λ d. cond (is_in place) d (dated kind date d)) (sym was)
          ]
    ]

pub seen-ended : (b : ℕ) (kind : Kind) (date x : ℕ) (is_in : ℕ → Bool) (t u : Shape) → IsTestOf x t.nodes is_in → IsEndedAt b kind date x is_in t u → (place : ℕ) → seen u place b ≡ cond (is_in place) (seen t place b) (dated kind date (seen t place b))
seen-ended b kind date x is_in t u test s place = ended-within place b kind date x is_in t u test s place (omega arith)
