-- Entries of a history: their greatest stamp, and those that name one number.
use Rattle.std.proofs.Common.{◌≡◌, ℕ, ◌<◌, ◌≤◌, ◌≢◌, ◌⊎◌, Bool, true, false, cond, eqb, max, List, [], ◌∷◌, ◌++◌, All, refl, sym, ap, ◌∙◌, inl, inr, ⊎_elim, arith}
use Rattle.std.proofs.lemmas.Bool.Decides.{eqb_tells}
use Rattle.std.proofs.lemmas.List.Elements.{All-cons, All-nil}
use Rattle.std.proofs.lemmas.List.Quantifiers.{all_pairs_push}
use Rattle.history.specs.declared.entry.Entry.{Entry}
use Rattle.history.specs.Merge.{stamp_of}
use Rattle.history.specs.Histories.{is_make_step}
use Rattle.history.specs.Restriction.{number_of}
use Rattle.turn_lock.specs.Weights.{naming, makes, latest}
use Rattle.turn_lock.specs.Rule.{Rising}

pub latest_bounds : (es : List Entry) → All (λ e. stamp_of e ≤ latest es) es
latest_bounds [] = All-nil (λ (e : Entry). stamp_of e ≤ 0)
latest_bounds (e ∷ es) = All-cons (λ f. stamp_of f ≤ max (stamp_of e) (latest es)) e es (omega arith) (λ k d lt. let a = latest_bounds es k d lt in omega arith)

pub latest_push : (es : List Entry) (e : Entry) → latest (es ++ e ∷ []) ≡ max (latest es) (stamp_of e)
latest_push [] e = omega arith
latest_push (x ∷ xs) e = let a = latest_push xs e in omega arith

pub rising_push : (es : List Entry) (e : Entry) → Rising es → latest es < stamp_of e → Rising (es ++ e ∷ [])
rising_push es e r lt = all_pairs_push (λ (f : Entry) (g : Entry). stamp_of f < stamp_of g) es e r (λ k d l. let a = latest_bounds es k d l in omega arith)

pub naming_cases : (n : ℕ) (h : Entry → ℕ) (e : Entry) → ((number_of e.alloc ≡ n) × (naming n h e ≡ h e)) ⊎ ((number_of e.alloc ≢ n) × (naming n h e ≡ 0))
naming_cases n h e = ⊎_elim (λ t. inl (t.1, ap (λ b. cond b (h e) 0) t.0)) (λ t. inr (t.1, ap (λ b. cond b (h e) 0) t.0)) (eqb_tells (number_of e.alloc) n)

pub naming_le : (n : ℕ) (h : Entry → ℕ) (e : Entry) → naming n h e ≤ h e
naming_le n h e = ⊎_elim (λ t. let a = t.1 in omega arith) (λ t. let a = t.1 in omega arith) (naming_cases n h e)

pub naming_here : (n : ℕ) (h : Entry → ℕ) (e : Entry) → number_of e.alloc ≡ n → naming n h e ≡ h e
naming_here n h e named = ⊎_elim (λ t. t.1) (λ t. absurd (t.0 named)) (naming_cases n h e)

pub naming_else : (n m : ℕ) (h : Entry → ℕ) (e : Entry) → number_of e.alloc ≡ m → m ≢ n → naming n h e ≡ 0
naming_else n m h e named apart = ⊎_elim (λ t. absurd (apart (sym named ∙ t.0))) (λ t. t.1) (naming_cases n h e)

pub makes_else : (n m : ℕ) (e : Entry) → number_of e.alloc ≡ m → m ≢ n → makes n e ≡ 0
makes_else n m e named apart = ⊎_elim (λ t. absurd (apart (sym named ∙ t.1))) (λ t. split (is_make_step e) (eqb (number_of e.alloc) n) t.0) (eqb_tells (number_of e.alloc) n)
  where
    split : (a b : Bool) → b ≡ false → cond {A = ℕ} a (cond b 1 0) 0 ≡ 0
    split true b e = ap (λ c. cond c 1 0) e
    split false b e = refl

pub makes_le : (n : ℕ) (e : Entry) → makes n e ≤ 1
makes_le n e = split (is_make_step e) (eqb (number_of e.alloc) n)
  where
    split : (a b : Bool) → cond {A = ℕ} a (cond b 1 0) 0 ≤ 1
    split true true = omega arith
    split true false = omega arith
    split false b = omega arith

pub makes_none : (n : ℕ) (e : Entry) → is_make_step e ≡ false → makes n e ≡ 0
makes_none n e no_make = ap (λ b. cond b (cond (eqb (number_of e.alloc) n) 1 0) 0) no_make
