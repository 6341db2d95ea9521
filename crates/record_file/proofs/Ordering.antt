-- Flags beyond the last, and entries that come in turn.
use Rattle.std.proofs.Common.{◌≡◌, ◌↔◌, ℕ, zero, suc, ◌+◌, ◌<◌, ◌≤◌, Bool, List, [], ◌∷◌, length, drop, refl, sym, ◌∙◌, ap, subst, arith, get_or}
use Rattle.std.specs.Prelude.{slice_set}
use Rattle.history.specs.declared.entry.Entry.{Entry}
use Rattle.runs.specs.Interleaving.{Allowed}
use Rattle.runs.specs.Parts.{child_of}
use Rattle.record_file.specs.Following.{ComesNext, ComeInTurn, joined_by, set_by}

pub set_beyond : (flags : List Bool) (n : ℕ) (b : Bool) → length flags ≤ n → slice_set flags n b ≡ flags
set_beyond [] n b le = refl
set_beyond (f ∷ fs) zero b le = absurd (omega (arith, le))
set_beyond (f ∷ fs) (suc n) b le = ap (λ gs. f ∷ gs) (set_beyond fs n b (omega (arith, le)))

-- what is left, where these come in turn before it
pub record TurnsTo (A : Allowed) (first none started joined : List Bool) (es rest : List Entry) : Type 0 where
  pub same : ComeInTurn A first none es ↔ ComeInTurn A started joined rest

pub turn_more : (A : Allowed) (first none started joined : List Bool) (es rest : List Entry) (e : Entry) (more : List Entry) (new_started new_joined : List Bool)
    → rest ≡ e ∷ more → new_started ≡ set_by started (child_of e) → new_joined ≡ set_by joined (joined_by e.request) → ComesNext A started joined e
    → TurnsTo A first none started joined es rest → TurnsTo A first none new_started new_joined es more
turn_more A first none started joined es rest e more new_started new_joined is one two next t =
    let at : ComeInTurn A first none es ↔ ComeInTurn A started joined (e ∷ more) = subst (λ l. ComeInTurn A first none es ↔ ComeInTurn A started joined l) is t.same in
    let later : ComeInTurn A first none es ↔ ComeInTurn A (set_by started (child_of e)) (set_by joined (joined_by e.request)) more = (λ h. (at.0 h).1, λ h. at.1 (next, h)) in
    record {
      same = subst (λ s. ComeInTurn A first none es ↔ ComeInTurn A s new_joined more) (sym one)
          (subst (λ j. ComeInTurn A first none es ↔ ComeInTurn A (set_by started (child_of e)) j more) (sym two) later);
    }

pub turn_stops : (A : Allowed) (first none started joined : List Bool) (es rest : List Entry) (e : Entry) (more : List Entry)
    → rest ≡ e ∷ more → (ComesNext A started joined e → ⊥) → TurnsTo A first none started joined es rest → ComeInTurn A first none es → ⊥
turn_stops A first none started joined es rest e more is wrong t h =
    let here : ComeInTurn A started joined (e ∷ more) = subst (λ l. ComeInTurn A started joined l) is (t.same.0 h) in wrong here.0

drop_end : (xs : List Entry) (k : ℕ) → length xs ≤ k → drop k xs ≡ []
drop_end [] zero le = refl
drop_end [] (suc k) le = refl
drop_end (x ∷ xs) zero le = absurd (omega (arith, le))
drop_end (x ∷ xs) (suc k) le = drop_end xs k (omega (arith, le))

pub turned_all : (A : Allowed) (first none started joined : List Bool) (es : List Entry) (k : ℕ) → length es ≤ k → TurnsTo A first none started joined es (drop k es) → ComeInTurn A first none es
turned_all A first none started joined es k le t =
    t.same.1 (subst (λ l. ComeInTurn A started joined l) (sym (drop_end es k le)) tt)

pub drop_item : (xs : List Entry) (k : ℕ) (x : Entry) → k < length xs → x ≡ get_or xs k x → drop k xs ≡ x ∷ drop (k + 1) xs
drop_item [] k x less is = absurd (omega (arith, less))
drop_item (y ∷ ys) zero x less is = ap (λ z. z ∷ ys) (sym is)
drop_item (y ∷ ys) (suc k) x less is =
    let e : suc (k + 1) ≡ suc k + 1 = omega arith in
    drop_item ys k x (omega (arith, less)) is ∙ ap (λ n. x ∷ drop n (y ∷ ys)) e

pub turn_first : (A : Allowed) (first none started joined : List Bool) (es : List Entry) → started ≡ first → joined ≡ none → TurnsTo A first none started joined es es
turn_first A first none started joined es one two = record {
  same = subst (λ s. ComeInTurn A first none es ↔ ComeInTurn A s joined es) (sym one)
      (subst (λ j. ComeInTurn A first none es ↔ ComeInTurn A first j es) (sym two) ((λ h. h), λ h. h));
}
