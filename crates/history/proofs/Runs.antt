-- Runs that grow by a fragment.
use Rattle.std.proofs.Common.{◌≡◌, ℕ, zero, suc, ◌+◌, Option, Some, None, List, [], ◌∷◌, ◌++◌, length, replicate, refl, ap, ◌∙◌, sym, arith, add-zero, append_assoc}
use Rattle.std.proofs.lemmas.List.{append-nil}
use Rattle.std.specs.List.{zip}
use Rattle.bsan_ids.specs.declared.numbers.Prov.{Prov}
use Rattle.bsan_ids.specs.declared.numbers.Frag.{Frag}
use Rattle.history.specs.declared.piece.Run.{Run}
use Rattle.history.specs.Pieces.{fragments_from, run_of, fragments_of}

pub fragments_from-more : (prov : Prov) (index n : ℕ) → fragments_from prov index (n + 1) ≡ fragments_from prov index n ++ Some (record { prov = prov; index = index + n }) ∷ []
fragments_from-more prov index zero = rw add-zero refl
fragments_from-more prov index (suc n) =
    let less : suc n + 1 ≡ suc (n + 1) = omega arith in
    let place : index + suc n ≡ index + 1 + n = omega arith in
    rw (less, place) (ap (λ rest. Some (record { prov = prov; index = index }) ∷ rest) (fragments_from-more prov (index + 1) n))

pub replicate-more : {A : Type 0} (n : ℕ) (x : A) → replicate (n + 1) x ≡ replicate n x ++ x ∷ []
replicate-more zero x = refl
replicate-more (suc n) x =
    let less : suc n + 1 ≡ suc (n + 1) = omega arith in
    rw less (ap (λ rest. x ∷ rest) (replicate-more n x))

pub fragments_of-push : (runs : List Run) (run : Run) → fragments_of (runs ++ run ∷ []) ≡ fragments_of runs ++ run_of run.len run.first
fragments_of-push [] run = append-nil (run_of run.len run.first)
fragments_of-push (first ∷ runs) run = rw (fragments_of-push runs run) (sym (append_assoc (run_of first.len first.first) (fragments_of runs) (run_of run.len run.first)))

pub zip-push : {A B : Type 0} (xs : List A) (ys : List B) (a : A) (b : B) → length xs ≡ length ys → zip (xs ++ a ∷ []) (ys ++ b ∷ []) ≡ zip xs ys ++ (a, b) ∷ []
zip-push [] [] a b e = refl
zip-push [] (y ∷ ys) a b e = absurd (omega arith)
zip-push (x ∷ xs) [] a b e = absurd (omega arith)
zip-push (x ∷ xs) (y ∷ ys) a b e = ap (λ rest. (x, y) ∷ rest) (zip-push xs ys a b (omega arith))

pub length-zip : {A B : Type 0} (xs : List A) (ys : List B) → length xs ≡ length ys → length (zip xs ys) ≡ length xs
length-zip [] ys e = refl
length-zip (x ∷ xs) [] e = absurd (omega arith)
length-zip (x ∷ xs) (y ∷ ys) e = omega (arith, length-zip xs ys (omega arith))

-- a run with its next fragment
pub run_of-next : (len : ℕ) (first next : Frag) → next.prov.alloc.0 ≡ first.prov.alloc.0 → next.prov.tag.0 ≡ first.prov.tag.0 → next.index ≡ first.index + len → run_of (len + 1) (Some first) ≡ run_of len (Some first) ++ Some next ∷ []
run_of-next len first next alloc tag place =
    fragments_from-more first.prov first.index len ∙ ap (λ (f : Frag). fragments_from first.prov first.index len ++ Some f ∷ []) (let e : ◌≡◌ {A = Frag} (record { prov = first.prov; index = first.index + len }) next = rw (sym alloc, sym tag, sym place) refl in e)

pub run_of-none : (len : ℕ) → run_of (len + 1) None ≡ run_of len None ++ None ∷ []
run_of-none len = replicate-more {A = Option Frag} len None

-- the runs with the last one longer, and with a new one
pub longer : (before rest after : List Run) (last : Run) (frag : Option Frag) → before ≡ rest ++ last ∷ [] → run_of (last.len + 1) last.first ≡ run_of last.len last.first ++ frag ∷ [] → after ≡ rest ++ record last { len = last.len + 1 } ∷ [] → fragments_of after ≡ fragments_of before ++ frag ∷ []
longer before rest after last frag was more now =
    ap fragments_of now ∙ fragments_of-push rest (record last { len = last.len + 1 }) ∙ ap (λ (fs : List (Option Frag)). fragments_of rest ++ fs) more
    ∙ sym (append_assoc (fragments_of rest) (run_of last.len last.first) (frag ∷ []))
    ∙ ap (λ (fs : List (Option Frag)). fs ++ frag ∷ []) (sym (ap fragments_of was ∙ fragments_of-push rest last))

pub another : (before after : List Run) (frag : Option Frag) → after ≡ before ++ record { len = 1; first = frag } ∷ [] → fragments_of after ≡ fragments_of before ++ frag ∷ []
another before after frag now = ap fragments_of now ∙ fragments_of-push before (record { len = 1; first = frag }) ∙ ap (λ (fs : List (Option Frag)). fragments_of before ++ fs) (one frag) where
  one : (frag : Option Frag) → run_of 1 frag ≡ frag ∷ []
  one None = refl
  one (Some f) = refl
