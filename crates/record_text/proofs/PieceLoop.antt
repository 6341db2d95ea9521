-- The bytes of a piece, read one after the other.
use Rattle.std.proofs.Common.{◌≡◌, ℕ, suc, ◌<◌, ◌≤◌, Bool, true, false, cond, List, [], ◌∷◌, ◌++◌, length, Option, Some, None, refl, sym, ap, ◌∙◌, append_assoc, append-nil, length-append, arith}
use Rattle.std.specs.Prelude.{nat_le}
use Rattle.std.specs.Borrow.{Bor}
use Rattle.std.proofs.lemmas.Bool.{leb-true, le-leb}
use Rattle.history.specs.Pieces.{Byte}
use Rattle.record_text.specs.Reading.{Words, ◌>>=◌}
use Rattle.record_text.specs.Parts.{byte_in, bytes_in, few}

-- how much of a text is left
abbrev pub length_left : Option (Bor (List ℕ)) → ℕ
length_left None = 0
length_left (Some text) = suc (length text.now)

-- what was read before, and what is still read
abbrev pub onto : List Byte → Option (List Byte) → Option (List Byte)
onto front read = read >>= λ bs. Some (front ++ bs)

onto_more : (front : List Byte) (b : Byte) (read : Option (List Byte)) → onto front (read >>= λ bs. Some (b ∷ bs)) ≡ onto (front ++ b ∷ []) read
onto_more front b None = refl
onto_more front b (Some bs) = ap (λ (xs : List Byte). Some xs) (sym (append_assoc front (b ∷ []) bs))

pub byte_more : (front : List Byte) (w : List ℕ) (ws : Words) (b : Byte) (words : Words) (all : Option (List Byte)) → words ≡ w ∷ ws → byte_in w ≡ Some b → onto front (bytes_in words) ≡ all → onto (front ++ b ∷ []) (bytes_in ws) ≡ all
unfolding bytes_in
byte_more front w ws b words all is found h =
    sym (onto_more front b (bytes_in ws)) ∙ ap (λ (o : Option Byte). onto front (o >>= λ x. bytes_in ws >>= λ xs. Some (x ∷ xs))) (sym found) ∙ ap (λ (vs : Words). onto front (bytes_in vs)) (sym is) ∙ h

pub byte_bad : (front : List Byte) (w : List ℕ) (ws words : Words) (all : Option (List Byte)) → words ≡ w ∷ ws → byte_in w ≡ None → onto front (bytes_in words) ≡ all → (all >>= few) ≡ None
unfolding bytes_in
byte_bad front w ws words all is none h =
    ap (λ (o : Option (List Byte)). o >>= few) (sym h ∙ ap (λ (vs : Words). onto front (bytes_in vs)) is ∙ ap (λ (o : Option Byte). onto front (o >>= λ x. bytes_in ws >>= λ xs. Some (x ∷ xs))) none)

many : (bs : List Byte) → 32 < length bs → few bs ≡ None
many bs h = by_test (nat_le (length bs) 32) refl
  where
    by_test : (t : Bool) → nat_le (length bs) 32 ≡ t → cond t (Some bs) None ≡ None
    by_test true e = let k = leb-true (length bs) 32 e in absurd (omega (arith, k, h))
    by_test false e = refl

onto_many : (front : List Byte) (read : Option (List Byte)) → 32 < length front → (onto front read >>= few) ≡ None
onto_many front None h = refl
onto_many front (Some bs) h = many (front ++ bs) (omega (arith, length-append front bs))

-- a byte more than a piece can have
pub byte_too_many : (front : List Byte) (w : List ℕ) (ws : Words) (b : Byte) (words : Words) (all : Option (List Byte)) → words ≡ w ∷ ws → byte_in w ≡ Some b → length front ≡ 32 → onto front (bytes_in words) ≡ all → (all >>= few) ≡ None
byte_too_many front w ws b words all is found full h =
    ap (λ (o : Option (List Byte)). o >>= few) (sym (byte_more front w ws b words all is found h))
    ∙ onto_many (front ++ b ∷ []) (bytes_in ws) (omega (arith, full, length-append front (b ∷ [])))

pub bytes_done : (front : List Byte) (all : Option (List Byte)) → length front ≤ 32 → onto front (bytes_in []) ≡ all → (all >>= few) ≡ Some front
unfolding bytes_in
bytes_done front all h e =
    ap (λ (o : Option (List Byte)). o >>= few) (sym e ∙ ap (λ (bs : List Byte). Some bs) (append-nil front)) ∙ ap (λ (t : Bool). cond t (Some front) None) (le-leb (length front) 32 h)

pub no_some : {A : Type 0} (o : Option A) → ((x : A) → o ≡ Some x → ⊥) → o ≡ None
no_some None h = refl
no_some (Some x) h = absurd (h x refl)
