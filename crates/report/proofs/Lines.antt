-- A loop that appends a line for each item.
use Rattle.std.proofs.Common.{◌≡◌, ℕ, ◌+◌, ◌<◌, List, ◌++◌, length, get_or, drop, sym, ap, ◌∙◌, append_assoc}
use Rattle.std.specs.List.{flat_map}
use Rattle.std.proofs.lemmas.List.{drop_more}

pub lines_more : {A : Type 0} (f : A → List ℕ) (xs : List A) (i : ℕ) (x : A) (text piece new whole : List ℕ)
    → i < length xs → x ≡ get_or xs i x → text ++ flat_map f (drop i xs) ≡ whole → piece ≡ f x → new ≡ text ++ piece
    → new ++ flat_map f (drop (i + 1) xs) ≡ whole
lines_more {A} f xs i x text piece new whole lt at before is grown =
    let rest : List ℕ = flat_map f (drop (i + 1) xs) in
    let opened : flat_map f (drop i xs) ≡ f x ++ rest = ap (flat_map f) (drop_more xs i x lt) ∙ ap (λ (y : A). f y ++ rest) (sym at) in
    ap (λ (t : List ℕ). t ++ rest) (grown ∙ ap (λ (p : List ℕ). text ++ p) is)
    ∙ append_assoc text (f x) rest ∙ ap (λ (t : List ℕ). text ++ t) (sym opened) ∙ before
