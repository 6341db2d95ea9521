-- Texts that are joined by a byte and cut at it.
use Rattle.std.proofs.Common.{◌≡◌, ℕ, ◌==◌, ◌&&◌, Bool, true, false, not, List, [], ◌∷◌, ◌++◌, Some, refl, sym, ap, ◌∙◌, rules}
use borrow.Author.Tests.{tests}
use Rattle.std.specs.List.{list_all, slice_split, join_with_byte, AllByRecursion}
use Rattle.std.proofs.lemmas.List.Elements.{All-from_recursion}
use Rattle.std.proofs.lemmas.List.Splits.{slice_split_none, slice_split_at, join_with_byte-slice_split}
use Rattle.std.proofs.lemmas.Option.{same_Some}
use Rattle.record_text.specs.Reading.{Words, other_than, two_of, three_of}

-- the byte isn't in the text
abbrev pub Lacks : ℕ → List ℕ → Type 0
Lacks c w = list_all (other_than c) w ≡ true

abbrev pub AllLack : ℕ → Words → Type 0
AllLack c [] = Unit {0}
AllLack c (w ∷ ws) = Lacks c w × AllLack c ws

and_both : (a b : Bool) → (a && b) ≡ true → (a ≡ true) × (b ≡ true)
and_both true b h = (refl, h)
and_both false b h = absurd cc

not_true : (b : Bool) → not b ≡ true → b ≡ false
not_true true h = absurd cc
not_true false h = refl

pub lacks_each : (c : ℕ) (w : List ℕ) → Lacks c w → AllByRecursion (λ b. (b == c) ≡ false) w
lacks_each c [] h = tt
lacks_each c (b ∷ bs) h = let p = and_both (other_than c b) (list_all (other_than c) bs) h in (not_true (b == c) p.0, lacks_each c bs p.1)

self_same : (c : ℕ) → (c == c) ≡ true
self_same c = search (rules, tests)

pub split_join : (c : ℕ) (w : List ℕ) (ws : Words) → Lacks c w → AllLack c ws → slice_split (λ b. b == c) (join_with_byte c (w ∷ ws)) ≡ w ∷ ws
split_join c w [] h k = slice_split_none (λ b. b == c) w (All-from_recursion (λ b. (b == c) ≡ false) w (lacks_each c w h))
split_join c w (v ∷ vs) h k =
    slice_split_at (λ b. b == c) w c (join_with_byte c (v ∷ vs)) (All-from_recursion (λ b. (b == c) ≡ false) w (lacks_each c w h)) (self_same c)
    ∙ ap (λ (us : Words). w ∷ us) (split_join c v vs k.0 k.1)

pub split_is : (c : ℕ) (w : List ℕ) (ws : Words) → slice_split (λ b. b == c) w ≡ ws → w ≡ join_with_byte c ws
split_is c w ws e = sym (join_with_byte-slice_split c w) ∙ ap (join_with_byte c) e

-- ---- tests of all bytes of joined texts

pub all_append : (p : ℕ → Bool) (v w : List ℕ) → list_all p v ≡ true → list_all p w ≡ true → list_all p (v ++ w) ≡ true
all_append p [] w h k = k
all_append p (b ∷ bs) w h k = let t = and_both (p b) (list_all p bs) h in rw t.0 (all_append p bs w t.1 k)

abbrev pub AllPassing : (ℕ → Bool) → Words → Type 0
AllPassing p [] = Unit {0}
AllPassing p (w ∷ ws) = (list_all p w ≡ true) × AllPassing p ws

pub all_join : (p : ℕ → Bool) (c : ℕ) (ws : Words) → p c ≡ true → AllPassing p ws → list_all p (join_with_byte c ws) ≡ true
all_join p c [] e h = refl
all_join p c (w ∷ []) e h = h.0
all_join p c (w ∷ v ∷ ws) e h = all_append p w (c ∷ join_with_byte c (v ∷ ws)) h.0 (rw e (all_join p c (v ∷ ws) e h.1))

-- ---- two and three parts

pub two_takes : (ws : Words) (x : List ℕ × List ℕ) → two_of ws ≡ Some x → ws ≡ x.0 ∷ x.1 ∷ []
two_takes [] x e = absurd cc
two_takes (a ∷ []) x e = absurd cc
two_takes (a ∷ b ∷ []) x e = let p = same_Some (a, b) x e in ap (λ (y : List ℕ × List ℕ). y.0 ∷ y.1 ∷ []) p
two_takes (a ∷ b ∷ c ∷ ws) x e = absurd cc

pub three_takes : (ws : Words) (x : List ℕ × (List ℕ × List ℕ)) → three_of ws ≡ Some x → ws ≡ x.0 ∷ x.1.0 ∷ x.1.1 ∷ []
three_takes [] x e = absurd cc
three_takes (a ∷ []) x e = absurd cc
three_takes (a ∷ b ∷ []) x e = absurd cc
three_takes (a ∷ b ∷ c ∷ []) x e = let p = same_Some (a, (b, c)) x e in ap (λ (y : List ℕ × (List ℕ × List ℕ)). y.0 ∷ y.1.0 ∷ y.1.1 ∷ []) p
three_takes (a ∷ b ∷ c ∷ d ∷ ws) x e = absurd cc
