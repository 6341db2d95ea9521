-- The last change is one.
use Rattle.std.proofs.Common.{◌≡◌, ◌⊎◌, ℕ, suc, List, [], ◌∷◌, ◌++◌, length, take, refl, sym, ap, ◌∙◌, inl, inr}
use Rattle.bsan_ids.specs.declared.numbers.Tag.{Tag}
use Rattle.history.specs.declared.entry.Entry.{Entry}
use Rattle.explain.specs.Explanations.{IsChanger, perm_after}

-- two entries that stand at two places, before each what stands before it

data Compared (a : List Entry) (e : Entry) (later : List Entry) (b : List Entry) (f : Entry) : Type 0 where
  same : a ≡ b → e ≡ f → Compared a e later b f
  earlier : (n : ℕ) → b ≡ a ++ e ∷ take n later → b ++ f ∷ [] ≡ a ++ e ∷ take (suc n) later → Compared a e later b f

head_same : {x y : Entry} {xs ys : List Entry} → x ∷ xs ≡ y ∷ ys → x ≡ y
head_same h = cc

tail_same : {x y : Entry} {xs ys : List Entry} → x ∷ xs ≡ y ∷ ys → xs ≡ ys
tail_same h = cc

-- the entries before a place of a list, and that one
prefix : (later b : List Entry) (f : Entry) (rest : List Entry) → later ≡ b ++ f ∷ rest → (b ≡ take (length b) later) × (b ++ f ∷ [] ≡ take (suc (length b)) later)
prefix later [] f rest is = (refl, sym (ap (λ (es : List Entry). take 1 es) is))
prefix [] (x ∷ b) f rest is = absurd (cc)
prefix (y ∷ later) (x ∷ b) f rest is =
    let h = prefix later b f rest (tail_same is) in
    let one : x ≡ y = sym (head_same is) in (
      ap (λ (z : Entry). z ∷ b) one ∙ ap (λ (es : List Entry). y ∷ es) h.0,
      ap (λ (z : Entry). z ∷ (b ++ f ∷ [])) one ∙ ap (λ (es : List Entry). y ∷ es) h.1,
    )

lifted : (x y : Entry) (a b later : List Entry) (e f : Entry) → x ≡ y → Compared a e later b f → Compared (x ∷ a) e later (y ∷ b) f
lifted x y a b later e f one (same p q) = same (ap (λ (z : Entry). z ∷ a) one ∙ ap (λ (es : List Entry). y ∷ es) p) q
lifted x y a b later e f one (earlier n p q) = earlier n
    (ap (λ (z : Entry). z ∷ b) (sym one) ∙ ap (λ (es : List Entry). x ∷ es) p)
    (ap (λ (z : Entry). z ∷ (b ++ f ∷ [])) (sym one) ∙ ap (λ (es : List Entry). x ∷ es) q)

both : (x y : Entry) (a b : List Entry) (e f : Entry) (later rest : List Entry) → x ≡ y → Compared a e later b f ⊎ Compared b f rest a e → Compared (x ∷ a) e later (y ∷ b) f ⊎ Compared (y ∷ b) f rest (x ∷ a) e
both x y a b e f later rest one (inl h) = inl (lifted x y a b later e f one h)
both x y a b e f later rest one (inr h) = inr (lifted y x b a rest f e (sym one) h)

compare : (a : List Entry) (e : Entry) (later : List Entry) (b : List Entry) (f : Entry) (rest : List Entry) → a ++ e ∷ later ≡ b ++ f ∷ rest → Compared a e later b f ⊎ Compared b f rest a e
compare [] e later [] f rest is = inl (same refl (head_same is))
compare [] e later (x ∷ b) f rest is =
    let h = prefix later b f rest (tail_same is) in
    let one : x ≡ e = sym (head_same is) in
    inl (earlier (length b)
    (ap (λ (z : Entry). z ∷ b) one ∙ ap (λ (es : List Entry). e ∷ es) h.0)
    (ap (λ (z : Entry). z ∷ (b ++ f ∷ [])) one ∙ ap (λ (es : List Entry). e ∷ es) h.1))
compare (x ∷ a) e later [] f rest is =
    let h = prefix rest a e later (sym (tail_same is)) in
    let one : x ≡ f = head_same is in
    inr (earlier (length a)
    (ap (λ (z : Entry). z ∷ a) one ∙ ap (λ (es : List Entry). f ∷ es) h.0)
    (ap (λ (z : Entry). z ∷ (a ++ e ∷ [])) one ∙ ap (λ (es : List Entry). f ∷ es) h.1))
compare (x ∷ a) e later (y ∷ b) f rest is = both x y a b e f later rest (head_same is) (compare a e later b f rest (tail_same is))

-- the last change is one

never_changed : (number : ℕ) (x : Tag) (offset : ℕ) (before : List Entry) (e f : Entry) (h : IsChanger number before x offset e) (g : IsChanger number before x offset f) → Compared h.earlier e h.later g.earlier f → e ≡ f
never_changed number x offset before e f h g (same p q) = q
never_changed number x offset before e f h g (earlier n p q) =
    absurd (g.changed (ap (λ (es : List Entry). perm_after number es x offset) q ∙ h.last (suc n) ∙ sym (ap (λ (es : List Entry). perm_after number es x offset) p ∙ h.last n)))

pub changers_one : (number : ℕ) (before : List Entry) (x : Tag) (offset : ℕ) (e f : Entry) → IsChanger number before x offset e → IsChanger number before x offset f → e ≡ f
changers_one number before x offset e f h g = by_case (compare h.earlier e h.later g.earlier f g.later (sym h.place ∙ g.place))
  where
    by_case : Compared h.earlier e h.later g.earlier f ⊎ Compared g.earlier f g.later h.earlier e → e ≡ f
    by_case (inl c) = never_changed number x offset before e f h g c
    by_case (inr c) = sym (never_changed number x offset before f e g h c)
