-- A file is refused at one line at most, and then it has no rules.
use Rattle.std.proofs.Common.{◌≡◌, ℕ, suc, ◌+◌, List, [], ◌∷◌, ◌++◌, length, refl, sym, ap, subst, ◌∙◌, inl, inr}
use Rattle.ir_ast.specs.declared.program.Function.{Function}
use Rattle.suppress.specs.declared.line.Reading.{Reading}
use Rattle.suppress.specs.declared.line.Reading.TheVariants as reading
use Rattle.suppress.specs.declared.rules.Rule.{Rule}
use Rattle.suppress.specs.Lines.{Reads}
use Rattle.suppress.specs.Files.{AreRules, IsRefusal, IsFirstRefused}
use Rattle.suppress.proofs.Reading.{one_reading}

-- a line that is refused is not among lines that are taken
not_first : (fs : List Function) (line : List ℕ) (lines : List (List ℕ)) (rules : List Rule) (why : Reading) → IsRefusal why → Reads fs line why → AreRules fs (line ∷ lines) rules → ⊥
not_first fs line lines rules why refusal read (inl h) = subst IsRefusal (one_reading fs line why reading.Blank read h.0) refusal
not_first fs line lines rules why refusal read (inr (rule, more, is, reads, rest)) = subst IsRefusal (one_reading fs line why (reading.Rule rule) read reads) refusal

pub not_taken : (fs : List Function) (before after : List (List ℕ)) (line : List ℕ) (rules : List Rule) (why : Reading) → IsRefusal why → Reads fs line why → AreRules fs (before ++ line ∷ after) rules → ⊥
not_taken fs [] after line rules why refusal read h = not_first fs line after rules why refusal read h
not_taken fs (first ∷ before) after line rules why refusal read (inl h) = not_taken fs before after line rules why refusal read h.1
not_taken fs (first ∷ before) after line rules why refusal read (inr (rule, more, is, reads, rest)) = not_taken fs before after line more why refusal read rest

later_rules : (fs : List Function) (line : List ℕ) (lines : List (List ℕ)) (rules : List Rule) → AreRules fs (line ∷ lines) rules → (more : List Rule) × AreRules fs lines more
later_rules fs line lines rules (inl h) = (rules, h.1)
later_rules fs line lines rules (inr (rule, more, is, reads, rest)) = (more, rest)

heads_same : {A : Type 0} (x y : A) (xs ys : List A) → x ∷ xs ≡ y ∷ ys → x ≡ y
heads_same x y xs ys e = cc

tails_same : {A : Type 0} (x y : A) (xs ys : List A) → x ∷ xs ≡ y ∷ ys → xs ≡ ys
tails_same x y xs ys e = cc

one_place : (fs : List Function) (b c : List (List ℕ)) (x y : List ℕ) (p q : List (List ℕ)) (r s : List Rule) (v w : Reading) → b ++ x ∷ p ≡ c ++ y ∷ q → AreRules fs b r → AreRules fs c s
    → IsRefusal v → IsRefusal w → Reads fs x v → Reads fs y w → (length b ≡ length c) × (v ≡ w)
one_place fs [] [] x y p q r s v w e h k rv rz hv hw =
    (refl, one_reading fs y v w (subst (λ (l : List ℕ). Reads fs l v) (heads_same x y p q e) hv) hw)
one_place fs [] (d ∷ c) x y p q r s v w e h k rv rz hv hw =
    absurd (not_first fs d c s v rv (subst (λ (l : List ℕ). Reads fs l v) (heads_same x d p (c ++ y ∷ q) e) hv) k)
one_place fs (d ∷ b) [] x y p q r s v w e h k rv rz hv hw =
    absurd (not_first fs d b r w rz (subst (λ (l : List ℕ). Reads fs l w) (sym (heads_same d y (b ++ x ∷ p) q e)) hw) h)
one_place fs (d ∷ b) (g ∷ c) x y p q r s v w e h k rv rz hv hw =
    let m = later_rules fs d b r h in
    let n = later_rules fs g c s k in
    let more = one_place fs b c x y p q m.0 n.0 v w (tails_same d g (b ++ x ∷ p) (c ++ y ∷ q) e) m.1 n.1 rv rz hv hw in
    (ap (λ (i : ℕ). suc i) more.0, more.1)

pub one_refusal : (fs : List Function) (lines : List (List ℕ)) (m n : ℕ) (v w : Reading) → IsRefusal v → IsRefusal w → IsFirstRefused fs lines m v → IsFirstRefused fs lines n w → (m ≡ n) × (v ≡ w)
one_refusal fs lines m n v w rv rz h k =
    let both = one_place fs h.before k.before h.line k.line h.after k.after h.rules k.rules v w (sym h.stands ∙ k.stands) h.taken k.taken rv rz h.refused k.refused in
    (h.counted ∙ ap (λ (i : ℕ). i + 1) both.0 ∙ sym k.counted, both.1)

pub no_rules : (fs : List Function) (lines : List (List ℕ)) (n : ℕ) (why : Reading) (rules : List Rule) → IsRefusal why → IsFirstRefused fs lines n why → AreRules fs lines rules → ⊥
no_rules fs lines n why rules refusal h k =
    not_taken fs h.before h.after h.line rules why refusal h.refused (subst (λ (ls : List (List ℕ)). AreRules fs ls rules) h.stands k)
