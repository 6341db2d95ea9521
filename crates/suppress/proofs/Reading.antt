-- One reading of a line and of a file.
use Rattle.std.proofs.Common.{◌≡◌, ℕ, List, [], ◌∷◌, ◌++◌, Option, Some, None, refl, sym, ap, ◌∙◌, inl, inr, ◌+◌, ◌<◌, length, get_or, take, drop, subst, arith}
use Rattle.std.proofs.lemmas.List.{take_more, drop_more, take_all, take-append-drop, length-take-le}
use Rattle.ir_ast.specs.declared.program.Function.{Function}
use Rattle.suppress.specs.declared.line.Reading.{Reading}
use Rattle.suppress.specs.declared.line.Reading.TheVariants as reading
use Rattle.suppress.specs.declared.rules.Rule.{Rule}
use Rattle.suppress.specs.Lines.{Reads, Written, rule_of}
use Rattle.suppress.specs.Files.{AreRules, IsFirstRefused}
use Rattle.suppress.proofs.Texts.{one_rule, rule_not_blank}

rules_same : (fs : List Function) (v w : Written) (x y : Option Rule) → v ≡ w → rule_of fs v ≡ x → rule_of fs w ≡ y → x ≡ y
rules_same fs v w x y same p q = sym p ∙ ap (rule_of fs) same ∙ q

pub one_reading : (fs : List Function) (line : List ℕ) (a b : Reading) → Reads fs line a → Reads fs line b → a ≡ b
one_reading fs line reading.Blank reading.Blank h k = refl
one_reading fs line reading.Blank (reading.Rule r) h k = absurd (rule_not_blank line k.0 k.1 h)
one_reading fs line reading.Blank reading.NoFunction h k = absurd (rule_not_blank line k.0 k.1 h)
one_reading fs line reading.Blank reading.Bad h k = absurd (k.0 h)
one_reading fs line (reading.Rule r) reading.Blank h k = absurd (rule_not_blank line h.0 h.1 k)
one_reading fs line (reading.Rule r) (reading.Rule s) h k =
    let e : ◌≡◌ {A = Option Rule} (Some r) (Some s) = rules_same fs h.0 k.0 (Some r) (Some s) (one_rule line h.0 k.0 h.1 k.1) (sym h.2) (sym k.2) in
    let same : r ≡ s = cc in
    ap reading.Rule same
one_reading fs line (reading.Rule r) reading.NoFunction h k =
    let e : ◌≡◌ {A = Option Rule} (Some r) None = rules_same fs h.0 k.0 (Some r) None (one_rule line h.0 k.0 h.1 k.1) (sym h.2) (sym k.2) in absurd cc
one_reading fs line (reading.Rule r) reading.Bad h k = absurd (k.1 h.0 h.1)
one_reading fs line reading.NoFunction reading.Blank h k = absurd (rule_not_blank line h.0 h.1 k)
one_reading fs line reading.NoFunction (reading.Rule s) h k =
    let e : ◌≡◌ {A = Option Rule} None (Some s) = rules_same fs h.0 k.0 None (Some s) (one_rule line h.0 k.0 h.1 k.1) (sym h.2) (sym k.2) in absurd cc
one_reading fs line reading.NoFunction reading.NoFunction h k = refl
one_reading fs line reading.NoFunction reading.Bad h k = absurd (k.1 h.0 h.1)
one_reading fs line reading.Bad reading.Blank h k = absurd (h.0 k)
one_reading fs line reading.Bad (reading.Rule r) h k = absurd (h.1 k.0 k.1)
one_reading fs line reading.Bad reading.NoFunction h k = absurd (h.1 k.0 k.1)
one_reading fs line reading.Bad reading.Bad h k = refl

pub one_list : (fs : List Function) (lines : List (List ℕ)) (a b : List Rule) → AreRules fs lines a → AreRules fs lines b → a ≡ b
one_list fs [] a b h k = h ∙ sym k
one_list fs (line ∷ lines) a b (inl h) (inl k) = one_list fs lines a b h.1 k.1
one_list fs (line ∷ lines) a b (inl h) (inr (r, more, is, read, rest)) =
    let e : reading.Blank ≡ reading.Rule r = one_reading fs line reading.Blank (reading.Rule r) h.0 read in absurd cc
one_list fs (line ∷ lines) a b (inr (r, more, is, read, rest)) (inl k) =
    let e : reading.Rule r ≡ reading.Blank = one_reading fs line (reading.Rule r) reading.Blank read k.0 in absurd cc
one_list fs (line ∷ lines) a b (inr (r, more, is, read, rest)) (inr (s, others, are, reads, rests)) =
    let e : reading.Rule r ≡ reading.Rule s = one_reading fs line (reading.Rule r) (reading.Rule s) read reads in
    let same : r ≡ s = cc in
    let tails : more ≡ others = one_list fs lines more others rest rests in
    is ∙ ap (λ (x : Rule). x ∷ more) same ∙ ap (λ (xs : List Rule). s ∷ xs) tails ∙ sym are

-- one line more at the end
pub blank_more : (fs : List Function) (lines : List (List ℕ)) (line : List ℕ) (rules : List Rule) → AreRules fs lines rules → Reads fs line reading.Blank → AreRules fs (lines ++ line ∷ []) rules
blank_more fs [] line rules h read = inl (read, h)
blank_more fs (first ∷ lines) line rules (inl h) read = inl (h.0, blank_more fs lines line rules h.1 read)
blank_more fs (first ∷ lines) line rules (inr (r, more, is, reads, rest)) read = inr (r, more, is, reads, blank_more fs lines line more rest read)

pub rule_more : (fs : List Function) (lines : List (List ℕ)) (line : List ℕ) (rules : List Rule) (rule : Rule) → AreRules fs lines rules → Reads fs line (reading.Rule rule) → AreRules fs (lines ++ line ∷ []) (rules ++ rule ∷ [])
rule_more fs [] line rules rule h read = inr (rule, [], ap (λ (rs : List Rule). rs ++ rule ∷ []) h, read, refl)
rule_more fs (first ∷ lines) line rules rule (inl h) read = inl (h.0, rule_more fs lines line rules rule h.1 read)
rule_more fs (first ∷ lines) line rules rule (inr (r, more, is, reads, rest)) read =
    inr (r, more ++ rule ∷ [], ap (λ (rs : List Rule). rs ++ rule ∷ []) is, reads, rule_more fs lines line more rule rest read)

-- ---- one line after another

pub blank_turn : (fs : List Function) (lines : List (List ℕ)) (n : ℕ) (line : List ℕ) (rules : List Rule) → n < length lines → line ≡ get_or lines n line → AreRules fs (take n lines) rules → Reads fs line reading.Blank
    → AreRules fs (take (n + 1) lines) rules
blank_turn fs lines n line rules lt is h read =
    subst (λ (ls : List (List ℕ)). AreRules fs ls rules) (sym (take_more lines n line lt ∙ ap (λ (l : List ℕ). take n lines ++ l ∷ []) (sym is))) (blank_more fs (take n lines) line rules h read)

pub rule_turn : (fs : List Function) (lines : List (List ℕ)) (n : ℕ) (line : List ℕ) (rules : List Rule) (rule : Rule) → n < length lines → line ≡ get_or lines n line → AreRules fs (take n lines) rules → Reads fs line (reading.Rule rule)
    → AreRules fs (take (n + 1) lines) (rules ++ rule ∷ [])
rule_turn fs lines n line rules rule lt is h read =
    subst (λ (ls : List (List ℕ)). AreRules fs ls (rules ++ rule ∷ [])) (sym (take_more lines n line lt ∙ ap (λ (l : List ℕ). take n lines ++ l ∷ []) (sym is))) (rule_more fs (take n lines) line rules rule h read)

pub first_refused : (fs : List Function) (lines : List (List ℕ)) (n number : ℕ) (line : List ℕ) (rules : List Rule) (why : Reading) → n < length lines → line ≡ get_or lines n line → AreRules fs (take n lines) rules → number ≡ n + 1 → Reads fs line why
    → IsFirstRefused fs lines number why
first_refused fs lines n number line rules why lt is h counted read = record {
  before = take n lines;
  line = line;
  after = drop (n + 1) lines;
  rules = rules;
  stands = sym (take-append-drop n lines) ∙ ap (λ (ls : List (List ℕ)). take n lines ++ ls) (drop_more lines n line lt ∙ ap (λ (l : List ℕ). l ∷ drop (n + 1) lines) (sym is));
  counted = counted ∙ ap (λ (k : ℕ). k + 1) (sym (length-take-le n lines (omega arith)));
  taken = h;
  refused = read;
}

pub whole_file : (fs : List Function) (lines : List (List ℕ)) (n : ℕ) (rules : List Rule) → n ≡ length lines → AreRules fs (take n lines) rules → AreRules fs lines rules
whole_file fs lines n rules all h = subst (λ (ls : List (List ℕ)). AreRules fs ls rules) (take_all n lines (omega arith)) h
