-- A line has one reading: the words of causes and places tell themselves apart.
use Rattle.std.proofs.Common.{◌≡◌, ℕ, ◌≢◌, List, [], ◌∷◌, ◌++◌, get_or, nat_eq, Option, Some, None, refl, sym, ap, subst, ◌∙◌, arith}
use Rattle.std.specs.Prelude.{codes, if◌then◌else◌}
use Rattle.std.proofs.lemmas.Option.{same_Some, some_pair_parts}
use Rattle.suppress.specs.declared.case.Cause.{Cause}
use Rattle.suppress.specs.declared.case.Cause.TheVariants.{Denied, StrongFree, Stranger, Freed, OutOfRange}
use Rattle.suppress.specs.Lines.{Place, Written, Writes, IsBlank, IsPlace, cause_word, place_text}
use Rattle.suppress.specs.Lines.Place.{Everywhere, At, In}

-- what stands behind the word at which a text begins
abbrev behind : List ℕ → List ℕ → Option (List ℕ)
behind [] text = Some text
behind (b ∷ word) [] = None
behind (b ∷ word) (c ∷ text) = if nat_eq b c then behind word text else None

abbrev or_later : Option Cause → Option (List ℕ) → Option (Option Cause × List ℕ) → Option (Option Cause × List ℕ)
or_later cause None later = later
or_later cause (Some rest) later = Some (cause, rest)

abbrev cause_from : List ℕ → Option (Option Cause × List ℕ)
cause_from text =
    or_later None (behind (codes "any") text)
    (or_later (Some Denied) (behind (codes "denied") text)
    (or_later (Some StrongFree) (behind (codes "strongfree") text)
    (or_later (Some Stranger) (behind (codes "stranger") text)
    (or_later (Some Freed) (behind (codes "freed") text)
    (or_later (Some OutOfRange) (behind (codes "outofrange") text) None)))))

told : (cause : Option Cause) (rest : List ℕ) → cause_from (cause_word cause ++ rest) ≡ Some (cause, rest)
told None rest = refl
told (Some Denied) rest = refl
told (Some StrongFree) rest = refl
told (Some Stranger) rest = refl
told (Some Freed) rest = refl
told (Some OutOfRange) rest = refl

pub record AreSame (a b : Option Cause) (x y : List ℕ) : Type 0 where
  pub cause : a ≡ b
  pub rest : x ≡ y

pairs_same : (a b : Option Cause) (x y : List ℕ) → ◌≡◌ {A = Option (Option Cause × List ℕ)} (Some (a, x)) (Some (b, y)) → AreSame a b x y
pairs_same a b x y h = let parts = some_pair_parts a b x y h in record { cause = parts.0; rest = parts.1 }

pub one_cause : (a b : Option Cause) (x y : List ℕ) → cause_word a ++ x ≡ cause_word b ++ y → AreSame a b x y
one_cause a b x y h = pairs_same a b x y (sym (told a x) ∙ ap cause_from h ∙ told b y)

-- the place that a text names
abbrev or_place : (List ℕ → Place) → Option (List ℕ) → Option Place → Option Place
or_place make None later = later
or_place make (Some rest) later = Some (make rest)

abbrev place_from : List ℕ → Option Place
place_from [] = Some Everywhere
place_from (b ∷ bs) = or_place At (behind (codes " at ") (b ∷ bs)) (or_place In (behind (codes " in @") (b ∷ bs)) None)

told_place : (place : Place) → place_from (place_text place) ≡ Some place
told_place Everywhere = refl
told_place (At digits) = refl
told_place (In name) = refl

pub one_place : (a b : Place) → place_text a ≡ place_text b → a ≡ b
one_place a b h = same_Some a b (sym (told_place a) ∙ ap place_from h ∙ told_place b)

behind_hold : (x y : List ℕ) → codes "hold " ++ x ≡ codes "hold " ++ y → x ≡ y
behind_hold x y h = same_Some x y (ap (behind (codes "hold ")) h)

pub one_rule : (line : List ℕ) (a b : Written) → Writes line a → Writes line b → a ≡ b
one_rule line a b h k =
    let same : AreSame a.cause b.cause (place_text a.place) (place_text b.place) =
    one_cause a.cause b.cause (place_text a.place) (place_text b.place) (behind_hold (cause_word a.cause ++ place_text a.place) (cause_word b.cause ++ place_text b.place) (sym h.text ∙ k.text)) in
    let cause : a ≡ record { cause = b.cause; place = a.place } = ap (λ (c : Option Cause). record { cause = c; place = a.place }) same.cause in
    let place : record { cause = b.cause; place = a.place } ≡ b = ap (λ (p : Place). record { cause = b.cause; place = p }) (one_place a.place b.place same.rest) in
    cause ∙ place

-- no rule is blank
pub rule_not_blank : (line : List ℕ) (rule : Written) → Writes line rule → IsBlank line → ⊥
rule_not_blank line rule h blank = let e : 104 ≡ 59 = subst IsBlank h.text blank in absurd (omega (arith, e))

-- no cause's word begins the text
pub no_cause : (text : List ℕ)
    → ((rest : List ℕ) → text ≡ codes "any" ++ rest → ⊥) → ((rest : List ℕ) → text ≡ codes "denied" ++ rest → ⊥)
    → ((rest : List ℕ) → text ≡ codes "strongfree" ++ rest → ⊥) → ((rest : List ℕ) → text ≡ codes "stranger" ++ rest → ⊥)
    → ((rest : List ℕ) → text ≡ codes "freed" ++ rest → ⊥) → ((rest : List ℕ) → text ≡ codes "outofrange" ++ rest → ⊥)
    → (cause : Option Cause) (rest : List ℕ) → text ≡ cause_word cause ++ rest → ⊥
no_cause text any denied strong stranger freed out None = any
no_cause text any denied strong stranger freed out (Some Denied) = denied
no_cause text any denied strong stranger freed out (Some StrongFree) = strong
no_cause text any denied strong stranger freed out (Some Stranger) = stranger
no_cause text any denied strong stranger freed out (Some Freed) = freed
no_cause text any denied strong stranger freed out (Some OutOfRange) = out

pub blank_by_first : (line : List ℕ) → get_or line 0 0 ≡ 59 → IsBlank line
blank_by_first [] h = tt
blank_by_first (b ∷ bs) h = h

pub not_blank : (line : List ℕ) → line ≢ [] → get_or line 0 0 ≢ 59 → IsBlank line → ⊥
not_blank [] some h blank = some refl
not_blank (b ∷ bs) some h blank = h blank

-- a line is no rule: it does not begin as one, its cause is none, or what stands behind that is no place
pub no_hold : (line : List ℕ) → ((rest : List ℕ) → line ≡ codes "hold " ++ rest → ⊥) → (rule : Written) → Writes line rule → ⊥
no_hold line none rule h = none (cause_word rule.cause ++ place_text rule.place) h.text

pub no_word : (line text : List ℕ) → line ≡ codes "hold " ++ text → ((cause : Option Cause) (rest : List ℕ) → text ≡ cause_word cause ++ rest → ⊥) → (rule : Written) → Writes line rule → ⊥
no_word line text is none rule h = none rule.cause (place_text rule.place) (behind_hold text (cause_word rule.cause ++ place_text rule.place) (sym is ∙ h.text))

pub no_place : (line text place : List ℕ) (cause : Option Cause) → line ≡ codes "hold " ++ text → text ≡ cause_word cause ++ place
    → ((p : Place) → IsPlace p → place ≡ place_text p → ⊥) → (rule : Written) → Writes line rule → ⊥
no_place line text place cause is begins none rule h =
    let same : AreSame cause rule.cause place (place_text rule.place) =
    one_cause cause rule.cause place (place_text rule.place) (sym begins ∙ behind_hold text (cause_word rule.cause ++ place_text rule.place) (sym is ∙ h.text)) in
    none rule.place h.place same.rest
