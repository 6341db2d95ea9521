-- What a scan of a register's mentions finds, block by block.
use Rattle.std.proofs.Common.{◌≡◌, ℕ, zero, suc, ◌+◌, ◌<◌, inl, inr, Bool, true, false, cond, not, List, [], ◌∷◌, ◌++◌, length, map, replicate, set, take, get_or, Option, Some, None, refl, sym, ap, subst, ◌∙◌, append_assoc, arith}
use Rattle.std.specs.Prelude.{slice_get, ◌&&◌, ◌||◌}
use Rattle.std.specs.Str.{bytes_eq}
use Rattle.ir_rules.specs.declared.rule.Fault.{Fault}
use Rattle.ir_rules.specs.declared.rule.Rule.TheVariants.{Unassigned}
use Rattle.ir_rules.specs.Occurrences.{Use, Event}
use Rattle.ir_rules.specs.Occurrences.Event.{defines, uses}
use Rattle.ir_rules.specs.Least.{fault, lesser, IsLeast}
use Rattle.flow_paths.specs.Paths.{IsMarked}
use Rattle.ir_assigned.specs.declared.mentions.Mention.{Mention}
use Rattle.ir_assigned.specs.Graph.{listed, assigns}
use Rattle.ir_assigned.specs.Mentions.{mention_of, mention_if, mentions, mentions_from, define, defined, mention_fault, scan}
use Rattle.ir_rules.proofs.Any.{taken-next}
use Rattle.ir_assigned.proofs.Firsts.{In, in_cases, in_left, in_right, least_more}
use Rattle.ir_assigned.proofs.Ways.{early}

-- ---- one more mention
pub length_define : (marks : List Bool) (m : Mention) → length (define marks m) ≡ length marks
length_define marks m = by_case m.defines m.block
  where
    set_length : (xs : List Bool) (b : ℕ) → length (set xs b true) ≡ length xs
    set_length [] b = refl
    set_length (x ∷ xs) zero = refl
    set_length (x ∷ xs) (suc b) = ap suc (set_length xs b)

    by_case : (d : Bool) (b : ℕ) → length (cond d (set marks b true) marks) ≡ length marks
    by_case true b = set_length marks b
    by_case false b = refl

pub length_defined : (marks : List Bool) (ms : List Mention) → length (defined marks ms) ≡ length marks
length_defined marks [] = refl
length_defined marks (m ∷ ms) = length_defined (define marks m) ms ∙ length_define marks m

pub length_blank : (n : ℕ) → length (replicate n false) ≡ n
length_blank zero = refl
length_blank (suc n) = ap suc (length_blank n)

defined_last : (marks : List Bool) (ms : List Mention) (m : Mention) → defined marks (ms ++ m ∷ []) ≡ define (defined marks ms) m
defined_last marks [] m = refl
defined_last marks (k ∷ ms) m = defined_last (define marks k) ms m

pub defined_next : (marks : List Bool) (ms : List Mention) (i : ℕ) (d : Mention) → i < length ms → defined marks (take (i + 1) ms) ≡ define (defined marks (take i ms)) (get_or ms i d)
defined_next marks ms i d lt = ap (defined marks) (taken-next ms i d lt) ∙ defined_last marks (take i ms) (get_or ms i d)

scan_last : (entered marks : List Bool) (ms : List Mention) (m : Mention) → scan entered marks (ms ++ m ∷ []) ≡ scan entered marks ms ++ listed (mention_fault entered (defined marks ms) m)
scan_last entered marks [] m = append_none (listed (mention_fault entered marks m))
  where
    append_none : (xs : List Fault) → xs ++ [] ≡ xs
    append_none [] = refl
    append_none (x ∷ xs) = ap (λ (z : List Fault). x ∷ z) (append_none xs)
scan_last entered marks (k ∷ ms) m = ap (λ (z : List Fault). listed (mention_fault entered marks k) ++ z) (scan_last entered (define marks k) ms m)
    ∙ sym (append_assoc (listed (mention_fault entered marks k)) (scan entered (define marks k) ms) (listed (mention_fault entered (defined (define marks k) ms) m)))

pub scan_next : (entered marks : List Bool) (ms : List Mention) (i : ℕ) (d : Mention) (best : Option Fault) → i < length ms → IsLeast (In (scan entered marks (take i ms))) best
    → IsLeast (In (scan entered marks (take (i + 1) ms))) (lesser best (mention_fault entered (defined marks (take i ms)) (get_or ms i d)))
scan_next entered marks ms i d best lt l =
    let o : Option Fault = mention_fault entered (defined marks (take i ms)) (get_or ms i d) in
    let more : scan entered marks (take (i + 1) ms) ≡ scan entered marks (take i ms) ++ listed o = ap (scan entered marks) (taken-next ms i d lt) ∙ scan_last entered marks (take i ms) (get_or ms i d) in
    subst (λ (z : List Fault). IsLeast (In z) (lesser best o)) (sym more) (least_more (scan entered marks (take i ms)) o best l)

-- ---- the mentions of one block; its mark comes after those of the blocks before it
or_false : (a : Bool) → a || false ≡ a
or_false true = refl
or_false false = refl

or_turn : (b a s : Bool) → cond b true a || s ≡ a || cond b true s
or_turn true true s = refl
or_turn true false s = refl
or_turn false a s = refl

mark_mid : (D R : List Bool) (a b : Bool) → set (D ++ a ∷ R) (length D) b ≡ D ++ b ∷ R
mark_mid [] R a b = refl
mark_mid (x ∷ D) R a b = ap (λ (z : List Bool). x ∷ z) (mark_mid D R a b)

read_mid : (D R : List Bool) (a : Bool) → get_or (D ++ a ∷ R) (length D) false ≡ a
read_mid [] R a = refl
read_mid (x ∷ D) R a = read_mid D R a

same_marks : (b : Bool) (marks : List Bool) → cond b marks marks ≡ marks
same_marks true marks = refl
same_marks false marks = refl

mark_if : (b : Bool) (D R : List Bool) (a : Bool) → cond b (set (D ++ a ∷ R) (length D) true) (D ++ a ∷ R) ≡ D ++ cond b true a ∷ R
mark_if true D R a = mark_mid D R a true
mark_if false D R a = refl

defined_if : (b : Bool) (marks : List Bool) (m : Mention) (ms more : List Mention) → defined marks ((mention_if b m ++ ms) ++ more) ≡ defined (cond b (define marks m) marks) (ms ++ more)
defined_if true marks m ms more = refl
defined_if false marks m ms more = refl

defined_mid : (r : List ℕ) (D R : List Bool) (a : Bool) (es : List Event) (more : List Mention) → defined (D ++ a ∷ R) (mentions r (length D) es ++ more) ≡ defined (D ++ (a || assigns r es) ∷ R) more
defined_mid r D R a [] more = ap (λ (z : Bool). defined (D ++ z ∷ R) more) (sym (or_false a))
defined_mid r D R a (uses u ∷ es) more =
    let b = bytes_eq r u.reg.name in
    defined_if b (D ++ a ∷ R) (mention_of (length D) (uses u)) (mentions r (length D) es) more
    ∙ ap (λ (z : List Bool). defined z (mentions r (length D) es ++ more)) (same_marks b (D ++ a ∷ R))
    ∙ defined_mid r D R a es more
defined_mid r D R a (defines d h ∷ es) more =
    let b = bytes_eq r d.name in
    defined_if b (D ++ a ∷ R) (mention_of (length D) (defines d h)) (mentions r (length D) es) more
    ∙ ap (λ (z : List Bool). defined z (mentions r (length D) es ++ more)) (mark_if b D R a)
    ∙ defined_mid r D R (cond b true a) es more
    ∙ ap (λ (z : Bool). defined (D ++ z ∷ R) more) (or_turn b a (assigns r es))

length_more : (D : List Bool) (s : Bool) → length (D ++ s ∷ []) ≡ suc (length D)
length_more [] s = refl
length_more (x ∷ D) s = ap suc (length_more D s)

-- all blocks: their marks say which of them define the register
pub defined_all : (r : List ℕ) (D : List Bool) (blocks : List (List Event)) → defined (D ++ replicate (length blocks) false) (mentions_from r (length D) blocks) ≡ D ++ map (assigns r) blocks
defined_all r D [] = refl
defined_all r D (es ∷ blocks) =
    let s = assigns r es in
    let R = replicate (length blocks) false in
    defined_mid r D R false es (mentions_from r (suc (length D)) blocks)
    ∙ ap (λ (n : ℕ). defined (D ++ s ∷ R) (mentions_from r n blocks)) (sym (length_more D s))
    ∙ ap (λ (z : List Bool). defined z (mentions_from r (length (D ++ s ∷ [])) blocks)) (sym (append_assoc D (s ∷ []) R))
    ∙ defined_all r (D ++ s ∷ []) blocks
    ∙ append_assoc D (s ∷ []) (map (assigns r) blocks)

-- ---- the faults of one block: where it is entered and the register isn't defined in it yet
abbrev pub use_fault : Use → Fault
use_fault u = fault Unassigned u.reg.at

abbrev pub block_faults : Bool → Bool → List Use → List Fault
block_faults k a us = cond k (cond a [] (map use_fault us)) []

abbrev pub faults_from : List Bool → List ℕ → ℕ → List (List Event) → List Fault
faults_from entered r b [] = []
faults_from entered r b (es ∷ blocks) = block_faults (get_or entered b false) false (early r es) ++ faults_from entered r (suc b) blocks

no_uses : (k a : Bool) → block_faults k a [] ≡ []
no_uses true true = refl
no_uses true false = refl
no_uses false a = refl

scan_if : (b : Bool) (entered marks : List Bool) (m : Mention) (ms more : List Mention)
    → scan entered marks ((mention_if b m ++ ms) ++ more) ≡ cond b (listed (mention_fault entered marks m)) [] ++ scan entered (cond b (define marks m) marks) (ms ++ more)
scan_if true entered marks m ms more = refl
scan_if false entered marks m ms more = refl

use_turn : (b k a c : Bool) (u : Use) (us : List Use) (rest : List Fault) → c ≡ a
    → cond b (listed (cond (k && not c) (Some (use_fault u)) None)) [] ++ (block_faults k a us ++ rest) ≡ block_faults k a (cond b (u ∷ us) us) ++ rest
use_turn b k a c u us rest e = subst (λ (z : Bool). cond b (listed (cond (k && not z) (Some (use_fault u)) None)) [] ++ (block_faults k a us ++ rest) ≡ block_faults k a (cond b (u ∷ us) us) ++ rest) (sym e) (cases b k a)
  where
    cases : (b k a : Bool) → cond b (listed (cond (k && not a) (Some (use_fault u)) None)) [] ++ (block_faults k a us ++ rest) ≡ block_faults k a (cond b (u ∷ us) us) ++ rest
    cases true true true = refl
    cases true true false = refl
    cases true false true = refl
    cases true false false = refl
    cases false true true = refl
    cases false true false = refl
    cases false false true = refl
    cases false false false = refl

def_turn : (b k a : Bool) (us : List Use) → block_faults k (cond b true a) us ≡ block_faults k a (cond b [] us)
def_turn true true true us = refl
def_turn true true false us = refl
def_turn true false a us = refl
def_turn false k a us = refl

none_if : (b : Bool) (xs : List Fault) → cond b [] [] ++ xs ≡ xs
none_if true xs = refl
none_if false xs = refl

scan_mid : (entered : List Bool) (r : List ℕ) (D R : List Bool) (a : Bool) (es : List Event) (more : List Mention)
    → scan entered (D ++ a ∷ R) (mentions r (length D) es ++ more) ≡ block_faults (get_or entered (length D) false) a (early r es) ++ scan entered (D ++ (a || assigns r es) ∷ R) more
scan_mid entered r D R a [] more =
    ap (λ (z : Bool). scan entered (D ++ z ∷ R) more) (sym (or_false a))
    ∙ ap (λ (z : List Fault). z ++ scan entered (D ++ (a || false) ∷ R) more) (sym (no_uses (get_or entered (length D) false) a))
scan_mid entered r D R a (uses u ∷ es) more =
    let b = bytes_eq r u.reg.name in
    let k = get_or entered (length D) false in
    let marks = D ++ a ∷ R in
    let m = mention_of (length D) (uses u) in
    let rest = scan entered (D ++ (a || assigns r es) ∷ R) more in
    scan_if b entered marks m (mentions r (length D) es) more
    ∙ ap (λ (z : List Bool). cond b (listed (mention_fault entered marks m)) [] ++ scan entered z (mentions r (length D) es ++ more)) (same_marks b marks)
    ∙ ap (λ (z : List Fault). cond b (listed (mention_fault entered marks m)) [] ++ z) (scan_mid entered r D R a es more)
    ∙ use_turn b k a (get_or marks (length D) false) u (early r es) rest (read_mid D R a)
scan_mid entered r D R a (defines d h ∷ es) more =
    let b = bytes_eq r d.name in
    let k = get_or entered (length D) false in
    let marks = D ++ a ∷ R in
    let m = mention_of (length D) (defines d h) in
    scan_if b entered marks m (mentions r (length D) es) more
    ∙ none_if b (scan entered (cond b (define marks m) marks) (mentions r (length D) es ++ more))
    ∙ ap (λ (z : List Bool). scan entered z (mentions r (length D) es ++ more)) (mark_if b D R a)
    ∙ scan_mid entered r D R (cond b true a) es more
    ∙ ap (λ (z : Bool). block_faults k (cond b true a) (early r es) ++ scan entered (D ++ z ∷ R) more) (or_turn b a (assigns r es))
    ∙ ap (λ (z : List Fault). z ++ scan entered (D ++ (a || cond b true (assigns r es)) ∷ R) more) (def_turn b k a (early r es))

pub scan_all : (entered : List Bool) (r : List ℕ) (D : List Bool) (blocks : List (List Event)) → scan entered (D ++ replicate (length blocks) false) (mentions_from r (length D) blocks) ≡ faults_from entered r (length D) blocks
scan_all entered r D [] = refl
scan_all entered r D (es ∷ blocks) =
    let s = assigns r es in
    let R = replicate (length blocks) false in
    let here = block_faults (get_or entered (length D) false) false (early r es) in
    scan_mid entered r D R false es (mentions_from r (suc (length D)) blocks)
    ∙ ap (λ (z : List Fault). here ++ z)
    (ap (λ (n : ℕ). scan entered (D ++ s ∷ R) (mentions_from r n blocks)) (sym (length_more D s))
    ∙ ap (λ (z : List Bool). scan entered z (mentions_from r (length (D ++ s ∷ [])) blocks)) (sym (append_assoc D (s ∷ []) R))
    ∙ scan_all entered r (D ++ s ∷ []) blocks
    ∙ ap (λ (n : ℕ). faults_from entered r n blocks) (length_more D s))

-- ---- whose faults these are
use_of_fault : (us : List Use) (x : Fault) → In (map use_fault us) x → (u : Use) × In us u × (use_fault u ≡ x)
use_of_fault [] x h = absurd h
use_of_fault (u ∷ us) x (inl e) = (u, inl refl, e)
use_of_fault (u ∷ us) x (inr h) = let m = use_of_fault us x h in (m.0, inr m.1, m.2)

fault_of_use : (us : List Use) (u : Use) (x : Fault) → In us u → use_fault u ≡ x → In (map use_fault us) x
fault_of_use [] u x h e = absurd h
fault_of_use (v ∷ us) u x (inl s) e = inl (ap use_fault s ∙ e)
fault_of_use (v ∷ us) u x (inr h) e = inr (fault_of_use us u x h e)

in_block : (k : Bool) (us : List Use) (x : Fault) → In (block_faults k false us) x → (k ≡ true) × ((u : Use) × In us u × (use_fault u ≡ x))
in_block true us x h = (refl, use_of_fault us x h)
in_block false us x h = absurd h

block_in : (k : Bool) (us : List Use) (u : Use) (x : Fault) → k ≡ true → In us u → use_fault u ≡ x → In (block_faults k false us) x
block_in true us u x e h f = fault_of_use us u x h f
block_in false us u x e h f = absurd cc

-- an early use in an entered block, whose number counts from b
abbrev pub EarlyFrom : List Bool → List ℕ → ℕ → List (List Event) → Fault → Type 0
EarlyFrom entered r b blocks x = (j : ℕ) × (es : List Event) × (u : Use) × (slice_get blocks j ≡ Some es) × IsMarked entered (b + j) × In (early r es) u × (use_fault u ≡ x)

pub in_faults : (entered : List Bool) (r : List ℕ) (b : ℕ) (blocks : List (List Event)) (x : Fault) → In (faults_from entered r b blocks) x → EarlyFrom entered r b blocks x
in_faults entered r b [] x h = absurd h
in_faults entered r b (es ∷ blocks) x h = elim (in_cases (block_faults (get_or entered b false) false (early r es)) (faults_from entered r (suc b) blocks) x h) [
  | inl here ↦
      let k = in_block (get_or entered b false) (early r es) x here in
      let e : b ≡ b + 0 = omega arith in
      (0, es, k.1.0, refl, subst (IsMarked entered) e k.0, k.1.1, k.1.2)
  | inr later ↦
      let m = in_faults entered r (suc b) blocks x later in
      let e : suc b + m.0 ≡ b + suc m.0 = omega arith in
      (suc m.0, m.1, m.2, m.3, subst (IsMarked entered) e m.4, m.5, m.6)
]

pub faults_in : (entered : List Bool) (r : List ℕ) (b : ℕ) (blocks : List (List Event)) (x : Fault) (j : ℕ) (es : List Event) (u : Use) → slice_get blocks j ≡ Some es → IsMarked entered (b + j) → In (early r es) u → use_fault u ≡ x → In (faults_from entered r b blocks) x
faults_in entered r b [] x j es u at m h e = absurd cc
faults_in entered r b (fs ∷ blocks) x zero es u at m h e =
    let same : fs ≡ es = cc in
    let n : b + 0 ≡ b = omega arith in
    in_left (block_faults (get_or entered b false) false (early r fs)) (faults_from entered r (suc b) blocks) x
    (block_in (get_or entered b false) (early r fs) u x (subst (IsMarked entered) n m) (subst (λ (z : List Event). In (early r z) u) (sym same) h) e)
faults_in entered r b (fs ∷ blocks) x (suc j) es u at m h e =
    let n : b + suc j ≡ suc b + j = omega arith in
    in_right (block_faults (get_or entered b false) false (early r fs)) (faults_from entered r (suc b) blocks) x
    (faults_in entered r (suc b) blocks x j es u at (subst (IsMarked entered) n m) h e)
