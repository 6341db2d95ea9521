-- Second definitions, as the names come.
use Rattle.std.proofs.Common.{◌≡◌, ℕ, zero, suc, ◌+◌, ◌<◌, ◌≤◌, ◌⊎◌, inl, inr, Bool, true, false, cond, List, [], ◌∷◌, ◌++◌, length, map, take, get_or, Option, Some, None, refl, sym, ap, subst, ◌∙◌, append_assoc, arith, bytes_eq, Bor}
use Rattle.std.proofs.lemmas.List.{append-nil, map-append}
use Rattle.std.specs.List.{count_by}
use Rattle.std.specs.Option.{is_some}
use Rattle.std.specs.Cmp.Lexicographic.{bytes_decides, nat_list_eq_equiv}
use Rattle.std.proofs.lemmas.Grind.{common_steps}
use Rattle.ir_ast.specs.declared.program.Named.{Named}
use Rattle.ir_rules.specs.declared.rule.Rule.{Rule}
use Rattle.ir_rules.specs.declared.rule.Rule.TheVariants.{Twice}
use Rattle.ir_rules.specs.declared.rule.Fault.{Fault}
use Rattle.ir_rules.specs.Least.{fault, lesser, IsLeast}
use Rattle.ir_rules.specs.Occurrences.{Event, Holds, Use}
use Rattle.ir_rules.specs.Occurrences.Event.{defines, uses}
use Rattle.ir_rules.specs.Rules.{defined}
use Rattle.ir_rules.proofs.Least.{least-or, least-same, same-after}
use Rattle.ir_rules.proofs.Any.{take_whole}
use Rattle.ir_verify.specs.declared.twice.Times.{Times}
use Rattle.ir_verify.specs.declared.twice.Times.TheVariants.{Once, More}
use Rattle.ir_verify.specs.Faults.{TwiceFault}
use Rattle.ir_verify.specs.Counts.{next_times, number_of, up_to_two, one_more, twice_fault}
use Rattle.ir_rules.proofs.Any.{taken-next}

-- how often the name stands
abbrev pub times : List ℕ → List Named → ℕ
times q names = count_by (λ x. bytes_eq q x.name) names

times-push : (q : List ℕ) (names : List Named) (e : Named) → times q (names ++ e ∷ []) ≡ times q names + cond (bytes_eq q e.name) 1 0
times-push q names e = grind (arith, common_steps)

-- the name stood once before
abbrev Here : List Named → Named → Fault → Type 0
Here before e x = (times e.name before ≡ 1) × (x ≡ fault Twice e.at)

abbrev From : List Named → List Named → Fault → Type 0
From before [] x = ⊥
From before (e ∷ es) x = Here before e x ⊎ From (before ++ e ∷ []) es x

push-all : (a : List Named) (e : Named) (b : List Named) → (a ++ e ∷ []) ++ b ≡ a ++ (e ∷ b)
push-all a e b = append_assoc a (e ∷ []) b

from-join : (before es : List Named) (e : Named) (x : Fault) → From before (es ++ e ∷ []) x → From before es x ⊎ Here (before ++ es) e x
from-join before [] e x (inl h) = inr (subst (λ (z : List Named). Here z e x) (sym (append-nil before)) h)
from-join before [] e x (inr h) = absurd h
from-join before (d ∷ es) e x (inl h) = inl (inl h)
from-join before (d ∷ es) e x (inr h) = elim (from-join (before ++ d ∷ []) es e x h) [
  | inl k ↦ inl (inr k)
  | inr k ↦ inr (subst (λ (z : List Named). Here z e x) (push-all before d es) k)
]

join-from : (before es : List Named) (e : Named) (x : Fault) → From before es x ⊎ Here (before ++ es) e x → From before (es ++ e ∷ []) x
join-from before [] e x (inl h) = absurd h
join-from before [] e x (inr h) = inl (subst (λ (z : List Named). Here z e x) (append-nil before) h)
join-from before (d ∷ es) e x (inl (inl h)) = inl h
join-from before (d ∷ es) e x (inl (inr h)) = inr (join-from (before ++ d ∷ []) es e x (inl h))
join-from before (d ∷ es) e x (inr h) = inr (join-from (before ++ d ∷ []) es e x (inr (subst (λ (z : List Named). Here z e x) (sym (push-all before d es)) h)))

abbrev Split : List Named → List Named → Fault → Type 0
Split before ds x = (d : Named) × (front back : List Named) × (ds ≡ front ++ d ∷ back) × Here (before ++ front) d x

from-split : (before ds : List Named) (x : Fault) → From before ds x → Split before ds x
from-split before [] x h = absurd h
from-split before (d ∷ ds) x (inl h) = (d, [], ds, refl, subst (λ (z : List Named). Here z d x) (sym (append-nil before)) h)
from-split before (d ∷ ds) x (inr h) =
    let s = from-split (before ++ d ∷ []) ds x h in
    (s.0, d ∷ s.1, s.2, ap (λ (z : List Named). d ∷ z) s.3, subst (λ (z : List Named). Here z s.0 x) (push-all before d s.1) s.4)

split-from : (before front : List Named) (d : Named) (back : List Named) (x : Fault) → Here (before ++ front) d x → From before (front ++ d ∷ back) x
split-from before [] d back x h = inl (subst (λ (z : List Named). Here z d x) (append-nil before) h)
split-from before (e ∷ front) d back x h = inr (split-from (before ++ e ∷ []) front d back x (subst (λ (z : List Named). Here z d x) (sym (push-all before e front)) h))

twice-from : (ds : List Named) (x : Fault) → TwiceFault ds x → From [] ds x
twice-from ds x h = subst (λ (z : List Named). From [] z x) (sym h.1.3) (split-from [] h.1.1 h.1.0 h.1.2 x (h.1.4, ap (λ (r : Rule). fault r x.at) h.0 ∙ ap (fault Twice) h.1.5))

from-twice : (ds : List Named) (x : Fault) → From [] ds x → TwiceFault ds x
from-twice ds x h = let s = from-split [] ds x h in (ap (λ (z : Fault). z.rule) s.4.1, (s.0, s.1, s.2, s.3, s.4.0, ap (λ (z : Fault). z.at) s.4.1))

-- ---- what the loop keeps
abbrev pub Seconds : List Named → Fault → Type 0
Seconds = From []

pub seconds_none : IsLeast (Seconds []) None
seconds_none = λ x h. h

two-one : (n : ℕ) → up_to_two n ≡ 1 → n ≡ 1
two-one zero e = absurd cc
two-one (suc zero) e = refl
two-one (suc (suc n)) e = absurd cc

fault-here : (n : ℕ) (e : Named) → IsLeast (λ x. (n ≡ 1) × (x ≡ fault Twice e.at)) (twice_fault (up_to_two n) e)
fault-here zero e = λ x h. absurd (omega (arith, h.0))
fault-here (suc zero) e = ((refl, refl), λ x h. same-after (fault Twice e.at) x (sym h.1))
fault-here (suc (suc n)) e = λ x h. absurd (omega (arith, h.0))

pub seconds_next : (ds : List Named) (i : ℕ) (d : Named) (best : Option Fault) (n : ℕ) → i < length ds → IsLeast (Seconds (take i ds)) best → n ≡ up_to_two (times (get_or ds i d).name (take i ds))
    → IsLeast (Seconds (take (i + 1) ds)) (lesser best (twice_fault n (get_or ds i d)))
seconds_next ds i d best n lt so_far is =
    let e : Named = get_or ds i d in
    subst (λ (z : List Named). IsLeast (Seconds z) (lesser best (twice_fault n e))) (sym (taken-next ds i d lt))
    (subst (λ (m : ℕ). IsLeast (Seconds (take i ds ++ e ∷ [])) (lesser best (twice_fault m e))) (sym is)
    (least-same (λ x. From [] (take i ds) x ⊎ Here (take i ds) e x) (From [] (take i ds ++ e ∷ [])) (lesser best (twice_fault (up_to_two (times e.name (take i ds))) e)) (join-from [] (take i ds) e) (from-join [] (take i ds) e)
    (least-or (From [] (take i ds)) (Here (take i ds) e) best (twice_fault (up_to_two (times e.name (take i ds))) e) so_far (fault-here (times e.name (take i ds)) e))))

pub seconds_all : (ds : List Named) (n : ℕ) (o : Option Fault) → length ds ≤ n → IsLeast (Seconds (take n ds)) o → IsLeast (TwiceFault ds) o
seconds_all ds n o le h = least-same (From [] ds) (TwiceFault ds) o (from-twice ds) (twice-from ds) (subst (λ (z : List Named). IsLeast (From [] z) o) (take_whole ds n le) h)

-- ---- the table of counts
grown : (n : ℕ) (b : Bool) → up_to_two (n + cond b 1 0) ≡ one_more (up_to_two n) b
grown zero true = refl
grown zero false = refl
grown (suc zero) true = refl
grown (suc zero) false = refl
grown (suc (suc n)) true = let e : suc (suc n) + 1 ≡ suc (suc (suc n)) = omega arith in ap up_to_two e
grown (suc (suc n)) false = let e : suc (suc n) + 0 ≡ suc (suc n) = omega arith in ap up_to_two e

pub counts_next : (ds : List Named) (i : ℕ) (d : Named) (m more : List ℕ → ℕ) → i < length ds → ((q : List ℕ) → m q ≡ up_to_two (times q (take i ds)))
    → ((q : List ℕ) → more q ≡ one_more (m q) (bytes_eq q (get_or ds i d).name)) → (q : List ℕ) → more q ≡ up_to_two (times q (take (i + 1) ds))
counts_next ds i d m more lt so_far is q =
    let e : Named = get_or ds i d in
    is q ∙ ap (λ (n : ℕ). one_more n (bytes_eq q e.name)) (so_far q) ∙ sym (grown (times q (take i ds)) (bytes_eq q e.name))
    ∙ sym (ap (λ (z : List Named). up_to_two (times q z)) (taken-next ds i d lt) ∙ ap up_to_two (times-push q (take i ds) e))

put_one : (o : Option Times) (b : Bool) (t : Times) → (b ≡ true → number_of (Some t) ≡ up_to_two (suc (number_of o))) → number_of (cond b (Some t) o) ≡ one_more (number_of o) b
put_one o true t h = h refl
put_one o false t h = refl

pub counted_now : (m more : List ℕ → Option Times) (name : List ℕ) (t : Times) → number_of (Some t) ≡ up_to_two (suc (number_of (m name))) → ((q : List ℕ) → more q ≡ cond (bytes_eq name q) (Some t) (m q))
    → (q : List ℕ) → number_of (more q) ≡ one_more (number_of (m q)) (bytes_eq q name)
counted_now m more name t new is q = ap number_of (is q ∙ ap (λ (b : Bool). cond b (Some t) (m q)) (nat_list_eq_equiv.symm name q))
    ∙ put_one (m q) (bytes_eq q name) t (λ e. subst (λ (z : List ℕ). number_of (Some t) ≡ up_to_two (suc (number_of (m z)))) (sym ((bytes_decides q name).0 e)) new)

pub times_next : (o : Option Times) (known : Bool) → known ≡ is_some o → number_of (Some (next_times known)) ≡ up_to_two (suc (number_of o))
times_next None true e = absurd cc
times_next None false e = refl
times_next (Some t) false e = absurd cc
times_next (Some Once) true e = refl
times_next (Some More) true e = refl

-- ---- the names that are defined
defined-push : (es : List Event) (e : Event) → defined (es ++ e ∷ []) ≡ defined es ++ defined (e ∷ [])
defined-push [] e = refl
defined-push (defines d h ∷ es) e = ap (λ (z : List Named). d ∷ z) (defined-push es e)
defined-push (uses u ∷ es) e = defined-push es e

pub defined_next : {A : Type 0} (f : A → Event) (os : List A) (i : ℕ) (d : A) → i < length os → defined (map f (take (i + 1) os)) ≡ defined (map f (take i os)) ++ defined (f (get_or os i d) ∷ [])
defined_next f os i d lt = ap (λ (z : List _). defined (map f z)) (taken-next os i d lt) ∙ ap defined (map-append f (take i os) (get_or os i d ∷ [])) ∙ defined-push (map f (take i os)) (f (get_or os i d))

pub defined_adds : {A : Type 0} (f : A → Event) (os : List A) (i : ℕ) (d : A) (ns more : List (Bor Named)) (r : Bor Named) (h : Holds) → i < length os → map (λ n. n.now) ns ≡ defined (map f (take i os)) → more ≡ ns ++ r ∷ []
    → f (get_or os i d) ≡ defines r.now h → map (λ n. n.now) more ≡ defined (map f (take (i + 1) os))
defined_adds f os i d ns more r h lt so_far is event =
    ap (map (λ (n : Bor Named). n.now)) is ∙ map-append (λ (n : Bor Named). n.now) ns (r ∷ []) ∙ ap (λ (z : List Named). z ++ r.now ∷ []) so_far
    ∙ sym (defined_next f os i d lt ∙ ap (λ (z : Event). defined (map f (take i os)) ++ defined (z ∷ [])) event)

pub defined_skips : {A : Type 0} (f : A → Event) (os : List A) (i : ℕ) (d : A) (ns : List (Bor Named)) (u : Use) → i < length os → map (λ n. n.now) ns ≡ defined (map f (take i os)) → f (get_or os i d) ≡ uses u
    → map (λ n. n.now) ns ≡ defined (map f (take (i + 1) os))
defined_skips f os i d ns u lt so_far event =
    so_far ∙ sym (append-nil (defined (map f (take i os)))) ∙ sym (defined_next f os i d lt ∙ ap (λ (z : Event). defined (map f (take i os)) ++ defined (z ∷ [])) event)
