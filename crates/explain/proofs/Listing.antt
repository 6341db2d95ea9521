-- The explanations of the logs, one after the other, and in stamp order.
use Rattle.std.proofs.Common.{◌≡◌, ℕ, zero, suc, ◌+◌, ◌<◌, ◌≤◌, ◌==◌, Bool, true, false, cond, Option, Some, None, List, [], ◌∷◌, ◌++◌, length, map, drop, get_or, refl, sym, ap, ◌∙◌, arith, append_assoc}
use Rattle.std.specs.Prelude.{filter, find, nat_lt, position}
use Rattle.std.specs.List.{filter_map, cons_option, position_or_len}
use Rattle.std.specs.List.Sorted.{IsNonDecreasingBy, IsStableByKey, ties}
use Rattle.std.specs.Ordering.{nat_cmp, is_lt}
use Rattle.std.proofs.lemmas.List.{drop_more, get_or-map, length-map, map-append}
use Rattle.std.proofs.lemmas.Bool.{ltb-false}
use Rattle.std.proofs.lemmas.Bool.Decides.{nat_tests}
use Rattle.std.proofs.lemmas.List.Folds.{find_at}
use Rattle.std.proofs.lemmas.Option.{slice_get_past}
use Rattle.history.specs.declared.entry.Entry.{Entry}
use Rattle.history.specs.declared.log.AllocLog.{AllocLog}
use Rattle.history.specs.Merge.{stamp_of, by_stamp}
use Rattle.history.specs.Records.{first_violation}
use Rattle.history.proofs.Order.{with_stamp, unique, rises_from, by_stamp_rises, with_stamp-by_stamp}
use Rattle.explain.specs.declared.explained.Explained.{Explained}
use Rattle.explain.specs.Explanations.{IsExplainedBy, IsExplainedIn}

-- the first that passes is found at its place
pub find_here : {A : Type 0} (p : A → Bool) (xs : List A) (i : ℕ) (d : A) → i < length xs → p (get_or xs i d) ≡ true → ((k : ℕ) → k < i → p (get_or xs k d) ≡ false) → find p xs ≡ Some (get_or xs i d)
find_here p [] i d lt is first = absurd (omega arith)
find_here p (x ∷ xs) zero d lt is first = ap (λ (b : Bool). cond b (Some x) (find p xs)) is
find_here p (x ∷ xs) (suc i) d lt is first =
    ap (λ (b : Bool). cond b (Some x) (find p xs)) (first 0 (omega arith))
    ∙ find_here p xs i d (omega arith) is (λ k less. first (suc k) (omega arith))

pub find_nowhere : {A : Type 0} (p : A → Bool) (xs : List A) → position p xs ≡ None → find p xs ≡ None
find_nowhere {A} p xs none = find_at p xs ∙ slice_get_past xs (position_or_len p xs) (past (nat_lt (position_or_len p xs) (length xs)) refl none)
  where
    past : (b : Bool) → nat_lt (position_or_len p xs) (length xs) ≡ b → cond b (Some (position_or_len p xs)) None ≡ None → length xs ≤ position_or_len p xs
    past true is h = absurd (let never : Some (position_or_len p xs) ≡ None = h in cc)
    past false is h = ltb-false (position_or_len p xs) (length xs) is

abbrev pub violation_of : Explained → Entry
violation_of x = x.violation

-- one further log
pub listed_none : (logs : List AllocLog) (i : ℕ) (log : AllocLog) (list : List Explained) (whole : List Entry) → i < length logs → log ≡ get_or logs i log
    → map violation_of list ++ filter_map first_violation (drop i logs) ≡ whole → None ≡ first_violation log
    → map violation_of list ++ filter_map first_violation (drop (i + 1) logs) ≡ whole
listed_none logs i log list whole lt at before none =
    let rest : List Entry = filter_map first_violation (drop (i + 1) logs) in
    let opened : filter_map first_violation (drop i logs) ≡ rest =
    ap (filter_map first_violation) (drop_more logs i log lt)
    ∙ ap (λ (l : AllocLog). cons_option (first_violation l) rest) (sym at)
    ∙ ap (λ (o : Option Entry). cons_option o rest) (sym none) in
    ap (λ (es : List Entry). map violation_of list ++ es) (sym opened) ∙ before

pub listed_some : (logs : List AllocLog) (i : ℕ) (log : AllocLog) (list new : List Explained) (x : Explained) (whole : List Entry) → i < length logs → log ≡ get_or logs i log
    → map violation_of list ++ filter_map first_violation (drop i logs) ≡ whole → Some x.violation ≡ first_violation log → new ≡ list ++ x ∷ []
    → map violation_of new ++ filter_map first_violation (drop (i + 1) logs) ≡ whole
listed_some logs i log list new x whole lt at before some grown =
    let rest : List Entry = filter_map first_violation (drop (i + 1) logs) in
    let opened : filter_map first_violation (drop i logs) ≡ x.violation ∷ rest =
    ap (filter_map first_violation) (drop_more logs i log lt)
    ∙ ap (λ (l : AllocLog). cons_option (first_violation l) rest) (sym at)
    ∙ ap (λ (o : Option Entry). cons_option o rest) (sym some) in
    ap (λ (l : List Explained). map violation_of l ++ rest) grown
    ∙ ap (λ (es : List Entry). es ++ rest) (map-append violation_of list (x ∷ []))
    ∙ append_assoc (map violation_of list) (x.violation ∷ []) rest
    ∙ ap (λ (es : List Entry). map violation_of list ++ es) (sym opened) ∙ before

pub explained_here : (logs : List AllocLog) (i : ℕ) (log : AllocLog) (x : Explained) → i < length logs → log ≡ get_or logs i log → IsExplainedBy log x → IsExplainedIn logs x
explained_here logs i log x lt at h = record { log = log; among = (i, lt, sym at); explained = h }

-- in stamp order

abbrev pub key_of : Explained → ℕ
key_of x = stamp_of x.violation

tie : (x y : Explained) → ties (λ (a b : Explained). is_lt (nat_cmp (key_of a) (key_of b))) x y ≡ (key_of y == key_of x)
tie x y = grind (arith, nat_tests)

ties_mapped : (x : Explained) (ys : List Explained) → map violation_of (filter (ties (λ (a b : Explained). is_lt (nat_cmp (key_of a) (key_of b))) x) ys) ≡ with_stamp (key_of x) (map violation_of ys)
ties_mapped x [] = refl
ties_mapped x (y ∷ ys) = by_case (ties (λ (a b : Explained). is_lt (nat_cmp (key_of a) (key_of b))) x y) (tie x y) (ties_mapped x ys)
  where
    by_case : (b : Bool) → b ≡ (key_of y == key_of x)
        → map violation_of (filter (ties (λ (a b : Explained). is_lt (nat_cmp (key_of a) (key_of b))) x) ys) ≡ with_stamp (key_of x) (map violation_of ys)
        → map violation_of (cond b (y ∷ filter (ties (λ (a b : Explained). is_lt (nat_cmp (key_of a) (key_of b))) x) ys) (filter (ties (λ (a b : Explained). is_lt (nat_cmp (key_of a) (key_of b))) x) ys))
        ≡ cond (key_of y == key_of x) (y.violation ∷ with_stamp (key_of x) (map violation_of ys)) (with_stamp (key_of x) (map violation_of ys))
    by_case true is rest = ap (λ es. y.violation ∷ es) rest ∙ ap (λ (b : Bool). cond b (y.violation ∷ with_stamp (key_of x) (map violation_of ys)) (with_stamp (key_of x) (map violation_of ys))) is
    by_case false is rest = rest ∙ ap (λ (b : Bool). cond b (y.violation ∷ with_stamp (key_of x) (map violation_of ys)) (with_stamp (key_of x) (map violation_of ys))) is

pub sorted_violations : (xs ys : List Explained) → IsNonDecreasingBy key_of ys → IsStableByKey key_of nat_cmp xs ys → map violation_of ys ≡ by_stamp (map violation_of xs)
sorted_violations xs ys up stable =
    unique (map violation_of ys) (by_stamp (map violation_of xs))
    (rises_from (map violation_of ys) (λ i j d le lt.
    let inside : j < length ys = omega (arith, lt, length-map ys violation_of) in
    let x : Explained = record { violation = d; maker = None; changer = None } in
    let a : get_or (map violation_of ys) i d ≡ violation_of (get_or ys i x) = get_or-map violation_of ys i x d (omega arith) in
    let b : get_or (map violation_of ys) j d ≡ violation_of (get_or ys j x) = get_or-map violation_of ys j x d inside in
    let less : stamp_of (violation_of (get_or ys i x)) ≤ stamp_of (violation_of (get_or ys j x)) = up i j x le inside in
    let c : stamp_of (get_or (map violation_of ys) i d) ≡ stamp_of (violation_of (get_or ys i x)) = ap stamp_of a in
    let e : stamp_of (get_or (map violation_of ys) j d) ≡ stamp_of (violation_of (get_or ys j x)) = ap stamp_of b in
    omega (arith, less, c, e)))
    (by_stamp_rises (map violation_of xs))
    (λ e.
    let x : Explained = record { violation = e; maker = None; changer = None } in
    sym (ties_mapped x ys) ∙ ap (map violation_of) (stable x) ∙ ties_mapped x xs
    ∙ sym (with_stamp-by_stamp (stamp_of e) (map violation_of xs)))
