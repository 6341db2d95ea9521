-- Logs whose numbers rise, and the same logs in another order.
use Rattle.std.proofs.Common.{◌≡◌, ◌≢◌, ℕ, zero, suc, ◌<◌, ◌≤◌, cond, List, [], ◌∷◌, refl, sym, ◌∙◌, ap, subst, inl, inr, arith, sum_by}
use Rattle.std.specs.Prelude.{◌⊎◌, ◌==◌, IsPermutation}
use Rattle.std.specs.List.{flat_map, AllByRecursion}
use Rattle.std.proofs.lemmas.Bool.Decides.{eqb_tells}
use Rattle.std.proofs.lemmas.List.Elements.{All-from_recursion, recursion_from_All}
use Rattle.std.proofs.lemmas.List.Sorted.{IsPermutation-sym, All-permutation, sum_by-IsPermutation}
use Rattle.std.proofs.lemmas.List.Sums.{sum_by-cons, sum_by-append}
use Rattle.history.specs.declared.entry.Entry.{Entry}
use Rattle.history.specs.declared.log.ThreadLog.{ThreadLog}
use Rattle.runs.specs.Merge.{all_entries, merged, entries_of}
use Rattle.runs.specs.Parts.{Has, child_of}
use Rattle.runs.specs.Right.{NumbersRiseFrom, AtLeast, end_of}
use Rattle.runs.specs.Tree.{numbers_of, children_of, started_by}
use Rattle.runs.proofs.Counting.{weigh_with, at_least_later}
use Rattle.runs.proofs.RightErases.{number_above}
use Rattle.runs.proofs.Weights.{equals, equals_cases, equals_same, equals_other, sum_flat, sum_map}

all_logs : (P : ThreadLog → Type 0) (ls : List ThreadLog) → ((l : ThreadLog) → Has ls l → P l) → AllByRecursion P ls
all_logs P [] h = tt
all_logs P (l ∷ ls) h = (h l (inl refl), all_logs P ls (λ m g. h m (inr g)))

each_log : (P : ThreadLog → Type 0) (ls : List ThreadLog) (l : ThreadLog) → AllByRecursion P ls → Has ls l → P l
each_log P [] l all h = absurd h
each_log P (m ∷ ms) l all (inl same) = subst P same all.0
each_log P (m ∷ ms) l all (inr h) = each_log P ms l all.1 h

pub moved : (xs ys : List ThreadLog) → IsPermutation xs ys → (l : ThreadLog) → Has xs l → Has ys l
moved xs ys p l h =
    let P : ThreadLog → Type 0 = λ m. Has ys m in
    each_log P xs l (recursion_from_All P xs (All-permutation P ys xs (IsPermutation-sym xs ys p) (All-from_recursion P ys (all_logs P ys (λ m g. g))))) h

pub flat_moved : (h : ℕ → ℕ) (f : ThreadLog → List ℕ) (xs ys : List ThreadLog) → IsPermutation xs ys → sum_by h (flat_map f ys) ≡ sum_by h (flat_map f xs)
flat_moved h f xs ys p = sum_flat h f ys ∙ sum_by-IsPermutation (λ l. sum_by h (f l)) xs ys p ∙ sym (sum_flat h f xs)

pub entries_moved : (w : Entry → ℕ) (xs ys : List ThreadLog) → IsPermutation xs ys → sum_by w (all_entries ys) ≡ sum_by w (all_entries xs)
entries_moved w xs ys p = sum_flat w (λ (l : ThreadLog). l.entries) ys ∙ sum_by-IsPermutation (λ (l : ThreadLog). sum_by w l.entries) xs ys p ∙ sym (sum_flat w (λ (l : ThreadLog). l.entries) xs)

pub numbers_moved : (h : ℕ → ℕ) (xs ys : List ThreadLog) → IsPermutation xs ys → sum_by h (numbers_of ys) ≡ sum_by h (numbers_of xs)
numbers_moved h xs ys p = sum_map h (λ (l : ThreadLog). l.number.0) ys ∙ sum_by-IsPermutation (λ (l : ThreadLog). h l.number.0) xs ys p ∙ sym (sum_map h (λ (l : ThreadLog). l.number.0) xs)

pub weigh_merged : (w : Entry → ℕ) (ls : List ThreadLog) → sum_by w (merged ls) ≡ sum_by w (all_entries ls)
weigh_merged w [] = refl
weigh_merged w (l ∷ ls) = let more = weigh_merged w ls in omega (arith, more, weigh_with w l.entries (all_entries ls), sum_by-append w l.entries (all_entries ls))

pub weigh_children : (h : ℕ → ℕ) (ls : List ThreadLog) → sum_by (λ (e : Entry). sum_by h (started_by (child_of e))) (all_entries ls) ≡ sum_by h (flat_map children_of ls)
weigh_children h [] = refl
weigh_children h (l ∷ ls) =
    let w : Entry → ℕ = λ e. sum_by h (started_by (child_of e)) in
    let more = weigh_children h ls in
    omega (arith, more, sum_by-append w l.entries (all_entries ls), sum_flat h (λ (e : Entry). started_by (child_of e)) l.entries, sum_by-append h (children_of l) (flat_map children_of ls))

-- an entry weighs no more than all of them
pub entry_weighs : (w : Entry → ℕ) (es : List Entry) (x : Entry) → Has es x → w x ≤ sum_by w es
entry_weighs w [] x h = absurd h
entry_weighs w (e ∷ es) x (inl same) = let a = ap w same in omega (arith, a, sum_by-cons w e es)
entry_weighs w (e ∷ es) x (inr h) = let a = entry_weighs w es x h in omega (arith, a, sum_by-cons w e es)

pub log_weighs : (w : Entry → ℕ) (ls : List ThreadLog) (l : ThreadLog) (x : Entry) → Has ls l → Has l.entries x → w x ≤ sum_by w (all_entries ls)
log_weighs w [] l x h g = absurd h
log_weighs w (m ∷ ms) l x (inl same) g = let a = entry_weighs w m.entries x (subst (λ (y : ThreadLog). Has y.entries x) (sym same) g) in omega (arith, a, sum_by-append w m.entries (all_entries ms))
log_weighs w (m ∷ ms) l x (inr h) g = let a = log_weighs w ms l x h g in omega (arith, a, sum_by-append w m.entries (all_entries ms))

-- numbers -----------------------------------------------------------------------

pub some_log : (ls : List ThreadLog) (n : ℕ) → 1 ≤ sum_by (equals n) (numbers_of ls) → (l : ThreadLog) × Has ls l × (l.number.0 ≡ n)
some_log [] n le = absurd (omega (arith, le))
some_log (l ∷ ls) n le = elim (equals_cases n l.number.0) [
  | inl hit ↦ (l, inl refl, hit.0)
  | inr miss ↦ (let none = miss.1 in let r = some_log ls n (omega (arith, le, none, sum_by-cons (equals n) l.number.0 (numbers_of ls))) in (r.0, inr r.1, r.2))
]

pub number_there : (ls : List ThreadLog) (l : ThreadLog) → Has ls l → 1 ≤ sum_by (equals l.number.0) (numbers_of ls)
number_there [] l h = absurd h
number_there (m ∷ ms) l (inl same) =
    let one = equals_same l.number.0 in
    let at : equals l.number.0 m.number.0 ≡ equals l.number.0 l.number.0 = ap (λ (z : ThreadLog). equals l.number.0 z.number.0) same in
    omega (arith, one, at, sum_by-cons (equals l.number.0) m.number.0 (numbers_of ms))
number_there (m ∷ ms) l (inr h) = let a = number_there ms l h in omega (arith, a, sum_by-cons (equals l.number.0) m.number.0 (numbers_of ms))

number_lower : (k n : ℕ) (ls : List ThreadLog) → NumbersRiseFrom k ls → n < k → sum_by (equals n) (numbers_of ls) ≡ 0
number_lower k n [] r less = refl
number_lower k n (l ∷ ls) r less =
    let b = r.0 in
    let none = equals_other n l.number.0 (λ same. omega (arith, same, b, less)) in
    let more = number_lower (suc l.number.0) n ls r.1 (omega (arith, b, less)) in
    omega (arith, none, more, sum_by-cons (equals n) l.number.0 (numbers_of ls))

pub number_once : (k n : ℕ) (ls : List ThreadLog) → NumbersRiseFrom k ls → sum_by (equals n) (numbers_of ls) ≤ 1
number_once k n [] r = omega arith
number_once k n (l ∷ ls) r = elim (equals_cases n l.number.0) [
  | inl hit ↦
      let same = hit.0 in
      let one = hit.1 in
      let none = number_lower (suc l.number.0) n ls r.1 (omega (arith, same)) in
      omega (arith, one, none, sum_by-cons (equals n) l.number.0 (numbers_of ls))
  | inr miss ↦
      let none = miss.1 in
      let more = number_once (suc l.number.0) n ls r.1 in
      omega (arith, none, more, sum_by-cons (equals n) l.number.0 (numbers_of ls))
]

pub one_log : (k : ℕ) (ls : List ThreadLog) (a b : ThreadLog) → NumbersRiseFrom k ls → Has ls a → Has ls b → a.number.0 ≡ b.number.0 → a ≡ b
one_log k [] a b r h g same = absurd h
one_log k (l ∷ ls) a b r (inl p) (inl q) same = sym p ∙ q
one_log k (l ∷ ls) a b r (inl p) (inr g) same =
    let above = number_above (suc l.number.0) ls b r.1 g in
    let at = ap (λ (z : ThreadLog). z.number.0) p in absurd (omega (arith, above, at, same))
one_log k (l ∷ ls) a b r (inr h) (inl q) same =
    let above = number_above (suc l.number.0) ls a r.1 h in
    let at = ap (λ (z : ThreadLog). z.number.0) q in absurd (omega (arith, above, at, same))
one_log k (l ∷ ls) a b r (inr h) (inr g) same = one_log (suc l.number.0) ls a b r.1 h g same

pub entries_there : (k : ℕ) (ls : List ThreadLog) (l : ThreadLog) → NumbersRiseFrom k ls → Has ls l → entries_of ls l.number.0 ≡ l.entries
entries_there k [] l r h = absurd h
entries_there k (m ∷ ms) l r (inl same) = elim (eqb_tells m.number.0 l.number.0) [
  | inl hit ↦ rw hit.0 (ap (λ (z : ThreadLog). z.entries) same)
  | inr miss ↦ absurd (miss.1 (ap (λ (z : ThreadLog). z.number.0) same))
]
entries_there k (m ∷ ms) l r (inr h) = elim (eqb_tells m.number.0 l.number.0) [
  | inl hit ↦ (let above = number_above (suc m.number.0) ms l r.1 h in let at = hit.1 in absurd (omega (arith, above, at)))
  | inr miss ↦ rw miss.0 (entries_there (suc m.number.0) ms l r.1 h)
]

pub end_there : (k : ℕ) (ls : List ThreadLog) (l : ThreadLog) → NumbersRiseFrom k ls → Has ls l → end_of ls l.number.0 ≡ l.«end»
end_there k [] l r h = absurd h
end_there k (m ∷ ms) l r (inl same) = elim (eqb_tells m.number.0 l.number.0) [
  | inl hit ↦ rw hit.0 (ap (λ (z : ThreadLog). z.«end») same)
  | inr miss ↦ absurd (miss.1 (ap (λ (z : ThreadLog). z.number.0) same))
]
end_there k (m ∷ ms) l r (inr h) = elim (eqb_tells m.number.0 l.number.0) [
  | inl hit ↦ (let above = number_above (suc m.number.0) ms l r.1 h in let at = hit.1 in absurd (omega (arith, above, at)))
  | inr miss ↦ rw miss.0 (end_there (suc m.number.0) ms l r.1 h)
]

-- so many logs, in another order ---------------------------------------------------

-- the logs that are chosen, by their numbers: 1 for a chosen one
record Chosen (P : ThreadLog → Type 0) (n : ℕ) (ls : List ThreadLog) : Type 0 where
  mark : ℕ → ℕ
  one : (k : ℕ) → (mark k ≡ 0) ⊎ (mark k ≡ 1)
  so : (l : ThreadLog) → Has ls l → mark l.number.0 ≡ 1 → P l
  away : (k : ℕ) → sum_by (equals k) (numbers_of ls) ≡ 0 → mark k ≡ 0
  many : n ≤ sum_by mark (numbers_of ls)

zero_one : {B : Type 0} (n : ℕ) → n ≡ 0 → n ≡ 1 → B
zero_one n none one = absurd (omega (arith, none, one))

abbrev with_mark : ℕ → (ℕ → ℕ) → ℕ → ℕ
with_mark k f m = cond (m == k) 1 (f m)

mark_here : (k : ℕ) (f : ℕ → ℕ) → with_mark k f k ≡ 1
mark_here k f = elim (eqb_tells k k) [ inl hit ↦ ap (λ b. cond b 1 (f k)) hit.0 | inr miss ↦ absurd (miss.1 refl) ]

mark_else : (k m : ℕ) (f : ℕ → ℕ) → m ≢ k → with_mark k f m ≡ f m
mark_else k m f apart = elim (eqb_tells m k) [ inl hit ↦ absurd (apart hit.1) | inr miss ↦ ap (λ b. cond b 1 (f m)) miss.0 ]

-- a number that stands in none of these logs
not_number : (k : ℕ) (ls : List ThreadLog) (l : ThreadLog) → sum_by (equals k) (numbers_of ls) ≡ 0 → Has ls l → l.number.0 ≢ k
not_number k ls l none h same =
    let some = number_there ls l h in
    let at : sum_by (equals l.number.0) (numbers_of ls) ≡ sum_by (equals k) (numbers_of ls) = ap (λ m. sum_by (equals m) (numbers_of ls)) same in
    absurd (omega (arith, none, some, at))

marked_else : (f : ℕ → ℕ) (k : ℕ) (ls : List ThreadLog) → ((l : ThreadLog) → Has ls l → l.number.0 ≢ k) → sum_by (with_mark k f) (numbers_of ls) ≡ sum_by f (numbers_of ls)
marked_else f k [] apart = refl
marked_else f k (l ∷ ls) apart =
    let here = mark_else k l.number.0 f (apart l (inl refl)) in
    let more = marked_else f k ls (λ m h. apart m (inr h)) in
    omega (arith, here, more, sum_by-cons (with_mark k f) l.number.0 (numbers_of ls), sum_by-cons f l.number.0 (numbers_of ls))

so_marked : (P : ThreadLog → Type 0) (f : ℕ → ℕ) (l : ThreadLog) (ls : List ThreadLog) → P l → ((m : ThreadLog) → Has ls m → f m.number.0 ≡ 1 → P m) → ((m : ThreadLog) → Has ls m → m.number.0 ≢ l.number.0)
    → (x : ThreadLog) → Has (l ∷ ls) x → with_mark l.number.0 f x.number.0 ≡ 1 → P x
so_marked P f l ls first so apart x (inl same) is = subst P same first
so_marked P f l ls first so apart x (inr h) is = so x h (sym (mark_else l.number.0 x.number.0 f (apart x h)) ∙ is)

so_unmarked : (P : ThreadLog → Type 0) (f : ℕ → ℕ) (l : ThreadLog) (ls : List ThreadLog) → f l.number.0 ≡ 0 → ((m : ThreadLog) → Has ls m → f m.number.0 ≡ 1 → P m)
    → (x : ThreadLog) → Has (l ∷ ls) x → f x.number.0 ≡ 1 → P x
so_unmarked P f l ls none so x (inl same) is = zero_one (f l.number.0) none (ap (λ (z : ThreadLog). f z.number.0) same ∙ is)
so_unmarked P f l ls none so x (inr h) is = so x h is

choose : (P : ThreadLog → Type 0) (n : ℕ) (ls : List ThreadLog) → ((k : ℕ) → sum_by (equals k) (numbers_of ls) ≤ 1) → AtLeast P n ls → Chosen P n ls
choose P zero ls once h = record { mark = λ k. 0; one = λ k. inl refl; so = λ l g is. zero_one 0 refl is; away = λ k none. refl; many = omega arith }
choose P (suc n) [] once h = absurd h
choose P (suc n) (l ∷ ls) once (inl h) =
    let few : (k : ℕ) → sum_by (equals k) (numbers_of ls) ≤ 1 = λ k. (let o = once k in omega (arith, o, sum_by-cons (equals k) l.number.0 (numbers_of ls))) in
    let c = choose P n ls few h.1 in
    let o = once l.number.0 in
    let same = equals_same l.number.0 in
    let none : sum_by (equals l.number.0) (numbers_of ls) ≡ 0 = omega (arith, o, same, sum_by-cons (equals l.number.0) l.number.0 (numbers_of ls)) in
    let apart : (m : ThreadLog) → Has ls m → m.number.0 ≢ l.number.0 = λ m g. not_number l.number.0 ls m none g in
    let more = marked_else c.mark l.number.0 ls apart in
    let here = mark_here l.number.0 c.mark in
    let m = c.many in
    record {
      mark = with_mark l.number.0 c.mark;
      one = λ k. elim (eqb_tells k l.number.0) [
        | inl hit ↦ inr (ap (λ b. cond b 1 (c.mark k)) hit.0)
        | inr miss ↦ elim (c.one k) [ inl z ↦ inl (ap (λ b. cond b 1 (c.mark k)) miss.0 ∙ z) | inr w ↦ inr (ap (λ b. cond b 1 (c.mark k)) miss.0 ∙ w) ]
      ];
      so = so_marked P c.mark l ls h.0 c.so apart;
      away = λ k gone.
          (let other : l.number.0 ≢ k = not_number k (l ∷ ls) l gone (inl refl) in
          mark_else l.number.0 k c.mark (λ is. other (sym is)) ∙ c.away k (omega (arith, gone, sum_by-cons (equals k) l.number.0 (numbers_of ls))));
      many = omega (arith, m, more, here, sum_by-cons (with_mark l.number.0 c.mark) l.number.0 (numbers_of ls));
    }
choose P (suc n) (l ∷ ls) once (inr h) =
    let few : (k : ℕ) → sum_by (equals k) (numbers_of ls) ≤ 1 = λ k. (let o = once k in omega (arith, o, sum_by-cons (equals k) l.number.0 (numbers_of ls))) in
    let c = choose P (suc n) ls few h in
    let o = once l.number.0 in
    let same = equals_same l.number.0 in
    let none : sum_by (equals l.number.0) (numbers_of ls) ≡ 0 = omega (arith, o, same, sum_by-cons (equals l.number.0) l.number.0 (numbers_of ls)) in
    let off = c.away l.number.0 none in
    let m = c.many in
    record {
      mark = c.mark;
      one = c.one;
      so = so_unmarked P c.mark l ls off c.so;
      away = λ k gone. c.away k (omega (arith, gone, sum_by-cons (equals k) l.number.0 (numbers_of ls)));
      many = omega (arith, m, off, sum_by-cons c.mark l.number.0 (numbers_of ls));
    }

chosen_many : (P : ThreadLog → Type 0) (f : ℕ → ℕ) (ls : List ThreadLog) → ((k : ℕ) → (f k ≡ 0) ⊎ (f k ≡ 1)) → ((l : ThreadLog) → Has ls l → f l.number.0 ≡ 1 → P l) → AtLeast P (sum_by f (numbers_of ls)) ls
chosen_many P f [] one so = tt
chosen_many P f (l ∷ ls) one so =
    let rest = chosen_many P f ls one (λ m h. so m (inr h)) in
    elim (one l.number.0) [
      | inl z ↦
          let eq : sum_by f (numbers_of ls) ≡ sum_by f (numbers_of (l ∷ ls)) = omega (arith, z, sum_by-cons f l.number.0 (numbers_of ls)) in
          subst (λ n. AtLeast P n (l ∷ ls)) eq (at_least_later P (sum_by f (numbers_of ls)) l ls rest)
      | inr w ↦
          let eq : suc (sum_by f (numbers_of ls)) ≡ sum_by f (numbers_of (l ∷ ls)) = omega (arith, w, sum_by-cons f l.number.0 (numbers_of ls)) in
          subst (λ n. AtLeast P n (l ∷ ls)) eq (inl (so l (inl refl) w, rest))
    ]

pub at_least_fewer : (P : ThreadLog → Type 0) (n m : ℕ) (ls : List ThreadLog) → n ≤ m → AtLeast P m ls → AtLeast P n ls
at_least_fewer P zero m ls le h = tt
at_least_fewer P (suc n) zero ls le h = absurd (omega (arith, le))
at_least_fewer P (suc n) (suc m) [] le h = absurd h
at_least_fewer P (suc n) (suc m) (l ∷ ls) le (inl h) = inl (h.0, at_least_fewer P n m ls (omega (arith, le)) h.1)
at_least_fewer P (suc n) (suc m) (l ∷ ls) le (inr h) = inr (at_least_fewer P (suc n) (suc m) ls le h)

pub at_least_moved : (P : ThreadLog → Type 0) (n : ℕ) (xs ys : List ThreadLog) → ((k : ℕ) → sum_by (equals k) (numbers_of xs) ≤ 1) → IsPermutation xs ys → AtLeast P n xs → AtLeast P n ys
at_least_moved P n xs ys once p h =
    let c = choose P n xs once h in
    let m = c.many in
    at_least_fewer P n (sum_by c.mark (numbers_of ys)) ys (omega (arith, m, numbers_moved c.mark xs ys p))
    (chosen_many P c.mark ys c.one (λ l g is. c.so l (moved ys xs (IsPermutation-sym xs ys p) l g) is))
