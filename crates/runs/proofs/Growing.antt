-- What is said of logs is said of more logs; so trees are put together.
use Rattle.std.proofs.Common.{◌≡◌, ℕ, zero, suc, ◌+◌, ◌≤◌, List, [], ◌∷◌, ◌++◌, refl, sym, ap, subst, inl, inr, arith, sum_by}
use Rattle.std.specs.Prelude.{Some}
use Rattle.std.specs.List.{flat_map}
use Rattle.std.specs.declared.option.Option.{Option}
use Rattle.std.proofs.lemmas.List.Sums.{sum_by-cons, sum_by-append}
use Rattle.bsan_ids.specs.declared.numbers.Limits.{Limits}
use Rattle.bsan_ids.specs.declared.numbers.ThreadNo.{ThreadNo}
use Rattle.history.specs.declared.entry.Entry.{Entry}
use Rattle.history.specs.declared.log.ThreadLog.{ThreadLog}
use Rattle.runs.specs.Interleaving.{Allowed}
use Rattle.runs.specs.Machine.{Machine, Memory}
use Rattle.runs.specs.Parts.{Has, child_of}
use Rattle.runs.specs.Right.{AtLeast}
use Rattle.runs.specs.Tree.{children_of, started_by, IsFamily, IsStarted, IsJoined, HasStopped, IsTree}
use Rattle.runs.proofs.Counting.{at_least_later}
use Rattle.runs.proofs.LogLists.{entry_weighs, some_log}
use Rattle.runs.proofs.Weights.{equals, equals_same, sum_flat}

module _ (xs ys : List ThreadLog) (more : (l : ThreadLog) → Has xs l → Has ys l) where
  pub family_more : (first : ThreadLog) (family : List ThreadLog) → IsFamily xs first family → IsFamily ys first family
  family_more first family f = record { own = f.own; among = λ l h. more l (f.among l h); closed = f.closed }

  pub started_more : (log : ThreadLog) → IsStarted xs log → IsStarted ys log
  started_more log s = record {
    parent = s.parent;
    there = more s.parent s.there;
    names_parent = s.names_parent;
    above = s.above;
    spawn = s.spawn;
    stands = s.stands;
    request = s.request;
    answers = s.answers;
    family = s.family;
    is_family = family_more log s.family s.is_family;
    later = s.later;
  }

  pub joined_more : (es fs : List Entry) (e : Entry) (c : ThreadNo) → ((x : Entry) → Has es x → Has fs x) → IsJoined xs es e c → IsJoined ys fs e c
  joined_more es fs e c longer j = record {
    child = j.child;
    number = j.number;
    word = j.word;
    value = j.value;
    returned = j.returned;
    spawn = j.spawn;
    stands = longer j.spawn j.stands;
    answers = j.answers;
    after_spawn = j.after_spawn;
    family = j.family;
    is_family = family_more j.child j.family j.is_family;
    earlier = j.earlier;
  }

  pub stopped_more : (c : ThreadNo) → HasStopped xs c → HasStopped ys c
  stopped_more c s = record { child = s.child; there = more s.child s.there; number = s.number; other = s.other }

-- logs of two lists
pub at_least_both : (P : ThreadLog → Type 0) (n m : ℕ) (xs ys : List ThreadLog) → AtLeast P n xs → AtLeast P m ys → AtLeast P (n + m) (xs ++ ys)
at_least_both P zero m [] ys h g = let same : m ≡ 0 + m = omega arith in subst (λ k. AtLeast P k ys) same g
at_least_both P (suc n) m [] ys h g = absurd h
at_least_both P zero m (x ∷ xs) ys h g = at_least_later P (0 + m) x (xs ++ ys) (at_least_both P zero m xs ys tt g)
at_least_both P (suc n) m (x ∷ xs) ys (inl h) g =
    let same : suc (n + m) ≡ suc n + m = omega arith in
    subst (λ k. AtLeast P k (x ∷ (xs ++ ys))) same (inl (h.0, at_least_both P n m xs ys h.1 g))
at_least_both P (suc n) m (x ∷ xs) ys (inr h) g = at_least_later P (suc n + m) x (xs ++ ys) (at_least_both P (suc n) m xs ys h g)

child_weighs : (ls : List ThreadLog) (l : ThreadLog) (e : Entry) (c : ℕ) → Has ls l → Has l.entries e → child_of e ≡ Some c → 1 ≤ sum_by (equals c) (flat_map children_of ls)
child_weighs [] l e c h g is = absurd h
child_weighs (m ∷ ms) l e c (inl same) g is =
    let w : Entry → ℕ = λ x. sum_by (equals c) (started_by (child_of x)) in
    let a = entry_weighs w m.entries e (subst (λ (z : ThreadLog). Has z.entries e) (sym same) g) in
    let b : w e ≡ sum_by (equals c) (c ∷ []) = ap (λ (o : Option ℕ). sum_by (equals c) (started_by o)) is in
    let one = equals_same c in
    omega (arith, a, b, one, sum_by-cons (equals c) c [], sum_by-append (equals c) (children_of m) (flat_map children_of ms), sum_flat (equals c) (λ (x : Entry). started_by (child_of x)) m.entries)
child_weighs (m ∷ ms) l e c (inr h) g is =
    let a = child_weighs ms l e c h g is in
    omega (arith, a, sum_by-append (equals c) (children_of m) (flat_map children_of ms))

-- a tree's logs are the family of its first thread
pub tree_family : (M : Machine) (O : Memory) (A : Allowed) (limits : Limits) (number : ThreadNo) (parent : Option ThreadNo) (function : ℕ) (first : M.State) (seen : ℕ) (logs : List ThreadLog) (idle_allocs idle_threads : List ℕ)
    → (t : IsTree M O A limits number parent function first seen logs idle_allocs idle_threads) → IsFamily logs t.own logs
tree_family M O A limits number parent function first seen logs idle_allocs idle_threads t = record {
  own = subst (λ ls. Has ls t.own) (sym t.parts) (inl refl);
  among = λ l h. h;
  closed = λ l e c h g is.
      (let a = child_weighs logs l e c h g is in
      let b = t.children (equals c) in
      let found = some_log t.below c (omega (arith, a, b)) in
      (found.0, subst (λ ls. Has ls found.0) (sym t.parts) (inr found.1), found.2));
}
