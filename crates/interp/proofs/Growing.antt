-- What is said of logs among logs is said of them among more.
use Rattle.std.proofs.Common.{◌≡◌, ℕ, ◌≤◌, List, [], ◌∷◌, refl, sym, ◌∙◌, ap, subst, inl, inr, arith, sum_by}
use Rattle.std.specs.List.{flat_map}
use Rattle.bsan_ids.specs.declared.numbers.Limits.{Limits}
use Rattle.bsan_ids.specs.declared.numbers.ThreadNo.{ThreadNo}
use Rattle.history.specs.declared.entry.Entry.{Entry}
use Rattle.history.specs.declared.log.End.{End}
use Rattle.history.specs.declared.log.End.TheVariants as log_end
use Rattle.history.specs.declared.log.ThreadLog.{ThreadLog}
use Rattle.runs.specs.Interleaving.{Allowed}
use Rattle.runs.specs.Machine.{Machine, Memory}
use Rattle.runs.specs.Parts.{Has, child_of}
use Rattle.runs.specs.Tree.{started_by, EndAbove, AreAbove, IsFamily, IsStarted, IsJoined, HasStopped, IsTree}
use Rattle.runs.proofs.LogLists.{log_weighs, some_log, weigh_children}
use Rattle.runs.proofs.MergeLaws.{rises_lower}
use Rattle.runs.proofs.Weights.{equals, equals_same}
use Rattle.std.proofs.lemmas.List.Sums.{sum_by-cons}

module _ (xs ys : List ThreadLog) (logs : (l : ThreadLog) → Has xs l → Has ys l) where
  pub family_more : (first : ThreadLog) (family : List ThreadLog) → IsFamily xs first family → IsFamily ys first family
  family_more first family f = record { own = f.own; among = λ l h. logs l (f.among l h); closed = f.closed }

  pub join_more : (es fs : List Entry) (e : Entry) (c : ThreadNo) → ((x : Entry) → Has es x → Has fs x) → IsJoined xs es e c → IsJoined ys fs e c
  join_more es fs e c more j = record {
    child = j.child;
    number = j.number;
    word = j.word;
    value = j.value;
    returned = j.returned;
    spawn = j.spawn;
    stands = more j.spawn j.stands;
    answers = j.answers;
    after_spawn = j.after_spawn;
    family = j.family;
    is_family = family_more j.child j.family j.is_family;
    earlier = j.earlier;
  }

  pub end_more : (c : ThreadNo) → HasStopped xs c → HasStopped ys c
  end_more c j = record { child = j.child; there = logs j.child j.there; number = j.number; other = j.other }

  pub start_more : (l : ThreadLog) → IsStarted xs l → IsStarted ys l
  start_more l s = record {
    parent = s.parent;
    there = logs s.parent s.there;
    names_parent = s.names_parent;
    above = s.above;
    spawn = s.spawn;
    stands = s.stands;
    request = s.request;
    answers = s.answers;
    family = s.family;
    is_family = family_more l s.family s.is_family;
    later = s.later;
  }

-- stamps above a greater one are above a lower one
pub end_lower : (n k : ℕ) (e : End) → n ≤ k → EndAbove k e → EndAbove n e
end_lower n k (log_end.StepLimit s) le h = omega (arith, le, h)
end_lower n k _ le h = tt

pub above_lower : (n k : ℕ) (ls : List ThreadLog) → n ≤ k → AreAbove k ls → AreAbove n ls
above_lower n k ls le all l h = let a = all l h in (rises_lower n k l.entries le a.0, end_lower n k l.«end» le a.1)

-- a tree has the logs of the threads that its entries start
pub tree_closed : (M : Machine) (O : Memory) (A : Allowed) (limits : Limits) (number : ThreadNo) (parent : Rattle.std.specs.declared.option.Option.Option ThreadNo) (function : ℕ) (first : M.State) (seen : ℕ) (logs : List ThreadLog) (is js : List ℕ)
    → (t : IsTree M O A limits number parent function first seen logs is js) → IsFamily logs t.own logs
tree_closed M O A limits number parent function first seen logs is js t = record {
  own = subst (λ xs. Has xs t.own) (sym t.parts) (inl refl);
  among = λ l h. h;
  closed = λ l e c h g child.
      let w : Entry → ℕ = λ x. sum_by (equals c) (started_by (child_of x)) in
      let one : w e ≡ sum_by (equals c) (c ∷ []) = ap (λ o. sum_by (equals c) (started_by o)) child in
      let some = log_weighs w logs l e h g in
      let same = equals_same c in
      let none : sum_by (equals c) [] ≡ 0 = refl in
      let total = weigh_children (equals c) logs ∙ t.children (equals c) in
      let f = some_log t.below c (omega (arith, one, some, same, none, total, sum_by-cons (equals c) c [])) in
      (f.0, subst (λ xs. Has xs f.0) (sym t.parts) (inr f.1), f.2);
}
