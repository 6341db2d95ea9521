use Rattle.std.proofs.Common.{◌≡◌, ◌∷◌, ◌++◌, [], All, List, Vec, Global, map, drop, Some, None, Option, MatchOption, sym, ap, subst, ◌∙◌}
use Rattle.std.specs.Option.{option_map}
use Rattle.std.specs.List.{filter_map}
use Rattle.std.proofs.lemmas.List.Elements.{All-append, All-cons, All-nil}
use Rattle.history.specs.Records.{first_violation}
use Rattle.explain.specs.declared.explained.Explained.{Explained}
use Rattle.explain.specs.Explanations.{IsExplainedBy, IsExplainedIn}
use Rattle.explain.proofs.Listing.{violation_of, listed_none, listed_some, explained_here}
use Rattle.explain.proofs.causes.explain_logs.Goals.{in-Some+in_ok-push, in_default}
use Rattle.explain.proofs.causes.explain_logs.Goals as goal

pub loop-log-preserved : goal.loop-log-preserved
loop-log-preserved c =
    let logs = c.args.logs.now in
    let i = c.loop-log.log-index in
    let log = c.log-item.result in
    let list = c.loop-log.list.items in
    let before = c.loop-log.invariant in
    elim c.match-branch-2.branch [
      | in-Some+in_ok-push w ↦
          let x = w.in-Some.explained in
          let pushed : c.match-branch-2.list.items ≡ list ++ x ∷ [] = ap (λ (v : Vec Explained Global). v.items) w.list-is ∙ w.in_ok-push.ensures.items in
          let found : Some x.violation ≡ first_violation log = ap (option_map violation_of) (sym w.in-Some.is) ∙ c.in_ok-explained.ensures.violation in
          let own : IsExplainedBy log x = subst (λ (o : Option Explained). MatchOption o (Unit {0}) (IsExplainedBy log)) w.in-Some.is c.in_ok-explained.ensures.explained in
          record {
            violations = listed_some logs i log list c.match-branch-2.list.items x (filter_map first_violation logs) c.loop-log-test.true c.log-item.is before.violations found pushed;
            each = subst (λ (xs : List Explained). All (IsExplainedIn logs) xs) (sym pushed)
                (All-append (IsExplainedIn logs) list (x ∷ []) before.each
                (All-cons (IsExplainedIn logs) x [] (explained_here logs i log x c.loop-log-test.true c.log-item.is own) (All-nil (IsExplainedIn logs))));
          }
      | in_default w ↦
          let kept : c.match-branch-2.list.items ≡ list = ap (λ (v : Vec Explained Global). v.items) w.list-is in
          let none : None ≡ first_violation log = ap (option_map violation_of) (sym w.in_default.is) ∙ c.in_ok-explained.ensures.violation in
          record {
            violations = listed_none logs i log c.match-branch-2.list.items (filter_map first_violation logs) c.loop-log-test.true c.log-item.is
                (subst (λ (xs : List Explained). map violation_of xs ++ filter_map first_violation (drop i logs) ≡ filter_map first_violation logs) (sym kept) before.violations) none;
            each = subst (λ (xs : List Explained). All (IsExplainedIn logs) xs) (sym kept) before.each;
          }
    ]
