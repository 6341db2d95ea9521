use Rattle.std.proofs.Common.{◌≡◌, List, All, rules, ap, subst, ◌∙◌}
use Rattle.std.specs.List.{filter_map}
use Rattle.std.proofs.lemmas.List.Sorted.{All-permutation, IsNonDecreasingBy-from_sort_by_key, answers_always}
use Rattle.history.specs.declared.log.AllocLog.{AllocLog}
use Rattle.history.specs.Merge.{by_stamp}
use Rattle.history.specs.Records.{first_violation}
use Rattle.explain.specs.Explanations.{IsExplainedIn}
use Rattle.explain.proofs.Listing.{key_of, sorted_violations}
use Rattle.explain.proofs.causes.explain.Goals as goal

pub returns : goal.returns
returns c =
    let logs = c.args.kept.now.allocs in
    let xs = c.in_ok-list.list.items in
    let ys = c.sort_by_key.new.self.items in
    let done = c.in_ok-sort_by_key.ensures in
    record {
      violations = sorted_violations xs ys
          (IsNonDecreasingBy-from_sort_by_key key_of _ done.sorted (λ a r q k. search rules))
          (done.stable key_of (answers_always _ (λ a r. r ≡ key_of a.0.now) _ (λ f a r q k. search rules)))
          ∙ ap by_stamp (c.in_ok-list.ensures.violations ∙ ap (filter_map first_violation) c.as_slice.ensures);
      each = subst (λ (ls : List AllocLog). All (IsExplainedIn ls) ys) c.as_slice.ensures
          (All-permutation (IsExplainedIn c.as_slice.result.now) xs ys done.permutation c.in_ok-list.ensures.each);
    }
