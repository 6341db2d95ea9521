use Rattle.std.proofs.Common.{◌≡◌, rules}
use Rattle.std.proofs.lemmas.List.Sorted.{IsNonDecreasingBy-from_sort_by_key, answers_always}
use Rattle.history.specs.Merge.{stamp_of}
use Rattle.history.proofs.Sorted.{sorted_by_stamp}
use Rattle.history.proofs.merge.sort_by_stamp.Goals as goal

pub returns-clause-sorted : goal.returns-clause-sorted
returns-clause-sorted c =
    let done = c.in_ok-sort_by_key.ensures in
    sorted_by_stamp c.args.entries.now.items c.sort_by_key.new.self.items
    (IsNonDecreasingBy-from_sort_by_key stamp_of _ done.sorted (λ a r q k. search rules))
    (done.stable stamp_of (answers_always _ (λ a r. r ≡ stamp_of a.0.now) _ (λ f a r q k. search rules)))
