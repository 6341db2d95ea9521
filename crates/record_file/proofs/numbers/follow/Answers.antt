use Rattle.std.proofs.Common.{◌≡◌, ◌↔◌, true, List, ℕ, length, subst}
use Rattle.std.proofs.lemmas.List.Sorted.{IsNonDecreasingBy-from_sort}
use Rattle.runs.specs.Right.{counting_from}
use Rattle.record_file.proofs.Counted.{follow_iff}
use Rattle.record_file.proofs.numbers.follow.Goals as goal

pub returns : goal.returns
returns c =
    let ys = c.sort_unstable.new.self.items in
    let iff = follow_iff c.args.numbers.items ys c.args.first c.sort_unstable.ensures.permutation (IsNonDecreasingBy-from_sort (λ x. x) ys c.sort_unstable.ensures.sorted) in
    let counts : (c.count_from.result ≡ true) ↔ (ys ≡ counting_from c.args.first (length ys)) =
    subst (λ (zs : List ℕ). (c.count_from.result ≡ true) ↔ (zs ≡ counting_from c.args.first (length zs))) c.deref.ensures.value c.count_from.ensures in
    (λ t. iff.0 (counts.0 t), λ h. counts.1 (iff.1 h))
