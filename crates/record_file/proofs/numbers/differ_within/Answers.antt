use Rattle.std.proofs.Common.{◌≡◌, ◌↔◌, ◌≤◌, true, List, ℕ, All, subst}
use Rattle.std.specs.List.Sorted.{IsStrictlyIncreasing}
use Rattle.std.proofs.lemmas.List.Sorted.{IsNonDecreasingBy-from_sort}
use Rattle.record_file.proofs.Counted.{differ_iff}
use Rattle.record_file.proofs.numbers.differ_within.Goals as goal

pub returns : goal.returns
returns c =
    let ys = c.sort_unstable.new.self.items in
    let most = c.args.most in
    let iff = differ_iff c.args.numbers.items ys most c.sort_unstable.ensures.permutation (IsNonDecreasingBy-from_sort (λ x. x) ys c.sort_unstable.ensures.sorted) in
    let rises : (c.rise_within.result ≡ true) ↔ (All (λ n. n ≤ most) ys × IsStrictlyIncreasing ys) =
    subst (λ (zs : List ℕ). (c.rise_within.result ≡ true) ↔ (All (λ n. n ≤ most) zs × IsStrictlyIncreasing zs)) c.deref.ensures.value c.rise_within.ensures in
    (λ t. iff.0 (rises.0 t), λ h. rises.1 (iff.1 h))
