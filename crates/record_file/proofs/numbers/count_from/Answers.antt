use Rattle.std.proofs.Common.{length, ap, ◌∙◌, List, ℕ, arith, refl}
use Rattle.std.specs.Prelude.{slice_index}
use Rattle.record_file.proofs.Counted.{counted_at, counts_on}
use Rattle.record_file.proofs.numbers.count_from.Goals as goal
use Rattle.record_file.proofs.numbers.count_from.Goals.{then-numbers-at-via-then-numbers-at, then-numbers-at-via-else-numbers-at+then-numbers-at-2}

pub returns-then-numbers-at : goal.returns-then-numbers-at
returns-then-numbers-at c = (
  λ f. absurd (cc),
  λ is. (
      let xs = c.args.numbers.now in
      let at = ap (λ (l : List ℕ). slice_index l c.loop-at.at) is ∙ counted_at c.args.first (length xs) c.loop-at.at (omega arith) in
      elim c.then-numbers-at.branch [
        | then-numbers-at-via-then-numbers-at w ↦ absurd (omega (arith, at, w.if-numbers-at.true))
        | then-numbers-at-via-else-numbers-at+then-numbers-at-2 w ↦ absurd (omega (arith, at, w.if-numbers-at.false, w.if-numbers-at-2.true))
      ]),
)

pub returns : goal.returns
returns c = (λ t. counts_on c.args.numbers.now c.args.first (λ i less. c.loop-at.invariant i (omega (arith, less))), λ is. refl)
