use Rattle.std.proofs.Common.{rules, ◌≡◌, ◌≤◌, length, arith}
use Rattle.history.proofs.Same.{same_items}
use Rattle.history.proofs.piece.Piece.equals.Goals as goal

pub returns : goal.returns
returns c =
    let long : length c.args.self.now ≡ length c.args.other.now = search rules in
    let whole : length c.args.self.now ≤ c.loop-at.at = omega (arith, c.loop-at-test.false, c.len-at-end.ensures.value) in (
      λ _. same_items c.args.self.now c.args.other.now long (λ k lt. c.loop-at.invariant k (omega (arith, lt, whole))),
      λ _. search rules,
    )
