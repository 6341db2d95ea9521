use Rattle.std.proofs.Common.{rules, ◌≡◌, ◌≤◌, length, arith}
use Rattle.history.proofs.Same.{same_items}
use Rattle.record_file.proofs.same.are_same_logs.Goals as goal

pub returns : goal.returns
returns c =
    let long : length c.args.logs.now ≡ length c.args.others.now = search rules in
    let whole : length c.args.logs.now ≤ c.loop-at.at = omega (arith, c.loop-at-test.false) in (
      λ _. same_items c.args.logs.now c.args.others.now long (λ k less. c.loop-at.invariant k (omega (arith, less, whole))),
      λ _. search rules,
    )
