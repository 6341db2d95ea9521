use Rattle.std.proofs.Common.{◌≡◌, ◌≤◌, length, sym, arith}
use Rattle.ll_text.proofs.Steps.{after_cut, after_skip, at_bad, at_end, step_fits, skip_fits}
use Rattle.ll_text.proofs.lexer.tokens.Goals as goal

pub loop-at-preserved-in-Skip : goal.loop-at-preserved-in-Skip
loop-at-preserved-in-Skip c =
    record {
      inside = (skip_fits c.args.text.now c.loop-at.at c.in-Skip.len c.loop-at-test.true (sym c.in-Skip.ensures)).1;
      so_far = after_skip c.args.text.now c.loop-at.at c.in-Skip.len c.loop-at.found.items c.loop-at-test.true (sym c.in-Skip.ensures) c.loop-at.invariant.so_far;
    }

pub overflow_cast-span-in-Token : goal.overflow_cast-span-in-Token
overflow_cast-span-in-Token c =
    let f = step_fits c.args.text.now c.loop-at.at c.in-Token.len c.in-Token.kind c.loop-at-test.true (sym c.in-Token.ensures) in
    omega (arith, f.1, c.requires)

pub overflow_add-at-in-Token : goal.overflow_add-at-in-Token
overflow_add-at-in-Token c =
    let f = step_fits c.args.text.now c.loop-at.at c.in-Token.len c.in-Token.kind c.loop-at-test.true (sym c.in-Token.ensures) in
    omega (arith, f.1, c.requires)

pub loop-at-smaller : goal.loop-at-smaller
loop-at-smaller c =
    let f = step_fits c.args.text.now c.loop-at.at c.in-Token.len c.in-Token.kind c.loop-at-test.true (sym c.in-Token.ensures) in
    omega (arith, f.0, f.1)

pub loop-at-preserved : goal.loop-at-preserved
loop-at-preserved c =
    record {
      inside = (step_fits c.args.text.now c.loop-at.at c.in-Token.len c.in-Token.kind c.loop-at-test.true (sym c.in-Token.ensures)).1;
      so_far = rw c.in_ok-push-in-Token.ensures.items (after_cut c.args.text.now c.loop-at.at c.in-Token.len c.in-Token.kind c.loop-at.found.items c.loop-at-test.true (sym c.in-Token.ensures) c.loop-at.invariant.so_far);
    }

pub returns-in-Bad-clause-bad : goal.returns-in-Bad-clause-bad
returns-in-Bad-clause-bad c = at_bad c.args.text.now c.loop-at.at c.loop-at.found.items c.loop-at-test.true (sym c.in-Bad.ensures) c.loop-at.invariant.so_far

pub returns-clause-tokens : goal.returns-clause-tokens
returns-clause-tokens c =
    let le : c.loop-at.at ≤ length c.args.text.now = c.loop-at.invariant.inside in
    let ge : length c.args.text.now ≤ c.loop-at.at = c.loop-at-test.false in
    let e : c.loop-at.at ≡ length c.args.text.now = omega arith in
    at_end c.args.text.now c.loop-at.at c.loop-at.found.items e c.loop-at.invariant.so_far

pub overflow_add-at : goal.overflow_add-at
overflow_add-at c =
    let f = skip_fits c.args.text.now c.loop-at.at c.in-Skip.len c.loop-at-test.true (sym c.in-Skip.ensures) in
    omega (arith, f.1, c.requires)

pub loop-at-smaller-in-Skip : goal.loop-at-smaller-in-Skip
loop-at-smaller-in-Skip c =
    let f = skip_fits c.args.text.now c.loop-at.at c.in-Skip.len c.loop-at-test.true (sym c.in-Skip.ensures) in
    omega (arith, f.0, f.1)
