use Rattle.std.proofs.Common.{◌<◌, arith}
use Rattle.record_file.proofs.Feeding.{comes_end, comes_more, comes_not, not_turned, turned_more, turned_on}
use Rattle.record_file.proofs.feed.come_to.Goals as goal

pub returns-then-not-branch-clause-comes : goal.returns-then-not-branch-clause-comes
returns-then-not-branch-clause-comes c = λ last settles is. (
    let t = c.loop-machine.machine in
    let inv = c.loop-machine.invariant in
    let less : t.thread.count < c.args.count = omega (arith, c.instructions.ensures, c.loop-machine-test.true) in
    comes_not c.args.machine.now.setting c.args.turns c.args.count t inv.0.setting less last (inv.1 last settles is) is
    (not_turned c.in_ok-turn_on.field-0 t.setting c.args.turns t.thread c.turn_on.new.machine.thread c.if-not-branch.true c.in_ok-turn_on.ensures.turned))

pub loop-machine-preserved : goal.loop-machine-preserved
loop-machine-preserved c =
    let t = c.loop-machine.machine in
    let inv = c.loop-machine.invariant in
    let less : t.thread.count < c.args.count = omega (arith, c.instructions.ensures, c.loop-machine-test.true) in
    let on = turned_on c.in_ok-turn_on.field-0 t.setting c.args.turns t.thread c.turn_on.new.machine.thread c.if-not-branch.false c.in_ok-turn_on.ensures.turned in (
      turned_more c.args.machine.now.setting c.args.turns c.args.machine.now.thread t c.turn_on.new.machine inv.0 on.0 on.1 c.in_ok-turn_on.ensures.setting on.2,
      λ last settles is. comes_more c.args.machine.now.setting c.args.turns c.args.count t inv.0.setting less last (inv.1 last settles is) is c.turn_on.new.machine.thread on.2,
    )

pub returns-clause-comes : goal.returns-clause-comes
returns-clause-comes c =
    let inv = c.loop-machine.invariant in
    comes_end c.args.machine.now.setting c.args.turns c.args.machine.now.thread c.args.count c.instructions-2.result c.loop-machine.machine inv.0 inv.1 c.instructions-2.ensures
    (omega (arith, c.instructions.ensures, c.instructions-2.ensures, c.loop-machine-test.false))
