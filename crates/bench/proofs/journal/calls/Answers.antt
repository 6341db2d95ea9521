use Rattle.std.proofs.Common.{subst, arith}
use Rattle.bench.specs.Journals.{Answers}
use Rattle.bench.proofs.Continuing.{no_calls, call_made, room_left}
use Rattle.bench.proofs.journal.calls.Goals as goal

pub loop-site-init : goal.loop-site-init
loop-site-init g c = (no_calls c.args.thread c.args.alloc c.args.desk.now, c.requires.room)

pub returns-then-stamp-gt-GREATEST_STAMP-clause-calls : goal.returns-then-stamp-gt-GREATEST_STAMP-clause-calls
returns-then-stamp-gt-GREATEST_STAMP-clause-calls g c =
    call_made c.args.thread c.args.alloc c.loop-site.site c.in-Ok.stamp c.args.desk.now c.loop-site.desk c.call.new.desk c.loop-site.invariant.0
    (subst (Answers c.args.thread c.loop-site.site c.args.alloc c.loop-site.desk c.call.new.desk) c.in-Ok.is c.call.ensures)

pub loop-site-preserved : goal.loop-site-preserved
loop-site-preserved g c =
    let made = subst (Answers c.args.thread c.loop-site.site c.args.alloc c.loop-site.desk c.call.new.desk) c.in-Ok.is c.call.ensures in (
      call_made c.args.thread c.args.alloc c.loop-site.site c.in-Ok.stamp c.args.desk.now c.loop-site.desk c.call.new.desk c.loop-site.invariant.0 made,
      room_left c.args.thread c.args.alloc 4000000 c.loop-site.site c.in-Ok.stamp c.loop-site.desk c.call.new.desk c.loop-site.invariant.1 made (omega arith),
    )
