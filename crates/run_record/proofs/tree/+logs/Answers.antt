use Rattle.std.proofs.Common.{append_assoc}
use Rattle.run_record.specs.Flatten.{all_logs, all_logs_more}
use Rattle.run_record.proofs.tree.+logs.Goals as goal

pub append_logs-loop-child-preserved : goal.append_logs-loop-child-preserved
append_logs-loop-child-preserved t c =
    rw (all_logs_more, c.in_ok-into_logs.ensures, c.loop-child.invariant) (append_assoc c.args.into.now.items (all_logs c.loop-child.yielded) c.in-Some.child)
