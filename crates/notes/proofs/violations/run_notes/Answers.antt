use Rattle.std.proofs.Common.{get_or}
use Rattle.explain.proofs.Writing.{writable_in}
use Rattle.notes.proofs.violations.run_notes.Goals as goal

pub push_violations-requires : goal.push_violations-requires
push_violations-requires c = λ k d lt. writable_in c.args.kept.now.allocs (get_or c.args.list.now k d) c.requires.histories (c.requires.list.each k d lt)
