use Rattle.std.proofs.Common.{get_or}
use Rattle.explain.proofs.Writing.{reportable, writable_in}
use Rattle.explain.proofs.text.explain_text.Goals as goal

pub all_lines-requires : goal.all_lines-requires
all_lines-requires c = λ k d lt. writable_in c.args.kept.now.allocs (get_or c.args.list.now k d) c.requires.histories (c.requires.list.each k d lt)

pub part-requires-clause-reportable : goal.part-requires-clause-reportable
part-requires-clause-reportable c = reportable c.args.kept.now c.requires.histories c.requires.distinct

pub part-requires-2-clause-reportable : goal.part-requires-2-clause-reportable
part-requires-2-clause-reportable c = reportable c.args.kept.now c.requires.histories c.requires.distinct

pub part-requires-3-clause-reportable : goal.part-requires-3-clause-reportable
part-requires-3-clause-reportable c = reportable c.args.kept.now c.requires.histories c.requires.distinct
