use Rattle.std.proofs.Common.{false, length, replicate, ap, ◌∙◌}
use Rattle.ir_assigned.proofs.Scan.{length_defined, length_blank}
use Rattle.ir_assigned.proofs.search.search.Goals as goal

pub entered-requires-clause-size : goal.entered-requires-clause-size
entered-requires-clause-size c = ap length (c.deref.ensures.value ∙ c.in_ok-stops.ensures) ∙ length_defined (replicate (length c.args.graph.now) false) c.args.mentions.now ∙ length_blank (length c.args.graph.now)
