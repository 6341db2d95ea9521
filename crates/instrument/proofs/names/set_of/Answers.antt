use Rattle.std.proofs.Common.{arith}
use Rattle.instrument.proofs.Sets.{one_more_at}
use Rattle.instrument.proofs.names.set_of.Goals as goal

pub loop-name-preserved : goal.loop-name-preserved
loop-name-preserved c =
    one_more_at c.args.names.now c.loop-name.set.keys c.insert.new.self.keys c.loop-name.name-index _ c.requires (omega arith) c.loop-name.invariant c.in_ok-insert.ensures.keys
