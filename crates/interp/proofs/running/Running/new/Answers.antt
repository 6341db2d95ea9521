use Rattle.std.proofs.Common.{◌∙◌}
use Rattle.interp.proofs.Closing.{first_goes}
use Rattle.interp.proofs.running.Running.new.Goals as goal

pub returns-clause-on : goal.returns-clause-on
returns-clause-on g c =
    first_goes g.T.Thread.setting g.T.Thread.state c.args.space.now
    (record { number = c.args.number; function = c.args.function; machine = c.args.machine; desk = c.args.desk; entries = c.new.result; kids = c.new-2.result; trees = c.new-3.result; began = c.of-began.result; start = c.of-start.result; hosts = c.of.result })
    (g.H.HostCalls.table c.args.hosts.now) c.requires.first c.of-began.ensures c.of-start.ensures (c.of.ensures ∙ c.table.ensures) c.new.ensures.items c.new-2.ensures.items c.new-3.ensures.items c.new-3.ensures.len c.new-2.ensures.len
