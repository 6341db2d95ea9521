use Rattle.std.proofs.Common.{arith}
use Rattle.run_memory.proofs.Stepping.{table_longer, stays_longer, state_here, asks_here, table_here}
use Rattle.run_memory.proofs.states.step_at.Goals as goal

pub reach-requires : goal.reach-requires
reach-requires c = omega (arith, c.requires.table.few)

pub returns-in-Err-clause-table : goal.returns-in-Err-clause-table
returns-in-Err-clause-table c = table_longer c.args.limits c.args.words.now c.args.number.0 c.args.states.now.items c.reach.new.states.items c.requires.table c.reach.ensures.longer c.requires.within

pub returns-in-Err-clause-asks : goal.returns-in-Err-clause-asks
returns-in-Err-clause-asks c = stays_longer c.args.limits c.args.words.now c.args.number.0 c.args.states.now.items c.reach.new.states.items c.reach.ensures.longer

pub step_on-requires-clause-earlier : goal.step_on-requires-clause-earlier
step_on-requires-clause-earlier c =
    (state_here c.args.limits c.args.words.now c.args.states.now.items c.reach.new.states.items c.args.number c.index_mut-state.result.now
    (record { table = c.requires.table; longer = c.reach.ensures.longer; above = c.requires.above; within = c.requires.within; reached = c.in-Ok.ensures.reached; item = c.index_mut-state.ensures.value })).earlier

pub step_on-requires-clause-once : goal.step_on-requires-clause-once
step_on-requires-clause-once c = λ is.
    (state_here c.args.limits c.args.words.now c.args.states.now.items c.reach.new.states.items c.args.number c.index_mut-state.result.now
    (record { table = c.requires.table; longer = c.reach.ensures.longer; above = c.requires.above; within = c.requires.within; reached = c.in-Ok.ensures.reached; item = c.index_mut-state.ensures.value })).undrawn (c.requires.once is)

pub returns-clause-table : goal.returns-clause-table
returns-clause-table c =
    table_here c.args.limits c.args.words.now c.args.states.now.items c.reach.new.states.items c.args.number c.index_mut-state.result.now
    (record { table = c.requires.table; longer = c.reach.ensures.longer; above = c.requires.above; within = c.requires.within; reached = c.in-Ok.ensures.reached; item = c.index_mut-state.ensures.value })
    c.step_on.new.words c.step_on.new.state c.args.origin.thread c.args.origin.site c.args.request c.step_on.result c.requires.once c.step_on.ensures

pub returns-clause-asks : goal.returns-clause-asks
returns-clause-asks c =
    asks_here c.args.limits c.args.words.now c.args.states.now.items c.reach.new.states.items c.args.number c.index_mut-state.result.now
    (record { table = c.requires.table; longer = c.reach.ensures.longer; above = c.requires.above; within = c.requires.within; reached = c.in-Ok.ensures.reached; item = c.index_mut-state.ensures.value })
    c.step_on.new.words c.step_on.new.state c.args.origin.thread c.args.origin.site c.args.request c.step_on.result c.step_on.ensures
