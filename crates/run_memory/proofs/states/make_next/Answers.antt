use Rattle.std.proofs.Common.{arith, sym, ◌∙◌}
use Rattle.run_memory.proofs.Numbered.{table_later}
use Rattle.run_memory.proofs.Stepping.{table_on}
use Rattle.run_memory.proofs.states.make_next.Goals as goal

pub returns-then-from-next-clause-table : goal.returns-then-from-next-clause-table
returns-then-from-next-clause-table c = table_later c.args.limits c.args.words.now _ c.args.states.now.items (omega arith) (omega arith) c.requires.table

pub returns-clause-table : goal.returns-clause-table
returns-clause-table c =
    table_on c.args.limits c.args.words.now c.step_at-step.new.words c.args.states.now.items c.step_at-step.new.states.items c.args.origin.thread c.args.origin.site c.args.size c.args.place
    (let le = c.if-from-next.false in let is = c.from.ensures in omega (arith, le, is)) c.step_at-step.result (sym c.is_out_of_memory.ensures ∙ c.if-is_out_of_memory.false) c.step_at-step.ensures.asks c.step_at-step.ensures.table
