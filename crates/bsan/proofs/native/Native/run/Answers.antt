use Rattle.std.proofs.Common.{rules}
use Rattle.instr_sound.proofs.Mains.{stands_at_main}
use Rattle.bsan.proofs.native.Native.run.Goals as goal

pub run_program-requires-clause-main : goal.run_program-requires-clause-main
run_program-requires-clause-main g c κs within =
    stands_at_main c.args.verified.now c.in_ok-target.target c.args.input.now c.args.self.now.hosts.now.table c.in_ok-main.main c.in_ok-main.machine
    c.in_ok-main.ensures.number c.in_ok-main.ensures.machine (search rules) c.type_inv.input

pub run_program-requires-clause-limits : goal.run_program-requires-clause-limits
run_program-requires-clause-limits g c κs within = record { steps = c.requires.limits.few_steps; allocs = c.requires.limits.few_allocs }
