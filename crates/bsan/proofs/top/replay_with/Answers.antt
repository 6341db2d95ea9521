use Rattle.std.proofs.Common.{rules}
use Rattle.instr_sound.proofs.Mains.{stands_at_main}
use Rattle.bsan.proofs.top.replay_with.Goals as goal

pub replay-requires-clause-main : goal.replay-requires-clause-main
replay-requires-clause-main g c =
    stands_at_main c.args.verified.now c.in_ok-target.target c.args.input.now c.args.hosts.now.table c.in_ok-main.main c.in_ok-main.machine
    c.in_ok-main.ensures.number c.in_ok-main.ensures.machine (search rules) c.type_inv.input
