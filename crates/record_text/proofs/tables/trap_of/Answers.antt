use Rattle.record_text.specs.Tables.{memory_traps, other_traps}
use Rattle.record_text.proofs.Joined.{found_joined}
use Rattle.record_text.proofs.tables.trap_of.Goals as goal

pub returns : goal.returns
returns c = found_joined memory_traps other_traps c.args.word.now c.memory_trap.result c.other_trap.result c.or.result c.memory_trap.ensures c.other_trap.ensures c.or.ensures
