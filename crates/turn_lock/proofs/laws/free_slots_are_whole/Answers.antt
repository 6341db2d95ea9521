use Rattle.turn_lock.proofs.laws.free_slots_are_whole.Goals as goal

pub returns : goal.returns
returns g c s kept = kept.home
