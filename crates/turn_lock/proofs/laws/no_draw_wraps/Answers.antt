use Rattle.turn_lock.proofs.Differing.{no_draw_wraps}
use Rattle.turn_lock.proofs.laws.no_draw_wraps.Goals as goal

pub returns : goal.returns
returns g c = λ s rule. no_draw_wraps s rule
