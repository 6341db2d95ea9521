use Rattle.suppress.proofs.Shown.{status_is}
use Rattle.suppress.proofs.text.held_status.Goals as goal

pub returns : goal.returns
returns g c = let e = status_is c.args.hold.now.rules c.args.kept.now in cc (e, c.status_by.ensures, c.status_of.ensures, c.is_any_shown.ensures, c.as_slice.ensures)
