use Rattle.runs.proofs.ObjectLaws.{objects_make_alone}
use Rattle.runs.proofs.makes_alone.Goals as goal

pub returns : goal.returns
returns c = objects_make_alone
