use Rattle.std.proofs.Common.{refl}
use Rattle.source_sem.proofs.laws.tried_plain.Goals as goal

pub returns : goal.returns
returns c = record { call = refl; store = refl; ret = refl; load = refl; free = refl; ended = refl }
