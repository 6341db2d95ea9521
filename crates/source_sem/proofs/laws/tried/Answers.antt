use Rattle.std.proofs.Common.{refl}
use Rattle.source_sem.proofs.laws.tried.Goals as goal

pub returns : goal.returns
returns c = record { make = refl; call = refl; entry = refl; entry_site = refl; store = refl; protector = refl; load = refl; load_site = refl; free = refl; ended = refl; last = refl; count = refl }
