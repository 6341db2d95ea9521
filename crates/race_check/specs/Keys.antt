-- What links two entries, as a set that the earlier one belongs to and the later one looks at.
use Rattle.std.specs.Prelude.{◌≡◌, ◌⊎◌}
use Rattle.history.specs.declared.entry.Entry.{Entry}
use Rattle.history.specs.declared.entry.Request.TheVariants.{Join}
use Rattle.race_check.specs.declared.key.Key.{Key}
use Rattle.race_check.specs.declared.key.Key.TheVariants.{Thread, Start, Place}
use Rattle.race_check.specs.Races.{IsStartOf, IsAtomicAt}

abbrev pub Gives : Key → Entry → Type 0
Gives (Thread thread) e = e.thread ≡ thread
Gives (Start thread) e = IsStartOf thread e
Gives (Place number at) e = IsAtomicAt number at e

abbrev pub Takes : Key → Entry → Type 0
Takes (Thread thread) f = (f.thread ≡ thread) ⊎ (f.request ≡ Join thread)
Takes (Start thread) f = f.thread ≡ thread
Takes (Place number at) f = IsAtomicAt number at f
