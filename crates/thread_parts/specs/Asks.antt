-- What a thread asks, by kinds.
use Rattle.history.specs.declared.ask.Ask.{Ask}
use Rattle.history.specs.declared.ask.Ask.TheVariants as ask

-- it asks an allocation
abbrev pub AsksAllocation : Ask → Type 0
AsksAllocation (ask.At a r) = Unit {0}
AsksAllocation other = ⊥
