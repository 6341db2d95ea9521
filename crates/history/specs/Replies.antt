-- What a reply holds, and which entry answers what is asked.
use Rattle.std.specs.Prelude.{◌≡◌, Some, None}
use Rattle.std.specs.declared.option.Option.{Option}
use Rattle.history.specs.declared.ask.Ask.{Ask}
use Rattle.history.specs.declared.ask.Ask.TheVariants as ask
use Rattle.history.specs.declared.entry.Entry.{Entry}
use Rattle.history.specs.declared.entry.Plain.{Plain}
use Rattle.history.specs.declared.entry.Plain.TheVariants as plain
use Rattle.history.specs.declared.entry.Request.{Request}
use Rattle.history.specs.declared.entry.Request.TheVariants as request
use Rattle.history.specs.declared.trap.Trap.{Trap}

-- the trap that is answered, if one is
abbrev pub trap_of : Plain → Option Trap
trap_of (plain.Trapped e) = Some e
trap_of other = None

-- a request that an object of a number answers, once it is made or not
abbrev pub IsOnNumber : Request → Type 0
IsOnNumber (request.Make size place) = ⊥
IsOnNumber (request.Print v) = ⊥
IsOnNumber (request.Host n x y) = ⊥
IsOnNumber (request.Spawn f) = ⊥
IsOnNumber (request.Join c) = ⊥
IsOnNumber _ = Unit {0}

-- the entry answers what is asked, on the number that the request addresses
abbrev pub Answers : Ask → Entry → Type 0
Answers ask.Turn e = ⊥
Answers (ask.Ended end) e = ⊥
Answers (ask.Make size place) e = e.request ≡ request.Make size place
Answers (ask.At a r) e = (e.request ≡ r) × (e.alloc ≡ Some a) × IsOnNumber r
Answers (ask.Print v) e = (e.request ≡ request.Print v) × (e.alloc ≡ None)
Answers (ask.Host n a b) e = (e.request ≡ request.Host n a b) × (e.alloc ≡ None)
Answers (ask.Spawn f) e = (e.request ≡ request.Spawn f) × (e.alloc ≡ None)
Answers (ask.Join c) e = (e.request ≡ request.Join c) × (e.alloc ≡ None)
