-- The code's occurrences, as the rules see them.
use Rattle.std.specs.Prelude.{◌≡◌, List, [], ◌∷◌, ◌++◌, map}
use Rattle.ir_ast.specs.declared.program.Named.{Named}
use Rattle.ir_rules.specs.declared.rule.Wanted.{Wanted}
use Rattle.ir_rules.specs.Occurrences.{Holds, Use, Event}
use Rattle.ir_rules.specs.Occurrences.Holds.{value, handle}
use Rattle.ir_rules.specs.Occurrences.Event.{defines, uses}
use Rattle.ir_rules.specs.declared.events.Held.{Held}
use Rattle.ir_rules.specs.declared.events.Held.TheVariants.{Value, Handle}
use Rattle.ir_rules.specs.declared.events.Role.{Role}
use Rattle.ir_rules.specs.declared.events.Role.TheVariants.{Defines, Uses}
use Rattle.ir_rules.specs.declared.events.Occurrence.{Occurrence}

abbrev pub holds_of : Held → Holds
holds_of (Value ty) = value ty
holds_of (Handle f) = handle f.now

abbrev pub event_by : Named → Role → Event
event_by r (Defines h) = defines r (holds_of h)
event_by r (Uses w) = uses (record { reg = r; wanted = w })

abbrev pub event_of : Occurrence → Event
event_of o = event_by o.register.now o.role

abbrev pub seen : List Occurrence → List Event
seen = map event_of

abbrev pub use_of : Wanted → Named → List Use
use_of w r = record { reg = r; wanted = w } ∷ []

-- these events were added at the end
pub record Adds (old new : List Occurrence) (events : List Event) : Type 0 where
  pub is : seen new ≡ seen old ++ events
