-- Replies that own no memory, as the replies that they stand for.
use Rattle.std.specs.Prelude.{◌≡◌, Option, Some, None, List}
use Rattle.std.specs.Option.{option_map_or}
use Rattle.history.specs.Pieces.{Byte}
use Rattle.history.specs.declared.entry.Plain.{Plain}
use Rattle.history.specs.declared.entry.Plain.TheVariants.{Made as IsMade, Value as IsValue, Copied as IsCopied, Done as IsDone, Retagged as IsRetagged, Trapped as IsTrapped}
use Rattle.history.specs.declared.entry.Reply.{Reply}
use Rattle.history.specs.declared.entry.Request.{Request}
use Rattle.history.specs.declared.entry.Request.TheVariants.{CopyOut}
use Rattle.history.specs.Memory.{Memory, trap_in, value_in}
use Rattle.history.specs.Fragments.{piece_at}
use Rattle.history.specs.Objects.{Made}
use Rattle.alloc_state.specs.declared.outcome.Seen.{Seen}
use Rattle.alloc_state.specs.declared.outcome.Seen.TheVariants.{Made as SeesMade, Value, Copied, Done, Retagged, Trapped}
use Rattle.alloc_state.specs.declared.outcome.Outcome.{Outcome}

-- what a program sees, with the bytes that were copied out
abbrev pub plain_with : List Byte → Seen → Plain
plain_with piece (SeesMade number) = IsMade number
plain_with piece (Value value) = IsValue value
plain_with piece Copied = IsCopied piece
plain_with piece Done = IsDone
plain_with piece (Retagged added) = IsRetagged added
plain_with piece (Trapped trap) = IsTrapped trap

abbrev pub reply_with : List Byte → Outcome → Reply
reply_with piece outcome = record { plain = plain_with piece outcome.seen; carried = outcome.carried; verdict = outcome.verdict }

-- what a request for data without a trap shows
abbrev pub seen_in : Memory → Request → Seen
seen_in m (CopyOut at len prov) = Copied
seen_in m request = option_map_or Value (value_in m request) Done

-- the bytes that a request copies out of an allocation, where it isn't refused
abbrev pub HasBytesOut : Option Made → Request → List Byte → Type 0
HasBytesOut (Some m) (CopyOut at len prov) piece = trap_in m.memory (CopyOut at len None) ≡ None → piece ≡ piece_at m.memory m.shadow at len
HasBytesOut made request piece = Unit {0}
