-- The memory of the plain program: allocations that are bytes alone.
use Rattle.std.specs.Prelude.{ℕ, Option, Some, None, is_some, map, false}
use Rattle.std.specs.Option.{option_map_or}
use Rattle.history.specs.declared.entry.Plain.{Plain}
use Rattle.history.specs.declared.entry.Plain.TheVariants.{Made as IsMade, Value, Copied, Done, Retagged, Trapped}
use Rattle.history.specs.declared.entry.Reply.{Reply}
use Rattle.history.specs.declared.entry.Request.{Request}
use Rattle.history.specs.declared.entry.Request.TheVariants.{Make, CopyOut, Retag, EndProtector}
use Rattle.history.specs.declared.entry.Verdict.TheVariants.{Clean}
use Rattle.history.specs.declared.trap.Trap.{Trap}
use Rattle.history.specs.declared.trap.Trap.TheVariants.{NoAllocation}
use Rattle.history.specs.Memory.{Memory as Bytes, made_memory, trap_in, value_in, next_memory, in_range}
use Rattle.runs.specs.Machine.{Memory}

-- a number, and its bytes once it is made
pub record PlainObject : Type 0 where
  pub number : ℕ
  pub memory : Option Bytes

pub record PlainAnswer : Type 0 where
  pub reply : Reply
  pub object : PlainObject

abbrev pub told : Plain → Reply
told plain = record { plain = plain; carried = None; verdict = Clean }

abbrev pub plain_value : Bytes → Request → Plain
plain_value m (CopyOut at len prov) = Copied (map (λ byte. (byte, None)) (in_range at len m.bytes))
plain_value m request = option_map_or Value (value_in m request) Done

abbrev pub plain_unless : PlainObject → Bytes → Request → Option Trap → PlainAnswer
plain_unless o m request (Some trap) = record { reply = told (Trapped trap); object = o }
plain_unless o m request None = record { reply = told (plain_value m request); object = record o { memory = Some (next_memory m request) } }

abbrev pub plain_data : PlainObject → Option Bytes → Request → PlainAnswer
plain_data o None request = record { reply = told (Trapped NoAllocation); object = o }
plain_data o (Some m) request = plain_unless o m request (trap_in m request)

-- a value or a trap, and what it then is; retags and protector ends aren't asked here, and change nothing
abbrev pub plain_answer : PlainObject → Request → PlainAnswer
plain_answer o (Make size place) = record { reply = told (IsMade (record { 0 = o.number })); object = record o { memory = Some (made_memory size place) } }
plain_answer o (Retag at len kind guard prov) = record { reply = told (Retagged false); object = o }
plain_answer o (EndProtector tag) = record { reply = told Done; object = o }
plain_answer o request = plain_data o o.memory request

abbrev pub plain_objects : Memory
plain_objects = record {
  Object = PlainObject;
  unmade = λ number. record { number = number; memory = None };
  made = λ o. is_some o.memory;
  reply = λ o r stamp. (plain_answer o r).reply;
  next = λ o r stamp. (plain_answer o r).object;
}
