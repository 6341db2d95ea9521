-- What a frame owns, and how many more of each fit without memory.
use Rattle.std.specs.Prelude.{ℕ, ◌≤◌, Bool, true, false, Option, Some, None}
use Rattle.history.specs.declared.ask.Ask.{Ask}
use Rattle.thread_parts.specs.Owned.{Made, Owned}
use Rattle.thread_parts.specs.declared.owned.StackAllocation.{StackAllocation}

pub record RoomyOwned : Type 0 where
  pub owned : Owned
  pub children : ℕ
  pub protectors : ℕ
  pub stack : ℕ

-- one more of each fits
abbrev pub HasRoom : RoomyOwned → Type 0
HasRoom o = (1 ≤ o.children) × (1 ≤ o.protectors) × (1 ≤ o.stack)

abbrev pub made_of : StackAllocation → Made
made_of s = record { number = s.number; prov = s.prov }

-- there is nothing to ask
abbrev pub has_none : Option Ask → Bool
has_none None = true
has_none (Some a) = false
