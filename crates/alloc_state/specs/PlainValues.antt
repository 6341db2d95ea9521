-- Plain memory of one allocation, as contracts see it.
use Rattle.std.specs.Prelude.{ℕ, ◌≡◌, ◌≤◌, ◌*◌, Bool, true, false, Option, None, length}
use Rattle.bsan_ids.specs.declared.numbers.Prov.{Prov}
use Rattle.ir_ast.specs.Sizes.{most_size}
use Rattle.history.specs.declared.entry.Request.{Request}
use Rattle.history.specs.declared.entry.Request.TheVariants.{Make, Load, Store, Modify, CmpXchg, CopyIn, Retag, EndProtector}
use Rattle.history.specs.Memory.{Memory, next_memory, in_range}
use Rattle.history.specs.Fragments.{Shadow, next_shadow, loaded_as}

-- beside the bytes and their fragments: how many runs of fragments may be added without memory
pub record PlainValue : Type 0 where
  pub memory : Memory
  pub shadow : Shadow
  pub room : ℕ

-- each byte has a fragment or none, and the bytes are at most as many as an allocation may have
pub record IsPlain (memory : Memory) (shadow : Shadow) : Type 0 where
  pub frags : length shadow ≡ length memory.bytes
  pub short : length memory.bytes ≤ most_size

-- a request for data, which plain memory answers first
abbrev pub is_data : Request → Bool
is_data (Make size place) = false
is_data (Retag at len kind guard prov) = false
is_data (EndProtector tag) = false
is_data request = true

-- the provenance that a request for data answers
abbrev pub carried_in : Shadow → Request → Option Prov
carried_in shadow (Load at ty prov) = loaded_as ty (in_range at 8 shadow)
carried_in shadow request = None

-- how many runs of fragments a request may add: a write cuts at both ends, a piece's at those of each byte
abbrev pub needs_frags : Request → ℕ
needs_frags (Store at ty value carried prov) = 2
needs_frags (Modify at width op value prov) = 2
needs_frags (CmpXchg at width expected value prov) = 2
needs_frags (CopyIn at piece prov) = 2 * length piece
needs_frags request = 0

-- what a request without a trap leaves, with so much room
abbrev pub done_by : PlainValue → Request → ℕ → PlainValue
done_by p request room = record { memory = next_memory p.memory request; shadow = next_shadow p.memory p.shadow request; room = room }
