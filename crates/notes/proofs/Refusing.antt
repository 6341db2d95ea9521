-- A reader that isn't out of memory refuses a text.
use Rattle.std.proofs.Common.{◌≡◌, ℕ, List, refl}
use Rattle.ir_reader.specs.Readings.{Refuses, IsRefusal}
use Rattle.ir_reader.specs.declared.fault.ReadFault.{ReadFault}
use Rattle.ir_reader.specs.declared.fault.ReadFault.TheVariants.{TooLarge, BadByte, IntToPtr, Unexpected, NumberTooLarge, NoMemory}

pub refuses : (text : List ℕ) (f : ReadFault) → (f ≡ NoMemory → ⊥) → IsRefusal text f → Refuses text f
refuses text (TooLarge at) other h = h
refuses text (BadByte at) other h = h
refuses text (IntToPtr at) other h = h
refuses text (Unexpected at) other h = h
refuses text (NumberTooLarge at) other h = h
refuses text NoMemory other h = absurd (other refl)
