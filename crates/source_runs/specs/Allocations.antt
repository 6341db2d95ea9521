-- What an allocation answers: words of the type that is asked for, since its bytes are bytes.
use Rattle.std.specs.Prelude.{◌≡◌, ℕ, ◌<◌, ◌^◌, length, Option, Some, None}
use Rattle.bsan_ids.specs.declared.numbers.AllocNo.{AllocNo}
use Rattle.history.specs.Histories.{HasBytes}
use Rattle.history.specs.declared.entry.Entry.{Entry}
use Rattle.history.specs.declared.entry.Request.{Request}
use Rattle.history.specs.declared.entry.Request.TheVariants as request
use Rattle.history.specs.Objects.{Object, Made, unmade, answer}
use Rattle.ir_ast.specs.Tokens.{Each}
use Rattle.ir_ast.specs.declared.types.Ty.{Ty}
use Rattle.thread_parts.specs.Fits.{ReplyFits}
use Rattle.source_sem.specs.Traps.{PlainIsOwn}
use Rattle.source_runs.specs.Invariant.{PlainFits}

-- each byte is below 256 and has a place for a fragment
abbrev pub MadeFits : Option Made → Type 0
MadeFits None = Unit {0}
MadeFits (Some m) = Each (λ b. b < 256) m.memory.bytes × (length m.shadow ≡ length m.memory.bytes)

pub record ObjectFits (a : ℕ) (o : Object) : Type 0 where
  pub number : o.number ≡ a
  pub made : MadeFits o.made

-- a request that goes to an allocation
abbrev pub IsOfAllocation : Request → Type 0
IsOfAllocation (request.Print v) = ⊥
IsOfAllocation (request.Host n a b) = ⊥
IsOfAllocation (request.Spawn f) = ⊥
IsOfAllocation (request.Join c) = ⊥
IsOfAllocation other = Unit {0}

abbrev pub IsMake : Request → Type 0
IsMake (request.Make size place) = Unit {0}
IsMake other = ⊥

-- an allocation begins with bytes and keeps them; what it answers fits what it is asked; and it never answers a limit on numbers
pub record AllocationLaw : Type 0 where
  pub first : (a : ℕ) → ObjectFits a (unmade a)
  pub next : (a : ℕ) (o : Object) (r : Request) (stamp : ℕ) → ObjectFits a o → HasBytes r → ObjectFits a (answer o r (record { 0 = stamp })).object
  pub replies : (a : AllocNo) (o : Object) (e : Entry) (ty : Option Ty) → ObjectFits a.0 o → (IsMake e.request → a.0 < 2 ^ 32) → IsOfAllocation e.request → e.alloc ≡ Some a → e.reply ≡ (answer o e.request e.stamp).reply
      → ReplyFits ty e e.request × PlainFits e.reply.plain
  pub own : (o : Object) (r : Request) (stamp : ℕ) → PlainIsOwn (answer o r (record { 0 = stamp })).reply.plain
