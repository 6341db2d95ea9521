-- A made allocation, as contracts see it.
use Rattle.std.specs.Prelude.{ℕ, ◌≤◌, Bool, Option, Some, None, false, replicate}
use Rattle.std.specs.Option.{option_map}
use Rattle.bsan_ids.specs.declared.numbers.Tag.{Tag}
use Rattle.ir_ast.specs.declared.types.Place.{Place}
use Rattle.history.specs.declared.entry.Request.{Request}
use Rattle.history.specs.Memory.{made_memory}
use Rattle.history.specs.Objects.{Object, Made, Judged}
use Rattle.history.specs.declared.entry.Verdict.{Verdict}
use Rattle.eager_tree.specs.Tree.{new_tree}
use Rattle.lazy_tree.specs.Eager.{eager_of}
use Rattle.lazy_tree.specs.Shape.{Shape}
use Rattle.alloc_state.specs.PlainValues.{PlainValue, needs_frags}
use Rattle.alloc_state.specs.Asking.{asked, asked_unless, refusal, IsReadyToAsk}
use Rattle.alloc_state.specs.Counted.{IsCounted}

pub record MadeValue : Type 0 where
  pub plain : PlainValue
  pub tree : Shape
  pub closed : Bool

-- the allocation, whose tree is the eager one for which the lazy one stands
abbrev pub made_of : MadeValue → Made
made_of v = record { memory = v.plain.memory; shadow = v.plain.shadow; tree = eager_of v.tree; closed = v.closed }

-- an allocation as its Make leaves it, with this tag at its root
abbrev pub new_made : ℕ → Place → Tag → Made
new_made size place root =
    record { memory = made_memory size place; shadow = replicate size None; tree = new_tree size root; closed = false }

-- the object of this number that the allocation is
abbrev pub object_of : ℕ → MadeValue → Object
object_of number v = record { number = number; made = Some (made_of v) }

-- a verdict, with the tree and the flag that it leaves
abbrev pub judged_of : Verdict → MadeValue → Judged
judged_of verdict v = record { verdict = verdict; tree = eager_of v.tree; closed = v.closed }

-- all memory for a request is there
pub record IsPrepared (number : ℕ) (v : MadeValue) (request : Request) : Type 0 where
  pub frags : needs_frags request ≤ v.plain.room
  pub tree : IsReadyToAsk v.tree (asked number (made_of v) request)

-- what was prepared stays so
abbrev pub KeepsPrepared : ℕ → MadeValue → MadeValue → Type 0
KeepsPrepared number v w = (request : Request) → IsPrepared number v request → IsPrepared number w request

-- what a step does to the counter: nothing where plain memory refuses it
abbrev pub IsStepCounted : ℕ → MadeValue → MadeValue → Request → Verdict → Type 0
IsStepCounted number v w request verdict = IsCounted v.tree w.tree (asked_unless (refusal v.plain.memory request) (asked number (made_of v) request)) verdict

abbrev pub made_in : Option MadeValue → Option Made
made_in made = option_map made_of made

abbrev pub object_in : ℕ → Option MadeValue → Object
object_in number made = record { number = number; made = made_in made }
