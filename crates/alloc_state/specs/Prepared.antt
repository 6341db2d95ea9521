-- An allocation's object with the request for which memory was taken.
use Rattle.std.specs.Prelude.{ℕ, ◌≡◌, ◌<◌, Option, None, Some, is_some, MatchOption, All, Bool, replicate}
use Rattle.ir_ast.specs.declared.types.Place.{Place}
use Rattle.history.specs.Memory.{made_memory}
use Rattle.history.specs.declared.entry.Request.{Request}
use Rattle.history.specs.declared.entry.Request.TheVariants.{Make}
use Rattle.history.specs.Objects.{Object, unmade}
use Rattle.lazy_tree.specs.Shape.{Shape}
use Rattle.alloc_state.specs.PlainValues.{PlainValue}
use Rattle.alloc_state.specs.Asking.{asked}
use Rattle.alloc_state.specs.MadeValues.{MadeValue, made_of, made_in, IsPrepared}
use Rattle.alloc_state.specs.Outcomes.{HasBytesOut}
use Rattle.alloc_state.specs.declared.object_state.Ready.{Ready}

-- the object, the lazy tree that it keeps, and the request that is ready
pub record Prepared : Type 0 where
  pub object : Object
  pub tree : Option Shape
  pub ready : Option Request

-- a number that was never asked
abbrev pub unasked : ℕ → Prepared
unasked number = record { object = unmade number; tree = None; ready = None }

-- what memory was taken for, or else such a number
abbrev pub prepared_in : ℕ → Option Prepared → Prepared
prepared_in number None = unasked number
prepared_in number (Some prepared) = prepared

-- every tag of the tree is below a bound
abbrev pub AreBelow : ℕ → Object → Type 0
AreBelow bound o = MatchOption o.made (Unit {0}) (λ m. All (λ n. n.tag.0 < bound) m.tree.nodes)

-- whether an allocation is made
abbrev pub is_made_in : Object → Bool
is_made_in o = is_some o.made

-- plain memory as a Make makes it
pub record IsNew (size : ℕ) (place : Place) (plain : PlainValue) : Type 0 where
  pub memory : plain.memory ≡ made_memory size place
  pub shadow : plain.shadow ≡ replicate size None

-- a Make takes its memory with it, and no other request does
abbrev pub IsFreshFor : Request → Option PlainValue → Type 0
IsFreshFor (Make size place) fresh = MatchOption fresh ⊥ (IsNew size place)
IsFreshFor request fresh = fresh ≡ None

-- all that the request which is ready needs is there
pub record IsReady (number : ℕ) (made : Option MadeValue) (ready : Ready) : Type 0 where
  pub fresh : IsFreshFor ready.request ready.needs.fresh
  pub asked : MatchOption made (Unit {0}) (λ v. ready.needs.asks ≡ asked number (made_of v) ready.request)
  pub piece : HasBytesOut (made_in made) ready.request ready.piece
  pub again : ready.again ≡ ready.piece
  pub room : MatchOption made (Unit {0}) (λ v. IsPrepared number v ready.request)
