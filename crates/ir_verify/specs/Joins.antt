-- What stands before a use on each way to it.
use Rattle.std.specs.Prelude.{◌≡◌, ℕ, ◌⊎◌, List, [], ◌∷◌, ◌++◌, map, slice_get, Some, Contains}
use Rattle.ir_ast.specs.declared.program.Block.{Block}
use Rattle.ir_ast.specs.declared.program.Function.{Function}
use Rattle.ir_ast.specs.declared.program.Program.{Program}
use Rattle.ir_rules.specs.declared.rule.Wanted.{Wanted}
use Rattle.ir_rules.specs.declared.rule.Wanted.TheVariants.{AValue, AHandle}
use Rattle.ir_ast.specs.declared.hosts.HostTable.{HostTable}
use Rattle.ir_rules.specs.Occurrences.{Holds, Use, Event, block_events, function_events, param_event}
use Rattle.ir_rules.specs.Occurrences.Holds.{value, handle}
use Rattle.ir_rules.specs.Occurrences.Event.{defines, uses}
use Rattle.ir_rules.specs.Paths.{GoesTo}
use Rattle.ir_rules.specs.Rules.{held, IsAccepted}

-- a way from the function's first block, listed from its last block back
abbrev pub IsWay : Function → List ℕ → Type 0
IsWay f [] = ⊥
IsWay f (b ∷ []) = b ≡ 0
IsWay f (c ∷ b ∷ way) = GoesTo f b c × IsWay f (b ∷ way)

-- one of the events makes the register hold this
abbrev pub Assigns : List ℕ → Holds → List Event → Type 0
Assigns r h [] = ⊥
Assigns r h (defines d k ∷ es) = ((d.name ≡ r) × (k ≡ h)) ⊎ Assigns r h es
Assigns r h (uses u ∷ es) = Assigns r h es

-- what the place of a use wants
abbrev pub FitsUse : Wanted → Holds → Type 0
FitsUse (AValue t) (value u) = u ≡ t
FitsUse AHandle (handle f) = Unit {0}
FitsUse _ _ = ⊥

abbrev pub AssignsInBlock : Function → List ℕ → Holds → ℕ → Type 0
AssignsInBlock f r h b = (block : Block) × (slice_get f.blocks b ≡ Some block) × Assigns r h (block_events block)

abbrev pub AssignsOnWay : Function → List ℕ → Holds → List ℕ → Type 0
AssignsOnWay f r h [] = ⊥
AssignsOnWay f r h (b ∷ way) = AssignsInBlock f r h b ⊎ AssignsOnWay f r h way

-- the function's parameters, a block on the way or what stands before in the last block makes the register hold this
pub data IsAssigned (f : Function) (r : List ℕ) (h : Holds) (way : List ℕ) (before : List Event) : Type 0 where
  by_parameter : Assigns r h (map param_event f.params) → IsAssigned f r h way before
  by_block : AssignsOnWay f r h way → IsAssigned f r h way before
  before_it : Assigns r h before → IsAssigned f r h way before

-- whatever way a thread comes to a use, the register was assigned, and holds what the use wants
abbrev pub UsesAreAssigned : Type 0
UsesAreAssigned = (p : Program) (hosts : HostTable) → IsAccepted p hosts → (f : Function) (u : Use) (last : ℕ) (way : List ℕ) (block : Block) (before after : List Event)
    → Contains p.functions f → IsWay f (last ∷ way) → slice_get f.blocks last ≡ Some block → block_events block ≡ before ++ uses u ∷ after
    → (h : Holds) × (held (function_events f) u.reg.name ≡ Some h) × FitsUse u.wanted h × IsAssigned f u.reg.name h way before

-- a join reads the handle of a spawned thread
abbrev pub JoinsFindHandles : Type 0
JoinsFindHandles = (p : Program) (hosts : HostTable) → IsAccepted p hosts → (f : Function) (u : Use) (last : ℕ) (way : List ℕ) (block : Block) (before after : List Event)
    → Contains p.functions f → u.wanted ≡ AHandle → IsWay f (last ∷ way) → slice_get f.blocks last ≡ Some block → block_events block ≡ before ++ uses u ∷ after
    → (g : List ℕ) × (held (function_events f) u.reg.name ≡ Some (handle g)) × IsAssigned f u.reg.name (handle g) way before
