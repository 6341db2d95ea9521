-- Where a register stands in the blocks of a function, and what a search over these places finds.
use Rattle.std.specs.Prelude.{ℕ, suc, Bool, true, false, not, ◌&&◌, List, [], ◌∷◌, ◌++◌, length, replicate, slice_set, slice_index_or, Option, Some, None, Contains, if◌then◌else◌}
use denote.Ref.{Bor}
use Rattle.std.specs.Prelude.{Vec}
use Rattle.std.specs.Global.{Global}
use Rattle.std.specs.BTreeMap as tree
use Rattle.std.specs.BTreeMap.{BTreeMap}
use Rattle.std.specs.Cmp.Lexicographic.{slice_cmp}
use Rattle.std.specs.Ordering.{nat_cmp}
use Rattle.std.specs.Option.{option_map_or}
use Rattle.std.specs.Str.{bytes_eq}
use Rattle.ir_rules.specs.declared.rule.Fault.{Fault}
use Rattle.ir_rules.specs.declared.rule.Rule.TheVariants.{Unassigned}
use Rattle.ir_rules.specs.Occurrences.{Event}
use Rattle.ir_rules.specs.Occurrences.Event.{defines, uses}
use Rattle.ir_rules.specs.Least.{fault, IsLeast}
use Rattle.flow_paths.specs.Paths.{Answers}
use Rattle.ir_assigned.specs.declared.mentions.Mention.{Mention}
use Rattle.ir_assigned.specs.Graph.{listed}

-- the register that an event defines or uses
abbrev pub register_of : Event → List ℕ
register_of (defines d h) = d.name
register_of (uses u) = u.reg.name

abbrev pub mention_of : ℕ → Event → Mention
mention_of b (defines d h) = record { block = b; at = d.at; defines = true }
mention_of b (uses u) = record { block = b; at = u.reg.at; defines = false }

-- the mention, where it is one of this register
abbrev pub mention_if : Bool → Mention → List Mention
mention_if b m = if b then m ∷ [] else []

-- the register's mentions among the events of block b
abbrev pub mentions : List ℕ → ℕ → List Event → List Mention
mentions r b [] = []
mentions r b (e ∷ es) = mention_if (bytes_eq r (register_of e)) (mention_of b e) ++ mentions r b es

-- its mentions in these blocks, of which the first has the number b
abbrev pub mentions_from : List ℕ → ℕ → List (List Event) → List Mention
mentions_from r b [] = []
mentions_from r b (es ∷ blocks) = mentions r b es ++ mentions_from r (suc b) blocks

-- what a table has for a register: nothing, where the register isn't there
abbrev pub mentions_in : BTreeMap (Bor (List ℕ)) (Vec Mention Global) → List ℕ → List Mention
mentions_in table q = option_map_or (λ ms. ms.items) (tree.get_by (λ k. slice_cmp nat_cmp q k.now) table) []

-- a mark for each block in which the register was defined so far
abbrev pub define : List Bool → Mention → List Bool
define marks m = if m.defines then slice_set marks m.block true else marks

abbrev pub defined : List Bool → List Mention → List Bool
defined marks [] = marks
defined marks (m ∷ ms) = defined (define marks m) ms

-- a use is a fault where its block is entered without a definition, and has none before the use
abbrev pub mention_fault : List Bool → List Bool → Mention → Option Fault
mention_fault entered marks m = if not m.defines && slice_index_or entered m.block false && not (slice_index_or marks m.block false) then Some (fault Unassigned m.at) else None

abbrev pub scan : List Bool → List Bool → List Mention → List Fault
scan entered marks [] = []
scan entered marks (m ∷ ms) = listed (mention_fault entered marks m) ++ scan entered (define marks m) ms

-- the first of the faults of a register, whose mentions these are
pub record Found (graph : List (List ℕ)) (ms : List Mention) (first : Option Fault) : Type 0 where
  pub entered : List Bool
  pub answers : Answers graph (defined (replicate (length graph) false) ms) entered
  pub is_least : IsLeast (Contains (scan entered (replicate (length graph) false) ms)) first
