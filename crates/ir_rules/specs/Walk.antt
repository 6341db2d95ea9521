-- The walk over a function's occurrences.
use Rattle.std.specs.Prelude.{◌≡◌, ℕ, Bool, true, false, List, Option, Some, None, Contains, if◌then◌else◌}
use denote.Ref.{Bor}
use Rattle.std.specs.BTreeMap as tree
use Rattle.std.specs.BTreeMap.{BTreeMap}
use Rattle.std.specs.Cmp.Lexicographic.{slice_cmp}
use Rattle.std.specs.Ordering.{nat_cmp}
use Rattle.std.specs.Option.{option_map}
use Rattle.ir_ast.specs.declared.types.Ty.{Ty}
use Rattle.ir_ast.specs.declared.types.Ty.TheVariants.{Int, Ptr}
use Rattle.ir_ast.specs.declared.types.Width.{Width}
use Rattle.ir_ast.specs.declared.types.Width.TheVariants.{W8, W16, W32, W64}
use Rattle.ir_rules.specs.declared.rule.Rule.{Rule}
use Rattle.ir_rules.specs.declared.rule.Rule.TheVariants.{Unknown, TypeClash, HandleUse}
use Rattle.ir_rules.specs.declared.rule.Wanted.{Wanted}
use Rattle.ir_rules.specs.declared.rule.Wanted.TheVariants.{AValue, AHandle}
use Rattle.ir_rules.specs.declared.rule.Fault.{Fault}
use Rattle.ir_rules.specs.Occurrences.{Holds, Use, Event}
use Rattle.ir_rules.specs.Occurrences.Holds.{value, handle}
use Rattle.ir_rules.specs.Occurrences.Event.{defines, uses}
use Rattle.ir_rules.specs.Rules.{held, used, UseBreaks}
use Rattle.ir_rules.specs.Least.{fault, AnyOf}
use Rattle.ir_rules.specs.Paths.{place_named}
use Rattle.ir_rules.specs.Seen.{holds_of}
use Rattle.ir_rules.specs.declared.events.Held.{Held}

abbrev pub held_in : BTreeMap (Bor (List ℕ)) Held → List ℕ → Option Holds
held_in m q = option_map holds_of (tree.get_by (λ k. slice_cmp nat_cmp q k.now) m)

-- the table has for each name the place where it first stands
abbrev pub Finds : {A : Type 0} → (A → List ℕ) → List A → BTreeMap (Bor (List ℕ)) ℕ → Type 0
Finds named xs table = (q : List ℕ) → tree.get_by (λ k. slice_cmp nat_cmp q k.now) table ≡ place_named named xs q

-- the first one counts
abbrev pub or_first : {A : Type 0} → Option A → Bool → A → Option A
or_first (Some h) b k = Some h
or_first None true k = Some k
or_first None false k = None

abbrev pub same_width : Width → Width → Bool
same_width W8 W8 = true
same_width W16 W16 = true
same_width W32 W32 = true
same_width W64 W64 = true
same_width v w = false

abbrev pub same_ty : Ty → Ty → Bool
same_ty (Int v) (Int w) = same_width v w
same_ty Ptr Ptr = true
same_ty t u = false

abbrev pub use_rule : Option Holds → Wanted → Option Rule
use_rule None w = Some Unknown
use_rule (Some (value t)) (AValue u) = if same_ty t u then None else Some TypeClash
use_rule (Some (handle f)) (AValue u) = Some HandleUse
use_rule (Some (value t)) AHandle = Some HandleUse
use_rule (Some (handle f)) AHandle = None

abbrev pub event_fault : (List ℕ → Option Holds) → Event → Option Fault
event_fault look (defines d h) = None
event_fault look (uses u) = option_map (λ r. fault r u.reg.at) (use_rule (look u.reg.name) u.wanted)

-- one of these gives the fault
abbrev pub AnyGives : {A : Type 0} → (A → Option Fault) → List A → Fault → Type 0
AnyGives f = AnyOf (λ e x. f e ≡ Some x)

-- a use among the events that doesn't fit what its register holds
abbrev pub WrongUse : List Event → Fault → Type 0
WrongUse es x = (u : Use) × Contains (used es) u × UseBreaks x.rule (held es u.reg.name) u.wanted × (x.at ≡ u.reg.at)
