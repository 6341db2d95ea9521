-- The first fault: at the least place, and there of the rule that stands first.
use Rattle.std.specs.Prelude.{◌≡◌, ℕ, ◌<◌, ◌≤◌, ◌⊎◌, Bool, ◌&&◌, ◌||◌, nat_lt, nat_eq, List, Option, Some, None, Contains, codes, if◌then◌else◌}
use Rattle.ir_rules.specs.declared.rule.Rule.{Rule}
use Rattle.ir_rules.specs.declared.rule.Rule.TheVariants.{Unknown, Twice, TypeClash, Unassigned, BadTarget, BadCall, HandleUse, NoMain}
use Rattle.ir_rules.specs.declared.rule.Fault.{Fault}

abbrev pub rank : Rule → ℕ
rank Unknown = 0
rank Twice = 1
rank TypeClash = 2
rank Unassigned = 3
rank BadTarget = 4
rank BadCall = 5
rank HandleUse = 6
rank NoMain = 7

abbrev pub name_of : Rule → List ℕ
name_of Unknown = codes "Unknown"
name_of Twice = codes "Twice"
name_of TypeClash = codes "TypeClash"
name_of Unassigned = codes "Unassigned"
name_of BadTarget = codes "BadTarget"
name_of BadCall = codes "BadCall"
name_of HandleUse = codes "HandleUse"
name_of NoMain = codes "NoMain"

abbrev pub fault : Rule → ℕ → Fault
fault rule place = record { at = place; rule = rule }

-- the first comes before the second: its place is less, or the same with a rule of lesser rank
abbrev pub is_before : Fault → Fault → Bool
is_before x y = nat_lt x.at y.at || (nat_eq x.at y.at && nat_lt (rank x.rule) (rank y.rule))

abbrev pub lesser : Option Fault → Option Fault → Option Fault
lesser None b = b
lesser (Some x) None = Some x
lesser (Some x) (Some y) = if is_before y x then Some y else Some x

-- the first does not come after the second
abbrev pub NotAfter : Fault → Fault → Type 0
NotAfter x y = (x.at < y.at) ⊎ ((x.at ≡ y.at) × (rank x.rule ≤ rank y.rule))

-- of the faults of a kind, this is the first; there is none where it is None
abbrev pub IsLeast : (Fault → Type 0) → Option Fault → Type 0
IsLeast S None = (x : Fault) → S x → ⊥
IsLeast S (Some f) = S f × ((x : Fault) → S x → NotAfter f x)

-- one of the items has the fault
abbrev pub AnyOf : {A : Type 0} → (A → Fault → Type 0) → List A → Fault → Type 0
AnyOf S xs x = (a : _) × Contains xs a × S a x
