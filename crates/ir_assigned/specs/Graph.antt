-- The flow graph of a function's blocks, and what a register meets in them.
use Rattle.std.specs.Prelude.{ℕ, Bool, true, false, List, [], ◌∷◌, Option, Some, None, if◌then◌else◌}
use Rattle.std.specs.List.{flat_map}
use Rattle.std.specs.Str.{bytes_eq}
use Rattle.ir_ast.specs.declared.program.Goal.{Goal}
use Rattle.ir_ast.specs.declared.program.Block.{Block}
use Rattle.ir_rules.specs.Occurrences.{Event, jump_goals}
use Rattle.ir_rules.specs.Occurrences.Event.{defines, uses}
use Rattle.ir_rules.specs.Paths.{label_place}

-- what there is, as a list
abbrev pub listed : {A : Type 0} → Option A → List A
listed None = []
listed (Some n) = n ∷ []

abbrev pub target : List Block → Goal → List ℕ
target blocks g = listed (label_place blocks g.label.name)

-- a block goes where its goals lead
abbrev pub successors : List Block → Block → List ℕ
successors blocks b = flat_map (target blocks) (jump_goals b.term.jump)

-- some event defines the register
abbrev pub assigns : List ℕ → List Event → Bool
assigns r [] = false
assigns r (defines d h ∷ es) = if bytes_eq r d.name then true else assigns r es
assigns r (uses u ∷ es) = assigns r es
