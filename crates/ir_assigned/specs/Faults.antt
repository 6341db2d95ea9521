-- Unassigned uses as faults: of a register, of a function.
use Rattle.std.specs.Prelude.{◌≡◌, ℕ, List, Some}
use Rattle.ir_ast.specs.declared.program.Function.{Function}
use Rattle.ir_rules.specs.declared.rule.Fault.{Fault}
use Rattle.ir_rules.specs.declared.rule.Rule.TheVariants.{Unassigned}
use Rattle.ir_rules.specs.Occurrences.{Holds, Use, Event, function_events}
use Rattle.ir_rules.specs.Occurrences.Event.{defines, uses}
use Rattle.ir_rules.specs.Paths.{IsUnassigned}
use Rattle.ir_rules.specs.Rules.{held}
use Rattle.ir_rules.specs.Least.{fault}

-- a use of the register that is unassigned
abbrev pub RegisterFault : Function → List ℕ → Fault → Type 0
RegisterFault f r x = (u : Use) × IsUnassigned f u × (r ≡ u.reg.name) × (fault Unassigned u.reg.at ≡ x)

-- the register is looked into where it is defined
abbrev pub EventFault : Function → Event → Fault → Type 0
EventFault f (defines d h) x = RegisterFault f d.name x
EventFault f (uses u) x = ⊥

-- a use that is unassigned, of a register that the function defines somewhere
abbrev pub FunctionFault : Function → Fault → Type 0
FunctionFault f x = (u : Use) × (h : Holds) × (held (function_events f) u.reg.name ≡ Some h) × IsUnassigned f u × (fault Unassigned u.reg.at ≡ x)
