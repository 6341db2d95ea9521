-- The broken rules of each part of a program, as sets of faults.
use Rattle.std.specs.Prelude.{◌≡◌, ◌≢◌, ◌⊎◌, List, [], ◌∷◌, map, Option}
use Rattle.ir_ast.specs.declared.types.Ty.{Ty}
use Rattle.ir_ast.specs.declared.program.Named.{Named}
use Rattle.ir_ast.specs.declared.program.Goal.{Goal}
use Rattle.ir_ast.specs.declared.program.Op.{Op}
use Rattle.ir_ast.specs.declared.program.Inst.{Inst}
use Rattle.ir_ast.specs.declared.program.Jump.{Jump}
use Rattle.ir_ast.specs.declared.program.Block.{Block}
use Rattle.ir_ast.specs.declared.program.Function.{Function}
use Rattle.ir_ast.specs.declared.program.Program.{Program}
use Rattle.ir_ast.specs.declared.hosts.HostEntry.{HostEntry}
use Rattle.ir_rules.specs.declared.rule.Rule.TheVariants.{Twice, TypeClash, BadTarget, NoMain}
use Rattle.ir_rules.specs.declared.rule.Fault.{Fault}
use Rattle.ir_rules.specs.Least.{fault, AnyOf}
use Rattle.ir_rules.specs.Occurrences.{Event, jump_goals, function_events}
use Rattle.ir_rules.specs.Rules.{HasMain, GoalFits, OpBreaks, RetBreaks, SecondOf, defined}
use Rattle.ir_rules.specs.Walk.{WrongUse}

abbrev pub TwiceFault : List Named → Fault → Type 0
TwiceFault names x = (x.rule ≡ Twice) × SecondOf names x.at

abbrev pub OpFault : List Function → List HostEntry → List Event → Op → Fault → Type 0
OpFault fs hosts es op x = OpBreaks fs hosts es op x.rule x.at

abbrev pub InstFault : List Function → List HostEntry → List Event → Inst → Fault → Type 0
InstFault fs hosts es i = OpFault fs hosts es i.op

abbrev pub RetFault : Option Ty → Jump → Fault → Type 0
RetFault result jump x = (x.rule ≡ TypeClash) × RetBreaks jump result x.at

abbrev pub GoalFault : List Block → Goal → Fault → Type 0
GoalFault blocks g x = (GoalFits blocks g → ⊥) × (x ≡ fault BadTarget g.label.at)

abbrev pub FirstBlockFault : List Block → Fault → Type 0
FirstBlockFault blocks x = (b : Block) × (rest : List Block) × (blocks ≡ b ∷ rest) × (b.params ≢ []) × (x ≡ fault BadTarget b.label.at)

-- in a block of this function: its instructions, the type that it returns, its goals
abbrev pub BlockFault : List Function → List HostEntry → Function → Block → Fault → Type 0
BlockFault fs hosts f b x = (AnyOf (InstFault fs hosts (function_events f)) b.insts x ⊎ RetFault f.result.ty b.term.jump x) ⊎ AnyOf (GoalFault f.blocks) (jump_goals b.term.jump) x

-- among the events of a function
abbrev pub RegisterFault : List Event → Fault → Type 0
RegisterFault es x = WrongUse es x ⊎ TwiceFault (defined es) x

abbrev pub LabelFault : List Block → Fault → Type 0
LabelFault blocks x = TwiceFault (map (λ b. b.label) blocks) x ⊎ FirstBlockFault blocks x

abbrev pub FunctionFault : List Function → List HostEntry → Function → Fault → Type 0
FunctionFault fs hosts f x = (RegisterFault (function_events f) x ⊎ LabelFault f.blocks x) ⊎ AnyOf (BlockFault fs hosts f) f.blocks x

abbrev pub NoMainFault : Program → Fault → Type 0
NoMainFault p x = (HasMain p.functions → ⊥) × (x ≡ fault NoMain p.end)

-- a broken rule of the program as a whole, or of one of its functions
abbrev pub ProgramFault : Program → List HostEntry → Fault → Type 0
ProgramFault p hosts x = (TwiceFault (map (λ f. f.name) p.functions) x ⊎ NoMainFault p x) ⊎ AnyOf (FunctionFault p.functions hosts) p.functions x
