-- How instructions and terminators are read. `instructions` and `registers` are how many stand before.
use Rattle.std.specs.Prelude.{ℕ, Bool, true, false, Option, Some, None, Result, Ok, Err}
use Rattle.phrase.specs.Reading.{Reader, one, both, mapped, maybe}
use Rattle.phrase.specs.Whole.{cause_of}
use Rattle.phrase.specs.declared.Cause.{Cause}
use Rattle.ir_ast.specs.Tokens.{Form, Lex, Limit, counted}
use Rattle.ir_ast.specs.Tokens.Form.{local}
use Rattle.ir_ast.specs.Lines.{most_instructions, most_registers, either}
use Rattle.ir_ast.specs.declared.types.Width.TheVariants.{W8}
use Rattle.ir_ast.specs.declared.types.Ty.{Ty}
use Rattle.ir_ast.specs.declared.types.Ty.TheVariants.{Int}
use Rattle.ir_ast.specs.declared.program.Named.{Named}
use Rattle.ir_ast.specs.declared.program.Val.{Val}
use Rattle.ir_ast.specs.declared.program.TypedVal.{TypedVal}
use Rattle.ir_ast.specs.declared.program.Goal.{Goal}
use Rattle.ir_ast.specs.declared.program.Op.{Op}
use Rattle.ir_ast.specs.declared.program.Inst.{Inst}
use Rattle.ir_ast.specs.declared.program.Jump.{Jump}
use Rattle.ir_ast.specs.declared.program.Jump.TheVariants.{Br, CondBr, Ret, Unreachable}
use Rattle.ir_ast.specs.declared.program.Term.{Term}
use Rattle.ir_ast.specs.declared.mark.Mark.TheVariants.{Equals}
use Rattle.ir_reader.specs.declared.keywords.Keyword.{Keyword}
use Rattle.ir_reader.specs.declared.keywords.JumpWord.{JumpWord}
use Rattle.ir_reader.specs.declared.keywords.JumpWord.TheVariants as jump
use Rattle.ir_reader.specs.Tables.{results}
use Rattle.ir_reader.specs.Keys.{plains, jumps}
use Rattle.ir_reader.specs.Wants.{begins_if, local_at, word_among, with_place, want_placed}
use Rattle.ir_reader.specs.Parts.{first_of, mark_at, after_comma, goal_at}
use Rattle.ir_reader.specs.Ops.{given, value_at, tail_at, defined_at}

-- a token that is past a limit is refused where it stands
abbrev pub limited : {A : Type 0} → Option Limit → Result A Cause → Result A Cause
limited None r = r
limited (Some limit) (Ok a) = Err (cause_of limit)
limited (Some limit) (Err c) = Err c

abbrev pub is_local : Form → Bool
is_local (local name) = true
is_local _ = false

-- ---- instructions

-- a register that an instruction defines, and the instruction's place
abbrev pub want_defined : ℕ → ℕ → Lex → Result (Named × ℕ) Cause
want_defined instructions registers l = limited (either (counted instructions most_instructions) (counted registers most_registers)) (with_place l.at (local_at l.form l.at))

-- the word of an operation that stands alone, and the instruction's place
abbrev pub want_plain : ℕ → Lex → Result (Keyword × ℕ) Cause
want_plain instructions l = limited (counted instructions most_instructions) (with_place l.at (word_among plains l.form))

-- a register and `=`
unfoldable pub dest_at : ℕ → ℕ → Reader (Named × ℕ)
dest_at instructions registers = mapped first_of (both (one (want_defined instructions registers)) (λ _. mark_at Equals))

abbrev pub op_placed : (Keyword × ℕ) × Op → Op × ℕ
op_placed x = (x.1, x.0.1)

unfoldable pub plain_at : ℕ → ℕ → Reader (Op × ℕ)
plain_at version instructions = mapped op_placed (both (one (want_plain instructions)) (λ k. tail_at version false k.0))

abbrev pub placed_at : ℕ → Op → Op × ℕ
placed_at at o = (o, at)

-- the operation, with the instruction's place
abbrev pub op_for : ℕ → ℕ → Option (Named × ℕ) → Reader (Op × ℕ)
op_for version instructions None = plain_at version instructions
op_for version instructions (Some x) = mapped (placed_at x.1) (defined_at version)

abbrev pub name_in : Option (Named × ℕ) → Option Named
name_in None = None
name_in (Some x) = Some x.0

abbrev pub inst_of : Option (Named × ℕ) × (Op × ℕ) → Inst
inst_of x = record { dest = name_in x.0; at = x.1.1; op = x.1.0 }

unfoldable pub inst_at : ℕ → ℕ → ℕ → Reader Inst
inst_at version instructions registers = mapped inst_of (both (maybe (begins_if is_local) (dest_at instructions registers)) (op_for version instructions))

-- the two forms of an instruction
abbrev pub defining_of : (Named × ℕ) × Op → Inst
defining_of x = record { dest = Some x.0.0; at = x.0.1; op = x.1 }

unfoldable pub defining_at : ℕ → ℕ → ℕ → Reader Inst
defining_at version instructions registers = mapped defining_of (both (dest_at instructions registers) (λ _. defined_at version))

abbrev pub alone_of : Op × ℕ → Inst
alone_of x = record { dest = None; at = x.1; op = x.0 }

unfoldable pub alone_at : ℕ → ℕ → Reader Inst
alone_at version instructions = mapped alone_of (plain_at version instructions)

-- ---- terminators

abbrev pub want_jump : ℕ → Lex → Result (JumpWord × ℕ) Cause
want_jump instructions l = limited (counted instructions most_instructions) (with_place l.at (word_among jumps l.form))

unfoldable pub br_at : Reader Jump
br_at = mapped Br goal_at

unfoldable pub next_goal_at : Reader Goal
next_goal_at = after_comma goal_at

abbrev pub cond_br_of : Val × (Goal × Goal) → Jump
cond_br_of x = CondBr x.0 x.1.0 x.1.1

unfoldable pub cond_br_at : Reader Jump
cond_br_at = mapped cond_br_of (both (value_at (Int W8)) (λ _. both next_goal_at (λ _. next_goal_at)))

abbrev pub typed_some : Ty → Val → Option TypedVal
typed_some ty v = Some (record { ty = ty; val = v })

-- the value that is returned
unfoldable pub returned_at : Option Ty → Reader (Option TypedVal)
returned_at None = given None
returned_at (Some ty) = mapped (typed_some ty) (value_at ty)

abbrev pub ret_of : (Option Ty × ℕ) × Option TypedVal → Jump
ret_of x = Ret x.1 x.0.1

unfoldable pub ret_at : Reader Jump
ret_at = mapped ret_of (both (one (want_placed results)) (λ r. returned_at r.0))

abbrev pub jump_tail_at : JumpWord → Reader Jump
jump_tail_at jump.Br = br_at
jump_tail_at jump.CondBr = cond_br_at
jump_tail_at jump.Ret = ret_at
jump_tail_at jump.Unreachable = given Unreachable

abbrev pub term_of : (JumpWord × ℕ) × Jump → Term
term_of x = record { at = x.0.1; jump = x.1 }

unfoldable pub term_at : ℕ → Reader Term
term_at instructions = mapped term_of (both (one (want_jump instructions)) (λ k. jump_tail_at k.0))
