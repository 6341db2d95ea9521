-- How parameters, blocks, functions and programs are read, in a version of the language. `functions`, `instructions` and
-- `registers` are how many stand before.
use Rattle.std.specs.Prelude.{ℕ, suc, ◌+◌, ◌^◌, ◌&&◌, nat_le, Bool, true, false, List, length, Option, Some, None, is_some, codes, Result, Ok, Err, if◌then◌else◌}
use Rattle.std.specs.List.{sum_by}
use Rattle.perm_table.specs.declared.RetagKind.{RetagKind}
use Rattle.phrase.specs.Reading.{Reader, one, both, mapped, maybe, many_from}
use Rattle.phrase.specs.declared.Cause.{Cause}
use Rattle.phrase.specs.declared.Cause.TheVariants.{Unexpected}
use Rattle.ir_ast.specs.Tokens.{Form, Lex, counted}
use Rattle.ir_ast.specs.Tokens.Form.{word, local, number}
use Rattle.ir_ast.specs.Lines.{most_functions, most_registers, definitions, block_instructions, block_registers}
use Rattle.ir_ast.specs.declared.types.Ty.{Ty}
use Rattle.ir_ast.specs.declared.types.Ty.TheVariants.{Int, Ptr}
use Rattle.ir_ast.specs.declared.types.Attr.{Attr}
use Rattle.ir_ast.specs.declared.types.ResultTy.{ResultTy}
use Rattle.ir_ast.specs.declared.program.Named.{Named}
use Rattle.ir_ast.specs.declared.program.Param.{Param}
use Rattle.ir_ast.specs.declared.program.Inst.{Inst}
use Rattle.ir_ast.specs.declared.program.Term.{Term}
use Rattle.ir_ast.specs.declared.program.Block.{Block}
use Rattle.ir_ast.specs.declared.program.Function.{Function}
use Rattle.ir_ast.specs.declared.mark.Mark.TheVariants.{OpenRound, OpenBrace, CloseBrace, Comma, Colon, Arrow}
use Rattle.ir_reader.specs.Tables.{lookup, results, kinds}
use Rattle.ir_reader.specs.Keys.{plains}
use Rattle.ir_reader.specs.Wants.{want_if, begins_if, is_mark, is_any_word, is_word, want_local, want_global, want_label, want_among, want_amount}
use Rattle.ir_reader.specs.Parts.{second, first_of, cons_of, listed, mark_at, after_comma, in_round}
use Rattle.ir_reader.specs.Ops.{given, type_at}
use Rattle.ir_reader.specs.Insts.{limited, inst_at, term_at}

-- ---- parameters

abbrev pub attr_of : RetagKind × ℕ → Attr
attr_of x = record { kind = x.0; size = x.1 }

unfoldable pub attr_at : ℕ → Reader Attr
attr_at version = mapped attr_of (both (one (want_among (kinds version))) (λ _. in_round (one (want_amount (2 ^ 32)))))

abbrev pub an_attr : Attr → Option Attr
an_attr a = Some a

unfoldable pub some_attr_at : ℕ → Reader (Option Attr)
some_attr_at version = mapped an_attr (attr_at version)

-- an attribute, if a word is next
unfoldable pub optional_attr_at : ℕ → Reader (Option Attr)
optional_attr_at version = maybe (begins_if is_any_word) (attr_at version)

-- an attribute, which may stand at `ptr` where attributes may stand at all: those of this version
abbrev pub attr_for : Option ℕ → Option Ty → Reader (Option Attr)
attr_for (Some version) (Some Ptr) = optional_attr_at version
attr_for (Some version) (Some (Int width)) = given None
attr_for (Some version) None = given None
attr_for None ty = given None

-- a register that a parameter defines
unfoldable pub param_register_at : ℕ → Reader Named
param_register_at registers = one (λ l. limited (counted registers most_registers) (want_local l))

abbrev pub param_of : Ty × (Option Attr × Named) → Param
param_of x = record { ty = x.0; attr = x.1.0; reg = x.1.1 }

unfoldable pub param_at : Option ℕ → ℕ → Reader Param
param_at attrs registers = mapped param_of (both type_at (λ ty. both (attr_for attrs (Some ty)) (λ _. param_register_at registers)))

unfoldable pub next_param_at : Option ℕ → ℕ → Reader Param
next_param_at attrs registers = after_comma (param_at attrs registers)

abbrev pub one_more : {A : Type 0} → ℕ → A → ℕ
one_more n a = suc n

unfoldable pub more_params_at : Option ℕ → ℕ → Reader (List Param)
more_params_at attrs registers = many_from (begins_if (is_mark Comma)) (next_param_at attrs) one_more registers

unfoldable pub params_at : Option ℕ → ℕ → Reader (List Param)
params_at attrs registers = mapped cons_of (both (param_at attrs registers) (λ _. more_params_at attrs (suc registers)))

-- parameters, if a word is next
unfoldable pub some_params_at : ℕ → Reader (List Param)
some_params_at version = mapped listed (maybe (begins_if is_any_word) (params_at (Some version) 0))

-- the parameters of a function, behind its name
unfoldable pub function_params_at : ℕ → Reader (List Param)
function_params_at version = in_round (some_params_at version)

unfoldable pub round_params_at : ℕ → Reader (List Param)
round_params_at registers = in_round (params_at None registers)

-- the parameters of a block
unfoldable pub block_params_at : ℕ → Reader (List Param)
block_params_at registers = mapped listed (maybe (begins_if (is_mark OpenRound)) (round_params_at registers))

-- ---- blocks

abbrev pub is_inst : Form → Bool
is_inst (local name) = true
is_inst (word text) = is_some (lookup plains text)
is_inst _ = false

abbrev pub after_inst : ℕ × ℕ → Inst → ℕ × ℕ
after_inst n i = (suc n.0, n.1 + definitions i)

unfoldable pub insts_at : ℕ → ℕ × ℕ → Reader (List Inst)
insts_at version n = many_from (begins_if is_inst) (λ (m : ℕ × ℕ). inst_at version m.0 m.1) after_inst n

abbrev pub block_of : Named × (List Param × (List Inst × Term)) → Block
block_of x = record { label = x.0; params = x.1.0; insts = x.1.1.0; term = x.1.1.1 }

-- a block's head: its parameters and the colon
unfoldable pub head_at : ℕ → Reader (List Param)
head_at registers = mapped first_of (both (block_params_at registers) (λ _. mark_at Colon))

unfoldable pub block_at : ℕ → ℕ × ℕ → Reader Block
block_at version n = mapped block_of (both (one want_label) (λ _. both (head_at n.1) (λ params. both (insts_at version (n.0, n.1 + length params)) (λ insts. term_at (n.0 + length insts)))))

abbrev pub after_block : ℕ × ℕ → Block → ℕ × ℕ
after_block n b = (n.0 + block_instructions b, n.1 + block_registers b)

unfoldable pub more_blocks_at : ℕ → ℕ × ℕ → Reader (List Block)
more_blocks_at version n = many_from (begins_if is_any_word) (block_at version) after_block n

unfoldable pub blocks_at : ℕ → ℕ × ℕ → Reader (List Block)
blocks_at version n = mapped cons_of (both (block_at version n) (λ b. more_blocks_at version (after_block n b)))

-- ---- functions

abbrev pub result_of : Option Ty × Option Attr → ResultTy
result_of x = record { ty = x.0; attr = x.1 }

unfoldable pub result_ty_at : ℕ → Reader ResultTy
result_ty_at version = mapped result_of (both (one (want_among results)) (attr_for (Some version)))

-- `func`, which begins a function
unfoldable pub func_at : ℕ → Reader (Unit {0})
func_at functions = one (λ l. limited (counted functions most_functions) (want_if (is_word (codes "func")) l))

-- from `->` to `{`
unfoldable pub arrow_result_at : ℕ → Reader ResultTy
arrow_result_at version = mapped second (both (mark_at Arrow) (λ _. mapped first_of (both (result_ty_at version) (λ _. mark_at OpenBrace))))

unfoldable pub closed_blocks_at : ℕ → ℕ × ℕ → Reader (List Block)
closed_blocks_at version n = mapped first_of (both (blocks_at version n) (λ _. mark_at CloseBrace))

abbrev pub function_of : Unit {0} × (Named × (List Param × (ResultTy × List Block))) → Function
function_of x = record { name = x.1.0; params = x.1.1.0; result = x.1.1.1.0; blocks = x.1.1.1.1 }

unfoldable pub function_at : ℕ → ℕ × ℕ → Reader Function
function_at version n = mapped function_of (both (func_at n.0) (λ _. both (one want_global) (λ _. both (function_params_at version) (λ params. both (arrow_result_at version) (λ _. closed_blocks_at version (n.1, length params))))))

abbrev pub after_function : ℕ × ℕ → Function → ℕ × ℕ
after_function n f = (suc n.0, n.1 + sum_by block_instructions f.blocks)

unfoldable pub more_functions_at : ℕ → ℕ × ℕ → Reader (List Function)
more_functions_at version n = many_from (begins_if (is_word (codes "func"))) (function_at version) after_function n

unfoldable pub functions_at : ℕ → Reader (List Function)
functions_at version = mapped cons_of (both (function_at version (0, 0)) (λ f. more_functions_at version (after_function (0, 0) f)))

abbrev pub version_in : Form → Result ℕ Cause
version_in (number n) = if nat_le 1 n && nat_le n 2 then Ok n else Err Unexpected
version_in _ = Err Unexpected

-- the number of a version
abbrev pub want_version : Lex → Result ℕ Cause
want_version l = version_in l.form

-- the version of a program, behind `bir`, and its functions
unfoldable pub program_at : Reader (ℕ × List Function)
program_at = mapped second (both (one (want_if (is_word (codes "bir")))) (λ _. both (one want_version) (λ version. functions_at version)))
