-- The lines of a program, each with its tokens; and all of its tokens.
use Rattle.std.specs.Prelude.{ℕ, suc, ◌+◌, true, false, if◌then◌else◌, List, [], ◌∷◌, ◌++◌, length, codes, Option, Some, None, is_some}
use Rattle.std.specs.List.{flat_map, sum_by}
use Rattle.ir_ast.specs.Tokens.{Limit, Asked, plain, keyword, counted}
use Rattle.ir_ast.specs.Tokens.Form.{word, local, number, open_round, close_round, open_brace, close_brace, comma, colon, equals, arrow}
use Rattle.ir_ast.specs.Keywords.{result_word, op_word}
use Rattle.ir_ast.specs.Grammar.{type_token, kind_token, size_token, label, function_name, op_tokens, jump_word, jump_tokens}
use Rattle.ir_ast.specs.declared.bounds.TheConstants.{MOST_FUNCTIONS, MOST_INSTRUCTIONS, MOST_REGISTERS}
use Rattle.ir_ast.specs.declared.types.Attr.{Attr}
use Rattle.ir_ast.specs.declared.types.ResultTy.{ResultTy}
use Rattle.ir_ast.specs.declared.program.Named.{Named}
use Rattle.ir_ast.specs.declared.program.Param.{Param}
use Rattle.ir_ast.specs.declared.program.Op.{Op}
use Rattle.ir_ast.specs.declared.program.Inst.{Inst}
use Rattle.ir_ast.specs.declared.program.Term.{Term}
use Rattle.ir_ast.specs.declared.program.Block.{Block}
use Rattle.ir_ast.specs.declared.program.Function.{Function}
use Rattle.ir_ast.specs.declared.program.Program.{Program}

-- the most functions of a program, instructions of a program and registers of a function
abbrev pub most_functions : ℕ
most_functions = MOST_FUNCTIONS

abbrev pub most_instructions : ℕ
most_instructions = MOST_INSTRUCTIONS

abbrev pub most_registers : ℕ
most_registers = MOST_REGISTERS

-- Below, `functions`, `instructions` and `registers` are how many come before: functions and instructions in the
-- program, registers in the function.

abbrev pub attr_tokens : Option Attr → List Asked
attr_tokens None = []
attr_tokens (Some a) = kind_token a.kind ∷ plain open_round ∷ size_token a.size ∷ plain close_round ∷ []

-- a parameter defines a register
abbrev pub param_register : ℕ → Param → Asked
param_register registers p = record { form = local p.reg.name; at = p.reg.at ∷ []; is_operation = false; fault = counted registers most_registers }

abbrev pub param_tokens : ℕ → Param → List Asked
param_tokens registers p = type_token p.ty ∷ attr_tokens p.attr ++ param_register registers p ∷ []

abbrev pub next_params : ℕ → List Param → List Asked
next_params registers [] = []
next_params registers (p ∷ ps) = (plain comma ∷ param_tokens registers p) ++ next_params (suc registers) ps

abbrev pub params_tokens : ℕ → List Param → List Asked
params_tokens registers [] = []
params_tokens registers (p ∷ ps) = param_tokens registers p ++ next_params (suc registers) ps

abbrev pub round_params : ℕ → List Param → List Asked
round_params registers ps = plain open_round ∷ params_tokens registers ps ++ plain close_round ∷ []

-- the parameters of a block, without parentheses where there are none
abbrev pub block_params : ℕ → List Param → List Asked
block_params registers [] = []
block_params registers (p ∷ ps) = round_params registers (p ∷ ps)

abbrev pub result_tokens : ResultTy → List Asked
result_tokens r = keyword (result_word r.ty) ∷ attr_tokens r.attr

-- ---- lines, with the number of spaces in front

pub record Line : Type 0 where
  pub indent : ℕ
  pub tokens : List Asked

abbrev pub outer : List Asked → Line
outer tokens = record { indent = 0; tokens = tokens }

abbrev pub inner : List Asked → Line
inner tokens = record { indent = 2; tokens = tokens }

-- the first fault of two
abbrev pub either : Option Limit → Option Limit → Option Limit
either None other = other
either (Some limit) other = Some limit

-- An operation with the register that it defines, if any. The instruction's place is that of its first token.
abbrev pub inst_tokens : ℕ → ℕ → Option Named → ℕ → Op → List Asked
inst_tokens instructions registers None at o =
    record { form = word (op_word o); at = at ∷ []; is_operation = false; fault = counted instructions most_instructions }
    ∷ op_tokens o
inst_tokens instructions registers (Some r) at o =
    record { form = local r.name; at = r.at ∷ at ∷ []; is_operation = false; fault = either (counted instructions most_instructions) (counted registers most_registers) }
    ∷ plain equals
    ∷ record { form = word (op_word o); at = []; is_operation = true; fault = None }
    ∷ op_tokens o

abbrev pub inst_line : ℕ → ℕ → Inst → Line
inst_line instructions registers i = inner (inst_tokens instructions registers i.dest i.at i.op)

-- how many registers an instruction defines
abbrev pub definitions : Inst → ℕ
definitions i = if is_some i.dest then 1 else 0

abbrev pub inst_lines : ℕ → ℕ → List Inst → List Line
inst_lines instructions registers [] = []
inst_lines instructions registers (i ∷ is) = inst_line instructions registers i ∷ inst_lines (suc instructions) (registers + definitions i) is

-- a terminator is an instruction too
abbrev pub term_line : ℕ → Term → Line
term_line instructions t =
    inner (record { form = word (jump_word t.jump); at = t.at ∷ []; is_operation = false; fault = counted instructions most_instructions } ∷ jump_tokens t.jump)

abbrev pub label_line : ℕ → Block → Line
label_line registers b = outer (label b.label ∷ block_params registers b.params ++ plain colon ∷ [])

abbrev pub block_lines : ℕ → ℕ → Block → List Line
block_lines instructions registers b =
    label_line registers b ∷ inst_lines instructions (registers + length b.params) b.insts ++ term_line (instructions + length b.insts) b.term ∷ []

-- how many instructions and registers a block has
abbrev pub block_instructions : Block → ℕ
block_instructions b = length b.insts + 1

abbrev pub block_registers : Block → ℕ
block_registers b = length b.params + sum_by definitions b.insts

abbrev pub blocks_lines : ℕ → ℕ → List Block → List Line
blocks_lines instructions registers [] = []
blocks_lines instructions registers (b ∷ bs) =
    block_lines instructions registers b ++ blocks_lines (instructions + block_instructions b) (registers + block_registers b) bs

abbrev pub header_line : ℕ → Function → Line
header_line functions f =
    outer (record { form = word (codes "func"); at = []; is_operation = false; fault = counted functions most_functions }
    ∷ function_name f.name ∷ plain open_round ∷ params_tokens 0 f.params
    ++ (plain close_round ∷ plain arrow ∷ result_tokens f.result ++ plain open_brace ∷ []))

abbrev pub function_lines : ℕ → ℕ → Function → List Line
function_lines functions instructions f =
    header_line functions f ∷ blocks_lines instructions (length f.params) f.blocks ++ outer (plain close_brace ∷ []) ∷ []

abbrev pub functions_lines : ℕ → ℕ → List Function → List Line
functions_lines functions instructions [] = []
functions_lines functions instructions (f ∷ fs) =
    function_lines functions instructions f ++ functions_lines (suc functions) (instructions + sum_by block_instructions f.blocks) fs

abbrev pub first_line : ℕ → Line
first_line version = outer (keyword (codes "bir") ∷ plain (number version) ∷ [])

abbrev pub program_lines : Program → List Line
program_lines p = first_line p.version ∷ functions_lines 0 0 p.functions

-- all tokens of a program
abbrev pub spell : Program → List Asked
spell p = flat_map (λ line. line.tokens) (program_lines p)
