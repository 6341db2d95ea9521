-- In a program that the grammar can give, each number is one of its type.
use Rattle.std.proofs.Common.{◌≡◌, ℕ, suc, ◌+◌, ◌^◌, ◌<◌, List, [], ◌∷◌, length, Option, Some, None, Bool, true, false, if◌then◌else◌, refl, arith}
use Rattle.std.specs.Prelude.{nat_lt}
use Rattle.std.specs.List.{sum_by}
use Rattle.std.proofs.lemmas.Bool.Decides.{nat_tests}
use Rattle.ir_ast.specs.Tokens.{Each, Limit, below, plain}
use Rattle.ir_ast.specs.Tokens.Limit.{of_number}
use Rattle.ir_ast.specs.Tokens.Form.{close_round, close_brace}
use Rattle.ir_ast.specs.Words.{modulus, bits}
use Rattle.ir_ast.specs.Grammar.{val_token, values_tokens, next_tokens, args_tokens, goal_args_tokens, op_tokens, jump_tokens}
use Rattle.ir_ast.specs.Lines.{Line, outer, inst_lines, inst_tokens, definitions, term_line, block_lines, blocks_lines, block_instructions, block_registers, function_lines, functions_lines, program_lines, spell}
use Rattle.ir_ast.specs.Programs.{CanStand}
use Rattle.ir_ast.specs.declared.program.Block.{Block}
use Rattle.ir_ast.specs.declared.program.Function.{Function}
use Rattle.ir_ast.specs.declared.program.Inst.{Inst}
use Rattle.ir_ast.specs.declared.program.Jump.{Jump}
use Rattle.ir_ast.specs.declared.program.Named.{Named}
use Rattle.ir_ast.specs.declared.program.Op.{Op}
use Rattle.ir_ast.specs.declared.program.Program.{Program}
use Rattle.ir_ast.specs.declared.program.TypedVal.{TypedVal}
use Rattle.ir_ast.specs.declared.types.Width.{Width}
use Rattle.ir_ast.specs.declared.types.Width.TheVariants.{W8, W16, W32, W64}
use Rattle.source_sem.proofs.Every.{each_left, each_right, each_flat, each_all}

abbrev pub ValStands : TypedVal → Type 0
ValStands v = CanStand (val_token v.ty v.val)

abbrev pub OpStands : Op → Type 0
OpStands o = Each CanStand (op_tokens o)

abbrev pub InstStands : Inst → Type 0
InstStands i = OpStands i.op

abbrev pub JumpStands : Jump → Type 0
JumpStands j = Each CanStand (jump_tokens j)

abbrev pub BlockStands : Block → Type 0
BlockStands b = Each InstStands b.insts × JumpStands b.term.jump

abbrev pub FunctionStands : Function → Type 0
FunctionStands f = Each BlockStands f.blocks

abbrev LineStands : Line → Type 0
LineStands l = Each CanStand l.tokens

pub values_stand : (vs : List TypedVal) → Each CanStand (values_tokens vs) → Each ValStands vs
values_stand [] all = tt
values_stand (v ∷ vs) all = (all.1.0, each_all (λ v. Each CanStand (next_tokens v)) ValStands (λ v next. next.1.1.0) vs (each_flat CanStand next_tokens vs all.1.1))

pub args_stand : (vs : List TypedVal) → Each CanStand (args_tokens vs) → Each ValStands vs
args_stand vs all = values_stand vs (each_left CanStand (values_tokens vs) (plain close_round ∷ []) all.1)

pub goal_args_stand : (vs : List TypedVal) → Each CanStand (goal_args_tokens vs) → Each ValStands vs
goal_args_stand [] all = tt
goal_args_stand (v ∷ vs) all = args_stand (v ∷ vs) all

inst_stands : (n r : ℕ) (dest : Option Named) (at : ℕ) (o : Op) → Each CanStand (inst_tokens n r dest at o) → OpStands o
inst_stands n r None at o all = all.1
inst_stands n r (Some d) at o all = all.1.1.1

insts_stand : (n r : ℕ) (is : List Inst) → Each LineStands (inst_lines n r is) → Each InstStands is
insts_stand n r [] all = tt
insts_stand n r (i ∷ is) all = (inst_stands n r i.dest i.at i.op all.0, insts_stand (suc n) (r + definitions i) is all.1)

block_stands : (n r : ℕ) (b : Block) → Each LineStands (block_lines n r b) → BlockStands b
block_stands n r b all =
    let insts : List Line = inst_lines n (r + length b.params) b.insts in
    let last : List Line = term_line (n + length b.insts) b.term ∷ [] in
    (insts_stand n (r + length b.params) b.insts (each_left LineStands insts last all.1), (each_right LineStands insts last all.1).0.1)

blocks_stand : (n r : ℕ) (bs : List Block) → Each LineStands (blocks_lines n r bs) → Each BlockStands bs
blocks_stand n r [] all = tt
blocks_stand n r (b ∷ bs) all =
    let more : List Line = blocks_lines (n + block_instructions b) (r + block_registers b) bs in
    (block_stands n r b (each_left LineStands (block_lines n r b) more all), blocks_stand (n + block_instructions b) (r + block_registers b) bs (each_right LineStands (block_lines n r b) more all))

function_stands : (k n : ℕ) (f : Function) → Each LineStands (function_lines k n f) → FunctionStands f
function_stands k n f all = blocks_stand n (length f.params) f.blocks (each_left LineStands (blocks_lines n (length f.params) f.blocks) (outer (plain close_brace ∷ []) ∷ []) all.1)

functions_stand : (k n : ℕ) (fs : List Function) → Each LineStands (functions_lines k n fs) → Each FunctionStands fs
functions_stand k n [] all = tt
functions_stand k n (f ∷ fs) all =
    let more : List Line = functions_lines (suc k) (n + sum_by block_instructions f.blocks) fs in
    (function_stands k n f (each_left LineStands (function_lines k n f) more all), functions_stand (suc k) (n + sum_by block_instructions f.blocks) fs (each_right LineStands (function_lines k n f) more all))

pub program_stands : (p : Program) → Each CanStand (spell p) → Each FunctionStands p.functions
program_stands p all = functions_stand 0 0 p.functions (each_flat CanStand (λ line. line.tokens) (program_lines p) all).1

below_most : (n most : ℕ) (limit : Limit) → below n most limit ≡ None → n < most
below_most n most limit is = by_test (nat_lt n most) refl is
  where
    by_test : (b : Bool) → nat_lt n most ≡ b → (if b then None else Some limit) ≡ None → n < most
    by_test true less h = grind (arith, nat_tests)
    by_test false less h = cc

pub number_fits : (w : Width) (n : ℕ) → below n (modulus w) of_number ≡ None → n < 2 ^ bits w
number_fits W8 n is = below_most n (modulus W8) of_number is
number_fits W16 n is = below_most n (modulus W16) of_number is
number_fits W32 n is = below_most n (modulus W32) of_number is
number_fits W64 n is = below_most n (modulus W64) of_number is
