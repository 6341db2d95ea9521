-- A program that the grammar can give keeps the limits.
use Rattle.std.proofs.Common.{◌≡◌, ℕ, suc, ◌+◌, ◌<◌, ◌≤◌, List, [], ◌∷◌, ◌++◌, length, Option, Some, None, refl, arith, lit≤}
use Rattle.std.specs.Prelude.{if◌then◌else◌, is_some}
use Rattle.std.specs.List.{flat_map, sum_by}
use Rattle.std.proofs.lemmas.List.Sums.{sum_by-cons}
use Rattle.ir_ast.specs.Tokens.{Asked, Each, Limit, plain, counted}
use Rattle.ir_ast.specs.Tokens.Limit.{of_count}
use Rattle.ir_ast.specs.Tokens.Form.{close_round, open_brace, close_brace, comma, colon, arrow}
use Rattle.ir_ast.specs.Lines.{Line, most_functions, most_instructions, most_registers, attr_tokens, result_tokens, param_register, param_tokens, next_params, params_tokens, block_params, either, inst_tokens, definitions, inst_lines, term_line, block_lines, block_instructions, block_registers, blocks_lines, outer, function_lines, functions_lines, program_lines}
use Rattle.ir_ast.specs.Programs.{CanStand, IsProgram, function_instructions, function_registers, KeepsLimits}
use Rattle.ir_ast.proofs.Small.{below_none, each_parts}
use Rattle.ir_ast.specs.declared.program.Named.{Named}
use Rattle.ir_ast.specs.declared.program.Param.{Param}
use Rattle.ir_ast.specs.declared.program.Op.{Op}
use Rattle.ir_ast.specs.declared.program.Inst.{Inst}
use Rattle.ir_ast.specs.declared.program.Block.{Block}
use Rattle.ir_ast.specs.declared.program.Function.{Function}
use Rattle.ir_ast.specs.declared.program.Program.{Program}

abbrev NoFault : Asked → Type 0
NoFault a = a.fault ≡ None

abbrev NoFaults : Line → Type 0
NoFaults l = Each NoFault l.tokens

grouped : (a b c both most : ℕ) → both ≡ b + c → (a + b) + c ≤ most → a + both ≤ most
grouped a b c both most e h = omega arith

counted_less : (before most : ℕ) → counted before most ≡ None → before < most
counted_less before most e = below_none before most of_count e

either_none : (x y : Option Limit) → either x y ≡ None → (x ≡ None) × (y ≡ None)
either_none None y e = (refl, e)
either_none (Some limit) y e = absurd cc

param_less : (r : ℕ) (p : Param) → Each NoFault (param_tokens r p) → r < most_registers
param_less r p h = counted_less r most_registers (each_parts NoFault (attr_tokens p.attr) (param_register r p ∷ []) h.1).1.0

next_within : (r : ℕ) (ps : List Param) → r ≤ most_registers → Each NoFault (next_params r ps) → r + length ps ≤ most_registers
next_within r [] le h = omega arith
next_within r (p ∷ ps) le h =
    let parts = each_parts NoFault (plain comma ∷ param_tokens r p) (next_params (suc r) ps) h in
    let lt : r < most_registers = param_less r p parts.0.1 in
    let more : suc r + length ps ≤ most_registers = next_within (suc r) ps lt parts.1 in
    omega arith

params_within : (r : ℕ) (ps : List Param) → r ≤ most_registers → Each NoFault (params_tokens r ps) → r + length ps ≤ most_registers
params_within r [] le h = omega arith
params_within r (p ∷ ps) le h =
    let parts = each_parts NoFault (param_tokens r p) (next_params (suc r) ps) h in
    let lt : r < most_registers = param_less r p parts.0 in
    let more : suc r + length ps ≤ most_registers = next_within (suc r) ps lt parts.1 in
    omega arith

block_params_within : (r : ℕ) (ps : List Param) → r ≤ most_registers → Each NoFault (block_params r ps) → r + length ps ≤ most_registers
block_params_within r [] le h = omega arith
block_params_within r (p ∷ ps) le h = params_within r (p ∷ ps) le (each_parts NoFault (params_tokens r (p ∷ ps)) (plain close_round ∷ []) h.1).0

inst_within : (n r : ℕ) (d : Option Named) (at : ℕ) (o : Op) → r ≤ most_registers → Each NoFault (inst_tokens n r d at o) → r + (if is_some d then 1 else 0) ≤ most_registers
inst_within n r None at o le h = omega arith
inst_within n r (Some x) at o le h =
    let lt : r < most_registers = counted_less r most_registers (either_none (counted n most_instructions) (counted r most_registers) h.0).1 in omega arith

insts_within : (n r : ℕ) (is : List Inst) → r ≤ most_registers → Each NoFaults (inst_lines n r is) → r + sum_by definitions is ≤ most_registers
insts_within n r [] le h = omega arith
insts_within n r (i ∷ is) le h =
    grouped r (definitions i) (sum_by definitions is) (sum_by definitions (i ∷ is)) most_registers (sum_by-cons definitions i is)
    (insts_within (suc n) (r + definitions i) is (inst_within n r i.dest i.at i.op le h.0) h.1)

block_within : (n r : ℕ) (b : Block) → r ≤ most_registers → Each NoFaults (block_lines n r b) → (n + block_instructions b ≤ most_instructions) × (r + block_registers b ≤ most_registers)
block_within n r b le h =
    let parts = each_parts NoFaults (inst_lines n (r + length b.params) b.insts) (term_line (n + length b.insts) b.term ∷ []) h.1 in
    let last : n + length b.insts < most_instructions = counted_less (n + length b.insts) most_instructions parts.1.0.0 in
    let params : r + length b.params ≤ most_registers = block_params_within r b.params le (each_parts NoFault (block_params r b.params) (plain colon ∷ []) h.0.1).0 in
    (omega arith, grouped r (length b.params) (sum_by definitions b.insts) (block_registers b) most_registers refl (insts_within n (r + length b.params) b.insts params parts.0))

blocks_within : (n r : ℕ) (bs : List Block) → n ≤ most_instructions → r ≤ most_registers → Each NoFaults (blocks_lines n r bs)
    → (n + sum_by block_instructions bs ≤ most_instructions) × (r + sum_by block_registers bs ≤ most_registers)
blocks_within n r [] le le' h = (omega arith, omega arith)
blocks_within n r (b ∷ bs) le le' h =
    let parts = each_parts NoFaults (block_lines n r b) (blocks_lines (n + block_instructions b) (r + block_registers b) bs) h in
    let one = block_within n r b le' parts.0 in
    let rest = blocks_within (n + block_instructions b) (r + block_registers b) bs one.0 one.1 parts.1 in (
      grouped n (block_instructions b) (sum_by block_instructions bs) (sum_by block_instructions (b ∷ bs)) most_instructions (sum_by-cons block_instructions b bs) rest.0,
      grouped r (block_registers b) (sum_by block_registers bs) (sum_by block_registers (b ∷ bs)) most_registers (sum_by-cons block_registers b bs) rest.1,
    )

function_within : (k n : ℕ) (f : Function) → n ≤ most_instructions → Each NoFaults (function_lines k n f)
    → (k < most_functions) × ((n + function_instructions f ≤ most_instructions) × (function_registers f ≤ most_registers))
function_within k n f le h =
    let header = each_parts NoFault (params_tokens 0 f.params) (plain close_round ∷ plain arrow ∷ result_tokens f.result ++ plain open_brace ∷ []) h.0.1.1.1 in
    let params : length f.params ≤ most_registers = (let w : 0 + length f.params ≤ most_registers = params_within 0 f.params (lit≤ tt) header.0 in omega arith) in
    let parts = each_parts NoFaults (blocks_lines n (length f.params) f.blocks) (outer (plain close_brace ∷ []) ∷ []) h.1 in
    (counted_less k most_functions h.0.0, blocks_within n (length f.params) f.blocks le params parts.0)

functions_within : (k n : ℕ) (fs : List Function) → k ≤ most_functions → n ≤ most_instructions → Each NoFaults (functions_lines k n fs)
    → (k + length fs ≤ most_functions) × ((n + sum_by function_instructions fs ≤ most_instructions) × Each (λ f. function_registers f ≤ most_registers) fs)
functions_within k n [] le le' h = (omega arith, (omega arith, tt))
functions_within k n (f ∷ fs) le le' h =
    let parts = each_parts NoFaults (function_lines k n f) (functions_lines (suc k) (n + function_instructions f) fs) h in
    let one = function_within k n f le' parts.0 in
    let rest = functions_within (suc k) (n + function_instructions f) fs one.0 one.1.0 parts.1 in
    let many : suc k + length fs ≤ most_functions = rest.0 in
    (omega arith, (grouped n (function_instructions f) (sum_by function_instructions fs) (sum_by function_instructions (f ∷ fs)) most_instructions (sum_by-cons function_instructions f fs) rest.1.0, (one.1.1, rest.1.1)))

no_faults : (tokens : List Asked) → Each CanStand tokens → Each NoFault tokens
no_faults [] h = tt
no_faults (a ∷ tokens) h = (h.0.1, no_faults tokens h.1)

lines_without : (lines : List Line) → Each CanStand (flat_map (λ line. line.tokens) lines) → Each NoFaults lines
lines_without [] h = tt
lines_without (line ∷ lines) h =
    let parts = each_parts CanStand line.tokens (flat_map (λ l. l.tokens) lines) h in
    (no_faults line.tokens parts.0, lines_without lines parts.1)

pub keeps_limits : (p : Program) → IsProgram p → KeepsLimits p
keeps_limits p h =
    let within = functions_within 0 0 p.functions (lit≤ tt) (lit≤ tt) (lines_without (program_lines p) h.spelled).1 in
    record { functions = of_zero (length p.functions) most_functions within.0; instructions = of_zero (sum_by function_instructions p.functions) most_instructions within.1.0; registers = within.1.1 }
  where
    of_zero : (a most : ℕ) → 0 + a ≤ most → a ≤ most
    of_zero a most le = omega arith
