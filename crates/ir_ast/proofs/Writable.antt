-- The tokens of a writable program that keeps the limits can stand in a text.
use Rattle.std.proofs.Common.{◌≡◌, ℕ, suc, ◌+◌, ◌^◌, ◌<◌, ◌≤◌, List, [], ◌∷◌, ◌++◌, length, Option, Some, None, refl, arith}
use Rattle.std.specs.Prelude.{if◌then◌else◌, is_some, IfSome}
use Rattle.std.specs.List.{flat_map, sum_by}
use Rattle.std.proofs.lemmas.Bool.{lt-ltb}
use Rattle.std.proofs.lemmas.List.Sums.{sum_by-cons}
use Rattle.perm_table.specs.declared.RetagKind.{RetagKind}
use Rattle.perm_table.specs.declared.RetagKind.TheVariants as kind
use Rattle.ir_ast.specs.Words.{modulus}
use Rattle.ir_ast.specs.Tokens.{Asked, Each, Limit, plain, keyword, below, amount, counted}
use Rattle.ir_ast.specs.Tokens.Limit.{of_number, of_count}
use Rattle.ir_ast.specs.Tokens.Form.{close_round, open_brace, close_brace, comma, colon, arrow}
use Rattle.ir_ast.specs.Keywords.{width_word, type_word, result_word, kind_word, cond_word, modify_word, op_word}
use Rattle.ir_ast.specs.Grammar.{numbers_of, val_token, next_tokens, values_tokens, args_tokens, goal_args_tokens, goal_tokens, op_tokens, ret_tokens, jump_word, jump_tokens, type_token, register}
use Rattle.ir_ast.specs.Lines.{Line, most_functions, most_instructions, most_registers, attr_tokens, result_tokens, param_register, param_tokens, next_params, params_tokens, block_params, either, inst_tokens, definitions, inst_lines, term_line, label_line, block_lines, block_instructions, block_registers, blocks_lines, header_line, outer, function_lines, functions_lines, first_line, program_lines}
use Rattle.ir_ast.specs.Writable.{IsWord, HasName, IsWritableVal, IsWritableTyped, IsWritableGoal, IsWritableOp, IsWritableInst, IsWritableJump, IsWritableAttr, IsWritableParam, IsWritableBlock, IsWritableFunction, IsWritable}
use Rattle.ir_ast.specs.Shapes.{IsShaped}
use Rattle.ir_ast.specs.Programs.{CanStand, IsProgram, function_instructions, function_registers, KeepsLimits}
use Rattle.ir_ast.proofs.Small.{each_join}
use Rattle.ir_ast.specs.declared.types.Width.{Width}
use Rattle.ir_ast.specs.declared.types.Width.TheVariants.{W8, W16, W32, W64}
use Rattle.ir_ast.specs.declared.types.Ty.{Ty}
use Rattle.ir_ast.specs.declared.types.Ty.TheVariants.{Int, Ptr}
use Rattle.ir_ast.specs.declared.types.Place.TheVariants.{Stack, Heap}
use Rattle.ir_ast.specs.declared.types.Attr.{Attr}
use Rattle.ir_ast.specs.declared.operators.BinaryOp.TheVariants as binary
use Rattle.ir_ast.specs.declared.operators.Cond.{Cond}
use Rattle.ir_ast.specs.declared.operators.Cond.TheVariants as cond
use Rattle.ir_ast.specs.declared.operators.CastOp.TheVariants as cast
use Rattle.ir_ast.specs.declared.operators.ModifyOp.{ModifyOp}
use Rattle.ir_ast.specs.declared.operators.ModifyOp.TheVariants as modify
use Rattle.ir_ast.specs.declared.program.Named.{Named}
use Rattle.ir_ast.specs.declared.program.Param.{Param}
use Rattle.ir_ast.specs.declared.program.Val.{Val}
use Rattle.ir_ast.specs.declared.program.Val.TheVariants.{Reg, Num}
use Rattle.ir_ast.specs.declared.program.TypedVal.{TypedVal}
use Rattle.ir_ast.specs.declared.program.Goal.{Goal}
use Rattle.ir_ast.specs.declared.program.Inst.{Inst}
use Rattle.ir_ast.specs.declared.program.Op.{Op}
use Rattle.ir_ast.specs.declared.program.Op.TheVariants as op
use Rattle.ir_ast.specs.declared.program.Jump.{Jump}
use Rattle.ir_ast.specs.declared.program.Jump.TheVariants.{Br, CondBr, Ret, Unreachable}
use Rattle.ir_ast.specs.declared.program.Block.{Block}
use Rattle.ir_ast.specs.declared.program.Function.{Function}
use Rattle.ir_ast.specs.declared.program.Program.{Program}

abbrev Stand : List Asked → Type 0
Stand tokens = Each CanStand tokens

-- ---- the words of the grammar

a_width : (w : Width) → IsWord (width_word w)
a_width W8 = (refl, refl)
a_width W16 = (refl, refl)
a_width W32 = (refl, refl)
a_width W64 = (refl, refl)

a_type : (ty : Ty) → IsWord (type_word ty)
a_type (Int w) = a_width w
a_type Ptr = (refl, refl)

a_result : (ty : Option Ty) → IsWord (result_word ty)
a_result None = (refl, refl)
a_result (Some ty) = a_type ty

a_kind : (k : RetagKind) → IsWord (kind_word k)
a_kind kind.Mut = (refl, refl)
a_kind kind.Cell = (refl, refl)
a_kind kind.Shr = (refl, refl)
a_kind kind.Boxed = (refl, refl)
a_kind kind.ShrCell = (refl, refl)

a_cond : (c : Cond) → IsWord (cond_word c)
a_cond cond.Eq = (refl, refl)
a_cond cond.Ne = (refl, refl)
a_cond cond.Ult = (refl, refl)
a_cond cond.Ule = (refl, refl)
a_cond cond.Ugt = (refl, refl)
a_cond cond.Uge = (refl, refl)
a_cond cond.Slt = (refl, refl)
a_cond cond.Sle = (refl, refl)
a_cond cond.Sgt = (refl, refl)
a_cond cond.Sge = (refl, refl)

a_modifier : (m : ModifyOp) → IsWord (modify_word m)
a_modifier modify.Add = (refl, refl)
a_modifier modify.Sub = (refl, refl)
a_modifier modify.And = (refl, refl)
a_modifier modify.Or = (refl, refl)
a_modifier modify.Xor = (refl, refl)
a_modifier modify.Xchg = (refl, refl)
a_modifier modify.Umin = (refl, refl)
a_modifier modify.Umax = (refl, refl)

an_op : (o : Op) → IsWord (op_word o)
an_op (op.Const width value) = (refl, refl)
an_op op.Null = (refl, refl)
an_op (op.Make Stack size) = (refl, refl)
an_op (op.Make Heap size) = (refl, refl)
an_op (op.Gep ptr add) = (refl, refl)
an_op (op.Load ty ptr) = (refl, refl)
an_op (op.Store ty val ptr) = (refl, refl)
an_op (op.Retag kind ptr size) = (refl, refl)
an_op (op.Binary binary.Add width a b) = (refl, refl)
an_op (op.Binary binary.Sub width a b) = (refl, refl)
an_op (op.Binary binary.Mul width a b) = (refl, refl)
an_op (op.Binary binary.Udiv width a b) = (refl, refl)
an_op (op.Binary binary.Sdiv width a b) = (refl, refl)
an_op (op.Binary binary.Urem width a b) = (refl, refl)
an_op (op.Binary binary.Srem width a b) = (refl, refl)
an_op (op.Binary binary.And width a b) = (refl, refl)
an_op (op.Binary binary.Or width a b) = (refl, refl)
an_op (op.Binary binary.Xor width a b) = (refl, refl)
an_op (op.Binary binary.Shl width a b) = (refl, refl)
an_op (op.Binary binary.Lshr width a b) = (refl, refl)
an_op (op.Binary binary.Ashr width a b) = (refl, refl)
an_op (op.Compare cond ty a b) = (refl, refl)
an_op (op.Select ty cond a b) = (refl, refl)
an_op (op.Cast cast.Zext from to val to_at) = (refl, refl)
an_op (op.Cast cast.Sext from to val to_at) = (refl, refl)
an_op (op.Cast cast.Trunc from to val to_at) = (refl, refl)
an_op (op.PtrToInt ptr) = (refl, refl)
an_op (op.Input index) = (refl, refl)
an_op (op.Modify o width ptr val) = (refl, refl)
an_op (op.CmpXchg width ptr expected val) = (refl, refl)
an_op (op.Copy to from len) = (refl, refl)
an_op (op.Free ptr) = (refl, refl)
an_op (op.Print width val) = (refl, refl)
an_op (op.Call result function args) = (refl, refl)
an_op (op.Host result host args) = (refl, refl)
an_op (op.Spawn function args) = (refl, refl)
an_op (op.Join result ty_at handle) = (refl, refl)

a_jump : (j : Jump) → IsWord (jump_word j)
a_jump (Br goal) = (refl, refl)
a_jump (CondBr cond first second) = (refl, refl)
a_jump (Ret val ty_at) = (refl, refl)
a_jump Unreachable = (refl, refl)

-- ---- single tokens

below_fine : (n most : ℕ) (limit : Limit) → n < most → below n most limit ≡ None
below_fine n most limit lt = rw (lt-ltb n most lt) refl

abbrev no_fault : Option Limit
no_fault = None

fine_mark : (Unit {0}) × (no_fault ≡ no_fault)
fine_mark = (tt, refl)

fine_type : (ty : Ty) → CanStand (type_token ty)
fine_type ty = (a_type ty, refl)

fine_width : (w : Width) → CanStand (keyword (width_word w))
fine_width w = (a_width w, refl)

fine_register : (r : Named) → HasName r → CanStand (register r)
fine_register r h = (h, refl)

fine_val : (ty : Ty) (v : Val) → IsWritableVal ty v → CanStand (val_token ty v)
fine_val ty (Reg r) h = (h, refl)
fine_val ty (Num n) h = (tt, below_fine n (numbers_of ty) of_number h)

fine_amount : (n bound : ℕ) → n < bound → CanStand (amount n bound)
fine_amount n bound h = (tt, below_fine n bound of_number h)

-- ---- lists of values, operations and terminators

stand_more : (vs : List TypedVal) → Each IsWritableTyped vs → Stand (flat_map next_tokens vs)
stand_more [] h = tt
stand_more (v ∷ vs) h = (fine_mark, (fine_type v.ty, (fine_val v.ty v.val h.0, stand_more vs h.1)))

stand_values : (vs : List TypedVal) → Each IsWritableTyped vs → Stand (values_tokens vs)
stand_values [] h = tt
stand_values (v ∷ vs) h = (fine_type v.ty, (fine_val v.ty v.val h.0, stand_more vs h.1))

stand_args : (vs : List TypedVal) → Each IsWritableTyped vs → Stand (args_tokens vs)
stand_args vs h = (fine_mark, each_join CanStand (values_tokens vs) (plain close_round ∷ []) (stand_values vs h) (fine_mark, tt))

stand_goal_args : (vs : List TypedVal) → Each IsWritableTyped vs → Stand (goal_args_tokens vs)
stand_goal_args [] h = tt
stand_goal_args (v ∷ vs) h = stand_args (v ∷ vs) h

stand_goal : (g : Goal) → IsWritableGoal g → Stand (goal_tokens g)
stand_goal g h = ((h.0, refl), stand_goal_args g.args h.1)

stand_op : (o : Op) → IsWritableOp o → Stand (op_tokens o)
stand_op (op.Const width value) h = (fine_width width, (fine_amount value (modulus width) h, tt))
stand_op op.Null h = tt
stand_op (op.Make place size) h = (fine_val (Int W64) size h, tt)
stand_op (op.Gep ptr add) h = (fine_register ptr h.0, (fine_mark, (fine_val (Int W64) add h.1, tt)))
stand_op (op.Load ty ptr) h = (fine_type ty, (fine_mark, (fine_register ptr h, tt)))
stand_op (op.Store ty val ptr) h = (fine_type ty, (fine_val ty val h.0, (fine_mark, (fine_register ptr h.1, tt))))
stand_op (op.Retag k ptr size) h = ((a_kind k, refl), (fine_register ptr h.0, (fine_mark, (fine_amount size (2 ^ 32) h.1, tt))))
stand_op (op.Binary o width a b) h = (fine_width width, (fine_val (Int width) a h.0, (fine_mark, (fine_val (Int width) b h.1, tt))))
stand_op (op.Compare c ty a b) h = ((a_cond c, refl), (fine_type ty, (fine_val ty a h.0, (fine_mark, (fine_val ty b h.1, tt)))))
stand_op (op.Select ty c a b) h =
    (fine_type ty, (fine_val (Int W8) c h.0, (fine_mark, (fine_val ty a h.1, (fine_mark, (fine_val ty b h.2, tt))))))
stand_op (op.Cast o from to val to_at) h = (fine_width from, (fine_val (Int from) val h, (((refl, refl), refl), (fine_width to, tt))))
stand_op (op.PtrToInt ptr) h = (fine_register ptr h, tt)
stand_op (op.Input index) h = (fine_val (Int W64) index h, tt)
stand_op (op.Modify o width ptr val) h =
    ((a_modifier o, refl), (fine_width width, (fine_register ptr h.0, (fine_mark, (fine_val (Int width) val h.1, tt)))))
stand_op (op.CmpXchg width ptr expected val) h =
    (fine_width width, (fine_register ptr h.0, (fine_mark, (fine_val (Int width) expected h.1, (fine_mark, (fine_val (Int width) val h.2, tt))))))
stand_op (op.Copy to from len) h =
    (fine_register to h.0, (fine_mark, (fine_register from h.1, (fine_mark, (fine_val (Int W64) len h.2, tt)))))
stand_op (op.Free ptr) h = (fine_register ptr h, tt)
stand_op (op.Print width val) h = (fine_width width, (fine_val (Int width) val h, tt))
stand_op (op.Call result function args) h = ((a_result result, refl), ((h.0, refl), stand_args args h.1))
stand_op (op.Host result host args) h = (fine_type result, ((h.0, refl), stand_args args h.1))
stand_op (op.Spawn function args) h = ((h.0, refl), stand_args args h.1)
stand_op (op.Join result ty_at handle) h = ((a_result result, refl), (fine_register handle h, tt))

stand_ret : (v : Option TypedVal) (at : ℕ) → IfSome v IsWritableTyped → Stand (ret_tokens v at)
stand_ret None at h = (((refl, refl), refl), tt)
stand_ret (Some v) at h = (fine_type v.ty, (fine_val v.ty v.val h, tt))

stand_jump : (j : Jump) → IsWritableJump j → Stand (jump_tokens j)
stand_jump (Br goal) h = stand_goal goal h
stand_jump (CondBr c first second) h =
    (fine_val (Int W8) c h.0, (fine_mark, each_join CanStand (goal_tokens first) (plain comma ∷ goal_tokens second) (stand_goal first h.1) (fine_mark, stand_goal second h.2)))
stand_jump (Ret val ty_at) h = stand_ret val ty_at h
stand_jump Unreachable h = tt

-- ---- parameters, with the registers that stand before them

fine_count : (n most : ℕ) → n < most → counted n most ≡ None
fine_count n most h = below_fine n most of_count h

stand_attr : (attr : Option Attr) → IsWritableAttr attr → Stand (attr_tokens attr)
stand_attr None h = tt
stand_attr (Some a) h = ((a_kind a.kind, refl), (fine_mark, (fine_amount a.size (2 ^ 32) h, (fine_mark, tt))))

stand_param : (r : ℕ) (p : Param) → r < most_registers → IsWritableParam p → Stand (param_tokens r p)
stand_param r p lt h =
    (fine_type p.ty, each_join CanStand (attr_tokens p.attr) (param_register r p ∷ []) (stand_attr p.attr h.0) ((h.1, fine_count r most_registers lt), tt))

stand_next : (r : ℕ) (ps : List Param) → r + length ps ≤ most_registers → Each IsWritableParam ps → Stand (next_params r ps)
stand_next r [] le h = tt
stand_next r (p ∷ ps) le h =
    let lt : r < most_registers = omega arith in
    let rest : suc r + length ps ≤ most_registers = omega arith in
    each_join CanStand (plain comma ∷ param_tokens r p) (next_params (suc r) ps) (fine_mark, stand_param r p lt h.0) (stand_next (suc r) ps rest h.1)

stand_params : (r : ℕ) (ps : List Param) → r + length ps ≤ most_registers → Each IsWritableParam ps → Stand (params_tokens r ps)
stand_params r [] le h = tt
stand_params r (p ∷ ps) le h =
    let lt : r < most_registers = omega arith in
    let rest : suc r + length ps ≤ most_registers = omega arith in
    each_join CanStand (param_tokens r p) (next_params (suc r) ps) (stand_param r p lt h.0) (stand_next (suc r) ps rest h.1)

stand_block_params : (r : ℕ) (ps : List Param) → r + length ps ≤ most_registers → Each IsWritableParam ps → Stand (block_params r ps)
stand_block_params r [] le h = tt
stand_block_params r (p ∷ ps) le h = (fine_mark, each_join CanStand (params_tokens r (p ∷ ps)) (plain close_round ∷ []) (stand_params r (p ∷ ps) le h) (fine_mark, tt))

-- ---- lines

abbrev StandsLine : Line → Type 0
StandsLine l = Stand l.tokens

both_fine : (x y : Option Limit) → x ≡ None → y ≡ None → either x y ≡ None
both_fine x y e f = rw (e, f) refl

stand_inst : (n r : ℕ) (d : Option Named) (at : ℕ) (o : Op) → n < most_instructions → r + (if is_some d then 1 else 0) ≤ most_registers → IfSome d HasName → IsWritableOp o → Stand (inst_tokens n r d at o)
stand_inst n r None at o lt le h k = ((an_op o, fine_count n most_instructions lt), stand_op o k)
stand_inst n r (Some x) at o lt le h k =
    let less : r < most_registers = omega arith in
    ((h, both_fine (counted n most_instructions) (counted r most_registers) (fine_count n most_instructions lt) (fine_count r most_registers less)), (fine_mark, ((an_op o, refl), stand_op o k)))

stand_insts : (n r : ℕ) (is : List Inst) → n + length is ≤ most_instructions → r + sum_by definitions is ≤ most_registers → Each IsWritableInst is → Each StandsLine (inst_lines n r is)
stand_insts n r [] le le' h = tt
stand_insts n r (i ∷ is) le le' h =
    let lt : n < most_instructions = omega arith in
    let later : suc n + length is ≤ most_instructions = omega arith in
    let sum : sum_by definitions (i ∷ is) ≡ definitions i + sum_by definitions is = sum_by-cons definitions i is in
    let here : r + definitions i ≤ most_registers = omega arith in
    let rest : (r + definitions i) + sum_by definitions is ≤ most_registers = omega arith in
    (stand_inst n r i.dest i.at i.op lt here h.0.0 h.0.1, stand_insts (suc n) (r + definitions i) is later rest h.1)

stand_block : (n r : ℕ) (b : Block) → n + block_instructions b ≤ most_instructions → r + block_registers b ≤ most_registers → IsWritableBlock b → Each StandsLine (block_lines n r b)
stand_block n r b le le' h =
    let params : r + length b.params ≤ most_registers = omega arith in
    let insts : n + length b.insts ≤ most_instructions = omega arith in
    let last : n + length b.insts < most_instructions = omega arith in
    let registers : (r + length b.params) + sum_by definitions b.insts ≤ most_registers = omega arith in
    let line : Stand (term_line (n + length b.insts) b.term).tokens = ((a_jump b.term.jump, fine_count (n + length b.insts) most_instructions last), stand_jump b.term.jump h.term) in
    let first : Stand (label_line r b).tokens = ((h.label, refl), each_join CanStand (block_params r b.params) (plain colon ∷ []) (stand_block_params r b.params params h.params) (fine_mark, tt)) in
    (first, each_join StandsLine (inst_lines n (r + length b.params) b.insts) (term_line (n + length b.insts) b.term ∷ []) (stand_insts n (r + length b.params) b.insts insts registers h.insts) (line, tt))

stand_blocks : (n r : ℕ) (bs : List Block) → n + sum_by block_instructions bs ≤ most_instructions → r + sum_by block_registers bs ≤ most_registers → Each IsWritableBlock bs → Each StandsLine (blocks_lines n r bs)
stand_blocks n r [] le le' h = tt
stand_blocks n r (b ∷ bs) le le' h =
    let sum : sum_by block_instructions (b ∷ bs) ≡ block_instructions b + sum_by block_instructions bs = sum_by-cons block_instructions b bs in
    let sum' : sum_by block_registers (b ∷ bs) ≡ block_registers b + sum_by block_registers bs = sum_by-cons block_registers b bs in
    let here : n + block_instructions b ≤ most_instructions = omega arith in
    let here' : r + block_registers b ≤ most_registers = omega arith in
    let rest : (n + block_instructions b) + sum_by block_instructions bs ≤ most_instructions = omega arith in
    let rest' : (r + block_registers b) + sum_by block_registers bs ≤ most_registers = omega arith in
    each_join StandsLine (block_lines n r b) (blocks_lines (n + block_instructions b) (r + block_registers b) bs)
    (stand_block n r b here here' h.0) (stand_blocks (n + block_instructions b) (r + block_registers b) bs rest rest' h.1)

stand_header : (k : ℕ) (f : Function) → k < most_functions → length f.params ≤ most_registers → IsWritableFunction f → StandsLine (header_line k f)
stand_header k f lt le h =
    let result : Stand (plain close_round ∷ plain arrow ∷ result_tokens f.result ++ plain open_brace ∷ []) =
    (fine_mark, (fine_mark, ((a_result f.result.ty, refl), each_join CanStand (attr_tokens f.result.attr) (plain open_brace ∷ []) (stand_attr f.result.attr h.result) (fine_mark, tt)))) in (
      ((refl, refl), fine_count k most_functions lt),
      (
        (h.name, refl),
        (
          fine_mark,
          each_join CanStand (params_tokens 0 f.params) (plain close_round ∷ plain arrow ∷ result_tokens f.result ++ plain open_brace ∷ []) (stand_params 0 f.params (omega arith) h.params) result,
        ),
      ),
    )

stand_function : (k n : ℕ) (f : Function) → k < most_functions → n + function_instructions f ≤ most_instructions → function_registers f ≤ most_registers → IsWritableFunction f → Each StandsLine (function_lines k n f)
stand_function k n f lt le le' h =
    let params : length f.params ≤ most_registers = omega arith in
    let last : Each StandsLine (outer (plain close_brace ∷ []) ∷ []) = ((fine_mark, tt), tt) in
    (stand_header k f lt params h, each_join StandsLine (blocks_lines n (length f.params) f.blocks) (outer (plain close_brace ∷ []) ∷ []) (stand_blocks n (length f.params) f.blocks le le' h.blocks) last)

stand_functions : (k n : ℕ) (fs : List Function) → k + length fs ≤ most_functions → n + sum_by function_instructions fs ≤ most_instructions → Each (λ f. function_registers f ≤ most_registers) fs → Each IsWritableFunction fs → Each StandsLine (functions_lines k n fs)
stand_functions k n [] le le' most h = tt
stand_functions k n (f ∷ fs) le le' most h =
    let lt : k < most_functions = omega arith in
    let later : suc k + length fs ≤ most_functions = omega arith in
    let sum : sum_by function_instructions (f ∷ fs) ≡ function_instructions f + sum_by function_instructions fs = sum_by-cons function_instructions f fs in
    let here : n + function_instructions f ≤ most_instructions = omega arith in
    let rest : (n + function_instructions f) + sum_by function_instructions fs ≤ most_instructions = omega arith in
    each_join StandsLine (function_lines k n f) (functions_lines (suc k) (n + function_instructions f) fs)
    (stand_function k n f lt here most.0 h.0) (stand_functions (suc k) (n + function_instructions f) fs later rest most.1 h.1)

joined : (lines : List Line) → Each StandsLine lines → Stand (flat_map (λ line. line.tokens) lines)
joined [] h = tt
joined (line ∷ lines) h = each_join CanStand line.tokens (flat_map (λ l. l.tokens) lines) h.0 (joined lines h.1)

pub is_program : (p : Program) → IsShaped p → IsWritable p → KeepsLimits p → IsProgram p
is_program p shaped writable limits =
    let functions : 0 + length p.functions ≤ most_functions = (let le : length p.functions ≤ most_functions = limits.functions in omega arith) in
    let instructions : 0 + sum_by function_instructions p.functions ≤ most_instructions = (let le : sum_by function_instructions p.functions ≤ most_instructions = limits.instructions in omega arith) in
    let first : StandsLine (first_line p.version) = (((refl, refl), refl), (fine_mark, tt)) in
    record { shaped = shaped; spelled = joined (program_lines p) (first, stand_functions 0 0 p.functions functions instructions limits.registers writable) }
