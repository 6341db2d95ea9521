-- An operation is asked for behind each `=`, and nowhere else.
use Rattle.std.proofs.Common.{◌≡◌, ℕ, suc, ◌+◌, Bool, true, false, List, [], ◌∷◌, ◌++◌, length, Option, Some, None, refl, sym, ap, subst, ◌∙◌}
use Rattle.std.specs.List.{flat_map, sum_by}
use Rattle.ir_ast.specs.Tokens.{Lex, Asked, Each, Spelled, plain}
use Rattle.ir_ast.specs.Tokens.Form.{close_round, open_brace, close_brace, comma, colon, arrow}
use Rattle.ir_ast.specs.Grammar.{val_token, typed_tokens, next_tokens, values_tokens, args_tokens, goal_args_tokens, goal_tokens, op_tokens, ret_tokens, jump_tokens}
use Rattle.ir_ast.specs.Lines.{Line, attr_tokens, result_tokens, param_register, param_tokens, next_params, params_tokens, block_params, inst_tokens, definitions, inst_lines, term_line, label_line, block_lines, block_instructions, block_registers, blocks_lines, header_line, function_lines, functions_lines, outer, program_lines, spell}
use Rattle.ir_ast.specs.declared.types.Width.TheVariants.{W8, W64}
use Rattle.ir_ast.specs.declared.types.Ty.{Ty}
use Rattle.ir_ast.specs.declared.types.Ty.TheVariants.{Int}
use Rattle.ir_ast.specs.declared.types.Attr.{Attr}
use Rattle.ir_ast.specs.declared.program.Named.{Named}
use Rattle.ir_ast.specs.declared.program.Param.{Param}
use Rattle.ir_ast.specs.declared.program.Val.{Val}
use Rattle.ir_ast.specs.declared.program.Val.TheVariants.{Reg, Num}
use Rattle.ir_ast.specs.declared.program.TypedVal.{TypedVal}
use Rattle.ir_ast.specs.declared.program.Goal.{Goal}
use Rattle.ir_ast.specs.declared.program.Inst.{Inst}
use Rattle.ir_ast.specs.declared.program.Op.{Op}
use Rattle.ir_ast.specs.declared.program.Op.TheVariants as op
use Rattle.ir_ast.specs.declared.program.Jump.{Jump}
use Rattle.ir_ast.specs.declared.program.Jump.TheVariants.{Br, CondBr, Ret, Unreachable}
use Rattle.ir_ast.specs.declared.program.Block.{Block}
use Rattle.ir_ast.specs.declared.program.Function.{Function}
use Rattle.ir_ast.specs.declared.program.Program.{Program}
use Rattle.ir_ast.specs.declared.mark.Mark.TheVariants.{Equals}
use Rattle.ir_reader.specs.Wants.{is_mark}
use Rattle.ir_reader.specs.Told.{ends_equal}

-- an operation is asked for behind each `=`, and nowhere else, where `behind` tells whether an `=` stands before them
abbrev pub Follows : Bool → List Asked → Type 0
Follows behind [] = behind ≡ false
Follows behind (a ∷ more) = (a.is_operation ≡ behind) × Follows (is_mark Equals a.form) more

-- neither an operation nor `=`
abbrev Quiet : Asked → Type 0
Quiet a = (a.is_operation ≡ false) × (is_mark Equals a.form ≡ false)

quiet_follows : (xs : List Asked) → Each Quiet xs → Follows false xs
quiet_follows [] h = refl
quiet_follows (a ∷ xs) h = (h.0.0, subst (λ (z : Bool). Follows z xs) (sym h.0.1) (quiet_follows xs h.1))

follows_join : (behind : Bool) (xs ys : List Asked) → Follows behind xs → Follows false ys → Follows behind (xs ++ ys)
follows_join behind [] ys h k = subst (λ (z : Bool). Follows z ys) (sym h) k
follows_join behind (a ∷ xs) ys h k = (h.0, follows_join (is_mark Equals a.form) xs ys h.1 k)

each_join : {A : Type 0} (P : A → Type 0) (xs ys : List A) → Each P xs → Each P ys → Each P (xs ++ ys)
each_join P [] ys h k = k
each_join P (x ∷ xs) ys h k = (h.0, each_join P xs ys h.1 k)

-- ---- the parts of a program

val_quiet : (ty : Ty) (v : Val) → Quiet (val_token ty v)
val_quiet ty (Reg r) = (refl, refl)
val_quiet ty (Num n) = (refl, refl)

typed_quiet : (v : TypedVal) → Each Quiet (typed_tokens v)
typed_quiet v = ((refl, refl), (val_quiet v.ty v.val, tt))

more_quiet : (vs : List TypedVal) → Each Quiet (flat_map next_tokens vs)
more_quiet [] = tt
more_quiet (v ∷ vs) = each_join Quiet (next_tokens v) (flat_map next_tokens vs) ((refl, refl), typed_quiet v) (more_quiet vs)

values_quiet : (vs : List TypedVal) → Each Quiet (values_tokens vs)
values_quiet [] = tt
values_quiet (v ∷ vs) = each_join Quiet (typed_tokens v) (flat_map next_tokens vs) (typed_quiet v) (more_quiet vs)

args_quiet : (vs : List TypedVal) → Each Quiet (args_tokens vs)
args_quiet vs = ((refl, refl), each_join Quiet (values_tokens vs) (plain close_round ∷ []) (values_quiet vs) ((refl, refl), tt))

goal_args_quiet : (vs : List TypedVal) → Each Quiet (goal_args_tokens vs)
goal_args_quiet [] = tt
goal_args_quiet (v ∷ vs) = args_quiet (v ∷ vs)

goal_quiet : (g : Goal) → Each Quiet (goal_tokens g)
goal_quiet g = ((refl, refl), goal_args_quiet g.args)

op_quiet : (o : Op) → Each Quiet (op_tokens o)
op_quiet (op.Const width value) = ((refl, refl), ((refl, refl), tt))
op_quiet op.Null = tt
op_quiet (op.Make place size) = (val_quiet (Int W64) size, tt)
op_quiet (op.Gep ptr add) = ((refl, refl), ((refl, refl), (val_quiet (Int W64) add, tt)))
op_quiet (op.Load ty ptr) = ((refl, refl), ((refl, refl), ((refl, refl), tt)))
op_quiet (op.Store ty val ptr) = ((refl, refl), (val_quiet ty val, ((refl, refl), ((refl, refl), tt))))
op_quiet (op.Retag kind ptr size) = ((refl, refl), ((refl, refl), ((refl, refl), ((refl, refl), tt))))
op_quiet (op.Binary o width a b) = ((refl, refl), (val_quiet (Int width) a, ((refl, refl), (val_quiet (Int width) b, tt))))
op_quiet (op.Compare cond ty a b) = ((refl, refl), ((refl, refl), (val_quiet ty a, ((refl, refl), (val_quiet ty b, tt)))))
op_quiet (op.Select ty cond a b) = ((refl, refl), (val_quiet (Int W8) cond, ((refl, refl), (val_quiet ty a, ((refl, refl), (val_quiet ty b, tt))))))
op_quiet (op.Cast o from to val to_at) = ((refl, refl), (val_quiet (Int from) val, ((refl, refl), ((refl, refl), tt))))
op_quiet (op.PtrToInt ptr) = ((refl, refl), tt)
op_quiet (op.Input index) = (val_quiet (Int W64) index, tt)
op_quiet (op.Modify o width ptr val) = ((refl, refl), ((refl, refl), ((refl, refl), ((refl, refl), (val_quiet (Int width) val, tt)))))
op_quiet (op.CmpXchg width ptr expected val) = ((refl, refl), ((refl, refl), ((refl, refl), (val_quiet (Int width) expected, ((refl, refl), (val_quiet (Int width) val, tt))))))
op_quiet (op.Copy to from len) = ((refl, refl), ((refl, refl), ((refl, refl), ((refl, refl), (val_quiet (Int W64) len, tt)))))
op_quiet (op.Free ptr) = ((refl, refl), tt)
op_quiet (op.Print width val) = ((refl, refl), (val_quiet (Int width) val, tt))
op_quiet (op.Call result function args) = ((refl, refl), ((refl, refl), args_quiet args))
op_quiet (op.Host result host args) = ((refl, refl), ((refl, refl), args_quiet args))
op_quiet (op.Spawn function args) = ((refl, refl), args_quiet args)
op_quiet (op.Join result ty_at handle) = ((refl, refl), ((refl, refl), tt))

ret_quiet : (v : Option TypedVal) (at : ℕ) → Each Quiet (ret_tokens v at)
ret_quiet None at = ((refl, refl), tt)
ret_quiet (Some v) at = ((refl, refl), (val_quiet v.ty v.val, tt))

jump_quiet : (j : Jump) → Each Quiet (jump_tokens j)
jump_quiet (Br goal) = goal_quiet goal
jump_quiet (CondBr cond first second) =
    (val_quiet (Int W8) cond, ((refl, refl), each_join Quiet (goal_tokens first) (plain comma ∷ goal_tokens second) (goal_quiet first) ((refl, refl), goal_quiet second)))
jump_quiet (Ret val ty_at) = ret_quiet val ty_at
jump_quiet Unreachable = tt

attr_quiet : (attr : Option Attr) → Each Quiet (attr_tokens attr)
attr_quiet None = tt
attr_quiet (Some a) = ((refl, refl), ((refl, refl), ((refl, refl), ((refl, refl), tt))))

param_quiet : (r : ℕ) (p : Param) → Each Quiet (param_tokens r p)
param_quiet r p = ((refl, refl), each_join Quiet (attr_tokens p.attr) (param_register r p ∷ []) (attr_quiet p.attr) ((refl, refl), tt))

next_params_quiet : (r : ℕ) (ps : List Param) → Each Quiet (next_params r ps)
next_params_quiet r [] = tt
next_params_quiet r (p ∷ ps) = each_join Quiet (plain comma ∷ param_tokens r p) (next_params (suc r) ps) ((refl, refl), param_quiet r p) (next_params_quiet (suc r) ps)

params_quiet : (r : ℕ) (ps : List Param) → Each Quiet (params_tokens r ps)
params_quiet r [] = tt
params_quiet r (p ∷ ps) = each_join Quiet (param_tokens r p) (next_params (suc r) ps) (param_quiet r p) (next_params_quiet (suc r) ps)

block_params_quiet : (r : ℕ) (ps : List Param) → Each Quiet (block_params r ps)
block_params_quiet r [] = tt
block_params_quiet r (p ∷ ps) = ((refl, refl), each_join Quiet (params_tokens r (p ∷ ps)) (plain close_round ∷ []) (params_quiet r (p ∷ ps)) ((refl, refl), tt))

-- ---- lines

abbrev FollowsLine : Line → Type 0
FollowsLine l = Follows false l.tokens

inst_follows : (n r : ℕ) (d : Option Named) (at : ℕ) (o : Op) → Follows false (inst_tokens n r d at o)
inst_follows n r None at o = (refl, quiet_follows (op_tokens o) (op_quiet o))
inst_follows n r (Some x) at o = (refl, (refl, (refl, quiet_follows (op_tokens o) (op_quiet o))))

insts_follow : (n r : ℕ) (is : List Inst) → Each FollowsLine (inst_lines n r is)
insts_follow n r [] = tt
insts_follow n r (i ∷ is) = (inst_follows n r i.dest i.at i.op, insts_follow (suc n) (r + definitions i) is)

block_follows : (n r : ℕ) (b : Block) → Each FollowsLine (block_lines n r b)
block_follows n r b =
    let last : Each FollowsLine (term_line (n + length b.insts) b.term ∷ []) = ((refl, quiet_follows (jump_tokens b.term.jump) (jump_quiet b.term.jump)), tt) in
    let label : FollowsLine (label_line r b) = quiet_follows (label_line r b).tokens ((refl, refl), each_join Quiet (block_params r b.params) (plain colon ∷ []) (block_params_quiet r b.params) ((refl, refl), tt)) in
    (label, each_join FollowsLine (inst_lines n (r + length b.params) b.insts) (term_line (n + length b.insts) b.term ∷ []) (insts_follow n (r + length b.params) b.insts) last)

blocks_follow : (n r : ℕ) (bs : List Block) → Each FollowsLine (blocks_lines n r bs)
blocks_follow n r [] = tt
blocks_follow n r (b ∷ bs) =
    each_join FollowsLine (block_lines n r b) (blocks_lines (n + block_instructions b) (r + block_registers b) bs)
    (block_follows n r b) (blocks_follow (n + block_instructions b) (r + block_registers b) bs)

header_follows : (k : ℕ) (f : Function) → FollowsLine (header_line k f)
header_follows k f =
    let result : Each Quiet (plain close_round ∷ plain arrow ∷ result_tokens f.result ++ plain open_brace ∷ []) =
    ((refl, refl), ((refl, refl), ((refl, refl), each_join Quiet (attr_tokens f.result.attr) (plain open_brace ∷ []) (attr_quiet f.result.attr) ((refl, refl), tt)))) in
    quiet_follows (header_line k f).tokens ((refl, refl), ((refl, refl), ((refl, refl), each_join Quiet (params_tokens 0 f.params) (plain close_round ∷ plain arrow ∷ result_tokens f.result ++ plain open_brace ∷ []) (params_quiet 0 f.params) result)))

function_follows : (k n : ℕ) (f : Function) → Each FollowsLine (function_lines k n f)
function_follows k n f =
    let last : Each FollowsLine (outer (plain close_brace ∷ []) ∷ []) = ((refl, refl), tt) in
    (header_follows k f, each_join FollowsLine (blocks_lines n (length f.params) f.blocks) (outer (plain close_brace ∷ []) ∷ []) (blocks_follow n (length f.params) f.blocks) last)

functions_follow : (k n : ℕ) (fs : List Function) → Each FollowsLine (functions_lines k n fs)
functions_follow k n [] = tt
functions_follow k n (f ∷ fs) =
    each_join FollowsLine (function_lines k n f) (functions_lines (suc k) (n + sum_by block_instructions f.blocks) fs)
    (function_follows k n f) (functions_follow (suc k) (n + sum_by block_instructions f.blocks) fs)

lines_follow : (lines : List Line) → Each FollowsLine lines → Follows false (flat_map (λ line. line.tokens) lines)
lines_follow [] h = refl
lines_follow (line ∷ lines) h = follows_join false line.tokens (flat_map (λ l. l.tokens) lines) h.0 (lines_follow lines h.1)

spell_follows : (p : Program) → Follows false (spell p)
spell_follows p = lines_follow (program_lines p) ((refl, (refl, refl)), functions_follow 0 0 p.functions)

-- ---- a place in a program

rest_follows : (behind : Bool) (before after : List Asked) (front : List Lex) → Follows behind (before ++ after) → Spelled before front → Follows (ends_equal behind front) after
rest_follows behind [] after [] h k = h
rest_follows behind [] after (l ∷ front) h k = absurd k
rest_follows behind (a ∷ before) after [] h k = absurd k
rest_follows behind (a ∷ before) after (l ∷ front) h k =
    subst (λ (z : Bool). Follows (ends_equal z front) after) (sym (ap (is_mark Equals) k.0.0)) (rest_follows (is_mark Equals a.form) before after front h.1 k.2)

-- behind tokens that are a program's, an operation is asked for just where the last of them is `=`
pub asked_behind : (p : Program) (before after : List Asked) (front : List Lex) → spell p ≡ before ++ after → Spelled before front → Follows (ends_equal false front) after
asked_behind p before after front e k = rest_follows false before after front (subst (Follows false) e (spell_follows p)) k

pub operation_behind : (p : Program) (before : List Asked) (a : Asked) (after : List Asked) (front : List Lex) → spell p ≡ before ++ a ∷ after → Spelled before front → a.is_operation ≡ true → ends_equal false front ≡ true
operation_behind p before a after front e k h = sym (asked_behind p before (a ∷ after) front e k).0 ∙ h

pub operation_next : (p : Program) (before after : List Asked) (front : List Lex) → spell p ≡ before ++ after → Spelled before front → ends_equal false front ≡ true → (a : Asked) × (more : List Asked) × (after ≡ a ∷ more) × (a.is_operation ≡ true)
operation_next p before after front e k h = by_rest after (asked_behind p before after front e k)
  where
    by_rest : (xs : List Asked) → Follows (ends_equal false front) xs → (a : Asked) × (more : List Asked) × (xs ≡ a ∷ more) × (a.is_operation ≡ true)
    by_rest [] f = absurd (let k : true ≡ false = sym h ∙ f in cc)
    by_rest (a ∷ more) f = (a, more, refl, f.0 ∙ h)
