-- The canonical text doesn't depend on places.
use Rattle.std.proofs.Common.{◌≡◌, ℕ, suc, List, [], ◌∷◌, ◌++◌, map, Option, Some, None, refl, sym, ap, ◌∙◌}
use Rattle.std.specs.Prelude.{codes, replicate, true}
use Rattle.std.specs.Option.{option_map}
use Rattle.std.specs.List.{flat_map}
use Rattle.ir_ast.specs.Tokens.{Form, Asked, forms, plain}
use Rattle.ir_ast.specs.Tokens.Form.{word, local, global, open_round, close_round, open_brace, comma, colon, equals, arrow}
use Rattle.ir_ast.specs.Keywords.{width_word, type_word, result_word, cond_word, modify_word, op_word}
use Rattle.ir_ast.specs.Grammar.{val_form, typed_tokens, next_tokens, values_tokens, args_tokens, goal_args_tokens, goal_tokens, op_tokens, ret_tokens, jump_word, jump_tokens}
use Rattle.ir_ast.specs.Lines.{attr_tokens, result_tokens, param_register, param_tokens, next_params, params_tokens, block_params, inst_tokens, term_line, label_line, header_line, first_line}
use Rattle.ir_ast.specs.Texts.{spaced, line_text, canonical}
use Rattle.ir_ast.specs.Written.{inst_text, block_text, function_text}
use Rattle.ir_ast.specs.Places.{named_without, val_without, typed_without, goal_without, param_without, op_without, inst_without, jump_without, term_without, block_without, function_without, without_places, SameUpToPlaces}
use Rattle.ir_ast.proofs.Adds.{forms-join}
use Rattle.ir_ast.proofs.Counts.{canonical_parts}
use Rattle.ir_ast.specs.declared.types.Place.TheVariants.{Stack, Heap}
use Rattle.ir_ast.specs.declared.program.Named.{Named}
use Rattle.ir_ast.specs.declared.program.Param.{Param}
use Rattle.ir_ast.specs.declared.program.Val.{Val}
use Rattle.ir_ast.specs.declared.program.Val.TheVariants.{Reg, Num}
use Rattle.ir_ast.specs.declared.program.TypedVal.{TypedVal}
use Rattle.ir_ast.specs.declared.program.Goal.{Goal}
use Rattle.ir_ast.specs.declared.program.Inst.{Inst}
use Rattle.ir_ast.specs.declared.program.Op.{Op}
use Rattle.ir_ast.specs.declared.program.Op.TheVariants as op
use Rattle.ir_ast.specs.declared.program.Jump.{Jump}
use Rattle.ir_ast.specs.declared.program.Jump.TheVariants.{Br, CondBr, Ret, Unreachable}
use Rattle.ir_ast.specs.declared.program.Term.{Term}
use Rattle.ir_ast.specs.declared.program.Block.{Block}
use Rattle.ir_ast.specs.declared.program.Function.{Function}
use Rattle.ir_ast.specs.declared.program.Program.{Program}

-- a list that is joined from two, each of the same forms
both_same : (us vs ws xs : List Asked) → forms us ≡ forms vs → forms ws ≡ forms xs → forms (us ++ ws) ≡ forms (vs ++ xs)
both_same us vs ws xs p q =
    forms-join us ws ∙ ap (λ (z : List Form). z ++ forms ws) p ∙ ap (λ (z : List Form). forms vs ++ z) q ∙ sym (forms-join vs xs)

flat_same : {A B : Type 0} (f : A → List B) (g : A → A) (xs : List A) → ((x : A) → f (g x) ≡ f x) → flat_map f (map g xs) ≡ flat_map f xs
flat_same f g [] same = refl
flat_same {B = B} f g (x ∷ xs) same =
    ap (λ (z : List B). z ++ flat_map f (map g xs)) (same x) ∙ ap (λ (z : List B). f x ++ z) (flat_same f g xs same)

val_same : (v : Val) → val_form (val_without v) ≡ val_form v
val_same (Reg r) = refl
val_same (Num n) = refl

more_same : (vs : List TypedVal) → forms (flat_map next_tokens (map typed_without vs)) ≡ forms (flat_map next_tokens vs)
more_same [] = refl
more_same (v ∷ vs) =
    both_same (next_tokens (typed_without v)) (next_tokens v) (flat_map next_tokens (map typed_without vs)) (flat_map next_tokens vs)
    (ap (λ (f : Form). comma ∷ word (type_word v.ty) ∷ f ∷ []) (val_same v.val)) (more_same vs)

values_same : (vs : List TypedVal) → forms (values_tokens (map typed_without vs)) ≡ forms (values_tokens vs)
values_same [] = refl
values_same (v ∷ vs) =
    both_same (typed_tokens (typed_without v)) (typed_tokens v) (flat_map next_tokens (map typed_without vs)) (flat_map next_tokens vs)
    (ap (λ (f : Form). word (type_word v.ty) ∷ f ∷ []) (val_same v.val)) (more_same vs)

args_same : (vs : List TypedVal) → forms (args_tokens (map typed_without vs)) ≡ forms (args_tokens vs)
args_same vs = ap (λ (z : List Form). open_round ∷ z)
    (both_same (values_tokens (map typed_without vs)) (values_tokens vs) (plain close_round ∷ []) (plain close_round ∷ []) (values_same vs) refl)

goal_args_same : (vs : List TypedVal) → forms (goal_args_tokens (map typed_without vs)) ≡ forms (goal_args_tokens vs)
goal_args_same [] = refl
goal_args_same (v ∷ vs) = args_same (v ∷ vs)

goal_same : (g : Goal) → forms (goal_tokens (goal_without g)) ≡ forms (goal_tokens g)
goal_same g = ap (λ (z : List Form). word g.label.name ∷ z) (goal_args_same g.args)

op_word_same : (o : Op) → op_word (op_without o) ≡ op_word o
op_word_same (op.Const width value) = refl
op_word_same op.Null = refl
op_word_same (op.Make Stack size) = refl
op_word_same (op.Make Heap size) = refl
op_word_same (op.Gep ptr add) = refl
op_word_same (op.Load ty ptr) = refl
op_word_same (op.Store ty val ptr) = refl
op_word_same (op.Retag kind ptr size) = refl
op_word_same (op.Binary o width a b) = refl
op_word_same (op.Compare cond ty a b) = refl
op_word_same (op.Select ty cond a b) = refl
op_word_same (op.Cast o from to val to_at) = refl
op_word_same (op.PtrToInt ptr) = refl
op_word_same (op.Input index) = refl
op_word_same (op.Modify o width ptr val) = refl
op_word_same (op.CmpXchg width ptr expected val) = refl
op_word_same (op.Copy to from len) = refl
op_word_same (op.Free ptr) = refl
op_word_same (op.Print width val) = refl
op_word_same (op.Call result function args) = refl
op_word_same (op.Host result host args) = refl
op_word_same (op.Spawn function args) = refl
op_word_same (op.Join result ty_at handle) = refl

op_same : (o : Op) → forms (op_tokens (op_without o)) ≡ forms (op_tokens o)
op_same (op.Const width value) = refl
op_same op.Null = refl
op_same (op.Make place size) = ap (λ (f : Form). f ∷ []) (val_same size)
op_same (op.Gep ptr add) = ap (λ (f : Form). local ptr.name ∷ comma ∷ f ∷ []) (val_same add)
op_same (op.Load ty ptr) = refl
op_same (op.Store ty val ptr) = ap (λ (f : Form). word (type_word ty) ∷ f ∷ comma ∷ local ptr.name ∷ []) (val_same val)
op_same (op.Retag kind ptr size) = refl
op_same (op.Binary o width a b) =
    ap (λ (f : Form). word (width_word width) ∷ f ∷ comma ∷ val_form (val_without b) ∷ []) (val_same a)
    ∙ ap (λ (f : Form). word (width_word width) ∷ val_form a ∷ comma ∷ f ∷ []) (val_same b)
op_same (op.Compare cond ty a b) =
    ap (λ (f : Form). word (cond_word cond) ∷ word (type_word ty) ∷ f ∷ comma ∷ val_form (val_without b) ∷ []) (val_same a)
    ∙ ap (λ (f : Form). word (cond_word cond) ∷ word (type_word ty) ∷ val_form a ∷ comma ∷ f ∷ []) (val_same b)
op_same (op.Select ty cond a b) =
    ap (λ (f : Form). word (type_word ty) ∷ f ∷ comma ∷ val_form (val_without a) ∷ comma ∷ val_form (val_without b) ∷ []) (val_same cond)
    ∙ ap (λ (f : Form). word (type_word ty) ∷ val_form cond ∷ comma ∷ f ∷ comma ∷ val_form (val_without b) ∷ []) (val_same a)
    ∙ ap (λ (f : Form). word (type_word ty) ∷ val_form cond ∷ comma ∷ val_form a ∷ comma ∷ f ∷ []) (val_same b)
op_same (op.Cast o from to val to_at) = ap (λ (f : Form). word (width_word from) ∷ f ∷ word (codes "to") ∷ word (width_word to) ∷ []) (val_same val)
op_same (op.PtrToInt ptr) = refl
op_same (op.Input index) = ap (λ (f : Form). f ∷ []) (val_same index)
op_same (op.Modify o width ptr val) = ap (λ (f : Form). word (modify_word o) ∷ word (width_word width) ∷ local ptr.name ∷ comma ∷ f ∷ []) (val_same val)
op_same (op.CmpXchg width ptr expected val) =
    ap (λ (f : Form). word (width_word width) ∷ local ptr.name ∷ comma ∷ f ∷ comma ∷ val_form (val_without val) ∷ []) (val_same expected)
    ∙ ap (λ (f : Form). word (width_word width) ∷ local ptr.name ∷ comma ∷ val_form expected ∷ comma ∷ f ∷ []) (val_same val)
op_same (op.Copy to from len) = ap (λ (f : Form). local to.name ∷ comma ∷ local from.name ∷ comma ∷ f ∷ []) (val_same len)
op_same (op.Free ptr) = refl
op_same (op.Print width val) = ap (λ (f : Form). word (width_word width) ∷ f ∷ []) (val_same val)
op_same (op.Call result function args) = ap (λ (z : List Form). word (result_word result) ∷ global function.name ∷ z) (args_same args)
op_same (op.Host result host args) = ap (λ (z : List Form). word (type_word result) ∷ global host.name ∷ z) (args_same args)
op_same (op.Spawn function args) = ap (λ (z : List Form). global function.name ∷ z) (args_same args)
op_same (op.Join result ty_at handle) = refl

inst_same : (i : Inst) → inst_text (inst_without i) ≡ inst_text i
inst_same i = ap (λ (fs : List Form). replicate 2 32 ++ spaced true fs ++ codes "\n") (by_dest i.dest)
  where
    operation : word (op_word (op_without i.op)) ∷ forms (op_tokens (op_without i.op)) ≡ word (op_word i.op) ∷ forms (op_tokens i.op)
    operation = ap (λ (w : List ℕ). word w ∷ forms (op_tokens (op_without i.op))) (op_word_same i.op) ∙ ap (λ (z : List Form). word (op_word i.op) ∷ z) (op_same i.op)

    by_dest : (d : Option Named) → forms (inst_tokens 0 0 (option_map named_without d) 0 (op_without i.op)) ≡ forms (inst_tokens 0 0 d i.at i.op)
    by_dest None = operation
    by_dest (Some r) = ap (λ (z : List Form). local r.name ∷ equals ∷ z) operation

jump_word_same : (j : Jump) → jump_word (jump_without j) ≡ jump_word j
jump_word_same (Br goal) = refl
jump_word_same (CondBr cond first second) = refl
jump_word_same (Ret val ty_at) = refl
jump_word_same Unreachable = refl

ret_same : (v : Option TypedVal) (at : ℕ) → forms (ret_tokens (option_map typed_without v) 0) ≡ forms (ret_tokens v at)
ret_same None at = refl
ret_same (Some v) at = ap (λ (f : Form). word (type_word v.ty) ∷ f ∷ []) (val_same v.val)

jump_same : (j : Jump) → forms (jump_tokens (jump_without j)) ≡ forms (jump_tokens j)
jump_same (Br goal) = goal_same goal
jump_same (CondBr cond first second) =
    ap (λ (f : Form). f ∷ comma ∷ forms (goal_tokens (goal_without first) ++ plain comma ∷ goal_tokens (goal_without second))) (val_same cond)
    ∙ ap (λ (z : List Form). val_form cond ∷ comma ∷ z)
    (both_same (goal_tokens (goal_without first)) (goal_tokens first) (plain comma ∷ goal_tokens (goal_without second)) (plain comma ∷ goal_tokens second)
    (goal_same first) (ap (λ (z : List Form). comma ∷ z) (goal_same second)))
jump_same (Ret val ty_at) = ret_same val ty_at
jump_same Unreachable = refl

term_same : (t : Term) → line_text (term_line 0 (term_without t)) ≡ line_text (term_line 0 t)
term_same t = ap (λ (fs : List Form). replicate 2 32 ++ spaced true fs ++ codes "\n")
    (ap (λ (w : List ℕ). word w ∷ forms (jump_tokens (jump_without t.jump))) (jump_word_same t.jump) ∙ ap (λ (z : List Form). word (jump_word t.jump) ∷ z) (jump_same t.jump))

param_same : (r : ℕ) (p : Param) → forms (param_tokens r (param_without p)) ≡ forms (param_tokens r p)
param_same r p = ap (λ (z : List Form). word (type_word p.ty) ∷ z)
    (both_same (attr_tokens p.attr) (attr_tokens p.attr) (param_register r (param_without p) ∷ []) (param_register r p ∷ []) refl refl)

next_params_same : (r : ℕ) (ps : List Param) → forms (next_params r (map param_without ps)) ≡ forms (next_params r ps)
next_params_same r [] = refl
next_params_same r (p ∷ ps) =
    both_same (plain comma ∷ param_tokens r (param_without p)) (plain comma ∷ param_tokens r p) (next_params (suc r) (map param_without ps)) (next_params (suc r) ps)
    (ap (λ (z : List Form). comma ∷ z) (param_same r p)) (next_params_same (suc r) ps)

params_same : (r : ℕ) (ps : List Param) → forms (params_tokens r (map param_without ps)) ≡ forms (params_tokens r ps)
params_same r [] = refl
params_same r (p ∷ ps) =
    both_same (param_tokens r (param_without p)) (param_tokens r p) (next_params (suc r) (map param_without ps)) (next_params (suc r) ps)
    (param_same r p) (next_params_same (suc r) ps)

block_params_same : (ps : List Param) → forms (block_params 0 (map param_without ps)) ≡ forms (block_params 0 ps)
block_params_same [] = refl
block_params_same (p ∷ ps) = ap (λ (z : List Form). open_round ∷ z)
    (both_same (params_tokens 0 (map param_without (p ∷ ps))) (params_tokens 0 (p ∷ ps)) (plain close_round ∷ []) (plain close_round ∷ []) (params_same 0 (p ∷ ps)) refl)

label_same : (b : Block) → line_text (label_line 0 (block_without b)) ≡ line_text (label_line 0 b)
label_same b = ap (λ (fs : List Form). replicate 0 32 ++ spaced true (word b.label.name ∷ fs) ++ codes "\n")
    (both_same (block_params 0 (map param_without b.params)) (block_params 0 b.params) (plain colon ∷ []) (plain colon ∷ []) (block_params_same b.params) refl)

block_same : (b : Block) → block_text (block_without b) ≡ block_text b
block_same b =
    ap (λ (z : List ℕ). z ++ flat_map inst_text (map inst_without b.insts) ++ line_text (term_line 0 (term_without b.term))) (label_same b)
    ∙ ap (λ (z : List ℕ). line_text (label_line 0 b) ++ z ++ line_text (term_line 0 (term_without b.term))) (flat_same inst_text inst_without b.insts inst_same)
    ∙ ap (λ (z : List ℕ). line_text (label_line 0 b) ++ flat_map inst_text b.insts ++ z) (term_same b.term)

header_same : (f : Function) → line_text (header_line 0 (function_without f)) ≡ line_text (header_line 0 f)
header_same f = ap (λ (fs : List Form). replicate 0 32 ++ spaced true (word (codes "func") ∷ global f.name.name ∷ open_round ∷ fs) ++ codes "\n")
    (both_same (params_tokens 0 (map param_without f.params)) (params_tokens 0 f.params) (rest f) (rest f) (params_same 0 f.params) refl)
  where
    rest : Function → List Asked
    rest g = plain close_round ∷ plain arrow ∷ result_tokens g.result ++ plain open_brace ∷ []

function_same : (f : Function) → function_text (function_without f) ≡ function_text f
function_same f =
    ap (λ (z : List ℕ). z ++ flat_map block_text (map block_without f.blocks) ++ codes "}\n") (header_same f)
    ∙ ap (λ (z : List ℕ). line_text (header_line 0 f) ++ z ++ codes "}\n") (flat_same block_text block_without f.blocks block_same)

without_same : (p : Program) → canonical (without_places p) ≡ canonical p
without_same p =
    canonical_parts (without_places p)
    ∙ ap (λ (z : List ℕ). line_text (first_line p.version) ++ z) (flat_same function_text function_without p.functions function_same)
    ∙ sym (canonical_parts p)

pub one_text : (p q : Program) → SameUpToPlaces p q → canonical p ≡ canonical q
one_text p q same = sym (without_same p) ∙ ap canonical same ∙ without_same q
