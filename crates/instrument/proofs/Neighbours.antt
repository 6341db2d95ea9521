-- Each two neighbours of the lines of a function fit together.
use Rattle.std.proofs.Common.{◌≡◌, ℕ, ◌+◌, false, List, [], ◌∷◌, Option, Some, None, refl, sym, subst, ◌∙◌}
use Rattle.std.specs.Prelude.{IfSome, slice_get}
use Rattle.perm_table.specs.declared.Guard.TheVariants.{Free}
use Rattle.ir_ast.specs.Words.{ty_bytes, width_bytes}
use Rattle.ir_ast.specs.declared.types.Ty.{Ty}
use Rattle.ir_ast.specs.declared.types.Ty.TheVariants.{Int, Ptr}
use Rattle.ir_ast.specs.declared.types.Attr.{Attr}
use Rattle.ir_ast.specs.declared.program.Param.{Param}
use Rattle.ir_ast.specs.declared.program.TypedVal.{TypedVal}
use Rattle.ir_ast.specs.declared.program.Goal.{Goal}
use Rattle.ir_ast.specs.declared.program.Op.{Op}
use Rattle.ir_ast.specs.declared.program.Op.TheVariants as op
use Rattle.ir_ast.specs.declared.program.Inst.{Inst}
use Rattle.ir_ast.specs.declared.program.Jump.{Jump}
use Rattle.ir_ast.specs.declared.program.Jump.TheVariants.{Br, CondBr, Ret, Unreachable}
use Rattle.ir_ast.specs.declared.program.Block.{Block}
use Rattle.target_code.specs.declared.line.Shadow.TheVariants as shadow
use Rattle.target_code.specs.declared.line.Line.{Line}
use Rattle.target_code.specs.declared.line.Line.TheVariants as line
use Rattle.target_code.specs.Formed.{EachTwo, check_of, check_made, unshadowed, shadow_given, is_pop, is_return, IsChecked, IsShadowed, IsReturned}
use Rattle.ir_ast.specs.Attributes.{attr_of_call, guard_of}
use Rattle.instrument.specs.Translation.{Scope, slot, function_number, block_number, host_number, operand_of, shadow_of, operands_of, for_ptr, arg_lines, take_lines, params_at, goal_lines, retag_lines, result_lines, attr_of_join, written, op_lines, slot_of_dest, ret_lines, jump_lines, body_lines, block_lines, param_lines, entry_retag, entry_retags, entry_lines}

abbrev pub Fit : Option Line → Option Line → Type 0
Fit a b = IsChecked a b × IsShadowed a b × IsReturned a b

-- behind this line any line may stand that wants nothing before it
pub record Plain (a : Line) : Type 0 where
  pub made : check_made a ≡ None
  pub shadow : unshadowed a ≡ None
  pub pop : is_pop a ≡ false

-- this line wants nothing before it
pub record Lone (b : Line) : Type 0 where
  pub check : check_of b ≡ None
  pub return : is_return b ≡ false

-- lines that fit behind any plain line
abbrev pub Open : List Line → Type 0
Open ls = (a : Line) → Plain a → EachTwo Fit (Some a) ls

no_shadow : (a : Line) (b : Option Line) → Plain a → IsShadowed (Some a) b
no_shadow a None p = subst (λ (o : Option ℕ). IfSome o (λ r. None ≡ Some r)) (sym p.shadow) tt
no_shadow a (Some b) p = subst (λ (o : Option ℕ). IfSome o (λ r. shadow_given b ≡ Some r)) (sym p.shadow) tt

pair : (a b : Line) → Plain a → Lone b → Fit (Some a) (Some b)
pair a b p f = (f.check ∙ sym p.made, no_shadow a (Some b) p, f.return ∙ sym p.pop)

open_end : Open []
open_end a p = (sym p.made, no_shadow a None p, sym p.pop)

open_cons : (b : Line) (ls : List Line) → Lone b → Plain b → Open ls → Open (b ∷ ls)
open_cons b ls f p o = λ a pa. (pair a b pa f, o b p)

open_two : (b c : Line) (ls : List Line) → Lone b → Fit (Some b) (Some c) → Plain c → Open ls → Open (b ∷ c ∷ ls)
open_two b c ls f fit p o = λ a pa. (pair a b pa f, (fit, o c p))

open_three : (b c d : Line) (ls : List Line) → Lone b → Fit (Some b) (Some c) → Fit (Some c) (Some d) → Plain d → Open ls → Open (b ∷ c ∷ d ∷ ls)
open_three b c d ls f fit fits p o = λ a pa. (pair a b pa f, (fit, (fits, o d p)))

open_for_ptr : (ty : Ty) (l : Line) (ls : List Line) → Lone l → Plain l → Open ls → Open (for_ptr ty l ls)
open_for_ptr (Int width) l ls f p o = o
open_for_ptr Ptr l ls f p o = open_cons l ls f p o

-- ---- arguments, goals and results

open_args : (x : Scope) (i : ℕ) (vs : List TypedVal) (ls : List Line) → Open ls → Open (arg_lines x i vs ls)
open_args x i [] ls o = o
open_args x i (v ∷ vs) ls o =
    open_cons (line.Arg i (operand_of x v.val)) (for_ptr v.ty (line.ShadowArg i (shadow_of x v.val)) (arg_lines x (i + 1) vs ls))
    (record { check = refl; return = refl }) (record { made = refl; shadow = refl; pop = refl })
    (open_for_ptr v.ty (line.ShadowArg i (shadow_of x v.val)) (arg_lines x (i + 1) vs ls)
    (record { check = refl; return = refl }) (record { made = refl; shadow = refl; pop = refl }) (open_args x (i + 1) vs ls o))

open_takes : (x : Scope) (i : ℕ) (ps : List Param) (ls : List Line) → Open ls → Open (take_lines x i ps ls)
open_takes x i [] ls o = o
open_takes x i (p ∷ ps) ls o =
    open_cons (line.TakeArg (slot x p.reg) i) (for_ptr p.ty (line.TakeShadowArg (slot x p.reg) i) (take_lines x (i + 1) ps ls))
    (record { check = refl; return = refl }) (record { made = refl; shadow = refl; pop = refl })
    (open_for_ptr p.ty (line.TakeShadowArg (slot x p.reg) i) (take_lines x (i + 1) ps ls)
    (record { check = refl; return = refl }) (record { made = refl; shadow = refl; pop = refl }) (open_takes x (i + 1) ps ls o))

open_goal : (x : Scope) (g : Goal) (ls : List Line) → Open ls → Open (goal_lines x g ls)
open_goal x g ls o =
    let target : ℕ = block_number x g.label in
    open_args x 0 g.args (take_lines x 0 (params_at (slice_get x.blocks target)) (line.Jump target ∷ ls))
    (open_takes x 0 (params_at (slice_get x.blocks target)) (line.Jump target ∷ ls)
    (open_cons (line.Jump target) ls (record { check = refl; return = refl }) (record { made = refl; shadow = refl; pop = refl }) o))

open_retag : (to : Option ℕ) (attr : Option Attr) (ls : List Line) → Open ls → Open (retag_lines to attr ls)
open_retag to None ls o = o
open_retag None (Some a) ls o = open_cons (line.RetagResult a.kind a.size) ls (record { check = refl; return = refl }) (record { made = refl; shadow = refl; pop = refl }) o
open_retag (Some r) (Some a) ls o = open_cons (line.Retag r a.kind Free r r a.size) ls (record { check = refl; return = refl }) (record { made = refl; shadow = refl; pop = refl }) o

open_result : (to : Option ℕ) (ty : Option Ty) (attr : Option Attr) (ls : List Line) → Open ls → Open (result_lines to ty attr ls)
open_result to None attr ls o = o
open_result None (Some (Int width)) attr ls o = o
open_result None (Some Ptr) attr ls o = open_retag None attr ls o
open_result (Some r) (Some (Int width)) attr ls o = open_cons (line.CallResult r) ls (record { check = refl; return = refl }) (record { made = refl; shadow = refl; pop = refl }) o
open_result (Some r) (Some Ptr) attr ls o =
    open_cons (line.CallResult r) (line.ShadowCallResult r ∷ retag_lines (Some r) attr ls) (record { check = refl; return = refl }) (record { made = refl; shadow = refl; pop = refl })
    (open_cons (line.ShadowCallResult r) (retag_lines (Some r) attr ls) (record { check = refl; return = refl }) (record { made = refl; shadow = refl; pop = refl })
    (open_retag (Some r) attr ls o))

-- ---- instructions

open_load : (ty : Ty) (r p : ℕ) (ls : List Line) → Open ls → Open (line.CheckRead p p (ty_bytes ty) ∷ line.Load r ty p ∷ for_ptr ty (line.Loaded r) ls)
open_load (Int w) r p ls o =
    open_two (line.CheckRead p p (width_bytes w)) (line.Load r (Int w) p) ls (record { check = refl; return = refl }) (refl, tt, refl) (record { made = refl; shadow = refl; pop = refl }) o
open_load Ptr r p ls o =
    open_three (line.CheckRead p p 8) (line.Load r Ptr p) (line.Loaded r) ls (record { check = refl; return = refl }) (refl, tt, refl) (refl, refl, refl) (record { made = refl; shadow = refl; pop = refl }) o

pub open_op : (x : Scope) (o : Op) (to : Option ℕ) (ls : List Line) → Open ls → Open (op_lines x o to ls)
open_op x (op.Const width value) to ls o = open_cons (line.Const (written to) (Int width) value) ls (record { check = refl; return = refl }) (record { made = refl; shadow = refl; pop = refl }) o
open_op x op.Null to ls o =
    open_two (line.Const (written to) Ptr 0) (line.ShadowMove (written to) shadow.Nothing) ls (record { check = refl; return = refl }) (refl, refl, refl) (record { made = refl; shadow = refl; pop = refl }) o
open_op x (op.Make where_ size) to ls o =
    open_cons (line.Make (written to) (written to) where_ (operand_of x size)) ls (record { check = refl; return = refl }) (record { made = refl; shadow = refl; pop = refl }) o
open_op x (op.Gep ptr add) to ls o =
    open_two (line.Gep (written to) (slot x ptr) (operand_of x add)) (line.ShadowMove (written to) (shadow.Slot (slot x ptr))) ls
    (record { check = refl; return = refl }) (refl, refl, refl) (record { made = refl; shadow = refl; pop = refl }) o
open_op x (op.Load ty ptr) to ls o = open_load ty (written to) (slot x ptr) ls o
open_op x (op.Store ty val ptr) to ls o =
    open_for_ptr ty (line.Stored (shadow_of x val)) (line.CheckWrite (slot x ptr) (slot x ptr) (ty_bytes ty) ∷ line.Store ty (operand_of x val) (slot x ptr) ∷ ls)
    (record { check = refl; return = refl }) (record { made = refl; shadow = refl; pop = refl })
    (open_two (line.CheckWrite (slot x ptr) (slot x ptr) (ty_bytes ty)) (line.Store ty (operand_of x val) (slot x ptr)) ls
    (record { check = refl; return = refl }) (refl, tt, refl) (record { made = refl; shadow = refl; pop = refl }) o)
open_op x (op.Retag kind ptr size) to ls o =
    open_cons (line.Retag (written to) kind Free (slot x ptr) (slot x ptr) size) (line.Move (written to) (slot x ptr) ∷ ls)
    (record { check = refl; return = refl }) (record { made = refl; shadow = refl; pop = refl })
    (open_cons (line.Move (written to) (slot x ptr)) ls (record { check = refl; return = refl }) (record { made = refl; shadow = refl; pop = refl }) o)
open_op x (op.Binary f width a b) to ls o =
    open_cons (line.Binary (written to) f width (operand_of x a) (operand_of x b)) ls (record { check = refl; return = refl }) (record { made = refl; shadow = refl; pop = refl }) o
open_op x (op.Compare cond ty a b) to ls o =
    open_cons (line.Compare (written to) cond ty (operand_of x a) (operand_of x b)) ls (record { check = refl; return = refl }) (record { made = refl; shadow = refl; pop = refl }) o
open_op x (op.Select (Int w) cond a b) to ls o =
    open_cons (line.Select (written to) (Int w) (operand_of x cond) (operand_of x a) (operand_of x b)) ls (record { check = refl; return = refl }) (record { made = refl; shadow = refl; pop = refl }) o
open_op x (op.Select Ptr cond a b) to ls o =
    open_two (line.Select (written to) Ptr (operand_of x cond) (operand_of x a) (operand_of x b)) (line.ShadowSelect (written to) (operand_of x cond) (shadow_of x a) (shadow_of x b)) ls
    (record { check = refl; return = refl }) (refl, refl, refl) (record { made = refl; shadow = refl; pop = refl }) o
open_op x (op.Cast f from target val to_at) to ls o =
    open_cons (line.Cast (written to) f from (operand_of x val) target) ls (record { check = refl; return = refl }) (record { made = refl; shadow = refl; pop = refl }) o
open_op x (op.PtrToInt ptr) to ls o = open_cons (line.PtrToInt (written to) (slot x ptr)) ls (record { check = refl; return = refl }) (record { made = refl; shadow = refl; pop = refl }) o
open_op x (op.Input index) to ls o = open_cons (line.Input (written to) (operand_of x index)) ls (record { check = refl; return = refl }) (record { made = refl; shadow = refl; pop = refl }) o
open_op x (op.Modify f width ptr val) to ls o =
    open_two (line.CheckWrite (slot x ptr) (slot x ptr) (width_bytes width)) (line.Modify (written to) f width (slot x ptr) (operand_of x val)) ls
    (record { check = refl; return = refl }) (refl, tt, refl) (record { made = refl; shadow = refl; pop = refl }) o
open_op x (op.CmpXchg width ptr expected val) to ls o =
    open_two (line.CheckWrite (slot x ptr) (slot x ptr) (width_bytes width)) (line.CmpXchg (written to) width (slot x ptr) (operand_of x expected) (operand_of x val)) ls
    (record { check = refl; return = refl }) (refl, tt, refl) (record { made = refl; shadow = refl; pop = refl }) o
open_op x (op.Copy target from len) to ls o =
    open_two (line.CheckCopy (slot x target) (slot x target) (slot x from) (slot x from) (operand_of x len)) (line.Copy (slot x target) (slot x from) (operand_of x len)) ls
    (record { check = refl; return = refl }) (refl, tt, refl) (record { made = refl; shadow = refl; pop = refl }) o
open_op x (op.Free ptr) to ls o =
    open_two (line.CheckFree (slot x ptr) (slot x ptr)) (line.Free (slot x ptr)) ls (record { check = refl; return = refl }) (refl, tt, refl) (record { made = refl; shadow = refl; pop = refl }) o
open_op x (op.Print width val) to ls o = open_cons (line.Print width (operand_of x val)) ls (record { check = refl; return = refl }) (record { made = refl; shadow = refl; pop = refl }) o
open_op x (op.Call ty function args) to ls o =
    let rest : List Line = result_lines to ty (attr_of_call x.functions function.name) ls in
    open_args x 0 args (line.Call (function_number x function) ∷ rest)
    (open_cons (line.Call (function_number x function)) rest (record { check = refl; return = refl }) (record { made = refl; shadow = refl; pop = refl })
    (open_result to ty (attr_of_call x.functions function.name) ls o))
open_op x (op.Host ty host args) to ls o =
    let rest : List Line = for_ptr ty (line.ShadowMove (written to) shadow.Nothing) ls in
    open_cons (line.Host (written to) (host_number x host) (operands_of x args)) rest (record { check = refl; return = refl }) (record { made = refl; shadow = refl; pop = refl })
    (open_for_ptr ty (line.ShadowMove (written to) shadow.Nothing) ls (record { check = refl; return = refl }) (record { made = refl; shadow = refl; pop = refl }) o)
open_op x (op.Spawn function args) to ls o =
    open_args x 0 args (line.Spawn (written to) (function_number x function) ∷ ls)
    (open_cons (line.Spawn (written to) (function_number x function)) ls (record { check = refl; return = refl }) (record { made = refl; shadow = refl; pop = refl }) o)
open_op x (op.Join ty ty_at handle) to ls o =
    open_cons (line.Join (slot x handle)) (result_lines to ty (attr_of_join x handle) ls) (record { check = refl; return = refl }) (record { made = refl; shadow = refl; pop = refl })
    (open_result to ty (attr_of_join x handle) ls o)

-- ---- terminators and blocks

open_leaving : Open (line.PopFrame ∷ line.Return ∷ [])
open_leaving = open_two line.PopFrame line.Return [] (record { check = refl; return = refl }) (refl, tt, refl) (record { made = refl; shadow = refl; pop = refl }) open_end

open_ret : (x : Scope) (v : Option TypedVal) → Open (ret_lines x v (line.PopFrame ∷ line.Return ∷ []))
open_ret x None = open_leaving
open_ret x (Some v) =
    let rest : List Line = line.PopFrame ∷ line.Return ∷ [] in
    open_cons (line.Result (operand_of x v.val)) (for_ptr v.ty (line.ShadowResult (shadow_of x v.val)) rest) (record { check = refl; return = refl }) (record { made = refl; shadow = refl; pop = refl })
    (open_for_ptr v.ty (line.ShadowResult (shadow_of x v.val)) rest (record { check = refl; return = refl }) (record { made = refl; shadow = refl; pop = refl }) open_leaving)

pub open_jump : (x : Scope) (j : Jump) → Open (jump_lines x j)
open_jump x (Br goal) = open_goal x goal [] open_end
open_jump x (CondBr cond first second) =
    open_cons (line.Branch (operand_of x cond)) (goal_lines x first (goal_lines x second [])) (record { check = refl; return = refl }) (record { made = refl; shadow = refl; pop = refl })
    (open_goal x first (goal_lines x second []) (open_goal x second [] open_end))
open_jump x (Ret val ty_at) = open_ret x val
open_jump x Unreachable = open_cons line.Unreachable [] (record { check = refl; return = refl }) (record { made = refl; shadow = refl; pop = refl }) open_end

open_body : (x : Scope) (n : ℕ) (is : List Inst) (j : Jump) → Open (body_lines x n is j)
open_body x n [] j = open_jump x j
open_body x n (i ∷ is) j =
    open_op x i.op (slot_of_dest x i.dest) (line.Turn (n + 1) ∷ body_lines x (n + 1) is j)
    (open_cons (line.Turn (n + 1)) (body_lines x (n + 1) is j) (record { check = refl; return = refl }) (record { made = refl; shadow = refl; pop = refl }) (open_body x (n + 1) is j))

pub block_fits : (x : Scope) (n : ℕ) (b : Block) → EachTwo Fit None (block_lines x n b)
block_fits x n b = ((refl, tt, refl), open_body x n b.insts b.term.jump (line.Turn n) (record { made = refl; shadow = refl; pop = refl }))

-- ---- entries

open_params : (x : Scope) (i : ℕ) (ps : List Param) (ls : List Line) → Open ls → Open (param_lines x i ps ls)
open_params x i [] ls o = o
open_params x i (p ∷ ps) ls o =
    open_cons (line.Param (slot x p.reg) i) (for_ptr p.ty (line.ShadowParam (slot x p.reg) i) (param_lines x (i + 1) ps ls))
    (record { check = refl; return = refl }) (record { made = refl; shadow = refl; pop = refl })
    (open_for_ptr p.ty (line.ShadowParam (slot x p.reg) i) (param_lines x (i + 1) ps ls)
    (record { check = refl; return = refl }) (record { made = refl; shadow = refl; pop = refl }) (open_params x (i + 1) ps ls o))

open_entry_retag : (r : ℕ) (attr : Option Attr) (ls : List Line) → Open ls → Open (entry_retag r attr ls)
open_entry_retag r None ls o = o
open_entry_retag r (Some a) ls o = open_cons (line.Retag r a.kind (guard_of a.kind) r r a.size) ls (record { check = refl; return = refl }) (record { made = refl; shadow = refl; pop = refl }) o

open_entry_retags : (x : Scope) (ps : List Param) → Open (entry_retags x ps [])
open_entry_retags x [] = open_end
open_entry_retags x (p ∷ ps) = open_entry_retag (slot x p.reg) p.attr (entry_retags x ps []) (open_entry_retags x ps)

pub entry_fits : (x : Scope) (ps : List Param) → EachTwo Fit None (entry_lines x ps)
entry_fits x ps =
    ((refl, tt, refl), open_params x 0 ps (entry_retags x ps []) (open_entry_retags x ps) line.PushFrame (record { made = refl; shadow = refl; pop = refl }))
