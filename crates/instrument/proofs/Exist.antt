-- The slots, blocks and functions that the lines of a function name exist, and no line but its first is `pushframe`.
use Rattle.std.proofs.Common.{◌≡◌, ℕ, zero, suc, ◌+◌, ◌<◌, false, List, [], ◌∷◌, ◌++◌, length, Option, Some, None, refl, sym, subst}
use Rattle.std.specs.Prelude.{IfSome, slice_get}
use Rattle.perm_table.specs.declared.Guard.TheVariants.{Free}
use Rattle.ir_ast.specs.Tokens.{Each}
use Rattle.ir_ast.specs.Shapes.{FitsDestination}
use Rattle.ir_ast.specs.Words.{ty_bytes, width_bytes}
use Rattle.ir_ast.specs.declared.types.Ty.{Ty}
use Rattle.ir_ast.specs.declared.types.Ty.TheVariants.{Int, Ptr}
use Rattle.ir_ast.specs.declared.types.Attr.{Attr}
use Rattle.ir_ast.specs.declared.program.Named.{Named}
use Rattle.ir_ast.specs.declared.program.Param.{Param}
use Rattle.ir_ast.specs.declared.program.Val.{Val}
use Rattle.ir_ast.specs.declared.program.Val.TheVariants.{Reg, Num}
use Rattle.ir_ast.specs.declared.program.TypedVal.{TypedVal}
use Rattle.ir_ast.specs.declared.program.Goal.{Goal}
use Rattle.ir_ast.specs.declared.program.Op.{Op}
use Rattle.ir_ast.specs.declared.program.Op.TheVariants as op
use Rattle.ir_ast.specs.declared.program.Inst.{Inst}
use Rattle.ir_ast.specs.declared.program.Jump.{Jump}
use Rattle.ir_ast.specs.declared.program.Jump.TheVariants.{Br, CondBr, Ret, Unreachable}
use Rattle.ir_ast.specs.declared.program.Block.{Block}
use Rattle.target_code.specs.declared.line.Shadow.TheVariants as shadow
use Rattle.target_code.specs.declared.line.Line.{Line}
use Rattle.target_code.specs.declared.line.Line.TheVariants as line
use Rattle.target_code.specs.Formed.{NamesKnown, is_push, slots, block_named, function_named, operand_slots, shadow_slots, args_slots}
use Rattle.ir_ast.specs.Attributes.{attr_of_call, guard_of}
use Rattle.instrument.specs.Translation.{Scope, slot, function_number, block_number, host_number, operand_of, shadow_of, operands_of, for_ptr, arg_lines, take_lines, params_at, goal_lines, retag_lines, result_lines, attr_of_join, written, op_lines, slot_of_dest, ret_lines, jump_lines, body_lines, block_lines, param_lines, entry_retag, entry_retags}
use Rattle.instrument.specs.Known.{HasRegister, HasVal, HasVals, HasParams, HasGoal, HasOp, HasInst, HasJump, HasBlock}

abbrev pub Below : Scope → ℕ → Type 0
Below x n = n < length x.registers

pub record Fine (x : Scope) (l : Line) : Type 0 where
  pub names : NamesKnown (length x.registers) (length x.blocks) (length x.functions) l
  pub push : is_push l ≡ false

abbrev pub AllFine : Scope → List Line → Type 0
AllFine x ls = Each (Fine x) ls

-- a line that names slots alone
moves : (x : Scope) (l : Line) → Each (Below x) (slots l) → block_named l ≡ None → function_named l ≡ None → is_push l ≡ false → Fine x l
moves x l h b f p = record {
  names = record {
    slots = h;
    block = subst (λ (o : Option ℕ). IfSome o (λ n. n < length x.blocks)) (sym b) tt;
    function = subst (λ (o : Option ℕ). IfSome o (λ n. n < length x.functions)) (sym f) tt;
  };
  push = p;
}

both : (x : Scope) (as_ bs : List ℕ) → Each (Below x) as_ → Each (Below x) bs → Each (Below x) (as_ ++ bs)
both x [] bs h k = k
both x (a ∷ as_) bs h k = (h.0, both x as_ bs h.1 k)

value : (x : Scope) (v : Val) → HasVal x v → Each (Below x) (operand_slots (operand_of x v))
value x (Reg r) h = (h, tt)
value x (Num n) h = tt

ghost_value : (x : Scope) (v : Val) → HasVal x v → Each (Below x) (shadow_slots (shadow_of x v))
ghost_value x (Reg r) h = (h, tt)
ghost_value x (Num n) h = tt

values : (x : Scope) (vs : List TypedVal) → HasVals x vs → Each (Below x) (args_slots (operands_of x vs))
values x [] h = tt
values x (v ∷ vs) h = both x (operand_slots (operand_of x v.val)) (args_slots (operands_of x vs)) (value x v.val h.0) (values x vs h.1)

fine_for_ptr : (x : Scope) (ty : Ty) (l : Line) (ls : List Line) → Fine x l → AllFine x ls → AllFine x (for_ptr ty l ls)
fine_for_ptr x (Int width) l ls f o = o
fine_for_ptr x Ptr l ls f o = (f, o)

-- ---- arguments, goals and results

fine_args : (x : Scope) (i : ℕ) (vs : List TypedVal) (ls : List Line) → HasVals x vs → AllFine x ls → AllFine x (arg_lines x i vs ls)
fine_args x i [] ls h o = o
fine_args x i (v ∷ vs) ls h o = (
  moves x (line.Arg i (operand_of x v.val)) (value x v.val h.0) refl refl refl,
  fine_for_ptr x v.ty (line.ShadowArg i (shadow_of x v.val)) (arg_lines x (i + 1) vs ls) (moves x (line.ShadowArg i (shadow_of x v.val)) (ghost_value x v.val h.0) refl refl refl)
      (fine_args x (i + 1) vs ls h.1 o),
)

fine_takes : (x : Scope) (i : ℕ) (ps : List Param) (ls : List Line) → HasParams x ps → AllFine x ls → AllFine x (take_lines x i ps ls)
fine_takes x i [] ls h o = o
fine_takes x i (p ∷ ps) ls h o = (
  moves x (line.TakeArg (slot x p.reg) i) (h.0, tt) refl refl refl,
  fine_for_ptr x p.ty (line.TakeShadowArg (slot x p.reg) i) (take_lines x (i + 1) ps ls) (moves x (line.TakeShadowArg (slot x p.reg) i) (h.0, tt) refl refl refl)
      (fine_takes x (i + 1) ps ls h.1 o),
)

params_known : (x : Scope) (bs : List Block) (n : ℕ) → Each (HasBlock x) bs → HasParams x (params_at (slice_get bs n))
params_known x [] zero h = tt
params_known x [] (suc n) h = tt
params_known x (b ∷ bs) zero h = h.0.params
params_known x (b ∷ bs) (suc n) h = params_known x bs n h.1

fine_goal : (x : Scope) (g : Goal) (ls : List Line) → Each (HasBlock x) x.blocks → HasGoal x g → AllFine x ls → AllFine x (goal_lines x g ls)
fine_goal x g ls known h o =
    let target : ℕ = block_number x g.label in
    let jump : Fine x (line.Jump target) = record { names = record { slots = tt; block = h.0; function = tt }; push = refl } in
    fine_args x 0 g.args (take_lines x 0 (params_at (slice_get x.blocks target)) (line.Jump target ∷ ls)) h.1
    (fine_takes x 0 (params_at (slice_get x.blocks target)) (line.Jump target ∷ ls) (params_known x x.blocks target known) (jump, o))

abbrev pub HasTo : Scope → Option ℕ → Type 0
HasTo x to = IfSome to (Below x)

fine_retag : (x : Scope) (to : Option ℕ) (attr : Option Attr) (ls : List Line) → HasTo x to → AllFine x ls → AllFine x (retag_lines to attr ls)
fine_retag x to None ls h o = o
fine_retag x None (Some a) ls h o = (moves x (line.RetagResult a.kind a.size) tt refl refl refl, o)
fine_retag x (Some r) (Some a) ls h o = (moves x (line.Retag r a.kind Free r r a.size) (h, (h, (h, tt))) refl refl refl, o)

fine_result : (x : Scope) (to : Option ℕ) (ty : Option Ty) (attr : Option Attr) (ls : List Line) → HasTo x to → AllFine x ls → AllFine x (result_lines to ty attr ls)
fine_result x to None attr ls h o = o
fine_result x None (Some (Int width)) attr ls h o = o
fine_result x None (Some Ptr) attr ls h o = fine_retag x None attr ls tt o
fine_result x (Some r) (Some (Int width)) attr ls h o = (moves x (line.CallResult r) (h, tt) refl refl refl, o)
fine_result x (Some r) (Some Ptr) attr ls h o =
    (moves x (line.CallResult r) (h, tt) refl refl refl, (moves x (line.ShadowCallResult r) (h, tt) refl refl refl, fine_retag x (Some r) attr ls h o))

-- ---- instructions

-- an operation that gives a value
abbrev pub Given : Scope → Op → Option ℕ → Type 0
Given x (op.Store ty val ptr) to = Unit {0}
Given x (op.Copy target from len) to = Unit {0}
Given x (op.Free ptr) to = Unit {0}
Given x (op.Print width val) to = Unit {0}
Given x (op.Call ty function args) to = HasTo x to
Given x (op.Join ty ty_at handle) to = HasTo x to
Given x _ to = Below x (written to)

pub fine_op : (x : Scope) (o : Op) (to : Option ℕ) (ls : List Line) → HasOp x o → Given x o to → AllFine x ls → AllFine x (op_lines x o to ls)
fine_op x (op.Const width val) to ls h g o = (moves x (line.Const (written to) (Int width) val) (g, tt) refl refl refl, o)
fine_op x op.Null to ls h g o =
    (moves x (line.Const (written to) Ptr 0) (g, tt) refl refl refl, (moves x (line.ShadowMove (written to) shadow.Nothing) (g, tt) refl refl refl, o))
fine_op x (op.Make where_ size) to ls h g o =
    (moves x (line.Make (written to) (written to) where_ (operand_of x size)) (g, (g, value x size h)) refl refl refl, o)
fine_op x (op.Gep ptr add) to ls h g o = (
  moves x (line.Gep (written to) (slot x ptr) (operand_of x add)) (g, (h.0, value x add h.1)) refl refl refl,
  (moves x (line.ShadowMove (written to) (shadow.Slot (slot x ptr))) (g, (h.0, tt)) refl refl refl, o),
)
fine_op x (op.Load ty ptr) to ls h g o = (
  moves x (line.CheckRead (slot x ptr) (slot x ptr) (ty_bytes ty)) (h, (h, tt)) refl refl refl,
  (
    moves x (line.Load (written to) ty (slot x ptr)) (g, (h, tt)) refl refl refl,
    fine_for_ptr x ty (line.Loaded (written to)) ls (moves x (line.Loaded (written to)) (g, tt) refl refl refl) o,
  ),
)
fine_op x (op.Store ty val ptr) to ls h g o =
    fine_for_ptr x ty (line.Stored (shadow_of x val)) (line.CheckWrite (slot x ptr) (slot x ptr) (ty_bytes ty) ∷ line.Store ty (operand_of x val) (slot x ptr) ∷ ls)
    (moves x (line.Stored (shadow_of x val)) (ghost_value x val h.1) refl refl refl) (
      moves x (line.CheckWrite (slot x ptr) (slot x ptr) (ty_bytes ty)) (h.0, (h.0, tt)) refl refl refl,
      (moves x (line.Store ty (operand_of x val) (slot x ptr)) (h.0, value x val h.1) refl refl refl, o),
    )
fine_op x (op.Retag kind ptr size) to ls h g o = (
  moves x (line.Retag (written to) kind Free (slot x ptr) (slot x ptr) size) (g, (h, (h, tt))) refl refl refl,
  (moves x (line.Move (written to) (slot x ptr)) (g, (h, tt)) refl refl refl, o),
)
fine_op x (op.Binary f width a b) to ls h g o =
    (moves x (line.Binary (written to) f width (operand_of x a) (operand_of x b)) (g, both x (operand_slots (operand_of x a)) (operand_slots (operand_of x b)) (value x a h.0) (value x b h.1)) refl refl refl, o)
fine_op x (op.Compare cond ty a b) to ls h g o =
    (moves x (line.Compare (written to) cond ty (operand_of x a) (operand_of x b)) (g, both x (operand_slots (operand_of x a)) (operand_slots (operand_of x b)) (value x a h.0) (value x b h.1)) refl refl refl, o)
fine_op x (op.Select ty cond a b) to ls h g o = (
  moves x (line.Select (written to) ty (operand_of x cond) (operand_of x a) (operand_of x b)) (
    g,
    both x (operand_slots (operand_of x cond)) (operand_slots (operand_of x a) ++ operand_slots (operand_of x b)) (value x cond h.0)
        (both x (operand_slots (operand_of x a)) (operand_slots (operand_of x b)) (value x a h.1) (value x b h.2)),
  ) refl refl refl,
  fine_for_ptr x ty (line.ShadowSelect (written to) (operand_of x cond) (shadow_of x a) (shadow_of x b)) ls
      (moves x (line.ShadowSelect (written to) (operand_of x cond) (shadow_of x a) (shadow_of x b)) (
        g,
        both x (operand_slots (operand_of x cond)) (shadow_slots (shadow_of x a) ++ shadow_slots (shadow_of x b)) (value x cond h.0)
            (both x (shadow_slots (shadow_of x a)) (shadow_slots (shadow_of x b)) (ghost_value x a h.1) (ghost_value x b h.2)),
      ) refl refl refl) o,
)
fine_op x (op.Cast f from target val to_at) to ls h g o = (moves x (line.Cast (written to) f from (operand_of x val) target) (g, value x val h) refl refl refl, o)
fine_op x (op.PtrToInt ptr) to ls h g o = (moves x (line.PtrToInt (written to) (slot x ptr)) (g, (h, tt)) refl refl refl, o)
fine_op x (op.Input index) to ls h g o = (moves x (line.Input (written to) (operand_of x index)) (g, value x index h) refl refl refl, o)
fine_op x (op.Modify f width ptr val) to ls h g o = (
  moves x (line.CheckWrite (slot x ptr) (slot x ptr) (width_bytes width)) (h.0, (h.0, tt)) refl refl refl,
  (moves x (line.Modify (written to) f width (slot x ptr) (operand_of x val)) (g, (h.0, value x val h.1)) refl refl refl, o),
)
fine_op x (op.CmpXchg width ptr expected val) to ls h g o = (
  moves x (line.CheckWrite (slot x ptr) (slot x ptr) (width_bytes width)) (h.0, (h.0, tt)) refl refl refl,
  (
    moves x (line.CmpXchg (written to) width (slot x ptr) (operand_of x expected) (operand_of x val))
        (g, (h.0, both x (operand_slots (operand_of x expected)) (operand_slots (operand_of x val)) (value x expected h.1) (value x val h.2))) refl refl refl,
    o,
  ),
)
fine_op x (op.Copy target from len) to ls h g o = (
  moves x (line.CheckCopy (slot x target) (slot x target) (slot x from) (slot x from) (operand_of x len)) (h.0, (h.0, (h.1, (h.1, value x len h.2)))) refl refl refl,
  (moves x (line.Copy (slot x target) (slot x from) (operand_of x len)) (h.0, (h.1, value x len h.2)) refl refl refl, o),
)
fine_op x (op.Free ptr) to ls h g o =
    (moves x (line.CheckFree (slot x ptr) (slot x ptr)) (h, (h, tt)) refl refl refl, (moves x (line.Free (slot x ptr)) (h, tt) refl refl refl, o))
fine_op x (op.Print width val) to ls h g o = (moves x (line.Print width (operand_of x val)) (value x val h) refl refl refl, o)
fine_op x (op.Call ty function args) to ls h g o =
    let call : Fine x (line.Call (function_number x function)) = record { names = record { slots = tt; block = tt; function = h.0 }; push = refl } in
    fine_args x 0 args (line.Call (function_number x function) ∷ result_lines to ty (attr_of_call x.functions function.name) ls) h.1
    (call, fine_result x to ty (attr_of_call x.functions function.name) ls g o)
fine_op x (op.Host ty host args) to ls h g o = (
  moves x (line.Host (written to) (host_number x host) (operands_of x args)) (g, values x args h) refl refl refl,
  fine_for_ptr x ty (line.ShadowMove (written to) shadow.Nothing) ls (moves x (line.ShadowMove (written to) shadow.Nothing) (g, tt) refl refl refl) o,
)
fine_op x (op.Spawn function args) to ls h g o =
    let spawn : Fine x (line.Spawn (written to) (function_number x function)) = record { names = record { slots = (g, tt); block = tt; function = h.0 }; push = refl } in
    fine_args x 0 args (line.Spawn (written to) (function_number x function) ∷ ls) h.1 (spawn, o)
fine_op x (op.Join ty ty_at handle) to ls h g o =
    (moves x (line.Join (slot x handle)) (h, tt) refl refl refl, fine_result x to ty (attr_of_join x handle) ls g o)

-- where an instruction is of the grammar, its result has a slot
given_some : (x : Scope) (o : Op) (r : ℕ) → Below x r → Given x o (Some r)
given_some x (op.Const width val) r h = h
given_some x op.Null r h = h
given_some x (op.Make place size) r h = h
given_some x (op.Gep ptr add) r h = h
given_some x (op.Load ty ptr) r h = h
given_some x (op.Store ty val ptr) r h = tt
given_some x (op.Retag kind ptr size) r h = h
given_some x (op.Binary f width a b) r h = h
given_some x (op.Compare cond ty a b) r h = h
given_some x (op.Select ty cond a b) r h = h
given_some x (op.Cast f from target val to_at) r h = h
given_some x (op.PtrToInt ptr) r h = h
given_some x (op.Input index) r h = h
given_some x (op.Modify f width ptr val) r h = h
given_some x (op.CmpXchg width ptr expected val) r h = h
given_some x (op.Copy target from len) r h = tt
given_some x (op.Free ptr) r h = tt
given_some x (op.Print width val) r h = tt
given_some x (op.Call ty function args) r h = h
given_some x (op.Host ty host args) r h = h
given_some x (op.Spawn function args) r h = h
given_some x (op.Join ty ty_at handle) r h = h

given_none : (x : Scope) (o : Op) → FitsDestination None o → Given x o None
given_none x (op.Const width val) h = absurd h
given_none x op.Null h = absurd h
given_none x (op.Make place size) h = absurd h
given_none x (op.Gep ptr add) h = absurd h
given_none x (op.Load ty ptr) h = absurd h
given_none x (op.Store ty val ptr) h = tt
given_none x (op.Retag kind ptr size) h = absurd h
given_none x (op.Binary f width a b) h = absurd h
given_none x (op.Compare cond ty a b) h = absurd h
given_none x (op.Select ty cond a b) h = absurd h
given_none x (op.Cast f from target val to_at) h = absurd h
given_none x (op.PtrToInt ptr) h = absurd h
given_none x (op.Input index) h = absurd h
given_none x (op.Modify f width ptr val) h = absurd h
given_none x (op.CmpXchg width ptr expected val) h = absurd h
given_none x (op.Copy target from len) h = tt
given_none x (op.Free ptr) h = tt
given_none x (op.Print width val) h = tt
given_none x (op.Call ty function args) h = tt
given_none x (op.Host ty host args) h = absurd h
given_none x (op.Spawn function args) h = absurd h
given_none x (op.Join ty ty_at handle) h = tt

given : (x : Scope) (o : Op) (dest : Option Named) → FitsDestination dest o → IfSome dest (HasRegister x) → Given x o (slot_of_dest x dest)
given x o None shaped h = given_none x o shaped
given x o (Some r) shaped h = given_some x o (slot x r) h

-- ---- terminators, blocks and entries

fine_leaving : (x : Scope) → AllFine x (line.PopFrame ∷ line.Return ∷ [])
fine_leaving x = (moves x line.PopFrame tt refl refl refl, (moves x line.Return tt refl refl refl, tt))

fine_ret : (x : Scope) (v : Option TypedVal) → IfSome v (λ w. HasVal x w.val) → AllFine x (ret_lines x v (line.PopFrame ∷ line.Return ∷ []))
fine_ret x None h = fine_leaving x
fine_ret x (Some v) h = (
  moves x (line.Result (operand_of x v.val)) (value x v.val h) refl refl refl,
  fine_for_ptr x v.ty (line.ShadowResult (shadow_of x v.val)) (line.PopFrame ∷ line.Return ∷ []) (moves x (line.ShadowResult (shadow_of x v.val)) (ghost_value x v.val h) refl refl refl) (fine_leaving x),
)

fine_jump : (x : Scope) (j : Jump) → Each (HasBlock x) x.blocks → HasJump x j → AllFine x (jump_lines x j)
fine_jump x (Br goal) known h = fine_goal x goal [] known h tt
fine_jump x (CondBr cond first second) known h = (
  moves x (line.Branch (operand_of x cond)) (value x cond h.0) refl refl refl,
  fine_goal x first (goal_lines x second []) known h.1 (fine_goal x second [] known h.2 tt),
)
fine_jump x (Ret val ty_at) known h = fine_ret x val h
fine_jump x Unreachable known h = (moves x line.Unreachable tt refl refl refl, tt)

fine_body : (x : Scope) (n : ℕ) (is : List Inst) (j : Jump) → Each (HasBlock x) x.blocks → Each (HasInst x) is → HasJump x j → AllFine x (body_lines x n is j)
fine_body x n [] j known h k = fine_jump x j known k
fine_body x n (i ∷ is) j known h k =
    fine_op x i.op (slot_of_dest x i.dest) (line.Turn (n + 1) ∷ body_lines x (n + 1) is j) h.0.uses (given x i.op i.dest h.0.fits h.0.dest)
    (moves x (line.Turn (n + 1)) tt refl refl refl, fine_body x (n + 1) is j known h.1 k)

pub fine_block : (x : Scope) (n : ℕ) (b : Block) → Each (HasBlock x) x.blocks → HasBlock x b → AllFine x (block_lines x n b)
fine_block x n b known h = (moves x (line.Turn n) tt refl refl refl, fine_body x n b.insts b.term.jump known h.insts h.jump)

fine_params : (x : Scope) (i : ℕ) (ps : List Param) (ls : List Line) → HasParams x ps → AllFine x ls → AllFine x (param_lines x i ps ls)
fine_params x i [] ls h o = o
fine_params x i (p ∷ ps) ls h o = (
  moves x (line.Param (slot x p.reg) i) (h.0, tt) refl refl refl,
  fine_for_ptr x p.ty (line.ShadowParam (slot x p.reg) i) (param_lines x (i + 1) ps ls) (moves x (line.ShadowParam (slot x p.reg) i) (h.0, tt) refl refl refl)
      (fine_params x (i + 1) ps ls h.1 o),
)

fine_entry_retag : (x : Scope) (r : ℕ) (attr : Option Attr) (ls : List Line) → Below x r → AllFine x ls → AllFine x (entry_retag r attr ls)
fine_entry_retag x r None ls h o = o
fine_entry_retag x r (Some a) ls h o = (moves x (line.Retag r a.kind (guard_of a.kind) r r a.size) (h, (h, (h, tt))) refl refl refl, o)

fine_entry_retags : (x : Scope) (ps : List Param) → HasParams x ps → AllFine x (entry_retags x ps [])
fine_entry_retags x [] h = tt
fine_entry_retags x (p ∷ ps) h = fine_entry_retag x (slot x p.reg) p.attr (entry_retags x ps []) h.0 (fine_entry_retags x ps h.1)

-- the entry lines behind `pushframe`
pub fine_entry : (x : Scope) (ps : List Param) → HasParams x ps → AllFine x (param_lines x 0 ps (entry_retags x ps []))
fine_entry x ps h = fine_params x 0 ps (entry_retags x ps []) h (fine_entry_retags x ps h)
