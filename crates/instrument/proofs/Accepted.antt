-- In an accepted program all names that are used are defined, and all lists are short.
use Rattle.std.proofs.Common.{◌≡◌, ℕ, zero, suc, ◌+◌, ◌^◌, ◌<◌, ◌≤◌, Bool, true, false, List, [], ◌∷◌, ◌++◌, length, map, get_or, Option, Some, None, refl, sym, ap, subst, ◌∙◌, append_assoc, arith}
use Rattle.std.specs.Prelude.{if◌then◌else◌, Contains, Decides, IfSome, is_some}
use Rattle.std.specs.List.{flat_map, sum_by}
use Rattle.std.specs.Str.{bytes_eq}
use Rattle.std.proofs.lemmas.List.{length-append}
use Rattle.std.proofs.lemmas.List.Sums.{sum_by-cons}
use Rattle.std.proofs.lemmas.List.Elements.{Contains-append_right}
use Rattle.std.proofs.lemmas.Slice.Eq.{bytes_eq-Decides}
use Rattle.ir_ast.specs.Tokens.{Each}
use Rattle.ir_ast.specs.Shapes.{IsInst, IsBlock, IsFunction}
use Rattle.ir_ast.specs.Lines.{most_registers, most_instructions, most_functions, block_instructions, block_registers, definitions as registers_of}
use Rattle.ir_ast.specs.Programs.{IsProgram, KeepsLimits, function_instructions, function_registers}
use Rattle.ir_ast.proofs.Small.{each_parts}
use Rattle.ir_ast.proofs.Limits.{keeps_limits}
use Rattle.ir_ast.specs.declared.hosts.HostEntry.{HostEntry}
use Rattle.ir_ast.specs.declared.hosts.HostTable.{HostTable}
use Rattle.ir_ast.specs.declared.types.Ty.{Ty}
use Rattle.ir_ast.specs.declared.types.Ty.TheVariants.{Int, Ptr}
use Rattle.ir_ast.specs.declared.types.Width.TheVariants.{W8, W64}
use Rattle.ir_ast.specs.declared.types.Attr.{Attr}
use Rattle.ir_ast.specs.declared.program.Named.{Named}
use Rattle.ir_ast.specs.declared.program.Param.{Param}
use Rattle.ir_ast.specs.declared.program.Val.{Val}
use Rattle.ir_ast.specs.declared.program.Val.TheVariants.{Reg, Num}
use Rattle.ir_ast.specs.declared.program.TypedVal.{TypedVal}
use Rattle.ir_ast.specs.declared.program.Goal.{Goal}
use Rattle.ir_ast.specs.declared.program.Op.{Op}
use Rattle.ir_ast.specs.declared.program.Op.TheVariants as op
use Rattle.ir_ast.specs.declared.program.Inst.{Inst}
use Rattle.ir_ast.specs.declared.program.Jump.{Jump}
use Rattle.ir_ast.specs.declared.program.Jump.TheVariants.{Br, CondBr, Ret, Unreachable}
use Rattle.ir_ast.specs.declared.program.Block.{Block}
use Rattle.ir_ast.specs.declared.program.Function.{Function}
use Rattle.ir_ast.specs.declared.program.Program.{Program}
use Rattle.ir_rules.specs.declared.rule.Rule.{Rule}
use Rattle.ir_rules.specs.declared.rule.Rule.TheVariants.{Unknown, Twice, BadTarget, BadCall}
use Rattle.ir_rules.specs.declared.rule.Wanted.{Wanted}
use Rattle.ir_rules.specs.declared.rule.Wanted.TheVariants.{AValue}
use Rattle.ir_rules.specs.Occurrences.{Holds, Use, Event, val_uses, typed_uses, op_uses, goal_uses, jump_uses, jump_goals, param_event, dest_events, op_gives, inst_events, block_events, function_events}
use Rattle.ir_rules.specs.Occurrences.Event.{defines, uses}
use Rattle.ir_rules.specs.Paths.{first_named}
use Rattle.ir_rules.specs.Rules.{held, used, defined, function_named, function_ops, param_types, arg_types, UseBreaks, NameBreaks, OpBreaks, CallFits, SpawnFits, GoalFits, IsAccepted}
use Rattle.ir_rules.specs.Rules.Broken.{of_use, of_op, of_goal, twice_register, twice_label, twice_function}
use Rattle.ir_rules.specs.Checks.{call_fits, spawn_fits, goal_fits}
use Rattle.ir_rules.proofs.Agree.{call_decides, spawn_decides, goal_decides}
use Rattle.ir_ast.specs.Attributes.{Definition, registers, params_definitions, dest_definitions, inst_definitions, block_definitions, definitions, spawned_attr}
use Rattle.ir_ast.specs.Numbers.{place, function_names, labels, blocks_end}
use Rattle.instrument.specs.Translation.{Scope, scope_of}
use Rattle.instrument.specs.Names.{IsOnce, Numbered, OpNumbered, JumpNumbered, BlockNumbered, FunctionNumbered, IsNumbered, program_end}
use Rattle.instrument.specs.Known.{HasRegister, HasVal, HasVals, HasFunction, HasOp, HasInst, HasJump, HasBlock, IsKnown, AllKnown}
use Rattle.instrument.proofs.Sets.{swap}
use Rattle.instrument.proofs.Once.{names, no_way, once_from, map_twice, registers_same}

-- ---- lists

each_from : {A : Type 0} (P : A → Type 0) (xs : List A) → ((x : A) → Contains xs x → P x) → Each P xs
each_from P [] f = tt
each_from P (x ∷ xs) f = (f x (0, omega arith, refl), each_from P xs (λ y c. f y (Contains-append_right (x ∷ []) xs y c)))

each_map : {A : Type 0} (P Q : A → Type 0) → ((x : A) → P x → Q x) → (xs : List A) → Each P xs → Each Q xs
each_map P Q f [] h = tt
each_map P Q f (x ∷ xs) h = (f x h.0, each_map P Q f xs h.1)

each_zip : {A : Type 0} (P Q R : A → Type 0) → ((x : A) → P x → Q x → R x) → (xs : List A) → Each P xs → Each Q xs → Each R xs
each_zip P Q R f [] h k = tt
each_zip P Q R f (x ∷ xs) h k = (f x h.0 k.0, each_zip P Q R f xs h.1 k.1)

each_unmap : {A B : Type 0} (P : B → Type 0) (g : A → B) (xs : List A) → Each P (map g xs) → Each (λ x. P (g x)) xs
each_unmap P g [] h = tt
each_unmap P g (x ∷ xs) h = (h.0, each_unmap P g xs h.1)

map_length : {A B : Type 0} (g : A → B) (xs : List A) → length (map g xs) ≡ length xs
map_length g [] = refl
map_length g (x ∷ xs) = ap suc (map_length g xs)

stable : {P : Type 0} (b : Bool) → Decides b P → ((P → ⊥) → ⊥) → P
stable true d n = d.0 refl
stable false d n = absurd (n (λ p. no_way (d.1 p)))

-- ---- places of names

placed_by : {H : Type 0} (b c : Bool) (k : H) (o : Option H) (h : H) (m n : ℕ) → c ≡ b → (o ≡ Some h → m < n) → (if b then Some k else o) ≡ Some h → (if c then 0 else suc m) < suc n
placed_by true true k o h m n same f e = omega arith
placed_by true false k o h m n same f e = absurd (no_way same)
placed_by false true k o h m n same f e = absurd (no_way (sym same))
placed_by false false k o h m n same f e = let lt : m < n = f e in omega arith

held_place : (es : List Event) (r : List ℕ) (h : Holds) → held es r ≡ Some h → place (names (defined es)) r < length (names (defined es))
held_place [] r h e = absurd cc
held_place (uses u ∷ es) r h e = held_place es r h e
held_place (defines d k ∷ es) r h e =
    placed_by (bytes_eq r d.name) (bytes_eq d.name r) k (held es r) h (place (names (defined es)) r) (length (names (defined es))) (swap d.name r) (held_place es r h) e

named_place : {A : Type 0} (named : A → List ℕ) (xs : List A) (q : List ℕ) (x : A) → first_named named xs q ≡ Some x → place (map named xs) q < length xs
named_place named [] q x e = absurd cc
named_place named (y ∷ xs) q x e =
    placed_by (bytes_eq q (named y)) (bytes_eq (named y) q) y (first_named named xs q) x (place (map named xs) q) (length xs) (swap (named y) q) (named_place named xs q x) e

pick_by : {A : Type 0} (P : A → Type 0) (b : Bool) (y x : A) (o : Option A) → (o ≡ Some x → P x) → P y → (if b then Some y else o) ≡ Some x → P x
pick_by P true y x o f py e = let same : y ≡ x = cc in subst P same py
pick_by P false y x o f py e = f e

named_each : {A : Type 0} (P : A → Type 0) (named : A → List ℕ) (xs : List A) (q : List ℕ) (x : A) → first_named named xs q ≡ Some x → Each P xs → P x
named_each P named [] q x e h = absurd cc
named_each P named (y ∷ xs) q x e h = pick_by P (bytes_eq q (named y)) y x (first_named named xs q) (λ k. named_each P named xs q x k h.1) h.0 e

within_by : (b : Bool) (m n : ℕ) → (b ≡ false → m < n) → (if b then 0 else suc m) < suc n
within_by true m n f = omega arith
within_by false m n f = let lt : m < n = f refl in omega arith

place_in : (before after : List (List ℕ)) (r : List ℕ) → place (before ++ r ∷ after) r < length (before ++ r ∷ after)
place_in [] after r = within_by (bytes_eq r r) (place after r) (length after) (λ e. absurd (no_way (sym e ∙ (bytes_eq-Decides r r).1 refl)))
place_in (n ∷ before) after r = within_by (bytes_eq n r) (place (before ++ r ∷ after) r) (length (before ++ r ∷ after)) (λ e. place_in before after r)

placed : (front back : List (List ℕ)) → Each (λ n. place (front ++ back) n < length (front ++ back)) back
placed front [] = tt
placed front (n ∷ back) =
    (place_in front back n, subst (λ (z : List (List ℕ)). Each (λ m. place z m < length z) back) (append_assoc front (n ∷ []) back) (placed (front ++ n ∷ []) back))

-- ---- what a function defines is there

params_placed : (Q : List ℕ → Type 0) (ps : List Param) → Each (λ d. Q d.name) (params_definitions ps) → Each (λ p. Q p.reg.name) ps
params_placed Q [] h = tt
params_placed Q (p ∷ ps) h = (h.0, params_placed Q ps h.1)

dest_placed : (Q : List ℕ → Type 0) (dest : Option Named) (attr : Option Attr) → Each (λ d. Q d.name) (dest_definitions dest attr) → IfSome dest (λ r. Q r.name)
dest_placed Q None attr h = tt
dest_placed Q (Some r) attr h = h.0

insts_placed : (Q : List ℕ → Type 0) (fs : List Function) (is : List Inst) → Each (λ d. Q d.name) (flat_map (inst_definitions fs) is) → Each (λ i. IfSome i.dest (λ r. Q r.name)) is
insts_placed Q fs [] h = tt
insts_placed Q fs (i ∷ is) h =
    let parts = each_parts (λ (d : Definition). Q d.name) (inst_definitions fs i) (flat_map (inst_definitions fs) is) h in
    (dest_placed Q i.dest (spawned_attr fs i.op) parts.0, insts_placed Q fs is parts.1)

record BlockPlaced (Q : List ℕ → Type 0) (b : Block) : Type 0 where
  params : Each (λ p. Q p.reg.name) b.params
  dests : Each (λ i. IfSome i.dest (λ r. Q r.name)) b.insts

blocks_placed : (Q : List ℕ → Type 0) (fs : List Function) (bs : List Block) → Each (λ d. Q d.name) (flat_map (block_definitions fs) bs) → Each (BlockPlaced Q) bs
blocks_placed Q fs [] h = tt
blocks_placed Q fs (b ∷ bs) h =
    let parts = each_parts (λ (d : Definition). Q d.name) (block_definitions fs b) (flat_map (block_definitions fs) bs) h in
    let own = each_parts (λ (d : Definition). Q d.name) (params_definitions b.params) (flat_map (inst_definitions fs) b.insts) parts.0 in
    (record { params = params_placed Q b.params own.0; dests = insts_placed Q fs b.insts own.1 }, blocks_placed Q fs bs parts.1)

-- ---- what is used is there

abbrev pub Ok : Scope → Use → Type 0
Ok x u = HasRegister x u.reg

val_has : (x : Scope) (ty : Ty) (v : Val) → Each (Ok x) (val_uses ty v) → HasVal x v
val_has x ty (Reg r) h = h.0
val_has x ty (Num n) h = tt

args_has : (x : Scope) (vs : List TypedVal) → Each (Ok x) (flat_map typed_uses vs) → HasVals x vs
args_has x [] h = tt
args_has x (v ∷ vs) h = let p = each_parts (Ok x) (typed_uses v) (flat_map typed_uses vs) h in (val_has x v.ty v.val p.0, args_has x vs p.1)

-- the function that an operation calls or spawns is there
abbrev pub Calls : Scope → Op → Type 0
Calls x (op.Call ty function args) = HasFunction x function
Calls x (op.Spawn function args) = HasFunction x function
Calls x _ = Unit {0}

op_has : (x : Scope) (o : Op) → Each (Ok x) (op_uses o) → Calls x o → HasOp x o
op_has x (op.Const width val) h c = tt
op_has x op.Null h c = tt
op_has x (op.Make where_ size) h c = val_has x (Int W64) size h
op_has x (op.Gep ptr add) h c = (h.0, val_has x (Int W64) add h.1)
op_has x (op.Load ty ptr) h c = h.0
op_has x (op.Store ty val ptr) h c = let p = each_parts (Ok x) (val_uses ty val) (record { reg = ptr; wanted = AValue Ptr } ∷ []) h in (p.1.0, val_has x ty val p.0)
op_has x (op.Retag kind ptr size) h c = h.0
op_has x (op.Binary f width a b) h c = let p = each_parts (Ok x) (val_uses (Int width) a) (val_uses (Int width) b) h in (val_has x (Int width) a p.0, val_has x (Int width) b p.1)
op_has x (op.Compare cond ty a b) h c = let p = each_parts (Ok x) (val_uses ty a) (val_uses ty b) h in (val_has x ty a p.0, val_has x ty b p.1)
op_has x (op.Select ty cond a b) h c =
    let p = each_parts (Ok x) (val_uses (Int W8) cond ++ val_uses ty a) (val_uses ty b) h in
    let q = each_parts (Ok x) (val_uses (Int W8) cond) (val_uses ty a) p.0 in
    (val_has x (Int W8) cond q.0, val_has x ty a q.1, val_has x ty b p.1)
op_has x (op.Cast f from to val to_at) h c = val_has x (Int from) val h
op_has x (op.PtrToInt ptr) h c = h.0
op_has x (op.Input index) h c = val_has x (Int W64) index h
op_has x (op.Modify f width ptr val) h c = (h.0, val_has x (Int width) val h.1)
op_has x (op.CmpXchg width ptr expected val) h c =
    let p = each_parts (Ok x) (record { reg = ptr; wanted = AValue Ptr } ∷ val_uses (Int width) expected) (val_uses (Int width) val) h in
    (p.0.0, val_has x (Int width) expected p.0.1, val_has x (Int width) val p.1)
op_has x (op.Copy to from len) h c = (h.0, h.1.0, val_has x (Int W64) len h.1.1)
op_has x (op.Free ptr) h c = h.0
op_has x (op.Print width val) h c = val_has x (Int width) val h
op_has x (op.Call ty function args) h c = (c, args_has x args h)
op_has x (op.Host ty host args) h c = args_has x args h
op_has x (op.Spawn function args) h c = (c, args_has x args h)
op_has x (op.Join ty ty_at handle) h c = h.0

abbrev pub GoesThere : Scope → Goal → Type 0
GoesThere x g = place (labels x.blocks) g.label.name < length x.blocks

ret_has : (x : Scope) (v : Option TypedVal) (at : ℕ) → Each (Ok x) (jump_uses (Ret v at)) → IfSome v (λ w. HasVal x w.val)
ret_has x None at h = tt
ret_has x (Some v) at h = val_has x v.ty v.val h

jump_has : (x : Scope) (j : Jump) → Each (Ok x) (jump_uses j) → Each (GoesThere x) (jump_goals j) → HasJump x j
jump_has x (Br goal) h g = (g.0, args_has x goal.args h)
jump_has x (CondBr cond first second) h g =
    let p = each_parts (Ok x) (val_uses (Int W8) cond ++ goal_uses first) (goal_uses second) h in
    let q = each_parts (Ok x) (val_uses (Int W8) cond) (goal_uses first) p.0 in
    (val_has x (Int W8) cond q.0, (g.0, args_has x first.args q.1), (g.1.0, args_has x second.args p.1))
jump_has x (Ret v at) h g = ret_has x v at h
jump_has x Unreachable h g = tt

-- ---- the uses among a function's events

used_join : (xs ys : List Event) → used (xs ++ ys) ≡ used xs ++ used ys
used_join [] ys = refl
used_join (defines d h ∷ xs) ys = used_join xs ys
used_join (uses u ∷ xs) ys = ap (λ (z : List Use). u ∷ z) (used_join xs ys)

used_all : (us : List Use) → used (map uses us) ≡ us
used_all [] = refl
used_all (u ∷ us) = ap (λ (z : List Use). u ∷ z) (used_all us)

used_parts : (Q : Use → Type 0) (xs ys : List Event) → Each Q (used (xs ++ ys)) → Each Q (used xs) × Each Q (used ys)
used_parts Q xs ys h = each_parts Q (used xs) (used ys) (subst (λ (z : List Use). Each Q z) (used_join xs ys) h)

insts_used : (Q : Use → Type 0) (is : List Inst) → Each Q (used (flat_map inst_events is)) → Each (λ i. Each Q (op_uses i.op)) is
insts_used Q [] h = tt
insts_used Q (i ∷ is) h =
    let p = used_parts Q (inst_events i) (flat_map inst_events is) h in
    let q = used_parts Q (map uses (op_uses i.op)) (dest_events i.dest (op_gives i.op)) p.0 in
    (subst (λ (z : List Use). Each Q z) (used_all (op_uses i.op)) q.0, insts_used Q is p.1)

record BlockUses (Q : Use → Type 0) (b : Block) : Type 0 where
  insts : Each (λ i. Each Q (op_uses i.op)) b.insts
  jump : Each Q (jump_uses b.term.jump)

blocks_used : (Q : Use → Type 0) (bs : List Block) → Each Q (used (flat_map block_events bs)) → Each (BlockUses Q) bs
blocks_used Q [] h = tt
blocks_used Q (b ∷ bs) h =
    let p = used_parts Q (block_events b) (flat_map block_events bs) h in
    let q = used_parts Q (map param_event b.params ++ flat_map inst_events b.insts) (map uses (jump_uses b.term.jump)) p.0 in
    let r = used_parts Q (map param_event b.params) (flat_map inst_events b.insts) q.0 in
    (record { insts = insts_used Q b.insts r.1; jump = subst (λ (z : List Use). Each Q z) (used_all (jump_uses b.term.jump)) q.1 }, blocks_used Q bs p.1)

use_held : (o : Option Holds) (w : Wanted) → (UseBreaks Unknown o w → ⊥) → (h : Holds) × (o ≡ Some h)
use_held None w none_of = absurd (none_of tt)
use_held (Some h) w none_of = (h, refl)

all_used : (p : Program) (hosts : HostTable) (f : Function) → IsAccepted p hosts → Contains p.functions f → IsFunction p.version f → Each (Ok (scope_of p.functions hosts.entries f)) (used (function_events f))
all_used p hosts f ok there shaped =
    each_from (Ok (scope_of p.functions hosts.entries f)) (used (function_events f)) (λ u in_f.
    let h = use_held (held (function_events f) u.reg.name) u.wanted (λ b. ok Unknown u.reg.at (of_use f u Unknown there in_f b)) in
    subst (λ (z : List (List ℕ)). place z u.reg.name < length z) (sym (registers_same p.version p.functions f shaped)) (held_place (function_events f) u.reg.name h.0 h.1))

-- ---- calls and goals

record NameKnown (A : Type 0) (Fits : A → Type 0) (found : Option A) : Type 0 where
  item : A
  is : found ≡ Some item
  fits : (Fits item → ⊥) → ⊥

name_known : {A : Type 0} (Fits : A → Type 0) (found : Option A) (name : Named) → ((rule : Rule) (at : ℕ) → NameBreaks Fits found name rule at → ⊥) → NameKnown A Fits found
name_known {A = A} Fits None name none_of = absurd (none_of Unknown name.at refl)
name_known {A = A} Fits (Some x) name none_of = record { item = x; is = refl; fits = λ n. none_of BadCall name.at (refl, n) }

abbrev pub FewParams : Function → Type 0
FewParams f = Numbered f.params

abbrev pub FewBlockParams : Block → Type 0
FewBlockParams b = Numbered b.params

same_lengths : (ps : List Param) (args : List TypedVal) → param_types ps ≡ arg_types args → Numbered ps → Numbered args
same_lengths ps args e few = let same : length ps ≡ length args = sym (map_length (λ (p : Param). p.ty) ps) ∙ ap length e ∙ map_length (λ (v : TypedVal). v.ty) args in omega arith

record OpGood (fs : List Function) (o : Op) : Type 0 where
  calls : (x : Scope) → x.functions ≡ fs → Calls x o
  numbered : OpNumbered o

function_there : (fs : List Function) (x : Scope) (f : Named) (g : Function) → function_named fs f.name ≡ Some g → x.functions ≡ fs → HasFunction x f
function_there fs x f g e same = subst (λ (z : List Function). place (function_names z) f.name < length z) (sym same) (named_place (λ (k : Function). k.name.name) fs f.name g e)

op_good : (fs : List Function) (hosts : List HostEntry) (es : List Event) (o : Op) → Each FewParams fs → ((rule : Rule) (at : ℕ) → OpBreaks fs hosts es o rule at → ⊥) → OpGood fs o
op_good fs hosts es (op.Call ty f args) few none_of =
    let k : NameKnown Function (CallFits args ty) (function_named fs f.name) = name_known (CallFits args ty) (function_named fs f.name) f none_of in
    let fits : CallFits args ty k.item = stable (call_fits args ty k.item) (call_decides args ty k.item) k.fits in
    record { calls = λ x same. function_there fs x f k.item k.is same; numbered = same_lengths k.item.params args fits.0 (named_each FewParams (λ (g : Function). g.name.name) fs f.name k.item k.is few) }
op_good fs hosts es (op.Spawn f args) few none_of =
    let k : NameKnown Function (SpawnFits args) (function_named fs f.name) = name_known (SpawnFits args) (function_named fs f.name) f none_of in
    let fits : SpawnFits args k.item = stable (spawn_fits args k.item) (spawn_decides args k.item) k.fits in
    record { calls = λ x same. function_there fs x f k.item k.is same; numbered = same_lengths k.item.params args fits (named_each FewParams (λ (g : Function). g.name.name) fs f.name k.item k.is few) }
op_good fs hosts es (op.Const width val) few none_of = record { calls = λ x same. tt; numbered = tt }
op_good fs hosts es op.Null few none_of = record { calls = λ x same. tt; numbered = tt }
op_good fs hosts es (op.Make where_ size) few none_of = record { calls = λ x same. tt; numbered = tt }
op_good fs hosts es (op.Gep ptr add) few none_of = record { calls = λ x same. tt; numbered = tt }
op_good fs hosts es (op.Load ty ptr) few none_of = record { calls = λ x same. tt; numbered = tt }
op_good fs hosts es (op.Store ty val ptr) few none_of = record { calls = λ x same. tt; numbered = tt }
op_good fs hosts es (op.Retag kind ptr size) few none_of = record { calls = λ x same. tt; numbered = tt }
op_good fs hosts es (op.Binary f width a b) few none_of = record { calls = λ x same. tt; numbered = tt }
op_good fs hosts es (op.Compare cond ty a b) few none_of = record { calls = λ x same. tt; numbered = tt }
op_good fs hosts es (op.Select ty cond a b) few none_of = record { calls = λ x same. tt; numbered = tt }
op_good fs hosts es (op.Cast f from to val to_at) few none_of = record { calls = λ x same. tt; numbered = tt }
op_good fs hosts es (op.PtrToInt ptr) few none_of = record { calls = λ x same. tt; numbered = tt }
op_good fs hosts es (op.Input index) few none_of = record { calls = λ x same. tt; numbered = tt }
op_good fs hosts es (op.Modify f width ptr val) few none_of = record { calls = λ x same. tt; numbered = tt }
op_good fs hosts es (op.CmpXchg width ptr expected val) few none_of = record { calls = λ x same. tt; numbered = tt }
op_good fs hosts es (op.Copy to from len) few none_of = record { calls = λ x same. tt; numbered = tt }
op_good fs hosts es (op.Free ptr) few none_of = record { calls = λ x same. tt; numbered = tt }
op_good fs hosts es (op.Print width val) few none_of = record { calls = λ x same. tt; numbered = tt }
op_good fs hosts es (op.Host ty host args) few none_of = record { calls = λ x same. tt; numbered = tt }
op_good fs hosts es (op.Join ty ty_at handle) few none_of = record { calls = λ x same. tt; numbered = tt }

ops_split : (Q : Op → Type 0) (bs : List Block) → Each Q (flat_map (λ b. map (λ i. i.op) b.insts) bs) → Each (λ b. Each (λ i. Q i.op) b.insts) bs
ops_split Q [] h = tt
ops_split Q (b ∷ bs) h =
    let p = each_parts Q (map (λ (i : Inst). i.op) b.insts) (flat_map (λ (c : Block). map (λ (i : Inst). i.op) c.insts) bs) h in
    (each_unmap Q (λ (i : Inst). i.op) b.insts p.0, ops_split Q bs p.1)

record GoalGood (bs : List Block) (g : Goal) : Type 0 where
  there : place (labels bs) g.label.name < length bs
  few : Numbered g.args

goal_good : (bs : List Block) (g : Goal) → Each FewBlockParams bs → ((GoalFits bs g → ⊥) → ⊥) → GoalGood bs g
goal_good bs g few none_of =
    let fits : GoalFits bs g = stable (goal_fits bs g) (goal_decides bs g) none_of in
    record {
      there = named_place (λ (b : Block). b.label.name) bs g.label.name fits.0 fits.1;
      few = same_lengths fits.0.params g.args fits.2 (named_each FewBlockParams (λ (b : Block). b.label.name) bs g.label.name fits.0 fits.1 few);
    }

jump_few : (bs : List Block) (j : Jump) → Each (GoalGood bs) (jump_goals j) → JumpNumbered j
jump_few bs (Br goal) h = h.0.few
jump_few bs (CondBr cond first second) h = (h.0.few, h.1.0.few)
jump_few bs (Ret v at) h = tt
jump_few bs Unreachable h = tt

-- ---- limits

params_length : (ps : List Param) → length (params_definitions ps) ≡ length ps
params_length [] = refl
params_length (p ∷ ps) = ap suc (params_length ps)

dest_length : (dest : Option Named) (attr : Option Attr) → length (dest_definitions dest attr) ≡ (if is_some dest then 1 else 0)
dest_length None attr = refl
dest_length (Some r) attr = refl

insts_length : (fs : List Function) (is : List Inst) → length (flat_map (inst_definitions fs) is) ≡ sum_by registers_of is
insts_length fs [] = refl
insts_length fs (i ∷ is) =
    let first : length (inst_definitions fs i) ≡ registers_of i = dest_length i.dest (spawned_attr fs i.op) in
    let more : length (flat_map (inst_definitions fs) is) ≡ sum_by registers_of is = insts_length fs is in
    let whole : sum_by registers_of (i ∷ is) ≡ registers_of i + sum_by registers_of is = sum_by-cons registers_of i is in
    let joined : length (inst_definitions fs i ++ flat_map (inst_definitions fs) is) ≡ length (inst_definitions fs i) + length (flat_map (inst_definitions fs) is) = length-append (inst_definitions fs i) (flat_map (inst_definitions fs) is) in
    joined ∙ ap (λ (z : ℕ). z + length (flat_map (inst_definitions fs) is)) first ∙ ap (λ (z : ℕ). registers_of i + z) more ∙ sym whole

block_length : (fs : List Function) (b : Block) → length (block_definitions fs b) ≡ block_registers b
block_length fs b =
    length-append (params_definitions b.params) (flat_map (inst_definitions fs) b.insts)
    ∙ ap (λ (z : ℕ). z + length (flat_map (inst_definitions fs) b.insts)) (params_length b.params) ∙ ap (λ (z : ℕ). length b.params + z) (insts_length fs b.insts)

blocks_length : (fs : List Function) (bs : List Block) → length (flat_map (block_definitions fs) bs) ≡ sum_by block_registers bs
blocks_length fs [] = refl
blocks_length fs (b ∷ bs) =
    length-append (block_definitions fs b) (flat_map (block_definitions fs) bs)
    ∙ ap (λ (z : ℕ). z + length (flat_map (block_definitions fs) bs)) (block_length fs b) ∙ ap (λ (z : ℕ). block_registers b + z) (blocks_length fs bs) ∙ sym (sum_by-cons block_registers b bs)

function_length : (fs : List Function) (f : Function) → length (definitions fs f) ≡ function_registers f
function_length fs f =
    length-append (params_definitions f.params) (flat_map (block_definitions fs) f.blocks)
    ∙ ap (λ (z : ℕ). z + length (flat_map (block_definitions fs) f.blocks)) (params_length f.params) ∙ ap (λ (z : ℕ). length f.params + z) (blocks_length fs f.blocks)

params_below : (bs : List Block) → Each (λ b. length b.params ≤ sum_by block_registers bs) bs
params_below [] = tt
params_below (b ∷ bs) =
    let whole : sum_by block_registers (b ∷ bs) ≡ block_registers b + sum_by block_registers bs = sum_by-cons block_registers b bs in
    (omega arith, each_map (λ (c : Block). length c.params ≤ sum_by block_registers bs) (λ c. length c.params ≤ sum_by block_registers (b ∷ bs)) (λ c h. omega arith) bs (params_below bs))

blocks_below : (bs : List Block) → length bs ≤ sum_by block_instructions bs
blocks_below [] = omega arith
blocks_below (b ∷ bs) =
    let whole : sum_by block_instructions (b ∷ bs) ≡ block_instructions b + sum_by block_instructions bs = sum_by-cons block_instructions b bs in
    let more : length bs ≤ sum_by block_instructions bs = blocks_below bs in omega arith

functions_below : (fs : List Function) → Each (λ f. function_instructions f ≤ sum_by function_instructions fs) fs
functions_below [] = tt
functions_below (f ∷ fs) =
    let whole : sum_by function_instructions (f ∷ fs) ≡ function_instructions f + sum_by function_instructions fs = sum_by-cons function_instructions f fs in
    (omega arith, each_map (λ (g : Function). function_instructions g ≤ sum_by function_instructions fs) (λ g. function_instructions g ≤ sum_by function_instructions (f ∷ fs)) (λ g h. omega arith) fs (functions_below fs))

blocks_end_is : (n : ℕ) (bs : List Block) → blocks_end n bs ≡ n + sum_by block_instructions bs
blocks_end_is n [] = omega arith
blocks_end_is n (b ∷ bs) =
    let whole : sum_by block_instructions (b ∷ bs) ≡ block_instructions b + sum_by block_instructions bs = sum_by-cons block_instructions b bs in
    let more : blocks_end (n + block_instructions b) bs ≡ (n + block_instructions b) + sum_by block_instructions bs = blocks_end_is (n + block_instructions b) bs in omega arith

program_end_is : (n : ℕ) (fs : List Function) → program_end n fs ≡ n + sum_by function_instructions fs
program_end_is n [] = omega arith
program_end_is n (f ∷ fs) =
    let whole : sum_by function_instructions (f ∷ fs) ≡ function_instructions f + sum_by function_instructions fs = sum_by-cons function_instructions f fs in
    let here : blocks_end n f.blocks ≡ n + sum_by block_instructions f.blocks = blocks_end_is n f.blocks in
    let more : program_end (blocks_end n f.blocks) fs ≡ blocks_end n f.blocks + sum_by function_instructions fs = program_end_is (blocks_end n f.blocks) fs in omega arith

few_params : (f : Function) → function_registers f ≤ most_registers → FewParams f
few_params f h = omega arith

few_block_params : (f : Function) → function_registers f ≤ most_registers → Each FewBlockParams f.blocks
few_block_params f h = each_map (λ (b : Block). length b.params ≤ sum_by block_registers f.blocks) FewBlockParams (λ b k. omega arith) f.blocks (params_below f.blocks)

-- ---- a function, and the program

record FunctionGood (fs : List Function) (hosts : List HostEntry) (f : Function) : Type 0 where
  numbered : FunctionNumbered fs f
  known : IsKnown (scope_of fs hosts f) f

block_numbered : (fs : List Function) (bs : List Block) (b : Block) → FewBlockParams b → Each (λ i. OpGood fs i.op) b.insts → Each (GoalGood bs) (jump_goals b.term.jump) → BlockNumbered b
block_numbered fs bs b few ops goals =
    record { params = few; ops = each_map (λ (i : Inst). OpGood fs i.op) (λ i. OpNumbered i.op) (λ i g. g.numbered) b.insts ops; jump = jump_few bs b.term.jump goals }

record InstParts (x : Scope) (i : Inst) : Type 0 where
  dest : IfSome i.dest (HasRegister x)
  uses : Each (Ok x) (op_uses i.op)
  calls : Calls x i.op

block_known : (version : ℕ) (x : Scope) (b : Block) → BlockPlaced (λ n. place x.registers n < length x.registers) b → BlockUses (Ok x) b → IsBlock version b → Each (λ i. OpGood x.functions i.op) b.insts → Each (GoalGood x.blocks) (jump_goals b.term.jump) → HasBlock x b
block_known version x b placed used shaped ops goals =
    let some : Each (λ i. IfSome i.dest (HasRegister x) × Each (Ok x) (op_uses i.op)) b.insts =
    each_zip (λ (i : Inst). IfSome i.dest (HasRegister x)) (λ i. Each (Ok x) (op_uses i.op)) (λ i. IfSome i.dest (HasRegister x) × Each (Ok x) (op_uses i.op)) (λ i d u. (d, u)) b.insts placed.dests used.insts in
    let parts : Each (InstParts x) b.insts =
    each_zip (λ (i : Inst). IfSome i.dest (HasRegister x) × Each (Ok x) (op_uses i.op)) (λ i. OpGood x.functions i.op) (InstParts x) (λ i s g. record { dest = s.0; uses = s.1; calls = g.calls x refl }) b.insts some ops in
    record {
      params = placed.params;
      insts = each_zip (IsInst version) (InstParts x) (HasInst x) (λ i s g. record { fits = s.0; dest = g.dest; uses = op_has x i.op g.uses g.calls }) b.insts shaped.insts parts;
      jump = jump_has x b.term.jump used.jump (each_map (GoalGood x.blocks) (GoesThere x) (λ g h. h.there) (jump_goals b.term.jump) goals);
    }

record BlockParts (version : ℕ) (x : Scope) (b : Block) : Type 0 where
  placed : BlockPlaced (λ n. place x.registers n < length x.registers) b
  used : BlockUses (Ok x) b
  shaped : IsBlock version b
  few : FewBlockParams b
  ops : Each (λ i. OpGood x.functions i.op) b.insts
  goals : Each (GoalGood x.blocks) (jump_goals b.term.jump)

blocks_parts : (version : ℕ) (x : Scope) (bs : List Block) → Each (BlockPlaced (λ n. place x.registers n < length x.registers)) bs → Each (BlockUses (Ok x)) bs → Each (IsBlock version) bs → Each FewBlockParams bs
    → Each (λ b. Each (λ i. OpGood x.functions i.op) b.insts) bs → Each (λ b. Each (GoalGood x.blocks) (jump_goals b.term.jump)) bs → Each (BlockParts version x) bs
blocks_parts version x [] a b c d e g = tt
blocks_parts version x (k ∷ bs) a b c d e g =
    (record { placed = a.0; used = b.0; shaped = c.0; few = d.0; ops = e.0; goals = g.0 }, blocks_parts version x bs a.1 b.1 c.1 d.1 e.1 g.1)

function_good : (p : Program) (hosts : HostTable) (f : Function) → IsAccepted p hosts → Contains p.functions f → IsFunction p.version f → Each FewParams p.functions
    → function_registers f ≤ most_registers → function_instructions f ≤ most_instructions → FunctionGood p.functions hosts.entries f
function_good p hosts f ok there shaped few regs insts =
    let fs : List Function = p.functions in
    let x : Scope = scope_of fs hosts.entries f in
    let rs : List (List ℕ) = registers (definitions fs f) in
    let all : Each (λ d. place rs d.name < length rs) (definitions fs f) = each_unmap (λ (n : List ℕ). place rs n < length rs) (λ (d : Definition). d.name) (definitions fs f) (placed [] rs) in
    let both = each_parts (λ (d : Definition). place rs d.name < length rs) (params_definitions f.params) (flat_map (block_definitions fs) f.blocks) all in
    let events : Each (Ok x) (used (function_events f)) = all_used p hosts f ok there shaped in
    let uses_ : Each (BlockUses (Ok x)) f.blocks = blocks_used (Ok x) f.blocks (used_parts (Ok x) (map param_event f.params) (flat_map block_events f.blocks) events).1 in
    let good_ops : Each (OpGood fs) (function_ops f) =
    each_from (OpGood fs) (function_ops f) (λ o in_f. op_good fs hosts.entries (function_events f) o few (λ rule at b. ok rule at (of_op f o rule at there in_f b))) in
    let ops : Each (λ b. Each (λ i. OpGood fs i.op) b.insts) f.blocks = ops_split (OpGood fs) f.blocks good_ops in
    let few_here : Each FewBlockParams f.blocks = few_block_params f regs in
    let goals : Each (λ b. Each (GoalGood f.blocks) (jump_goals b.term.jump)) f.blocks =
    each_from (λ (b : Block). Each (GoalGood f.blocks) (jump_goals b.term.jump)) f.blocks (λ b in_f. each_from (GoalGood f.blocks) (jump_goals b.term.jump)
    (λ g in_b. goal_good f.blocks g few_here (λ none_of. ok BadTarget g.label.at (of_goal f b g there in_f in_b none_of)))) in
    let parts : Each (BlockParts p.version x) f.blocks =
    blocks_parts p.version x f.blocks (blocks_placed (λ (n : List ℕ). place rs n < length rs) fs f.blocks both.1) uses_ shaped.blocks few_here ops goals in
    let size : length (definitions fs f) ≡ function_registers f = function_length fs f in
    let blocks_few : length f.blocks ≤ sum_by block_instructions f.blocks = blocks_below f.blocks in
    record {
      numbered = record {
        registers_once = subst IsOnce (sym (registers_same p.version fs f shaped)) (once_from (defined (function_events f)) (λ at s. ok Twice at (twice_register f at there s)));
        labels_once = subst IsOnce (map_twice (λ (d : Named). d.name) (λ (b : Block). b.label) f.blocks) (once_from (map (λ (b : Block). b.label) f.blocks) (λ at s. ok Twice at (twice_label f at there s)));
        few_registers = omega arith;
        few_blocks = omega arith;
        few_params = few_params f regs;
        blocks = each_map (BlockParts p.version x) BlockNumbered (λ b h. block_numbered fs f.blocks b h.few h.ops h.goals) f.blocks parts;
      };
      known = record {
        some_block = shaped.some_block;
        params = params_placed (λ (n : List ℕ). place rs n < length rs) f.params both.0;
        blocks = each_map (BlockParts p.version x) (HasBlock x) (λ b h. block_known p.version x b h.placed h.used h.shaped h.ops h.goals) f.blocks parts;
      };
    }

each_member : {A : Type 0} (P : A → Type 0) (xs : List A) (k : ℕ) (x : A) → k < length xs → get_or xs k x ≡ x → Each P xs → P x
each_member P [] k x lt e h = absurd (omega arith)
each_member P (y ∷ xs) zero x lt e h = subst P e h.0
each_member P (y ∷ xs) (suc k) x lt e h = each_member P xs k x (omega arith) e h.1

functions_good : (p : Program) (hosts : HostTable) → IsAccepted p hosts → IsProgram p → Each (FunctionGood p.functions hosts.entries) p.functions
functions_good p hosts ok program =
    let limits : KeepsLimits p = keeps_limits p program in
    let few : Each FewParams p.functions = each_map (λ (f : Function). function_registers f ≤ most_registers) FewParams (λ f h. few_params f h) p.functions limits.registers in
    let total : sum_by function_instructions p.functions ≤ most_instructions = limits.instructions in
    each_from (FunctionGood p.functions hosts.entries) p.functions (λ f there.
    let regs : function_registers f ≤ most_registers = each_member (λ (g : Function). function_registers g ≤ most_registers) p.functions there.0 f there.1 there.2 limits.registers in
    let some : function_instructions f ≤ sum_by function_instructions p.functions = each_member (λ (g : Function). function_instructions g ≤ sum_by function_instructions p.functions) p.functions there.0 f there.1 there.2 (functions_below p.functions) in
    let shaped : IsFunction p.version f = each_member (IsFunction p.version) p.functions there.0 f there.1 there.2 program.shaped.functions in
    function_good p hosts f ok there shaped few regs (omega arith))

pub accepted_numbered : (p : Program) (hosts : HostTable) → IsAccepted p hosts → IsProgram p → length hosts.entries < 2 ^ 32 → IsNumbered hosts.entries p
accepted_numbered p hosts ok program few_hosts =
    let limits : KeepsLimits p = keeps_limits p program in
    let functions : length p.functions ≤ most_functions = limits.functions in
    let total : sum_by function_instructions p.functions ≤ most_instructions = limits.instructions in
    let end : program_end 0 p.functions ≡ 0 + sum_by function_instructions p.functions = program_end_is 0 p.functions in
    record {
      functions_once = subst IsOnce (map_twice (λ (d : Named). d.name) (λ (f : Function). f.name) p.functions) (once_from (map (λ (f : Function). f.name) p.functions) (λ at s. ok Twice at (twice_function at s)));
      few_functions = omega arith;
      few_hosts = few_hosts;
      few_instructions = omega arith;
      functions = each_map (FunctionGood p.functions hosts.entries) (FunctionNumbered p.functions) (λ f g. g.numbered) p.functions (functions_good p hosts ok program);
    }

pub accepted_known : (p : Program) (hosts : HostTable) → IsAccepted p hosts → IsProgram p → AllKnown hosts.entries p
accepted_known p hosts ok program =
    each_map (FunctionGood p.functions hosts.entries) (λ (f : Function). IsKnown (scope_of p.functions hosts.entries f) f) (λ f g. g.known) p.functions (functions_good p hosts ok program)
