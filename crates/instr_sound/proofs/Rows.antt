-- Rows of arguments: written from a list of values, read into parameters.
use Rattle.std.proofs.Common.{◌≡◌, ◌≢◌, ℕ, zero, suc, ◌+◌, ◌<◌, List, [], ◌∷◌, get_or, set, Option, Some, None, refl, sym, ap, ◌∙◌, subst, arith}
use Rattle.bsan_ids.specs.declared.numbers.Prov.{Prov}
use Rattle.history.specs.declared.ask.Arg.{Arg}
use Rattle.ir_ast.specs.Tokens.{Each}
use Rattle.ir_ast.specs.declared.types.Ty.{Ty}
use Rattle.ir_ast.specs.declared.types.Ty.TheVariants.{Int, Ptr}
use Rattle.ir_ast.specs.declared.program.Function.{Function}
use Rattle.ir_ast.specs.declared.program.Named.{Named}
use Rattle.ir_ast.specs.declared.program.Param.{Param}
use Rattle.ir_ast.specs.declared.program.TypedVal.{TypedVal}
use Rattle.ir_ast.specs.declared.program.Val.{Val}
use Rattle.ir_ast.specs.declared.program.Val.TheVariants.{Reg, Num}
use Rattle.ir_rules.specs.Occurrences.Holds.{value}
use Rattle.ir_rules.specs.Rules.{param_types, arg_types}
use Rattle.source_sem.specs.Env.{Env, operand, args_of, bind, with_value}
use Rattle.thread_parts.specs.Words.{blank, prov_at, arg_at}
use Rattle.source_sem.specs.Typing.{HasType}
use Rattle.target_code.specs.declared.line.Line.{Line}
use Rattle.target_code.specs.declared.line.Line.TheVariants as line
use Rattle.instrument.specs.Translation.{Scope, slot, operand_of, shadow_of, for_ptr, arg_lines, take_lines, param_lines}
use Rattle.instrument.specs.Known.{HasRegister}
use Rattle.thread_machine.specs.Thread.{Row, TargetFrame, Thread, row_of, word_of, shadow_at, put_at, run}
use Rattle.instr_sound.specs.Fits.{ParamKnown}
use Rattle.instr_sound.specs.Simulation.{SlotsHold}
use Rattle.instr_sound.proofs.Slots.{holds_ptr_at, holds_word_at}

-- a write in a row
pub put_at_same : {A : Type 0} (l : List A) (i : ℕ) (d x : A) → get_or (put_at l i d x) i d ≡ x
put_at_same [] zero d x = refl
put_at_same [] (suc i) d x = put_at_same [] i d x
put_at_same (y ∷ l) zero d x = refl
put_at_same (y ∷ l) (suc i) d x = put_at_same l i d x

pub put_at_other : {A : Type 0} (l : List A) (i j : ℕ) (d x : A) → j ≢ i → get_or (put_at l i d x) j d ≡ get_or l j d
put_at_other [] zero zero d x h = absurd (h refl)
put_at_other [] zero (suc j) d x h = refl
put_at_other [] (suc i) zero d x h = refl
put_at_other [] (suc i) (suc j) d x h = put_at_other [] i j d x (λ e. h (ap suc e))
put_at_other (y ∷ l) zero zero d x h = absurd (h refl)
put_at_other (y ∷ l) zero (suc j) d x h = refl
put_at_other (y ∷ l) (suc i) zero d x h = refl
put_at_other (y ∷ l) (suc i) (suc j) d x h = put_at_other l i j d x (λ e. h (ap suc e))

-- an operand's word and provenance are those of the slots
module _ (x : Scope) (g : Function) (env : Env) (f : TargetFrame) (holds : SlotsHold x g env f.words f.shadows) where
  pub operand_word : (v : Val) → word_of f (operand_of x v) ≡ (operand env v).value
  operand_word (Reg r) = holds.words_are r.name
  operand_word (Num n) = refl

  pub operand_prov : (v : Val) → shadow_at f (shadow_of x v) ≡ (operand env v).prov
  operand_prov (Reg r) = holds.provs_are r.name
  operand_prov (Num n) = refl

-- the row after the lines of arguments
abbrev pub prov_put : Ty → List (Option Prov) → ℕ → Option Prov → List (Option Prov)
prov_put (Int w) ps i p = ps
prov_put Ptr ps i p = put_at ps i None p

abbrev pub row_put : TargetFrame → Scope → ℕ → TypedVal → Row → Row
row_put f x i v row = record { words = put_at row.words i 0 (word_of f (operand_of x v.val)); provs = prov_put v.ty row.provs i (shadow_at f (shadow_of x v.val)) }

abbrev pub args_row : TargetFrame → Scope → ℕ → List TypedVal → Row → Row
args_row f x i [] row = row
args_row f x i (v ∷ vs) row = args_row f x (i + 1) vs (row_put f x i v row)

run_arg : (input : List ℕ) (ty : Ty) (x : Scope) (i : ℕ) (v : Val) (ls : List Line) (t : Thread) → run input (line.Arg i (operand_of x v) ∷ for_ptr ty (line.ShadowArg i (shadow_of x v)) ls) t ≡ run input ls (record t { row = row_put t.top x i (record { ty = ty; val = v }) t.row })
run_arg input (Int w) x i v ls t = refl
run_arg input Ptr x i v ls t = refl

pub run_args : (input : List ℕ) (x : Scope) (i : ℕ) (vs : List TypedVal) (ls : List Line) (t : Thread) → run input (arg_lines x i vs ls) t ≡ run input ls (record t { row = args_row t.top x i vs t.row })
run_args input x i [] ls t = refl
run_args input x i (v ∷ vs) ls t =
    run_arg input v.ty x i v.val (arg_lines x (i + 1) vs ls) t ∙ run_args input x (i + 1) vs ls (record t { row = row_put t.top x i v t.row })

-- what is below stays
args_words_below : (f : TargetFrame) (x : Scope) (i : ℕ) (vs : List TypedVal) (row : Row) (j : ℕ) → j < i → get_or (args_row f x i vs row).words j 0 ≡ get_or row.words j 0
args_words_below f x i [] row j h = refl
args_words_below f x i (v ∷ vs) row j h =
    args_words_below f x (i + 1) vs (row_put f x i v row) j (omega arith) ∙ put_at_other row.words i j 0 (word_of f (operand_of x v.val)) (omega arith)

prov_put_other : (ty : Ty) (l : List (Option Prov)) (i j : ℕ) (p : Option Prov) → j ≢ i → get_or (prov_put ty l i p) j None ≡ get_or l j None
prov_put_other (Int w) l i j p h = refl
prov_put_other Ptr l i j p h = put_at_other l i j None p h

prov_put_same : (ty : Ty) (l : List (Option Prov)) (i : ℕ) (p : Option Prov) → prov_at ty (get_or (prov_put ty l i p) i None) ≡ prov_at ty p
prov_put_same (Int w) l i p = refl
prov_put_same Ptr l i p = put_at_same l i None p

args_provs_below : (f : TargetFrame) (x : Scope) (i : ℕ) (vs : List TypedVal) (row : Row) (j : ℕ) → j < i → get_or (args_row f x i vs row).provs j None ≡ get_or row.provs j None
args_provs_below f x i [] row j h = refl
args_provs_below f x i (v ∷ vs) row j h =
    args_provs_below f x (i + 1) vs (row_put f x i v row) j (omega arith) ∙ prov_put_other v.ty row.provs i j (shadow_at f (shadow_of x v.val)) (omega arith)

-- the row gives these values to parameters of these types; what wasn't handed over is 0 and none
abbrev pub head_or_blank : List Arg → Arg
head_or_blank [] = blank
head_or_blank (v ∷ vs) = v

abbrev pub tail_of : List Arg → List Arg
tail_of [] = []
tail_of (v ∷ vs) = vs

abbrev pub Gives : Row → ℕ → List Param → List Arg → Type 0
Gives row i [] vs = Unit {0}
Gives row i (q ∷ qs) vs =
    (get_or row.words i 0 ≡ (head_or_blank vs).value) × (prov_at q.ty (get_or row.provs i None) ≡ prov_at q.ty (head_or_blank vs).prov) × Gives row (i + 1) qs (tail_of vs)

prov_at_twice : (ty : Ty) (p : Option Prov) → prov_at ty (prov_at ty p) ≡ prov_at ty p
prov_at_twice (Int w) p = refl
prov_at_twice Ptr p = refl

head_type : (q : Param) (v : TypedVal) (qs : List Param) (vs : List TypedVal) → param_types (q ∷ qs) ≡ arg_types (v ∷ vs) → q.ty ≡ v.ty
head_type q v qs vs e = cc

tail_types : (q : Param) (v : TypedVal) (qs : List Param) (vs : List TypedVal) → param_types (q ∷ qs) ≡ arg_types (v ∷ vs) → param_types qs ≡ arg_types vs
tail_types q v qs vs e = cc

no_types : (v : TypedVal) (vs : List TypedVal) → param_types [] ≡ arg_types (v ∷ vs) → ⊥
no_types v vs e = cc

no_args : (q : Param) (qs : List Param) → param_types (q ∷ qs) ≡ arg_types [] → ⊥
no_args q qs e = cc

pub args_give : (x : Scope) (g : Function) (env : Env) (f : TargetFrame) → SlotsHold x g env f.words f.shadows → (i : ℕ) (vs : List TypedVal) (qs : List Param) (row : Row) → param_types qs ≡ arg_types vs → Gives (args_row f x i vs row) i qs (args_of env vs)
args_give x g env f holds i [] [] row e = tt
args_give x g env f holds i [] (q ∷ qs) row e = absurd (no_args q qs e)
args_give x g env f holds i (v ∷ vs) [] row e = tt
args_give x g env f holds i (v ∷ vs) (q ∷ qs) row e =
    let next : Row = row_put f x i v row in
    let same : v.ty ≡ q.ty = sym (head_type q v qs vs e) in (
      args_words_below f x (i + 1) vs next i (omega arith) ∙ put_at_same row.words i 0 (word_of f (operand_of x v.val)) ∙ operand_word x g env f holds v.val,
      ap (prov_at q.ty) (args_provs_below f x (i + 1) vs next i (omega arith))
          ∙ ap (λ ty. prov_at ty (get_or next.provs i None)) (sym same)
          ∙ prov_put_same v.ty row.provs i (shadow_at f (shadow_of x v.val))
          ∙ ap (prov_at v.ty) (operand_prov x g env f holds v.val)
          ∙ sym (prov_at_twice v.ty (operand env v.val).prov)
          ∙ ap (λ ty. prov_at ty (prov_at v.ty (operand env v.val).prov)) same,
      args_give x g env f holds (i + 1) vs qs next (tail_types q v qs vs e),
    )

-- the slots after the lines of parameters
abbrev pub shadow_set : Ty → List (Option Prov) → ℕ → Option Prov → List (Option Prov)
shadow_set (Int w) ss s p = ss
shadow_set Ptr ss s p = set ss s p

abbrev pub fill_words : Row → Scope → ℕ → List Param → List ℕ → List ℕ
fill_words row x i [] ws = ws
fill_words row x i (q ∷ qs) ws = fill_words row x (i + 1) qs (set ws (slot x q.reg) (get_or row.words i 0))

abbrev pub fill_shadows : Row → Scope → ℕ → List Param → List (Option Prov) → List (Option Prov)
fill_shadows row x i [] ss = ss
fill_shadows row x i (q ∷ qs) ss = fill_shadows row x (i + 1) qs (shadow_set q.ty ss (slot x q.reg) (get_or row.provs i None))

-- the thread with a parameter in its slot
abbrev taken : Row → Ty → Scope → Named → ℕ → Thread → Thread
taken row ty x r i t = record t { top = record t.top { words = set t.top.words (slot x r) (get_or row.words i 0); shadows = shadow_set ty t.top.shadows (slot x r) (get_or row.provs i None) } }

run_take : (input : List ℕ) (ty : Ty) (x : Scope) (r : Named) (i : ℕ) (ls : List Line) (t : Thread) → run input (line.TakeArg (slot x r) i ∷ for_ptr ty (line.TakeShadowArg (slot x r) i) ls) t ≡ run input ls (taken t.row ty x r i t)
run_take input (Int w) x r i ls t = refl
run_take input Ptr x r i ls t = refl

pub run_takes : (input : List ℕ) (x : Scope) (i : ℕ) (qs : List Param) (ls : List Line) (t : Thread) → run input (take_lines x i qs ls) t ≡ run input ls (record t { top = record t.top { words = fill_words t.row x i qs t.top.words; shadows = fill_shadows t.row x i qs t.top.shadows } })
run_takes input x i [] ls t = refl
run_takes input x i (q ∷ qs) ls t =
    run_take input q.ty x q.reg i (take_lines x (i + 1) qs ls) t ∙ run_takes input x (i + 1) qs ls (taken t.row q.ty x q.reg i t)

run_param : (input : List ℕ) (ty : Ty) (x : Scope) (r : Named) (i : ℕ) (ls : List Line) (t : Thread) → run input (line.Param (slot x r) i ∷ for_ptr ty (line.ShadowParam (slot x r) i) ls) t ≡ run input ls (taken t.top.handed ty x r i t)
run_param input (Int w) x r i ls t = refl
run_param input Ptr x r i ls t = refl

pub run_params : (input : List ℕ) (x : Scope) (i : ℕ) (qs : List Param) (ls : List Line) (t : Thread) → run input (param_lines x i qs ls) t ≡ run input ls (record t { top = record t.top { words = fill_words t.top.handed x i qs t.top.words; shadows = fill_shadows t.top.handed x i qs t.top.shadows } })
run_params input x i [] ls t = refl
run_params input x i (q ∷ qs) ls t =
    run_param input q.ty x q.reg i (param_lines x (i + 1) qs ls) t ∙ run_params input x (i + 1) qs ls (taken t.top.handed q.ty x q.reg i t)

-- a register has one type
pub not_ptr : (g : Function) (r : List ℕ) (ty : Ty) → HasType g r ty → (ty ≡ Ptr → ⊥) → HasType g r Ptr → ⊥
not_ptr g r ty h never k = never (same (sym h ∙ k))
  where
    same : Some (value ty) ≡ Some (value Ptr) → ty ≡ Ptr
    same e = cc

filled_by : (ty : Ty) (x : Scope) (g : Function) (env : Env) (ws : List ℕ) (ss : List (Option Prov)) → SlotsHold x g env ws ss → (r : Named) → HasType g r.name ty → HasRegister x r → (n : ℕ) (p : Option Prov) (v : Arg) → n ≡ v.value → prov_at ty p ≡ prov_at ty v.prov → SlotsHold x g (with_value r.name (arg_at ty v) env) (set ws (slot x r) n) (shadow_set ty ss (slot x r) p)
filled_by (Int w) x g env ws ss holds r t known n p v en ep =
    holds_word_at x g env ws ss holds r.name (not_ptr g r.name (Int w) t (λ e. no_int e)) known n (arg_at (Int w) v) en refl
  where
    no_int : Int w ≡ Ptr → ⊥
    no_int e = cc
filled_by Ptr x g env ws ss holds r t known n p v en ep = holds_ptr_at x g env ws ss holds r.name t known n p v en ep

bound_once : (q : Param) (qs : List Param) (vs : List Arg) (env : Env) → bind (q ∷ qs) vs env ≡ bind qs (tail_of vs) (with_value q.reg.name (arg_at q.ty (head_or_blank vs)) env)
bound_once q qs [] env = ap (λ p. bind qs [] (with_value q.reg.name (record { value = 0; prov = p }) env)) (sym (none_at q.ty))
  where
    none_at : (ty : Ty) → prov_at ty None ≡ None
    none_at (Int w) = refl
    none_at Ptr = refl
bound_once q qs (v ∷ vs) env = refl

pub filled : (x : Scope) (g : Function) (row : Row) (i : ℕ) (qs : List Param) (vs : List Arg) (env : Env) (ws : List ℕ) (ss : List (Option Prov)) → SlotsHold x g env ws ss → Each (ParamKnown x g) qs → Gives row i qs vs → SlotsHold x g (bind qs vs env) (fill_words row x i qs ws) (fill_shadows row x i qs ss)
filled x g row i [] vs env ws ss holds known gives = holds
filled x g row i (q ∷ qs) vs env ws ss holds known gives =
    subst (λ e. SlotsHold x g e (fill_words row x i (q ∷ qs) ws) (fill_shadows row x i (q ∷ qs) ss)) (sym (bound_once q qs vs env))
    (filled x g row (i + 1) qs (tail_of vs) (with_value q.reg.name (arg_at q.ty (head_or_blank vs)) env) (set ws (slot x q.reg) (get_or row.words i 0)) (shadow_set q.ty ss (slot x q.reg) (get_or row.provs i None))
    (filled_by q.ty x g env ws ss holds q.reg known.0.0 known.0.1 (get_or row.words i 0) (get_or row.provs i None) (head_or_blank vs) gives.0 gives.1) known.1 gives.2)

-- the row that holds a list of arguments gives them
get_next : {A : Type 0} (y : A) (l : List A) (i : ℕ) (d : A) → get_or (y ∷ l) (i + 1) d ≡ get_or l i d
get_next y l i d = ap (λ n. get_or (y ∷ l) n d) (next i)
  where
    next : (i : ℕ) → i + 1 ≡ suc i
    next i = omega arith

shifted : (v : Arg) (vs : List Arg) (i : ℕ) (qs : List Param) (given : List Arg) → Gives (row_of vs) i qs given → Gives (row_of (v ∷ vs)) (i + 1) qs given
shifted v vs i [] given h = tt
shifted v vs i (q ∷ qs) given h = (
  get_next v.value (row_of vs).words i 0 ∙ h.0,
  ap (prov_at q.ty) (get_next v.prov (row_of vs).provs i None) ∙ h.1,
  shifted v vs (i + 1) qs (tail_of given) h.2,
)

no_args_give : (i : ℕ) (qs : List Param) → Gives (row_of []) i qs []
no_args_give i [] = tt
no_args_give i (q ∷ qs) = (refl, refl, no_args_give (i + 1) qs)

pub row_gives : (qs : List Param) (vs : List Arg) → Gives (row_of vs) 0 qs vs
row_gives [] vs = tt
row_gives (q ∷ qs) [] = no_args_give 0 (q ∷ qs)
row_gives (q ∷ qs) (v ∷ vs) = (refl, refl, shifted v vs 0 qs vs (row_gives qs vs))
