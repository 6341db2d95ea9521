-- What an operation does with words of their types.
use Rattle.std.proofs.Common.{◌≡◌, ℕ, zero, suc, ◌%◌, ◌^◌, ◌<◌, ◌≤◌, List, [], ◌∷◌, Option, Some, None, Bool, true, false, refl, sym, subst, arith}
use Rattle.std.specs.Prelude.{slice_get, unwrap_or, nat_lt}
use Rattle.history.specs.declared.ask.Arg.{Arg}
use Rattle.ir_ast.specs.Tokens.{Each}
use Rattle.ir_ast.specs.declared.program.Function.{Function}
use Rattle.ir_ast.specs.declared.program.Op.{Op}
use Rattle.ir_ast.specs.declared.program.Op.TheVariants as op
use Rattle.ir_ast.specs.declared.program.TypedVal.{TypedVal}
use Rattle.ir_ast.specs.declared.types.Attr.{Attr}
use Rattle.ir_ast.specs.declared.types.Place.{Place}
use Rattle.ir_ast.specs.declared.types.Ty.{Ty}
use Rattle.ir_ast.specs.declared.types.Ty.TheVariants.{Int, Ptr}
use Rattle.ir_ast.specs.declared.types.Width.{Width}
use Rattle.ir_ast.specs.declared.types.Width.TheVariants.{W8, W16, W32, W64}
use Rattle.ir_ast.specs.Arithmetic.{Worked, word, div_zero, shift_too_far, worked}
use Rattle.perm_table.specs.declared.RetagKind.{RetagKind}
use Rattle.ir_rules.specs.Occurrences.{Holds, or_none, op_gives}
use Rattle.ir_rules.specs.Occurrences.Holds.{value, handle}
use Rattle.ir_ast.specs.Words.{bits, word_bits}
use Rattle.source_sem.specs.Env.{Env, value_in, operand, args_of}
use Rattle.thread_parts.specs.Parts.{Part, Step, Access, Gives, Fails, Steps, Retags, Copies, Calls, Joins, Makes, Accesses, Prints, Hosts, Spawns, Loads, Stores, Modifies, Compares, Frees, worked_part, make_by, retag_part, copy_by, call_part, chosen, truth, makes_step, nth_value}
use Rattle.ir_ast.specs.Attributes.{attr_of_call}
use Rattle.ir_ast.specs.Numbers.{function_place}
use Rattle.thread_parts.specs.Fits.{ValueFits}
use Rattle.source_sem.specs.Source.{Setting, op_part}
use Rattle.source_sem.specs.Typing.{ArgTyped, OpTyped}
use Rattle.source_sem.specs.Starting.{ArgsFit}
use Rattle.source_runs.specs.Invariant.{EnvFits, JoinsTyped}
use Rattle.source_runs.proofs.Words.{WorkedFits, worked_fits, wrapped, cast_fits}
use Rattle.source_runs.proofs.Registers.{fits_plain, fits_ptr, fits_at, fits_blank, MayGive, arg_fits, args_fit}

mod_same : (c : ℕ) → c < 2 ^ 32 → c % 2 ^ 32 ≡ c
mod_same c less = omega (arith, less)

most_bits : (ty : Ty) → 2 ^ word_bits ty ≤ 2 ^ 64
most_bits (Int W8) = omega arith
most_bits (Int W16) = omega arith
most_bits (Int W32) = omega arith
most_bits (Int W64) = omega arith
most_bits Ptr = omega arith

-- a destination that holds h fits what the part gives
abbrev pub AccessFits : Option Holds → Access → Type 0
AccessFits h (Loads ty) = h ≡ Some (value ty)
AccessFits h (Stores ty v) = Unit {0}
AccessFits h (Modifies w o v) = h ≡ Some (value (Int w))
AccessFits h (Compares w e v) = h ≡ Some (value (Int w))
AccessFits h Frees = Unit {0}

-- function k begins with these arguments
abbrev pub Begins : Setting → ℕ → List Arg → Function → Type 0
Begins x k args f = (slice_get x.program.functions k ≡ Some f) × ArgsFit f.params args

abbrev pub StepFits : Setting → Option Holds → Step → Type 0
StepFits x h (Makes n place) = h ≡ Some (value Ptr)
StepFits x h (Accesses p a) = AccessFits h a
StepFits x h (Prints v) = Unit {0}
StepFits x h (Hosts n a b) = ((ty : Ty) × (h ≡ Some (value ty)) × (word_bits ty ≡ 64)) × (a < 2 ^ 64) × (b < 2 ^ 64)
StepFits x h (Spawns k args) = ((name : List ℕ) × (h ≡ Some (handle name)) × (function_place x.program.functions name ≡ k)) × ((f : Function) × Begins x k args f)

abbrev pub PartFits : Setting → (ℕ → ℕ → Type 0) → Option Holds → Part → Type 0
PartFits x K h (Gives v) = MayGive x.program K h v
PartFits x K h (Fails t) = Unit {0}
PartFits x K h (Steps s) = StepFits x h s
PartFits x K h (Retags p kind n) = (p.value < 2 ^ 64) × (h ≡ Some (value Ptr))
PartFits x K h (Copies d s n) = Unit {0}
PartFits x K h (Calls k args ty attr) = ((f : Function) × Begins x k args f × (f.result.ty ≡ ty)) × (h ≡ or_none ty)
PartFits x K h (Joins c ty attr) = (h ≡ or_none ty) × JoinsTyped x.program K ty c

module _ (x : Setting) (K : ℕ → ℕ → Type 0) (zero_fits : (k : ℕ) → K k 0) (small : (k c : ℕ) → K k c → c < 2 ^ 32) where
  worked_given : (w : Width) (n : Worked) → WorkedFits (bits w) n → PartFits x K (Some (value (Int w))) (worked_part n)
  worked_given w (word n) fits = fits_plain (Int w) n fits
  worked_given w div_zero fits = tt
  worked_given w shift_too_far fits = tt

  make_given : (b : Bool) (place : Place) (n : ℕ) → PartFits x K (Some (value Ptr)) (make_by b place n)
  make_given true place n = tt
  make_given false place n = refl

  truth_fits : (b : Bool) → truth b < 2 ^ 8
  truth_fits true = omega arith
  truth_fits false = omega arith

  retag_given : (b : Bool) (p : Arg) (kind : RetagKind) (n : ℕ) → ValueFits Ptr p → PartFits x K (Some (value Ptr)) (retag_part b p kind n)
  retag_given true p kind n fits = (fits.word, refl)
  retag_given false p kind n fits = fits

  copy_given : (h : Option Holds) (b : Bool) (d s : Arg) (n : ℕ) → PartFits x K h (copy_by b d s n)
  copy_given h true d s n = tt
  copy_given h false d s n = tt

  call_given : (b : Bool) (k : ℕ) (args : List Arg) (ty : Option Ty) (attr : Option Attr) → ((f : Function) × Begins x k args f × (f.result.ty ≡ ty)) → PartFits x K (or_none ty) (call_part b k args ty attr)
  call_given true k args ty attr fits = (fits, refl)
  call_given false k args ty attr fits = tt

  input_fits : (xs : List ℕ) (n : ℕ) → Each (λ b. b < 256) xs → unwrap_or (slice_get xs n) 256 < 2 ^ 64
  input_fits [] n all = omega arith
  input_fits (b ∷ xs) zero all = let one = all.0 in omega (arith, one)
  input_fits (b ∷ xs) (suc n) all = input_fits xs n all.1

  module _ (bytes : Each (λ b. b < 256) x.input) (g : Function) where
    nth_fits : (env : Env) (vs : List TypedVal) (n : ℕ) → EnvFits x.program K g env → Each (ArgTyped g) vs → nth_value (args_of env vs) n < 2 ^ 64
    nth_fits env [] n all typed = omega arith
    nth_fits env (v ∷ vs) zero all typed = let less = (arg_fits x.program K zero_fits g env v all typed.0).word in let most = most_bits v.ty in omega (arith, less, most)
    nth_fits env (v ∷ vs) (suc n) all typed = nth_fits env vs n all typed.1

    pub op_fits : (k depth : ℕ) (env : Env) (o : Op) → EnvFits x.program K g env → OpTyped x.program g o → PartFits x K (op_gives o) (op_part x k depth env o)
    op_fits k depth env (op.Const w v) all typed = fits_plain (Int w) (v % 2 ^ bits w) (wrapped (bits w) v)
    op_fits k depth env op.Null all typed = fits_blank Ptr
    op_fits k depth env (op.Make place size) all typed = make_given _ place _
    op_fits k depth env (op.Gep p v) all typed = fits_ptr _ _ (wrapped 64 _)
    op_fits k depth env (op.Load ty p) all typed = refl
    op_fits k depth env (op.Store ty v p) all typed = tt
    op_fits k depth env (op.Retag kind p n) all typed = retag_given (makes_step x.tracked n) (value_in env p.name) kind n (all p.name (value Ptr) typed)
    op_fits k depth env (op.Binary o w a b) all typed =
        worked_given w (worked o (bits w) _ _) (worked_fits o (bits w) _ _ (wrapped (bits w) (operand env a).value) (wrapped (bits w) (operand env b).value))
    op_fits k depth env (op.Compare c ty a b) all typed = fits_plain (Int W8) _ (truth_fits _)
    op_fits k depth env (op.Select ty c a b) all typed =
        let v = chosen (operand env c).value (operand env a) (operand env b) in fits_at ty (v.value % 2 ^ word_bits ty) v.prov (wrapped (word_bits ty) v.value)
    op_fits k depth env (op.Cast o v w a to_at) all typed = fits_plain (Int w) _ (cast_fits o (bits v) (bits w) ((operand env a).value % 2 ^ bits v))
    op_fits k depth env (op.PtrToInt p) all typed = fits_plain (Int W64) (value_in env p.name).value (all p.name (value Ptr) typed).word
    op_fits k depth env (op.Input v) all typed = fits_plain (Int W64) _ (input_fits x.input ((operand env v).value % 2 ^ 64) bytes)
    op_fits k depth env (op.Modify o w p v) all typed = refl
    op_fits k depth env (op.CmpXchg w p e v) all typed = refl
    op_fits k depth env (op.Copy d s v) all typed = copy_given None _ _ _ _
    op_fits k depth env (op.Free p) all typed = tt
    op_fits k depth env (op.Print w v) all typed = tt
    op_fits k depth env (op.Call ty name args) all typed =
        let callee = typed.1 in
        call_given (nat_lt depth 1024) (function_place x.program.functions name.name) (args_of env args) ty (attr_of_call x.program.functions name.name)
        (callee.0, (callee.1.0, args_fit x.program K zero_fits g env callee.0.params args all typed.0 callee.1.1), callee.2)
    op_fits k depth env (op.Host ty name args) all typed = ((ty, refl, typed.1), nth_fits env args 0 all typed.0, nth_fits env args 1 all typed.0)
    op_fits k depth env (op.Spawn name args) all typed = let callee = typed.1 in ((name.name, refl, refl), (callee.0, (callee.1.0, args_fit x.program K zero_fits g env callee.0.params args all typed.0 callee.1.1)))
    op_fits k depth env (op.Join ty at h) all typed =
        let number : ℕ = (value_in env h.name).value in
        let kind : ℕ = function_place x.program.functions typed.0 in
        let runs : K kind number = all h.name (handle typed.0) typed.1 in
        let same : number % 2 ^ 32 ≡ number = mod_same number (small kind number runs) in
        (refl, (kind, subst (K kind) (sym same) runs, typed.2))
