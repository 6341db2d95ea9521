-- Registers of their types, through definitions, arguments and results.
use Rattle.std.proofs.Common.{◌≡◌, ℕ, ◌^◌, ◌<◌, List, [], ◌∷◌, Option, Some, None, Bool, true, false, if◌then◌else◌, refl, sym, ◌∙◌, subst}
use Rattle.std.specs.Str.{bytes_eq}
use Rattle.std.specs.Cmp.Lexicographic.{bytes_decides}
use Rattle.std.proofs.lemmas.Nat.{pow_pos}
use Rattle.history.specs.declared.ask.Arg.{Arg}
use Rattle.bsan_ids.specs.declared.numbers.Prov.{Prov}
use Rattle.ir_ast.specs.Tokens.{Each}
use Rattle.ir_ast.specs.declared.program.Function.{Function}
use Rattle.ir_ast.specs.declared.program.Named.{Named}
use Rattle.ir_ast.specs.declared.program.Param.{Param}
use Rattle.ir_ast.specs.declared.program.TypedVal.{TypedVal}
use Rattle.ir_ast.specs.declared.program.Val.{Val}
use Rattle.ir_ast.specs.declared.program.Val.TheVariants.{Reg, Num}
use Rattle.ir_ast.specs.declared.types.Ty.{Ty}
use Rattle.ir_ast.specs.declared.types.Ty.TheVariants.{Int, Ptr}
use Rattle.ir_rules.specs.Occurrences.{Holds, function_events}
use Rattle.ir_rules.specs.Occurrences.Holds.{value, handle}
use Rattle.ir_rules.specs.Rules.{held, param_types, arg_types}
use Rattle.thread_parts.specs.Words.{blank, plain_arg, prov_at, arg_at}
use Rattle.ir_ast.specs.Words.{word_bits}
use Rattle.source_sem.specs.Env.{Env, value_in, with_value, operand, arg_of, args_of, bind, put_some}
use Rattle.source_sem.proofs.Writes.{value_in-with_value}
use Rattle.ir_ast.specs.Numbers.{function_place}
use Rattle.thread_parts.specs.Fits.{ValueFits}
use Rattle.ir_ast.specs.declared.program.Program.{Program}
use Rattle.source_sem.specs.Typing.{DestHolds, OperandTyped, ArgTyped, ParamTyped}
use Rattle.source_sem.specs.Starting.{ArgsFit}
use Rattle.source_runs.specs.Invariant.{HoldsFit, EnvFits}

-- values

prov_none : (ty : Ty) → prov_at ty None ≡ None
prov_none (Int w) = refl
prov_none Ptr = refl

prov_twice : (ty : Ty) (p : Option Prov) → prov_at ty (prov_at ty p) ≡ prov_at ty p
prov_twice (Int w) p = refl
prov_twice Ptr p = refl

pub fits_plain : (ty : Ty) (n : ℕ) → n < 2 ^ word_bits ty → ValueFits ty (plain_arg n)
fits_plain ty n less = record { word = less; prov = prov_none ty }

pub fits_at : (ty : Ty) (n : ℕ) (p : Option Prov) → n < 2 ^ word_bits ty → ValueFits ty (record { value = n; prov = prov_at ty p })
fits_at ty n p less = record { word = less; prov = prov_twice ty p }

pub fits_ptr : (n : ℕ) (p : Option Prov) → n < 2 ^ 64 → ValueFits Ptr (record { value = n; prov = p })
fits_ptr n p less = record { word = less; prov = refl }

pub fits_arg : (ty : Ty) (v : Arg) → v.value < 2 ^ word_bits ty → ValueFits ty (arg_at ty v)
fits_arg ty v less = fits_at ty v.value v.prov less

pub fits_blank : (ty : Ty) → ValueFits ty blank
fits_blank ty = fits_plain ty 0 (pow_pos (word_bits ty))

-- what is given for a destination

abbrev pub GivenFits : Program → (ℕ → ℕ → Type 0) → Option Holds → Arg → Type 0
GivenFits P K None v = Unit {0}
GivenFits P K (Some h) v = HoldsFit P K h v

abbrev pub MayGive : Program → (ℕ → ℕ → Type 0) → Option Holds → Option Arg → Type 0
MayGive P K h None = Unit {0}
MayGive P K h (Some v) = GivenFits P K h v

arg_by : (Q : Arg → Type 0) (b : Bool) (v w : Arg) → (b ≡ true → Q v) → Q w → Q (if b then v else w)
arg_by Q true v w one two = one refl
arg_by Q false v w one two = two

module _ (P : Program) (K : ℕ → ℕ → Type 0) (zero_fits : (k : ℕ) → K k 0) (g : Function) where
  pub env_put : (env : Env) (r : List ℕ) (h : Option Holds) (v : Arg) → held (function_events g) r ≡ h → GivenFits P K h v → EnvFits P K g env → EnvFits P K g (with_value r v env)
  env_put env r h v is fits all q k typed =
      subst (HoldsFit P K k) (sym (value_in-with_value env r v q))
      (arg_by (HoldsFit P K k) (bytes_eq r q) v (value_in env q)
      (λ same. subst (λ z. GivenFits P K z v) (sym is ∙ subst (λ z. held (function_events g) z ≡ Some k) (sym ((bytes_decides r q).0 same)) typed) fits) (all q k typed))

  pub env_dest : (env : Env) (dest : Option Named) (h : Option Holds) (v : Option Arg) → DestHolds g dest h → MayGive P K h v → EnvFits P K g env → EnvFits P K g (put_some dest v env)
  env_dest env dest h None is fits all = all
  env_dest env None h (Some v) is fits all = all
  env_dest env (Some n) h (Some v) is fits all = env_put env n.name h v (is n refl) fits all

  pub env_empty : EnvFits P K g []
  env_empty r (value ty) typed = fits_blank ty
  env_empty r (handle name) typed = zero_fits (function_place P.functions name)

  pub env_bind : (ps : List Param) (args : List Arg) (env : Env) → Each (ParamTyped g) ps → ArgsFit ps args → EnvFits P K g env → EnvFits P K g (bind ps args env)
  env_bind [] args env typed fits all = all
  env_bind (p ∷ ps) [] env typed fits all = absurd fits
  env_bind (p ∷ ps) (a ∷ args) env typed fits all =
      env_bind ps args (with_value p.reg.name (arg_at p.ty a) env) typed.1 fits.1 (env_put env p.reg.name (Some (value p.ty)) (arg_at p.ty a) typed.0 (fits_arg p.ty a fits.0.word) all)

  -- operands

  pub operand_fits : (env : Env) (ty : Ty) (v : Val) → EnvFits P K g env → OperandTyped g ty v → (operand env v).value < 2 ^ word_bits ty
  operand_fits env ty (Reg r) all typed = (all r.name (value ty) typed).word
  operand_fits env (Int w) (Num n) all typed = typed
  operand_fits env Ptr (Num n) all typed = absurd typed

  pub arg_fits : (env : Env) (v : TypedVal) → EnvFits P K g env → ArgTyped g v → ValueFits v.ty (arg_of env v)
  arg_fits env v all typed = fits_arg v.ty (operand env v.val) (operand_fits env v.ty v.val all typed)

  pub args_fit : (env : Env) (ps : List Param) (vs : List TypedVal) → EnvFits P K g env → Each (ArgTyped g) vs → param_types ps ≡ arg_types vs → ArgsFit ps (args_of env vs)
  args_fit env [] [] all typed same = tt
  args_fit env [] (v ∷ vs) all typed same = cc
  args_fit env (p ∷ ps) [] all typed same = cc
  args_fit env (p ∷ ps) (v ∷ vs) all typed same =
      let one : p.ty ≡ v.ty = head_same same in
      let rest : param_types ps ≡ arg_types vs = tail_same same in
      (subst (λ t. ValueFits t (arg_of env v)) (sym one) (arg_fits env v all typed.0), args_fit env ps vs all typed.1 rest)
    where
      head_same : {a b : Ty} {xs ys : List Ty} → a ∷ xs ≡ b ∷ ys → a ≡ b
      head_same h = cc

      tail_same : {a b : Ty} {xs ys : List Ty} → a ∷ xs ≡ b ∷ ys → xs ≡ ys
      tail_same h = cc
