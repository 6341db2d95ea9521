-- Each test decides what its rule asks.
use Rattle.std.proofs.Common.{◌≡◌, ℕ, zero, suc, Bool, true, false, cond, ◌&&◌, nat_eq, List, [], ◌∷◌, length, Option, Some, None, refl, sym, ap, subst, ◌∙◌, arith}
use Rattle.std.specs.Prelude.{Decides, slice_get, codes}
use Rattle.std.specs.Option.{option_map}
use Rattle.std.specs.Str.{bytes_eq}
use Rattle.std.specs.Cmp.Lexicographic.{bytes_decides}
use Rattle.std.proofs.lemmas.Bool.{eqb-true, eq-eqb, ne_eqb, ltb-true, lt-ltb}
use Rattle.std.proofs.lemmas.Bool.Decides.{Decides-and, Decides-at}
use Rattle.ir_ast.specs.Tokens.{Each}
use Rattle.ir_ast.specs.declared.types.Ty.{Ty}
use Rattle.ir_ast.specs.declared.types.Ty.TheVariants.{Int, Ptr}
use Rattle.ir_ast.specs.declared.types.Width.{Width}
use Rattle.ir_ast.specs.declared.types.Width.TheVariants.{W8, W16, W32, W64}
use Rattle.ir_ast.specs.declared.operators.CastOp.{CastOp}
use Rattle.ir_ast.specs.declared.operators.CastOp.TheVariants.{Zext, Sext, Trunc}
use Rattle.ir_ast.specs.declared.program.TypedVal.{TypedVal}
use Rattle.ir_ast.specs.declared.program.Goal.{Goal}
use Rattle.ir_ast.specs.declared.program.Block.{Block}
use Rattle.ir_ast.specs.declared.program.Function.{Function}
use Rattle.ir_ast.specs.declared.hosts.HostEntry.{HostEntry}
use Rattle.ir_rules.specs.Paths.{first_named, place_named, label_place}
use Rattle.ir_ast.specs.Words.{bits}
use Rattle.ir_rules.specs.Rules.{function_named, block_named, param_types, arg_types, IsConversion, IsHostType, IsFirstBlock, CallFits, SpawnFits, HostFits, GoalFits, HasMain}
use Rattle.ir_rules.specs.Walk.{same_ty}
use Rattle.ir_rules.proofs.Places.{place_next}
use Rattle.ir_rules.proofs.Uses.{ty_decides}
use Rattle.ir_rules.specs.Checks.{same_types, same_result, takes, call_fits, spawn_fits, is_host_type, all_host_types, host_fits, is_conversion, takes_at, fits_at, goal_fits, is_main}

pair_decides : (t u : Ty) (ts us : List Ty) (b : Bool) → Decides b (t ≡ u) → Decides (same_types ts us) (ts ≡ us) → Decides (cond b (same_types ts us) false) ((let z : List Ty = t ∷ ts in z) ≡ u ∷ us)
pair_decides t u ts us true one more = (λ e. ap (λ (z : Ty). z ∷ ts) (one.0 refl) ∙ ap (λ (z : List Ty). u ∷ z) (more.0 e), λ e. more.1 cc)
pair_decides t u ts us false one more = (λ e. absurd cc, λ e. one.1 cc)

pub types_decide : (ts us : List Ty) → Decides (same_types ts us) (ts ≡ us)
types_decide [] [] = (λ e. refl, λ e. refl)
types_decide [] (u ∷ us) = (λ e. absurd cc, λ e. absurd cc)
types_decide (t ∷ ts) [] = (λ e. absurd cc, λ e. absurd cc)
types_decide (t ∷ ts) (u ∷ us) = pair_decides t u ts us (same_ty t u) (ty_decides t u) (types_decide ts us)

pub result_decides : (a b : Option Ty) → Decides (same_result a b) (a ≡ b)
result_decides None None = (λ e. refl, λ e. refl)
result_decides None (Some u) = (λ e. absurd cc, λ e. absurd cc)
result_decides (Some t) None = (λ e. absurd cc, λ e. absurd cc)
result_decides (Some t) (Some u) = (λ e. ap (λ (z : Ty). let o : Option Ty = Some z in o) ((ty_decides t u).0 e), λ e. (ty_decides t u).1 cc)

pub call_decides : (args : List TypedVal) (result : Option Ty) (f : Function) → Decides (call_fits args result f) (CallFits args result f)
call_decides args result f = Decides-and (takes f.params args) (same_result f.result.ty result) (types_decide (param_types f.params) (arg_types args)) (result_decides f.result.ty result)

pub spawn_decides : (args : List TypedVal) (f : Function) → Decides (spawn_fits args f) (SpawnFits args f)
spawn_decides args f = types_decide (param_types f.params) (arg_types args)

pub host_type_decides : (t : Ty) → Decides (is_host_type t) (IsHostType t)
host_type_decides (Int W8) = (λ e. absurd cc, λ h. absurd h)
host_type_decides (Int W16) = (λ e. absurd cc, λ h. absurd h)
host_type_decides (Int W32) = (λ e. absurd cc, λ h. absurd h)
host_type_decides (Int W64) = (λ e. tt, λ h. refl)
host_type_decides Ptr = (λ e. tt, λ h. refl)

one_more : (b c : Bool) (P Q : Type 0) → Decides b P → Decides c Q → Decides (cond b c false) (P × Q)
one_more true c P Q p q = (λ e. (p.0 refl, q.0 e), λ h. q.1 h.1)
one_more false c P Q p q = (λ e. absurd cc, λ h. p.1 h.0)

pub host_types_decide : (args : List TypedVal) → Decides (all_host_types args) (Each IsHostType (arg_types args))
host_types_decide [] = (λ e. tt, λ h. refl)
host_types_decide (arg ∷ args) = one_more (is_host_type arg.ty) (all_host_types args) (IsHostType arg.ty) (Each IsHostType (arg_types args)) (host_type_decides arg.ty) (host_types_decide args)

three : (a b c : Bool) (P Q R : Type 0) → Decides a P → Decides b Q → Decides c R → Decides (a && (b && c)) (P × Q × R)
three true b c P Q R p q r = let d = Decides-and b c q r in (λ e. let h = d.0 e in (p.0 refl, h.0, h.1), λ h. d.1 (h.1, h.2))
three false b c P Q R p q r = (λ e. absurd cc, λ h. p.1 h.0)

pub host_decides : (args : List TypedVal) (result : Ty) (e : HostEntry) → Decides (host_fits args result e) (HostFits args result e)
host_decides args result e = three (nat_eq e.arity (length args)) (all_host_types args) (is_host_type result) (e.arity ≡ length args) (Each IsHostType (arg_types args)) (IsHostType result)
    (eqb-true e.arity (length args), eq-eqb e.arity (length args)) (host_types_decide args) (host_type_decides result)

pub conversion_decides : (op : CastOp) (from to : Width) → Decides (is_conversion op from to) (IsConversion op from to)
conversion_decides Zext from to = (ltb-true (bits from) (bits to), lt-ltb (bits from) (bits to))
conversion_decides Sext from to = (ltb-true (bits from) (bits to), lt-ltb (bits from) (bits to))
conversion_decides Trunc from to = (ltb-true (bits to) (bits from), lt-ltb (bits to) (bits from))

-- ---- what stands at the place of a name
abbrev pub at_place : {A : Type 0} → List A → Option ℕ → Option A
at_place xs None = None
at_place xs (Some n) = slice_get xs n

at_next : {A : Type 0} (x : A) (xs : List A) (o : Option ℕ) → at_place (x ∷ xs) (option_map suc o) ≡ at_place xs o
at_next x xs None = refl
at_next x xs (Some n) = refl

named_pick : {A : Type 0} (x : A) (xs : List A) (b : Bool) (first : Option A) (place : Option ℕ) → first ≡ at_place xs place → cond b (Some x) first ≡ at_place (x ∷ xs) (cond b (Some 0) (option_map suc place))
named_pick x xs true first place e = refl
named_pick x xs false first place e = e ∙ sym (at_next x xs place)

pub named_at : {A : Type 0} (named : A → List ℕ) (xs : List A) (q : List ℕ) → first_named named xs q ≡ at_place xs (place_named named xs q)
named_at named [] q = refl
named_at named (x ∷ xs) q = named_pick x xs (bytes_eq q (named x)) (first_named named xs q) (place_named named xs q) (named_at named xs q) ∙ ap (at_place (x ∷ xs)) (sym (place_next named x xs q))

never_zero : (o : Option ℕ) → option_map suc o ≡ Some 0 → ⊥
never_zero None e = absurd cc
never_zero (Some n) e = absurd cc

pub first_place : (blocks : List Block) (label : List ℕ) → IsFirstBlock blocks label → label_place blocks label ≡ Some 0
first_place [] label h = absurd h
first_place (b ∷ blocks) label h = place_next (λ (z : Block). z.label.name) b blocks label ∙ ap (λ (z : Bool). cond z (Some 0) (option_map suc (label_place blocks label))) ((bytes_decides label b.label.name).1 h)

place_first : (blocks : List Block) (label : List ℕ) → label_place blocks label ≡ Some 0 → IsFirstBlock blocks label
place_first [] label e = absurd cc
place_first (b ∷ blocks) label e = by (bytes_eq label b.label.name) refl (sym (place_next (λ (z : Block). z.label.name) b blocks label) ∙ e)
  where
    by : (t : Bool) → bytes_eq label b.label.name ≡ t → cond t (Some 0) (option_map suc (label_place blocks label)) ≡ Some 0 → label ≡ b.label.name
    by true same h = (bytes_decides label b.label.name).0 same
    by false same h = absurd (never_zero (label_place blocks label) h)

goal_by : (blocks : List Block) (g : Goal) (place : Option ℕ) → label_place blocks g.label.name ≡ place → block_named blocks g.label.name ≡ at_place blocks place → Decides (fits_at blocks place g.args) (GoalFits blocks g)
goal_by blocks g None e found = (λ t. absurd cc, λ fits. let z : (let o : Option Block = None in o) ≡ Some fits.0 = sym found ∙ fits.1 in absurd cc)
goal_by blocks g (Some zero) e found = (λ t. absurd cc, λ fits. absurd (fits.3 (place_first blocks g.label.name e)))
goal_by blocks g (Some (suc n)) e found = Decides-at (fits_at blocks (Some (suc n)) g.args) (takes_at (slice_get blocks (suc n)) g.args) later (by (slice_get blocks (suc n)) found)
  where
    later : fits_at blocks (Some (suc n)) g.args ≡ takes_at (slice_get blocks (suc n)) g.args
    later = ap (λ (z : Bool). cond z false (takes_at (slice_get blocks (suc n)) g.args)) (ne_eqb (suc n) 0 (λ e. absurd (omega (arith, e))))

    not_first : IsFirstBlock blocks g.label.name → ⊥
    not_first h = let z : (let o : Option ℕ = Some (suc n) in o) ≡ Some 0 = sym e ∙ first_place blocks g.label.name h in absurd cc

    by : (o : Option Block) → block_named blocks g.label.name ≡ o → Decides (takes_at o g.args) (GoalFits blocks g)
    by None is = (λ t. absurd cc, λ fits. let z : (let o : Option Block = None in o) ≡ Some fits.0 = sym is ∙ fits.1 in absurd cc)
    by (Some b) is =
        let d = types_decide (param_types b.params) (arg_types g.args) in
        (λ t. (b, is, d.0 t, not_first), λ fits. d.1 (let z : (let o : Option Block = Some b in o) ≡ Some fits.0 = sym is ∙ fits.1 in let same : b ≡ fits.0 = cc in ap (λ (z : Block). param_types z.params) same ∙ fits.2))

pub goal_decides : (blocks : List Block) (g : Goal) → Decides (goal_fits blocks g) (GoalFits blocks g)
goal_decides blocks g = goal_by blocks g (label_place blocks g.label.name) refl (named_at (λ b. b.label.name) blocks g.label.name)

pub empty_decides : {A : Type 0} (xs : List A) → Decides (nat_eq (length xs) 0) (xs ≡ [])
empty_decides [] = (λ e. refl, λ e. refl)
empty_decides (x ∷ xs) = (λ e. absurd (omega (arith, eqb-true (length (x ∷ xs)) 0 e)), λ e. absurd cc)

main_by : (fs : List Function) (found : Option Function) → function_named fs (codes "main") ≡ found → Decides (is_main found) (HasMain fs)
main_by fs None e = (λ t. absurd cc, λ m. let z : (let o : Option Function = None in o) ≡ Some m.0 = sym e ∙ m.1 in absurd cc)
main_by fs (Some f) e =
    let d = Decides-and (nat_eq (length f.params) 0) (same_result f.result.ty (Some (Int W64))) (empty_decides f.params) (result_decides f.result.ty (Some (Int W64))) in
    (λ t. let h = d.0 t in (f, e, h.0, h.1), λ m. let z : (let o : Option Function = Some m.0 in o) ≡ Some f = sym m.1 ∙ e in let same : m.0 ≡ f = cc in d.1 (subst (λ (z : Function). (z.params ≡ []) × (z.result.ty ≡ Some (Int W64))) same (m.2, m.3)))

pub main_decides : (fs : List Function) → Decides (is_main (function_named fs (codes "main"))) (HasMain fs)
main_decides fs = main_by fs (function_named fs (codes "main")) refl
