-- The generated program is accepted.
use Rattle.std.proofs.Common.{◌≡◌, ℕ, zero, suc, ◌%◌, Bool, true, false, List, [], ◌∷◌, ◌++◌, map, refl, subst, ◌∙◌, arith}
use Rattle.std.specs.Prelude.{codes, Some, Contains, ◌&&◌, ◌==◌, if◌then◌else◌}
use Rattle.std.specs.List.{flat_map, list_all}
use Rattle.ir_ast.specs.declared.hosts.HostTable.{HostTable}
use Rattle.ir_ast.specs.declared.types.Ty.TheVariants.{Ptr}
use Rattle.ir_ast.specs.declared.program.Op.{Op}
use Rattle.ir_ast.specs.declared.program.Inst.{Inst}
use Rattle.ir_ast.specs.declared.program.Function.{Function}
use Rattle.ir_rules.specs.declared.rule.Wanted.TheVariants.{AValue}
use Rattle.ir_rules.specs.Occurrences.{Event, inst_events, function_events}
use Rattle.ir_rules.specs.Occurrences.Holds.{value}
use Rattle.ir_rules.specs.Occurrences.Event.{defines}
use Rattle.ir_rules.specs.Rules.{held, IsAccepted}
use Rattle.workload.specs.Made.{named, word, reg, pointer, store, totals, worker, main, functions_of, made}
use Rattle.workload.proofs.Straight.{is_straight, use_fits, op_fits, IsStraight, straight_accepted}

-- the pointers that a worker has when it stores
abbrev pointers : List Event
pointers =
    defines (named (codes "p0")) (value Ptr) ∷ defines (named (codes "p1")) (value Ptr) ∷ defines (named (codes "p2")) (value Ptr) ∷ defines (named (codes "p3")) (value Ptr) ∷ []

pointer_known_by : (a b c : Bool) → use_fits (held pointers (if a then codes "p0" else (if b then codes "p1" else (if c then codes "p2" else codes "p3")))) (AValue Ptr) ≡ true
pointer_known_by true b c = refl
pointer_known_by false true c = refl
pointer_known_by false false true = refl
pointer_known_by false false false = refl

pointer_known : (d : ℕ) → use_fits (held pointers (pointer d)) (AValue Ptr) ≡ true
pointer_known d = pointer_known_by (d % 4 == 0) (d % 4 == 1) (d % 4 == 2)

and_true : (a b : Bool) → a ≡ true → (a && b) ≡ b
and_true true b h = refl
and_true false b h = absurd cc

stores_straight : (ds : List ℕ) (rest : List Inst) (t u : List Event)
    → is_straight pointers ((flat_map inst_events (map store ds ++ rest) ++ t) ++ u) ≡ is_straight pointers ((flat_map inst_events rest ++ t) ++ u)
stores_straight [] rest t u = refl
stores_straight (d ∷ ds) rest t u =
    and_true (use_fits (held pointers (pointer d)) (AValue Ptr)) (is_straight pointers ((flat_map inst_events (map store ds ++ rest) ++ t) ++ u)) (pointer_known d) ∙ stores_straight ds rest t u

worker_straight : (name : List ℕ) (ds : List ℕ) → is_straight [] (function_events (worker name ds)) ≡ true
worker_straight name ds = stores_straight ds totals _ _

stores_fit : (fs : List Function) (es : List Event) (ds : List ℕ) (rest : List Inst) (u : List Op)
    → list_all (op_fits fs es) (map (λ i. i.op) (map store ds ++ rest) ++ u) ≡ list_all (op_fits fs es) (map (λ i. i.op) rest ++ u)
stores_fit fs es [] rest u = refl
stores_fit fs es (d ∷ ds) rest u = stores_fit fs es ds rest u

worker_is : (fs : List Function) (name : List ℕ) (ds : List ℕ) → IsStraight fs (worker name ds)
worker_is fs name ds = record {
  block = _;
  one = refl;
  no_params = refl;
  val = Some (record { ty = word; val = reg (codes "s3") });
  ty_at = 0;
  returns = refl;
  result = refl;
  straight = worker_straight name ds;
  fits = stores_fit fs (function_events (worker name ds)) ds totals [];
}

main_is : (a b c d : List ℕ) → IsStraight (functions_of a b c d) main
main_is a b c d = record {
  block = _;
  one = refl;
  no_params = refl;
  val = _;
  ty_at = 0;
  returns = refl;
  result = refl;
  straight = refl;
  fits = refl;
}

each_is : (a b c d : List ℕ) (f : Function) → Contains (functions_of a b c d) f → IsStraight (functions_of a b c d) f
each_is a b c d f (zero, lt, is) = subst (λ (g : Function). IsStraight (functions_of a b c d) g) is (worker_is (functions_of a b c d) (codes "w0") a)
each_is a b c d f (suc zero, lt, is) = subst (λ (g : Function). IsStraight (functions_of a b c d) g) is (worker_is (functions_of a b c d) (codes "w1") b)
each_is a b c d f (suc (suc zero), lt, is) = subst (λ (g : Function). IsStraight (functions_of a b c d) g) is (worker_is (functions_of a b c d) (codes "w2") c)
each_is a b c d f (suc (suc (suc zero)), lt, is) = subst (λ (g : Function). IsStraight (functions_of a b c d) g) is (worker_is (functions_of a b c d) (codes "w3") d)
each_is a b c d f (suc (suc (suc (suc zero))), lt, is) = subst (λ (g : Function). IsStraight (functions_of a b c d) g) is (main_is a b c d)
each_is a b c d f (suc (suc (suc (suc (suc k)))), lt, is) = absurd (omega (arith, lt))

pub accepted : (seed size : ℕ) (hosts : HostTable) → IsAccepted (made seed size) hosts
accepted seed size hosts =
    straight_accepted (made seed size) hosts (each_is _ _ _ _) refl (main, refl, refl, refl)
