-- What the search finds are the uses of which the rule speaks.
use Rattle.std.proofs.Common.{◌≡◌, ℕ, zero, suc, ◌+◌, ◌<◌, ◌≤◌, ◌⊎◌, inl, inr, Bool, true, false, cond, List, [], ◌∷◌, length, map, drop, get_or, replicate, Option, Some, None, refl, sym, ap, subst, ◌∙◌, arith}
use Rattle.std.specs.Prelude.{slice_get, Contains, Result, Ok, Err, IfOk}
use Rattle.std.specs.Str.{bytes_eq}
use Rattle.std.specs.Cmp.Lexicographic.{bytes_decides}
use Rattle.ir_ast.specs.declared.program.Block.{Block}
use Rattle.ir_ast.specs.declared.program.Param.{Param}
use Rattle.ir_ast.specs.declared.program.Function.{Function}
use Rattle.ir_ast.specs.declared.program.Program.{Program}
use Rattle.ir_rules.specs.declared.rule.Fault.{Fault}
use Rattle.ir_rules.specs.declared.rule.Rule.TheVariants.{Unassigned}
use Rattle.ir_rules.specs.Occurrences.{Holds, Use, Event, block_events, param_event, function_events}
use Rattle.ir_rules.specs.Occurrences.Event.{defines, uses}
use Rattle.ir_rules.specs.Paths.{Avoids, IsPath, IsUnassigned}
use Rattle.ir_rules.specs.Rules.{held, UnassignedFault}
use Rattle.ir_rules.specs.Least.{fault, IsLeast, AnyOf}
use Rattle.ir_rules.proofs.Least.{least-same}
use Rattle.flow_paths.specs.Paths.{IsMarked, Answers}
use Rattle.ir_assigned.specs.declared.mentions.Mention.{Mention}
use Rattle.ir_assigned.specs.Graph.{assigns, successors}
use Rattle.ir_assigned.specs.Mentions.{mentions_from, defined, scan, Found}
use Rattle.ir_assigned.specs.Faults.{RegisterFault, EventFault, FunctionFault}
use Rattle.ir_assigned.proofs.Ways.{map_at, at_map, length_map, avoids_if, if_avoids, same_paths, early_uses, IsGraphOf, early}
use Rattle.ir_assigned.proofs.Firsts.{In, contains_in, in_contains}
use Rattle.ir_rules.proofs.Any.{any-cons, cons-any, none_in}
use Rattle.ir_assigned.proofs.Scan.{faults_from, defined_all, scan_all, in_faults, faults_in}

map_map : (r : List ℕ) (blocks : List Block) → map (assigns r) (map block_events blocks) ≡ map (λ b. assigns r (block_events b)) blocks
map_map r [] = refl
map_map r (b ∷ blocks) = ap (λ (z : List Bool). assigns r (block_events b) ∷ z) (map_map r blocks)

-- ---- one register that no parameter defines
to_register : (f : Function) (r : List ℕ) (graph : List (List ℕ)) (stops entered : List Bool) → IsGraphOf f r graph stops → Answers graph stops entered → Avoids r (map param_event f.params)
    → (x : Fault) → In (faults_from entered r 0 (map block_events f.blocks)) x → RegisterFault f r x
to_register f r graph stops entered is answers entry x h =
    let m = in_faults entered r 0 (map block_events f.blocks) x h in
    let u = m.2 in
    let n : 0 + m.0 ≡ m.0 = omega arith in
    let block = map_at block_events f.blocks m.0 m.1 m.3 in
    let early = (early_uses r m.1 u).0 m.5 in
    let path = (same_paths f r graph stops is m.0).0 (answers.only m.0 (subst (IsMarked entered) n m.4)) in (
      u,
      record {
        at_entry = subst (λ (z : List ℕ). Avoids z (map param_event f.params)) early.is_name entry;
        path = path.0;
        last = m.0;
        is_path = subst (λ (z : List ℕ). IsPath f z (m.0 ∷ path.0)) early.is_name path.1;
        block = block.0;
        is_block = block.1;
        before = early.before;
        after = early.after;
        stands = block.2 ∙ early.stands;
        avoids = subst (λ (z : List ℕ). Avoids z early.before) early.is_name early.avoids;
      },
      early.is_name,
      m.6,
    )

from_register : (f : Function) (r : List ℕ) (graph : List (List ℕ)) (stops entered : List Bool) → IsGraphOf f r graph stops → Answers graph stops entered
    → (x : Fault) → RegisterFault f r x → In (faults_from entered r 0 (map block_events f.blocks)) x
from_register f r graph stops entered is answers x m =
    let u = m.0 in
    let un = m.1 in
    let name = m.2 in
    let n : un.last ≡ 0 + un.last = omega arith in
    let reached : IsMarked entered un.last = answers.each un.last ((same_paths f r graph stops is un.last).1 (un.path, subst (λ (z : List ℕ). IsPath f z (un.last ∷ un.path)) (sym name) un.is_path)) in
    let is_early : In (early r (block_events un.block)) u = (early_uses r (block_events un.block) u).1 (record {
      before = un.before;
      after = un.after;
      is_name = name;
      stands = un.stands;
      avoids = subst (λ (z : List ℕ). Avoids z un.before) (sym name) un.avoids;
    }) in
    faults_in entered r 0 (map block_events f.blocks) x un.last (block_events un.block) u (at_map block_events f.blocks un.last un.block un.is_block) (subst (IsMarked entered) n reached) is_early m.3

pub register_found : (f : Function) (r : List ℕ) (graph : List (List ℕ)) (ms : List Mention) (o : Option Fault) → graph ≡ map (successors f.blocks) f.blocks → ms ≡ mentions_from r 0 (map block_events f.blocks)
    → assigns r (map param_event f.params) ≡ false → Found graph ms o → IsLeast (RegisterFault f r) o
register_found f r graph ms o goes mentioned entry found =
    let blocks = map block_events f.blocks in
    let size : length graph ≡ length blocks = ap length goes ∙ length_map (successors f.blocks) f.blocks ∙ sym (length_map block_events f.blocks) in
    let stops : List Bool = defined (replicate (length graph) false) ms in
    let halts : stops ≡ map (λ b. assigns r (block_events b)) f.blocks = ap (λ (n : ℕ). defined (replicate n false) ms) size ∙ ap (defined (replicate (length blocks) false)) mentioned ∙ defined_all r [] blocks ∙ map_map r f.blocks in
    let faults : scan found.entered (replicate (length graph) false) ms ≡ faults_from found.entered r 0 blocks =
    ap (λ (n : ℕ). scan found.entered (replicate n false) ms) size ∙ ap (scan found.entered (replicate (length blocks) false)) mentioned ∙ scan_all found.entered r [] blocks in
    let marked : List Fault = scan found.entered (replicate (length graph) false) ms in
    let is : IsGraphOf f r graph stops = record { goes = goes; halts = halts } in
    least-same (In (faults_from found.entered r 0 blocks)) (RegisterFault f r) o
    (to_register f r graph stops found.entered is found.answers (avoids_if r (map param_event f.params) entry))
    (from_register f r graph stops found.entered is found.answers)
    (subst (λ (z : List Fault). IsLeast (In z) o) faults (least-same (Contains marked) (In marked) o (contains_in marked) (in_contains marked) found.is_least))

-- a parameter is defined at the function's entry
pub param_none : (f : Function) (r : List ℕ) → assigns r (map param_event f.params) ≡ true → IsLeast (RegisterFault f r) None
param_none f r e x m =
    let e2 : assigns r (map param_event f.params) ≡ false = if_avoids r (map param_event f.params) (subst (λ (z : List ℕ). Avoids z (map param_event f.params)) (sym m.2) m.1.at_entry) in
    let z : true ≡ false = sym e ∙ e2 in absurd cc

-- ---- one function: each register that is held is defined somewhere
find_pick : (b : Bool) (f : Function) (q n : List ℕ) (h k : Holds) (o : Option Holds) (es : List Event) (x : Fault) → bytes_eq q n ≡ b → cond b (Some k) o ≡ Some h → RegisterFault f q x
    → (o ≡ Some h → AnyOf (EventFault f) es x) → RegisterFault f n x ⊎ AnyOf (EventFault f) es x
find_pick true f q n h k o es x e is m go = inl (subst (λ (z : List ℕ). RegisterFault f z x) ((bytes_decides q n).0 e) m)
find_pick false f q n h k o es x e is m go = inr (go is)

find_event : (f : Function) (es : List Event) (q : List ℕ) (h : Holds) (x : Fault) → held es q ≡ Some h → RegisterFault f q x → AnyOf (EventFault f) es x
find_event f [] q h x e m = absurd cc
find_event f (uses u ∷ es) q h x e m = any-cons (EventFault f) (uses u) es x (inr (find_event f es q h x e m))
find_event f (defines d k ∷ es) q h x e m = any-cons (EventFault f) (defines d k) es x (find_pick (bytes_eq q d.name) f q d.name h k (held es q) es x refl e m (λ e2. find_event f es q h x e2 m))

held_pick : (b : Bool) (k : Holds) (o : Option Holds) → ((h : Holds) × (o ≡ Some h)) → (h : Holds) × (cond b (Some k) o ≡ Some h)
held_pick true k o m = (k, refl)
held_pick false k o m = m

held_here : (b : Bool) (k : Holds) (o : Option Holds) → b ≡ true → (h : Holds) × (cond b (Some k) o ≡ Some h)
held_here true k o e = (k, refl)
held_here false k o e = absurd cc

of_event : (f : Function) (es : List Event) (x : Fault) → AnyOf (EventFault f) es x → (u : Use) × (h : Holds) × (held es u.reg.name ≡ Some h) × IsUnassigned f u × (fault Unassigned u.reg.at ≡ x)
of_event f [] x a = absurd (none_in a.0 a.1)
of_event f (uses u ∷ es) x a = elim (cons-any (EventFault f) (uses u) es x a) [ inl m ↦ absurd m | inr more ↦ of_event f es x more ]
of_event f (defines d k ∷ es) x a = elim (cons-any (EventFault f) (defines d k) es x a) [
  | inl m ↦
      let h = held_here (bytes_eq m.0.reg.name d.name) k (held es m.0.reg.name) ((bytes_decides m.0.reg.name d.name).1 (sym m.2)) in
      (m.0, h.0, h.1, m.1, m.3)
  | inr more ↦
      let m = of_event f es x more in
      let h = held_pick (bytes_eq m.0.reg.name d.name) k (held es m.0.reg.name) (m.1, m.2) in
      (m.0, h.0, h.1, m.3, m.4)
]

pub function_least : (f : Function) (es : List Event) (o : Option Fault) → es ≡ function_events f → IsLeast (AnyOf (EventFault f) es) o → IsLeast (FunctionFault f) o
function_least f es o e l = least-same (AnyOf (EventFault f) (function_events f)) (FunctionFault f) o
    (of_event f (function_events f))
    (λ x m. find_event f (function_events f) m.0.reg.name m.1 x m.2 (m.0, m.3, refl, m.4))
    (subst (λ (z : List Event). IsLeast (AnyOf (EventFault f) z) o) e l)

-- no path leads into a function without blocks
none_at : (blocks : List Block) (n : ℕ) → blocks ≡ [] → slice_get blocks n ≡ None
none_at [] n e = refl
none_at (b ∷ blocks) n e = absurd cc

pub no_blocks : (f : Function) → f.blocks ≡ [] → IsLeast (FunctionFault f) None
no_blocks f e x m =
    let z : (let o : Option Block = Some m.3.block in o) ≡ None = sym m.3.is_block ∙ none_at f.blocks m.3.last e in
    absurd cc

-- ---- the program
pub program_least : (p : Program) (o : Option Fault) → IsLeast (AnyOf FunctionFault p.functions) o → IsLeast (UnassignedFault p) o
program_least p o l = least-same (AnyOf FunctionFault p.functions) (UnassignedFault p) o
    (λ x a. (a.0, a.2.0, a.2.1, a.1, a.2.2, a.2.3, a.2.4)) (λ x m. (m.0, m.3, (m.1, m.2, m.4, m.5, m.6))) l

-- ---- at the functions' returns
pub if_ok_map : {X E : Type 0} (r : Result X E) (P Q : X → Type 0) → ((x : X) → P x → Q x) → IfOk r P → IfOk r Q
if_ok_map (Ok x) P Q f p = f x p
if_ok_map (Err e) P Q f p = tt

pub some_blocks : (blocks : List Block) → (blocks ≡ [] → ⊥) → 0 < length blocks
some_blocks [] n = absurd (n refl)
some_blocks (b ∷ blocks) n = omega arith

-- ---- a register among the parameters
drop_suc : {A : Type 0} (xs : List A) (i : ℕ) (d : A) → i < length xs → drop i xs ≡ get_or xs i d ∷ drop (suc i) xs
drop_suc [] i d lt = absurd (omega (arith, lt))
drop_suc (x ∷ xs) zero d lt = refl
drop_suc (x ∷ xs) (suc i) d lt = drop_suc xs i d (omega (arith, lt))

drop_end : {A : Type 0} (xs : List A) (n : ℕ) → length xs ≤ n → drop n xs ≡ []
drop_end [] zero le = refl
drop_end [] (suc n) le = refl
drop_end (x ∷ xs) zero le = absurd (omega (arith, le))
drop_end (x ∷ xs) (suc n) le = drop_end xs n (omega (arith, le))

-- one parameter more
pub param_next : (r : List ℕ) (ps : List Param) (i : ℕ) (p : Param) → i < length ps → p ≡ get_or ps i p
    → assigns r (map param_event (drop i ps)) ≡ cond (bytes_eq r p.reg.name) true (assigns r (map param_event (drop (i + 1) ps)))
param_next r ps i p lt is =
    let one : suc i ≡ i + 1 = omega arith in
    ap (λ (z : List Param). assigns r (map param_event z)) (drop_suc ps i p lt)
    ∙ ap (λ (n : ℕ). assigns r (map param_event (get_or ps i p ∷ drop n ps))) one
    ∙ ap (λ (z : Param). assigns r (map param_event (z ∷ drop (i + 1) ps))) (sym is)

pub params_end : (r : List ℕ) (ps : List Param) (n : ℕ) → length ps ≤ n → assigns r (map param_event (drop n ps)) ≡ false
params_end r ps n le = ap (λ (z : List Param). assigns r (map param_event z)) (drop_end ps n le)
