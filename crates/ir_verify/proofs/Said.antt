-- What each check answers is the least fault of its set.
use Rattle.std.proofs.Common.{◌≡◌, ℕ, Bool, true, false, nat_eq, List, [], ◌∷◌, length, Option, Some, None, refl, sym, ap, subst, ◌∙◌}
use Rattle.std.specs.Prelude.{Decides, codes}
use Rattle.ir_ast.specs.declared.types.Ty.{Ty}
use Rattle.ir_ast.specs.declared.operators.CastOp.{CastOp}
use Rattle.ir_ast.specs.declared.program.Named.{Named}
use Rattle.ir_ast.specs.declared.program.TypedVal.{TypedVal}
use Rattle.ir_ast.specs.declared.program.Goal.{Goal}
use Rattle.ir_ast.specs.declared.program.Op.{Op}
use Rattle.ir_ast.specs.declared.program.Op.TheVariants as op
use Rattle.ir_ast.specs.declared.program.Jump.{Jump}
use Rattle.ir_ast.specs.declared.program.Jump.TheVariants.{Br, CondBr, Ret, Unreachable}
use Rattle.ir_ast.specs.declared.program.Block.{Block}
use Rattle.ir_ast.specs.declared.program.Function.{Function}
use Rattle.ir_ast.specs.declared.program.Program.{Program}
use Rattle.ir_ast.specs.declared.hosts.HostEntry.{HostEntry}
use Rattle.ir_rules.specs.declared.rule.Rule.{Rule}
use Rattle.ir_rules.specs.declared.rule.Rule.TheVariants.{Unknown, Twice, TypeClash, Unassigned, BadTarget, BadCall, HandleUse, NoMain}
use Rattle.ir_rules.specs.declared.rule.Fault.{Fault}
use Rattle.ir_rules.specs.Least.{fault, IsLeast}
use Rattle.ir_rules.specs.Occurrences.{Holds, Event}
use Rattle.ir_rules.specs.Occurrences.Holds.{value, handle}
use Rattle.ir_rules.specs.Rules.{held, function_named, host_named, NameBreaks, JoinBreaks, OpBreaks, CallFits, SpawnFits, HostFits, IsConversion, GoalFits, HasMain, ret_type}
use Rattle.ir_rules.proofs.Least.{least-same, same-after}
use Rattle.ir_verify.specs.Faults.{OpFault, RetFault, GoalFault, FirstBlockFault, NoMainFault}
use Rattle.ir_rules.specs.Checks.{unless, call_fits, spawn_fits, host_fits, name_fault, joined, join_fault, is_conversion, same_result, op_fault, ret_fault, goal_fits, goal_fault, first_block_fault, is_main}
use Rattle.ir_rules.proofs.Agree.{call_decides, spawn_decides, host_decides, conversion_decides, result_decides, goal_decides, empty_decides, main_decides}

-- a single fault, where the rule asks for P
abbrev Unless : Type 0 → Fault → Fault → Type 0
Unless P y x = (P → ⊥) × (x ≡ y)

pub least_unless : (P : Type 0) (b : Bool) (y : Fault) → Decides b P → IsLeast (Unless P y) (unless b y)
least_unless P true y d = λ x h. h.0 (d.0 refl)
least_unless P false y d = ((λ p. let e : false ≡ true = d.1 p in absurd cc, refl), λ x h. same-after y x (sym h.1))

-- ---- a name
abbrev Said : {A : Type 0} → (A → Type 0) → Option A → Named → Fault → Type 0
Said Fits None name x = x ≡ fault Unknown name.at
Said Fits (Some found) name x = Unless (Fits found) (fault BadCall name.at) x

name_said : {A : Type 0} (Fits : A → Type 0) (found : Option A) (name : Named) (rule : Rule) (at : ℕ) → NameBreaks Fits found name rule at → Said Fits found name (fault rule at)
name_said Fits None name Unknown at h = ap (fault Unknown) h
name_said Fits None name Twice at h = absurd h
name_said Fits None name TypeClash at h = absurd h
name_said Fits None name Unassigned at h = absurd h
name_said Fits None name BadTarget at h = absurd h
name_said Fits None name BadCall at h = absurd h
name_said Fits None name HandleUse at h = absurd h
name_said Fits None name NoMain at h = absurd h
name_said Fits (Some found) name BadCall at h = (h.1, ap (fault BadCall) h.0)
name_said Fits (Some found) name Unknown at h = absurd h
name_said Fits (Some found) name Twice at h = absurd h
name_said Fits (Some found) name TypeClash at h = absurd h
name_said Fits (Some found) name Unassigned at h = absurd h
name_said Fits (Some found) name BadTarget at h = absurd h
name_said Fits (Some found) name HandleUse at h = absurd h
name_said Fits (Some found) name NoMain at h = absurd h

said_name : {A : Type 0} (Fits : A → Type 0) (found : Option A) (name : Named) (x : Fault) → Said Fits found name x → NameBreaks Fits found name x.rule x.at
said_name Fits None name x e = subst (λ (z : Fault). NameBreaks Fits None name z.rule z.at) (sym e) refl
said_name Fits (Some found) name x h = subst (λ (z : Fault). NameBreaks Fits (Some found) name z.rule z.at) (sym h.1) (refl, h.0)

least_said : {A : Type 0} (Fits : A → Type 0) (fits : A → Bool) → ((a : A) → Decides (fits a) (Fits a)) → (found : Option A) (name : Named) → IsLeast (Said Fits found name) (name_fault fits found name)
least_said Fits fits d None name = (refl, λ x e. same-after (fault Unknown name.at) x (sym e))
least_said Fits fits d (Some found) name = least_unless (Fits found) (fits found) (fault BadCall name.at) (d found)

least_name : {A : Type 0} (Fits : A → Type 0) (fits : A → Bool) → ((a : A) → Decides (fits a) (Fits a)) → (found : Option A) (name : Named) → IsLeast (λ x. NameBreaks Fits found name x.rule x.at) (name_fault fits found name)
least_name Fits fits d found name = least-same (Said Fits found name) (λ x. NameBreaks Fits found name x.rule x.at) (name_fault fits found name)
    (said_name Fits found name) (λ x h. name_said Fits found name x.rule x.at h) (least_said Fits fits d found name)

-- ---- a join
abbrev JoinSaid : Option Function → Option Ty → ℕ → Fault → Type 0
JoinSaid None result ty_at x = ⊥
JoinSaid (Some f) result ty_at x = Unless (f.result.ty ≡ result) (fault BadCall ty_at) x

handle_said : (f : List ℕ) (fs : List Function) (found : Option Function) → function_named fs f ≡ found → (result : Option Ty) (ty_at : ℕ) (rule : Rule) (at : ℕ) → JoinBreaks (Some (handle f)) fs result ty_at rule at
    → JoinSaid found result ty_at (fault rule at)
handle_said f fs None e result ty_at BadCall at h = let z : (let o : Option Function = None in o) ≡ Some h.0 = sym e ∙ h.1 in absurd cc
handle_said f fs (Some g) e result ty_at BadCall at h = let z : (let o : Option Function = Some h.0 in o) ≡ Some g = sym h.1 ∙ e in let same : h.0 ≡ g = cc in (λ p. h.3 (ap (λ (z : Function). z.result.ty) same ∙ p), ap (fault BadCall) h.2)
handle_said f fs found e result ty_at Unknown at h = absurd h
handle_said f fs found e result ty_at Twice at h = absurd h
handle_said f fs found e result ty_at TypeClash at h = absurd h
handle_said f fs found e result ty_at Unassigned at h = absurd h
handle_said f fs found e result ty_at BadTarget at h = absurd h
handle_said f fs found e result ty_at HandleUse at h = absurd h
handle_said f fs found e result ty_at NoMain at h = absurd h

said_handle : (f : List ℕ) (fs : List Function) (found : Option Function) → function_named fs f ≡ found → (result : Option Ty) (ty_at : ℕ) (x : Fault) → JoinSaid found result ty_at x → JoinBreaks (Some (handle f)) fs result ty_at x.rule x.at
said_handle f fs None e result ty_at x h = absurd h
said_handle f fs (Some g) e result ty_at x h = subst (λ (z : Fault). JoinBreaks (Some (handle f)) fs result ty_at z.rule z.at) (sym h.1) (g, e, refl, h.0)

least_join_said : (found : Option Function) (result : Option Ty) (ty_at : ℕ) → IsLeast (JoinSaid found result ty_at) (join_fault found result ty_at)
least_join_said None result ty_at = λ x h. h
least_join_said (Some f) result ty_at = least_unless (f.result.ty ≡ result) (same_result f.result.ty result) (fault BadCall ty_at) (result_decides f.result.ty result)

least_join : (holds : Option Holds) (fs : List Function) (result : Option Ty) (ty_at : ℕ) → IsLeast (λ x. JoinBreaks holds fs result ty_at x.rule x.at) (join_fault (joined fs holds) result ty_at)
least_join None fs result ty_at = λ x h. h
least_join (Some (value t)) fs result ty_at = λ x h. h
least_join (Some (handle f)) fs result ty_at = least-same (JoinSaid (function_named fs f) result ty_at) (λ x. JoinBreaks (Some (handle f)) fs result ty_at x.rule x.at) (join_fault (function_named fs f) result ty_at)
    (said_handle f fs (function_named fs f) refl result ty_at) (λ x h. handle_said f fs (function_named fs f) refl result ty_at x.rule x.at h) (least_join_said (function_named fs f) result ty_at)

-- ---- an operation
cast_said : (fs : List Function) (hosts : List HostEntry) (es : List Event) (o : CastOp) (from to : _) (v : _) (to_at : ℕ) (rule : Rule) (at : ℕ) → OpBreaks fs hosts es (op.Cast o from to v to_at) rule at
    → Unless (IsConversion o from to) (fault TypeClash to_at) (fault rule at)
cast_said fs hosts es o from to v to_at TypeClash at h = (h.1, ap (fault TypeClash) h.0)
cast_said fs hosts es o from to v to_at Unknown at h = absurd h
cast_said fs hosts es o from to v to_at Twice at h = absurd h
cast_said fs hosts es o from to v to_at Unassigned at h = absurd h
cast_said fs hosts es o from to v to_at BadTarget at h = absurd h
cast_said fs hosts es o from to v to_at BadCall at h = absurd h
cast_said fs hosts es o from to v to_at HandleUse at h = absurd h
cast_said fs hosts es o from to v to_at NoMain at h = absurd h

least_cast : (fs : List Function) (hosts : List HostEntry) (es : List Event) (o : CastOp) (from to : _) (v : _) (to_at : ℕ) → IsLeast (OpFault fs hosts es (op.Cast o from to v to_at)) (unless (is_conversion o from to) (fault TypeClash to_at))
least_cast fs hosts es o from to v to_at = least-same (Unless (IsConversion o from to) (fault TypeClash to_at)) (OpFault fs hosts es (op.Cast o from to v to_at)) (unless (is_conversion o from to) (fault TypeClash to_at))
    (λ x h. subst (λ (z : Fault). OpFault fs hosts es (op.Cast o from to v to_at) z) (sym h.1) (refl, h.0)) (λ x h. cast_said fs hosts es o from to v to_at x.rule x.at h)
    (least_unless (IsConversion o from to) (is_conversion o from to) (fault TypeClash to_at) (conversion_decides o from to))

pub least_op : (fs : List Function) (hosts : List HostEntry) (es : List Event) (look : List ℕ → Option Holds) → ((q : List ℕ) → look q ≡ held es q) → (o : Op) → IsLeast (OpFault fs hosts es o) (op_fault fs hosts look o)
least_op fs hosts es look same (op.Call result f args) = least_name (CallFits args result) (call_fits args result) (call_decides args result) (function_named fs f.name) f
least_op fs hosts es look same (op.Spawn f args) = least_name (SpawnFits args) (spawn_fits args) (spawn_decides args) (function_named fs f.name) f
least_op fs hosts es look same (op.Host result h args) = least_name (HostFits args result) (host_fits args result) (host_decides args result) (host_named hosts h.name) h
least_op fs hosts es look same (op.Join result ty_at h) =
    subst (λ (z : Option Holds). IsLeast (OpFault fs hosts es (op.Join result ty_at h)) (join_fault (joined fs z) result ty_at)) (sym (same h.name)) (least_join (held es h.name) fs result ty_at)
least_op fs hosts es look same (op.Cast o from to v to_at) = least_cast fs hosts es o from to v to_at
least_op fs hosts es look same (op.Const width n) = λ x h. h
least_op fs hosts es look same op.Null = λ x h. h
least_op fs hosts es look same (op.Make place size) = λ x h. h
least_op fs hosts es look same (op.Gep p n) = λ x h. h
least_op fs hosts es look same (op.Load ty p) = λ x h. h
least_op fs hosts es look same (op.Store ty v p) = λ x h. h
least_op fs hosts es look same (op.Retag kind p size) = λ x h. h
least_op fs hosts es look same (op.Binary o w a b) = λ x h. h
least_op fs hosts es look same (op.Compare c ty a b) = λ x h. h
least_op fs hosts es look same (op.Select ty c a b) = λ x h. h
least_op fs hosts es look same (op.PtrToInt p) = λ x h. h
least_op fs hosts es look same (op.Input n) = λ x h. h
least_op fs hosts es look same (op.Modify o w p v) = λ x h. h
least_op fs hosts es look same (op.CmpXchg w p e v) = λ x h. h
least_op fs hosts es look same (op.Copy to from n) = λ x h. h
least_op fs hosts es look same (op.Free p) = λ x h. h
least_op fs hosts es look same (op.Print w v) = λ x h. h

-- ---- terminators, the first block, main
ret_said : (result : Option Ty) (v : Option TypedVal) (ty_at : ℕ) (x : Fault) → RetFault result (Ret v ty_at) x → Unless (ret_type v ≡ result) (fault TypeClash ty_at) x
ret_said result v ty_at x h = (h.1.1, ap (λ (r : Rule). fault r x.at) h.0 ∙ ap (fault TypeClash) h.1.0)

pub least_ret : (result : Option Ty) (jump : Jump) → IsLeast (RetFault result jump) (ret_fault result jump)
least_ret result (Br g) = λ x h. h.1
least_ret result (CondBr c y n) = λ x h. h.1
least_ret result Unreachable = λ x h. h.1
least_ret result (Ret v ty_at) = least-same (Unless (ret_type v ≡ result) (fault TypeClash ty_at)) (RetFault result (Ret v ty_at)) (unless (same_result (ret_type v) result) (fault TypeClash ty_at))
    (λ x h. (ap (λ (z : Fault). z.rule) h.1, (ap (λ (z : Fault). z.at) h.1, h.0))) (ret_said result v ty_at)
    (least_unless (ret_type v ≡ result) (same_result (ret_type v) result) (fault TypeClash ty_at) (result_decides (ret_type v) result))

pub least_goal : (blocks : List Block) (g : Goal) → IsLeast (GoalFault blocks g) (goal_fault blocks g)
least_goal blocks g = least_unless (GoalFits blocks g) (goal_fits blocks g) (fault BadTarget g.label.at) (goal_decides blocks g)

first_said : (b : Block) (rest : List Block) (x : Fault) → FirstBlockFault (b ∷ rest) x → Unless (b.params ≡ []) (fault BadTarget b.label.at) x
first_said b rest x h = let z : (let bs : List Block = b ∷ rest in bs) ≡ h.0 ∷ h.1 = h.2 in let same : b ≡ h.0 = cc in (λ e. h.3 (sym (ap (λ (z : Block). z.params) same) ∙ e), h.4 ∙ ap (λ (z : Block). fault BadTarget z.label.at) (sym same))

pub least_first : (blocks : List Block) → IsLeast (FirstBlockFault blocks) (first_block_fault blocks)
least_first [] = λ x h. absurd cc
least_first (b ∷ rest) = least-same (Unless (b.params ≡ []) (fault BadTarget b.label.at)) (FirstBlockFault (b ∷ rest)) (unless (nat_eq (length b.params) 0) (fault BadTarget b.label.at))
    (λ x h. (b, rest, refl, h.0, h.1)) (first_said b rest) (least_unless (b.params ≡ []) (nat_eq (length b.params) 0) (fault BadTarget b.label.at) (empty_decides b.params))

pub least_main : (p : Program) → IsLeast (NoMainFault p) (unless (is_main (function_named p.functions (codes "main"))) (fault NoMain p.end))
least_main p = least_unless (HasMain p.functions) (is_main (function_named p.functions (codes "main"))) (fault NoMain p.end) (main_decides p.functions)
