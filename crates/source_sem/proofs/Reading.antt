-- Registers, parts and requests without provenance.
use Rattle.std.proofs.Common.{◌≡◌, ℕ, zero, suc, ◌*◌, ◌%◌, ◌^◌, List, [], ◌∷◌, ◌++◌, Option, Some, None, Bool, true, false, refl, sym, ap, ◌∙◌, subst, if◌then◌else◌}
use Rattle.std.specs.Str.{bytes_eq}
use Rattle.std.proofs.lemmas.Slice.Eq.{bytes_eq-Decides}
use Rattle.history.specs.declared.ask.Arg.{Arg}
use Rattle.history.specs.declared.ask.Ask.{Ask}
use Rattle.history.specs.declared.ask.Ask.TheVariants as ask
use Rattle.history.specs.Pieces.{Byte}
use Rattle.history.specs.declared.entry.Entry.{Entry}
use Rattle.history.specs.declared.entry.Plain.{Plain}
use Rattle.history.specs.declared.entry.Plain.TheVariants as plain
use Rattle.ir_ast.specs.declared.types.Place.{Place}
use Rattle.ir_ast.specs.declared.types.Place.TheVariants.{Stack, Heap}
use Rattle.bsan_ids.specs.declared.numbers.Prov.{Prov}
use Rattle.history.specs.declared.entry.Reply.{Reply}
use Rattle.history.specs.declared.entry.Request.{Request}
use Rattle.history.specs.declared.entry.Request.TheVariants as request
use Rattle.perm_table.specs.declared.RetagKind.{RetagKind}
use Rattle.ir_ast.specs.declared.types.Ty.{Ty}
use Rattle.ir_ast.specs.declared.types.Width.{Width}
use Rattle.ir_ast.specs.declared.types.Ty.TheVariants.{Int, Ptr}
use Rattle.ir_ast.specs.declared.types.Attr.{Attr}
use Rattle.ir_ast.specs.declared.operators.CastOp.{CastOp}
use Rattle.ir_ast.specs.declared.operators.Cond.{Cond}
use Rattle.ir_ast.specs.declared.program.Named.{Named}
use Rattle.ir_ast.specs.declared.program.Op.{Op}
use Rattle.ir_ast.specs.declared.program.Op.TheVariants as op
use Rattle.ir_ast.specs.declared.program.Param.{Param}
use Rattle.ir_ast.specs.declared.program.TypedVal.{TypedVal}
use Rattle.ir_ast.specs.declared.program.Val.{Val}
use Rattle.ir_ast.specs.declared.program.Val.TheVariants.{Reg, Num}
use Rattle.runs.specs.Parts.{Answers, IsOnNumber}
use Rattle.history.specs.Replies.{trap_of}
use Rattle.thread_parts.specs.Words.{blank, plain_arg, prov_at, at_width, arg_at, cut_at, number_at, number_in}
use Rattle.runs.specs.Erasure.{erased_request, erased_entry, erased_plain, erased_reply, without_fragments}
use Rattle.ir_ast.specs.Words.{bits}
use Rattle.source_sem.specs.Env.{Env, value_in, operand, arg_of, args_of, with_value, bind, put_some}
use Rattle.ir_ast.specs.Arithmetic.{Worked, word, div_zero, shift_too_far, worked}
use Rattle.thread_parts.specs.Parts.{Step, Access, Gives, Steps, Makes, Accesses, Prints, Hosts, Spawns, Loads, Stores, Modifies, Compares, Frees, access_request, step_ask, step_started, step_result, access_result, moved, worked_part, binary_part, compared, chosen, cast_arg, input_arg, make_by, make_part, makes_step, retag_part, copy_by, copy_part, call_part, nth_value, host_part, join_part}
use Rattle.thread_parts.specs.Owned.{Made, Owned, step_owned, with_stack}
use Rattle.thread_parts.specs.Copies.{Progress, copy_ask, copy_ask_by, copy_after, copied_of}
use Rattle.std.specs.Prelude.{nat_lt}
use Rattle.source_sem.proofs.Writes.{same_name, value_in-with_value}
use Rattle.ir_ast.specs.Numbers.{function_place, place}
use Rattle.ir_ast.specs.Attributes.{attr_of_call}
use Rattle.source_sem.specs.Source.{handle_attr, Setting, op_part, plain_setting, has_step, to_retag}
use Rattle.source_sem.specs.Plain.{erased_arg, erased_args, Reads, erased_half, erased_progress, erased_made, erased_stack, erased_owned, erased_ask, erased_access, erased_step, erased_option, plain_part}

pub ap2 : {A B C : Type 0} (f : A → B → C) {a b : A} {c d : B} → a ≡ b → c ≡ d → f a c ≡ f b d
ap2 f {a} {b} {c} {d} p q = ap (λ z. f z c) p ∙ ap (f b) q

pub prov_none : (ty : Ty) → prov_at ty None ≡ None
prov_none (Int w) = refl
prov_none Ptr = refl

pub bytes_eq_same : (r : List ℕ) → bytes_eq r r ≡ true
bytes_eq_same r = (bytes_eq-Decides r r).1 refl

-- reads and writes

pub arg_at_erased : (ty : Ty) (a : Arg) → arg_at ty (erased_arg a) ≡ erased_arg (arg_at ty a)
arg_at_erased (Int w) a = refl
arg_at_erased Ptr a = refl

cut_at_erased : (ty : Ty) (a : Arg) → cut_at ty (erased_arg a) ≡ erased_arg (cut_at ty a)
cut_at_erased (Int w) a = refl
cut_at_erased Ptr a = refl

if_erased : (b : Bool) (v w : Arg) (u : Arg) → u ≡ erased_arg w → (if b then erased_arg v else u) ≡ erased_arg (if b then v else w)
if_erased true v w u e = refl
if_erased false v w u e = e

pub reads_put : (env bare : Env) (r : List ℕ) (v : Arg) → Reads env bare → Reads (with_value r v env) (with_value r (erased_arg v) bare)
reads_put env bare r v reads q = value_in-with_value bare r (erased_arg v) q ∙ if_erased (bytes_eq r q) v (value_in env q) (value_in bare q) (reads q) ∙ ap erased_arg (sym (value_in-with_value env r v q))

over_by : (b : Bool) (r q : List ℕ) (env bare : Env) (v : Arg) → bytes_eq r q ≡ b → Reads env bare → value_in bare r ≡ erased_arg v → value_in bare q ≡ erased_arg (if b then v else value_in env q)
over_by true r q env bare v e reads h = ap (value_in bare) (sym (same_name r q e)) ∙ h
over_by false r q env bare v e reads h = reads q

-- a write of the same word with another provenance
pub reads_over : (env bare : Env) (r : List ℕ) (v : Arg) → Reads env bare → value_in bare r ≡ erased_arg v → Reads (with_value r v env) bare
reads_over env bare r v reads h q = over_by (bytes_eq r q) r q env bare v refl reads h ∙ ap erased_arg (sym (value_in-with_value env r v q))

pub reads_some : (env bare : Env) (dest : Option Named) (v : Option Arg) → Reads env bare → Reads (put_some dest v env) (put_some dest (erased_option v) bare)
reads_some env bare dest None reads = reads
reads_some env bare None (Some v) reads = reads
reads_some env bare (Some r) (Some v) reads = reads_put env bare r.name v reads

pub read_operand : (env bare : Env) → Reads env bare → (v : Val) → operand bare v ≡ erased_arg (operand env v)
read_operand env bare reads (Reg r) = reads r.name
read_operand env bare reads (Num n) = refl

pub read_arg : (env bare : Env) → Reads env bare → (v : TypedVal) → arg_of bare v ≡ erased_arg (arg_of env v)
read_arg env bare reads v = ap (arg_at v.ty) (read_operand env bare reads v.val) ∙ arg_at_erased v.ty (operand env v.val)

pub read_args : (env bare : Env) → Reads env bare → (vs : List TypedVal) → args_of bare vs ≡ erased_args (args_of env vs)
read_args env bare reads [] = refl
read_args env bare reads (v ∷ vs) = ap2 (λ a b. a ∷ b) (read_arg env bare reads v) (read_args env bare reads vs)

pub reads_bind : (ps : List Param) (vs : List Arg) (env bare : Env) → Reads env bare → Reads (bind ps vs env) (bind ps (erased_args vs) bare)
reads_bind [] vs env bare reads = reads
reads_bind (p ∷ ps) [] env bare reads = reads_bind ps [] (with_value p.reg.name blank env) (with_value p.reg.name blank bare) (reads_put env bare p.reg.name blank reads)
reads_bind (p ∷ ps) (v ∷ vs) env bare reads =
    subst (λ z. Reads (bind ps vs (with_value p.reg.name (arg_at p.ty v) env)) (bind ps (erased_args vs) (with_value p.reg.name z bare))) (sym (arg_at_erased p.ty v))
    (reads_bind ps vs (with_value p.reg.name (arg_at p.ty v) env) (with_value p.reg.name (erased_arg (arg_at p.ty v)) bare) (reads_put env bare p.reg.name (arg_at p.ty v) reads))

-- what an instruction does

worked_plain : (n : Worked) → worked_part n ≡ plain_part (worked_part n)
worked_plain (word n) = refl
worked_plain div_zero = refl
worked_plain shift_too_far = refl

compared_plain : (c : Cond) (ty : Ty) (a b : Arg) → compared c ty (erased_arg a) (erased_arg b) ≡ erased_arg (compared c ty a b)
compared_plain c ty a b = refl

cast_plain : (c : CastOp) (v w : Width) (a : Arg) → cast_arg c v w (erased_arg a) ≡ erased_arg (cast_arg c v w a)
cast_plain c v w a = refl

chosen_plain : (n : ℕ) (a b : Arg) → chosen n (erased_arg a) (erased_arg b) ≡ erased_arg (chosen n a b)
chosen_plain zero a b = refl
chosen_plain (suc n) a b = refl

make_plain : (b : Bool) (place : Place) (n : ℕ) → make_by b place n ≡ plain_part (make_by b place n)
make_plain true place n = refl
make_plain false place n = refl

copy_plain : (b : Bool) (d s : Arg) (n : ℕ) → copy_by b (erased_arg d) (erased_arg s) n ≡ plain_part (copy_by b d s n)
copy_plain true d s n = refl
copy_plain false d s n = refl

call_plain : (b : Bool) (k : ℕ) (vs : List Arg) (ty : Option Ty) (attr : Option Attr) → call_part b k (erased_args vs) ty attr ≡ plain_part (call_part b k vs ty attr)
call_plain true k vs ty attr = refl
call_plain false k vs ty attr = refl

retag_plain : (b : Bool) (p : Arg) (kind : RetagKind) (n : ℕ) → Gives (Some (erased_arg p)) ≡ plain_part (retag_part b p kind n)
retag_plain true p kind n = refl
retag_plain false p kind n = refl

nth_plain : (vs : List Arg) (k : ℕ) → nth_value (erased_args vs) k ≡ nth_value vs k
nth_plain [] k = refl
nth_plain (v ∷ vs) zero = refl
nth_plain (v ∷ vs) (suc k) = nth_plain vs k

pub part_alike : (x : Setting) (k depth : ℕ) (env bare : Env) → Reads env bare → (o : Op) → op_part (plain_setting x) k depth bare o ≡ plain_part (op_part x k depth env o)
part_alike x k depth env bare reads (op.Const w v) = refl
part_alike x k depth env bare reads op.Null = refl
part_alike x k depth env bare reads (op.Make place size) = ap (make_part x.program.version place) (read_operand env bare reads size) ∙ make_plain _ place _
part_alike x k depth env bare reads (op.Gep p v) = ap2 (λ a b. Gives (Some (moved a b))) (reads p.name) (read_operand env bare reads v)
part_alike x k depth env bare reads (op.Load ty p) = ap (λ a. Steps (Accesses a (Loads ty))) (reads p.name)
part_alike x k depth env bare reads (op.Store ty v p) = ap2 (λ a b. Steps (Accesses a (Stores ty b))) (reads p.name) (read_operand env bare reads v)
part_alike x k depth env bare reads (op.Retag kind p n) = ap (λ a. Gives (Some a)) (reads p.name) ∙ retag_plain (makes_step x.tracked n) (value_in env p.name) kind n
part_alike x k depth env bare reads (op.Binary o w a b) = ap2 (binary_part o w) (read_operand env bare reads a) (read_operand env bare reads b) ∙ worked_plain (worked o _ _ _)
part_alike x k depth env bare reads (op.Compare c ty a b) =
    ap2 (λ u v. Gives (Some (compared c ty u v))) (read_operand env bare reads a) (read_operand env bare reads b) ∙ ap (λ z. Gives (Some z)) (compared_plain c ty (operand env a) (operand env b))
part_alike x k depth env bare reads (op.Select ty c a b) =
    ap2 (λ u v. Gives (Some (cut_at ty (chosen (operand bare c).value u v)))) (read_operand env bare reads a) (read_operand env bare reads b)
    ∙ ap (λ n. Gives (Some (cut_at ty (chosen n (erased_arg (operand env a)) (erased_arg (operand env b)))))) (ap (λ z. z.value) (read_operand env bare reads c))
    ∙ ap (λ z. Gives (Some (cut_at ty z))) (chosen_plain (operand env c).value (operand env a) (operand env b))
    ∙ ap (λ z. Gives (Some z)) (cut_at_erased ty (chosen (operand env c).value (operand env a) (operand env b)))
part_alike x k depth env bare reads (op.Cast o v w a to_at) = ap (λ z. Gives (Some (cast_arg o v w z))) (read_operand env bare reads a) ∙ ap (λ z. Gives (Some z)) (cast_plain o v w (operand env a))
part_alike x k depth env bare reads (op.PtrToInt p) = ap (λ z. Gives (Some (plain_arg z.value))) (reads p.name)
part_alike x k depth env bare reads (op.Input v) = ap (λ z. Gives (Some (input_arg x.input z))) (read_operand env bare reads v)
part_alike x k depth env bare reads (op.Modify o w p v) = ap2 (λ a b. Steps (Accesses a (Modifies w o b.value))) (reads p.name) (read_operand env bare reads v)
part_alike x k depth env bare reads (op.CmpXchg w p e v) =
    ap2 (λ a b. Steps (Accesses a (Compares w b.value (operand bare v).value))) (reads p.name) (read_operand env bare reads e)
    ∙ ap (λ b. Steps (Accesses (erased_arg (value_in env p.name)) (Compares w (operand env e).value b.value))) (read_operand env bare reads v)
part_alike x k depth env bare reads (op.Copy d s v) =
    ap2 (λ a b. copy_part a b (operand bare v)) (reads d.name) (reads s.name)
    ∙ ap (copy_part (erased_arg (value_in env d.name)) (erased_arg (value_in env s.name))) (read_operand env bare reads v)
    ∙ copy_plain _ (value_in env d.name) (value_in env s.name) _
part_alike x k depth env bare reads (op.Free p) = ap (λ a. Steps (Accesses a Frees)) (reads p.name)
part_alike x k depth env bare reads (op.Print w v) = ap (λ a. Steps (Prints (a.value % 2 ^ bits w))) (read_operand env bare reads v)
part_alike x k depth env bare reads (op.Call ty name args) = ap (λ z. call_part (nat_lt depth 1024) (function_place x.program.functions name.name) z ty (attr_of_call x.program.functions name.name)) (read_args env bare reads args) ∙ call_plain (nat_lt depth 1024) (function_place x.program.functions name.name) (args_of env args) ty (attr_of_call x.program.functions name.name)
part_alike x k depth env bare reads (op.Host ty name args) =
    ap (host_part (place x.hosts name.name)) (read_args env bare reads args) ∙ ap2 (λ a b. Steps (Hosts (place x.hosts name.name) a b)) (nth_plain (args_of env args) 0) (nth_plain (args_of env args) 1)
part_alike x k depth env bare reads (op.Spawn name args) = ap (λ z. Steps (Spawns (function_place x.program.functions name.name) z)) (read_args env bare reads args)
part_alike x k depth env bare reads (op.Join ty at h) = ap (λ z. join_part z ty (handle_attr x.program.functions k h.name)) (reads h.name)

-- requests

request_erased : (at : ℕ) (prov : Option Prov) (a : Access) → access_request at None (erased_access a) ≡ erased_request (access_request at prov a)
request_erased at prov (Loads ty) = refl
request_erased at prov (Stores ty v) = ap (λ z. request.Store at ty (at_width ty v.value) z None) (prov_none ty)
request_erased at prov (Modifies w o v) = refl
request_erased at prov (Compares w e v) = refl
request_erased at prov Frees = refl

pub step_ask_erased : (s : Step) → step_ask (erased_step s) ≡ erased_ask (step_ask s)
step_ask_erased (Makes n place) = refl
step_ask_erased (Accesses p a) = ap (λ r. ask.At (number_at p.value) r) (request_erased (p.value % 2 ^ 32) p.prov a)
step_ask_erased (Prints v) = refl
step_ask_erased (Hosts n a b) = refl
step_ask_erased (Spawns k vs) = refl

copy_by_erased : (d s : Arg) (n k : ℕ) (half : Option (List Byte)) → copy_ask_by (erased_arg d) (erased_arg s) n k (erased_half half) ≡ erased_ask (copy_ask_by d s n k half)
copy_by_erased d s n k None = refl
copy_by_erased d s n k (Some piece) = refl

pub copy_ask_erased : (d s : Arg) (n : ℕ) (pr : Progress) → copy_ask (erased_arg d) (erased_arg s) n (erased_progress pr) ≡ erased_ask (copy_ask d s n pr)
copy_ask_erased d s n pr = copy_by_erased d s n pr.pieces pr.half

on_number_erased : (r : Request) → IsOnNumber r → IsOnNumber (erased_request r)
on_number_erased (request.Load at ty prov) h = h
on_number_erased (request.Store at ty value carried prov) h = h
on_number_erased (request.Modify at width o value prov) h = h
on_number_erased (request.CmpXchg at width expected value prov) h = h
on_number_erased (request.CopyOut at len prov) h = h
on_number_erased (request.CopyIn at piece prov) h = h
on_number_erased (request.Free at stack prov) h = h
on_number_erased (request.Retag at len kind guard prov) h = h
on_number_erased (request.EndProtector tag) h = h
on_number_erased (request.Make size place) h = absurd h
on_number_erased (request.Print v) h = absurd h
on_number_erased (request.Host n a b) h = absurd h
on_number_erased (request.Spawn f) h = absurd h
on_number_erased (request.Join c) h = absurd h

pub answers_erased : (a : Ask) (e : Entry) → Answers a e → Answers (erased_ask a) (erased_entry e)
answers_erased ask.Turn e h = absurd h
answers_erased (ask.Ended why) e h = absurd h
answers_erased (ask.Make size place) e h = ap erased_request h
answers_erased (ask.At a r) e h = (ap erased_request h.0, h.1, on_number_erased r h.2)
answers_erased (ask.Print v) e h = (ap erased_request h.0, h.1)
answers_erased (ask.Host n a b) e h = (ap erased_request h.0, h.1)
answers_erased (ask.Spawn f) e h = (ap erased_request h.0, h.1)
answers_erased (ask.Join c) e h = (ap erased_request h.0, h.1)

-- replies

pub number_erased : (p : Plain) → number_in (erased_plain p) ≡ number_in p
number_erased (plain.Made a) = refl
number_erased (plain.Value v) = refl
number_erased (plain.Copied piece) = refl
number_erased plain.Done = refl
number_erased (plain.Retagged added) = refl
number_erased (plain.Spawned c) = refl
number_erased (plain.Trapped e) = refl

pub trap_erased : (p : Plain) → trap_of (erased_plain p) ≡ trap_of p
trap_erased (plain.Made a) = refl
trap_erased (plain.Value v) = refl
trap_erased (plain.Copied piece) = refl
trap_erased plain.Done = refl
trap_erased (plain.Retagged added) = refl
trap_erased (plain.Spawned c) = refl
trap_erased (plain.Trapped e) = refl

copied_erased : (p : Plain) → copied_of (erased_plain p) ≡ without_fragments (copied_of p)
copied_erased (plain.Made a) = refl
copied_erased (plain.Value v) = refl
copied_erased (plain.Copied piece) = refl
copied_erased plain.Done = refl
copied_erased (plain.Retagged added) = refl
copied_erased (plain.Spawned c) = refl
copied_erased (plain.Trapped e) = refl

after_by : (k : ℕ) (half : Option (List Byte)) (p : Plain) → copy_after (erased_progress (record { pieces = k; half = half })) (erased_plain p) ≡ erased_progress (copy_after (record { pieces = k; half = half }) p)
after_by k None p = ap (λ z. record { pieces = k; half = Some z }) (copied_erased p)
after_by k (Some piece) p = refl

pub copy_after_erased : (pr : Progress) (p : Plain) → copy_after (erased_progress pr) (erased_plain p) ≡ erased_progress (copy_after pr p)
copy_after_erased pr p = after_by pr.pieces pr.half p

access_result_erased : (a : Access) (r : Reply) → access_result (erased_access a) (erased_reply r) ≡ erased_option (access_result a r)
access_result_erased (Loads ty) r = ap2 (λ n q. Some (record { value = n; prov = q })) (number_erased r.plain) (prov_none ty)
access_result_erased (Stores ty v) r = refl
access_result_erased (Modifies w o v) r = ap (λ n. Some (plain_arg n)) (number_erased r.plain)
access_result_erased (Compares w e v) r = ap (λ n. Some (plain_arg n)) (number_erased r.plain)
access_result_erased Frees r = refl

pub step_result_erased : (s : Step) (r : Reply) → step_result (erased_step s) (erased_reply r) ≡ erased_option (step_result s r)
step_result_erased (Makes n place) r = ap (λ z. Some (plain_arg (z * 2 ^ 32))) (number_erased r.plain)
step_result_erased (Accesses p a) r = access_result_erased a r
step_result_erased (Prints v) r = refl
step_result_erased (Hosts n a b) r = ap (λ z. Some (plain_arg z)) (number_erased r.plain)
step_result_erased (Spawns k vs) r = ap (λ z. Some (plain_arg z)) (number_erased r.plain)

stack_erased : (place : Place) (m : Made) (o : Owned) → with_stack place (erased_made m) (erased_owned o) ≡ erased_owned (with_stack place m o)
stack_erased Heap m o = refl
stack_erased Stack m o = refl

pub step_owned_erased : (s : Step) (r : Reply) (o : Owned) → step_owned (erased_step s) (erased_reply r) (erased_owned o) ≡ erased_owned (step_owned s r o)
step_owned_erased (Makes n place) r o =
    ap (λ z. with_stack place (record { number = record { 0 = z }; prov = None }) (erased_owned o)) (number_erased r.plain)
    ∙ stack_erased place (record { number = record { 0 = number_in r.plain }; prov = r.carried }) o
step_owned_erased (Accesses p a) r o = refl
step_owned_erased (Prints v) r o = refl
step_owned_erased (Hosts n a b) r o = refl
step_owned_erased (Spawns k vs) r o = ap (λ z. record { children = o.children ++ z ∷ []; protectors = []; stack = erased_stack o.stack }) (number_erased r.plain)

pub step_started_erased : (s : Step) (r : Reply) (cs : List ℕ) → step_started (erased_step s) (erased_reply r) cs ≡ step_started s r cs
step_started_erased (Makes n place) r cs = refl
step_started_erased (Accesses p a) r cs = refl
step_started_erased (Prints v) r cs = refl
step_started_erased (Hosts n a b) r cs = refl
step_started_erased (Spawns k vs) r cs = ap (λ z. z ∷ cs) (number_erased r.plain)

-- nothing is retagged at the plain thread's entries
pub none_to_retag : (ps : List Param) → to_retag false ps ≡ []
none_to_retag [] = refl
none_to_retag (p ∷ ps) = skips p.attr (to_retag false ps) (none_to_retag ps)
  where
    skips : (a : Option Attr) (qs : List Param) → qs ≡ [] → (if has_step false a then p ∷ qs else qs) ≡ []
    skips None qs e = e
    skips (Some a) qs e = e
