-- Where no rule is broken, a program is typed.
use Rattle.std.proofs.Common.{◌≡◌, ℕ, ◌+◌, ◌≤◌, ◌⊎◌, inl, inr, List, [], ◌∷◌, ◌++◌, map, Option, Some, None, Bool, true, false, if◌then◌else◌, refl, sym, ap, ◌∙◌, subst, arith}
use Rattle.std.specs.Prelude.{slice_get, Contains}
use Rattle.std.specs.List.{flat_map}
use Rattle.std.specs.Str.{bytes_eq}
use Rattle.std.proofs.lemmas.Bool.{true≢false}
use Rattle.std.proofs.lemmas.Bool.Decides.{leb_tells}
use Rattle.ir_ast.specs.Tokens.{Each}
use Rattle.ir_ast.specs.Programs.{IsProgram, CanStand}
use Rattle.ir_ast.specs.Grammar.{val_token}
use Rattle.ir_ast.specs.Shapes.{IsVal, IsTyped, IsGoal, IsOp, FitsDestination, IsInst, IsJump, IsBlock, IsFunction}
use Rattle.ir_ast.specs.declared.hosts.HostTable.{HostTable}
use Rattle.ir_ast.specs.declared.program.Block.{Block}
use Rattle.ir_ast.specs.declared.program.Function.{Function}
use Rattle.ir_ast.specs.declared.program.Goal.{Goal}
use Rattle.ir_ast.specs.declared.program.Inst.{Inst}
use Rattle.ir_ast.specs.declared.program.Jump.{Jump}
use Rattle.ir_ast.specs.declared.program.Jump.TheVariants as jump
use Rattle.ir_ast.specs.declared.program.Named.{Named}
use Rattle.ir_ast.specs.declared.program.Op.{Op}
use Rattle.ir_ast.specs.declared.program.Op.TheVariants as op
use Rattle.ir_ast.specs.declared.program.Param.{Param}
use Rattle.ir_ast.specs.declared.program.Program.{Program}
use Rattle.ir_ast.specs.declared.program.TypedVal.{TypedVal}
use Rattle.ir_ast.specs.declared.program.Val.{Val}
use Rattle.ir_ast.specs.declared.program.Val.TheVariants.{Reg, Num}
use Rattle.ir_ast.specs.declared.types.Ty.{Ty}
use Rattle.ir_ast.specs.declared.types.Ty.TheVariants.{Int, Ptr}
use Rattle.ir_ast.specs.declared.types.Width.TheVariants.{W8, W16, W32, W64}
use Rattle.ir_rules.specs.declared.rule.Rule.{Rule}
use Rattle.ir_rules.specs.declared.rule.Rule.TheVariants.{Unknown, Twice, TypeClash, BadTarget, BadCall, HandleUse}
use Rattle.ir_rules.specs.declared.rule.Wanted.{Wanted}
use Rattle.ir_rules.specs.declared.rule.Wanted.TheVariants.{AValue, AHandle}
use Rattle.ir_rules.specs.Occurrences.{Holds, Use, Event, param_event, op_gives, op_uses, val_uses, typed_uses, goal_uses, jump_uses, jump_goals, dest_events, inst_events, block_events, function_events}
use Rattle.ir_rules.specs.Occurrences.Holds.{value, handle}
use Rattle.ir_rules.specs.Occurrences.Event.{defines, uses}
use Rattle.ir_rules.specs.Rules.{held, used, UseBreaks, NameBreaks, CallFits, SpawnFits, HostFits, IsHostType, GoalFits, RetBreaks, JoinBreaks, OpBreaks, IsAccepted, function_named, host_named, function_ops, param_types, arg_types}
use Rattle.ir_rules.specs.Rules.Broken.{of_use, of_op, of_ret, of_goal, twice_register}
use Rattle.ir_ast.specs.Words.{word_bits}
use Rattle.ir_ast.specs.Numbers.{block_place, function_place}
use Rattle.runs.specs.Parts.{Has}
use Rattle.source_sem.proofs.Events.{defines_gives}
use Rattle.source_sem.proofs.Reading.{bytes_eq_same}
use Rattle.source_sem.specs.Joining.{IsHeld, IsWanted}
use Rattle.source_sem.proofs.JoinNames.{hit, times, second_of}
use Rattle.source_sem.specs.Typing.{DestHolds, OperandTyped, ArgTyped, ParamTyped, Callee, OpTyped, InstTyped, GoalTyped, JumpTyped, BlockTyped, FunctionTyped, ProgramTyped}
use Rattle.source_sem.proofs.Every.{in_contains, each_from, each_left, each_right, each_map, each_all, each_both}
use Rattle.source_sem.proofs.Numbers.{ValStands, OpStands, InstStands, JumpStands, BlockStands, FunctionStands, args_stand, goal_args_stand, program_stands, number_fits}
use Rattle.source_sem.proofs.Deciding.{type_decided, option_decided, list_decided, function_found, block_found, function_names}

-- events -----------------------------------------------------------------------------

abbrev UseHeld : Function → Use → Type 0
UseHeld g u = IsHeld g (uses u)

uses_defines : {B : Type 0} {u : Use} {d : Named} {h : Holds} → uses u ≡ defines d h → B
uses_defines e = cc

defines_uses : {B : Type 0} {u : Use} {d : Named} {h : Holds} → defines d h ≡ uses u → B
defines_uses e = cc

same_use : {u v : Use} → uses u ≡ uses v → u ≡ v
same_use e = cc

same_named : {c d : Named} {k h : Holds} → defines c k ≡ defines d h → c ≡ d
same_named e = cc

same_holds : {c d : Named} {k h : Holds} → defines c k ≡ defines d h → k ≡ h
same_holds e = cc

times_in : (d : Named) (h : Holds) (es : List Event) → Has es (defines d h) → 1 ≤ times d.name es
times_in d h [] i = absurd i
times_in d h (uses u ∷ es) (inl e) = uses_defines e
times_in d h (uses u ∷ es) (inr i) = times_in d h es i
times_in d h (defines c k ∷ es) (inr i) = let more = times_in d h es i in omega (arith, more)
times_in d h (defines c k ∷ es) (inl e) =
    let same : bytes_eq d.name c.name ≡ true = subst (λ (z : Named). bytes_eq d.name z.name ≡ true) (sym (same_named e)) (bytes_eq_same d.name) in
    let one : hit (bytes_eq d.name c.name) ≡ 1 = ap hit same in omega (arith, one)

held_in : (d : Named) (h : Holds) (es : List Event) → Has es (defines d h) → times d.name es ≤ 1 → held es d.name ≡ Some h
held_in d h [] i one = absurd i
held_in d h (uses u ∷ es) (inl e) one = uses_defines e
held_in d h (uses u ∷ es) (inr i) one = held_in d h es i one
held_in d h (defines c k ∷ es) i one = by_test (bytes_eq d.name c.name) refl i one (held_in d h es)
  where
    by_test : (b : Bool) → bytes_eq d.name c.name ≡ b → (defines c k ≡ defines d h) ⊎ Has es (defines d h) → hit b + times d.name es ≤ 1 → (Has es (defines d h) → times d.name es ≤ 1 → held es d.name ≡ Some h)
        → (if b then Some k else held es d.name) ≡ Some h
    by_test true t (inl e) less more = ap (λ z. Some z) (same_holds e)
    by_test true t (inr j) less more = let again = times_in d h es j in absurd (omega (arith, less, again))
    by_test false t (inl e) less more = absurd (true≢false (sym (subst (λ (z : Named). bytes_eq d.name z.name ≡ true) (sym (same_named e)) (bytes_eq_same d.name)) ∙ t))
    by_test false t (inr j) less more = more j (omega (arith, less))

in_used : (u : Use) (es : List Event) → Has es (uses u) → Has (used es) u
in_used u [] i = absurd i
in_used u (defines d h ∷ es) (inl e) = defines_uses e
in_used u (defines d h ∷ es) (inr i) = in_used u es i
in_used u (uses v ∷ es) (inl e) = inl (same_use e)
in_used u (uses v ∷ es) (inr i) = inr (in_used u es i)

-- operations -------------------------------------------------------------------------

pub named_fits : {A : Type 0} (Fits : A → Type 0) (o : Option A) (name : Named) → ((rule : Rule) (at : ℕ) → NameBreaks Fits o name rule at → ⊥) → (a : A) × (o ≡ Some a) × ((Fits a → ⊥) → ⊥)
named_fits Fits None name kept = absurd (kept Unknown name.at refl)
named_fits Fits (Some a) name kept = (a, refl, λ off. kept BadCall name.at (refl, off))

host_word : (ty : Ty) → ((IsHostType ty → ⊥) → ⊥) → word_bits ty ≡ 64
host_word Ptr kept = refl
host_word (Int W64) kept = refl
host_word (Int W8) kept = absurd (kept (λ h. h))
host_word (Int W16) kept = absurd (kept (λ h. h))
host_word (Int W32) kept = absurd (kept (λ h. h))

module _ (g : Function) where
  operand_typed : (ty : Ty) (v : Val) → IsVal ty v → CanStand (val_token ty v) → Each (UseHeld g) (val_uses ty v) → OperandTyped g ty v
  operand_typed ty (Reg r) is stands us = us.0
  operand_typed (Int w) (Num n) is stands us = number_fits w n stands.1
  operand_typed Ptr (Num n) is stands us = absurd is

  args_typed : (vs : List TypedVal) → Each IsTyped vs → Each ValStands vs → Each (UseHeld g) (flat_map typed_uses vs) → Each (ArgTyped g) vs
  args_typed [] is stands us = tt
  args_typed (v ∷ vs) is stands us = (
    operand_typed v.ty v.val is.0 stands.0 (each_left (UseHeld g) (typed_uses v) (flat_map typed_uses vs) us),
    args_typed vs is.1 stands.1 (each_right (UseHeld g) (typed_uses v) (flat_map typed_uses vs) us),
  )

  dest_holds : (dest : Option Named) (o : Op) → FitsDestination dest o → Each (IsHeld g) (dest_events dest (op_gives o)) → DestHolds g dest (op_gives o)
  dest_holds dest o fits events n is = by_gives (defines_gives o (subst (λ d. FitsDestination d o) is fits)) (subst (λ d. Each (IsHeld g) (dest_events d (op_gives o))) is events)
    where
      by_gives : ((h : Holds) × (op_gives o ≡ Some h)) → Each (IsHeld g) (dest_events (Some n) (op_gives o)) → held (function_events g) n.name ≡ op_gives o
      by_gives gives all =
          let some : Each (IsHeld g) (dest_events (Some n) (Some gives.0)) = subst (λ z. Each (IsHeld g) (dest_events (Some n) z)) gives.1 all in
          some.0 ∙ sym gives.1

module _ (p : Program) (hosts : HostTable) (ok : IsAccepted p hosts) (g : Function) (in_p : Contains p.functions g) where
  never_twice : (r : List ℕ) → times r (function_events g) ≤ 1
  never_twice r = elim (leb_tells (times r (function_events g)) 1) [
    | inl less ↦ less.1
    | inr more ↦ (let s = second_of r (function_events g) more.1 in absurd (ok Twice s.0 (twice_register g s.0 in_p s.1)))
  ]

  use_held : (u : Use) → Contains (used (function_events g)) u → UseHeld g u
  use_held u there = by_wanted u.wanted (held (function_events g) u.reg.name) (λ rule breaks. ok rule u.reg.at (of_use g u rule in_p there breaks))
    where
      by_wanted : (w : Wanted) (h : Option Holds) → ((rule : Rule) → UseBreaks rule h w → ⊥) → IsWanted h w
      by_wanted (AValue ty) None kept = absurd (kept Unknown tt)
      by_wanted (AValue ty) (Some (handle f)) kept = absurd (kept HandleUse tt)
      by_wanted (AValue ty) (Some (value t)) kept = elim (type_decided t ty) [
        | inl same ↦ ap (λ z. Some (value z)) same
        | inr other ↦ absurd (kept TypeClash other)
      ]
      by_wanted AHandle None kept = absurd (kept Unknown tt)
      by_wanted AHandle (Some (value t)) kept = absurd (kept HandleUse tt)
      by_wanted AHandle (Some (handle f)) kept = (f, refl)

  pub events_held : Each (IsHeld g) (function_events g)
  events_held = each_from (IsHeld g) (function_events g) by_event
    where
      by_event : (e : Event) → Has (function_events g) e → IsHeld g e
      by_event (defines d h) i = held_in d h (function_events g) i (never_twice d.name)
      by_event (uses u) i = use_held u (in_contains u (used (function_events g)) (in_used u (function_events g) i))

  abbrev pub OpKept : Op → Type 0
  OpKept o = (rule : Rule) (at : ℕ) → OpBreaks p.functions hosts.entries (function_events g) o rule at → ⊥

  pub ops_kept : Each OpKept (function_ops g)
  ops_kept = each_from OpKept (function_ops g) (λ o i rule at breaks. ok rule at (of_op g o rule at in_p (in_contains o (function_ops g) i) breaks))

  callee : (name : Named) (args : List TypedVal) (result : Option Ty) → ((rule : Rule) (at : ℕ) → NameBreaks (CallFits args result) (function_named p.functions name.name) name rule at → ⊥)
      → (f : Function) × Callee p name args f × (f.result.ty ≡ result)
  callee name args result kept =
      let n = named_fits (CallFits args result) (function_named p.functions name.name) name kept in
      let f : Function = n.0 in (
        f,
        (function_found p.functions name.name f n.1, elim (list_decided (param_types f.params) (arg_types args)) [ inl same ↦ same | inr other ↦ absurd (n.2 (λ fits. other fits.0)) ]),
        elim (option_decided f.result.ty result) [ inl same ↦ same | inr other ↦ absurd (n.2 (λ fits. other fits.1)) ],
      )

  spawned : (name : Named) (args : List TypedVal) → ((rule : Rule) (at : ℕ) → NameBreaks (SpawnFits args) (function_named p.functions name.name) name rule at → ⊥) → (f : Function) × Callee p name args f
  spawned name args kept =
      let n = named_fits (SpawnFits args) (function_named p.functions name.name) name kept in
      let f : Function = n.0 in (f, (function_found p.functions name.name f n.1, elim (list_decided (param_types f.params) (arg_types args)) [ inl same ↦ same | inr other ↦ absurd (n.2 (λ fits. other fits)) ]))

  joined : (h : Option Holds) (name : List ℕ) (result : Option Ty) (at : ℕ) → h ≡ Some (handle name) → ((rule : Rule) (place : ℕ) → JoinBreaks h p.functions result at rule place → ⊥)
      → (f : Function) → slice_get p.functions (function_place p.functions name) ≡ Some f → f.result.ty ≡ result
  joined h name result at is kept f found = elim (option_decided f.result.ty result) [
    | inl same ↦ same
    | inr other ↦ absurd (subst (λ (z : Option Holds). (rule : Rule) (place : ℕ) → JoinBreaks z p.functions result at rule place → ⊥) is kept BadCall at (f, function_names p.functions name f found, refl, other))
  ]

  op_typed : (o : Op) → IsOp p.version o → OpStands o → Each (UseHeld g) (op_uses o) → OpKept o → OpTyped p g o
  op_typed (op.Retag kind r n) is stands us kept = us.0
  op_typed (op.PtrToInt r) is stands us kept = us.0
  op_typed (op.Select ty c a b) is stands us kept =
      let front = each_left (UseHeld g) (val_uses (Int W8) c ++ val_uses ty a) (val_uses ty b) us in (
        operand_typed g (Int W8) c is.0 stands.1.0 (each_left (UseHeld g) (val_uses (Int W8) c) (val_uses ty a) front),
        operand_typed g ty a is.1 stands.1.1.1.0 (each_right (UseHeld g) (val_uses (Int W8) c) (val_uses ty a) front),
        operand_typed g ty b is.2 stands.1.1.1.1.1.0 (each_right (UseHeld g) (val_uses (Int W8) c ++ val_uses ty a) (val_uses ty b) us),
      )
  op_typed (op.Call result name args) is stands us kept = (args_typed g args is (args_stand args stands.1.1) us, callee name args result kept)
  op_typed (op.Host result name args) is stands us kept =
      let n = named_fits (HostFits args result) (host_named hosts.entries name.name) name kept in (args_typed g args is (args_stand args stands.1.1) us, host_word result (λ off. n.2 (λ fits. off fits.2)))
  op_typed (op.Spawn name args) is stands us kept = (args_typed g args is (args_stand args stands.1) us, spawned name args kept)
  op_typed (op.Const w n) is stands us kept = tt
  op_typed op.Null is stands us kept = tt
  op_typed (op.Make place size) is stands us kept = tt
  op_typed (op.Gep q n) is stands us kept = tt
  op_typed (op.Load ty q) is stands us kept = tt
  op_typed (op.Store ty v q) is stands us kept = tt
  op_typed (op.Binary o w a b) is stands us kept = tt
  op_typed (op.Compare c ty a b) is stands us kept = tt
  op_typed (op.Cast o from to v at) is stands us kept = tt
  op_typed (op.Input n) is stands us kept = tt
  op_typed (op.Modify o w q v) is stands us kept = tt
  op_typed (op.CmpXchg w q e v) is stands us kept = tt
  op_typed (op.Copy to from n) is stands us kept = tt
  op_typed (op.Free q) is stands us kept = tt
  op_typed (op.Print w v) is stands us kept = tt
  op_typed (op.Join result at h) is stands us kept =
      let name : List ℕ = us.0.0 in (name, us.0.1, joined (held (function_events g) h.name) name result at us.0.1 kept)

  inst_typed : (i : Inst) → IsInst p.version i → InstStands i → Each (IsHeld g) (inst_events i) → OpKept i.op → InstTyped p g i
  inst_typed i is stands events kept =
      let front : List Event = map uses (op_uses i.op) in
      let back : List Event = dest_events i.dest (op_gives i.op) in
      record {
        operands = op_typed i.op is.1 stands (each_map (IsHeld g) uses (op_uses i.op) (each_left (IsHeld g) front back events)) kept;
        dest = dest_holds g i.dest i.op is.0 (each_right (IsHeld g) front back events);
      }

  insts_typed : (is : List Inst) → Each (IsInst p.version) is → Each InstStands is → Each (IsHeld g) (flat_map inst_events is) → Each OpKept (map (λ i. i.op) is) → Each (InstTyped p g) is
  insts_typed [] shaped stands events kept = tt
  insts_typed (i ∷ is) shaped stands events kept = (
    inst_typed i shaped.0 stands.0 (each_left (IsHeld g) (inst_events i) (flat_map inst_events is) events) kept.0,
    insts_typed is shaped.1 stands.1 (each_right (IsHeld g) (inst_events i) (flat_map inst_events is) events) kept.1,
  )

  -- terminators ----------------------------------------------------------------------

  abbrev GoalKept : Goal → Type 0
  GoalKept goal = (GoalFits g.blocks goal → ⊥) → ⊥

  same_block : {a b : Block} → Some a ≡ Some b → a ≡ b
  same_block e = cc

  goal_typed : (goal : Goal) → IsGoal goal → Each ValStands goal.args → Each (UseHeld g) (goal_uses goal) → GoalKept goal → GoalTyped g goal
  goal_typed goal is stands us kept = (args_typed g goal.args is stands us, types)
    where
      types : (b : Block) → slice_get g.blocks (block_place g.blocks goal.label.name) ≡ Some b → param_types b.params ≡ arg_types goal.args
      types b at = elim (list_decided (param_types b.params) (arg_types goal.args)) [
        | inl same ↦ same
        | inr other ↦ absurd (kept (λ fits. other (subst (λ (z : Block). param_types z.params ≡ arg_types goal.args) (same_block (sym (block_found g.blocks goal.label.name fits.0 fits.1) ∙ at)) fits.2)))
      ]

  jump_typed : (j : Jump) → IsJump j → JumpStands j → Each (UseHeld g) (jump_uses j) → Each GoalKept (jump_goals j) → ((at : ℕ) → RetBreaks j g.result.ty at → ⊥) → JumpTyped g j
  jump_typed (jump.Br goal) is stands us goals ret = goal_typed goal is (goal_args_stand goal.args stands.1) us goals.0
  jump_typed (jump.CondBr c first second) is stands us goals ret =
      let front = each_left (UseHeld g) (val_uses (Int W8) c ++ goal_uses first) (goal_uses second) us in
      let one = each_left CanStand (Rattle.ir_ast.specs.Grammar.goal_tokens first) _ stands.1.1 in
      let two = each_right CanStand (Rattle.ir_ast.specs.Grammar.goal_tokens first) _ stands.1.1 in (
        goal_typed first is.1 (goal_args_stand first.args one.1) (each_right (UseHeld g) (val_uses (Int W8) c) (goal_uses first) front) goals.0,
        goal_typed second is.2 (goal_args_stand second.args two.1.1) (each_right (UseHeld g) (val_uses (Int W8) c ++ goal_uses first) (goal_uses second) us) goals.1.0,
      )
  jump_typed (jump.Ret None at) is stands us goals ret = (tt, elim (option_decided None g.result.ty) [ inl same ↦ same | inr other ↦ absurd (ret at (refl, other)) ])
  jump_typed (jump.Ret (Some v) at) is stands us goals ret =
      (operand_typed g v.ty v.val is stands.1.0 us, elim (option_decided (Some v.ty) g.result.ty) [ inl same ↦ same | inr other ↦ absurd (ret at (refl, other)) ])
  jump_typed jump.Unreachable is stands us goals ret = tt

  abbrev BlockKept : Block → Type 0
  BlockKept b = Each GoalKept (jump_goals b.term.jump) × ((at : ℕ) → RetBreaks b.term.jump g.result.ty at → ⊥)

  blocks_kept : Each BlockKept g.blocks
  blocks_kept = each_from BlockKept g.blocks by_block
    where
      by_block : (b : Block) → Has g.blocks b → BlockKept b
      by_block b i =
          let there = in_contains b g.blocks i in (
            each_from GoalKept (jump_goals b.term.jump) (λ goal j off. ok BadTarget goal.label.at (of_goal g b goal in_p there (in_contains goal (jump_goals b.term.jump) j) off)),
            λ at breaks. ok TypeClash at (of_ret g b at in_p there breaks),
          )

  params_typed : (ps : List Param) → Each (IsHeld g) (map param_event ps) → Each (ParamTyped g) ps
  params_typed ps events = each_map (IsHeld g) param_event ps events

  block_typed : (b : Block) → IsBlock p.version b → BlockStands b → Each (IsHeld g) (block_events b) → Each OpKept (map (λ i. i.op) b.insts) → BlockKept b → BlockTyped p g b
  block_typed b is stands events ops kept =
      let ps : List Event = map param_event b.params in
      let insts : List Event = flat_map inst_events b.insts in
      let js : List Event = map uses (jump_uses b.term.jump) in
      let front = each_left (IsHeld g) (ps ++ insts) js events in
      record {
        params = params_typed b.params (each_left (IsHeld g) ps insts front);
        insts = insts_typed b.insts is.insts stands.0 (each_right (IsHeld g) ps insts front) ops;
        term = jump_typed b.term.jump is.term stands.1 (each_map (IsHeld g) uses (jump_uses b.term.jump) (each_right (IsHeld g) (ps ++ insts) js events)) kept.0 kept.1;
      }

  blocks_typed : (bs : List Block) → Each (IsBlock p.version) bs → Each BlockStands bs → Each (IsHeld g) (flat_map block_events bs) → Each OpKept (flat_map (λ b. map (λ i. i.op) b.insts) bs) → Each BlockKept bs → Each (BlockTyped p g) bs
  blocks_typed [] is stands events ops kept = tt
  blocks_typed (b ∷ bs) is stands events ops kept = (
    block_typed b is.0 stands.0 (each_left (IsHeld g) (block_events b) (flat_map block_events bs) events) (each_left OpKept (map (λ i. i.op) b.insts) _ ops) kept.0,
    blocks_typed bs is.1 stands.1 (each_right (IsHeld g) (block_events b) (flat_map block_events bs) events) (each_right OpKept (map (λ i. i.op) b.insts) _ ops) kept.1,
  )

  function_typed : IsFunction p.version g → FunctionStands g → FunctionTyped p g
  function_typed is stands =
      let ps : List Event = map param_event g.params in
      let bs : List Event = flat_map block_events g.blocks in
      record {
        params = params_typed g.params (each_left (IsHeld g) ps bs events_held);
        attributes = is.params;
        blocks = blocks_typed g.blocks is.blocks stands (each_right (IsHeld g) ps bs events_held) ops_kept blocks_kept;
      }

pub program_typed : (p : Program) (hosts : HostTable) → IsProgram p → IsAccepted p hosts → ProgramTyped p
program_typed p hosts program ok =
    each_all (λ f. ((f_in : Contains p.functions f) × IsFunction p.version f × FunctionStands f)) (FunctionTyped p) (λ f known. function_typed p hosts ok f known.0 known.1 known.2) p.functions
    (each_all (λ f. (Contains p.functions f × (IsFunction p.version f × FunctionStands f))) (λ f. ((f_in : Contains p.functions f) × IsFunction p.version f × FunctionStands f)) (λ f known. (known.0, known.1.0, known.1.1)) p.functions
    (each_both (λ f. Contains p.functions f) (λ f. IsFunction p.version f × FunctionStands f) p.functions (each_from (λ f. Contains p.functions f) p.functions (λ f i. in_contains f p.functions i))
    (each_both (IsFunction p.version) FunctionStands p.functions program.shaped.functions (program_stands p program.spelled))))
