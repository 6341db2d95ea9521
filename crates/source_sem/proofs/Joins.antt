-- A frame's handles name children that its thread has started.
use Rattle.std.proofs.Common.{◌≡◌, ℕ, List, [], ◌∷◌, ◌++◌, Option, Some, None, Bool, true, false, map, refl, sym, ap, ◌∙◌, subst, if◌then◌else◌, slice_get, inr, append_assoc}
use Rattle.std.specs.List.{flat_map}
use Rattle.std.specs.Str.{bytes_eq}
use Rattle.std.specs.Cmp.Lexicographic.{bytes_decides}
use Rattle.std.proofs.lemmas.Grind.{flat_map-append}
use Rattle.history.specs.declared.ask.Arg.{Arg}
use Rattle.ir_ast.specs.Tokens.{Each}
use Rattle.ir_ast.specs.declared.types.Ty.{Ty}
use Rattle.ir_ast.specs.declared.program.Block.{Block}
use Rattle.ir_ast.specs.declared.program.Function.{Function}
use Rattle.ir_ast.specs.declared.program.Inst.{Inst}
use Rattle.ir_ast.specs.declared.program.Named.{Named}
use Rattle.ir_ast.specs.declared.program.Op.TheVariants as op
use Rattle.ir_ast.specs.declared.program.Param.{Param}
use Rattle.ir_rules.specs.declared.rule.Wanted.TheVariants.{AHandle}
use Rattle.ir_rules.specs.Occurrences.{Use, Event, param_event, op_gives, op_uses, dest_events, inst_events, block_events, jump_uses, function_events}
use Rattle.ir_rules.specs.Occurrences.Holds.{handle}
use Rattle.ir_rules.specs.Occurrences.Event.{uses}
use Rattle.ir_rules.specs.Paths.{Avoids, GoesTo}
use Rattle.ir_rules.specs.Rules.{held}
use Rattle.thread_parts.specs.Words.{blank, arg_at}
use Rattle.source_sem.specs.Env.{Env, value_in, with_value, bind}
use Rattle.runs.specs.Parts.{Has}
use Rattle.source_sem.specs.Joining.{IsHeld, JoinsFit, FunctionJoins, IsUnassignedAfter, StandsAt, IsSpawnOp, is_bound, HasHandles}
use Rattle.source_sem.proofs.Events.{inst_held, entry_held, params_held, spawn_alone, apart, other_name, avoid_more, avoid_front, avoid_block, params_apart}
use Rattle.source_sem.proofs.Writes.{value_in-with_value, is_bound-with_value}

pub or_false : (b c : Bool) → (if b then true else c) ≡ false → (b ≡ false) × (c ≡ false)
or_false false c h = (refl, h)
or_false true c h = cc

same_named : {a b : Named} → Some a ≡ Some b → a ≡ b
same_named h = cc

-- a join uses its handle after what is done in its block
abbrev join_use : Named → Use
join_use h = record { reg = h; wanted = AHandle }

join_stands : (block : Block) (done rest : List Inst) (i : Inst) (ty : Option Ty) (at : ℕ) (h : Named) → block.insts ≡ done ++ i ∷ rest → i.op ≡ op.Join ty at h
    → block_events block ≡ (map param_event block.params ++ flat_map inst_events done) ++ uses (join_use h) ∷ (dest_events i.dest (op_gives i.op) ++ flat_map inst_events rest ++ map uses (jump_uses block.term.jump))
join_stands block done rest i ty at h insts is =
    let ps : List Event = map param_event block.params in
    let js : List Event = map uses (jump_uses block.term.jump) in
    let ds : List Event = dest_events i.dest (op_gives i.op) in
    let rs : List Event = flat_map inst_events rest in
    let here : inst_events i ≡ uses (join_use h) ∷ ds = ap (λ o. map uses (op_uses o) ++ ds) is in
    let split : flat_map inst_events block.insts ≡ flat_map inst_events done ++ (uses (join_use h) ∷ (ds ++ rs)) = ap (flat_map inst_events) insts ∙ flat_map-append inst_events done (i ∷ rest) ∙ ap (λ l. flat_map inst_events done ++ (l ++ rs)) here in
    ap (λ l. (ps ++ l) ++ js) split
    ∙ ap (λ l. l ++ js) (sym (append_assoc ps (flat_map inst_events done) (uses (join_use h) ∷ (ds ++ rs))))
    ∙ append_assoc (ps ++ flat_map inst_events done) (uses (join_use h) ∷ (ds ++ rs)) js

module _ (g : Function) (b : ℕ) (block : Block) (started : List ℕ) where
  child_by : (c : Bool) (env : Env) (n r : List ℕ) (v : Arg) → bytes_eq n r ≡ c → (c ≡ true → Has started v.value) → (is_bound env r ≡ true → Has started (value_in env r).value)
      → (if c then true else is_bound env r) ≡ true → Has started (if c then v else value_in env r).value
  child_by true env n r v e hit old h = hit refl
  child_by false env n r v e hit old h = old h

  -- an instruction that gives its value is done
  pub holds_put : (fits : FunctionJoins g) (done rest : List Inst) (i : Inst) (n : Named) (env : Env) (v : Arg) → StandsAt g b block done i rest → i.dest ≡ Some n → (IsSpawnOp i.op → Has started v.value)
      → HasHandles g b block done env started → HasHandles g b block (done ++ i ∷ []) (with_value n.name v env) started
  holds_put fits done rest i n env v at dest child holds = record {
    missed = λ r h.
        let both = or_false (bytes_eq n.name r) (is_bound env r) (sym (is_bound-with_value env n.name v r) ∙ h) in
        let old : IsUnassignedAfter g b block done r = holds.missed r both.1 in
        record {
          at_entry = old.at_entry;
          path = old.path;
          is_path = old.is_path;
          params = old.params;
          before = avoid_more r done i old.before (λ m is. apart m.name r (subst (λ (z : Named). bytes_eq z.name r ≡ false) (same_named (sym dest ∙ is)) both.0));
        };
    children = λ r f is h.
        subst (λ z. Has started z.value) (sym (value_in-with_value env n.name v r))
        (child_by (bytes_eq n.name r) env n.name r v refl
        (λ same. child (spawn_alone g i n f (inst_held g b block done rest i fits.joins.events at) (fits.dests b block done rest i n at dest) dest (ap (held (function_events g)) ((bytes_decides n.name r).0 same) ∙ is)))
        (holds.children r f is) (sym (is_bound-with_value env n.name v r) ∙ h));
  }

  -- an instruction without a destination is done
  pub holds_pass : (done : List Inst) (i : Inst) (env : Env) → i.dest ≡ None → HasHandles g b block done env started → HasHandles g b block (done ++ i ∷ []) env started
  holds_pass done i env dest holds = record {
    missed = λ r h.
        let old : IsUnassignedAfter g b block done r = holds.missed r h in
        record {
          at_entry = old.at_entry;
          path = old.path;
          is_path = old.is_path;
          params = old.params;
          before = avoid_more r done i old.before (λ m is. absurd (no_dest m (sym dest ∙ is)));
        };
    children = holds.children;
  }
    where
      no_dest : (m : Named) → None ≡ Some m → ⊥
      no_dest m e = cc

  -- the join's handle names a child
  pub join_asks : (fits : JoinsFit g) (done rest : List Inst) (i : Inst) (ty : Option Ty) (at : ℕ) (h : Named) (env : Env) → StandsAt g b block done i rest → i.op ≡ op.Join ty at h
      → HasHandles g b block done env started → Has started (value_in env h.name).value
  join_asks fits done rest i ty at h env stands is holds = by_bound (is_bound env h.name) refl
    where
      wants : (f : List ℕ) × (held (function_events g) h.name ≡ Some (handle f))
      wants = (subst (λ (o : _). Each (IsHeld g) (map uses (op_uses o) ++ dest_events i.dest (op_gives i.op))) is (inst_held g b block done rest i fits.events stands)).0

      by_bound : (c : Bool) → is_bound env h.name ≡ c → Has started (value_in env h.name).value
      by_bound true e = holds.children h.name wants.0 wants.1 e
      by_bound false e =
          let old : IsUnassignedAfter g b block done h.name = holds.missed h.name e in
          absurd (fits.assigned (join_use h) refl (record {
            at_entry = old.at_entry;
            path = old.path;
            last = b;
            is_path = old.is_path;
            block = block;
            is_block = stands.is_block;
            before = map param_event block.params ++ flat_map inst_events done;
            after = dest_events i.dest (op_gives i.op) ++ flat_map inst_events rest ++ map uses (jump_uses block.term.jump);
            stands = join_stands block done rest i ty at h stands.insts is;
            avoids = avoid_front h.name block done old.params old.before;
          }))

-- parameters get their values: what is still unbound is none of them, and handles keep theirs
bound_bind : (ps : List Param) (vs : List Arg) (env : Env) (r : List ℕ) → is_bound (bind ps vs env) r ≡ false → Avoids r (map param_event ps) × (is_bound env r ≡ false)
bound_bind [] vs env r h = (tt, h)
bound_bind (p ∷ ps) [] env r h =
    let rest = bound_bind ps [] (with_value p.reg.name blank env) r h in
    let both = or_false (bytes_eq p.reg.name r) (is_bound env r) (sym (is_bound-with_value env p.reg.name blank r) ∙ rest.1) in
    ((apart p.reg.name r both.0, rest.0), both.1)
bound_bind (p ∷ ps) (v ∷ vs) env r h =
    let rest = bound_bind ps vs (with_value p.reg.name (arg_at p.ty v) env) r h in
    let both = or_false (bytes_eq p.reg.name r) (is_bound env r) (sym (is_bound-with_value env p.reg.name (arg_at p.ty v) r) ∙ rest.1) in
    ((apart p.reg.name r both.0, rest.0), both.1)

skip_bound : (c : Bool) (d : Bool) → c ≡ false → (if c then true else d) ≡ d
skip_bound false d e = refl
skip_bound true d e = cc

skip_value : (c : Bool) (v w : Arg) → c ≡ false → (if c then v else w) ≡ w
skip_value false v w e = refl
skip_value true v w e = cc

bind_other : (ps : List Param) (vs : List Arg) (env : Env) (r : List ℕ) → Avoids r (map param_event ps) → (is_bound (bind ps vs env) r ≡ is_bound env r) × (value_in (bind ps vs env) r ≡ value_in env r)
bind_other [] vs env r h = (refl, refl)
bind_other (p ∷ ps) [] env r h =
    let off = other_name p.reg.name r h.0 in
    let rest = bind_other ps [] (with_value p.reg.name blank env) r h.1 in (
      rest.0 ∙ is_bound-with_value env p.reg.name blank r ∙ skip_bound (bytes_eq p.reg.name r) (is_bound env r) off,
      rest.1 ∙ value_in-with_value env p.reg.name blank r ∙ skip_value (bytes_eq p.reg.name r) blank (value_in env r) off,
    )
bind_other (p ∷ ps) (v ∷ vs) env r h =
    let off = other_name p.reg.name r h.0 in
    let rest = bind_other ps vs (with_value p.reg.name (arg_at p.ty v) env) r h.1 in (
      rest.0 ∙ is_bound-with_value env p.reg.name (arg_at p.ty v) r ∙ skip_bound (bytes_eq p.reg.name r) (is_bound env r) off,
      rest.1 ∙ value_in-with_value env p.reg.name (arg_at p.ty v) r ∙ skip_value (bytes_eq p.reg.name r) (arg_at p.ty v) (value_in env r) off,
    )

-- a jump: the whole block is done, and the path is one block longer
pub holds_goto : (g : Function) (fits : JoinsFit g) (b c : ℕ) (block to : Block) (started : List ℕ) (env : Env) (vs : List Arg) → slice_get g.blocks b ≡ Some block → slice_get g.blocks c ≡ Some to → GoesTo g b c
    → HasHandles g b block block.insts env started → HasHandles g c to [] (bind to.params vs env) started
holds_goto g fits b c block to started env vs is there goes holds = record {
  missed = λ r h.
      let both = bound_bind to.params vs env r h in
      let old : IsUnassignedAfter g b block block.insts r = holds.missed r both.1 in
      record { at_entry = old.at_entry; path = b ∷ old.path; is_path = (goes, (block, is, avoid_block r block old.params old.before), old.is_path); params = both.0; before = tt };
  children = λ r f handle h.
      let same = bind_other to.params vs env r (params_apart g r f to.params (params_held g c to fits.events there) handle) in
      subst (λ z. Has started z.value) (sym same.1) (holds.children r f handle (sym same.0 ∙ h));
}

-- a new frame: the function's parameters have their values
pub holds_entry : (g : Function) (fits : JoinsFit g) (block : Block) (started : List ℕ) (vs : List Arg) → slice_get g.blocks 0 ≡ Some block → HasHandles g 0 block [] (bind g.params vs []) started
holds_entry g fits block started vs is = record {
  missed = λ r h.
      let both = bound_bind g.params vs [] r h in
      record { at_entry = both.0; path = []; is_path = refl; params = subst (λ (ps : List Param). Avoids r (map param_event ps)) (sym (fits.first block is)) tt; before = tt };
  children = λ r f handle h.
      let same = bind_other g.params vs [] r (params_apart g r f g.params (entry_held g fits.events) handle) in
      absurd (let e : false ≡ true = sym same.0 ∙ h in cc);
}

-- more children
pub holds_more : (g : Function) (b : ℕ) (block : Block) (done : List Inst) (env : Env) (started : List ℕ) (c : ℕ) → HasHandles g b block done env started → HasHandles g b block done env (c ∷ started)
holds_more g b block done env started c holds = record { missed = holds.missed; children = λ r f is h. inr (holds.children r f is h) }
