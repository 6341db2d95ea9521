-- Where no rule is broken, each host function that is asked is in the table.
use Rattle.std.proofs.Common.{◌≡◌, ℕ, suc, ◌<◌, inl, inr, List, [], ◌∷◌, ◌++◌, Bool, true, false, refl, sym, subst, length}
use Rattle.std.specs.Prelude.{map, Option, Some, slice_get}
use Rattle.std.proofs.lemmas.Option.{slice_get_within}
use Rattle.history.specs.declared.ask.Arg.{Arg}
use Rattle.history.specs.declared.ask.Ask.{Ask}
use Rattle.history.specs.declared.ask.Ask.TheVariants as ask
use Rattle.history.specs.declared.ask.MachineEnd.{MachineEnd}
use Rattle.ir_ast.specs.Arithmetic.{Worked, word, div_zero, shift_too_far}
use Rattle.ir_ast.specs.Numbers.{place, host_names}
use Rattle.ir_ast.specs.Tokens.{Each}
use Rattle.ir_ast.specs.declared.hosts.HostTable.{HostTable}
use Rattle.ir_ast.specs.declared.program.Block.{Block}
use Rattle.ir_ast.specs.declared.program.Function.{Function}
use Rattle.ir_ast.specs.declared.program.Inst.{Inst}
use Rattle.ir_ast.specs.declared.program.Named.{Named}
use Rattle.ir_ast.specs.declared.program.Op.{Op}
use Rattle.ir_ast.specs.declared.program.Op.TheVariants as op
use Rattle.ir_ast.specs.declared.program.Program.{Program}
use Rattle.ir_ast.specs.declared.program.TypedVal.{TypedVal}
use Rattle.ir_ast.specs.declared.types.Attr.{Attr}
use Rattle.ir_ast.specs.declared.types.Place.{Place}
use Rattle.ir_ast.specs.declared.types.Ty.{Ty}
use Rattle.ir_rules.specs.Occurrences.{function_events}
use Rattle.ir_rules.specs.Rules.{IsAccepted, HostFits, NameBreaks, OpBreaks, host_named, function_ops}
use Rattle.ir_rules.specs.declared.rule.Rule.{Rule}
use Rattle.perm_table.specs.declared.RetagKind.{RetagKind}
use Rattle.thread_parts.specs.Parts.{part_ask, worked_part, make_by, retag_part, copy_by, call_part}
use Rattle.source_sem.specs.Env.{Env}
use Rattle.source_sem.specs.Joining.{ThreadStands, Site, DoingStands, IsLost, FramesStand}
use Rattle.source_sem.specs.Source.{Setting, Source, source_ask, Frame, Doing, Ready, Entering, Copying, Waiting, Retagging, Leaving, op_part, frames_ask, doing_ask, ready_ask, term_ask}
use Rattle.source_sem.specs.Starting.{setting_of}
use Rattle.source_sem.proofs.Asks.{BeginsNoStep, doing_asks, term_asks}
use Rattle.source_sem.proofs.Events.{each_in}
use Rattle.source_runs.specs.AcceptedHosts.{AcceptedProgramsAskTheTable}
use Rattle.source_sem.proofs.Accepting.{named_fits, ops_kept}
use Rattle.source_sem.proofs.Deciding.{host_found}
use Rattle.source_sem.proofs.Every.{contains_at, each_at, each_flat, each_map}

-- a host function is asked only where it is in the table
abbrev AsksTable : HostTable → Ask → Type 0
AsksTable hosts (ask.Host n first second) = n < length hosts.entries
AsksTable hosts other = Unit {0}

module _ (x : Setting) (hosts : HostTable) (ok : IsAccepted x.program hosts) (names : x.hosts ≡ host_names hosts.entries) where
  no_step : (a : Ask) → BeginsNoStep a → AsksTable hosts a
  no_step (ask.Host n first second) h = absurd h
  no_step ask.Turn h = tt
  no_step (ask.Ended e) h = tt
  no_step (ask.Join c) h = tt
  no_step (ask.At a r) h = tt
  no_step (ask.Make size place) h = tt
  no_step (ask.Print v) h = tt
  no_step (ask.Spawn k) h = tt

  -- operations --------------------------------------------------------------------------

  make_asks : (b : Bool) (p : Place) (n : ℕ) → AsksTable hosts (part_ask (make_by b p n))
  make_asks true p n = tt
  make_asks false p n = tt

  retag_asks : (b : Bool) (p : Arg) (kind : RetagKind) (n : ℕ) → AsksTable hosts (part_ask (retag_part b p kind n))
  retag_asks true p kind n = tt
  retag_asks false p kind n = tt

  worked_asks : (w : Worked) → AsksTable hosts (part_ask (worked_part w))
  worked_asks (word n) = tt
  worked_asks div_zero = tt
  worked_asks shift_too_far = tt

  copy_asks : (b : Bool) (d s : Arg) (n : ℕ) → AsksTable hosts (part_ask (copy_by b d s n))
  copy_asks true d s n = tt
  copy_asks false d s n = tt

  call_asks : (b : Bool) (k : ℕ) (args : List Arg) (ty : Option Ty) (attr : Option Attr) → AsksTable hosts (part_ask (call_part b k args ty attr))
  call_asks true k args ty attr = tt
  call_asks false k args ty attr = tt

  host_asks : (name : Named) (args : List TypedVal) (result : Ty) → ((rule : Rule) (at : ℕ) → NameBreaks (HostFits args result) (host_named hosts.entries name.name) name rule at → ⊥) → place x.hosts name.name < length hosts.entries
  host_asks name args result kept =
      let n = named_fits (HostFits args result) (host_named hosts.entries name.name) name kept in
      subst (λ z. place z name.name < length hosts.entries) (sym names) (slice_get_within hosts.entries (place (host_names hosts.entries) name.name) n.0 (host_found hosts.entries name.name n.0 n.1))

  abbrev Kept : Function → Op → Type 0
  Kept g o = (rule : Rule) (at : ℕ) → OpBreaks x.program.functions hosts.entries (function_events g) o rule at → ⊥

  op_asks : (g : Function) (k depth : ℕ) (env : Env) (o : Op) → Kept g o → AsksTable hosts (part_ask (op_part x k depth env o))
  op_asks g k depth env (op.Host result name args) kept = host_asks name args result kept
  op_asks g k depth env (op.Make p size) kept = make_asks _ p _
  op_asks g k depth env (op.Retag kind p n) kept = retag_asks _ _ kind n
  op_asks g k depth env (op.Binary o w a b) kept = worked_asks _
  op_asks g k depth env (op.Copy d s v) kept = copy_asks _ _ _ _
  op_asks g k depth env (op.Call ty name args) kept = call_asks _ _ _ _ _
  op_asks g k depth env _ kept = tt

  -- the instructions of a block break no rule
  insts_kept : (g : Function) (k b : ℕ) (block : Block) → slice_get x.program.functions k ≡ Some g → slice_get g.blocks b ≡ Some block → Each (λ (i : Inst). Kept g i.op) block.insts
  insts_kept g k b block code is =
      let ops : Each (Kept g) (function_ops g) = ops_kept x.program hosts ok g (contains_at x.program.functions k g code) in
      each_map (Kept g) (λ (i : Inst). i.op) block.insts
      (each_at (λ (z : Block). Each (Kept g) (map (λ (i : Inst). i.op) z.insts)) g.blocks b block (each_flat (Kept g) (λ (z : Block). map (λ (i : Inst). i.op) z.insts) g.blocks ops) is)

  -- frames ------------------------------------------------------------------------------

  -- at the next instruction, of which no part is done
  ready_asks : (f : Frame) (depth : ℕ) (at : Site x.program f.function) (done is : List Inst) → at.block.insts ≡ done ++ is → AsksTable hosts (ready_ask x f depth is)
  ready_asks f depth at done [] stands = no_step (term_ask f f.term) (term_asks f f.term)
  ready_asks f depth at done (i ∷ is) stands =
      let kept : Each (λ (z : Inst). Kept at.code z.op) (done ++ i ∷ is) = subst (Each (λ (z : Inst). Kept at.code z.op)) stands (insts_kept at.code f.function at.b at.block at.is_code at.is_block) in
      op_asks at.code f.function depth f.env i.op (each_in (λ (z : Inst). Kept at.code z.op) done is i kept)

  doing_known : (started : List ℕ) (f : Frame) (depth : ℕ) (d : Doing) → DoingStands x.program started f.function f.insts f.term f.env f.owned d → AsksTable hosts (doing_ask x f depth d)
  doing_known started f depth Ready h = ready_asks f depth h.0 h.1 f.insts h.2.insts
  doing_known started f depth (Entering ps) h = no_step _ (doing_asks x f depth (Entering ps) refl)
  doing_known started f depth (Copying pr) h = no_step _ (doing_asks x f depth (Copying pr) refl)
  doing_known started f depth (Waiting dest ty attr) h = tt
  doing_known started f depth (Retagging dest v a) h = tt
  doing_known started f depth (Leaving v) h = no_step _ (doing_asks x f depth (Leaving v) refl)

  lost_asks : (f : Frame) (depth : ℕ) → IsLost f.insts f.term f.doing → AsksTable hosts (doing_ask x f depth f.doing)
  lost_asks f depth lost =
      subst (λ d. AsksTable hosts (doing_ask x f depth d)) (sym lost.doing)
      (subst (λ is. AsksTable hosts (ready_ask x f depth is)) (sym lost.insts) (no_step (term_ask f f.term) (term_asks f f.term)))

  frames_known : (started : List ℕ) (fs : List Frame) (over : MachineEnd) → FramesStand x.program started fs → AsksTable hosts (frames_ask x fs over)
  frames_known started [] over h = tt
  frames_known started (f ∷ fs) over h = elim h.0 [
    | inl lost ↦ lost_asks f (suc (length fs)) lost
    | inr stands ↦ doing_known started f (suc (length fs)) f.doing stands
  ]

pub accepted_programs_ask : AcceptedProgramsAskTheTable
accepted_programs_ask x hosts ok names s n first second stands is = subst (AsksTable hosts) is (frames_known x hosts ok names s.started s.frames s.over stands.frames)

-- a program's own setting has the names of its table
pub program_asks : (program : Program) (input : List ℕ) (hosts : HostTable) → IsAccepted program hosts
    → (s : Source) (n first second : ℕ) → ThreadStands program s → source_ask (setting_of program input hosts) s ≡ ask.Host n first second → n < length hosts.entries
program_asks program input hosts ok = accepted_programs_ask (setting_of program input hosts) hosts ok refl
