-- What a thread asks where it begins no step of its own: a local turn, its end, a join, or something of an allocation.
use Rattle.std.proofs.Common.{◌≡◌, ℕ, suc, List, [], ◌∷◌, false, refl, subst, length}
use Rattle.std.specs.Prelude.{Option, Some, None}
use Rattle.bsan_ids.specs.declared.numbers.AllocNo.{AllocNo}
use Rattle.bsan_ids.specs.declared.numbers.Prov.{Prov}
use Rattle.history.specs.declared.ask.Arg.{Arg}
use Rattle.history.specs.declared.ask.Ask.{Ask}
use Rattle.history.specs.declared.ask.Ask.TheVariants as ask
use Rattle.history.specs.declared.ask.MachineEnd.{MachineEnd}
use Rattle.history.specs.declared.entry.Request.{Request}
use Rattle.history.specs.declared.entry.Request.TheVariants as request
use Rattle.history.specs.Histories.{is_make}
use Rattle.history.specs.Pieces.{Byte}
use Rattle.ir_ast.specs.declared.program.Inst.{Inst}
use Rattle.ir_ast.specs.declared.program.Jump.{Jump}
use Rattle.ir_ast.specs.declared.program.Jump.TheVariants as jump
use Rattle.ir_ast.specs.declared.program.Param.{Param}
use Rattle.ir_ast.specs.declared.types.Attr.{Attr}
use Rattle.runs.specs.Parts.{IsOnNumber}
use Rattle.thread_parts.specs.Copies.{Progress, copy_ask_by}
use Rattle.thread_parts.specs.Owned.{Made, release_by}
use Rattle.thread_parts.specs.Parts.{Part, Step, Access, Gives, Fails, Steps, Retags, Copies, Calls, Joins, Makes, Accesses, Prints, Hosts, Spawns, Loads, Stores, Modifies, Compares, Frees, access_request, step_ask, part_ask}
use Rattle.source_sem.specs.Env.{Env}
use Rattle.source_sem.specs.Source.{Setting, Source, Frame, Doing, Ready, Entering, Copying, Waiting, Retagging, Leaving, op_part, source_ask, frames_ask, doing_ask, ready_ask, term_ask, copying_ask, copying_by, entry_ask, entering_ask, release_or, nowhere, is_ready}

-- a turn, an end, a join, or a request of an allocation
abbrev pub BeginsNoStep : Ask → Type 0
BeginsNoStep ask.Turn = Unit {0}
BeginsNoStep (ask.Ended e) = Unit {0}
BeginsNoStep (ask.Join c) = Unit {0}
BeginsNoStep (ask.At a r) = IsOnNumber r
BeginsNoStep other = ⊥

abbrev pub IsNoStep : Part → Type 0
IsNoStep (Steps s) = ⊥
IsNoStep other = Unit {0}

copy_asks : (d s : Arg) (n k : ℕ) (half : Option (List Byte)) → BeginsNoStep (copy_ask_by d s n k half)
copy_asks d s n k None = tt
copy_asks d s n k (Some piece) = tt

pub part_asks : (p : Part) → IsNoStep p → BeginsNoStep (part_ask p)
part_asks (Gives a) h = tt
part_asks (Fails t) h = tt
part_asks (Steps s) h = absurd h
part_asks (Retags p kind n) h = tt
part_asks (Copies d s n) h = tt
part_asks (Calls k xs ty attr) h = tt
part_asks (Joins c ty attr) h = tt

release_asks : (cs : List ℕ) (ps : List Prov) (ms : List Made) (a : Ask) → BeginsNoStep a → BeginsNoStep (release_or (release_by cs ps ms) a)
release_asks (c ∷ cs) ps ms a h = tt
release_asks [] (p ∷ ps) ms a h = tt
release_asks [] [] (m ∷ ms) a h = tt
release_asks [] [] [] a h = h

pub term_asks : (f : Frame) (j : Jump) → BeginsNoStep (term_ask f j)
term_asks f (jump.Br goal) = tt
term_asks f (jump.CondBr v first second) = tt
term_asks f (jump.Ret v at) = release_asks f.owned.children f.owned.protectors f.owned.stack ask.Turn tt
term_asks f jump.Unreachable = tt

copying_asks : (p : Part) (pr : Progress) → BeginsNoStep (copying_by p pr)
copying_asks (Copies d s n) pr = copy_asks d s n pr.pieces pr.half
copying_asks (Gives a) pr = tt
copying_asks (Fails t) pr = tt
copying_asks (Steps s) pr = tt
copying_asks (Retags p kind n) pr = tt
copying_asks (Calls k xs ty attr) pr = tt
copying_asks (Joins c ty attr) pr = tt

entry_asks : (v : Arg) (a : Option Attr) → BeginsNoStep (entry_ask v a)
entry_asks v None = tt
entry_asks v (Some a) = tt

enters_ask : (env : Env) (ps : List Param) → BeginsNoStep (entering_ask env ps)
enters_ask env [] = tt
enters_ask env (p ∷ ps) = entry_asks _ p.attr

access_asks : (at : ℕ) (prov : Option Prov) (a : Access) → IsOnNumber (access_request at prov a)
access_asks at prov (Loads ty) = tt
access_asks at prov (Stores ty v) = tt
access_asks at prov (Modifies w o v) = tt
access_asks at prov (Compares w e v) = tt
access_asks at prov Frees = tt

-- what is asked of an allocation is a request that allocations answer
abbrev Numbered : Ask → Type 0
Numbered (ask.At a r) = IsOnNumber r
Numbered other = Unit {0}

numbered_so : (a : Ask) → BeginsNoStep a → Numbered a
numbered_so (ask.At a r) h = h
numbered_so ask.Turn h = tt
numbered_so (ask.Ended e) h = tt
numbered_so (ask.Join c) h = tt
numbered_so (ask.Make size place) h = tt
numbered_so (ask.Print v) h = tt
numbered_so (ask.Host n a b) h = tt
numbered_so (ask.Spawn k) h = tt

step_numbered : (s : Step) → Numbered (step_ask s)
step_numbered (Makes n place) = tt
step_numbered (Accesses p a) = access_asks _ p.prov a
step_numbered (Prints v) = tt
step_numbered (Hosts n a b) = tt
step_numbered (Spawns k xs) = tt

part_numbered : (p : Part) → Numbered (part_ask p)
part_numbered (Steps s) = step_numbered s
part_numbered (Gives a) = tt
part_numbered (Fails t) = tt
part_numbered (Retags p kind n) = tt
part_numbered (Copies d s n) = tt
part_numbered (Calls k xs ty attr) = tt
part_numbered (Joins c ty attr) = tt

module _ (x : Setting) where
  copies_ask : (f : Frame) (depth : ℕ) (is : List Inst) (pr : Progress) → BeginsNoStep (copying_ask x f depth is pr)
  copies_ask f depth [] pr = tt
  copies_ask f depth (i ∷ rest) pr = copying_asks (op_part x f.function depth f.env i.op) pr

  -- only where no part of an instruction is done a step begins
  pub doing_asks : (f : Frame) (depth : ℕ) (d : Doing) → is_ready d ≡ false → BeginsNoStep (doing_ask x f depth d)
  doing_asks f depth Ready h = cc
  doing_asks f depth (Entering ps) h = enters_ask f.env ps
  doing_asks f depth (Copying pr) h = copies_ask f depth f.insts pr
  doing_asks f depth (Waiting dest ty attr) h = tt
  doing_asks f depth (Retagging dest v a) h = tt
  doing_asks f depth (Leaving v) h = release_asks f.owned.children f.owned.protectors f.owned.stack nowhere tt

  ready_numbered : (f : Frame) (depth : ℕ) (is : List Inst) → Numbered (ready_ask x f depth is)
  ready_numbered f depth [] = numbered_so (term_ask f f.term) (term_asks f f.term)
  ready_numbered f depth (i ∷ rest) = part_numbered (op_part x f.function depth f.env i.op)

  doing_numbered : (f : Frame) (depth : ℕ) (d : Doing) → Numbered (doing_ask x f depth d)
  doing_numbered f depth Ready = ready_numbered f depth f.insts
  doing_numbered f depth (Entering ps) = numbered_so _ (doing_asks f depth (Entering ps) refl)
  doing_numbered f depth (Copying pr) = numbered_so _ (doing_asks f depth (Copying pr) refl)
  doing_numbered f depth (Waiting dest ty attr) = tt
  doing_numbered f depth (Retagging dest v a) = tt
  doing_numbered f depth (Leaving v) = numbered_so _ (doing_asks f depth (Leaving v) refl)

  frames_numbered : (fs : List Frame) (over : MachineEnd) → Numbered (frames_ask x fs over)
  frames_numbered [] over = tt
  frames_numbered (f ∷ fs) over = doing_numbered f (suc (length fs)) f.doing

  pub asks_numbered : (s : Source) (a : AllocNo) (r : Request) → source_ask x s ≡ ask.At a r → IsOnNumber r
  asks_numbered s a r is = subst Numbered is (frames_numbered s.frames s.over)

-- such a request makes nothing
pub numbered_makes_none : (r : Request) → IsOnNumber r → is_make r ≡ false
numbered_makes_none (request.Make size place) on = absurd on
numbered_makes_none _ on = refl
