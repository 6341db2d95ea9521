-- A thread that ends has its mirror end alike; and all of it together.
use Rattle.std.proofs.Common.{◌≡◌, ℕ, suc, List, [], ◌∷◌, length, Option, Some, None, refl, sym, ap, ◌∙◌, subst}
use Rattle.history.specs.declared.ask.Arg.{Arg}
use Rattle.history.specs.declared.ask.Ask.TheVariants as ask
use Rattle.perm_table.specs.declared.Guard.TheVariants.{Free}
use Rattle.history.specs.declared.ask.MachineEnd.{MachineEnd}
use Rattle.history.specs.declared.ask.MachineEnd.TheVariants as end
use Rattle.bsan_ids.specs.declared.numbers.Prov.{Prov}
use Rattle.perm_table.specs.declared.RetagKind.{RetagKind}
use Rattle.perm_table.specs.declared.Guard.{Guard}
use Rattle.history.specs.declared.trap.Trap.TheVariants as trap
use Rattle.ir_ast.specs.declared.types.Attr.{Attr}
use Rattle.ir_ast.specs.declared.program.Inst.{Inst}
use Rattle.ir_ast.specs.declared.program.Jump.{Jump}
use Rattle.ir_ast.specs.declared.program.Jump.TheVariants as jump
use Rattle.runs.specs.Machine.{Settles}
use Rattle.runs.specs.Erasure.{erased_end}
use Rattle.source_sem.specs.Env.{Env, value_in}
use Rattle.thread_parts.specs.Parts.{Part, Step, Gives, Fails, Steps, Retags, Copies, Calls, Joins, Makes, Accesses, Prints, Hosts, Spawns, part_ask, step_ask, retag_ask}
use Rattle.thread_parts.specs.Copies.{copy_ask_by}
use Rattle.thread_parts.specs.Owned.{Made, Owned, release_by}
use Rattle.ir_ast.specs.Attributes.{guard_of}
use Rattle.source_sem.specs.Source.{Setting, Source, Frame, Doing, Ready, Entering, Copying, Waiting, Retagging, Leaving, op_part, source, source_ask, plain_setting, frames_ask, doing_ask, ready_ask, term_ask, entry_ask, release_or, nowhere}
use Rattle.source_sem.specs.Plain.{Reads, erased_owned, erased_ask, plain_part, CallersMirror, plain_rest, TopMirrors, HasAttr, IsBeside, MirrorsBy, ThreadErases}
use Rattle.source_sem.proofs.Mirroring.{fr, same_part, start_alike, turns, left_outs}
use Rattle.source_sem.proofs.Keeping.{kepts, copyings_ask}

abbrev EndsSo : Setting → Source → MachineEnd → Type 0
EndsSo x p why = source_ask (plain_setting x) p ≡ ask.Ended (erased_end why)

retag_goes_on : (v : Arg) (kind : RetagKind) (g : Guard) (n : ℕ) (why : MachineEnd) → retag_ask v kind g n ≡ ask.Ended why → ⊥
retag_goes_on v kind g n why h = cc

step_goes_on : (s : Step) (why : MachineEnd) → step_ask s ≡ ask.Ended why → ⊥
step_goes_on (Makes n place) why h = cc
step_goes_on (Accesses p a) why h = cc
step_goes_on (Prints v) why h = cc
step_goes_on (Hosts n a b) why h = cc
step_goes_on (Spawns k vs) why h = cc

same_end : (a b : MachineEnd) → ask.Ended a ≡ ask.Ended b → ask.Ended (erased_end a) ≡ ask.Ended (erased_end b)
same_end a b h = let e : a ≡ b = cc in ap (λ z. ask.Ended (erased_end z)) e

part_ends : (q : Part) (why : MachineEnd) → part_ask q ≡ ask.Ended why → part_ask (plain_part q) ≡ ask.Ended (erased_end why)
part_ends (Fails t) why h = same_end (end.Trapped t) why h
part_ends (Steps s) why h = absurd (step_goes_on s why h)
part_ends (Gives v) why h = absurd (let e : ask.Turn ≡ ask.Ended why = h in cc)
part_ends (Calls k vs ty attr) why h = absurd (let e : ask.Turn ≡ ask.Ended why = h in cc)
part_ends (Retags p kind n) why h = absurd (retag_goes_on p kind Free n why h)
part_ends (Copies d s n) why h = absurd (let e : copy_ask_by d s n 0 None ≡ ask.Ended why = h in cc)
part_ends (Joins c ty attr) why h = absurd (let e : part_ask (Joins c ty attr) ≡ ask.Ended why = h in cc)

release_goes_on : (cs : List ℕ) (ps : List Prov) (ms : List Made) (why : MachineEnd) → release_or (release_by cs ps ms) ask.Turn ≡ ask.Ended why → ⊥
release_goes_on (c ∷ cs) ps ms why h = cc
release_goes_on [] (p ∷ ps) ms why h = cc
release_goes_on [] [] (m ∷ ms) why h = cc
release_goes_on [] [] [] why h = cc

leaving_goes_on : (cs : List ℕ) (ps : List Prov) (ms : List Made) (why : MachineEnd) → (release_by cs ps ms ≡ None → ⊥) → release_or (release_by cs ps ms) nowhere ≡ ask.Ended why → ⊥
leaving_goes_on (c ∷ cs) ps ms why some h = cc
leaving_goes_on [] (p ∷ ps) ms why some h = cc
leaving_goes_on [] [] (m ∷ ms) why some h = cc
leaving_goes_on [] [] [] why some h = some refl

term_ends : (k n : ℕ) (env bare : Env) (j : Jump) (o : Owned) (why : MachineEnd) → term_ask (fr k [] j n env o Ready) j ≡ ask.Ended why → term_ask (fr k [] j n bare (erased_owned o) Ready) j ≡ ask.Ended (erased_end why)
term_ends k n env bare (jump.Br g) o why h = absurd (let e : ask.Turn ≡ ask.Ended why = h in cc)
term_ends k n env bare (jump.CondBr v g g2) o why h = absurd (let e : ask.Turn ≡ ask.Ended why = h in cc)
term_ends k n env bare (jump.Ret u at) o why h = absurd (release_goes_on o.children o.protectors o.stack why h)
term_ends k n env bare jump.Unreachable o why h = same_end (end.Trapped trap.Unreachable) why h

entry_goes_on : (v : Arg) (a : Option Attr) (why : MachineEnd) → HasAttr a → entry_ask v a ≡ ask.Ended why → ⊥
entry_goes_on v None why some h = some
entry_goes_on v (Some a) why some h = retag_goes_on v a.kind (guard_of a.kind) a.size why h

module _ (x : Setting) (s : Source) (c : ℕ) (fs gs : List Frame) (why : MachineEnd) (callers : CallersMirror fs gs) where
  ready_ends : (k : ℕ) (is : List Inst) (j : Jump) (n : ℕ) (env bare : Env) (o : Owned) → Reads env bare → ready_ask x (fr k is j n env o Ready) (suc (length fs)) is ≡ ask.Ended why
      → EndsSo x (plain_rest s c (fr k is j n bare (erased_owned o) Ready ∷ gs)) why
  ready_ends k [] j n env bare o reads h = term_ends k n env bare j o why h
  ready_ends k (i ∷ is) j n env bare o reads h = ap part_ask (same_part x k env bare fs gs reads callers i) ∙ part_ends (op_part x k (suc (length fs)) env i.op) why h

  doing_ends : (p : Source) (f : Frame) (d : Doing) (bare : Env) → Reads f.env bare → IsBeside bare f.owned d → TopMirrors s (record f { doing = d }) bare gs d c p
      → doing_ask x (record f { doing = d }) (suc (length fs)) d ≡ ask.Ended why → EndsSo x p why
  doing_ends p f Ready bare reads beside top h = subst (λ z. EndsSo x z why) (sym top) (ready_ends f.function f.insts f.term f.number f.env bare f.owned reads h)
  doing_ends p f (Entering []) bare reads beside top h = absurd beside
  doing_ends p f (Entering (q ∷ qs)) bare reads beside top h = absurd (entry_goes_on (value_in f.env q.reg.name) q.attr why beside.0 h)
  doing_ends p f (Copying pr) bare reads beside top h =
      subst (λ z. EndsSo x z why) (sym top) (copyings_ask x s c f.function f.number f.env bare fs gs [] reads callers f.insts f.term f.owned pr ∙ ap erased_ask h)
  doing_ends p f (Waiting dest ty attr) bare reads beside top h = subst (λ z. EndsSo x z why) (sym top) (same_end (end.Trapped trap.Unreachable) why h)
  doing_ends p f (Retagging dest v a) bare reads beside top h = absurd (retag_goes_on v a.kind Free a.size why h)
  doing_ends p f (Leaving v) bare reads beside top h = absurd (leaving_goes_on f.owned.children f.owned.protectors f.owned.stack why beside h)

frames_end : (x : Setting) (s p : Source) (fs : List Frame) (why : MachineEnd) → MirrorsBy s fs p → frames_ask x fs s.over ≡ ask.Ended why → EndsSo x p why
frames_end x s p [] why m h = subst (λ z. EndsSo x z why) (sym m.1) (same_end s.over why h)
frames_end x s p (f ∷ fs) why m h = doing_ends x s m.count fs m.below why m.callers p f f.doing m.bare m.reads m.beside m.top h

pub erases : (x : Setting) → ThreadErases x
erases x = record {
  start = start_alike x;
  turn = turns x;
  left_out = left_outs x;
  kept = kepts x;
  ended = λ s p why m h.
      let settles : Settles (source (plain_setting x)) p p = (0, refl) in
      (p, settles, frames_end x s p s.frames why m h);
}
