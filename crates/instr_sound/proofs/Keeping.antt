-- A machine that simulates a thread over the text does so after each call.
use Rattle.std.specs.Prelude.{Result, Ok, Err, IfOk}
use Rattle.std.proofs.Common.{◌≡◌, ◌<◌, ℕ, suc, List, [], ◌∷◌, Option, Some, None, true, length, refl, sym, ap, ◌∙◌, subst}
use Rattle.history.specs.declared.ask.Arg.{Arg}
use Rattle.history.specs.declared.ask.Ask.{Ask}
use Rattle.history.specs.declared.ask.Ask.TheVariants as ask
use Rattle.history.specs.declared.entry.Entry.{Entry}
use Rattle.history.specs.declared.entry.Plain.{Plain}
use Rattle.history.specs.declared.entry.Plain.TheVariants as plain
use Rattle.history.specs.declared.entry.Reply.{Reply}
use Rattle.history.specs.declared.entry.Request.TheVariants as request
use Rattle.history.specs.Replies.{Answers}
use Rattle.ir_ast.specs.declared.types.Ty.{Ty}
use Rattle.ir_ast.specs.declared.hosts.HostEntry.{HostEntry}
use Rattle.ir_ast.specs.declared.program.Function.{Function}
use Rattle.ir_ast.specs.Numbers.{blocks_end}
use Rattle.ir_rules.specs.declared.verified.Verified.{Verified}
use Rattle.target_code.specs.declared.line.Target.{Target}
use Rattle.source_sem.specs.Source.{Source, source_ask, source_turn, source_answer, source_start, source_child}
use Rattle.source_sem.specs.Requests.{TopFits}
use Rattle.source_sem.proofs.RequestLaws.{requests_fit}
use Rattle.thread_parts.specs.Fits.{ReplyFits, JoinFits, ValueIn, IsTrap}
use Rattle.instrument.specs.Translation.{functions_code, translation}
use Rattle.thread_machine.specs.Thread.{TargetSetting, Thread, row_of, thread_ask, thread_turn, thread_answer, thread_start, thread_child}
use Rattle.thread_machine.specs.Views.{MachineView}
use Rattle.instr_sound.specs.Fits.{ProgramFits}
use Rattle.instr_sound.specs.Simulation.{Simulates, target_setting}
use Rattle.instr_sound.specs.Tie.{IsStep}
use Rattle.instr_sound.specs.Sound.{SoundView, sound_view, begun, text_of, IsSound, turned, answered, started, ShowsAlike, IsOn, AskFits, SoundLaw, FitsUntyped}
use Rattle.instr_sound.proofs.Requests.{asks_on}
use Rattle.instr_sound.proofs.Whole.{alike, tie_law, accepted_fits}

-- the machine's setting is that of the translation
setting_is : (m : SoundView) → m.machine.setting.target ≡ translation m.hosts.entries m.program → m.machine.setting ≡ target_setting m.program m.hosts.entries m.machine.setting.input
setting_is m e = ap (λ z. let x : TargetSetting = record { target = z; input = m.machine.setting.input } in x) e

fits_of : (m : SoundView) → IsSound m → ProgramFits m.program m.hosts.entries
fits_of m sound = accepted_fits m.program m.hosts sound.program sound.accepted

abbrev Goes : SoundView → Source → Thread → Type 0
Goes m s t = Simulates m.program m.hosts.entries m.machine.setting.input s t

-- what a thread does in the translation's setting, it does in the machine's
at_machine : (m : SoundView) → m.machine.setting.target ≡ translation m.hosts.entries m.program → (next : TargetSetting → Thread) (s : Source) → Goes m s (next (target_setting m.program m.hosts.entries m.machine.setting.input)) → Goes m s (next m.machine.setting)
at_machine m code next s st = subst (λ z. Goes m s (next z)) (sym (setting_is m code)) st

pub shows : (m : SoundView) → IsSound m → ShowsAlike m
shows m sound =
    let a = alike m.program m.hosts.entries m.machine.setting.input m.state m.machine.thread sound.simulates in
    record { asks = ap (λ z. thread_ask z m.machine.thread) (setting_is m sound.code) ∙ a.asks; begins = a.begins; site = a.site; count = a.count }

-- what is answered is a step
answers_step : (a : Ask) (e : Entry) → Answers a e → IsStep a
answers_step ask.Turn e h = h
answers_step (ask.Ended end) e h = h
answers_step other e h = tt

-- what is asked of allocations fits
pub asks_fit : (m : SoundView) → IsSound m → AskFits (source_ask (text_of m) m.state)
asks_fit m sound = by_ask (source_ask (text_of m) m.state) refl (subst IsOn (shows m sound).asks (asks_on m.machine.setting.target.version m.machine.thread))
  where
    by_ask : (a : Ask) → source_ask (text_of m) m.state ≡ a → IsOn a → AskFits a
    by_ask (ask.Make size place) e on = (requests_fit (text_of m)).makes m.state size place sound.requests e
    by_ask (ask.At a r) e on = (on, (requests_fit (text_of m)).asks m.state a r sound.requests e)
    by_ask other e on = tt

pub sound_law : SoundLaw
sound_law = record {
  start = λ m k args program accepted code there thread state.
      let input = m.machine.setting.input in
      let begins : Goes m (source_start (text_of m) k args) (thread_start m.machine.setting k (row_of args)) =
      at_machine m code (λ x. thread_start x k (row_of args)) (source_start (text_of m) k args) ((tie_law m.program m.hosts.entries input (accepted_fits m.program m.hosts program accepted)).start k args there) in
      record {
        program = program;
        accepted = accepted;
        code = code;
        simulates = subst (λ (t : Thread). Goes m m.state t) (sym thread) (subst (λ (s : Source). Goes m s (thread_start m.machine.setting k (row_of args))) (sym state) begins);
        requests = subst (λ (s : Source). TopFits (text_of m) s.frames) (sym state) ((requests_fit (text_of m)).start k args);
      };
  turn = λ m sound e. record {
    program = sound.program;
    accepted = sound.accepted;
    code = sound.code;
    simulates = at_machine m sound.code (λ x. thread_turn x m.machine.thread) (source_turn (text_of m) m.state) ((tie_law m.program m.hosts.entries m.machine.setting.input (fits_of m sound)).turn m.state m.machine.thread sound.simulates e);
    requests = (requests_fit (text_of m)).turn m.state sound.requests;
  };
  answer = λ m e sound asks fits. record {
    program = sound.program;
    accepted = sound.accepted;
    code = sound.code;
    simulates = at_machine m sound.code (λ x. thread_answer x m.machine.thread e.reply) (source_answer (text_of m) m.state e.reply)
        ((tie_law m.program m.hosts.entries m.machine.setting.input (fits_of m sound)).answer m.state m.machine.thread e.reply sound.simulates (answers_step (source_ask (text_of m) m.state) e asks));
    requests = (requests_fit (text_of m)).after m.state e sound.requests asks fits;
  };
  child = λ m sound spawns. record {
    program = sound.program;
    accepted = sound.accepted;
    code = sound.code;
    simulates = at_machine m sound.code (λ x. thread_child x m.machine.thread) (source_child (text_of m) m.state) ((tie_law m.program m.hosts.entries m.machine.setting.input (fits_of m sound)).child m.state m.machine.thread sound.simulates spawns);
    requests = (requests_fit (text_of m)).child m.state;
  };
  shows = shows;
  asks = asks_fit;
}

-- a join whose type isn't named
join_untyped : (ty : Option Ty) (r : Reply) (p : Plain) → JoinFits ty r p × (IsTrap p → ⊥) → JoinFits None r p
join_untyped None r p h = h.0
join_untyped (Some ty) r (plain.Value v) h = tt
join_untyped (Some ty) r (plain.Trapped t) h = absurd (h.1 tt)
join_untyped (Some ty) r (plain.Made a) h = h.0
join_untyped (Some ty) r (plain.Copied c) h = h.0
join_untyped (Some ty) r plain.Done h = h.0
join_untyped (Some ty) r (plain.Retagged a) h = h.0
join_untyped (Some ty) r (plain.Spawned c) h = h.0

pub fits_untyped : FitsUntyped
fits_untyped ty e (request.Join c) h = (join_untyped ty e.reply e.reply.plain h, h.1)
fits_untyped ty e other h = h

-- ---- the calls of a machine

-- as many functions as in the program
functions_wide : (fs : List Function) (hosts : List HostEntry) (n : ℕ) (gs : List Function) → length (functions_code fs hosts n gs) ≡ length gs
functions_wide fs hosts n [] = refl
functions_wide fs hosts n (g ∷ gs) = ap suc (functions_wide fs hosts (blocks_end n g.blocks) gs)

pub function_there : (v : Verified) (target : Target) (k : ℕ) → target ≡ translation v.hosts.entries v.program → k < length v.program.functions → k < length target.functions
function_there v target k code there =
    subst (λ n. k < n) (sym (ap (λ (z : Target). length z.functions) code ∙ functions_wide v.program.functions v.hosts.entries 0 v.program.functions)) there

-- a machine is the one with these parts
pub view_is : (v : Verified) (m n : MachineView) (s t : Source) → m ≡ n → s ≡ t → sound_view v m s ≡ sound_view v n t
view_is v m n s t em es = ap (λ z. sound_view v z s) em ∙ ap (sound_view v n) es

pub begun_sound : (v : Verified) (target : Target) (input : List ℕ) (k : ℕ) (args : List Arg) → target ≡ translation v.hosts.entries v.program → k < length v.program.functions → IsSound (begun v target input k args)
begun_sound v target input k args code there = sound_law.start (begun v target input k args) k args v.is_program v.accepted code there refl refl

-- a machine and a thread over the text are sound where they are those of a sound one
pub placed : (v : Verified) (input : List ℕ) (n : MachineView) (t : Source) (m : MachineView) (s : Source) → m ≡ n → s ≡ t → input ≡ n.setting.input → IsSound (sound_view v n t) → IsSound (sound_view v m s) × (input ≡ m.setting.input)
placed v input n t m s em es ei sound = (subst IsSound (sym (view_is v m n s t em es)) sound, ei ∙ sym (ap (λ (z : MachineView). z.setting.input) em))

-- what is answered has what its value has
pub ok_fits : {A E : Type 0} (r : Result A E) (x : A) (P : A → Type 0) → IfOk r (λ a. a ≡ x) → P x → IfOk r P
ok_fits (Ok a) x P e p = subst P (sym e) p
ok_fits (Err e) x P h p = h
