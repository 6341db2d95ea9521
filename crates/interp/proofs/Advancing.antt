-- A running thread goes on: by local turns, by an entry that starts no other, to its end.
use Rattle.std.proofs.Common.{◌≡◌, ℕ, ◌≤◌, le_refl, List, [], ◌∷◌, ◌++◌, length, refl, sym, ◌∙◌, ap, subst, arith, Contains, inl, sum_by}
use Rattle.std.specs.Prelude.{Some, None}
use Rattle.std.specs.declared.option.Option.{Option}
use Rattle.std.specs.declared.alloc.Global.{Global}
use Rattle.std.specs.declared.vec.Vec.{Vec}
use Rattle.bsan_ids.specs.declared.numbers.Prov.{Prov}
use Rattle.bsan_ids.specs.declared.numbers.ThreadNo.{ThreadNo}
use Rattle.history.specs.declared.trap.Trap.{Trap}
use Rattle.history.specs.declared.trap.Trap.TheVariants as trap
use Rattle.history.specs.declared.ask.Ask.{Ask}
use Rattle.history.specs.declared.ask.Ask.TheVariants as ask
use Rattle.history.specs.declared.ask.MachineEnd.{MachineEnd}
use Rattle.history.specs.declared.ask.MachineEnd.TheVariants as end
use Rattle.history.specs.declared.entry.Entry.{Entry}
use Rattle.history.specs.declared.entry.Plain.{Plain}
use Rattle.history.specs.declared.entry.Request.{Request}
use Rattle.history.specs.declared.entry.Request.TheVariants as request
use Rattle.history.specs.declared.log.End.{End}
use Rattle.history.specs.declared.log.End.TheVariants as log_end
use Rattle.ir_ast.specs.declared.hosts.HostTable.{HostTable}
use Rattle.runs.specs.Machine.{MayGoOn, SettlesWithin}
use Rattle.runs.specs.Objects.{objects}
use Rattle.runs.specs.Parts.{Answers, IsOnNumber, child_of}
use Rattle.runs.specs.Right.{alloc_limit_of, thread_limit_of, beyond_of}
use Rattle.runs.specs.Threads.{EndsAs, IsOwnTrap}
use Rattle.runs.specs.Tree.{HasStopped, EndAbove}
use Rattle.source_runs.specs.Invariant.{Told}
use Rattle.source_sem.specs.Children.{with_child}
use Rattle.source_sem.specs.Records.{allowed}
use Rattle.source_sem.specs.Source.{Setting, Source, source, source_ask, source_site, source_fits, source_answer, source_child, frames_type}
use Rattle.source_sem.proofs.Stepping.{counts_within, spawns_start}
use Rattle.turn_lock.specs.Plays.{DeskView}
use Rattle.alloc_space.specs.Spaces.{SpaceView}
use Rattle.interp.specs.declared.running.Running.{Running}
use Rattle.interp.specs.Came.{AsksPlainly, IsDone, IsOver, IsStepEnd}
use Rattle.interp.specs.Desks.{Over, running, DeskEnd}
use Rattle.instr_sound.specs.Settling.{IsHalt, machine_end}
use Rattle.interp.specs.Running.{IsOfChildren, view_of, kids_of, below_of, own_roots_of, IsGoingAs, IsGoing, GoesOn, HasEnded}
use Rattle.interp.specs.Views.{ThreadView, IsKept, Knows, StepFits, EndFits, answered, child_view}
use Rattle.interp.proofs.Children.{children_drawn, children_entry}
use Rattle.interp.proofs.Coming.{desk_saw}
use Rattle.interp.proofs.Going.{goes_settled, goes_entry, goes_over}
use Rattle.interp.proofs.Keeping.{kept_entry, kept_settled, asks_fit, returns_typed, traps_own}
use Rattle.interp.proofs.Replies.{no_child}

on_number : (r : Request) (c : ThreadNo) → r ≡ request.Join c → IsOnNumber r → ⊥
on_number r c is on = let R : Request → Type 0 = λ q. IsOnNumber q in subst R is on

on_spawn : (r : Request) (f : ℕ) → r ≡ request.Spawn f → IsOnNumber r → ⊥
on_spawn r f is on = let R : Request → Type 0 = λ q. IsOnNumber q in subst R is on

pub no_join : (a : Ask) (e : Entry) (c : ThreadNo) → AsksPlainly a → Answers a e → e.request ≡ request.Join c → ⊥
no_join ask.Turn e c plain answers is = plain
no_join (ask.Ended end) e c plain answers is = plain
no_join (ask.Spawn f) e c plain answers is = plain
no_join (ask.Join d) e c plain answers is = plain
no_join (ask.Make size place) e c plain answers is = let p : request.Make size place ≡ request.Join c = sym answers ∙ is in cc
no_join (ask.At a r) e c plain answers is = on_number r c (sym answers.0 ∙ is) answers.2
no_join (ask.Print v) e c plain answers is = let p : request.Print v ≡ request.Join c = sym answers.0 ∙ is in cc
no_join (ask.Host n x y) e c plain answers is = let p : request.Host n x y ≡ request.Join c = sym answers.0 ∙ is in cc

no_spawn : (a : Ask) (e : Entry) (f : ℕ) → AsksPlainly a → Answers a e → e.request ≡ request.Spawn f → ⊥
no_spawn ask.Turn e f plain answers is = plain
no_spawn (ask.Ended end) e f plain answers is = plain
no_spawn (ask.Spawn g) e f plain answers is = plain
no_spawn (ask.Join d) e f plain answers is = plain
no_spawn (ask.Make size place) e f plain answers is = let p : request.Make size place ≡ request.Spawn f = sym answers ∙ is in cc
no_spawn (ask.At a r) e f plain answers is = on_spawn r f (sym answers.0 ∙ is) answers.2
no_spawn (ask.Print v) e f plain answers is = let p : request.Print v ≡ request.Spawn f = sym answers.0 ∙ is in cc
no_spawn (ask.Host n x y) e f plain answers is = let p : request.Host n x y ≡ request.Spawn f = sym answers.0 ∙ is in cc

-- a request that starts no thread tells of none
pub told_none : (K : ℕ → ℕ → Type 0) (r : Request) (p : Plain) → ((f : ℕ) → r ≡ request.Spawn f → ⊥) → Told K r p
told_none K (request.Spawn f) p none = absurd (none f refl)
told_none K _ p none = tt

memory_end : (c : ThreadNo) → log_end.NoMemory ≡ log_end.ChildEnded c → ⊥
memory_end c e = cc

step_end_fits : (x : Setting) (f : ℕ) (why : End) → IsStepEnd why → EndFits x f why
step_end_fits x f (log_end.Returned v p) h = absurd h
step_end_fits x f _ h = tt

step_end_joins : (why : End) (c : ThreadNo) → IsStepEnd why → why ≡ log_end.ChildEnded c → ⊥
step_end_joins why c h is = subst IsStepEnd is h

none_some : {B : Type 0} (c : ℕ) → None ≡ Some c → B
none_some c is = cc

-- an end that draws no number
pub record DrawsNone (why : End) : Type 0 where
  pub above : (n : ℕ) → EndAbove n why
  pub stamps : beyond_of why ≡ []
  pub allocs : alloc_limit_of why ≡ []
  pub threads : thread_limit_of why ≡ []

pub turn_limit_draws : DrawsNone log_end.TurnLimit
turn_limit_draws = record { above = λ n. tt; stamps = refl; allocs = refl; threads = refl }

pub returned_draws : (w : ℕ) (p : Option Prov) → DrawsNone (log_end.Returned w p)
returned_draws w p = record { above = λ n. tt; stamps = refl; allocs = refl; threads = refl }

pub child_ended_draws : (c : ThreadNo) → DrawsNone (log_end.ChildEnded c)
child_ended_draws c = record { above = λ n. tt; stamps = refl; allocs = refl; threads = refl }

pub trapped_draws : (t : Trap) → IsOwnTrap t → DrawsNone (log_end.Trapped t)
trapped_draws (trap.AllocLimit d) own = absurd own
trapped_draws (trap.ThreadLimit d) own = absurd own
trapped_draws _ own = record { above = λ n. tt; stamps = refl; allocs = refl; threads = refl }

pub turn_limit_joins : (c : ThreadNo) → log_end.TurnLimit ≡ log_end.ChildEnded c → ⊥
turn_limit_joins c e = cc

pub returned_joins : (w : ℕ) (p : Option Prov) (c : ThreadNo) → log_end.Returned w p ≡ log_end.ChildEnded c → ⊥
returned_joins w p c e = cc

pub trapped_joins : (t : Trap) (c : ThreadNo) → log_end.Trapped t ≡ log_end.ChildEnded c → ⊥
trapped_joins t c e = cc

-- machines that show the same
module _ {T : Type 0} (setting : T → Setting) (state : T → Source) (m n : T) where
  pub same_view : setting m ≡ setting n → state m ≡ state n → view_of setting state m ≡ view_of setting state n
  same_view p q = λ i. record { setting = p i; state = q i }

  pub answered_view : (e : Entry) → setting m ≡ setting n → state m ≡ source_answer (setting n) (state n) e.reply → view_of setting state m ≡ answered (view_of setting state n) e
  answered_view e p q = λ i. record { setting = p i; state = q i }

  pub child_is : setting m ≡ setting n → state m ≡ source_child (setting n) (state n) → view_of setting state m ≡ child_view (view_of setting state n)
  child_is p q = λ i. record { setting = p i; state = q i }

module _ {T : Type 0} (setting : T → Setting) (state : T → Source) (space : SpaceView) (r : Running T) where
  -- with the same machine, up to memory, and the same entries
  module _ (m : T) (same : view_of setting state m ≡ view_of setting state r.machine) (es : Vec Entry Global) (items : es.items ≡ r.entries.items) where
    pub over_goes : (d : DeskView) (over : Over) → d.table ≡ r.desk.table → DeskEnd (source_ask (setting r.machine) (state r.machine)) r.desk.view d.view over → ((c : ℕ) → Contains r.desk.view.threads.own c → Contains d.view.threads.own c)
        → IsGoing setting state space running r → IsGoing setting state space over (record r { machine = m; desk = d; entries = es })
    over_goes d over own ends threads g =
        let v : ThreadView = view_of setting state r.machine in
        subst (λ (w : ThreadView). IsGoingAs setting state space over w (kids_of setting state r) (record r { machine = m; desk = d; entries = es })) (sym same) (record {
          own = own ∙ g.own;
          start_own = g.start_own;
          same_setting = g.same_setting;
          runnable = g.runnable;
          kept = subst (λ (l : List Entry). IsKept v.setting l r.function v.state) (sym items) g.kept;
          goes = rw items (goes_over objects (allowed space.limits r.hosts.value) space.limits r.number r.start.value.view.seen (source v.setting) (state r.began.value) v.state v.state r.desk.view d.view r.entries.items (below_of setting state r) (own_roots_of setting state r) (kids_of setting state r) over ends g.goes);
          promised = g.promised;
          children = subst (λ (l : List Entry). IsOfChildren l v.state.started d.view.threads.own (kids_of setting state r) (own_roots_of setting state r)) (sym items)
              (children_drawn r.entries.items v.state.started r.desk.view.threads.own d.view.threads.own (kids_of setting state r) (own_roots_of setting state r) threads g.children);
          returns = g.returns;
          room = g.room;
        })

    pub ends_memory : GoesOn setting state space r → HasEnded setting state space log_end.NoMemory (record r { machine = m; entries = es })
    ends_memory g = record {
      over = running;
      over_is = refl;
      going = over_goes r.desk running refl (desk_saw space.limits (source_ask (setting r.machine) (state r.machine)) r.desk.view g.ready.turn r.desk.view.seen (le_refl _)) (λ c h. h) g.going;
      ends = tt;
      fits = tt;
      joined = λ c is. absurd (memory_end c is);
    }

    pub ends_step : (d : DeskView) (a : Ask) (why : End) → a ≡ source_ask (setting r.machine) (state r.machine) → MayGoOn (source (setting r.machine)) space.limits.turns (state r.machine)
        → IsOver space.limits a r.desk d why → GoesOn setting state space r → HasEnded setting state space why (record r { machine = m; desk = d; entries = es })
    ends_step d a why asks may o g = record {
      over = o.over;
      over_is = o.over_is;
      going = over_goes d o.over o.own (subst (λ b. DeskEnd b r.desk.view d.view o.over) asks o.desk) (λ c h. subst (λ own. Contains own c) (sym o.threads) h) g.going;
      ends = subst (λ (w : ThreadView). EndsAs (source w.setting) space.limits w.state why) (sym same) (o.ends (setting r.machine) (state r.machine) (sym asks) may);
      fits = step_end_fits (setting m) r.function why o.kind;
      joined = λ c is. absurd (step_end_joins why c o.kind is);
    }

  -- an entry that starts no other thread, and joins none
  module _ (m : T) (d : DeskView) (es : Vec Entry Global) (a : Ask) (e : Entry) (is : view_of setting state m ≡ answered (view_of setting state r.machine) e) (items : es.items ≡ r.entries.items ++ e ∷ []) (asks : a ≡ source_ask (setting r.machine) (state r.machine))
      (may : MayGoOn (source (setting r.machine)) space.limits.turns (state r.machine)) (plain : AsksPlainly a) (o : IsDone space.limits r.hosts.value r.number (source_site (state r.machine)) a r.desk d e) (g : GoesOn setting state space r) where
    pub entry_goes : GoesOn setting state space (record r { machine = m; desk = d; entries = es })
    entry_goes =
        let v : ThreadView = view_of setting state r.machine in
        let n = o.entry in
        let asked : Answers (source_ask v.setting v.state) e = subst (λ b. Answers b e) asks n.answers in
        let fit : source_fits v.setting v.state e = n.fitting.fits (frames_type v.setting v.state.frames) in
        let none : child_of e ≡ None = no_child e.request e.reply.plain n.fitting.alone in
        let after : ThreadView = answered v e in
        record {
          ready = o.ready;
          going = subst (λ (w : ThreadView). IsGoingAs setting state space running w (kids_of setting state r) (record r { machine = m; desk = d; entries = es })) (sym is) (record {
            own = o.own ∙ g.going.own;
            start_own = g.going.start_own;
            same_setting = g.going.same_setting;
            runnable = g.going.runnable;
            kept = subst (λ (l : List Entry). IsKept v.setting l r.function after.state) (sym items)
                (kept_entry v.setting r.hosts.value g.going.runnable r.entries.items r.function v.state g.going.kept e asked fit (λ c at. none_some c (sym none ∙ at)) n.fitting.plain n.fitting.own
                (told_none (Knows (r.entries.items ++ e ∷ [])) e.request e.reply.plain (λ f at. no_spawn a e f plain n.answers at)));
            goes = rw items (goes_entry objects (allowed space.limits r.hosts.value) space.limits r.number r.start.value.view.seen (source v.setting) (state r.began.value) v.state after.state r.desk.view d.view r.entries.items (below_of setting state r) (own_roots_of setting state r) (kids_of setting state r) e
                may (sym n.site) asked fit none n.thread refl (counts_within v.setting v.state e.reply space.limits.turns may g.going.goes.run.count) n.right (λ c joins. absurd (no_join a e c plain n.answers joins)) o.desk g.going.goes);
            promised = g.going.promised;
            children = subst (λ (l : List Entry). IsOfChildren l after.state.started d.view.threads.own (kids_of setting state r) (own_roots_of setting state r)) (sym items)
                (subst (λ (own : List ℕ). IsOfChildren (r.entries.items ++ e ∷ []) after.state.started own (kids_of setting state r) (own_roots_of setting state r)) (sym o.threads)
                (children_entry r.entries.items e v.state.started after.state.started r.desk.view.threads.own (kids_of setting state r) (own_roots_of setting state r) none ((spawns_start v.setting).after v.state e asked fit ∙ ap (λ c. with_child c v.state.started) none) g.going.children));
            returns = g.going.returns;
            room = g.going.room;
          });
        }

  -- local turns
  pub settled_goes : (m : T) → setting m ≡ setting r.machine → SettlesWithin (source (setting r.machine)) space.limits.turns (state r.machine) (state m) → (state m).count ≤ space.limits.turns
      → IsKept (setting r.machine) r.entries.items r.function (state m) → (state m).started ≡ (state r.machine).started
      → GoesOn setting state space r → GoesOn setting state space (record r { machine = m })
  settled_goes m set went count kept started g =
      let v : ThreadView = view_of setting state r.machine in
      let s : Source = state m in
      let is : view_of setting state m ≡ record { setting = v.setting; state = s } = λ i. record { setting = set i; state = s } in
      record {
        ready = g.ready;
        going = subst (λ (w : ThreadView). IsGoingAs setting state space running w (kids_of setting state r) (record r { machine = m })) (sym is) (record {
          own = g.going.own;
          start_own = g.going.start_own;
          same_setting = g.going.same_setting;
          runnable = g.going.runnable;
          kept = kept;
          goes = goes_settled objects (allowed space.limits r.hosts.value) space.limits r.number r.start.value.view.seen (source v.setting) (state r.began.value) v.state s r.desk.view r.desk.view r.entries.items (below_of setting state r) (own_roots_of setting state r) (kids_of setting state r) went count g.going.goes;
          promised = g.going.promised;
          children = subst (λ (cs : List ℕ). IsOfChildren r.entries.items cs r.desk.view.threads.own (kids_of setting state r) (own_roots_of setting state r)) (sym started) g.going.children;
          returns = g.going.returns;
          room = g.going.room;
        });
      }

  -- local turns within a limit that is the run's
  pub settled_on : (m : T) (turns : ℕ) → turns ≡ space.limits.turns → setting m ≡ setting r.machine → SettlesWithin (source (setting r.machine)) turns (state r.machine) (state m) → (state m).count ≤ turns
      → GoesOn setting state space r → GoesOn setting state space (record r { machine = m })
  settled_on m turns same set went count g =
      let all = kept_settled (setting r.machine) r.hosts.value g.going.runnable r.entries.items r.function turns (state r.machine) (state m) went g.going.kept in
      settled_goes m set (subst (λ n. SettlesWithin (source (setting r.machine)) n (state r.machine) (state m)) same went) (omega (arith, same, count)) all.0 all.1 g

  -- what the thread asks fits
  pub step_fits : (a : Ask) (hosts : HostTable) → a ≡ source_ask (setting r.machine) (state r.machine) → r.hosts.value ≡ hosts → GoesOn setting state space r → StepFits (length hosts.entries) a
  step_fits a hosts asks same g = subst (λ (h : HostTable). StepFits (length h.entries) a) same (asks_fit (setting r.machine) r.hosts.value g.going.runnable r.entries.items r.function (state r.machine) g.going.kept a (sym asks))

  -- the end of a thread that draws nothing at it
  pub ends_plainly : (why : End) → DrawsNone why → EndsAs (source (setting r.machine)) space.limits (state r.machine) why → EndFits (setting r.machine) r.function why
      → ((c : ThreadNo) → why ≡ log_end.ChildEnded c → HasStopped (below_of setting state r) c)
      → GoesOn setting state space r → HasEnded setting state space why r
  ends_plainly why light ends fits joined g = record {
    over = record { «end» = why; allocs = []; threads = [] };
    over_is = refl;
    going = over_goes r.machine refl r.entries refl r.desk record { «end» = why; allocs = []; threads = [] } refl (record {
      name = refl;
      turn = g.ready.turn;
      outs = refl;
      seen = le_refl _;
      above = light.above r.desk.view.seen;
      calls = refl;
      stamps = λ h. let a = ap (sum_by h) light.stamps in let none : sum_by h [] ≡ 0 = refl in omega (arith, a, none);
      allocs = λ h. let a = ap (sum_by h) light.allocs in let none : sum_by h [] ≡ 0 = refl in omega (arith, a, none);
      threads = λ h. let a = ap (sum_by h) light.threads in let none : sum_by h [] ≡ 0 = refl in omega (arith, a, none);
      few = record { allocs = let a = ap (λ (l : List ℕ). length l) light.allocs in omega (arith, a); threads = let a = ap (λ (l : List ℕ). length l) light.threads in omega (arith, a) };
    }) (λ c h. h) g.going;
    ends = ends;
    fits = fits;
    joined = joined;
  }

  -- the end of a thread by its own
  pub machine_ends : (e : MachineEnd) → source_ask (setting r.machine) (state r.machine) ≡ ask.Ended e → MayGoOn (source (setting r.machine)) space.limits.turns (state r.machine)
      → GoesOn setting state space r → HasEnded setting state space (machine_end e) r
  machine_ends (end.Returned w p) asks may on =
      ends_plainly (log_end.Returned w p) (returned_draws w p) (asks, may) (returns_typed (setting r.machine) r.hosts.value on.going.runnable r.entries.items r.function (state r.machine) on.going.kept w p asks) (λ k is. absurd (returned_joins w p k is)) on
  machine_ends (end.Trapped t) asks may on =
      ends_plainly (log_end.Trapped t) (trapped_draws t (traps_own (setting r.machine) r.hosts.value on.going.runnable r.entries.items r.function (state r.machine) on.going.kept t asks)) (inl asks, may) tt (λ k is. absurd (trapped_joins t k is)) on

-- the end of a thread that halts before it asks for a step
pub halted : {T : Type 0} (setting : T → Setting) (state : T → Source) (space : SpaceView) (r : Running T) (m : T) (why : End) → IsHalt (setting m) space.limits.turns (state m) why
    → GoesOn setting state space (record r { machine = m }) → HasEnded setting state space why (record r { machine = m })
halted setting state space r m log_end.TurnLimit halt on =
    ends_plainly setting state space (record r { machine = m }) log_end.TurnLimit turn_limit_draws (halt.0, halt.1) tt (λ k is. absurd (turn_limit_joins k is)) on
halted setting state space r m log_end.NoMemory halt on = ends_memory setting state space (record r { machine = m }) m refl r.entries refl on
halted setting state space r m (log_end.Returned w p) halt on = absurd halt
halted setting state space r m (log_end.Trapped t) halt on = absurd halt
halted setting state space r m (log_end.StepLimit k) halt on = absurd halt
halted setting state space r m (log_end.ChildEnded c) halt on = absurd halt
