-- A running thread is about to start a child: its Spawn entry is made, and the child's desk split off.
use Rattle.std.proofs.Common.{◌≡◌, ℕ, ◌<◌, ◌≤◌, ◌^◌, le_refl, List, [], ◌∷◌, ◌++◌, refl, sym, ◌∙◌, ap, subst, arith, Contains, inl, inr, sum_by}
use Rattle.std.specs.Prelude.{Some, None}
use Rattle.std.specs.declared.alloc.Global.{Global}
use Rattle.std.specs.declared.vec.Vec.{Vec}
use Rattle.std.proofs.lemmas.List.Sums.{sum_by_push, sum_by-append, sum_by-cons}
use Rattle.std.proofs.lemmas.List.Elements.{All-push, Contains-append_left}
use Rattle.bsan_ids.specs.declared.numbers.AllocNo.{AllocNo}
use Rattle.bsan_ids.specs.declared.numbers.Limits.{Limits}
use Rattle.bsan_ids.specs.declared.numbers.Stamp.{Stamp}
use Rattle.bsan_ids.specs.declared.numbers.ThreadNo.{ThreadNo}
use Rattle.history.specs.declared.ask.Ask.TheVariants as ask
use Rattle.history.specs.declared.entry.Entry.{Entry}
use Rattle.history.specs.declared.entry.Plain.TheVariants as plain
use Rattle.history.specs.declared.entry.Reply.{Reply}
use Rattle.history.specs.declared.entry.Request.TheVariants as request
use Rattle.history.specs.declared.entry.Verdict.TheVariants as verdict
use Rattle.history.specs.declared.log.End.TheVariants as log_end
use Rattle.history.specs.declared.trap.Trap.TheVariants as trap
use Rattle.history.specs.Merge.{stamp_of}
use Rattle.runs.specs.Machine.{MayGoOn}
use Rattle.runs.specs.Objects.{objects}
use Rattle.runs.specs.Parts.{Answers, child_of, spawned_of, spawned_by}
use Rattle.runs.specs.Right.{made_by, spawned_by_reply}
use Rattle.runs.specs.Threads.{AsksStep, AsksSpawn}
use Rattle.runs.specs.Tree.{IsEntryRight, IsStepRight}
use Rattle.source_runs.specs.Invariant.{Told, PlainFits}
use Rattle.source_sem.specs.Children.{with_child}
use Rattle.source_sem.specs.Records.{allowed}
use Rattle.source_sem.specs.Source.{Setting, Source, source, source_ask, source_site, source_fits, frames_type, source_child}
use Rattle.source_sem.specs.Traps.{PlainIsOwn}
use Rattle.source_sem.proofs.Stepping.{counts_within, spawns_start}
use Rattle.thread_parts.specs.Fits.{ReplyFits, SpawnedChild}
use Rattle.thread_parts.specs.Words.{number_in}
use Rattle.turn_lock.specs.Steps.{drew_thread, parted}
use Rattle.turn_lock.specs.Steps as steps
use Rattle.turn_lock.specs.Plays.{DeskView}
use Rattle.turn_lock.specs.declared.view.View.{View}
use Rattle.alloc_space.specs.Spaces.{SpaceView}
use Rattle.alloc_space.specs.Steps.{stamped, stepped_by, IsNumbered, IsNote, IsPastSteps}
use Rattle.interp.specs.declared.child.Begun.{Begun}
use Rattle.interp.specs.declared.running.Running.{Running}
use Rattle.interp.specs.Desks.{Over, running, DeskEnd, DeskStep, IsReady}
use Rattle.interp.specs.Goes.{Kid, Goes}
use Rattle.interp.specs.Running.{IsOfChildren, view_of, kids_of, below_of, own_roots_of, IsGoingAs, IsGoing, GoesOn, HasEnded, IsFirst, begun_kid}
use Rattle.interp.specs.Views.{ThreadView, IsKept, Knows, Starts, answered, child_view, Begins}
use Rattle.interp.proofs.Advancing.{over_goes}
use Rattle.interp.proofs.Children.{children_spawned}
use Rattle.interp.proofs.Going.{goes_spawn}
use Rattle.interp.proofs.Keeping.{kept_entry, child_begins}
use Rattle.interp.proofs.Members.{has_right}

-- ends at a Spawn
module _ (function : ℕ) (v : View) (idle : v.turn ≡ None) where
  thread_beyond : (n : ℕ) → DeskEnd (ask.Spawn function) v (drew_thread v n) record { «end» = log_end.Trapped (trap.ThreadLimit n); allocs = []; threads = [] }
  thread_beyond n = record {
    name = refl;
    turn = idle;
    outs = refl;
    seen = le_refl _;
    above = tt;
    calls = refl;
    stamps = λ h. let none : sum_by h [] ≡ 0 = refl in omega (arith, none);
    allocs = λ h. let none : sum_by h [] ≡ 0 = refl in omega (arith, none);
    threads = λ h. let none : sum_by h [] ≡ 0 = refl in omega (arith, none, sum_by_push h v.threads.own n, sum_by-cons h n []);
    few = record { allocs = omega arith; threads = omega arith };
  }

  thread_past : (n s : ℕ) → v.seen < s → DeskEnd (ask.Spawn function) v (stamped (drew_thread v n) s) record { «end» = log_end.StepLimit record { 0 = s }; allocs = []; threads = n ∷ [] }
  thread_past n s lt = record {
    name = refl;
    turn = idle;
    outs = refl;
    seen = omega (arith, lt);
    above = lt;
    calls = refl;
    stamps = λ h. let none : sum_by h [] ≡ 0 = refl in omega (arith, none, sum_by_push h v.stamps.own s, sum_by-cons h s []);
    allocs = λ h. let none : sum_by h [] ≡ 0 = refl in omega (arith, none);
    threads = λ h. let none : sum_by h [] ≡ 0 = refl in omega (arith, none, sum_by_push h v.threads.own n, sum_by-cons h n []);
    few = record { allocs = omega arith; threads = omega arith };
  }

none_is_some : (a : AllocNo) → None ≡ Some a → ⊥
none_is_some a e = cc

limit_joins : (n : ℕ) (c : ThreadNo) → log_end.Trapped (trap.ThreadLimit n) ≡ log_end.ChildEnded c → ⊥
limit_joins n c e = cc

past_joins : (s : Stamp) (c : ThreadNo) → log_end.StepLimit s ≡ log_end.ChildEnded c → ⊥
past_joins s c e = cc

-- the Spawn entry on the desk
desk_spawn : (limits : Limits) (v : View) (c : ThreadNo) (e : Entry) → v.turn ≡ None → v.seen < stamp_of e → e.alloc ≡ None → made_by e.reply.plain ≡ [] → spawned_by_reply e.reply.plain ≡ c.0 ∷ [] → DeskStep limits v (stepped_by limits (drew_thread v c.0) e) e
desk_spawn limits v c e idle later none none_made starts = record {
  name = refl;
  turn = idle;
  outs = refl;
  later = later;
  seen = refl;
  calls = λ h. rw none (omega (arith, sum_by-append h v.calls []));
  stamps = λ h. omega (arith, sum_by_push h v.stamps.own (stamp_of e));
  allocs = λ h. let a = ap (sum_by h) none_made in let nothing : sum_by h [] ≡ 0 = refl in omega (arith, a, nothing);
  threads = λ h. let a = ap (sum_by h) starts in let nothing : sum_by h [] ≡ 0 = refl in omega (arith, a, nothing, sum_by_push h v.threads.own c.0, sum_by-cons h c.0 []);
}

module _ {T : Type 0} (setting : T → Setting) (state : T → Source) (space : SpaceView) (r : Running T) (function : ℕ)
    (asks : source_ask (setting r.machine) (state r.machine) ≡ ask.Spawn function) (may : MayGoOn (source (setting r.machine)) space.limits.turns (state r.machine)) (on : GoesOn setting state space r) where
  own_more : (xs ys : List ℕ) (n : ℕ) → ys ≡ xs ++ n ∷ [] → (c : ℕ) → Contains xs c → Contains ys c
  own_more xs ys n is c h = subst (λ zs. Contains zs c) (sym is) (Contains-append_left xs (n ∷ []) c h)

  pub ends_thread_limit : (d : DeskView) (n : ℕ) → 1023 < n → IsNumbered r.desk d n → HasEnded setting state space (log_end.Trapped (trap.ThreadLimit n)) (record r { desk = d })
  ends_thread_limit d n above num =
      let o : Over = record { «end» = log_end.Trapped (trap.ThreadLimit n); allocs = []; threads = [] } in record {
        over = o;
        over_is = refl;
        going = over_goes setting state space r r.machine refl r.entries refl d o (ap (λ (x : DeskView). x.table) num.desk)
            (subst (λ a. DeskEnd a r.desk.view d.view o) (sym asks) (subst (λ (x : DeskView). DeskEnd (ask.Spawn function) r.desk.view x.view o) (sym num.desk) (thread_beyond function r.desk.view on.ready.turn n)))
            (own_more r.desk.view.threads.own d.view.threads.own n (ap (λ (x : DeskView). x.view.threads.own) num.desk)) on.going;
        ends = (inr (subst AsksSpawn (sym asks) tt, above), may);
        fits = tt;
        joined = λ c is. absurd (limit_joins n c is);
      }

  pub ends_past_spawn : (d f : DeskView) (n : ℕ) (s : Stamp) → IsNumbered r.desk d n → IsPastSteps space.limits d f s.0 → HasEnded setting state space (log_end.StepLimit s) (record r { desk = f })
  ends_past_spawn d f n s num past =
      let o : Over = record { «end» = log_end.StepLimit s; allocs = []; threads = n ∷ [] } in
      let is : f ≡ record { table = r.desk.table; view = stamped (drew_thread r.desk.view n) s.0 } = past.desk ∙ ap (λ (x : DeskView). record { table = x.table; view = stamped x.view s.0 }) num.desk in
      let later : r.desk.view.seen < s.0 = subst (λ (x : DeskView). x.view.seen < s.0) num.desk past.later in record {
        over = o;
        over_is = refl;
        going = over_goes setting state space r r.machine refl r.entries refl f o (ap (λ (x : DeskView). x.table) is)
            (subst (λ a. DeskEnd a r.desk.view f.view o) (sym asks) (subst (λ (x : DeskView). DeskEnd (ask.Spawn function) r.desk.view x.view o) (sym is) (thread_past function r.desk.view on.ready.turn n s.0 later)))
            (own_more r.desk.view.threads.own f.view.threads.own n (ap (λ (x : DeskView). x.view.threads.own) is)) on.going;
        ends = (subst AsksStep (sym asks) tt, past.above, may);
        fits = tt;
        joined = λ c is. absurd (past_joins s c is);
      }

  module _ (m : T) (d f next : DeskView) (es : Vec Entry Global) (e : Entry) (b : Begun T) (is : view_of setting state m ≡ answered (view_of setting state r.machine) e) (items : es.items ≡ r.entries.items ++ e ∷ [])
      (num : IsNumbered r.desk d b.number.0) (few : b.number.0 ≤ 1023)
      (note : IsNote space.limits r.number (source_site (state r.machine)) (request.Spawn function) record { plain = plain.Spawned b.number; carried = None; verdict = verdict.Clean } d f e)
      (is_next : next ≡ record { table = f.table; view = parted f.view b.number.0 }) (is_desk : b.desk ≡ record { table = f.table; view = steps.child_of f.view b.number.0 }) (is_function : b.function ≡ function)
      (is_child : view_of setting state b.machine ≡ child_view (view_of setting state r.machine)) where
    abbrev v : ThreadView
    v = view_of setting state r.machine

    abbrev c : ThreadNo
    c = b.number

    abbrev k : Kid Source
    k = begun_kid setting state b

    g : IsGoing setting state space running r
    g = on.going

    plain_is : e.reply.plain ≡ plain.Spawned c
    plain_is = ap (λ (x : Reply). x.plain) note.reply_is

    child : child_of e ≡ Some c.0
    child = ap (λ q. spawned_by q e.reply.plain) note.entry.request_is ∙ ap spawned_of plain_is

    asked : Answers (source_ask v.setting v.state) e
    asked = subst (λ a. Answers a e) (sym asks) (note.entry.request_is, note.entry.alloc_is)

    at_f : f ≡ record { table = r.desk.table; view = stepped_by space.limits (drew_thread r.desk.view c.0) e }
    at_f = note.step.desk ∙ ap (λ (x : DeskView). record { table = x.table; view = stepped_by space.limits x.view e }) num.desk

    later : r.desk.view.seen < stamp_of e
    later = subst (λ (x : DeskView). x.view.seen < stamp_of e) num.desk note.step.later

    positive : 0 < c.0
    positive = let a = num.greater in omega (arith, a)

    pub greater : r.number.0 < c.0
    greater = let a = num.greater in let n = g.goes.on_desk.name in omega (arith, a, n)

    short : c.0 < 2 ^ 32
    short = omega (arith, few)

    step : DeskStep space.limits r.desk.view f.view e
    step = subst (λ (x : DeskView). DeskStep space.limits r.desk.view x.view e) (sym at_f)
        (desk_spawn space.limits r.desk.view c e on.ready.turn later note.entry.alloc_is (ap made_by plain_is) (ap spawned_by_reply plain_is))

    right : IsStepRight objects (allowed space.limits r.hosts.value) space.limits e
    right = record {
      right = subst (λ q. IsEntryRight (allowed space.limits r.hosts.value) e q) (sym note.entry.request_is) (c, positive, few, note.reply_is);
      within = note.step.within;
      outside = λ a at. absurd (none_is_some a (sym note.entry.alloc_is ∙ at));
    }

    fit : source_fits v.setting v.state e
    fit = subst (λ q. ReplyFits (frames_type v.setting v.state.frames) e q) (sym note.entry.request_is) (subst SpawnedChild (sym plain_is) short)

    same_kid : record { number = c; function = function; first = source_child v.setting v.state; seen = f.view.seen } ≡ k
    same_kid = λ i. record { number = c; function = sym is_function i; first = (sym is_child i).state; seen = (sym is_desk i).view.seen }

    knows : Knows (r.entries.items ++ e ∷ []) function (number_in e.reply.plain)
    knows = subst (λ n. Knows (r.entries.items ++ e ∷ []) function n) (ap number_in (sym plain_is))
        (inr (record { spawn = e; stands = has_right r.entries.items (e ∷ []) e (inl refl); asks = note.entry.request_is; answers = child }, short))

    told : Told (Knows (r.entries.items ++ e ∷ [])) e.request e.reply.plain
    told = subst (λ q. Told (Knows (r.entries.items ++ e ∷ [])) q e.reply.plain) (sym note.entry.request_is) knows

    some_same : (x y : ℕ) → Some x ≡ Some y → x ≡ y
    some_same x y e = cc

    kept : IsKept v.setting (r.entries.items ++ e ∷ []) r.function (answered v e).state
    kept = kept_entry v.setting r.hosts.value g.runnable r.entries.items r.function v.state g.kept e asked fit (λ n at. subst (λ x. 0 < x) (some_same c.0 n (sym child ∙ at)) positive)
        (subst (λ p. PlainFits p) (sym plain_is) tt) (subst (λ p. PlainIsOwn p) (sym plain_is) tt) told

    goes : Goes (source v.setting) objects (allowed space.limits r.hosts.value) space.limits r.number (state r.began.value) r.start.value.view.seen (answered v e).state next.view running (r.entries.items ++ e ∷ []) (below_of setting state r) (own_roots_of setting state r) (kids_of setting state r ++ k ∷ [])
    goes = subst (λ (x : DeskView). Goes (source v.setting) objects (allowed space.limits r.hosts.value) space.limits r.number (state r.began.value) r.start.value.view.seen (answered v e).state x.view running (r.entries.items ++ e ∷ []) (below_of setting state r) (own_roots_of setting state r) (kids_of setting state r ++ k ∷ [])) (sym is_next)
        (subst (λ (q : Kid Source). Goes (source v.setting) objects (allowed space.limits r.hosts.value) space.limits r.number (state r.began.value) r.start.value.view.seen (answered v e).state (parted f.view c.0) running (r.entries.items ++ e ∷ []) (below_of setting state r) (own_roots_of setting state r) (kids_of setting state r ++ q ∷ [])) same_kid
        (goes_spawn objects (allowed space.limits r.hosts.value) space.limits r.number r.start.value.view.seen (source v.setting) (state r.began.value) v.state (answered v e).state r.desk.view f.view r.entries.items (below_of setting state r) (own_roots_of setting state r) (kids_of setting state r) e function c
        may (sym note.entry.site_is) asked fit note.entry.request_is child greater note.entry.thread_is refl (counts_within v.setting v.state e.reply space.limits.turns may g.goes.run.count) right step g.goes))

    pub begins_child : IsGoingAs setting state space running (view_of setting state m) (kids_of setting state r ++ k ∷ []) (record r { machine = m; desk = next; entries = es })
    begins_child = subst (λ (w : ThreadView). IsGoingAs setting state space running w (kids_of setting state r ++ k ∷ []) (record r { machine = m; desk = next; entries = es })) (sym is) (record {
      own = ap (λ (x : DeskView). x.table) is_next ∙ (ap (λ (x : DeskView). x.table) at_f ∙ g.own);
      start_own = g.start_own;
      same_setting = g.same_setting;
      runnable = g.runnable;
      kept = subst (λ (l : List Entry). IsKept v.setting l r.function (answered v e).state) (sym items) kept;
      goes = rw items goes;
      promised = g.promised;
      children = subst (λ (l : List Entry). IsOfChildren l (answered v e).state.started next.view.threads.own (kids_of setting state r ++ k ∷ []) (own_roots_of setting state r)) (sym items)
          (children_spawned r.entries.items e v.state.started (answered v e).state.started r.desk.view.threads.own next.view.threads.own (kids_of setting state r) (own_roots_of setting state r) k (note.entry.request_is ∙ ap request.Spawn (sym is_function)) child
          ((spawns_start v.setting).after v.state e asked fit ∙ ap (λ o. with_child o v.state.started) child) (ap (λ (x : DeskView). x.view.threads.own) is_next ∙ ap (λ (x : DeskView). x.view.threads.own) at_f) num.greatest g.children);
      returns = g.returns;
      room = g.room;
    })

    pub ready_child : IsReady space.limits next.view
    ready_child = subst (λ (x : DeskView). IsReady space.limits x.view) (sym (is_next ∙ ap (λ (x : DeskView). record { table = x.table; view = parted x.view c.0 }) at_f)) (record {
      stamps = All-push (λ n. n ≤ space.limits.steps) r.desk.view.stamps.own (stamp_of e) on.ready.stamps note.step.within;
      allocs = on.ready.allocs;
      threads = All-push (λ n. n ≤ 1023) r.desk.view.threads.own c.0 on.ready.threads few;
      turn = on.ready.turn;
    })

    pub first_child : IsFirst setting state space r.hosts.value b.number b.function b.machine b.desk
    first_child = record {
      runnable = subst (λ x. Rattle.instr_sound.specs.Mains.IsRunnable x r.hosts.value) (ap (λ (w : ThreadView). w.setting) (sym is_child)) g.runnable;
      begins = subst (λ (w : ThreadView). Begins w b.function) (sym is_child) (subst (λ n. Begins (child_view v) n) (sym is_function) (child_begins v.setting r.hosts.value g.runnable r.entries.items r.function v.state g.kept function asks));
      own = ap (λ (x : DeskView). x.table) is_desk ∙ (ap (λ (x : DeskView). x.table) at_f ∙ g.own);
      stamp = f.view.seen;
      told = f.view.told ++ f.view.calls;
      new = ap (λ (x : DeskView). x.view) is_desk;
    }
