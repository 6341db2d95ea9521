-- What a step on the space is for its thread: one more entry, or the thread's end.
use Rattle.std.proofs.Common.{◌≡◌, ℕ, ◌<◌, ◌≤◌, le_refl, Bool, true, false, cond, [], ◌∷◌, length, refl, sym, ◌∙◌, ap, subst, inr, arith, sum_by}
use Rattle.std.specs.Prelude.{Some, None, ◌^◌, ◌⊎◌, slice_get}
use Rattle.std.specs.declared.option.Option.{Option}
use Rattle.std.proofs.lemmas.List.Sums.{sum_by_push, sum_by-append, sum_by-cons}
use Rattle.std.proofs.lemmas.List.Elements.{All-push}
use Rattle.bsan_ids.specs.declared.numbers.AllocNo.{AllocNo}
use Rattle.bsan_ids.specs.declared.numbers.Limits.{Limits}
use Rattle.bsan_ids.specs.declared.numbers.Stamp.{Stamp}
use Rattle.bsan_ids.specs.declared.numbers.ThreadNo.{ThreadNo}
use Rattle.history.specs.declared.ask.Ask.{Ask}
use Rattle.history.specs.declared.ask.Ask.TheVariants as ask
use Rattle.history.specs.declared.entry.Entry.{Entry}
use Rattle.history.specs.declared.entry.Plain.TheVariants as plain
use Rattle.history.specs.declared.entry.Reply.{Reply}
use Rattle.history.specs.declared.entry.Request.{Request}
use Rattle.history.specs.declared.entry.Request.TheVariants as request
use Rattle.history.specs.declared.entry.Verdict.TheVariants as verdict
use Rattle.history.specs.declared.trap.Trap.TheVariants as trap
use Rattle.history.specs.Histories.{fits}
use Rattle.history.specs.Merge.{stamp_of}
use Rattle.history.specs.Restriction.{number_of}
use Rattle.ir_ast.specs.declared.hosts.HostTable.{HostTable}
use Rattle.ir_ast.specs.declared.types.Place.{Place}
use Rattle.ir_ast.specs.declared.types.Ty.{Ty}
use Rattle.history.specs.declared.log.End.{End}
use Rattle.history.specs.declared.log.End.TheVariants as log_end
use Rattle.runs.specs.Objects.{objects}
use Rattle.runs.specs.Parts.{Answers, IsOnNumber}
use Rattle.runs.specs.Right.{made_by, spawned_by_reply, alloc_limit_of, thread_limit_of, asks_make}
use Rattle.runs.specs.Threads.{AsksStep, AsksMake}
use Rattle.runs.specs.Tree.{IsEntryRight, IsStepRight}
use Rattle.source_runs.specs.Allocations.{IsMake}
use Rattle.source_sem.specs.Records.{allowed}
use Rattle.turn_lock.specs.Steps.{drew_alloc, saw}
use Rattle.turn_lock.specs.Plays.{DeskView}
use Rattle.turn_lock.specs.declared.view.View.{View}
use Rattle.alloc_space.specs.Spaces.{AreCountable}
use Rattle.alloc_space.specs.Steps.{stamped, has_slot, call_of, stepped_by, numbered, IsStep, IsPastSteps, HasSeen, IsMaking, IsNote, IsLastOf}
use Rattle.alloc_space.specs.declared.step.Stepped.TheVariants as stepped
use Rattle.source_runs.specs.Invariant.{PlainFits}
use Rattle.source_sem.specs.Traps.{PlainIsOwn}
use Rattle.thread_parts.specs.Fits.{ReplyFits, IsWord}
use Rattle.ir_ast.specs.HostAnswers.{MayAnswer}
use Rattle.interp.specs.Came.{IsDone, IsOver, EndsAny}
use Rattle.interp.specs.Desks.{DrewFew, DeskStep, DeskEnd, IsReady}
use Rattle.interp.proofs.Replies.{Answering, answering, answered_fits, outside_reply, makes_nothing, starts_nothing, makes_number}

weight_kept : (h : Entry → ℕ) (e : Entry) (b : Bool) → sum_by h (cond b (e ∷ []) []) ≡ cond b (h e) 0
weight_kept h e true = omega (arith, sum_by-cons h e [])
weight_kept h e false = refl

module _ (limits : Limits) where
  -- a step that makes and starts nothing
  pub desk_step : (v : View) (e : Entry) → v.turn ≡ None → v.seen < stamp_of e → made_by e.reply.plain ≡ [] → spawned_by_reply e.reply.plain ≡ [] → DeskStep limits v (stepped_by limits v e) e
  desk_step v e idle later none_made none_started = record {
    name = refl;
    turn = idle;
    outs = refl;
    later = later;
    seen = refl;
    calls = λ h. omega (arith, sum_by-append h v.calls (call_of limits.allocs e), weight_kept h e (has_slot limits.allocs (number_of e.alloc)));
    stamps = λ h. omega (arith, sum_by_push h v.stamps.own (stamp_of e));
    allocs = λ h. let a = ap (sum_by h) none_made in omega arith;
    threads = λ h. let a = ap (sum_by h) none_started in omega arith;
  }

  -- a Make of the number n, which was drawn for it
  desk_make : (v : View) (n : ℕ) (e : Entry) → v.turn ≡ None → v.seen < stamp_of e → made_by e.reply.plain ≡ n ∷ [] → spawned_by_reply e.reply.plain ≡ [] → DeskStep limits v (stepped_by limits (drew_alloc v n) e) e
  desk_make v n e idle later made_one none_started = record {
    name = refl;
    turn = idle;
    outs = refl;
    later = later;
    seen = refl;
    calls = λ h. omega (arith, sum_by-append h v.calls (call_of limits.allocs e), weight_kept h e (has_slot limits.allocs (number_of e.alloc)));
    stamps = λ h. omega (arith, sum_by_push h v.stamps.own (stamp_of e));
    allocs = λ h. let a = ap (sum_by h) made_one in omega (arith, sum_by_push h v.allocs.own n, sum_by-cons h n []);
    threads = λ h. let a = ap (sum_by h) none_started in omega arith;
  }

  pub ready_step : (v : View) (e : Entry) → stamp_of e ≤ limits.steps → IsReady limits v → IsReady limits (stepped_by limits v e)
  ready_step v e few r = record { stamps = All-push (λ n. n ≤ limits.steps) v.stamps.own (stamp_of e) r.stamps few; allocs = r.allocs; threads = r.threads; turn = r.turn }

  ready_alloc : (v : View) (n : ℕ) → n ≤ limits.allocs → IsReady limits v → IsReady limits (drew_alloc v n)
  ready_alloc v n few r = record { stamps = r.stamps; allocs = All-push (λ n. n ≤ limits.allocs) v.allocs.own n r.allocs few; threads = r.threads; turn = r.turn }

  -- ends
  module _ (a : Ask) (v : View) (idle : v.turn ≡ None) where
    pub desk_saw : (n : ℕ) → v.seen ≤ n → DeskEnd a v (saw v n) record { «end» = log_end.NoMemory; allocs = []; threads = [] }
    desk_saw n le = record {
      name = refl;
      turn = idle;
      outs = refl;
      seen = le;
      above = tt;
      calls = refl;
      stamps = λ h. omega arith;
      allocs = λ h. omega arith;
      threads = λ h. omega arith;
      few = record { allocs = omega arith; threads = omega arith };
    }

    desk_past : (s : ℕ) → v.seen < s → DeskEnd a v (stamped v s) record { «end» = log_end.StepLimit record { 0 = s }; allocs = []; threads = [] }
    desk_past s lt = record {
      name = refl;
      turn = idle;
      outs = refl;
      seen = omega (arith, lt);
      above = lt;
      calls = refl;
      stamps = λ h. omega (arith, sum_by_push h v.stamps.own s, sum_by-cons h s []);
      allocs = λ h. omega arith;
      threads = λ h. omega arith;
      few = record { allocs = omega arith; threads = omega arith };
    }

    module _ (n : ℕ) (asks : asks_make a ≡ true) where
      one_idle : (over : End) → length (alloc_limit_of over) ≡ 0 → length (thread_limit_of over) ≡ 0 → DrewFew a record { «end» = over; allocs = n ∷ []; threads = [] }
      one_idle over none also = record { allocs = let b = ap (λ c. cond {A = ℕ} c 1 0) asks in omega (arith, none); threads = omega (arith, also) }

      make_saw : (s : ℕ) → v.seen ≤ s → DeskEnd a v (saw (drew_alloc v n) s) record { «end» = log_end.NoMemory; allocs = n ∷ []; threads = [] }
      make_saw s le = record {
        name = refl;
        turn = idle;
        outs = refl;
        seen = le;
        above = tt;
        calls = refl;
        stamps = λ h. omega arith;
        allocs = λ h. omega (arith, sum_by_push h v.allocs.own n, sum_by-cons h n []);
        threads = λ h. omega arith;
        few = one_idle log_end.NoMemory refl refl;
      }

      make_past : (s : ℕ) → v.seen < s → DeskEnd a v (stamped (drew_alloc v n) s) record { «end» = log_end.StepLimit record { 0 = s }; allocs = n ∷ []; threads = [] }
      make_past s lt = record {
        name = refl;
        turn = idle;
        outs = refl;
        seen = omega (arith, lt);
        above = lt;
        calls = refl;
        stamps = λ h. omega (arith, sum_by_push h v.stamps.own s, sum_by-cons h s []);
        allocs = λ h. omega (arith, sum_by_push h v.allocs.own n, sum_by-cons h n []);
        threads = λ h. omega arith;
        few = one_idle (log_end.StepLimit record { 0 = s }) refl refl;
      }

      make_beyond : DeskEnd a v (drew_alloc v n) record { «end» = log_end.Trapped (trap.AllocLimit n); allocs = []; threads = [] }
      make_beyond = record {
        name = refl;
        turn = idle;
        outs = refl;
        seen = le_refl _;
        above = tt;
        calls = refl;
        stamps = λ h. omega arith;
        allocs = λ h. omega (arith, sum_by_push h v.allocs.own n, sum_by-cons h n []);
        threads = λ h. omega arith;
        few = record { allocs = let b = ap (λ c. cond {A = ℕ} c 1 0) asks in omega arith; threads = omega arith };
      }

  ends_past : (a : Ask) (s : ℕ) → AsksStep a → limits.steps < s → EndsAny limits a (log_end.StepLimit record { 0 = s })
  ends_past a s steps above x state is may = (subst AsksStep (sym is) steps, above, may)

  module _ (a : Ask) (old new : DeskView) (r : IsReady limits old.view) where
    pub over_past : (stamp : Stamp) → AsksStep a → IsPastSteps limits old new stamp.0 → IsOver limits a old new (log_end.StepLimit stamp)
    over_past stamp steps p = record {
      own = ap (λ (d : DeskView). d.table) p.desk;
      over = record { «end» = log_end.StepLimit stamp; allocs = []; threads = [] };
      over_is = refl;
      desk = subst (λ (d : DeskView). DeskEnd a old.view d.view record { «end» = log_end.StepLimit stamp; allocs = []; threads = [] }) (sym p.desk) (desk_past a old.view r.turn stamp.0 p.later);
      ends = ends_past a stamp.0 steps p.above;
      kind = tt;
      threads = ap (λ (d : DeskView). d.view.threads.own) p.desk;
    }

    pub over_memory : HasSeen old new → IsOver limits a old new log_end.NoMemory
    over_memory p = record {
      own = ap (λ (d : DeskView). d.table) p.desk;
      over = record { «end» = log_end.NoMemory; allocs = []; threads = [] };
      over_is = refl;
      desk = subst (λ (d : DeskView). DeskEnd a old.view d.view record { «end» = log_end.NoMemory; allocs = []; threads = [] }) (sym p.desk) (desk_saw a old.view r.turn p.reached p.seen);
      ends = λ x s is may. tt;
      kind = tt;
      threads = ap (λ (d : DeskView). d.view.threads.own) p.desk;
    }

  small_number : AreCountable limits → (n : ℕ) → n ≤ limits.allocs → n < 2 ^ 32
  small_number countable n few = let a = countable.allocs in omega (arith, few)

  some_same : (a b : AllocNo) → Some a ≡ Some b → a ≡ b
  some_same a b e = cc

  -- an entry by itself, of an allocation that answered it
  entry_right : (hosts : HostTable) (a : AllocNo) (e : Entry) → IsEntryRight (allowed limits hosts) e e.request → e.alloc ≡ Some a → stamp_of e ≤ limits.steps → IsLastOf limits a.0 e → IsStepRight objects (allowed limits hosts) limits e
  entry_right hosts a e right named few last = record {
    right = right;
    within = few;
    outside = λ b at. subst (λ (n : AllocNo). (n.0 ≡ 0) ⊎ (limits.allocs < n.0) → e.reply ≡ objects.reply (objects.unmade n.0) e.request e.stamp.0) (some_same a b (sym named ∙ at)) (outside_reply limits a e last);
  }

  right_on : (hosts : HostTable) (a : AllocNo) (e : Entry) (q : Request) → IsOnNumber q → e.alloc ≡ Some a → IsEntryRight (allowed limits hosts) e q
  right_on hosts a e (request.Make size place) h named = absurd h
  right_on hosts a e (request.Print v) h named = absurd h
  right_on hosts a e (request.Host n x y) h named = absurd h
  right_on hosts a e (request.Spawn f) h named = absurd h
  right_on hosts a e (request.Join c) h named = absurd h
  right_on hosts a e _ h named = (a, named)

  no_make_here : (r : Request) → IsOnNumber r → IsMake r → ⊥
  no_make_here (request.Make size place) on make = on
  no_make_here (request.Load at ty prov) on make = make
  no_make_here (request.Store at ty value carried prov) on make = make
  no_make_here (request.Modify at width op value prov) on make = make
  no_make_here (request.CmpXchg at width expected value prov) on make = make
  no_make_here (request.CopyOut at len prov) on make = make
  no_make_here (request.CopyIn at piece prov) on make = make
  no_make_here (request.Retag at len kind guard prov) on make = make
  no_make_here (request.EndProtector tag) on make = make
  no_make_here (request.Free at stack prov) on make = make
  no_make_here (request.Print value) on make = make
  no_make_here (request.Host n x y) on make = make
  no_make_here (request.Spawn f) on make = make
  no_make_here (request.Join c) on make = make

  -- a request to an allocation
  pub done_access : (hosts : HostTable) (number : ThreadNo) (place : ℕ) (a : AllocNo) (r : Request) (old new : DeskView) (e : Entry) → IsReady limits old.view → IsOnNumber r → fits r ≡ true
      → IsStep limits number place a r old new e → IsDone limits hosts number place (ask.At a r) old new e
  done_access hosts number place a r old new e ready on fit s =
      let w : Answering a e = answering limits a e s.answers in
      let on_e : IsOnNumber e.request = subst IsOnNumber (sym s.entry.request_is) on in
      let none_made = makes_nothing a e w on_e in
      let none_started = starts_nothing a e w in record {
        own = ap (λ (d : DeskView). d.table) s.step.desk;
        ready = subst (λ (d : DeskView). IsReady limits d.view) (sym s.step.desk) (ready_step old.view e s.step.within ready);
        entry = record {
          thread = s.entry.thread_is;
          site = s.entry.site_is;
          answers = (s.entry.request_is, s.entry.alloc_is, on);
          fitting = answered_fits a e w (λ make. absurd (no_make_here e.request on_e make)) (ap fits s.entry.request_is ∙ fit) s.entry.alloc_is;
          right = entry_right hosts a e (right_on hosts a e e.request on_e s.entry.alloc_is) s.entry.alloc_is s.step.within s.answers;
        };
        desk = subst (λ (d : DeskView). DeskStep limits old.view d.view e) (sym s.step.desk) (desk_step old.view e ready.turn s.step.later none_made none_started);
        threads = ap (λ (d : DeskView). d.view.threads.own) s.step.desk;
      }

  -- a print, or a call of a host function
  pub done_note : (hosts : HostTable) (number : ThreadNo) (place : ℕ) (a : Ask) (r : Request) (reply : Reply) (old new : DeskView) (e : Entry) → IsReady limits old.view
      → ((f : Entry) → f.request ≡ r → f.alloc ≡ None → Answers a f) → ((f : Entry) → f.reply ≡ reply → IsEntryRight (allowed limits hosts) f r) → ((f : Entry) → f.reply ≡ reply → (ty : Option Ty) → ReplyFits ty f r)
      → PlainFits reply.plain → PlainIsOwn reply.plain → made_by reply.plain ≡ [] → spawned_by_reply reply.plain ≡ []
      → IsNote limits number place r reply old new e → IsDone limits hosts number place a old new e
  done_note hosts number place a r reply old new e ready answers right fit plain own makes starts s =
      let starts_none : spawned_by_reply e.reply.plain ≡ [] = ap (λ (q : Reply). spawned_by_reply q.plain) s.reply_is ∙ starts in
      record {
        own = ap (λ (d : DeskView). d.table) s.step.desk;
        ready = subst (λ (d : DeskView). IsReady limits d.view) (sym s.step.desk) (ready_step old.view e s.step.within ready);
        entry = record {
          thread = s.entry.thread_is;
          site = s.entry.site_is;
          answers = answers e s.entry.request_is s.entry.alloc_is;
          fitting = record {
            fits = λ ty. subst (λ q. ReplyFits ty e q) (sym s.entry.request_is) (fit e s.reply_is ty);
            plain = subst (λ (q : Reply). PlainFits q.plain) (sym s.reply_is) plain;
            own = subst (λ (q : Reply). PlainIsOwn q.plain) (sym s.reply_is) own;
            alone = starts_none;
          };
          right = record {
            right = subst (λ q. IsEntryRight (allowed limits hosts) e q) (sym s.entry.request_is) (right e s.reply_is);
            within = s.step.within;
            outside = λ b at. absurd (none_is_some b (sym s.entry.alloc_is ∙ at));
          };
        };
        desk = subst (λ (d : DeskView). DeskStep limits old.view d.view e) (sym s.step.desk) (desk_step old.view e ready.turn s.step.later (ap (λ (q : Reply). made_by q.plain) s.reply_is ∙ makes) starts_none);
        threads = ap (λ (d : DeskView). d.view.threads.own) s.step.desk;
      }
    where
      none_is_some : (b : AllocNo) → None ≡ Some b → ⊥
      none_is_some b e = cc

  pub done_print : (hosts : HostTable) (number : ThreadNo) (place value : ℕ) (old new : DeskView) (e : Entry) → IsReady limits old.view
      → IsNote limits number place (request.Print value) record { plain = plain.Done; carried = None; verdict = verdict.Clean } old new e → IsDone limits hosts number place (ask.Print value) old new e
  done_print hosts number place value old new e ready s =
      done_note hosts number place (ask.Print value) (request.Print value) record { plain = plain.Done; carried = None; verdict = verdict.Clean } old new e ready (λ f is none. (is, none)) (λ f is. is)
      (λ f is ty. subst (λ (q : Reply). Rattle.thread_parts.specs.Fits.IsDone q.plain) (sym is) tt) tt tt refl refl s

  pub done_host : (hosts : HostTable) (number : ThreadNo) (place function first second value : ℕ) (old new : DeskView) (e : Entry) → IsReady limits old.view → MayAnswer (slice_get hosts.entries function) first second value → value < 2 ^ 64
      → IsNote limits number place (request.Host function first second) record { plain = plain.Value value; carried = None; verdict = verdict.Clean } old new e → IsDone limits hosts number place (ask.Host function first second) old new e
  done_host hosts number place function first second value old new e ready may word s =
      done_note hosts number place (ask.Host function first second) (request.Host function first second) record { plain = plain.Value value; carried = None; verdict = verdict.Clean } old new e ready (λ f is none. (is, none)) (λ f is. (value, may, is))
      (λ f is ty. subst (λ (q : Reply). IsWord q.plain) (sym is) word) tt tt refl refl s

  -- a Make
  module _ (countable : AreCountable limits) (number : ThreadNo) (place size : ℕ) (at : Place) (old new : DeskView) (ready : IsReady limits old.view) where
    pub done_make : (hosts : HostTable) (e : Entry) → fits (request.Make size at) ≡ true → IsMaking limits number place size at old new (stepped.Done e) → IsDone limits hosts number place (ask.Make size at) old new e
    done_make hosts e sized m =
        let s : IsStep limits number place m.number (request.Make size at) (numbered old m.number.0) new e = m.step in
        let w : Answering m.number e = answering limits m.number e s.answers in
        let make : IsMake e.request = subst IsMake (sym s.entry.request_is) tt in
        let plain_is = makes_number m.number e w make in
        let one_made : made_by e.reply.plain ≡ m.number.0 ∷ [] = ap made_by plain_is in
        let none_started = starts_nothing m.number e w in record {
          own = ap (λ (d : DeskView). d.table) s.step.desk;
          ready = subst (λ (d : DeskView). IsReady limits d.view) (sym s.step.desk) (ready_step (drew_alloc old.view m.number.0) e s.step.within (ready_alloc old.view m.number.0 m.few ready));
          entry = record {
            thread = s.entry.thread_is;
            site = s.entry.site_is;
            answers = s.entry.request_is;
            fitting = answered_fits m.number e w (λ _. small_number countable m.number.0 m.few) (ap fits s.entry.request_is ∙ sized) s.entry.alloc_is;
            right = entry_right hosts m.number e (subst (λ q. IsEntryRight (allowed limits hosts) e q) (sym s.entry.request_is) (m.number, s.entry.alloc_is, m.first, m.few)) s.entry.alloc_is s.step.within s.answers;
          };
          desk = subst (λ (d : DeskView). DeskStep limits old.view d.view e) (sym s.step.desk) (desk_make old.view m.number.0 e ready.turn s.step.later one_made none_started);
          threads = ap (λ (d : DeskView). d.view.threads.own) s.step.desk;
        }

    pub make_limit : (drawn : ℕ) → limits.allocs < drawn → new ≡ numbered old drawn → IsOver limits (ask.Make size at) old new (log_end.Trapped (trap.AllocLimit drawn))
    make_limit drawn above is = record {
      own = ap (λ (d : DeskView). d.table) is;
      over = record { «end» = log_end.Trapped (trap.AllocLimit drawn); allocs = []; threads = [] };
      over_is = refl;
      desk = subst (λ (d : DeskView). DeskEnd (ask.Make size at) old.view d.view record { «end» = log_end.Trapped (trap.AllocLimit drawn); allocs = []; threads = [] }) (sym is) (make_beyond (ask.Make size at) old.view ready.turn drawn refl);
      ends = λ x s asks may. (inr (subst AsksMake (sym asks) tt, above), may);
      kind = tt;
      threads = ap (λ (d : DeskView). d.view.threads.own) is;
    }

    pub make_beyond_steps : (stamp : Stamp) → IsMaking limits number place size at old new (stepped.StepLimit stamp) → IsOver limits (ask.Make size at) old new (log_end.StepLimit stamp)
    make_beyond_steps stamp m = let p : IsPastSteps limits (numbered old m.number.0) new stamp.0 = m.step in record {
      own = ap (λ (d : DeskView). d.table) p.desk;
      over = record { «end» = log_end.StepLimit stamp; allocs = m.number.0 ∷ []; threads = [] };
      over_is = refl;
      desk = subst (λ (d : DeskView). DeskEnd (ask.Make size at) old.view d.view record { «end» = log_end.StepLimit stamp; allocs = m.number.0 ∷ []; threads = [] }) (sym p.desk) (make_past (ask.Make size at) old.view ready.turn m.number.0 refl stamp.0 p.later);
      ends = ends_past (ask.Make size at) stamp.0 tt p.above;
      kind = tt;
      threads = ap (λ (d : DeskView). d.view.threads.own) p.desk;
    }

    pub make_no_memory : IsMaking limits number place size at old new stepped.NoMemory → IsOver limits (ask.Make size at) old new log_end.NoMemory
    make_no_memory m = let p : HasSeen (numbered old m.number.0) new = m.step in record {
      own = ap (λ (d : DeskView). d.table) p.desk;
      over = record { «end» = log_end.NoMemory; allocs = m.number.0 ∷ []; threads = [] };
      over_is = refl;
      desk = subst (λ (d : DeskView). DeskEnd (ask.Make size at) old.view d.view record { «end» = log_end.NoMemory; allocs = m.number.0 ∷ []; threads = [] }) (sym p.desk) (make_saw (ask.Make size at) old.view ready.turn m.number.0 refl p.reached p.seen);
      ends = λ x s asks may. tt;
      kind = tt;
      threads = ap (λ (d : DeskView). d.view.threads.own) p.desk;
    }
