-- The record of the code's threads and allocations is that of the replay that they show.
use Rattle.std.proofs.Common.{◌≡◌, ℕ, zero, suc, ◌+◌, ◌<◌, ◌≤◌, List, [], ◌∷◌, ◌++◌, Bool, true, false, refl, sym, ◌∙◌, ap, subst, inr, length, arith}
use Rattle.std.specs.Prelude.{Option, Some, None, map, slice_get, unwrap_or, if◌then◌else◌}
use Rattle.bsan_ids.specs.declared.numbers.Counters.{Counters}
use Rattle.bsan_ids.specs.declared.numbers.Limits.{Limits}
use Rattle.history.specs.declared.entry.Entry.{Entry}
use Rattle.ir_ast.specs.declared.hosts.HostTable.{HostTable}
use Rattle.run_memory.specs.Memory.{Memory, log_at, keeps, named_from, none_drawn}
use Rattle.run_memory.proofs.Stepping.{kept_number, beside}
use Rattle.history.specs.declared.log.AllocLog.{AllocLog}
use Rattle.history.specs.declared.log.ThreadLog.{ThreadLog}
use Rattle.history.specs.declared.record.RunRecord.{RunRecord}
use Rattle.runs.specs.Objects.{objects}
use Rattle.runs.specs.Parts.{of_alloc}
use Rattle.runs.specs.Replay.{IsReplay}
use Rattle.runs.specs.ReplayLaw.{first_progress, record_of, logs_from, histories_from, with_history}
use Rattle.source_sem.specs.Records.{allowed, IsRightRecord}
use Rattle.source_sem.specs.Starting.{setting_of, main_of, main_start}
use Rattle.source_sem.specs.Source.{Setting, Source, source}
use Rattle.source_runs.proofs.Worlds.{replays_leave_right_records}
use Rattle.bsan_ids.specs.declared.numbers.ThreadNo.{ThreadNo}
use Rattle.history.specs.declared.log.End.{End}
use Rattle.core_model.specs.declared.fiber.Fiber.{Fiber}
use Rattle.core_model.specs.Fibers.{Seen, all_seen}
use Rattle.instr_sound.specs.Mains.{IsRunnable}
use Rattle.core_model.specs.Running.{AreLimits, Played, UnderWay, Shows, fiber_in}
use Rattle.core_model.specs.Replays.{PlaysAll, PlaysRest}
use Rattle.core_model.specs.Kept.{seen_log, seen_logs, seen_record, IsOfReplay, Replayed}

pub seen_more : (t : ℕ) (fs : List Seen) (f : Seen) → seen_logs t (fs ++ f ∷ []) ≡ seen_logs t fs ++ seen_log (t + length fs) f ∷ []
seen_more t [] f = (let same : t ≡ t + 0 = omega arith in ap (λ n. seen_log n f ∷ []) same)
seen_more t (g ∷ fs) f = (let same : suc t + length fs ≡ t + suc (length fs) = omega arith in ap (λ l. seen_log t g ∷ l) (seen_more (suc t) fs f ∙ ap (λ n. seen_logs (suc t) fs ++ seen_log n f ∷ []) same))

pub seen_long : (t : ℕ) (fs : List Seen) → length (seen_logs t fs) ≡ length fs
seen_long t [] = refl
seen_long t (f ∷ fs) = ap suc (seen_long (suc t) fs)

logs_same : (x : Setting) (t : ℕ) (fs : List Seen) → seen_logs t fs ≡ logs_from (source x) t (map (fiber_in x) fs)
logs_same x t [] = refl
logs_same x t (f ∷ fs) = ap (λ l. seen_log t f ∷ l) (logs_same x (suc t) fs)

-- no entry is past these numbers
none_named : (a : ℕ) (logs : List (List Entry)) → ((k : ℕ) → unwrap_or (slice_get logs k) [] ≡ []) → named_from a logs ≡ []
none_named a [] none = refl
none_named a (es ∷ logs) none = ap (λ l. with_history a l (named_from (suc a) logs)) (none 0) ∙ none_named (suc a) logs (λ k. none (suc k))

named_same : (a more : ℕ) (logs : List (List Entry)) (merge : List Entry)
    → ((k : ℕ) → k < more → unwrap_or (slice_get logs k) [] ≡ of_alloc (a + k) merge) → ((k : ℕ) → more ≤ k → unwrap_or (slice_get logs k) [] ≡ [])
    → named_from a logs ≡ histories_from a more merge
named_same a zero logs merge inside past = none_named a logs (λ k. past k (omega arith))
named_same a (suc more) [] merge inside past =
    let here : [] ≡ of_alloc a merge = inside 0 (omega arith) ∙ ap (λ n. of_alloc n merge) (let z : a + 0 ≡ a = omega arith in z) in
    ap (λ l. with_history a l []) here
    ∙ ap (with_history a (of_alloc a merge)) (named_same (suc a) more [] merge
    (λ k less. inside (suc k) (omega (arith, less)) ∙ ap (λ n. of_alloc n merge) (let z : a + suc k ≡ suc a + k = omega arith in z))
    (λ k le. refl))
named_same a (suc more) (es ∷ logs) merge inside past =
    let here : es ≡ of_alloc a merge = inside 0 (omega arith) ∙ ap (λ n. of_alloc n merge) (let z : a + 0 ≡ a = omega arith in z) in
    ap (λ l. with_history a l (named_from (suc a) logs)) here
    ∙ ap (with_history a (of_alloc a merge)) (named_same (suc a) more logs merge
    (λ k less. inside (suc k) (omega (arith, less)) ∙ ap (λ n. of_alloc n merge) (let z : a + suc k ≡ suc a + k = omega arith in z))
    (λ k le. past (suc k) (omega (arith, le))))

module _ (x : Setting) (limits : Limits) (hosts : HostTable) (F : List Seen) (m : Memory) (p : Played x) (w : Shows x limits F m p) where
  inside : (k : ℕ) → k < limits.allocs → unwrap_or (slice_get m.logs k) [] ≡ of_alloc (1 + k) p.merge
  inside k less =
      let one : suc k ≡ 1 + k = omega arith in
      w.logs (suc k) ∙ (ap (λ b. if b then of_alloc (suc k) p.merge else []) (kept_number limits (suc k) (omega arith) (omega (arith, less))) ∙ ap (λ n. of_alloc n p.merge) one)

  past : (k : ℕ) → limits.allocs ≤ k → unwrap_or (slice_get m.logs k) [] ≡ []
  past k le = w.logs (suc k) ∙ ap (λ b. if b then of_alloc (suc k) p.merge else []) (beside limits (suc k) (inr (omega (arith, le))))

  pub record_same : seen_record F m ≡ record_of (source x) objects limits p
  record_same =
      let threads = logs_same x 0 F ∙ ap (logs_from (source x) 0) (sym w.threads) in
      let allocs = named_same 1 limits.allocs m.logs p.merge inside past in
      ap (λ (l : List ThreadLog). record { threads = l; allocs = named_from 1 m.logs; words = m.words }) threads
      ∙ (ap (λ (l : List AllocLog). record { threads = logs_from (source x) 0 p.threads; allocs = l; words = m.words }) allocs
      ∙ ap (λ (c : Counters). record { threads = logs_from (source x) 0 p.threads; allocs = histories_from 1 limits.allocs p.merge; words = c }) w.words)

-- the run with thread 0 alone
module _ (x : Setting) (limits : Limits) (hosts : HostTable) (r : IsRunnable x hosts) (ranges : AreLimits limits) where
  abbrev pub first_fiber : Seen
  first_fiber = record { setting = x; parent = None; function = main_of x.program; state = main_start x; entries = []; «end» = None }

  abbrev pub first_memory : Memory
  first_memory = record { limits = limits; logs = []; words = none_drawn }

  no_entry : (a : ℕ) (b : Bool) → log_at [] a ≡ (if b then of_alloc a [] else [])
  no_entry zero true = refl
  no_entry zero false = refl
  no_entry (suc a) true = refl
  no_entry (suc a) false = refl

  pub first_way : UnderWay x limits hosts (first_fiber ∷ []) first_memory (first_progress (source x) objects (main_of x.program) (main_start x))
  first_way = record {
    runnable = r;
    ranges = ranges;
    shows = record {
      settings = λ t f at. only t f at;
      threads = refl;
      limits_are = refl;
      words = refl;
      logs = λ a. no_entry a (keeps limits a);
    };
    came = ([], refl);
  }
    where
      only : (t : ℕ) (f : Seen) → slice_get (first_fiber ∷ []) t ≡ Some f → f.setting ≡ x
      only zero f at = sym (ap (λ (z : Seen). z.setting) (Rattle.runs.proofs.Tracking.some_inj at))
      only (suc t) f at = cc

  pub replayed : (ts : List ℕ) (E F G : List Seen) (l m n : Memory) → UnderWay x limits hosts E l (first_progress (source x) objects (main_of x.program) (main_start x))
      → PlaysAll limits hosts E l ts F m → PlaysRest limits hosts F m G n → Replayed x.program x.input hosts limits ts (seen_record G n)
  replayed ts E F G l m n way all rest =
      let a = all x (first_progress (source x) objects (main_of x.program) (main_start x)) way in
      let b = rest x a.0 a.2 in
      let is : seen_record G n ≡ record_of (source x) objects limits b.0 = record_same x limits hosts G n b.0 b.4.shows in
      let done : IsReplay (source x) objects (allowed limits hosts) limits ts (first_progress (source x) objects (main_of x.program) (main_start x)) b.0 =
      record { mid = a.0; picks = b.1; scheduled = a.1; least = b.2; over = b.3 } in
      let theirs : IsOfReplay x limits hosts ts (seen_record G n) = record { last = b.0; replay = done; is = is } in
      let own : IsOfReplay (setting_of x.program x.input hosts) limits hosts ts (seen_record G n) = subst (λ z. IsOfReplay z limits hosts ts (seen_record G n)) r.setting theirs in
      record {
        replay = own;
        right = subst (λ (k : RunRecord). IsRightRecord x.program x.input hosts limits k) (sym own.is)
            (replays_leave_right_records x.program x.input hosts limits ts own.last r.program r.accepted r.bytes (let few = ranges.few_allocs in omega (arith, few)) own.replay);
      }

-- the code's thread 0
module _ {T : Type 0} (setting : T → Setting) (state : T → Source) (limits : Limits) (hosts : HostTable) (f : Fiber T) (r : IsRunnable (setting f.thread) hosts) (ranges : AreLimits limits) where
  pub starts : (items : List (Fiber T)) (m : Memory) → items ≡ f ∷ [] → f.parent ≡ None → f.function ≡ main_of (setting f.thread).program → state f.thread ≡ main_start (setting f.thread)
      → f.entries.items ≡ [] → f.«end» ≡ None → m ≡ first_memory (setting f.thread) limits hosts r ranges
      → UnderWay (setting f.thread) limits hosts (all_seen setting state items) m (first_progress (source (setting f.thread)) objects (main_of (setting f.thread).program) (main_start (setting f.thread)))
  starts items m items_are parent function start entries none memory =
      let x = setting f.thread in
      let seen_is : all_seen setting state items ≡ first_fiber x limits hosts r ranges ∷ [] =
      ap (all_seen setting state) items_are
      ∙ (ap (λ (o : Option ThreadNo). record { setting = x; parent = o; function = f.function; state = state f.thread; entries = f.entries.items; «end» = f.«end» } ∷ []) parent
      ∙ (ap (λ (k : ℕ). record { setting = x; parent = None; function = k; state = state f.thread; entries = f.entries.items; «end» = f.«end» } ∷ []) function
      ∙ (ap (λ (s : Source). record { setting = x; parent = None; function = main_of x.program; state = s; entries = f.entries.items; «end» = f.«end» } ∷ []) start
      ∙ (ap (λ (es : List Entry). record { setting = x; parent = None; function = main_of x.program; state = main_start x; entries = es; «end» = f.«end» } ∷ []) entries
      ∙ ap (λ (o : Option End). record { setting = x; parent = None; function = main_of x.program; state = main_start x; entries = []; «end» = o } ∷ []) none)))) in
      subst (λ l. UnderWay x limits hosts l m (first_progress (source x) objects (main_of x.program) (main_start x))) (sym seen_is)
      (subst (λ n. UnderWay x limits hosts (first_fiber x limits hosts r ranges ∷ []) n (first_progress (source x) objects (main_of x.program) (main_start x))) (sym memory) (first_way x limits hosts r ranges))
