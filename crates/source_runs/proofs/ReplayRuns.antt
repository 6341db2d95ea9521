-- The worked replays, pick by pick.
use Rattle.std.proofs.Common.{◌≡◌, ◌≢◌, ℕ, zero, suc, ◌<◌, true, false, List, [], ◌∷◌, refl, sym, ap, ◌∙◌, inl, inr, arith}
use Rattle.std.specs.Prelude.{Some, None, slice_get, unwrap_or}
use Rattle.std.specs.declared.option.Option.{Option}
use Rattle.std.proofs.lemmas.Bool.{true≢false}
use Rattle.bsan_ids.specs.declared.numbers.Limits.{Limits}
use Rattle.bsan_ids.specs.declared.numbers.Prov.{Prov}
use Rattle.history.specs.declared.entry.Entry.{Entry}
use Rattle.ir_ast.specs.declared.program.Program.{Program}
use Rattle.history.specs.declared.log.End.{End}
use Rattle.history.specs.declared.log.End.TheVariants as log_end
use Rattle.runs.specs.Machine.{Machine}
use Rattle.runs.specs.Objects.{objects}
use Rattle.runs.specs.Replay.{Fiber, Progress, Ends, Steps, waits, Chooses, CanGoOn, picked, Picks, Plays}
use Rattle.runs.specs.ReplayLaw.{first_progress}
use Rattle.runs.proofs.Resting.{goes_on}
use Rattle.runs.proofs.Tracking.{some_inj}
use Rattle.source_sem.specs.Source.{Setting, Source, source, source_turn}
use Rattle.source_sem.specs.Starting.{setting_of, main_of, main_start}
use Rattle.source_sem.specs.Traces.{alloc}
use Rattle.source_sem.specs.Records.{no_hosts, allowed}
use Rattle.source_runs.specs.Replays.{limits, counters, returned, ReplaysAs, racing, ending, made, retagged, stored, started, load_first, write_first, join_at_once, limiting, one_step, made_alone, limit_reached, stopping, load_freed, child_stopped, freed_trap, ReplaysByExample}

few : (n : ℕ) → n < 1000 → n < limits.turns
few n less = less

few_allocs : (n : ℕ) → n < 100 → n < limits.allocs
few_allocs n less = less

few_threads : (n : ℕ) → n < 1023 → n < 1023
few_threads n less = less

other_count : (n : ℕ) → n < 1000 → n ≢ limits.turns
other_count n less is = omega (arith, less, is)

no_end : {B : Type 0} (e : End) → Some e ≡ None → B
no_end e is = cc

true_false : {B : Type 0} → true ≡ false → B
true_false is = absurd (true≢false is)

module _ (program : Program) where
  abbrev x : Setting
  x = setting_of program [] no_hosts

  abbrev M : Machine
  M = source x

  abbrev P : Type 0
  P = Progress M objects

  abbrev begin : P
  begin = first_progress M objects (main_of program) (main_start x)

  abbrev nobody : Fiber M
  nobody = record { parent = None; function = 0; state = main_start x; entries = []; «end» = None }

  abbrev fiber : P → ℕ → Fiber M
  fiber p t = unwrap_or (slice_get p.threads t) nobody

  abbrev state : P → ℕ → Source
  state p t = (fiber p t).state

  abbrev step : P → ℕ → Entry → Option End → P
  step p t e over = picked M objects p t (fiber p t) (Steps (state p t) e over)

  -- a local turn, and the thread's end
  abbrev ends : P → ℕ → End → P
  ends p t why = picked M objects p t (fiber p t) (Ends (source_turn x (state p t)) why)

  -- the thread's end, without a local turn
  abbrev ends_now : P → ℕ → End → P
  ends_now p t why = picked M objects p t (fiber p t) (Ends (state p t) why)

  -- thread t can be picked
  record Ready (p : P) (t : ℕ) : Type 0 where
    there : slice_get p.threads t ≡ Some (fiber p t)
    goes : (fiber p t).«end» ≡ None
    free : waits M objects p (M.ask (state p t)) ≡ false

  can : (p : P) (t : ℕ) → Ready p t → CanGoOn M objects p t
  can p t r = (fiber p t, r.there, r.goes, r.free)

  stepped : (l : Limits) (p : P) (t : ℕ) (e : Entry) (over : Option End) → Ready p t → Chooses M objects (allowed l no_hosts) l p t (fiber p t) (Steps (state p t) e over)
      → Picks M objects (allowed l no_hosts) l p t (step p t e over)
  stepped l p t e over r c = inr (fiber p t, Steps (state p t) e over, r.there, can p t r, c, refl)

  ended : (l : Limits) (p : P) (t : ℕ) (why : End) → Ready p t → Chooses M objects (allowed l no_hosts) l p t (fiber p t) (Ends (source_turn x (state p t)) why)
      → Picks M objects (allowed l no_hosts) l p t (ends p t why)
  ended l p t why r c = inr (fiber p t, Ends (source_turn x (state p t)) why, r.there, can p t r, c, refl)

  ended_now : (l : Limits) (p : P) (t : ℕ) (why : End) → Ready p t → Chooses M objects (allowed l no_hosts) l p t (fiber p t) (Ends (state p t) why)
      → Picks M objects (allowed l no_hosts) l p t (ends_now p t why)
  ended_now l p t why r c = inr (fiber p t, Ends (state p t) why, r.there, can p t r, c, refl)

  -- the thread waits for a child, or has ended
  stays : (p : P) (t : ℕ) → slice_get p.threads t ≡ Some (fiber p t) → waits M objects p (M.ask (state p t)) ≡ true → CanGoOn M objects p t → ⊥
  stays p t at waiting c = let same : fiber p t ≡ c.0 = some_same at c.1 in no_wait (fiber p t) c.0 same waiting c.3
    where
      some_same : {f g : Fiber M} → slice_get p.threads t ≡ Some f → slice_get p.threads t ≡ Some g → f ≡ g
      some_same a b = cc

      no_wait : (f g : Fiber M) → f ≡ g → waits M objects p (M.ask f.state) ≡ true → waits M objects p (M.ask g.state) ≡ false → ⊥
      no_wait f g same w n = true_false (sym w ∙ ap (λ (h : Fiber M). waits M objects p (M.ask h.state)) same ∙ n)

  -- it has ended
  gone : (p : P) (t : ℕ) (e : End) → slice_get p.threads t ≡ Some (fiber p t) → (fiber p t).«end» ≡ Some e → CanGoOn M objects p t → ⊥
  gone p t e at over c = no_end e (sym over ∙ ap (λ (f : Fiber M). f.«end») (some_inj (sym at ∙ c.1)) ∙ c.2)

  over_at : (f g : Fiber M) (e : End) → Some f ≡ Some g → f.«end» ≡ Some e → g.«end» ≢ None
  over_at f g e same over none = no_end e (sym over ∙ ap (λ (h : Fiber M). h.«end») (some_inj same) ∙ none)

  no_fiber : {B : Type 0} (f : Fiber M) → None ≡ Some f → B
  no_fiber f at = cc

  ready : (p : P) (t : ℕ) → slice_get p.threads t ≡ Some (fiber p t) → (fiber p t).«end» ≡ None → waits M objects p (M.ask (state p t)) ≡ false → Ready p t
  ready p t there goes free = record { there = there; goes = goes; free = free }

no_other : {B : Type 0} (u : ℕ) → u < 0 → B
no_other u less = absurd (omega (arith, less))

one_other : (Q : ℕ → Type 0) → Q 0 → (u : ℕ) → u < 1 → Q u
one_other Q zero_ zero less = zero_
one_other Q zero_ (suc u) less = absurd (omega (arith, less))

two_others : (Q : ℕ → Type 0) → Q 0 → Q 1 → (u : ℕ) → u < 2 → Q u
two_others Q zero_ one zero less = zero_
two_others Q zero_ one (suc zero) less = one
two_others Q zero_ one (suc (suc u)) less = absurd (omega (arith, less))

not_begun : {B : Type 0} → false ≡ true → B
not_begun is = true_false (sym is)

-- the load is first ----------------------------------------------------------------

abbrev l1 : P racing
l1 = step racing (begin racing) 0 made None

abbrev l2 : P racing
l2 = step racing l1 0 retagged None

abbrev l3 : P racing
l3 = step racing l2 0 stored None

abbrev l4 : P racing
l4 = step racing l3 0 started None

-- both schedules begin with four picks of main
first_four : (q : P racing) (ts : List ℕ) → Plays (M racing) objects (allowed limits no_hosts) limits l4 ts q → Plays (M racing) objects (allowed limits no_hosts) limits (begin racing) (0 ∷ 0 ∷ 0 ∷ 0 ∷ ts) q
first_four q ts rest = (
  l1,
  stepped racing limits (begin racing) 0 made None (ready racing (begin racing) 0 refl refl refl)
      ((0, refl), λ h. few 0 (omega arith), few_allocs 0 (omega arith), few 0 (omega arith), refl, refl, refl, refl, (refl, refl), goes_on (M racing) limits (state racing l1 0) (λ why h. cc) (other_count 1 (omega arith))),
  (
    l2,
    stepped racing limits l1 0 retagged None (ready racing l1 0 refl refl refl)
        ((0, refl), λ h. few 1 (omega arith), tt, few 1 (omega arith), refl, refl, refl, (refl, refl, tt), (alloc 1, refl, refl), goes_on (M racing) limits (state racing l2 0) (λ why h. cc) (other_count 2 (omega arith))),
    (
      l3,
      stepped racing limits l2 0 stored None (ready racing l2 0 refl refl refl)
          ((0, refl), λ h. few 2 (omega arith), tt, few 2 (omega arith), refl, refl, refl, (refl, refl, tt), (alloc 1, refl, refl), goes_on (M racing) limits (state racing l3 0) (λ why h. cc) (other_count 3 (omega arith))),
      (
        l4,
        stepped racing limits l3 0 started None (ready racing l3 0 refl refl refl)
            ((0, refl), λ h. few 3 (omega arith), few_threads 0 (omega arith), few 3 (omega arith), refl, refl, refl, (refl, refl), refl, goes_on (M racing) limits (state racing l4 0) (λ why h. cc) (other_count 4 (omega arith))),
        rest,
      ),
    ),
  ),
)

abbrev early_load : Entry
early_load = unwrap_or (slice_get load_first 4) made

abbrev late_store : Entry
late_store = unwrap_or (slice_get load_first 5) made

abbrev join_loader : Entry
join_loader = unwrap_or (slice_get load_first 6) made

abbrev free_closed : Entry
free_closed = unwrap_or (slice_get load_first 7) made

abbrev l5 : P racing
l5 = step racing l4 1 early_load None

abbrev l6 : P racing
l6 = step racing l5 0 late_store None

abbrev l7 : P racing
l7 = ends racing l6 1 returned

abbrev l8 : P racing
l8 = step racing l7 0 join_loader None

abbrev l9 : P racing
l9 = step racing l8 0 free_closed (Some returned)

load_first_runs : ReplaysAs racing limits (0 ∷ 0 ∷ 0 ∷ 0 ∷ 1 ∷ 0 ∷ []) load_first (counters 8 1 1) (returned ∷ returned ∷ [])
load_first_runs = record {
  last = l9;
  replay = record {
    mid = l6;
    picks = 1 ∷ 0 ∷ 0 ∷ [];
    scheduled =
        first_four l6 (1 ∷ 0 ∷ []) (
          l5,
          stepped racing limits l4 1 early_load None (ready racing l4 1 refl refl refl)
              ((0, refl), λ h. few 0 (omega arith), tt, few 4 (omega arith), refl, refl, refl, (refl, refl, tt), (alloc 1, refl, refl), goes_on (M racing) limits (state racing l5 1) (λ why h. cc) (other_count 1 (omega arith))),
          (
            l6,
            stepped racing limits l5 0 late_store None (ready racing l5 0 refl refl refl)
                ((0, refl), λ h. few 4 (omega arith), tt, few 5 (omega arith), refl, refl, refl, (refl, refl, tt), (alloc 1, refl, refl), goes_on (M racing) limits (state racing l6 0) (λ why h. cc) (other_count 5 (omega arith))),
            refl,
          ),
        );
    least = (
      can racing l6 1 (ready racing l6 1 refl refl refl),
      one_other (λ u. CanGoOn (M racing) objects l6 u → ⊥) (stays racing l6 0 refl refl),
      (
        l7,
        ended racing limits l6 1 returned (ready racing l6 1 refl refl refl) ((1, (refl, λ h. few 1 (omega arith), refl)), (refl, λ h. not_begun h), tt),
        (
          can racing l7 0 (ready racing l7 0 refl refl refl),
          (λ u less c. no_other u less),
          (
            l8,
            stepped racing limits l7 0 join_loader None (ready racing l7 0 refl refl refl)
                ((0, refl), λ h. few 5 (omega arith), (0, None, refl), few 6 (omega arith), refl, refl, refl, (refl, refl), (0, None, refl, refl), goes_on (M racing) limits (state racing l8 0) (λ why h. cc) (other_count 6 (omega arith))),
            (
              can racing l8 0 (ready racing l8 0 refl refl refl),
              (λ u less c. no_other u less),
              (
                l9,
                stepped racing limits l8 0 free_closed (Some returned) (ready racing l8 0 refl refl refl)
                    ((0, refl), λ h. few 6 (omega arith), tt, few 7 (omega arith), refl, refl, refl, (refl, refl, tt), (alloc 1, refl, refl), (tt, (refl, λ h. not_begun h))),
                refl,
              ),
            ),
          ),
        ),
      ),
    );
    over = all_over;
  };
  merge = refl;
  drawn = refl;
  ended = refl;
}
  where
    all_over : (t : ℕ) (f : Fiber (M racing)) → slice_get l9.threads t ≡ Some f → f.«end» ≢ None
    all_over zero f at = over_at racing (fiber racing l9 0) f returned at refl
    all_over (suc zero) f at = over_at racing (fiber racing l9 1) f returned at refl
    all_over (suc (suc t)) f at = no_fiber racing f at

-- the write is first -----------------------------------------------------------------

abbrev early_store : Entry
early_store = unwrap_or (slice_get write_first 4) made

abbrev late_load : Entry
late_load = unwrap_or (slice_get write_first 5) made

abbrev join_late : Entry
join_late = unwrap_or (slice_get write_first 6) made

abbrev free_clean : Entry
free_clean = unwrap_or (slice_get write_first 7) made

abbrev w5 : P racing
w5 = step racing l4 0 early_store None

abbrev w6 : P racing
w6 = step racing w5 1 late_load None

abbrev w7 : P racing
w7 = ends racing w6 1 returned

abbrev w8 : P racing
w8 = step racing w7 0 join_late None

abbrev w9 : P racing
w9 = step racing w8 0 free_clean (Some returned)

write_first_runs : ReplaysAs racing limits (0 ∷ 0 ∷ 0 ∷ 0 ∷ 0 ∷ 1 ∷ []) write_first (counters 8 1 1) (returned ∷ returned ∷ [])
write_first_runs = record {
  last = w9;
  replay = record {
    mid = w6;
    picks = 1 ∷ 0 ∷ 0 ∷ [];
    scheduled =
        first_four w6 (0 ∷ 1 ∷ []) (
          w5,
          stepped racing limits l4 0 early_store None (ready racing l4 0 refl refl refl)
              ((0, refl), λ h. few 4 (omega arith), tt, few 4 (omega arith), refl, refl, refl, (refl, refl, tt), (alloc 1, refl, refl), goes_on (M racing) limits (state racing w5 0) (λ why h. cc) (other_count 5 (omega arith))),
          (
            w6,
            stepped racing limits w5 1 late_load None (ready racing w5 1 refl refl refl)
                ((0, refl), λ h. few 0 (omega arith), tt, few 5 (omega arith), refl, refl, refl, (refl, refl, tt), (alloc 1, refl, refl), goes_on (M racing) limits (state racing w6 1) (λ why h. cc) (other_count 1 (omega arith))),
            refl,
          ),
        );
    least = (
      can racing w6 1 (ready racing w6 1 refl refl refl),
      one_other (λ u. CanGoOn (M racing) objects w6 u → ⊥) (stays racing w6 0 refl refl),
      (
        w7,
        ended racing limits w6 1 returned (ready racing w6 1 refl refl refl) ((1, (refl, λ h. few 1 (omega arith), refl)), (refl, λ h. not_begun h), tt),
        (
          can racing w7 0 (ready racing w7 0 refl refl refl),
          (λ u less c. no_other u less),
          (
            w8,
            stepped racing limits w7 0 join_late None (ready racing w7 0 refl refl refl)
                ((0, refl), λ h. few 5 (omega arith), (0, None, refl), few 6 (omega arith), refl, refl, refl, (refl, refl), (0, None, refl, refl), goes_on (M racing) limits (state racing w8 0) (λ why h. cc) (other_count 6 (omega arith))),
            (
              can racing w8 0 (ready racing w8 0 refl refl refl),
              (λ u less c. no_other u less),
              (
                w9,
                stepped racing limits w8 0 free_clean (Some returned) (ready racing w8 0 refl refl refl)
                    ((0, refl), λ h. few 6 (omega arith), tt, few 7 (omega arith), refl, refl, refl, (refl, refl, tt), (alloc 1, refl, refl), (tt, (refl, λ h. not_begun h))),
                refl,
              ),
            ),
          ),
        ),
      ),
    );
    over = all_over;
  };
  merge = refl;
  drawn = refl;
  ended = refl;
}
  where
    all_over : (t : ℕ) (f : Fiber (M racing)) → slice_get w9.threads t ≡ Some f → f.«end» ≢ None
    all_over zero f at = over_at racing (fiber racing w9 0) f returned at refl
    all_over (suc zero) f at = over_at racing (fiber racing w9 1) f returned at refl
    all_over (suc (suc t)) f at = no_fiber racing f at

-- a thread ends with its last step -----------------------------------------------------

abbrev made_heap : Entry
made_heap = unwrap_or (slice_get join_at_once 0) made

abbrev started_one : Entry
started_one = unwrap_or (slice_get join_at_once 1) made

abbrev started_two : Entry
started_two = unwrap_or (slice_get join_at_once 2) made

abbrev entered : Entry
entered = unwrap_or (slice_get join_at_once 3) made

abbrev unprotected : Entry
unprotected = unwrap_or (slice_get join_at_once 4) made

abbrev join_one : Entry
join_one = unwrap_or (slice_get join_at_once 5) made

abbrev load_two : Entry
load_two = unwrap_or (slice_get join_at_once 6) made

abbrev join_two : Entry
join_two = unwrap_or (slice_get join_at_once 7) made

abbrev e1 : P ending
e1 = step ending (begin ending) 0 made_heap None

abbrev e2 : P ending
e2 = step ending e1 0 started_one None

abbrev e3 : P ending
e3 = step ending e2 0 started_two None

abbrev e4 : P ending
e4 = step ending e3 1 entered None

abbrev e5 : P ending
e5 = step ending e4 1 unprotected (Some returned)

abbrev e6 : P ending
e6 = step ending e5 0 join_one None

abbrev e7 : P ending
e7 = step ending e6 2 load_two None

abbrev e8 : P ending
e8 = ends ending e7 2 returned

abbrev e9 : P ending
e9 = step ending e8 0 join_two (Some returned)

ended_at_once_runs : ReplaysAs ending limits (0 ∷ 0 ∷ 0 ∷ 1 ∷ 1 ∷ 0 ∷ 2 ∷ []) join_at_once (counters 8 1 2) (returned ∷ returned ∷ returned ∷ [])
ended_at_once_runs = record {
  last = e9;
  replay = record {
    mid = e7;
    picks = 2 ∷ 0 ∷ [];
    scheduled = (
      e1,
      stepped ending limits (begin ending) 0 made_heap None (ready ending (begin ending) 0 refl refl refl)
          ((0, refl), λ h. few 0 (omega arith), few_allocs 0 (omega arith), few 0 (omega arith), refl, refl, refl, refl, (refl, refl), goes_on (M ending) limits (state ending e1 0) (λ why h. cc) (other_count 1 (omega arith))),
      (
        e2,
        stepped ending limits e1 0 started_one None (ready ending e1 0 refl refl refl)
            ((0, refl), λ h. few 1 (omega arith), few_threads 0 (omega arith), few 1 (omega arith), refl, refl, refl, (refl, refl), refl, goes_on (M ending) limits (state ending e2 0) (λ why h. cc) (other_count 2 (omega arith))),
        (
          e3,
          stepped ending limits e2 0 started_two None (ready ending e2 0 refl refl refl)
              ((0, refl), λ h. few 2 (omega arith), few_threads 1 (omega arith), few 2 (omega arith), refl, refl, refl, (refl, refl), refl, goes_on (M ending) limits (state ending e3 0) (λ why h. cc) (other_count 3 (omega arith))),
          (
            e4,
            stepped ending limits e3 1 entered None (ready ending e3 1 refl refl refl)
                ((0, refl), λ h. few 0 (omega arith), tt, few 3 (omega arith), refl, refl, refl, (refl, refl, tt), (alloc 1, refl, refl), goes_on (M ending) limits (state ending e4 1) (λ why h. cc) (other_count 0 (omega arith))),
            (
              e5,
              stepped ending limits e4 1 unprotected (Some returned) (ready ending e4 1 refl refl refl)
                  ((0, refl), λ h. few 0 (omega arith), tt, few 4 (omega arith), refl, refl, refl, (refl, refl, tt), (alloc 1, refl, refl), (tt, (refl, λ h. not_begun h))),
              (
                e6,
                stepped ending limits e5 0 join_one None (ready ending e5 0 refl refl refl)
                    ((0, refl), λ h. few 3 (omega arith), (0, None, refl), few 5 (omega arith), refl, refl, refl, (refl, refl), (0, None, refl, refl), goes_on (M ending) limits (state ending e6 0) (λ why h. cc) (other_count 4 (omega arith))),
                (
                  e7,
                  stepped ending limits e6 2 load_two None (ready ending e6 2 refl refl refl)
                      ((0, refl), λ h. few 0 (omega arith), tt, few 6 (omega arith), refl, refl, refl, (refl, refl, tt), (alloc 1, refl, refl), goes_on (M ending) limits (state ending e7 2) (λ why h. cc) (other_count 1 (omega arith))),
                  refl,
                ),
              ),
            ),
          ),
        ),
      ),
    );
    least = (
      can ending e7 2 (ready ending e7 2 refl refl refl),
      two_others (λ u. CanGoOn (M ending) objects e7 u → ⊥) (stays ending e7 0 refl refl) (gone ending e7 1 returned refl refl),
      (
        e8,
        ended ending limits e7 2 returned (ready ending e7 2 refl refl refl) ((1, (refl, λ h. few 1 (omega arith), refl)), (refl, λ h. not_begun h), tt),
        (
          can ending e8 0 (ready ending e8 0 refl refl refl),
          (λ u less c. no_other u less),
          (
            e9,
            stepped ending limits e8 0 join_two (Some returned) (ready ending e8 0 refl refl refl)
                ((0, refl), λ h. few 4 (omega arith), (0, None, refl), few 7 (omega arith), refl, refl, refl, (refl, refl), (0, None, refl, refl), (tt, (refl, λ h. not_begun h))),
            refl,
          ),
        ),
      ),
    );
    over = all_over;
  };
  merge = refl;
  drawn = refl;
  ended = refl;
}
  where
    all_over : (t : ℕ) (f : Fiber (M ending)) → slice_get e9.threads t ≡ Some f → f.«end» ≢ None
    all_over zero f at = over_at ending (fiber ending e9 0) f returned at refl
    all_over (suc zero) f at = over_at ending (fiber ending e9 1) f returned at refl
    all_over (suc (suc zero)) f at = over_at ending (fiber ending e9 2) f returned at refl
    all_over (suc (suc (suc t))) f at = no_fiber ending f at

-- a step limit at a Spawn -----------------------------------------------------------------

abbrev made_only : Entry
made_only = unwrap_or (slice_get made_alone 0) made

abbrev s1 : P limiting
s1 = step limiting (begin limiting) 0 made_only None

abbrev s2 : P limiting
s2 = ends_now limiting s1 0 limit_reached

limited_spawn_runs : ReplaysAs limiting one_step [] made_alone (counters 2 1 1) (limit_reached ∷ [])
limited_spawn_runs = record {
  last = s2;
  replay = record {
    mid = begin limiting;
    picks = 0 ∷ 0 ∷ [];
    scheduled = refl;
    least = (
      can limiting (begin limiting) 0 (ready limiting (begin limiting) 0 refl refl refl),
      (λ u less c. no_other u less),
      (
        s1,
        stepped limiting one_step (begin limiting) 0 made_only None (ready limiting (begin limiting) 0 refl refl refl)
            ((0, refl), λ h. few 0 (omega arith), few_allocs 0 (omega arith), no_step, refl, refl, refl, refl, (refl, refl), goes_on (M limiting) one_step (state limiting s1 0) (λ why h. cc) (other_count 1 (omega arith))),
        (
          can limiting s1 0 (ready limiting s1 0 refl refl refl),
          (λ u less c. no_other u less),
          (
            s2,
            ended_now limiting one_step s1 0 limit_reached (ready limiting s1 0 refl refl refl) ((0, refl), (tt, above, λ h. few 1 (omega arith)), (refl, few_threads 0 (omega arith))),
            refl,
          ),
        ),
      ),
    );
    over = all_over;
  };
  merge = refl;
  drawn = refl;
  ended = refl;
}
  where
    no_step : 0 < 1
    no_step = omega arith

    above : 1 < 2
    above = omega arith

    all_over : (t : ℕ) (f : Fiber (M limiting)) → slice_get s2.threads t ≡ Some f → f.«end» ≢ None
    all_over zero f at = over_at limiting (fiber limiting s2 0) f limit_reached at refl
    all_over (suc t) f at = no_fiber limiting f at

-- a child that ended early is joined ---------------------------------------------------------

abbrev made_freed : Entry
made_freed = unwrap_or (slice_get load_freed 0) made

abbrev freed : Entry
freed = unwrap_or (slice_get load_freed 1) made

abbrev started_loader : Entry
started_loader = unwrap_or (slice_get load_freed 2) made

abbrev trapped_load : Entry
trapped_load = unwrap_or (slice_get load_freed 3) made

abbrev c1 : P stopping
c1 = step stopping (begin stopping) 0 made_freed None

abbrev c2 : P stopping
c2 = step stopping c1 0 freed None

abbrev c3 : P stopping
c3 = step stopping c2 0 started_loader None

abbrev c4 : P stopping
c4 = step stopping c3 1 trapped_load (Some freed_trap)

abbrev c5 : P stopping
c5 = ends_now stopping c4 0 child_stopped

stopped_child_runs : ReplaysAs stopping limits (0 ∷ 0 ∷ 0 ∷ 0 ∷ []) load_freed (counters 4 1 1) (child_stopped ∷ freed_trap ∷ [])
stopped_child_runs = record {
  last = c5;
  replay = record {
    mid = c3;
    picks = 1 ∷ 0 ∷ [];
    scheduled = (
      c1,
      stepped stopping limits (begin stopping) 0 made_freed None (ready stopping (begin stopping) 0 refl refl refl)
          ((0, refl), λ h. few 0 (omega arith), few_allocs 0 (omega arith), few 0 (omega arith), refl, refl, refl, refl, (refl, refl), goes_on (M stopping) limits (state stopping c1 0) (λ why h. cc) (other_count 1 (omega arith))),
      (
        c2,
        stepped stopping limits c1 0 freed None (ready stopping c1 0 refl refl refl)
            ((0, refl), λ h. few 1 (omega arith), tt, few 1 (omega arith), refl, refl, refl, (refl, refl, tt), (alloc 1, refl, refl), goes_on (M stopping) limits (state stopping c2 0) (λ why h. cc) (other_count 2 (omega arith))),
        (
          c3,
          stepped stopping limits c2 0 started_loader None (ready stopping c2 0 refl refl refl)
              ((0, refl), λ h. few 2 (omega arith), few_threads 0 (omega arith), few 2 (omega arith), refl, refl, refl, (refl, refl), refl, goes_on (M stopping) limits (state stopping c3 0) (λ why h. cc) (other_count 3 (omega arith))),
          (c3, inl (stays stopping c3 0 refl refl, refl), refl),
        ),
      ),
    );
    least = (
      can stopping c3 1 (ready stopping c3 1 refl refl refl),
      one_other (λ u. CanGoOn (M stopping) objects c3 u → ⊥) (stays stopping c3 0 refl refl),
      (
        c4,
        stepped stopping limits c3 1 trapped_load (Some freed_trap) (ready stopping c3 1 refl refl refl)
            ((0, refl), λ h. few 0 (omega arith), tt, few 3 (omega arith), refl, refl, refl, (refl, refl, tt), (alloc 1, refl, refl), (tt, (inl refl, λ h. not_begun h))),
        (
          can stopping c4 0 (ready stopping c4 0 refl refl refl),
          (λ u less c. no_other u less),
          (
            c5,
            ended_now stopping limits c4 0 child_stopped (ready stopping c4 0 refl refl refl) ((0, refl), (refl, λ h. few 3 (omega arith)), (freed_trap, refl, λ v q h. no_return v q h)),
            refl,
          ),
        ),
      ),
    );
    over = all_over;
  };
  merge = refl;
  drawn = refl;
  ended = refl;
}
  where
    no_return : (v : ℕ) (q : Option Prov) → freed_trap ≡ log_end.Returned v q → ⊥
    no_return v q h = cc

    all_over : (t : ℕ) (f : Fiber (M stopping)) → slice_get c5.threads t ≡ Some f → f.«end» ≢ None
    all_over zero f at = over_at stopping (fiber stopping c5 0) f child_stopped at refl
    all_over (suc zero) f at = over_at stopping (fiber stopping c5 1) f freed_trap at refl
    all_over (suc (suc t)) f at = no_fiber stopping f at

pub replays_by_example : ReplaysByExample
replays_by_example = record { load_first = load_first_runs; write_first = write_first_runs; ended_at_once = ended_at_once_runs; limited_spawn = limited_spawn_runs; stopped_child = stopped_child_runs }
