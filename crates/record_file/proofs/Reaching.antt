-- What follows of the logs that were run and of the threads that wait.
use Rattle.std.proofs.Common.{◌≡◌, ◌≢◌, ◌↔◌, ◌⊎◌, ℕ, zero, suc, ◌+◌, ◌<◌, ◌≤◌, Bool, true, false, cond, List, [], ◌∷◌, ◌++◌, length, refl, sym, ◌∙◌, ap, subst, inl, inr, arith, sum_by}
use Rattle.std.specs.Prelude.{Option, Some, None, slice_get, slice_set}
use Rattle.std.proofs.lemmas.Bool.Decides.{eqb_tells}
use Rattle.std.proofs.lemmas.Option.{slice_get_within}
use Rattle.std.proofs.lemmas.List.Sums.{sum_by-cons}
use Rattle.bsan_ids.specs.declared.numbers.Limits.{Limits}
use Rattle.bsan_ids.specs.declared.numbers.ThreadNo.{ThreadNo}
use Rattle.history.specs.declared.log.ThreadLog.{ThreadLog}
use Rattle.runs.specs.Merge.{entries_of}
use Rattle.runs.specs.Parts.{Has}
use Rattle.runs.specs.Right.{AtLeast, HasThreads, IsReached, is_main, is_spawned, asks_make, asks_spawn}
use Rattle.runs.specs.Tree.{Agrees, Firsts, children_of, first_numbers}
use Rattle.runs.proofs.LogLists.{entries_there}
use Rattle.runs.proofs.Tracking.{length_set, some_inj}
use Rattle.runs.proofs.Tying.{spawned_inj}
use Rattle.runs.proofs.Weights.{equals, equals_same, equals_other, equals_cases}
use Rattle.runs.proofs.WholeParts.{first_in, first_agrees}
use Rattle.source_sem.specs.Source.{Setting, Source, source}
use Rattle.record_file.specs.declared.counters.Asking.{Asking}
use Rattle.record_file.specs.declared.feed.Child.{Child}
use Rattle.record_file.specs.declared.reached.Standing.{Standing}
use Rattle.record_file.specs.AsWritten.{AsksAsWritten, HasRunsAsWritten, IsRunAsWritten}
use Rattle.record_file.specs.Counts.{IsCount}
use Rattle.record_file.specs.Feeding.{AreOf, firsts, numbers, starts_of, IsRun, IsNoRun}
use Rattle.record_file.specs.Joins.{AreJoinedRight}
use Rattle.record_file.specs.Reaching.{AllStand, AreAllRuns, HasCome, Stands, is_so, main_in, others, ran, so_many}
use Rattle.record_file.proofs.Marking.{at_within, has_at, one_place, place_of, set_here, set_other, spawn_of}
use Rattle.record_file.proofs.Others.{agrees_all, agrees_both, agrees_others, firsts_both, no_zero, of_both, of_others, of_parts, sum_both, sum_others, sum_waiting}
use Rattle.record_file.proofs.Ran.{children_once, entry_counts, ran_less, ran_set, ran_weighs, some_entry, some_ran}

agrees_first : (starts : ℕ → Source) (ps : Firsts Source) (s t : Source) (n : ℕ) → Agrees starts ((n, s) ∷ ps) → starts n ≡ s
agrees_first starts ps s t n h = h.0

-- a number that stands in a list weighs
counted_last : (n : ℕ) (rest : List Child) (c : Child) → c.number.0 ≡ n → 1 ≤ sum_by (equals n) (numbers (rest ++ c ∷ []))
counted_last n rest c is =
    let one = equals_same n in
    let at : equals n c.number.0 ≡ equals n n = ap (equals n) is in
    omega (arith, one, at, sum_waiting (equals n) rest (c ∷ []), sum_by-cons (equals n) c.number.0 [])

module _ (x : Setting) (limits : Limits) (main : ℕ) (logs : List ThreadLog) (threads : HasThreads main logs) where
  abbrev Runs : Type 0
  Runs = HasRunsAsWritten (source x) limits (main_in x main) logs

  -- what was found agrees with any runs
  module _ (ss : List (Option Standing)) (waiting : List Child) (h : HasCome x limits main logs ss waiting) where
    pub runs_agree : (r : Runs) → Agrees r.starts h.known
    runs_agree r = h.forced r.starts r.first (λ i log a at is. r.runs log (has_at logs i log at))

    -- a number that is known has a log
    known_log : (n : ℕ) → 1 ≤ sum_by (equals n) (first_numbers h.known) → (log : ThreadLog) × Has logs log × (log.number.0 ≡ n)
    known_log n le = elim (eqb_tells n 0) [
      | inl hit ↦ (let f = threads.has_first in (f.0, f.1, f.2 ∙ sym hit.1))
      | inr miss ↦ (
          let w = h.weigh (equals n) (equals_other n 0 (λ same. miss.1 (sym same))) in
          let l = some_ran (λ (k : ThreadLog). sum_by (equals n) (children_of k)) logs ss (omega (arith, le, w)) in
          let e = some_entry n l.log.entries l.weighs in
          let s = spawn_of e.0 n e.2 in
          let child = threads.children l.log e.0 s.0 (has_at logs l.place l.log l.there) e.1 s.2 in
          (child.0, child.1, ap (λ (k : ThreadNo). k.0) (sym (spawned_inj (sym s.3 ∙ child.2))) ∙ s.4))
    ]

    -- it is known once
    pub known_once : (n : ℕ) → sum_by (equals n) (first_numbers h.known) ≤ 1
    known_once n = elim (eqb_tells n 0) [
      | inl hit ↦ (
          let one = h.main_once in
          let at : sum_by (equals n) (first_numbers h.known) ≡ sum_by (equals 0) (first_numbers h.known) = ap (λ k. sum_by (equals k) (first_numbers h.known)) hit.1 in
          omega (arith, one, at))
      | inr miss ↦ by_count miss.1 (at_most (sum_by (equals n) (first_numbers h.known)))
    ]
      where
        at_most : (k : ℕ) → (k ≤ 1) ⊎ (2 ≤ k)
        at_most zero = inl (omega arith)
        at_most (suc zero) = inl (omega arith)
        at_most (suc (suc k)) = inr (omega arith)

        by_count : (n ≢ 0) → (sum_by (equals n) (first_numbers h.known) ≤ 1) ⊎ (2 ≤ sum_by (equals n) (first_numbers h.known)) → sum_by (equals n) (first_numbers h.known) ≤ 1
        by_count other (inl few) = few
        by_count other (inr many) =
            let l = known_log n (omega (arith, many)) in
            let w = h.weigh (equals n) (equals_other n 0 (λ same. other (sym same))) in
            let less = ran_less (λ (k : ThreadLog). sum_by (equals n) (children_of k)) logs ss in
            let once = subst (λ m. sum_by (λ (k : ThreadLog). sum_by (equals m) (children_of k)) logs ≡ 1) l.2
            (children_once main logs threads l.0 l.1 (λ zero_is. other (sym l.2 ∙ zero_is))) in
            absurd (omega (arith, many, w, less, once))

  -- the thread that is run next
  module _ (ss : List (Option Standing)) (rest : List Child) (c : Child) (h : HasCome x limits main logs ss (rest ++ c ∷ [])) where
    known_last : 1 ≤ sum_by (equals c.number.0) (first_numbers h.known)
    known_last = let s = h.split (equals c.number.0) in let one = counted_last c.number.0 rest c refl in omega (arith, s, one)

    pub next_has_log : ((log : ThreadLog) → Has logs log → log.number ≢ c.number) → ⊥
    next_has_log none =
        let l = known_log ss (rest ++ c ∷ []) h c.number.0 known_last in none l.0 l.1 (ap (λ n. record { 0 = n }) l.2)

    pub next_not_ran : (i : ℕ) (log : ThreadLog) (a : Standing) → slice_get logs i ≡ Some log → log.number ≡ c.number → slice_get ss i ≡ Some (Some a) → ⊥
    next_not_ran i log a at same is =
        let n = c.number.0 in
        let s = h.split (equals n) in
        let one = counted_last n rest c refl in
        let itself = equals_same n in
        let own : equals n log.number.0 ≡ equals n n = ap (λ (k : ThreadNo). equals n k.0) same in
        let more = ran_weighs (λ (l : ThreadLog). equals n l.number.0) logs ss i log a at is in
        let once = known_once ss (rest ++ c ∷ []) h n in
        omega (arith, s, one, itself, own, more, once)

    -- the first state of the next thread
    next_starts : (starts : ℕ → Source) → Agrees starts h.known → (starts 0 ≡ main_in x main) × Agrees starts (firsts rest) × (starts c.number.0 ≡ c.machine.thread)
    next_starts starts agrees =
        let w = h.within starts agrees in
        let both = (agrees_both starts (firsts rest) (firsts (c ∷ []))).0 (subst (Agrees starts) (firsts_both rest (c ∷ [])) w.1) in
        (w.0, both.0, both.1.0)

    module _ (i : ℕ) (log : ThreadLog) (at : slice_get logs i ≡ Some log) (same : log.number ≡ c.number) where
      log_starts : (starts : ℕ → Source) → Agrees starts h.known → starts log.number.0 ≡ c.machine.thread
      log_starts starts agrees = ap (λ (k : ThreadNo). starts k.0) same ∙ (next_starts starts agrees).2

      pub no_run : IsNoRun x limits c.machine.thread log → Runs → ⊥
      no_run none r =
          let agrees = runs_agree ss (rest ++ c ∷ []) h r in
          none r.starts (log_starts r.starts agrees) (r.runs log (has_at logs i log at))

      module _ (cs : List Child) (a : Standing) (run : IsRun x limits c.machine.thread log cs a.makes a.spawns) (of : AreOf x cs) (named : numbers cs ≡ children_of log) where
        module _ (waits : slice_get ss i ≡ Some None) where
          abbrev later : List (Option Standing)
          later = slice_set ss i (Some a)

          abbrev more : Firsts Source
          more = firsts (others cs)

          at_later : (j : ℕ) (b : Standing) → slice_get (slice_set ss i (Some a)) j ≡ Some (Some b) → ((j ≡ i) × (b ≡ a)) ⊎ (slice_get ss j ≡ Some (Some b))
          at_later j b is = elim (eqb_tells j i) [
            | inl hit ↦
                let here : slice_get (slice_set ss i (Some a)) i ≡ Some (Some b) = subst (λ k. slice_get (slice_set ss i (Some a)) k ≡ Some (Some b)) hit.1 is in
                inl (hit.1, some_inj (some_inj (sym here ∙ set_here ss i (Some a) (slice_get_within ss i None waits))))
            | inr miss ↦ inr (sym (set_other ss i j (Some a) miss.1) ∙ is)
          ]

          not_here : (j : ℕ) (b : Standing) → slice_get ss j ≡ Some (Some b) → j ≢ i
          not_here j b is here = (let no : Some None ≡ Some (Some b) = sym waits ∙ ap (slice_get ss) (sym here) ∙ is in cc)

          old_part : (starts : ℕ → Source) → Agrees starts (h.known ++ more) → Agrees starts h.known
          old_part starts agrees = ((agrees_both starts h.known more).0 agrees).0

          new_part : (starts : ℕ → Source) → Agrees starts (h.known ++ more) → Agrees starts (firsts (others cs))
          new_part starts agrees = ((agrees_both starts h.known more).0 agrees).1

          stands_here : (starts : ℕ → Source) → Agrees starts (h.known ++ more) → Stands x limits starts log a
          stands_here starts agrees =
              let old = old_part starts agrees in
              let by = run starts (log_starts starts old) in
              let all = agrees_all starts cs (new_part starts agrees) in
              record { run = by.run.1 all; make = by.make all; spawn = by.spawn all }

          holds_later : (starts : ℕ → Source) → Agrees starts (h.known ++ more) → (j : ℕ) (other : ThreadLog) (b : Standing) → slice_get logs j ≡ Some other → slice_get later j ≡ Some (Some b) → Stands x limits starts other b
          holds_later starts agrees j other b on is = elim (at_later j b is) [
            | inl here ↦
                let own : log ≡ other = some_inj (sym at ∙ ap (slice_get logs) (sym here.0) ∙ on) in
                subst (λ (z : Standing). Stands x limits starts other z) (sym here.1) (subst (λ (z : ThreadLog). Stands x limits starts z a) own (stands_here starts agrees))
            | inr before ↦ h.holds starts (old_part starts agrees) j other b on before
          ]

          forced_later : (starts : ℕ → Source) → starts 0 ≡ main_in x main
              → ((j : ℕ) (other : ThreadLog) (b : Standing) → slice_get logs j ≡ Some other → slice_get later j ≡ Some (Some b) → IsRunAsWritten (source x) limits starts other)
              → Agrees starts (h.known ++ more)
          forced_later starts first runs =
              let old = h.forced starts first (λ j other b on is. runs j other b on (set_other ss i j (Some a) (not_here j b is) ∙ is)) in
              let own = runs i log a at (set_here ss i (Some a) (slice_get_within ss i None waits)) in
              (agrees_both starts h.known more).1 (old, agrees_others starts cs ((run starts (log_starts starts old)).run.0 own))

          within_later : (starts : ℕ → Source) → Agrees starts (h.known ++ more) → (starts 0 ≡ main_in x main) × Agrees starts (firsts (rest ++ others cs))
          within_later starts agrees =
              let next = next_starts starts (old_part starts agrees) in
              (next.0, subst (Agrees starts) (sym (firsts_both rest (others cs))) ((agrees_both starts (firsts rest) more).1 (next.1, new_part starts agrees)))

          weigh_later : (w : ℕ → ℕ) → w 0 ≡ 0 → sum_by w (first_numbers (h.known ++ more)) ≡ sum_by (λ (l : ThreadLog). sum_by w (children_of l)) (ran logs later)
          weigh_later w none =
              let old = h.weigh w none in
              let both = sum_both w h.known more in
              let some = sum_others w none cs in
              let own : sum_by w (numbers cs) ≡ sum_by w (children_of log) = ap (sum_by w) named in
              let set = ran_set (λ (l : ThreadLog). sum_by w (children_of l)) logs ss i log a at waits in
              omega (arith, old, both, some, own, set)

          split_later : (w : ℕ → ℕ) → sum_by w (first_numbers (h.known ++ more)) ≡ sum_by (λ (l : ThreadLog). w l.number.0) (ran logs later) + sum_by w (numbers (rest ++ others cs))
          split_later w =
              let old = h.split w in
              let both = sum_both w h.known more in
              let last = sum_waiting w rest (c ∷ []) in
              let one = sum_by-cons w c.number.0 [] in
              let nothing : sum_by w [] ≡ 0 = refl in
              let new = sum_waiting w rest (others cs) in
              let own : w log.number.0 ≡ w c.number.0 = ap (λ (k : ThreadNo). w k.0) same in
              let set = ran_set (λ (l : ThreadLog). w l.number.0) logs ss i log a at waits in
              omega (arith, old, both, last, one, nothing, new, own, set)

          reached_later : (n : ℕ) → 1 ≤ sum_by (equals n) (first_numbers (h.known ++ more)) → IsReached logs n
          reached_later n le = by_part (some_part (sum_by (equals n) (first_numbers h.known)))
            where
              some_part : (k : ℕ) → (1 ≤ k) ⊎ (k ≡ 0)
              some_part zero = inr refl
              some_part (suc k) = inl (omega arith)

              by_part : (1 ≤ sum_by (equals n) (first_numbers h.known)) ⊎ (sum_by (equals n) (first_numbers h.known) ≡ 0) → IsReached logs n
              by_part (inl old) = h.reached n old
              by_part (inr none) =
                  let both = sum_both (equals n) h.known more in
                  let other : n ≢ 0 = λ zero_is.
                  (let nothing = no_zero cs in
                  let same_sum : sum_by (equals n) (numbers (others cs)) ≡ sum_by (equals 0) (numbers (others cs)) = ap (λ k. sum_by (equals k) (numbers (others cs))) zero_is in
                  omega (arith, le, none, both, nothing, same_sum)) in
                  let some = sum_others (equals n) (equals_other n 0 (λ is. other (sym is))) cs in
                  let own : sum_by (equals n) (numbers cs) ≡ sum_by (equals n) (starts_of log.entries) = ap (sum_by (equals n)) named in
                  let e = some_entry n log.entries (omega (arith, le, none, both, some, own)) in
                  let there = h.reached c.number.0 known_last in
                  is_spawned e.0 (subst (λ (k : ThreadNo). IsReached logs k.0) (sym same) there)
                  (subst (λ es. Has es e.0) (sym (entries_there 0 logs log threads.rise (has_at logs i log at))) e.1) e.2

          pub comes_on : HasCome x limits main logs (slice_set ss i (Some a)) (rest ++ others cs)
          comes_on = record {
            long = length_set ss i (Some a) ∙ h.long;
            of = of_both x rest (others cs) (of_parts x rest (c ∷ []) h.of).0 (of_others x cs of);
            known = h.known ++ more;
            weigh = weigh_later;
            split = split_later;
            main_once = let both = sum_both (equals 0) h.known more in let none = no_zero cs in let one = h.main_once in omega (arith, both, none, one);
            holds = holds_later;
            forced = forced_later;
            within = within_later;
            reached = reached_later;
          }

  -- at the end ------------------------------------------------------------------------

  module _ (ss : List (Option Standing)) (h : HasCome x limits main logs ss []) where
    -- who is known was run
    known_ran : (n : ℕ) → 1 ≤ sum_by (equals n) (first_numbers h.known) → (i : ℕ) × (log : ThreadLog) × (a : Standing) × (slice_get logs i ≡ Some log) × (slice_get ss i ≡ Some (Some a)) × (log.number.0 ≡ n)
    known_ran n le =
        let s = h.split (equals n) in
        let r = some_ran (λ (l : ThreadLog). equals n l.number.0) logs ss (omega (arith, le, s)) in (
          r.place,
          r.log,
          r.standing,
          r.there,
          r.was,
          elim (equals_cases n r.log.number.0) [
            | inl hit ↦ hit.0
            | inr miss ↦ (let none = miss.1 in let some = r.weighs in absurd (omega (arith, none, some)))
          ],
        )

    reached_known : (n : ℕ) → IsReached logs n → 1 ≤ sum_by (equals n) (first_numbers h.known)
    reached_known n is_main = let one = h.main_once in omega (arith, one)
    reached_known n (is_spawned spawn parent stands is) = elim (eqb_tells n 0) [
      | inl hit ↦ (
          let one = h.main_once in
          let at : sum_by (equals n) (first_numbers h.known) ≡ sum_by (equals 0) (first_numbers h.known) = ap (λ k. sum_by (equals k) (first_numbers h.known)) hit.1 in
          omega (arith, one, at))
      | inr miss ↦ (
          let p = known_ran _ (reached_known _ parent) in
          let own : Has p.1.entries spawn = subst (λ es. Has es spawn) (ap (entries_of logs) (sym p.5) ∙ entries_there 0 logs p.1 threads.rise (has_at logs p.0 p.1 p.3)) stands in
          let w = h.weigh (equals n) (equals_other n 0 (λ same. miss.1 (sym same))) in
          let one = entry_counts n p.1.entries spawn own is in
          let more = ran_weighs (λ (l : ThreadLog). sum_by (equals n) (children_of l)) logs ss p.0 p.1 p.2 p.3 p.4 in
          omega (arith, w, one, more))
    ]

    -- a log that was not run is not reached
    pub not_reached : (i : ℕ) (log : ThreadLog) → slice_get logs i ≡ Some log → slice_get ss i ≡ Some None → Runs → ⊥
    not_reached i log at waits r =
        let p = known_ran log.number.0 (reached_known log.number.0 (r.reached log (has_at logs i log at))) in
        let here : p.0 ≡ i = one_place 0 logs threads.rise p.0 i p.1 log p.3 at p.5 in
        (let no : Some (Some p.2) ≡ Some None = sym p.4 ∙ ap (slice_get ss) here ∙ waits in cc)

    -- where all logs are runs each was run
    pub all_stand : Runs → AllStand ss
    all_stand r i less = by_standing (at_within ss i less) (at_within logs i (subst (λ n. i < n) h.long less))
      where
        by_standing : (o : Option Standing) × (slice_get ss i ≡ Some o) → (log : ThreadLog) × (slice_get logs i ≡ Some log) → (a : Standing) × (slice_get ss i ≡ Some (Some a))
        by_standing (None, is) l = absurd (not_reached i l.0 l.1 is r)
        by_standing (Some a, is) l = (a, is)

    module _ (all : AllStand ss) where
      abbrev starts : ℕ → Source
      starts = first_in h.known (main_in x main)

      agrees : Agrees starts h.known
      agrees = first_agrees h.known (main_in x main) (known_once ss [] h)

      stands : (f : ℕ → Source) → Agrees f h.known → (log : ThreadLog) → Has logs log → (a : Standing) × Stands x limits f log a
      stands f fits log there =
          let p = place_of logs log there in
          let a = all p.0 (subst (λ n. p.0 < n) (sym h.long) (slice_get_within logs p.0 log p.1)) in
          (a.0, h.holds f fits p.0 log a.0 p.1 a.1)

      log_known : (log : ThreadLog) → Has logs log → 1 ≤ sum_by (equals log.number.0) (first_numbers h.known)
      log_known log there =
          let p = place_of logs log there in
          let a = all p.0 (subst (λ n. p.0 < n) (sym h.long) (slice_get_within logs p.0 log p.1)) in
          let s = h.split (equals log.number.0) in
          let one = equals_same log.number.0 in
          let own = ran_weighs (λ (l : ThreadLog). equals log.number.0 l.number.0) logs ss p.0 log a.0 p.1 a.1 in
          omega (arith, s, one, own)

      pub all_run : AreJoinedRight logs → Runs
      all_run joined = record {
        starts = starts;
        first = (h.within starts agrees).0;
        reached = λ log there. h.reached log.number.0 (log_known log there);
        runs = λ log there. (stands starts agrees log there).1.run;
        joined = λ log e c there own is. subst (λ r. Rattle.record_file.specs.Joins.JoinsRight logs e r) is ((joined log there).0 e own);
        ended = λ log c there is. subst (λ o. Rattle.record_file.specs.Joins.EndsRight logs o) is (joined log there).1;
      }

      pub stand_all : (r : Runs) (i : ℕ) (log : ThreadLog) (a : Standing) → slice_get logs i ≡ Some log → slice_get ss i ≡ Some (Some a) → Stands x limits r.starts log a
      stand_all r = h.holds r.starts (runs_agree ss [] h r)

-- who asks, by a mark for each log ---------------------------------------------------------

-- the number of logs that are so, each told by its standing
abbrev pub AreSo : (ThreadLog → Type 0) → (Standing → Bool) → List ThreadLog → List (Option Standing) → Type 0
AreSo P so [] ss = Unit {0}
AreSo P so (l ∷ ls) [] = ⊥
AreSo P so (l ∷ ls) (None ∷ ss) = ⊥
AreSo P so (l ∷ ls) (Some a ∷ ss) = (P l ↔ (so a ≡ true)) × AreSo P so ls ss

abbrev one : (Standing → Bool) → Option Standing → ℕ
one so o = cond (is_so so o) 1 0

module _ (P : ThreadLog → Type 0) (so : Standing → Bool) where
  at_least_one : (l : ThreadLog) (ls : List ThreadLog) (n : ℕ) → P l → AtLeast P n ls → AtLeast P (suc n) (l ∷ ls)
  at_least_one l ls n p rest = inl (p, rest)

  skip : (l : ThreadLog) (ls : List ThreadLog) (n : ℕ) → AtLeast P n ls → AtLeast P n (l ∷ ls)
  skip l ls zero rest = tt
  skip l ls (suc n) rest = inr rest

  pub counted : (ls : List ThreadLog) (ss : List (Option Standing)) → AreSo P so ls ss → length ss ≡ length ls → AtLeast P (so_many so ss) ls × ((n : ℕ) → AtLeast P n ls → n ≤ so_many so ss)
  counted [] [] are long = (tt, none)
    where
      none : (n : ℕ) → AtLeast P n [] → n ≤ so_many so []
      none zero h = omega arith
      none (suc n) h = absurd h
  counted [] (s ∷ ss) are long = absurd (omega (arith, long))
  counted (l ∷ ls) [] are long = absurd are
  counted (l ∷ ls) (None ∷ ss) are long = absurd are
  counted (l ∷ ls) (Some a ∷ ss) are long = by_so (so a) refl (counted ls ss are.1 (omega (arith, long)))
    where
      by_so : (b : Bool) → so a ≡ b → AtLeast P (so_many so ss) ls × ((n : ℕ) → AtLeast P n ls → n ≤ so_many so ss)
          → AtLeast P (so_many so (Some a ∷ ss)) (l ∷ ls) × ((n : ℕ) → AtLeast P n (l ∷ ls) → n ≤ so_many so (Some a ∷ ss))
      by_so true is rest =
          let more : so_many so (Some a ∷ ss) ≡ suc (so_many so ss) = (let b : one so (Some a) ≡ 1 = ap (λ c. cond c 1 0) is in let cons : so_many so (Some a ∷ ss) ≡ one so (Some a) + so_many so ss = sum_by-cons (one so) (Some a) ss in omega (arith, b, cons)) in
          (subst (λ n. AtLeast P n (l ∷ ls)) (sym more) (at_least_one l ls (so_many so ss) (are.0.1 is) rest.0), few)
        where
          few : (n : ℕ) → AtLeast P n (l ∷ ls) → n ≤ so_many so (Some a ∷ ss)
          few zero g = omega arith
          few (suc n) (inl g) = let r = rest.1 n g.1 in let b : one so (Some a) ≡ 1 = ap (λ c. cond c 1 0) is in let cons : so_many so (Some a ∷ ss) ≡ one so (Some a) + so_many so ss = sum_by-cons (one so) (Some a) ss in omega (arith, r, b, cons)
          few (suc n) (inr g) = let r = rest.1 (suc n) g in let cons : so_many so (Some a ∷ ss) ≡ one so (Some a) + so_many so ss = sum_by-cons (one so) (Some a) ss in omega (arith, r, cons)
      by_so false is rest =
          let none : so_many so (Some a ∷ ss) ≡ so_many so ss = (let b : one so (Some a) ≡ 0 = ap (λ c. cond c 1 0) is in let cons : so_many so (Some a ∷ ss) ≡ one so (Some a) + so_many so ss = sum_by-cons (one so) (Some a) ss in omega (arith, b, cons)) in
          (subst (λ n. AtLeast P n (l ∷ ls)) (sym none) (skip l ls (so_many so ss) rest.0), few)
        where
          wrong : so a ≡ true → ⊥
          wrong met = (let no : true ≡ false = sym met ∙ is in cc)

          few : (n : ℕ) → AtLeast P n (l ∷ ls) → n ≤ so_many so (Some a ∷ ss)
          few zero g = omega arith
          few (suc n) (inl g) = absurd (wrong (are.0.0 g.0))
          few (suc n) (inr g) = let r = rest.1 (suc n) g in let cons : so_many so (Some a ∷ ss) ≡ one so (Some a) + so_many so ss = sum_by-cons (one so) (Some a) ss in omega (arith, r, cons)

  pub is_count : (ls : List ThreadLog) (ss : List (Option Standing)) → AreSo P so ls ss → length ss ≡ length ls → (n : ℕ) → n ≡ so_many so ss → IsCount P ls n
  is_count ls ss are long n is =
      let c = counted ls ss are long in
      (subst (λ k. AtLeast P k ls) (sym is) c.0, λ more. (let le = c.1 (suc n) more in omega (arith, le, is)))

  pub all_so : (ls : List ThreadLog) (ss : List (Option Standing)) → length ss ≡ length ls → ((i : ℕ) → i < length ss → (a : Standing) × (slice_get ss i ≡ Some (Some a)))
      → ((i : ℕ) (l : ThreadLog) (a : Standing) → slice_get ls i ≡ Some l → slice_get ss i ≡ Some (Some a) → P l ↔ (so a ≡ true)) → AreSo P so ls ss
  all_so [] ss long all each = tt
  all_so (l ∷ ls) [] long all each = absurd (omega (arith, long))
  all_so (l ∷ ls) (None ∷ ss) long all each = (let first = all 0 (omega arith) in let no : Some None ≡ Some (Some first.0) = first.1 in cc)
  all_so (l ∷ ls) (Some a ∷ ss) long all each =
      (each 0 l a refl refl, all_so ls ss (omega (arith, long)) (λ i less. all (suc i) (omega (arith, less))) (λ i k b on is. each (suc i) k b on is))

-- all logs were run, and so many threads stand where they ask
pub are_all_runs : (x : Setting) (limits : Limits) (main : ℕ) (logs : List ThreadLog) (threads : HasThreads main logs) (ss : List (Option Standing)) (h : HasCome x limits main logs ss []) → AllStand ss → AreJoinedRight logs
    → (n : Asking) → n.makes ≡ so_many (λ a. a.makes) ss → n.spawns ≡ so_many (λ a. a.spawns) ss → AreAllRuns (Some n) x limits main logs
are_all_runs x limits main logs threads ss h all joined n makes spawns = (
  all_run x limits main logs threads ss h all joined,
  λ r. (
      let each = stand_all x limits main logs threads ss h all r in (
        is_count (AsksAsWritten (source x) asks_make limits r.starts) (λ a. a.makes) logs ss
            (all_so (AsksAsWritten (source x) asks_make limits r.starts) (λ a. a.makes) logs ss h.long all (λ i l a at is. (each i l a at is).make)) h.long n.makes makes,
        is_count (AsksAsWritten (source x) asks_spawn limits r.starts) (λ a. a.spawns) logs ss
            (all_so (AsksAsWritten (source x) asks_spawn limits r.starts) (λ a. a.spawns) logs ss h.long all (λ i l a at is. (each i l a at is).spawn)) h.long n.spawns spawns,
      )),
)

-- at the start main waits
pub begins : (x : Setting) (limits : Limits) (main : ℕ) (logs : List ThreadLog) (ss : List (Option Standing)) (c : Child) → length ss ≡ length logs → ((i : ℕ) (o : Option Standing) → slice_get ss i ≡ Some o → o ≡ None)
    → c.number.0 ≡ 0 → c.machine.setting ≡ x → c.machine.thread ≡ main_in x main → HasCome x limits main logs ss (c ∷ [])
begins x limits main logs ss c long none zero_is setting thread = record {
  long = long;
  of = (setting, tt);
  known = (0, main_in x main) ∷ [];
  weigh = λ w nothing. (let a = nothing_ran (λ (l : ThreadLog). sum_by w (children_of l)) logs ss none in let empty : sum_by w [] ≡ 0 = refl in omega (arith, nothing, a, empty, sum_by-cons w 0 []));
  split = λ w. (
      let a = nothing_ran (λ (l : ThreadLog). w l.number.0) logs ss none in
      let same : w c.number.0 ≡ w 0 = ap w zero_is in
      omega (arith, a, same, sum_by-cons w 0 [], sum_by-cons w c.number.0 []));
  main_once = let one_zero = equals_same 0 in let empty : sum_by (equals 0) [] ≡ 0 = refl in omega (arith, one_zero, empty, sum_by-cons (equals 0) 0 []);
  holds = λ starts agrees i log a at is. absurd (let no : Some a ≡ None = none i (Some a) is in cc);
  forced = λ starts first runs. (first, tt);
  within = λ starts agrees. (agrees.0, (ap starts zero_is ∙ agrees.0 ∙ sym thread, tt));
  reached = λ n le. elim (equals_cases n 0) [
    | inl hit ↦ subst (IsReached logs) hit.0 is_main
    | inr miss ↦ (let no = miss.1 in let empty : sum_by (equals n) [] ≡ 0 = refl in absurd (omega (arith, le, no, empty, sum_by-cons (equals n) 0 [])))
  ];
}
  where
    nothing_ran : (w : ThreadLog → ℕ) (ls : List ThreadLog) (us : List (Option Standing)) → ((i : ℕ) (o : Option Standing) → slice_get us i ≡ Some o → o ≡ None) → sum_by w (ran ls us) ≡ 0
    nothing_ran w [] us absent = refl
    nothing_ran w (l ∷ ls) [] absent = refl
    nothing_ran w (l ∷ ls) (None ∷ us) absent = nothing_ran w ls us (λ i o is. absent (suc i) o is)
    nothing_ran w (l ∷ ls) (Some a ∷ us) absent = absurd (let wrong : Some a ≡ None = absent 0 (Some a) refl in cc)
