-- A step on one of the states is a step of the run's memory.
use Rattle.std.proofs.Common.{◌≡◌, ℕ, zero, suc, ◌+◌, ◌-◌, ◌<◌, ◌≤◌, Bool, true, false, List, [], ◌∷◌, ◌++◌, refl, sym, ◌∙◌, ap, subst, inl, inr, arith, length, get_or}
use Rattle.std.specs.Prelude.{Some, None, slice_get, slice_set, unwrap_or, All, ◌⊎◌, ◌&&◌, ◌||◌, ◌==◌}
use Rattle.std.proofs.lemmas.Bool.{true≢false}
use Rattle.std.proofs.lemmas.Bool.Decides.{eqb_tells, nat_tests}
use Rattle.std.proofs.lemmas.List.Elements.{All-append, All-from_recursion}
use Rattle.std.proofs.lemmas.List.{length-set, length-map}
use Rattle.std.proofs.lemmas.List.Folds.{list_any-append}
use Rattle.std.proofs.lemmas.Option.{slice_get_within, slice_get_read}
use Rattle.bsan_ids.specs.declared.numbers.AllocNo.{AllocNo}
use Rattle.bsan_ids.specs.declared.numbers.Counters.{Counters}
use Rattle.bsan_ids.specs.declared.numbers.Limits.{Limits}
use Rattle.bsan_ids.specs.declared.numbers.ThreadNo.{ThreadNo}
use Rattle.history.specs.declared.entry.Entry.{Entry}
use Rattle.history.specs.declared.entry.Request.{Request}
use Rattle.history.specs.declared.entry.Request.TheVariants as request
use Rattle.history.specs.Histories.{is_make}
use Rattle.ir_ast.specs.declared.types.Place.{Place}
use Rattle.alloc_state.specs.Log.{Log, has_make}
use Rattle.history.specs.declared.log.End.TheVariants as log_end
use Rattle.run_memory.specs.declared.states.Step.{Step}
use Rattle.run_memory.specs.declared.states.Step.TheVariants.{Done, Ends}
use Rattle.run_memory.specs.Memory.{Memory, log_at, keeps, longer_if, entry_on, Stays, Asks, Makes}
use Rattle.run_memory.specs.States.{IsState, AreStates, IsTable, TableAfter, memory_in, made_to, logs_in, fresh_from, IsLonger, entry_of, StepsOn, StepsAside, is_out_of_memory}
use Rattle.run_memory.proofs.Numbered.{state_later, states_later, state_at, states_set, fresh_states, log_past, log_fresh, logs_set_same, logs_set_other, log_is}

pub none_more : (es : List Entry) (e : Entry) → has_make es ≡ false → is_make e.request ≡ false → has_make (es ++ e ∷ []) ≡ false
none_more es e none miss = list_any-append (λ (x : Entry). is_make x.request) es (e ∷ []) ∙ ap (λ b. b || (is_make e.request || false)) none ∙ ap (λ b. false || (b || false)) miss

pub kept_number : (limits : Limits) (a : ℕ) → 0 < a → a ≤ limits.allocs → keeps limits a ≡ true
kept_number limits a some few = grind (arith, nat_tests)

-- the states up to a number, with the one of the number k + 1 at hand
pub record AtHand (limits : Limits) (w : Counters) (ls ms : List Log) (k : ℕ) (l : Log) : Type 0 where
  pub states : AreStates 1 w ls
  pub few : length ls ≤ limits.allocs
  pub more : ℕ
  pub added : ms ≡ ls ++ fresh_from (length ls + 1) more
  pub at : slice_get ms k ≡ Some l
  pub within : k < limits.allocs

module _ (limits : Limits) (w : Counters) (ls ms : List Log) (k : ℕ) (l : Log) (h : AtHand limits w ls ms k l) where
  pub all_states : AreStates 1 w ms
  all_states = subst (AreStates 1 w) (sym h.added) (fresh_states 1 (length ls + 1) w ls h.more (omega arith) h.states)

  pub this_state : IsState (1 + k) w l
  this_state = state_at 1 w ms k l all_states h.at

  pub this_number : l.number ≡ record { 0 = suc k }
  this_number = (let same : l.number.0 ≡ suc k = this_state.number ∙ omega arith in ap (λ (n : ℕ). record { 0 = n }) same)

  pub same_log : (b : ℕ) → log_at (logs_in ms) b ≡ log_at (logs_in ls) b
  same_log b = subst (λ z. log_at (logs_in z) b ≡ log_at (logs_in ls) b) (sym h.added) (log_fresh ls (length ls + 1) h.more b)

  pub this_log : l.entries ≡ log_at (logs_in ls) (suc k)
  this_log = sym (log_is ms k l h.at) ∙ same_log (suc k)

  pub unchanged : (m : Log) → m.entries ≡ l.entries → (b : ℕ) → log_at (logs_in (slice_set ms k m)) b ≡ log_at (logs_in ls) b
  unchanged m same zero = refl
  unchanged m same (suc j) = elim (eqb_tells k j) [
    | inl hit ↦
        let here : unwrap_or (slice_get (logs_in (slice_set ms k m)) k) [] ≡ log_at (logs_in ls) (suc k) = logs_set_same ms k m (slice_get_within ms k l h.at) ∙ same ∙ this_log in
        subst (λ n. unwrap_or (slice_get (logs_in (slice_set ms k m)) n) [] ≡ log_at (logs_in ls) (suc n)) hit.1 here
    | inr miss ↦ logs_set_other ms k j m miss.1 ∙ same_log (suc j)
  ]

  pub grown : (m : Log) (e : Entry) → m.entries ≡ l.entries ++ e ∷ [] → (b : ℕ) → log_at (logs_in (slice_set ms k m)) b ≡ longer_if (keeps limits (suc k) && (suc k == b)) (log_at (logs_in ls) b) e
  grown m e is b = rw (kept_number limits (suc k) (omega arith) (let few = h.within in omega (arith, few))) (by_number b)
    where
      by_number : (b : ℕ) → log_at (logs_in (slice_set ms k m)) b ≡ longer_if (suc k == b) (log_at (logs_in ls) b) e
      by_number zero = elim (eqb_tells (suc k) zero) [ inl hit ↦ absurd (omega (arith, hit.1)) | inr miss ↦ rw miss.0 refl ]
      by_number (suc j) = elim (eqb_tells (suc k) (suc j)) [
        | inl hit ↦
            let here : unwrap_or (slice_get (logs_in (slice_set ms k m)) k) [] ≡ log_at (logs_in ls) (suc k) ++ e ∷ [] =
            logs_set_same ms k m (slice_get_within ms k l h.at) ∙ is ∙ ap (λ (es : List Entry). es ++ e ∷ []) this_log in
            let same : k ≡ j = omega (arith, hit.1) in
            rw hit.0 (subst (λ n. unwrap_or (slice_get (logs_in (slice_set ms k m)) n) [] ≡ log_at (logs_in ls) (suc n) ++ e ∷ []) same here)
        | inr miss ↦ rw miss.0 (logs_set_other ms k j m (λ is. miss.1 (ap suc is)) ∙ same_log (suc j))
      ]

  abbrev before : Memory
  before = record { limits = limits; logs = logs_in ls; words = w }

  abbrev behind : Log → Counters → Memory
  behind m v = record { limits = limits; logs = logs_in (slice_set ms k m); words = v }

  entry_is : (thread : ThreadNo) (site : ℕ) (r : Request) → entry_of l w thread site r ≡ entry_on before thread site (record { 0 = suc k }) r
  entry_is thread site r =
      ap (λ (n : AllocNo). entry_of (record { number = n; entries = l.entries; ready = l.ready; visits = l.visits }) w thread site r) this_number
      ∙ ap (λ (es : List Entry). entry_of (record { number = record { 0 = suc k }; entries = es; ready = l.ready; visits = l.visits }) w thread site r) this_log

  pub asks_on : (v : Counters) (m : Log) (thread : ThreadNo) (site : ℕ) (r : Request) (step : Step)
      → StepsOn l w limits.steps thread site r m v step → Asks before thread site (record { 0 = suc k }) r (behind m v) step
  asks_on v m thread site r (Done e) s =
      (s.0 ∙ entry_is thread site r, record { within = s.1; limits = refl; logs = grown m e s.2.entries; words_are = s.3 })
  asks_on v m thread site r (Ends (log_end.StepLimit x)) s = (s.0, s.1, record { limits = refl; logs = unchanged m s.2.entries; words_are = s.3 })
  asks_on v m thread site r (Ends log_end.NoMemory) s = record { limits = refl; logs = unchanged m s.0.entries; words_are = s.1 }
  asks_on v m thread site r (Ends (log_end.Returned x q)) s = s
  asks_on v m thread site r (Ends (log_end.Trapped t)) s = s
  asks_on v m thread site r (Ends log_end.TurnLimit) s = s
  asks_on v m thread site r (Ends (log_end.ChildEnded c)) s = s

  -- the states after it

  pub few_states : length ms ≤ limits.allocs → (m : Log) → length (slice_set ms k m) ≤ limits.allocs
  few_states few m = (let same = length-set ms k m in omega (arith, same, few))

  pub kept_states : (v : Counters) (m : Log) → w.stamps ≤ v.stamps → w.allocs ≤ v.allocs → m.number ≡ l.number → m.entries ≡ l.entries → AreStates 1 v (slice_set ms k m)
  kept_states v m stamps allocs number entries =
      states_set 1 v ms k m (states_later 1 w v ms stamps allocs all_states)
      (let old = state_later (1 + k) w v l stamps allocs this_state in
      record {
        number = ap (λ (n : AllocNo). n.0) number ∙ old.number;
        earlier = subst (λ (es : List Entry). All (λ (e : Entry). e.stamp.0 ≤ v.stamps) es) (sym entries) old.earlier;
        undrawn = λ less. ap has_make entries ∙ old.undrawn less;
      })

  gained : (v : Counters) (m : Log) (e : Entry) (made : Bool) → w.stamps ≤ v.stamps → w.allocs ≤ v.allocs → e.stamp.0 ≤ v.stamps → is_make e.request ≡ made → (made ≡ true → suc k ≤ v.allocs)
      → m.number ≡ l.number → m.entries ≡ l.entries ++ e ∷ [] → IsState (1 + k) v m
  gained v m e made stamps allocs stamp is drawn number entries =
      let old = state_later (1 + k) w v l stamps allocs this_state in
      record {
        number = ap (λ (n : AllocNo). n.0) number ∙ old.number;
        earlier = subst (λ (es : List Entry). All (λ (x : Entry). x.stamp.0 ≤ v.stamps) es) (sym entries) (All-append (λ (x : Entry). x.stamp.0 ≤ v.stamps) l.entries (e ∷ []) old.earlier (All-from_recursion (λ (x : Entry). x.stamp.0 ≤ v.stamps) (e ∷ []) (stamp, tt)));
        undrawn = λ less. ap has_make entries ∙ none_more l.entries e (old.undrawn less) (is ∙ by_made made drawn less);
      }
    where
      by_made : (b : Bool) → (b ≡ true → suc k ≤ v.allocs) → v.allocs < 1 + k → b ≡ false
      by_made true drawn less = (let at = drawn refl in absurd (omega (arith, at, less)))
      by_made false drawn less = refl

  pub grown_states : (v : Counters) (m : Log) (e : Entry) (made : Bool) → w.stamps ≤ v.stamps → w.allocs ≤ v.allocs → e.stamp.0 ≤ v.stamps → is_make e.request ≡ made → (made ≡ true → suc k ≤ v.allocs)
      → m.number ≡ l.number → m.entries ≡ l.entries ++ e ∷ [] → AreStates 1 v (slice_set ms k m)
  grown_states v m e made stamps allocs stamp is drawn number entries =
      states_set 1 v ms k m (states_later 1 w v ms stamps allocs all_states) (gained v m e made stamps allocs stamp is drawn number entries)

  pub table_after : (v : Counters) (m : Log) (thread : ThreadNo) (site : ℕ) (r : Request) (step : Step) → length ms ≤ limits.allocs → (is_make r ≡ true → w.allocs < suc k)
      → StepsOn l w limits.steps thread site r m v step → TableAfter limits v (suc k) r (slice_set ms k m) step
  table_after v m thread site r (Done e) few once s = by_make (is_make r) refl
    where
      stamp_is : e.stamp.0 ≡ w.stamps + 1
      stamp_is = ap (λ (x : Entry). x.stamp.0) s.0

      asked : e.request ≡ r
      asked = ap (λ (x : Entry). x.request) s.0

      stamps_are : v.stamps ≡ w.stamps + 1
      stamps_are = ap (λ (x : Counters). x.stamps) s.3

      allocs_are : v.allocs ≡ w.allocs
      allocs_are = ap (λ (x : Counters). x.allocs) s.3

      by_make : (b : Bool) → is_make r ≡ b → IsTable limits (made_to b (suc k) v) (slice_set ms k m)
      by_make true is = record {
        states = grown_states (record v { allocs = suc k }) m e true (omega (arith, stamps_are)) (let less = once is in omega (arith, less)) (omega (arith, stamps_are, stamp_is)) (ap is_make asked ∙ is) (λ z. omega arith) s.2.number s.2.entries;
        few = few_states few m;
      }
      by_make false is = record {
        states = grown_states v m e false (omega (arith, stamps_are)) (omega (arith, allocs_are)) (omega (arith, stamps_are, stamp_is)) (ap is_make asked ∙ is) (λ z. absurd (true≢false (sym z))) s.2.number s.2.entries;
        few = few_states few m;
      }
  table_after v m thread site r (Ends (log_end.StepLimit x)) few once s =
      let stamps : v.stamps ≡ w.stamps + 1 = ap (λ (z : Counters). z.stamps) s.3 in
      let allocs : v.allocs ≡ w.allocs = ap (λ (z : Counters). z.allocs) s.3 in
      record { states = kept_states v m (omega (arith, stamps)) (omega (arith, allocs)) s.2.number s.2.entries; few = few_states few m }
  table_after v m thread site r (Ends log_end.NoMemory) few once s =
      let stamps : v.stamps ≡ w.stamps = ap (λ (z : Counters). z.stamps) s.1 in
      let allocs : v.allocs ≡ w.allocs = ap (λ (z : Counters). z.allocs) s.1 in
      record { states = kept_states v m (omega (arith, stamps)) (omega (arith, allocs)) s.0.number s.0.entries; few = few_states few m }
  table_after v m thread site r (Ends (log_end.Returned x q)) few once s = absurd s
  table_after v m thread site r (Ends (log_end.Trapped t)) few once s = absurd s
  table_after v m thread site r (Ends log_end.TurnLimit) few once s = absurd s
  table_after v m thread site r (Ends (log_end.ChildEnded c)) few once s = absurd s

-- a number beside the table ----------------------------------------------------------------------

pub beside : (limits : Limits) (a : ℕ) → (a ≡ 0) ⊎ (limits.allocs < a) → keeps limits a ≡ false
beside limits a (inl zero_is) = grind (arith, nat_tests, zero_is)
beside limits a (inr above) = grind (arith, nat_tests, above)

pub no_log : (limits : Limits) (ls : List Log) (a : ℕ) → length ls ≤ limits.allocs → (a ≡ 0) ⊎ (limits.allocs < a) → log_at (logs_in ls) a ≡ []
no_log limits ls a few (inl zero_is) = ap (log_at (logs_in ls)) zero_is
no_log limits ls a few (inr above) = log_past (logs_in ls) a (let long : length (logs_in ls) ≡ length ls = length-map ls (λ (l : Log). l.entries) in omega (arith, long, few, above))

module _ (limits : Limits) (w v : Counters) (ls : List Log) (few : length ls ≤ limits.allocs) (a : AllocNo) (off : (a.0 ≡ 0) ⊎ (limits.allocs < a.0)) where
  aside_on : (m : Log) (thread : ThreadNo) (site : ℕ) (r : Request) (step : Step) → StepsOn (record { number = a; entries = []; ready = None; visits = 0 }) w limits.steps thread site r m v step
      → Asks (memory_in limits w ls) thread site a r (memory_in limits v ls) step
  aside_on m thread site r (Done e) s = (
    s.0 ∙ ap (λ (es : List Entry). entry_of (record { number = a; entries = es; ready = None; visits = 0 }) w thread site r) (sym (no_log limits ls a.0 few off)),
    record { within = s.1; limits = refl; logs = λ b. rw (beside limits a.0 off) refl; words_are = s.3 },
  )
  aside_on m thread site r (Ends (log_end.StepLimit x)) s = (s.0, s.1, record { limits = refl; logs = λ b. refl; words_are = s.3 })
  aside_on m thread site r (Ends log_end.NoMemory) s = record { limits = refl; logs = λ b. refl; words_are = s.1 }
  aside_on m thread site r (Ends (log_end.Returned x q)) s = s
  aside_on m thread site r (Ends (log_end.Trapped t)) s = s
  aside_on m thread site r (Ends log_end.TurnLimit) s = s
  aside_on m thread site r (Ends (log_end.ChildEnded c)) s = s

  pub asks_aside : (thread : ThreadNo) (site : ℕ) (r : Request) (step : Step) → StepsAside w limits.steps thread site a r v step → Asks (memory_in limits w ls) thread site a r (memory_in limits v ls) step
  asks_aside thread site r step h = aside_on h.0 thread site r step h.1

-- the counters after a step aside
pub aside_words : (w v : Counters) (steps : ℕ) (thread : ThreadNo) (site : ℕ) (a : AllocNo) (r : Request) (step : Step) → StepsAside w steps thread site a r v step → (w.stamps ≤ v.stamps) × (w.allocs ≤ v.allocs)
aside_words w v steps thread site a r (Done e) h = (let s : v.stamps ≡ w.stamps + 1 = ap (λ (z : Counters). z.stamps) h.1.3 in omega (arith, s), let s : v.allocs ≡ w.allocs = ap (λ (z : Counters). z.allocs) h.1.3 in omega (arith, s))
aside_words w v steps thread site a r (Ends (log_end.StepLimit x)) h = (let s : v.stamps ≡ w.stamps + 1 = ap (λ (z : Counters). z.stamps) h.1.3 in omega (arith, s), let s : v.allocs ≡ w.allocs = ap (λ (z : Counters). z.allocs) h.1.3 in omega (arith, s))
aside_words w v steps thread site a r (Ends log_end.NoMemory) h = (let s : v.stamps ≡ w.stamps = ap (λ (z : Counters). z.stamps) h.1.1 in omega (arith, s), let s : v.allocs ≡ w.allocs = ap (λ (z : Counters). z.allocs) h.1.1 in omega (arith, s))
aside_words w v steps thread site a r (Ends (log_end.Returned x q)) h = absurd h.1
aside_words w v steps thread site a r (Ends (log_end.Trapped t)) h = absurd h.1
aside_words w v steps thread site a r (Ends log_end.TurnLimit) h = absurd h.1
aside_words w v steps thread site a r (Ends (log_end.ChildEnded c)) h = absurd h.1

-- a Make of the next number ------------------------------------------------------------------------

module _ (limits : Limits) (w v : Counters) (ls ms : List Log) (thread : ThreadNo) (site size : ℕ) (place : Place) (less : w.allocs < limits.allocs) where
  pub makes_on : (step : Step) → is_out_of_memory step ≡ false → Asks (memory_in limits w ls) thread site (record { 0 = w.allocs + 1 }) (request.Make size place) (memory_in limits v ms) step
      → Makes (memory_in limits w ls) thread site size place (memory_in limits (record v { allocs = w.allocs + 1 }) ms) step
  makes_on (Done e) miss h = (
    less,
    h.0,
    record { within = h.1.within; limits = refl; logs = h.1.logs; words_are = ap (λ (z : Counters). record z { allocs = w.allocs + 1 }) h.1.words_are },
  )
  makes_on (Ends (log_end.StepLimit x)) miss h = (less, h.0, h.1, record { limits = refl; logs = h.2.logs; words_are = ap (λ (z : Counters). record z { allocs = w.allocs + 1 }) h.2.words_are })
  makes_on (Ends log_end.NoMemory) miss h = absurd (true≢false miss)
  makes_on (Ends (log_end.Returned x q)) miss h = absurd h
  makes_on (Ends (log_end.Trapped t)) miss h = absurd h
  makes_on (Ends log_end.TurnLimit) miss h = absurd h
  makes_on (Ends (log_end.ChildEnded c)) miss h = absurd h

  pub makes_not : (step : Step) → is_out_of_memory step ≡ true → Asks (memory_in limits w ls) thread site (record { 0 = w.allocs + 1 }) (request.Make size place) (memory_in limits v ms) step
      → Makes (memory_in limits w ls) thread site size place (memory_in limits v ms) step
  makes_not (Ends log_end.NoMemory) hit h = h
  makes_not (Done e) hit h = absurd (true≢false (sym hit))
  makes_not (Ends (log_end.StepLimit x)) hit h = absurd (true≢false (sym hit))
  makes_not (Ends (log_end.Returned x q)) hit h = absurd h
  makes_not (Ends (log_end.Trapped t)) hit h = absurd h
  makes_not (Ends log_end.TurnLimit) hit h = absurd h
  makes_not (Ends (log_end.ChildEnded c)) hit h = absurd h

  pub table_on : (step : Step) → is_out_of_memory step ≡ false → Asks (memory_in limits w ls) thread site (record { 0 = w.allocs + 1 }) (request.Make size place) (memory_in limits v ms) step
      → TableAfter limits v (w.allocs + 1) (request.Make size place) ms step → IsTable limits (record v { allocs = w.allocs + 1 }) ms
  table_on (Done e) miss h t = t
  table_on (Ends (log_end.StepLimit x)) miss h t =
      let same : v.allocs ≡ w.allocs = ap (λ (z : Counters). z.allocs) h.2.words_are in
      record { states = states_later 1 v _ ms (omega arith) (omega (arith, same)) t.states; few = t.few }
  table_on (Ends log_end.NoMemory) miss h t = absurd (true≢false miss)
  table_on (Ends (log_end.Returned x q)) miss h t = absurd h
  table_on (Ends (log_end.Trapped e)) miss h t = absurd h
  table_on (Ends log_end.TurnLimit) miss h t = absurd h
  table_on (Ends (log_end.ChildEnded c)) miss h t = absurd h

  pub table_not : (step : Step) → is_out_of_memory step ≡ true → TableAfter limits v (w.allocs + 1) (request.Make size place) ms step → IsTable limits v ms
  table_not (Ends why) hit t = t
  table_not (Done e) hit t = absurd (true≢false (sym hit))

-- what the code has at hand --------------------------------------------------------------------------

pub table_longer : (limits : Limits) (w : Counters) (number : ℕ) (ls ms : List Log) → IsTable limits w ls → IsLonger number ls ms → number ≤ limits.allocs → IsTable limits w ms
table_longer limits w number ls ms t h le = record {
  states = subst (AreStates 1 w) (sym h.added) (fresh_states 1 (length ls + 1) w ls h.more (omega arith) t.states);
  few = (let more = h.within in let few = t.few in omega (arith, more, few, le));
}

pub stays_longer : (limits : Limits) (w : Counters) (number : ℕ) (ls ms : List Log) → IsLonger number ls ms → Stays (memory_in limits w ls) (memory_in limits w ms) w
stays_longer limits w number ls ms h = record {
  limits = refl;
  logs = λ b. subst (λ z. log_at (logs_in z) b ≡ log_at (logs_in ls) b) (sym h.added) (log_fresh ls (length ls + 1) h.more b);
  words_are = refl;
}

pub record Reached (limits : Limits) (w : Counters) (ls ms : List Log) (a : AllocNo) (l : Log) : Type 0 where
  pub table : IsTable limits w ls
  pub longer : IsLonger a.0 ls ms
  pub above : 0 < a.0
  pub within : a.0 ≤ limits.allocs
  pub reached : a.0 ≤ length ms
  pub item : l ≡ get_or ms (a.0 - 1) l

module _ (limits : Limits) (w : Counters) (ls ms : List Log) (a : AllocNo) (l : Log) (h : Reached limits w ls ms a l) where
  at_hand : AtHand limits w ls ms (a.0 - 1) l
  at_hand = record {
    states = h.table.states;
    few = h.table.few;
    more = h.longer.more;
    added = h.longer.added;
    at = slice_get_read ms (length ms) (a.0 - 1) l refl (let up = h.reached in let low = h.above in omega (arith, up, low)) h.item;
    within = (let up = h.within in let low = h.above in omega (arith, up, low));
  }

  number_is : record { 0 = suc (a.0 - 1) } ≡ a
  number_is = ap (λ (n : ℕ). record { 0 = n }) (let low = h.above in let z : suc (a.0 - 1) ≡ a.0 = omega (arith, low) in z)

  pub state_here : IsState a.0 w l
  state_here = subst (λ n. IsState n w l) (let low = h.above in let z : 1 + (a.0 - 1) ≡ a.0 = omega (arith, low) in z) (this_state limits w ls ms (a.0 - 1) l at_hand)

  pub asks_here : (v : Counters) (m : Log) (thread : ThreadNo) (site : ℕ) (r : Request) (step : Step) → StepsOn l w limits.steps thread site r m v step
      → Asks (memory_in limits w ls) thread site a r (memory_in limits v (slice_set ms (a.0 - 1) m)) step
  asks_here v m thread site r step s =
      subst (λ (n : AllocNo). Asks (memory_in limits w ls) thread site n r (memory_in limits v (slice_set ms (a.0 - 1) m)) step) number_is (asks_on limits w ls ms (a.0 - 1) l at_hand v m thread site r step s)

  few_here : length ms ≤ limits.allocs
  few_here = (table_longer limits w a.0 ls ms h.table h.longer h.within).few

  pub table_here : (v : Counters) (m : Log) (thread : ThreadNo) (site : ℕ) (r : Request) (step : Step) → (is_make r ≡ true → w.allocs < a.0) → StepsOn l w limits.steps thread site r m v step
      → TableAfter limits v a.0 r (slice_set ms (a.0 - 1) m) step
  table_here v m thread site r step once s =
      let same : suc (a.0 - 1) ≡ a.0 = (let low = h.above in omega (arith, low)) in
      subst (λ n. TableAfter limits v n r (slice_set ms (a.0 - 1) m) step) same
      (table_after limits w ls ms (a.0 - 1) l at_hand v m thread site r step few_here (λ is. let less = once is in omega (arith, less, same)) s)

pub off_by : {A B C : Type 0} → A ⊎ (C × B) → A ⊎ B
off_by (inl a) = inl a
off_by (inr h) = inr h.1
