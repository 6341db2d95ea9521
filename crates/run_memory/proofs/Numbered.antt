-- Lists of states, the first of the number 1, and the entries on each number.
use Rattle.std.proofs.Common.{◌≡◌, ◌≢◌, ℕ, zero, suc, ◌+◌, ◌<◌, ◌≤◌, List, [], ◌∷◌, ◌++◌, refl, sym, ◌∙◌, ap, subst, arith, length, length-append, append_assoc, append-nil}
use Rattle.std.specs.Prelude.{Some, None, slice_get, slice_set, unwrap_or, Ok, Err, IfOk}
use Rattle.std.specs.declared.result.Result.{Result}
use Rattle.std.proofs.lemmas.List.Elements.{All-nil}
use Rattle.bsan_ids.specs.declared.numbers.Counters.{Counters}
use Rattle.history.specs.declared.entry.Entry.{Entry}
use Rattle.alloc_state.specs.Log.{Log}
use Rattle.history.specs.declared.log.AllocLog.{AllocLog}
use Rattle.runs.specs.ReplayLaw.{with_history}
use Rattle.run_memory.specs.Memory.{log_at, named_from}
use Rattle.bsan_ids.specs.declared.numbers.Limits.{Limits}
use Rattle.run_memory.specs.States.{IsState, AreStates, IsTable, IsLonger, logs_in, fresh_from, named_in}

-- counters that are no smaller ---------------------------------------------------------

pub state_later : (a : ℕ) (w v : Counters) (l : Log) → w.stamps ≤ v.stamps → w.allocs ≤ v.allocs → IsState a w l → IsState a v l
state_later a w v l stamps allocs h = record {
  number = h.number;
  earlier = λ k d less. (let e = h.earlier k d less in omega (arith, e, stamps));
  undrawn = λ less. h.undrawn (omega (arith, less, allocs));
}

pub states_later : (a : ℕ) (w v : Counters) (ls : List Log) → w.stamps ≤ v.stamps → w.allocs ≤ v.allocs → AreStates a w ls → AreStates a v ls
states_later a w v [] stamps allocs h = tt
states_later a w v (l ∷ ls) stamps allocs h = (state_later a w v l stamps allocs h.0, states_later (suc a) w v ls stamps allocs h.1)

-- one of the states -----------------------------------------------------------------------

some_is : {X : Type 0} {x y : X} → Some x ≡ Some y → x ≡ y
some_is h = cc

pub state_at : (a : ℕ) (w : Counters) (ls : List Log) (k : ℕ) (l : Log) → AreStates a w ls → slice_get ls k ≡ Some l → IsState (a + k) w l
state_at a w [] k l h got = cc
state_at a w (x ∷ xs) zero l h got = subst (λ n. IsState n w l) (omega arith) (subst (IsState a w) (some_is got) h.0)
state_at a w (x ∷ xs) (suc k) l h got = subst (λ n. IsState n w l) (omega arith) (state_at (suc a) w xs k l h.1 got)

pub states_set : (a : ℕ) (w : Counters) (ls : List Log) (k : ℕ) (l : Log) → AreStates a w ls → IsState (a + k) w l → AreStates a w (slice_set ls k l)
states_set a w [] k l h s = tt
states_set a w (x ∷ xs) zero l h s = (subst (λ n. IsState n w l) (omega arith) s, h.1)
states_set a w (x ∷ xs) (suc k) l h s = (h.0, states_set (suc a) w xs k l h.1 (subst (λ n. IsState n w l) (omega arith) s))

-- new states --------------------------------------------------------------------------------

fresh_state : (a : ℕ) (w : Counters) → IsState a w (record { number = record { 0 = a }; entries = []; ready = None; visits = 0 })
fresh_state a w = record { number = refl; earlier = All-nil _; undrawn = λ less. refl }

pub fresh_states : (a b : ℕ) (w : Counters) (ls : List Log) (more : ℕ) → b ≡ a + length ls → AreStates a w ls → AreStates a w (ls ++ fresh_from b more)
fresh_states a b w [] zero is h = tt
fresh_states a b w [] (suc more) is h =
    let same : b ≡ a = omega (arith, is) in
    (subst (λ n. IsState a w (record { number = record { 0 = n }; entries = []; ready = None; visits = 0 })) (sym same) (fresh_state a w), fresh_states (suc a) (suc b) w [] more (omega (arith, same)) tt)
fresh_states a b w (l ∷ ls) more is h = (h.0, fresh_states (suc a) b w ls more (omega (arith, is)) h.1)

pub one_more : (b more : ℕ) → fresh_from b more ++ record { number = record { 0 = b + more }; entries = []; ready = None; visits = 0 } ∷ [] ≡ fresh_from b (suc more)
one_more b zero = ap (λ n. record { number = record { 0 = n }; entries = []; ready = None; visits = 0 } ∷ []) (omega arith)
one_more b (suc more) =
    let first : Log = record { number = record { 0 = b }; entries = []; ready = None; visits = 0 } in
    ap (λ n. first ∷ (fresh_from (suc b) more ++ record { number = record { 0 = n }; entries = []; ready = None; visits = 0 } ∷ [])) (omega arith)
    ∙ ap (λ l. first ∷ l) (one_more (suc b) more)

pub long_fresh : (b more : ℕ) → length (fresh_from b more) ≡ more
long_fresh b zero = refl
long_fresh b (suc more) = let rest = long_fresh (suc b) more in omega (arith, rest)

-- the entries on each number -------------------------------------------------------------------

pub log_past : (logs : List (List Entry)) (a : ℕ) → length logs < a → log_at logs a ≡ []
log_past logs zero less = refl
log_past [] (suc k) less = refl
log_past (l ∷ ls) (suc zero) less = absurd (omega (arith, less))
log_past (l ∷ ls) (suc (suc k)) less = log_past ls (suc k) (omega (arith, less))

logs_fresh : (ls : List Log) (b more k : ℕ) → unwrap_or (slice_get (logs_in (ls ++ fresh_from b more)) k) [] ≡ unwrap_or (slice_get (logs_in ls) k) []
logs_fresh [] b zero k = refl
logs_fresh [] b (suc more) zero = refl
logs_fresh [] b (suc more) (suc k) = logs_fresh [] (suc b) more k
logs_fresh (l ∷ ls) b more zero = refl
logs_fresh (l ∷ ls) b more (suc k) = logs_fresh ls b more k

pub log_fresh : (ls : List Log) (b more a : ℕ) → log_at (logs_in (ls ++ fresh_from b more)) a ≡ log_at (logs_in ls) a
log_fresh ls b more zero = refl
log_fresh ls b more (suc k) = logs_fresh ls b more k

pub logs_set_same : (ls : List Log) (k : ℕ) (l : Log) → k < length ls → unwrap_or (slice_get (logs_in (slice_set ls k l)) k) [] ≡ l.entries
logs_set_same [] k l less = absurd (omega (arith, less))
logs_set_same (x ∷ xs) zero l less = refl
logs_set_same (x ∷ xs) (suc k) l less = logs_set_same xs k l (omega (arith, less))

pub logs_set_other : (ls : List Log) (k j : ℕ) (l : Log) → k ≢ j → unwrap_or (slice_get (logs_in (slice_set ls k l)) j) [] ≡ unwrap_or (slice_get (logs_in ls) j) []
logs_set_other [] k j l ne = refl
logs_set_other (x ∷ xs) zero zero l ne = absurd (ne refl)
logs_set_other (x ∷ xs) zero (suc j) l ne = refl
logs_set_other (x ∷ xs) (suc k) zero l ne = refl
logs_set_other (x ∷ xs) (suc k) (suc j) l ne = logs_set_other xs k j l (λ is. ne (ap suc is))

pub log_is : (ls : List Log) (k : ℕ) (l : Log) → slice_get ls k ≡ Some l → unwrap_or (slice_get (logs_in ls) k) [] ≡ l.entries
log_is [] k l got = cc
log_is (x ∷ xs) zero l got = ap (λ (y : Log). y.entries) (some_is got)
log_is (x ∷ xs) (suc k) l got = log_is xs k l got

-- the logs of the numbers that an entry names --------------------------------------------------------

pub named_is : (a : ℕ) (w : Counters) (ls : List Log) → AreStates a w ls → named_in ls ≡ named_from a (logs_in ls)
named_is a w [] h = refl
named_is a w (l ∷ ls) h =
    ap (λ n. with_history n l.entries (named_in ls)) h.0.number ∙ ap (λ logs. with_history a l.entries logs) (named_is (suc a) w ls h.1)

with_more : (a : ℕ) (es : List Entry) (logs more : List AllocLog) → with_history a es (logs ++ more) ≡ with_history a es logs ++ more
with_more a [] logs more = refl
with_more a (e ∷ es) logs more = refl

pub named_more : (ls : List Log) (l : Log) → named_in (ls ++ l ∷ []) ≡ named_in ls ++ with_history l.number.0 l.entries []
named_more [] l = refl
named_more (x ∷ xs) l = ap (λ logs. with_history x.number.0 x.entries logs) (named_more xs l) ∙ with_more x.number.0 x.entries (named_in xs) (with_history l.number.0 l.entries [])

-- one more state of a number that was never asked --------------------------------------------------------

pub grows_by : (number : ℕ) (old mid new : List Log) (l : Log) → IsLonger number old mid → new ≡ mid ++ l ∷ [] → length mid < number
    → l ≡ record { number = record { 0 = length mid + 1 }; entries = []; ready = None; visits = 0 } → IsLonger number old new
grows_by number old mid new l h added less fresh =
    let b = length old + 1 in
    let long : length mid ≡ length old + h.more = ap (length {A = Log}) h.added ∙ length-append old (fresh_from b h.more) ∙ (let f = long_fresh b h.more in omega (arith, f)) in
    let longer : length new ≡ length mid + 1 = ap (length {A = Log}) added ∙ length-append mid (l ∷ []) in
    let next : Log = record { number = record { 0 = b + h.more }; entries = []; ready = None; visits = 0 } in
    let last : l ≡ next = fresh ∙ ap (λ n. record { number = record { 0 = n }; entries = []; ready = None; visits = 0 }) (omega (arith, long)) in
    record {
      more = suc h.more;
      added = added ∙ ap (λ (m : List Log). m ++ l ∷ []) h.added ∙ append_assoc old (fresh_from b h.more) (l ∷ []) ∙ ap (λ (x : Log). old ++ (fresh_from b h.more ++ x ∷ [])) last ∙ ap (λ (m : List Log). old ++ m) (one_more b h.more);
      within = omega (arith, longer, less);
    }

pub ok_by : {X E : Type 0} (r : Result X E) (a b : X) → IfOk r (λ x. x ≡ a) → a ≡ b → IfOk r (λ x. x ≡ b)
ok_by (Ok x) a b h is = h ∙ is
ok_by (Err e) a b h is = tt

pub table_later : (limits : Limits) (w v : Counters) (ls : List Log) → w.stamps ≤ v.stamps → w.allocs ≤ v.allocs → IsTable limits w ls → IsTable limits v ls
table_later limits w v ls stamps allocs h = record { states = states_later 1 w v ls stamps allocs h.states; few = h.few }
