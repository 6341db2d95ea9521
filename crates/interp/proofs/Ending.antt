-- A thread that has ended, and of which no child is out, answers its tree.
use Rattle.std.proofs.Common.{◌≡◌, ℕ, zero, suc, ◌+◌, ◌<◌, ◌≤◌, Bool, true, false, cond, List, [], ◌∷◌, ◌++◌, refl, sym, ◌∙◌, ap, subst, inl, inr, arith, sum_by, length, length-append, map}
use Rattle.std.specs.Prelude.{All}
use Rattle.std.specs.declared.option.Option.{Option}
use Rattle.std.specs.List.{flat_map}
use Rattle.std.proofs.lemmas.List.Sums.{sum_by-append, sum_by-cons}
use Rattle.bsan_ids.specs.declared.numbers.Limits.{Limits}
use Rattle.bsan_ids.specs.declared.numbers.ThreadNo.{ThreadNo}
use Rattle.history.specs.declared.ask.Ask.{Ask}
use Rattle.history.specs.declared.entry.Entry.{Entry}
use Rattle.history.specs.declared.log.End.{End}
use Rattle.history.specs.declared.log.End.TheVariants as log_end
use Rattle.history.specs.declared.log.ThreadLog.{ThreadLog}
use Rattle.history.specs.declared.entry.Request.TheVariants as request
use Rattle.runs.specs.Interleaving.{Allowed}
use Rattle.runs.specs.Machine.{Machine, Memory}
use Rattle.runs.specs.Merge.{all_entries}
use Rattle.runs.specs.Parts.{Has, child_of}
use Rattle.runs.specs.Right.{AtLeast, StandsAsking, made_by, spawned_by_reply, alloc_limit_of, thread_limit_of, beyond_of, alloc_numbers, thread_numbers, asks_make, asks_spawn}
use Rattle.runs.specs.Stamps.{RisesFrom}
use Rattle.runs.specs.Threads.{Feeds, IsThreadRun, EndsAs}
use Rattle.runs.specs.Tree.{stamps_of, children_of, started_by, EndAbove, IsJoined, HasStopped, IsStepRight, Agrees, IsTree}
use Rattle.runs.proofs.MergeLaws.{rises_lower}
use Rattle.runs.proofs.Weights.{sum_flat, sum_map}
use Rattle.turn_lock.specs.Weights.{one}
use Rattle.turn_lock.specs.declared.view.View.{View}
use Rattle.interp.specs.Desks.{slotted, stamped, made, spawned, begun, IsTreeDesk, Over}
use Rattle.interp.specs.Goes.{Goes}
use Rattle.interp.proofs.Growing.{join_more, end_more}
use Rattle.interp.proofs.Members.{at_least_append}

no_sum : (xs : List ℕ) → sum_by one xs ≡ 0 → xs ≡ []
no_sum [] is = refl
no_sum (x ∷ xs) is = let a = sum_by-cons one x xs in absurd (omega (arith, a, is))

-- the weights of one log
log_stamps : (h : ℕ → ℕ) (l : ThreadLog) → sum_by h (stamps_of l) ≡ sum_by (stamped h) l.entries + sum_by h (beyond_of l.«end»)
log_stamps h l = let a = sum_map h (λ (e : Entry). e.stamp.0) l.entries in omega (arith, a, sum_by-append h (map (λ (e : Entry). e.stamp.0) l.entries) (beyond_of l.«end»))

log_allocs : (h : ℕ → ℕ) (l : ThreadLog) → sum_by h (alloc_numbers l) ≡ sum_by (made h) l.entries + sum_by h (alloc_limit_of l.«end»)
log_allocs h l = let a = sum_flat h (λ (e : Entry). made_by e.reply.plain) l.entries in omega (arith, a, sum_by-append h (flat_map (λ (e : Entry). made_by e.reply.plain) l.entries) (alloc_limit_of l.«end»))

log_threads : (h : ℕ → ℕ) (l : ThreadLog) → sum_by h (thread_numbers l) ≡ sum_by (spawned h) l.entries + sum_by h (thread_limit_of l.«end»)
log_threads h l = let a = sum_flat h (λ (e : Entry). spawned_by_reply e.reply.plain) l.entries in omega (arith, a, sum_by-append h (flat_map (λ (e : Entry). spawned_by_reply e.reply.plain) l.entries) (thread_limit_of l.«end»))

-- the log of a thread that has come to this state and this end
pub record IsLogOf (M : Machine) (number : ThreadNo) (parent : Option ThreadNo) (function : ℕ) (now : M.State) (over : End) (es : List Entry) (log : ThreadLog) : Type 0 where
  pub number_is : log.number ≡ number
  pub parent_is : log.parent ≡ parent
  pub function_is : log.entry_function ≡ function
  pub entries_are : log.entries ≡ es
  pub count : log.instructions ≡ M.count now
  pub site : log.last ≡ M.site now
  pub end_is : log.«end» ≡ over

module _ (M : Machine) (O : Memory) (A : Allowed) (limits : Limits) (number : ThreadNo) (parent : Option ThreadNo) (function : ℕ) (first : M.State) (seen : ℕ) (now : M.State) (desk : View) (over : Over)
    (es : List Entry) (below roots : List ThreadLog) (log : ThreadLog) (is : IsLogOf M number parent function now over.«end» es log) (g : Goes M O A limits number first seen now desk over es below roots []) where
  abbrev pub all : List ThreadLog
  all = log ∷ below

  abbrev pub allocs : List ℕ
  allocs = over.allocs ++ g.idle_allocs

  abbrev pub threads : List ℕ
  threads = over.threads ++ g.idle_threads

  entries_in : (x : Entry) → Has es x → Has log.entries x
  entries_in x h = subst (λ fs. Has fs x) (sym is.entries_are) h

  pub desk_ends : IsTreeDesk limits number seen desk all allocs threads
  desk_ends =
      let w = g.on_desk in record {
        name = w.name;
        turn = w.turn;
        outs = no_sum desk.outs (w.outs one);
        grows = w.grows;
        reached = λ l x i h. reached l x i h;
        calls = λ h. let a = w.calls h in let b = ap (sum_by (slotted limits.allocs h)) is.entries_are in omega (arith, a, b, sum_by-append (slotted limits.allocs h) log.entries (all_entries below));
        stamps = λ h.
            let a = w.stamps h in let b = ap (sum_by (stamped h)) is.entries_are in let c = ap (λ o. sum_by h (beyond_of o)) is.end_is in
            omega (arith, a, b, c, log_stamps h log, sum_by-append h (stamps_of log) (flat_map stamps_of below));
        allocs = λ h.
            let a = w.allocs h in let b = ap (sum_by (made h)) is.entries_are in let c = ap (λ o. sum_by h (alloc_limit_of o)) is.end_is in
            omega (arith, a, b, c, log_allocs h log, sum_by-append h (alloc_numbers log) (flat_map alloc_numbers below), sum_by-append h (flat_map alloc_numbers all) allocs, sum_by-append h over.allocs g.idle_allocs);
        threads = λ h.
            let a = w.threads h in let b = ap (sum_by (spawned h)) is.entries_are in let c = ap (λ o. sum_by h (thread_limit_of o)) is.end_is in
            omega (arith, a, b, c, log_threads h log, sum_by-append h (thread_numbers log) (flat_map thread_numbers below), sum_by-append h (flat_map thread_numbers all) threads, sum_by-append h over.threads g.idle_threads);
      }
    where
      reached : (l : ThreadLog) (x : Entry) → Has all l → Has l.entries x → x.stamp.0 < suc desk.seen
      reached l x (inl same) h =
          let a = g.on_desk.reached_own x (subst (λ fs. Has fs x) is.entries_are (subst (λ (y : ThreadLog). Has y.entries x) (sym same) h)) in omega (arith, a)
      reached l x (inr i) h = g.on_desk.reached l x i h

  module _ (stops : EndsAs M limits now over.«end») (halted : (c : ThreadNo) → over.«end» ≡ log_end.ChildEnded c → HasStopped below c) where
    feeds : (starts : ℕ → M.State) → starts number.0 ≡ first → Agrees starts g.run.firsts → Feeds M limits.turns starts (starts log.number.0) log.entries now
    feeds starts same a =
        let F : List Entry → Type 0 = λ fs. Feeds M limits.turns starts (starts log.number.0) fs now in
        let S : M.State → Type 0 = λ s. Feeds M limits.turns starts s es now in
        subst F (sym is.entries_are) (subst S (sym same ∙ ap (λ (n : ThreadNo). starts n.0) (sym is.number_is)) (g.run.feeds starts a (λ k i. absurd i)))

    own_run : (starts : ℕ → M.State) → starts number.0 ≡ first → Agrees starts g.run.firsts → IsThreadRun M limits starts log
    own_run starts same a =
        let N : ThreadNo → Type 0 = λ n. All (λ (e : Entry). e.thread ≡ n) log.entries in
        let L : List Entry → Type 0 = λ fs. All (λ (e : Entry). e.thread ≡ number) fs in
        record {
          last = now;
          own = subst N (sym is.number_is) (subst L (sym is.entries_are) g.logs.own);
          rises = subst (λ fs. RisesFrom 0 fs) (sym is.entries_are) (rises_lower 0 seen es (omega arith) g.logs.rises);
          feeds = feeds starts same a;
          «end» = subst (λ (o : End). EndsAs M limits now o) (sym is.end_is) stops;
          count = is.count;
          site = is.site;
        }

    -- the thread itself, where it asks so
    asking : (asks : Ask → Bool) (n : ℕ) (starts : ℕ → M.State) → starts number.0 ≡ first → Agrees starts g.run.firsts → n ≤ cond (asks (M.ask now)) 1 0 → AtLeast (StandsAsking M asks limits starts) n (log ∷ [])
    asking asks n starts same a few = by_ask (asks (M.ask now)) refl n few
      where
        by_ask : (b : Bool) → asks (M.ask now) ≡ b → (m : ℕ) → m ≤ cond b 1 0 → AtLeast (StandsAsking M asks limits starts) m (log ∷ [])
        by_ask b at zero le = tt
        by_ask true at (suc zero) le = inl (record { last = now; feeds = feeds starts same a; count = is.count; asking = at }, tt)
        by_ask true at (suc (suc m)) le = absurd (omega (arith, le))
        by_ask false at (suc m) le = absurd (omega (arith, le))

    counts : (asks : Ask → Bool) (f : End → List ℕ) (mine idle : List ℕ) (starts : ℕ → M.State) → starts number.0 ≡ first → Agrees starts g.run.firsts
        → length (f over.«end») + length mine ≤ cond (asks (M.ask now)) 1 0 → AtLeast (StandsAsking M asks limits starts) (length (flat_map (λ (l : ThreadLog). f l.«end») below) + length idle) below
        → AtLeast (StandsAsking M asks limits starts) (length (flat_map (λ (l : ThreadLog). f l.«end») all) + length (mine ++ idle)) all
    counts asks f mine idle starts same a few more =
        let c = ap (λ o. length (f o)) is.end_is in
        at_least_append (StandsAsking M asks limits starts) (length (flat_map (λ (l : ThreadLog). f l.«end») all) + length (mine ++ idle)) (length (f over.«end») + length mine) (length (flat_map (λ (l : ThreadLog). f l.«end») below) + length idle) (log ∷ []) below
        (omega (arith, c, length-append (f log.«end») (flat_map (λ (l : ThreadLog). f l.«end») below), length-append mine idle)) (asking asks (length (f over.«end») + length mine) starts same a few) more

    pub goes_end : IsTree M O A limits number parent function first seen all allocs threads
    goes_end = record {
      own = log;
      below = below;
      parts = refl;
      own_number = is.number_is;
      own_parent = is.parent_is;
      own_function = is.function_is;
      later = λ l i. later l i;
      steps = λ l e i h. steps l e i h;
      started = λ l i. g.logs.started l log i is.number_is entries_in;
      children = λ h.
          let a = g.logs.children h in let b = ap (sum_by (begun h)) is.entries_are in let c = sum_flat h (λ (e : Entry). started_by (child_of e)) log.entries in
          omega (arith, a, b, c, sum_by-append h (children_of log) (flat_map children_of below));
      joined = λ l e c i h asks. joined l e c i h asks;
      ended = λ l c i at. ended l c i at;
      firsts = g.run.firsts;
      firsts_below = g.run.firsts_below;
      runs = λ starts same a.
          let r = g.run.runs starts a in record {
            each = λ l i. each starts same a l i;
            made = counts asks_make alloc_limit_of over.allocs g.idle_allocs starts same a g.few.allocs r.made;
            spawned = counts asks_spawn thread_limit_of over.threads g.idle_threads starts same a g.few.threads r.spawned;
          };
    }
      where
        in_own : (l : ThreadLog) → log ≡ l → (x : Entry) → Has l.entries x → Has es x
        in_own l same x h = subst (λ fs. Has fs x) is.entries_are (subst (λ (y : ThreadLog). Has y.entries x) (sym same) h)

        later : (l : ThreadLog) → Has all l → RisesFrom seen l.entries × EndAbove seen l.«end»
        later l (inl same) = subst (λ (y : ThreadLog). RisesFrom seen y.entries × EndAbove seen y.«end») same (subst (λ fs. RisesFrom seen fs) (sym is.entries_are) g.logs.rises, subst (λ o. EndAbove seen o) (sym is.end_is) g.on_desk.above)
        later l (inr i) = g.logs.later l i

        steps : (l : ThreadLog) (e : Entry) → Has all l → Has l.entries e → IsStepRight O A limits e
        steps l e (inl same) h = g.logs.steps_own e (in_own l same e h)
        steps l e (inr i) h = g.logs.steps l e i h

        joined : (l : ThreadLog) (e : Entry) (c : ThreadNo) → Has all l → Has l.entries e → e.request ≡ request.Join c → IsJoined all l.entries e c
        joined l e c (inl same) h asks = join_more below all (λ x i. inr i) es l.entries e c (λ x k. subst (λ (y : ThreadLog). Has y.entries x) same (entries_in x k)) (g.logs.joined_own e c (in_own l same e h) asks)
        joined l e c (inr i) h asks = join_more below all (λ x i. inr i) l.entries l.entries e c (λ x k. k) (g.logs.joined l e c i h asks)

        ended : (l : ThreadLog) (c : ThreadNo) → Has all l → l.«end» ≡ log_end.ChildEnded c → HasStopped all c
        ended l c (inl same) at = end_more below all (λ x i. inr i) c (halted c (sym is.end_is ∙ (ap (λ (y : ThreadLog). y.«end») same ∙ at)))
        ended l c (inr i) at = end_more below all (λ x i. inr i) c (g.logs.ended l c i at)

        each : (starts : ℕ → M.State) → starts number.0 ≡ first → Agrees starts g.run.firsts → (l : ThreadLog) → Has all l → IsThreadRun M limits starts l
        each starts same a l (inl at) = subst (λ (y : ThreadLog). IsThreadRun M limits starts y) at (own_run starts same a)
        each starts same a l (inr i) = (g.run.runs starts a).each l i
