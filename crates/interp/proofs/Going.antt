-- How a thread goes on: nowhere, by local turns, by an entry, by a child started, by a child's desk joined, to its end.
use Rattle.std.proofs.Common.{◌≡◌, ℕ, ◌+◌, ◌<◌, ◌≤◌, List, [], ◌∷◌, ◌++◌, refl, sym, ◌∙◌, ap, subst, inl, inr, arith, sum_by, le_refl}
use Rattle.std.specs.Prelude.{◌⊎◌, Some, None}
use Rattle.std.specs.declared.option.Option.{Option}
use Rattle.std.specs.List.{flat_map}
use Rattle.std.proofs.lemmas.List.Sums.{sum_by_push, sum_by-append, sum_by-cons}
use Rattle.std.proofs.lemmas.List.Elements.{All-push, All-nil}
use Rattle.bsan_ids.specs.declared.numbers.Limits.{Limits}
use Rattle.bsan_ids.specs.declared.numbers.ThreadNo.{ThreadNo}
use Rattle.history.specs.declared.ask.Ask.{Ask}
use Rattle.history.specs.declared.entry.Entry.{Entry}
use Rattle.history.specs.declared.entry.Plain.TheVariants as plain
use Rattle.history.specs.declared.entry.Request.TheVariants as request
use Rattle.history.specs.declared.log.End.TheVariants as log_end
use Rattle.history.specs.declared.log.ThreadLog.{ThreadLog}
use Rattle.runs.specs.Interleaving.{Allowed}
use Rattle.runs.specs.Machine.{Machine, Memory, MayGoOn, SettlesWithin}
use Rattle.runs.specs.Parts.{Has, Answers, child_of}
use Rattle.runs.specs.Right.{alloc_numbers, thread_numbers}
use Rattle.runs.specs.Threads.{StartsAs}
use Rattle.runs.specs.Tree.{numbers_of, stamps_of, children_of, started_by, IsFamily, IsStarted, IsJoined, IsStepRight, first_numbers, IsTree}
use Rattle.runs.proofs.Feeding.{feeds_settled, feeds_entry}
use Rattle.turn_lock.specs.Rule.{newcomer}
use Rattle.turn_lock.specs.Steps.{parted, joins}
use Rattle.turn_lock.specs.Weights.{equals}
use Rattle.turn_lock.specs.declared.view.View.{View}
use Rattle.turn_lock.proofs.Members.{sum_without}
use Rattle.turn_lock.proofs.Numbers.{equals_same}
use Rattle.interp.specs.Desks.{slotted, stamped, made, spawned, begun, IsTreeDesk, Over, running, DrewFew, DeskStep, DeskEnd}
use Rattle.interp.specs.Goes.{Kid, kid_numbers, KidStands, RootStands, HasLogs, HasDesk, Goes, Takes}
use Rattle.interp.proofs.Growing.{family_more, join_more, end_more, start_more, end_lower, above_lower, tree_closed}
use Rattle.interp.proofs.Members.{has_left, has_right, has_either, has_push, sum_flat_append, entries_append, numbers_append, firsts_append, agrees_append, runs_append, rises_push}

-- a thread that goes on has drawn nothing in vain
drew_none : (a : Ask) → DrewFew a running
drew_none a = record { allocs = omega arith; threads = omega arith }

kid_more : {S : Type 0} (number : ThreadNo) (seen : ℕ) (es : List Entry) (e : Entry) (k : Kid S) → KidStands number seen es k → KidStands number seen (es ++ e ∷ []) k
kid_more number seen es e k j = record {
  above = j.above;
  spawn = j.spawn;
  stands = has_left es (e ∷ []) j.spawn j.stands;
  asks = j.asks;
  answers = j.answers;
  told = j.told;
  later = j.later;
}

root_more : (es : List Entry) (e : Entry) (below : List ThreadLog) (l : ThreadLog) → RootStands es below l → RootStands (es ++ e ∷ []) below l
root_more es e below l j = record { spawn = j.spawn; stands = has_left es (e ∷ []) j.spawn j.stands; answers = j.answers; family = j.family; is_family = j.is_family }

no_number : (h : ℕ → ℕ) (o : Option ℕ) → o ≡ None → sum_by h (started_by o) ≡ 0
no_number h o is = ap (λ z. sum_by h (started_by z)) is

one_number : (h : ℕ → ℕ) (o : Option ℕ) (c : ℕ) → o ≡ Some c → sum_by h (started_by o) ≡ h c
one_number h o c is = ap (λ z. sum_by h (started_by z)) is ∙ (let none : sum_by h [] ≡ 0 = refl in omega (arith, none, sum_by-cons h c []))

module _ (O : Memory) (A : Allowed) (limits : Limits) (number : ThreadNo) (seen : ℕ) where
  module _ {S : Type 0} (desk next : View) (es : List Entry) (below roots : List ThreadLog) (kids : List (Kid S)) (e : Entry) (own : e.thread ≡ number) (right : IsStepRight O A limits e) where
    -- the logs after one more entry, but for the children that it starts
    logs_entry : (more : List (Kid S)) → seen ≤ desk.seen → ((x : Entry) → Has es x → x.stamp.0 ≤ desk.seen) → desk.seen < e.stamp.0 → ((c : ThreadNo) → e.request ≡ request.Join c → IsJoined below es e c)
        → ((h : ℕ → ℕ) → kid_numbers h more ≡ kid_numbers h kids + begun h e) → ((k : Kid S) → Has more k → Has kids k ⊎ KidStands number seen (es ++ e ∷ []) k)
        → HasLogs O A limits number seen es below roots kids → HasLogs O A limits number seen (es ++ e ∷ []) below roots more
    logs_entry more grows reached later join weighs kept g = record {
      own = All-push (λ (x : Entry). x.thread ≡ number) es e g.own own;
      rises = rises_push seen es e g.rises (omega (arith, grows, later)) (λ x h. let a = reached x h in omega (arith, a, later));
      later = g.later;
      steps_own = λ x h. elim (has_push es e x h) [
        | inl l ↦ g.steps_own x l
        | inr r ↦ subst (λ (y : Entry). IsStepRight O A limits y) r right
      ];
      steps = g.steps;
      joined_own = λ x c h is. elim (has_push es e x h) [
        | inl l ↦ join_more below below (λ l g. g) es (es ++ e ∷ []) x c (λ y i. has_left es (e ∷ []) y i) (g.joined_own x c l is)
        | inr r ↦
            let J : Entry → Type 0 = λ y. IsJoined below (es ++ e ∷ []) y c in
            subst J r (join_more below below (λ l g. g) es (es ++ e ∷ []) e c (λ y i. has_left es (e ∷ []) y i) (join c (ap (λ (y : Entry). y.request) r ∙ is)))
      ];
      joined = g.joined;
      ended = g.ended;
      started = λ l mine h is i. g.started l mine h is (λ x k. i x (has_left es (e ∷ []) x k));
      children = λ h. let a = g.children h in let b = weighs h in omega (arith, a, b, sum_by_push (begun h) es e);
      kids_stand = λ k h. elim (kept k h) [
        | inl old ↦ kid_more number seen es e k (g.kids_stand k old)
        | inr new ↦ new
      ];
      roots_stand = λ l h. root_more es e below l (g.roots_stand l h);
    }

    -- the desk after it
    desk_entry : (more : List (Kid S)) (is js : List ℕ) → ((h : ℕ → ℕ) → kid_numbers h more ≡ kid_numbers h kids) → DeskStep limits desk next e
        → HasDesk limits number seen desk running es below kids is js → HasDesk limits number seen next running (es ++ e ∷ []) below more is js
    desk_entry more is js weighs d w = record {
      name = d.name ∙ w.name;
      turn = d.turn;
      outs = λ h. ap (sum_by h) d.outs ∙ (w.outs h ∙ sym (weighs h));
      grows = let a = w.grows in let b = d.later in let c = d.seen in omega (arith, a, b, c);
      above = tt;
      reached_own = λ x h. elim (has_push es e x h) [
        | inl l ↦ let a = w.reached_own x l in let b = d.later in let c = d.seen in omega (arith, a, b, c)
        | inr r ↦ let b = d.seen in subst (λ (y : Entry). y.stamp.0 ≤ next.seen) r (omega (arith, b))
      ];
      reached = λ l x g h. let a = w.reached l x g h in let b = d.later in let c = d.seen in omega (arith, a, b, c);
      calls = λ h. let a = w.calls h in let b = d.calls h in omega (arith, a, b, sum_by_push (slotted limits.allocs h) es e);
      stamps = λ h. let a = w.stamps h in let b = d.stamps h in omega (arith, a, b, sum_by_push (stamped h) es e);
      allocs = λ h. let a = w.allocs h in let b = d.allocs h in omega (arith, a, b, sum_by_push (made h) es e);
      threads = λ h. let a = w.threads h in let b = d.threads h in omega (arith, a, b, sum_by_push (spawned h) es e);
    }

  module _ (M : Machine) (first : M.State) where
    -- a thread that hasn't begun
    pub goes_nowhere : (told : List Entry) → M.count first ≤ limits.turns → Goes M O A limits number first seen first (newcomer number.0 seen told) running [] [] [] []
    goes_nowhere told count = record {
      idle_allocs = [];
      idle_threads = [];
      run = record {
        count = count;
        firsts = [];
        firsts_below = λ h. refl;
        feeds = λ starts a b. (0, refl);
        runs = λ starts a. record { each = λ l h. absurd h; made = tt; spawned = tt };
      };
      logs = record {
        own = All-nil _;
        rises = tt;
        later = λ l h. absurd h;
        steps_own = λ e h. absurd h;
        steps = λ l e g h. absurd g;
        joined_own = λ e c h is. absurd h;
        joined = λ l e c g h is. absurd g;
        ended = λ l c g is. absurd g;
        started = λ l own g is more. absurd g;
        children = λ h. refl;
        kids_stand = λ k g. absurd g;
        roots_stand = λ l g. absurd g;
      };
      on_desk = record {
        name = refl;
        turn = refl;
        outs = λ h. refl;
        grows = le_refl _;
        above = tt;
        reached_own = λ e h. absurd h;
        reached = λ l e g h. absurd g;
        calls = λ h. refl;
        stamps = λ h. refl;
        allocs = λ h. refl;
        threads = λ h. refl;
      };
      few = drew_none (M.ask first);
    }

    module _ (now then_ : M.State) (desk next : View) (es : List Entry) (below roots : List ThreadLog) (kids : List (Kid M.State)) where
      -- local turns
      pub goes_settled : SettlesWithin M limits.turns now then_ → M.count then_ ≤ limits.turns
          → Goes M O A limits number first seen now desk running es below roots kids → Goes M O A limits number first seen then_ desk running es below roots kids
      goes_settled went count g = record {
        idle_allocs = g.idle_allocs;
        idle_threads = g.idle_threads;
        run = record {
          count = count;
          firsts = g.run.firsts;
          firsts_below = g.run.firsts_below;
          feeds = λ starts a b. feeds_settled M limits.turns starts first now then_ es (g.run.feeds starts a b) went;
          runs = g.run.runs;
        };
        logs = g.logs;
        on_desk = g.on_desk;
        few = drew_none (M.ask then_);
      }

      -- an entry that starts no thread
      pub goes_entry : (e : Entry)
          → MayGoOn M limits.turns now → M.site now ≡ e.site → Answers (M.ask now) e → M.fits now e → child_of e ≡ None
          → e.thread ≡ number → then_ ≡ M.after now e → M.count then_ ≤ limits.turns
          → IsStepRight O A limits e → ((c : ThreadNo) → e.request ≡ request.Join c → IsJoined below es e c) → DeskStep limits desk next e
          → Goes M O A limits number first seen now desk running es below roots kids → Goes M O A limits number first seen then_ next running (es ++ e ∷ []) below roots kids
      goes_entry e may site asks fits none own after count right join d g = record {
        idle_allocs = g.idle_allocs;
        idle_threads = g.idle_threads;
        run = record {
          count = count;
          firsts = g.run.firsts;
          firsts_below = g.run.firsts_below;
          feeds = λ starts a b.
              let child : StartsAs M starts (child_of e) (M.child now) = rw none tt in
              rw after (feeds_entry M limits.turns starts first now es e (g.run.feeds starts a b) may site asks fits child);
          runs = g.run.runs;
        };
        logs = logs_entry desk next es below roots kids e own right kids g.on_desk.grows g.on_desk.reached_own d.later join (λ h. let a = no_number h (child_of e) none in omega (arith, a)) (λ k h. inl h) g.logs;
        on_desk = desk_entry desk next es below roots kids e own right kids g.idle_allocs g.idle_threads (λ h. refl) d g.on_desk;
        few = drew_none (M.ask then_);
      }

      abbrev pub kid_of : ThreadNo → ℕ → Kid M.State
      kid_of c function = record { number = c; function = function; first = M.child now; seen = next.seen }

      -- a Spawn entry, after which a desk is split off for the child
      pub goes_spawn : (e : Entry) (function : ℕ) (c : ThreadNo)
          → MayGoOn M limits.turns now → M.site now ≡ e.site → Answers (M.ask now) e → M.fits now e → e.request ≡ request.Spawn function → child_of e ≡ Some c.0 → number.0 < c.0
          → e.thread ≡ number → then_ ≡ M.after now e → M.count then_ ≤ limits.turns
          → IsStepRight O A limits e → DeskStep limits desk next e
          → Goes M O A limits number first seen now desk running es below roots kids
          → Goes M O A limits number first seen then_ (parted next c.0) running (es ++ e ∷ []) below roots (kids ++ kid_of c function ∷ [])
      goes_spawn e function c may site asks fits spawns child above own after count right d g = record {
        idle_allocs = g.idle_allocs;
        idle_threads = g.idle_threads;
        run = record {
          count = count;
          firsts = g.run.firsts;
          firsts_below = g.run.firsts_below;
          feeds = λ starts a b.
              let started : StartsAs M starts (child_of e) (M.child now) = rw child (b (kid_of c function) (has_right kids (kid_of c function ∷ []) (kid_of c function) (inl refl))) in
              rw after (feeds_entry M limits.turns starts first now es e (g.run.feeds starts a (λ k i. b k (has_left kids (kid_of c function ∷ []) k i))) may site asks fits started);
          runs = g.run.runs;
        };
        logs = logs_entry desk next es below roots kids e own right (kids ++ kid_of c function ∷ []) g.on_desk.grows g.on_desk.reached_own d.later (λ k is. absurd (no_join k (sym spawns ∙ is)))
            (λ h. let a = one_number h (child_of e) c.0 child in omega (arith, a, sum_by_push (λ (k : Kid M.State). h k.number.0) kids (kid_of c function)))
            (λ k i. elim (has_push kids (kid_of c function) k i) [
              | inl l ↦ inl l
              | inr r ↦ let K : Kid M.State → Type 0 = λ x. KidStands number seen (es ++ e ∷ []) x in inr (subst K r new_kid)
            ]) g.logs;
        on_desk = part (desk_entry desk next es below roots kids e own right kids g.idle_allocs g.idle_threads (λ h. refl) d g.on_desk);
        few = drew_none (M.ask then_);
      }
        where
          no_join : (k : ThreadNo) → request.Spawn function ≡ request.Join k → ⊥
          no_join k is = cc

          new_kid : KidStands number seen (es ++ e ∷ []) (kid_of c function)
          new_kid = record {
            above = above;
            spawn = e;
            stands = has_right es (e ∷ []) e (inl refl);
            asks = spawns;
            answers = child;
            told = let a = d.seen in omega (arith, a);
            later = let a = g.on_desk.grows in let b = d.later in let k = d.seen in omega (arith, a, b, k);
          }

          part : HasDesk limits number seen next running (es ++ e ∷ []) below kids g.idle_allocs g.idle_threads
              → HasDesk limits number seen (parted next c.0) running (es ++ e ∷ []) below (kids ++ kid_of c function ∷ []) g.idle_allocs g.idle_threads
          part w = record {
            name = w.name;
            turn = w.turn;
            outs = λ h. let a = w.outs h in omega (arith, a, sum_by_push h next.outs c.0, sum_by_push (λ (k : Kid M.State). h k.number.0) kids (kid_of c function));
            grows = w.grows;
            above = tt;
            reached_own = w.reached_own;
            reached = w.reached;
            calls = w.calls;
            stamps = w.stamps;
            allocs = w.allocs;
            threads = w.threads;
          }

      -- the thread has come to its end, and its children are still out
      pub goes_over : (over : Over) → DeskEnd (M.ask now) desk next over
          → Goes M O A limits number first seen now desk running es below roots kids → Goes M O A limits number first seen now next over es below roots kids
      goes_over over d g = record {
        idle_allocs = g.idle_allocs;
        idle_threads = g.idle_threads;
        run = g.run;
        logs = g.logs;
        on_desk = let w = g.on_desk in record {
          name = d.name ∙ w.name;
          turn = d.turn;
          outs = λ h. ap (sum_by h) d.outs ∙ w.outs h;
          grows = let a = w.grows in let b = d.seen in omega (arith, a, b);
          above = end_lower seen desk.seen over.«end» w.grows d.above;
          reached_own = λ x h. let a = w.reached_own x h in let b = d.seen in omega (arith, a, b);
          reached = λ l x i h. let a = w.reached l x i h in let b = d.seen in omega (arith, a, b);
          calls = λ h. ap (sum_by h) d.calls ∙ w.calls h;
          stamps = λ h. let a = w.stamps h in let b = d.stamps h in let none : sum_by h [] ≡ 0 = refl in omega (arith, a, b, none);
          allocs = λ h. let a = w.allocs h in let b = d.allocs h in let none : sum_by h [] ≡ 0 = refl in omega (arith, a, b, none);
          threads = λ h. let a = w.threads h in let b = d.threads h in let none : sum_by h [] ≡ 0 = refl in omega (arith, a, b, none);
        };
        few = d.few;
      }

    module _ (now : M.State) (desk child : View) (over : Over) (es : List Entry) (below roots logs : List ThreadLog) (kids rest : List (Kid M.State)) (k : Kid M.State) (is js : List ℕ) where
      -- a child's desk is joined, with the logs of its tree
      pub goes_join : Takes kids k rest → (t : IsTree M O A limits k.number (Some number) k.function k.first k.seen logs is js) → IsTreeDesk limits k.number k.seen child logs is js
          → Goes M O A limits number first seen now desk over es below roots kids → Goes M O A limits number first seen now (joins desk child) over es (below ++ logs) (roots ++ t.own ∷ []) rest
      goes_join takes t c g = record {
        idle_allocs = g.idle_allocs ++ is;
        idle_threads = g.idle_threads ++ js;
        run = record {
          count = g.run.count;
          firsts = g.run.firsts ++ ((k.number.0, k.first) ∷ t.firsts);
          firsts_below = λ h.
              let a = g.run.firsts_below h in let b = t.firsts_below h in
              omega (arith, a, b, firsts_append h g.run.firsts ((k.number.0, k.first) ∷ t.firsts), numbers_append h below logs, logs_numbers h, sum_by-cons h k.number.0 (first_numbers t.firsts));
          feeds = λ starts a b.
              let all = agrees_append starts g.run.firsts ((k.number.0, k.first) ∷ t.firsts) a in
              g.run.feeds starts all.0 (λ x i. elim (takes.back x i) [
                | inl same ↦ let E : Kid M.State → Type 0 = λ y. starts y.number.0 ≡ y.first in subst E (sym same) all.1.0
                | inr other ↦ b x other
              ]);
          runs = λ starts a.
              let all = agrees_append starts g.run.firsts ((k.number.0, k.first) ∷ t.firsts) a in
              runs_append M limits starts below logs g.idle_allocs g.idle_threads is js (g.run.runs starts all.0) (t.runs starts all.1.0 all.1.1);
        };
        logs = record {
          own = g.logs.own;
          rises = g.logs.rises;
          later = λ l i. elim (has_either below logs l i) [
            | inl left ↦ g.logs.later l left
            | inr right ↦ above_lower seen k.seen logs kid.later t.later l right
          ];
          steps_own = g.logs.steps_own;
          steps = λ l e i h. elim (has_either below logs l i) [
            | inl left ↦ g.logs.steps l e left h
            | inr right ↦ t.steps l e right h
          ];
          joined_own = λ e n h is. join_more below (below ++ logs) (has_left below logs) es es e n (λ x i. i) (g.logs.joined_own e n h is);
          joined = λ l e n i h is. elim (has_either below logs l i) [
            | inl left ↦ join_more below (below ++ logs) (has_left below logs) l.entries l.entries e n (λ x i. i) (g.logs.joined l e n left h is)
            | inr right ↦ join_more logs (below ++ logs) (has_right below logs) l.entries l.entries e n (λ x i. i) (t.joined l e n right h is)
          ];
          ended = λ l n i is. elim (has_either below logs l i) [
            | inl left ↦ end_more below (below ++ logs) (has_left below logs) n (g.logs.ended l n left is)
            | inr right ↦ end_more logs (below ++ logs) (has_right below logs) n (t.ended l n right is)
          ];
          started = λ l own i is more. elim (has_either below logs l i) [
            | inl left ↦ start_more (own ∷ below) (own ∷ (below ++ logs)) (in_front own) l (g.logs.started l own left is more)
            | inr right ↦ in_child own is more l (subst (λ ls. Has ls l) t.parts right)
          ];
          children = λ h.
              let a = g.logs.children h in let b = t.children h in let w = takes.weight h in
              omega (arith, a, b, w, sum_flat_append h children_of below logs, numbers_append h below logs, logs_numbers h);
          kids_stand = λ x i. g.logs.kids_stand x (takes.others x i);
          roots_stand = λ l i. root_stands l (has_either roots (t.own ∷ []) l i);
        };
        on_desk = let w = g.on_desk in record {
          name = w.name;
          turn = w.turn;
          outs = λ h.
              let a = w.outs h in let b = takes.weight h in let u = sum_without child.name h desk.outs out in let n = ap h c.name in
              omega (arith, a, b, u, n);
          grows = let a = w.grows in omega (arith, a);
          above = w.above;
          reached_own = λ x h. let a = w.reached_own x h in omega (arith, a);
          reached = λ l x i h. elim (has_either below logs l i) [
            | inl left ↦ let a = w.reached l x left h in omega (arith, a)
            | inr right ↦ let a = c.reached l x right h in omega (arith, a)
          ];
          calls = λ h. let a = w.calls h in let b = c.calls h in omega (arith, a, b, sum_by-append h desk.calls child.calls, entries_append (slotted limits.allocs h) below logs);
          stamps = λ h.
              let a = w.stamps h in let b = c.stamps h in
              omega (arith, a, b, sum_by-append h desk.stamps.joined (child.stamps.own ++ child.stamps.joined), sum_by-append h child.stamps.own child.stamps.joined, sum_flat_append h stamps_of below logs);
          allocs = λ h.
              let a = w.allocs h in let b = c.allocs h in
              omega (arith, a, b, sum_by-append h desk.allocs.joined (child.allocs.own ++ child.allocs.joined), sum_by-append h child.allocs.own child.allocs.joined, sum_by-append h g.idle_allocs is, sum_by-append h (flat_map alloc_numbers logs) is, sum_flat_append h alloc_numbers below logs);
          threads = λ h.
              let a = w.threads h in let b = c.threads h in
              omega (arith, a, b, sum_by-append h desk.threads.joined (child.threads.own ++ child.threads.joined), sum_by-append h child.threads.own child.threads.joined, sum_by-append h g.idle_threads js, sum_by-append h (flat_map thread_numbers logs) js, sum_flat_append h thread_numbers below logs);
        };
        few = g.few;
      }
        where
          kid : KidStands number seen es k
          kid = g.logs.kids_stand k takes.there

          logs_numbers : (h : ℕ → ℕ) → sum_by h (numbers_of logs) ≡ h k.number.0 + sum_by h (numbers_of t.below)
          logs_numbers h = ap (λ ls. sum_by h (numbers_of ls)) t.parts ∙ (sum_by-cons h t.own.number.0 (numbers_of t.below) ∙ ap (λ (n : ThreadNo). h n.0 + sum_by h (numbers_of t.below)) t.own_number)

          out : 1 ≤ sum_by (equals child.name) desk.outs
          out =
              let a = g.on_desk.outs (equals child.name) in let b = takes.weight (equals child.name) in
              let s = equals_same child.name in let n = ap (equals child.name) c.name in omega (arith, a, b, s, n)

          in_front : (own x : ThreadLog) → Has (own ∷ below) x → Has (own ∷ (below ++ logs)) x
          in_front own x (inl is) = inl is
          in_front own x (inr h) = inr (has_left below logs x h)

          family : IsFamily logs t.own logs
          family = tree_closed M O A limits k.number (Some number) k.function k.first k.seen logs is js t

          new_root : RootStands es (below ++ logs) t.own
          new_root = record {
            spawn = kid.spawn;
            stands = kid.stands;
            answers = kid.answers ∙ ap (λ (n : ThreadNo). Some n.0) (sym t.own_number);
            family = logs;
            is_family = family_more logs (below ++ logs) (has_right below logs) t.own logs family;
          }

          root_stands : (l : ThreadLog) → Has roots l ⊎ Has (t.own ∷ []) l → RootStands es (below ++ logs) l
          root_stands l (inl left) =
              let r = g.logs.roots_stand l left in
              record { spawn = r.spawn; stands = r.stands; answers = r.answers; family = r.family; is_family = family_more below (below ++ logs) (has_left below logs) l r.family r.is_family }
          root_stands l (inr (inl same)) = let R : ThreadLog → Type 0 = λ y. RootStands es (below ++ logs) y in subst R same new_root
          root_stands l (inr (inr h)) = absurd h

          in_child : (own : ThreadLog) → own.number ≡ number → ((x : Entry) → Has es x → Has own.entries x) → (l : ThreadLog) → Has (t.own ∷ t.below) l → IsStarted (own ∷ (below ++ logs)) l
          in_child own is more l (inr h) = start_more logs (own ∷ (below ++ logs)) (λ x i. inr (has_right below logs x i)) l (t.started l h)
          in_child own is more l (inl same) = let S : ThreadLog → Type 0 = λ y. IsStarted (own ∷ (below ++ logs)) y in subst S same (record {
            parent = own;
            there = inl refl;
            names_parent = t.own_parent ∙ ap Some (sym is);
            above = let a = kid.above in let p = ap (λ (n : ThreadNo). n.0) is in let q = ap (λ (n : ThreadNo). n.0) t.own_number in omega (arith, a, p, q);
            spawn = kid.spawn;
            stands = more kid.spawn kid.stands;
            request = kid.asks ∙ ap request.Spawn (sym t.own_function);
            answers = kid.answers ∙ ap (λ (n : ThreadNo). Some n.0) (sym t.own_number);
            family = logs;
            is_family = family_more logs (own ∷ (below ++ logs)) (λ x i. inr (has_right below logs x i)) t.own logs family;
            later = above_lower kid.spawn.stamp.0 k.seen logs kid.told t.later;
          })

    -- what a Join entry says of a child whose desk was joined, if it is later than all that the desk has seen
    pub joined_stands : (now : M.State) (desk : View) (over : Over) (es : List Entry) (below roots : List ThreadLog) (kids : List (Kid M.State)) (e : Entry) (child : ThreadLog) (word : ℕ)
        → Has roots child → child.«end» ≡ log_end.Returned word e.reply.carried → e.reply.plain ≡ plain.Value word → desk.seen < e.stamp.0
        → Goes M O A limits number first seen now desk over es below roots kids → IsJoined below es e child.number
    joined_stands now desk over es below roots kids e child word h returned value later g =
        let r = g.logs.roots_stand child h in record {
          child = child;
          number = refl;
          word = word;
          value = value;
          returned = returned;
          spawn = r.spawn;
          stands = r.stands;
          answers = r.answers;
          after_spawn = let a = g.on_desk.reached_own r.spawn r.stands in omega (arith, a, later);
          family = r.family;
          is_family = r.is_family;
          earlier = λ l x i j. let a = g.on_desk.reached l x (r.is_family.among l i) j in omega (arith, a, later);
        }
