-- A child's desk is joined, and its tree stands among the thread's; a Join entry is made of it.
use Rattle.std.proofs.Common.{◌≡◌, ◌≢◌, ℕ, zero, suc, ◌+◌, ◌<◌, ◌≤◌, List, [], ◌∷◌, ◌++◌, length, refl, sym, ◌∙◌, ap, subst, arith, All, Contains, inl, inr, sum_by, vec_len, vec_capacity, get_or, take, drop, map, eqb, true}
use Rattle.std.specs.Prelude.{Some, None, slice_get}
use Rattle.std.specs.List.{remove}
use Rattle.std.specs.declared.option.Option.{Option}
use Rattle.std.specs.declared.alloc.Global.{Global}
use Rattle.std.specs.declared.vec.Vec.{Vec}
use Rattle.std.proofs.lemmas.List.Sums.{sum_by-cons}
use Rattle.std.proofs.lemmas.List.Elements.{All-push, All-head, All-tail, All-append, All-take, All-drop}
use Rattle.std.proofs.lemmas.Bool.{eqb-true}
use Rattle.bsan_ids.specs.declared.numbers.AllocNo.{AllocNo}
use Rattle.bsan_ids.specs.declared.numbers.Prov.{Prov}
use Rattle.bsan_ids.specs.declared.numbers.ThreadNo.{ThreadNo}
use Rattle.history.specs.declared.ask.Arg.{Arg}
use Rattle.history.specs.declared.ask.Ask.TheVariants as ask
use Rattle.history.specs.declared.entry.Entry.{Entry}
use Rattle.history.specs.declared.entry.Plain.TheVariants as plain
use Rattle.history.specs.declared.entry.Reply.{Reply}
use Rattle.history.specs.declared.entry.Request.{Request}
use Rattle.history.specs.declared.entry.Request.TheVariants as request
use Rattle.history.specs.declared.entry.Verdict.TheVariants as verdict
use Rattle.history.specs.declared.log.End.{End}
use Rattle.history.specs.declared.log.End.TheVariants as log_end
use Rattle.history.specs.declared.log.ThreadLog.{ThreadLog}
use Rattle.ir_ast.specs.declared.hosts.HostTable.{HostTable}
use Rattle.ir_ast.specs.declared.program.Function.{Function}
use Rattle.ir_ast.specs.declared.types.Ty.{Ty}
use Rattle.run_record.specs.Flatten.{all_logs, all_logs_more}
use Rattle.runs.specs.Machine.{MayGoOn}
use Rattle.runs.specs.Objects.{objects}
use Rattle.runs.specs.Parts.{Has, Answers, child_of, spawned_by}
use Rattle.runs.specs.Right.{made_by, spawned_by_reply}
use Rattle.runs.specs.Threads.{EndsAs}
use Rattle.runs.specs.Tree.{IsEntryRight, IsStepRight, IsJoined, HasStopped, IsTree}
use Rattle.source_runs.specs.Invariant.{ResultFits, JoinsTyped, PlainFits}
use Rattle.source_runs.proofs.Registers.{fits_blank}
use Rattle.source_sem.specs.Children.{with_child}
use Rattle.source_sem.specs.Records.{allowed}
use Rattle.source_sem.specs.Source.{Setting, Source, source, source_ask, source_site, source_fits, frames_type}
use Rattle.source_sem.specs.Traps.{PlainIsOwn}
use Rattle.source_sem.proofs.Stepping.{counts_within, spawns_start}
use Rattle.thread_parts.specs.Fits.{ReplyFits, JoinFits, ValueFits, IsTrap}
use Rattle.turn_lock.specs.Steps.{joins}
use Rattle.turn_lock.specs.Weights.{equals}
use Rattle.turn_lock.specs.Plays.{DeskView}
use Rattle.turn_lock.proofs.Numbers.{equals_same, equals_cases}
use Rattle.alloc_space.specs.Spaces.{SpaceView}
use Rattle.alloc_space.specs.Steps.{IsNote}
use Rattle.interp.specs.declared.child.TreeOf.{TreeOf}
use Rattle.interp.specs.declared.child.Child.{Child}
use Rattle.interp.specs.declared.running.Running.{Running}
use Rattle.interp.specs.Answers.{IsAnswer}
use Rattle.interp.specs.Desks.{Over, running, IsReady, DeskStep}
use Rattle.interp.specs.Flatten.{root_of, roots_of}
use Rattle.interp.specs.Goes.{Kid, Goes, Takes}
use Rattle.interp.specs.Running.{IsOfChildren, IsPromised, view_of, kid_of, kids_of, below_of, own_roots_of, IsGoingAs, IsGoing, GoesOn, HasEnded, IsSameThread}
use Rattle.interp.specs.Views.{ThreadView, IsKept, Knows, Starts, result_in, result_of, TreeReturns, EndFits, answered}
use Rattle.interp.proofs.Advancing.{ends_plainly, child_ended_draws, told_none}
use Rattle.interp.proofs.Children.{roots_of_more, children_joined, children_entry}
use Rattle.interp.proofs.Coming.{desk_step, ready_step}
use Rattle.interp.proofs.Going.{goes_entry, goes_join, joined_stands}
use Rattle.interp.proofs.Growing.{end_more}
use Rattle.interp.proofs.Keeping.{kept_entry, joins_child, joins_typed}
use Rattle.interp.proofs.Members.{has_left, has_right}

-- a number that weighs anything is contained
pub contains_weighed : (xs : List ℕ) (n : ℕ) → 1 ≤ sum_by (equals n) xs → Contains xs n
contains_weighed [] n le = absurd (omega (arith, le))
contains_weighed (x ∷ xs) n le = elim (equals_cases n x) [
  | inl q ↦ (0, omega arith, q.0)
  | inr q ↦ let a = q.1 in let c = contains_weighed xs n (omega (arith, le, a, sum_by-cons (equals n) x xs)) in (suc c.0, (let b = c.1 in omega (arith, b)), c.2)
]

root_is : (t : List ThreadLog) (own : ThreadLog) (below : List ThreadLog) → t ≡ own ∷ below → root_of t ≡ own ∷ []
root_is t own below is = ap root_of is

module _ {T : Type 0} (setting : T → Setting) (state : T → Source) (space : SpaceView) (r : Running T) where
  abbrev kid_so : ThreadNo → ℕ → ThreadView → DeskView → Kid Source
  kid_so number function began old = record { number = number; function = function; first = began.state; seen = old.view.seen }

  module _ (over : Over) (now : ThreadView) (kids rest : List (Kid Source)) (number : ThreadNo) (function : ℕ) (began : ThreadView) (old child : DeskView) (t : List ThreadLog)
      (takes : Takes kids (kid_so number function began old) rest) (answer : IsAnswer space.limits r.hosts.value number (Some r.number) function began old t child) (same : began.setting ≡ now.setting) (g : IsGoingAs setting state space over now kids r) where
    -- its name is out on the thread's desk
    pub may_join : (r.desk.view.turn ≡ None) × (child.view.turn ≡ None) × Contains r.desk.view.outs child.view.name × (child.view.outs ≡ [])
    may_join =
        let a = g.goes.on_desk.outs (equals number.0) in let b = takes.weight (equals number.0) in let c = equals_same number.0 in
        (g.goes.on_desk.turn, answer.desk.turn, subst (λ n. Contains r.desk.view.outs n) (sym answer.desk.name) (contains_weighed r.desk.view.outs number.0 (omega (arith, a, b, c))), answer.desk.outs)

    tree : IsTree (source now.setting) objects (allowed space.limits r.hosts.value) space.limits number (Some r.number) function began.state old.view.seen t answer.idle_allocs answer.idle_threads
    tree = subst (λ (x : Setting). IsTree (source x) objects (allowed space.limits r.hosts.value) space.limits number (Some r.number) function began.state old.view.seen t answer.idle_allocs answer.idle_threads) same answer.tree

    roots_with : (ts : List (List ThreadLog)) → ts ≡ r.trees.items ++ t ∷ [] → own_roots_of setting state r ++ tree.own ∷ [] ≡ roots_of ts
    roots_with ts items = ap (λ l. own_roots_of setting state r ++ l) (sym (root_is t tree.own tree.below tree.parts)) ∙ (sym (roots_of_more r.trees.items t) ∙ ap roots_of (sym items))

    below_with : (ts : List (List ThreadLog)) → ts ≡ r.trees.items ++ t ∷ [] → below_of setting state r ++ t ≡ all_logs ts
    below_with ts items = sym (all_logs_more r.trees.items t) ∙ ap all_logs (sym items)

    pub joined_goes : (d : DeskView) (ks : Vec (Child T) Global) (ts : Vec (List ThreadLog) Global) → d ≡ record { table = r.desk.table; view = joins r.desk.view child.view } → ts.items ≡ r.trees.items ++ t ∷ []
        → All (λ (c : Child T). IsPromised setting state space r.hosts.value now.setting r.number c.handle.promise) ks.items → vec_len ts + vec_len ks ≤ vec_capacity ts
        → IsGoingAs setting state space over now rest (record r { desk = d; kids = ks; trees = ts })
    joined_goes d ks ts is items promised room =
        let below = below_with ts.items items in
        let roots = roots_with ts.items items in
        record {
          own = ap (λ (x : DeskView). x.table) is ∙ g.own;
          start_own = g.start_own;
          same_setting = g.same_setting;
          runnable = g.runnable;
          kept = g.kept;
          goes = subst (λ ls. Goes (source now.setting) objects (allowed space.limits r.hosts.value) space.limits r.number (state r.began.value) r.start.value.view.seen now.state d.view over r.entries.items (all_logs ts.items) ls rest) roots
              (subst (λ ls. Goes (source now.setting) objects (allowed space.limits r.hosts.value) space.limits r.number (state r.began.value) r.start.value.view.seen now.state d.view over r.entries.items ls (own_roots_of setting state r ++ tree.own ∷ []) rest) below
              (subst (λ (x : DeskView). Goes (source now.setting) objects (allowed space.limits r.hosts.value) space.limits r.number (state r.began.value) r.start.value.view.seen now.state x.view over r.entries.items (below_of setting state r ++ t) (own_roots_of setting state r ++ tree.own ∷ []) rest) (sym is)
              (goes_join objects (allowed space.limits r.hosts.value) space.limits r.number r.start.value.view.seen (source now.setting) (state r.began.value) now.state r.desk.view child.view over r.entries.items (below_of setting state r) (own_roots_of setting state r) t kids rest (kid_so number function began old) answer.idle_allocs answer.idle_threads takes tree answer.desk g.goes)));
          promised = promised;
          children = subst (λ own. IsOfChildren r.entries.items now.state.started own rest (roots_of ts.items)) (ap (λ (x : DeskView). x.view.threads.own) (sym is))
              (subst (λ ls. IsOfChildren r.entries.items now.state.started r.desk.view.threads.own rest ls) roots (children_joined r.entries.items now.state.started r.desk.view.threads.own kids rest (own_roots_of setting state r) (kid_so number function began old) tree.own takes tree.own_number tree.own_function g.children));
          returns = subst (λ ls. All (TreeReturns now.setting) ls) (sym items) (All-push (TreeReturns now.setting) r.trees.items t g.returns (subst (λ (x : Setting). TreeReturns x t) same answer.returns));
          room = room;
        }

    -- the child's own log is a root
    pub root_there : (ts : List (List ThreadLog)) → ts ≡ r.trees.items ++ t ∷ [] → (log : ThreadLog) × Has (roots_of ts) log × (log.number ≡ number)
    root_there ts items = (tree.own, subst (λ ls. Has ls tree.own) (roots_with ts items) (has_right (own_roots_of setting state r) (tree.own ∷ []) tree.own (inl refl)), tree.own_number)

    pub ready_joined : (d : DeskView) → d ≡ record { table = r.desk.table; view = joins r.desk.view child.view } → IsReady space.limits r.desk.view → IsReady space.limits d.view
    ready_joined d is q = subst (λ (x : DeskView). IsReady space.limits x.view) (sym is) (record { stamps = q.stamps; allocs = q.allocs; threads = q.threads; turn = q.turn })

    -- what is said of the logs below is said of more
    pub end_kept : (ts : List (List ThreadLog)) (c : ThreadNo) → ts ≡ r.trees.items ++ t ∷ [] → HasStopped (below_of setting state r) c → HasStopped (all_logs ts) c
    end_kept ts c items e = subst (λ ls. HasStopped ls c) (below_with ts items) (end_more (below_of setting state r) (below_of setting state r ++ t) (has_left (below_of setting state r) t) c e)

  -- a root's log tells a value of its function's result
  root_returns : (x : Setting) (ts : List (List ThreadLog)) (log : ThreadLog) → All (TreeReturns x) ts → Has (roots_of ts) log → EndFits x log.entry_function log.«end»
  root_returns x [] log all h = absurd h
  root_returns x ([] ∷ ts) log all h = root_returns x ts log (All-tail (TreeReturns x) [] ts all) h
  root_returns x ((l ∷ ls) ∷ ts) log all (inl same) = subst (λ (y : ThreadLog). EndFits x y.entry_function y.«end») same (All-head (TreeReturns x) (l ∷ ls) ts all)
  root_returns x ((l ∷ ls) ∷ ts) log all (inr h) = root_returns x ts log (All-tail (TreeReturns x) (l ∷ ls) ts all) h

  none_is_some : (a : AllocNo) → None ≡ Some a → ⊥
  none_is_some a e = cc

  join_same : (c d : ThreadNo) → request.Join c ≡ request.Join d → c ≡ d
  join_same c d e = cc

  join_no_spawn : (c : ThreadNo) (f : ℕ) → request.Join c ≡ request.Spawn f → ⊥
  join_no_spawn c f e = cc

  none_some : {B : Type 0} (n : ℕ) → None ≡ Some n → B
  none_some n e = cc

  -- a child that returned is joined by an entry of its value
  module _ (child : ThreadNo) (asks : source_ask (setting r.machine) (state r.machine) ≡ ask.Join child) (may : MayGoOn (source (setting r.machine)) space.limits.turns (state r.machine))
      (log : ThreadLog) (root : Has (own_roots_of setting state r) log) (number : log.number ≡ child) where
    abbrev v : ThreadView
    v = view_of setting state r.machine

    module _ (value : ℕ) (carried : Option Prov) (returned : log.«end» ≡ log_end.Returned value carried) (on : GoesOn setting state space r) where
      abbrev pub join_reply : Reply
      join_reply = record { plain = plain.Value value; carried = carried; verdict = verdict.Clean }

      positive : 0 < child.0
      positive = (joins_child v.setting r.hosts.value on.going.runnable r.entries.items r.function v.state on.going.kept child asks).1

      result : (f : ℕ) → f ≡ log.entry_function → ResultFits (result_of v.setting f) record { value = value; prov = carried }
      result f is = subst (λ n. ResultFits (result_of v.setting n) record { value = value; prov = carried }) (sym is)
          (subst (λ (o : End). EndFits v.setting log.entry_function o) returned (root_returns v.setting r.trees.items log on.going.returns root))

      typed_value : (ty : Ty) → JoinsTyped v.setting.program (Knows r.entries.items) (Some ty) child.0 → ValueFits ty record { value = value; prov = carried }
      typed_value ty j = by_known j.0 j.1 j.2
        where
          by_code : (f : ℕ) → f ≡ log.entry_function → ((g : Function) → slice_get v.setting.program.functions f ≡ Some g → g.result.ty ≡ Some ty) → (o : Option Function) → slice_get v.setting.program.functions f ≡ o → ValueFits ty record { value = value; prov = carried }
          by_code f is typed (Some g) code = subst (λ o. ResultFits o record { value = value; prov = carried }) (ap result_in code ∙ typed g code) (result f is)
          by_code f is typed None code = subst (λ (w : Arg). ValueFits ty w) (sym (subst (λ o. ResultFits o record { value = value; prov = carried }) (ap result_in code) (result f is))) (fits_blank ty)

          by_known : (f : ℕ) → Knows r.entries.items f child.0 → ((g : Function) → slice_get v.setting.program.functions f ≡ Some g → g.result.ty ≡ Some ty) → ValueFits ty record { value = value; prov = carried }
          by_known f (inl none) typed = absurd (omega (arith, none, positive))
          by_known f (inr k) typed = by_code f (on.going.children.of_roots log f root (subst (λ (n : ThreadNo). Starts r.entries.items f n.0) (sym number) k.0)) typed (slice_get v.setting.program.functions f) refl

      value_fits : JoinFits (frames_type v.setting v.state.frames) join_reply (plain.Value value)
      value_fits = by_type (frames_type v.setting v.state.frames) refl
        where
          by_type : (ty : Option Ty) → frames_type v.setting v.state.frames ≡ ty → JoinFits ty join_reply (plain.Value value)
          by_type None is = tt
          by_type (Some ty) is = typed_value ty (joins_typed v.setting r.hosts.value on.going.runnable r.entries.items r.function v.state on.going.kept child ty asks is)

      pub join_fits : (e : Entry) → e.request ≡ request.Join child → e.reply ≡ join_reply → source_fits v.setting v.state e
      join_fits e is reply =
          let F : Request → Type 0 = λ q. ReplyFits (frames_type v.setting v.state.frames) e q in
          let J : Reply → Type 0 = λ (q : Reply). JoinFits (frames_type v.setting v.state.frames) q q.plain × (IsTrap q.plain → ⊥) in
          subst F (sym is) (subst J (sym reply) (value_fits, λ h. h))

      module _ (m : T) (d : DeskView) (es : Vec Entry Global) (e : Entry) (is : view_of setting state m ≡ answered v e) (items : es.items ≡ r.entries.items ++ e ∷ []) (note : IsNote space.limits r.number (source_site (state r.machine)) (request.Join child) join_reply r.desk d e) where
        plain_is : e.reply.plain ≡ plain.Value value
        plain_is = ap (λ (q : Reply). q.plain) note.reply_is

        asked : Answers (source_ask v.setting v.state) e
        asked = subst (λ a. Answers a e) (sym asks) (note.entry.request_is, note.entry.alloc_is)

        fit : source_fits v.setting v.state e
        fit = join_fits e note.entry.request_is note.reply_is

        none : child_of e ≡ None
        none = ap (λ q. spawned_by q e.reply.plain) note.entry.request_is

        right : IsStepRight objects (allowed space.limits r.hosts.value) space.limits e
        right = record {
          right = subst (λ q. IsEntryRight (allowed space.limits r.hosts.value) e q) (sym note.entry.request_is) (positive, ap (λ (q : Reply). q.verdict) note.reply_is);
          within = note.step.within;
          outside = λ a at. absurd (none_is_some a (sym note.entry.alloc_is ∙ at));
        }

        stands : (c : ThreadNo) → e.request ≡ request.Join c → IsJoined (below_of setting state r) r.entries.items e c
        stands c joins = subst (λ n. IsJoined (below_of setting state r) r.entries.items e n) (number ∙ join_same child c (sym note.entry.request_is ∙ joins))
            (joined_stands objects (allowed space.limits r.hosts.value) space.limits r.number r.start.value.view.seen (source v.setting) (state r.began.value) v.state r.desk.view running r.entries.items (below_of setting state r) (own_roots_of setting state r) (kids_of setting state r) e log value
            root (returned ∙ ap (λ p. log_end.Returned value p) (ap (λ (q : Reply). q.carried) (sym note.reply_is))) plain_is note.step.later on.going.goes)

        kept : IsKept v.setting (r.entries.items ++ e ∷ []) r.function (answered v e).state
        kept = kept_entry v.setting r.hosts.value on.going.runnable r.entries.items r.function v.state on.going.kept e asked fit (λ c at. none_some c (sym none ∙ at)) (subst (λ p. PlainFits p) (sym plain_is) tt) (subst (λ p. PlainIsOwn p) (sym plain_is) tt)
            (told_none (Knows (r.entries.items ++ e ∷ [])) e.request e.reply.plain (λ f at. join_no_spawn child f (sym note.entry.request_is ∙ at)))

        pub join_goes : GoesOn setting state space (record r { machine = m; desk = d; entries = es })
        join_goes = record {
          ready = subst (λ (x : DeskView). IsReady space.limits x.view) (sym note.step.desk) (ready_step space.limits r.desk.view e note.step.within on.ready);
          going = subst (λ (w : ThreadView). IsGoingAs setting state space running w (kids_of setting state r) (record r { machine = m; desk = d; entries = es })) (sym is) (record {
            own = ap (λ (x : DeskView). x.table) note.step.desk ∙ on.going.own;
            start_own = on.going.start_own;
            same_setting = on.going.same_setting;
            runnable = on.going.runnable;
            kept = subst (λ (l : List Entry). IsKept v.setting l r.function (answered v e).state) (sym items) kept;
            goes = rw items (goes_entry objects (allowed space.limits r.hosts.value) space.limits r.number r.start.value.view.seen (source v.setting) (state r.began.value) v.state (answered v e).state r.desk.view d.view r.entries.items (below_of setting state r) (own_roots_of setting state r) (kids_of setting state r) e
                may (sym note.entry.site_is) asked fit none note.entry.thread_is refl (counts_within v.setting v.state e.reply space.limits.turns may on.going.goes.run.count) right stands
                (subst (λ (x : DeskView). DeskStep space.limits r.desk.view x.view e) (sym note.step.desk) (desk_step space.limits r.desk.view e on.ready.turn note.step.later (ap made_by plain_is) (ap spawned_by_reply plain_is))) on.going.goes);
            promised = on.going.promised;
            children = subst (λ (l : List Entry). IsOfChildren l (answered v e).state.started d.view.threads.own (kids_of setting state r) (own_roots_of setting state r)) (sym items)
                (subst (λ own. IsOfChildren (r.entries.items ++ e ∷ []) (answered v e).state.started own (kids_of setting state r) (own_roots_of setting state r)) (ap (λ (x : DeskView). x.view.threads.own) (sym note.step.desk))
                (children_entry r.entries.items e v.state.started (answered v e).state.started r.desk.view.threads.own (kids_of setting state r) (own_roots_of setting state r) none ((spawns_start v.setting).after v.state e asked fit ∙ ap (λ c. with_child c v.state.started) none) on.going.children));
            returns = on.going.returns;
            room = on.going.room;
          });
        }

    -- a child that did not return ends the thread that joins it
    pub ends_joining : ((w : ℕ) (p : Option Prov) → log.«end» ≢ log_end.Returned w p) → GoesOn setting state space r → HasEnded setting state space (log_end.ChildEnded child) r
    ends_joining stopped on = ends_plainly setting state space r (log_end.ChildEnded child) (child_ended_draws child) (asks, may) tt
        (λ c is. (let f = on.going.goes.logs.roots_stand log root in record { child = log; there = f.is_family.among log f.is_family.own; number = number ∙ child_same child c is; other = stopped })) on
      where
        child_same : (a b : ThreadNo) → log_end.ChildEnded a ≡ log_end.ChildEnded b → a ≡ b
        child_same a b e = cc

-- elements by their places
pub any_default : {X : Type 0} (xs : List X) (i : ℕ) (d e : X) → i < length xs → get_or xs i d ≡ get_or xs i e
any_default [] i d e lt = absurd (omega (arith, lt))
any_default (x ∷ xs) zero d e lt = refl
any_default (x ∷ xs) (suc i) d e lt = any_default xs i d e (omega (arith, lt))

pub all_removed : {X : Type 0} (P : X → Type 0) (xs : List X) (i : ℕ) → All P xs → All P (remove xs i)
all_removed P xs i all = All-append P (take i xs) (drop (suc i) xs) (All-take P i xs all) (All-drop P (suc i) xs all)

pub root_at : (ts : List (List ThreadLog)) (log : ThreadLog) → Has (roots_of ts) log → (k : ℕ) × (k < length ts) × Has (root_of (get_or ts k [])) log
root_at [] log h = absurd h
root_at ([] ∷ ts) log h = let r = root_at ts log h in (suc r.0, (let a = r.1 in omega (arith, a)), r.2)
root_at ((l ∷ ls) ∷ ts) log (inl same) = (0, omega arith, inl same)
root_at ((l ∷ ls) ∷ ts) log (inr h) = let r = root_at ts log h in (suc r.0, (let a = r.1 in omega (arith, a)), r.2)

pub root_among : (ts : List (List ThreadLog)) (k : ℕ) (log : ThreadLog) → k < length ts → Has (root_of (get_or ts k [])) log → Has (roots_of ts) log
root_among [] k log lt h = absurd (omega (arith, lt))
root_among (t ∷ ts) zero log lt h = has_left (root_of t) (roots_of ts) log h
root_among (t ∷ ts) (suc k) log lt h = has_right (root_of t) (roots_of ts) log (root_among ts k log (omega (arith, lt)) h)

-- the answer of a child that was promised it
module _ {T : Type 0} (setting : T → Setting) (state : T → Source) (space : SpaceView) (hosts : HostTable) (x : Setting) (parent : ThreadNo) where
  pub promised_answer : (p q : TreeOf T) (t : List ThreadLog) (child : DeskView) → p ≡ q → IsPromised setting state space hosts x parent q
      → IsAnswer p.limits p.hosts.value p.number (Some p.parent) p.function (view_of setting state p.machine.value) p.desk.value t child → IsAnswer space.limits hosts q.number (Some parent) q.function (view_of setting state q.machine.value) q.desk.value t child
  promised_answer p q t child same promised answer =
      let A : TreeOf T → Type 0 = λ (z : TreeOf T). IsAnswer z.limits z.hosts.value z.number (Some z.parent) z.function (view_of setting state z.machine.value) z.desk.value t child in
      subst (λ n. IsAnswer space.limits hosts q.number (Some n) q.function (view_of setting state q.machine.value) q.desk.value t child) promised.parent_is
      (subst (λ h. IsAnswer space.limits h q.number (Some q.parent) q.function (view_of setting state q.machine.value) q.desk.value t child) promised.hosts_are
      (subst (λ l. IsAnswer l q.hosts.value q.number (Some q.parent) q.function (view_of setting state q.machine.value) q.desk.value t child) promised.limits_are (subst A same answer)))

-- places of a Vec
pub place_within : {X : Type 0} (v : Vec X Global) (i : ℕ) → i < vec_len v → i < length v.items
place_within v i lt = let same = v.ok in omega (arith, lt, same)

pub element : {X : Type 0} (xs : List X) (i : ℕ) → i < length xs → X
element [] i lt = absurd (omega (arith, lt))
element (x ∷ xs) zero lt = x
element (x ∷ xs) (suc i) lt = element xs i (omega (arith, lt))

pub same_number : (a b : ThreadNo) → a.0 ≡ b.0 → a ≡ b
same_number a b is = ap (λ (n : ℕ). let r : ThreadNo = record { 0 = n } in r) is

pub tested_number : (a b : ThreadNo) → eqb a.0 b.0 ≡ true → a ≡ b
tested_number a b is = same_number a b (eqb-true a.0 b.0 is)

-- a child that is not among those with a handle is a root
module _ {T : Type 0} (setting : T → Setting) (state : T → Source) (child : ThreadNo) where
  kid_numbered : (xs : List (Child T)) (k : Kid Source) → Has (map (kid_of setting state) xs) k → All (λ (c : Child T). c.number ≢ child) xs → k.number.0 ≡ child.0 → ⊥
  kid_numbered [] k h none is = h
  kid_numbered (x ∷ xs) k (inl same) none is = All-head (λ (c : Child T). c.number ≢ child) x xs none (x.named ∙ (ap (λ (q : Kid Source). q.number) same ∙ same_number k.number child is))
  kid_numbered (x ∷ xs) k (inr h) none is = kid_numbered xs k h (All-tail (λ (c : Child T). c.number ≢ child) x xs none) is

  pub only_root : (es : List Entry) (started drawn : List ℕ) (xs : List (Child T)) (roots : List ThreadLog) → IsOfChildren es started drawn (map (kid_of setting state) xs) roots → Has started child.0 → All (λ (c : Child T). c.number ≢ child) xs
      → (log : ThreadLog) × Has roots log × (log.number ≡ child)
  only_root es started drawn xs roots f h none = elim (f.covered child.0 h) [
    | inl q ↦ absurd (kid_numbered xs q.0 q.1 none q.2)
    | inr q ↦ (q.0, q.1, same_number q.0.number child q.2)
  ]

-- whom a thread joins it has started
module _ {T : Type 0} (setting : T → Setting) (state : T → Source) (space : SpaceView) (r : Running T) (child : ThreadNo) (asks : source_ask (setting r.machine) (state r.machine) ≡ ask.Join child) (on : GoesOn setting state space r) where
  pub joined_root : All (λ (c : Child T). c.number ≢ child) r.kids.items → (log : ThreadLog) × Has (own_roots_of setting state r) log × (log.number ≡ child)
  joined_root none = only_root setting state child r.entries.items (state r.machine).started r.desk.view.threads.own r.kids.items (own_roots_of setting state r) on.going.children
      (joins_child (setting r.machine) r.hosts.value on.going.runnable r.entries.items r.function (state r.machine) on.going.kept child asks).0 none

-- an end stays where a child's desk is joined behind it
module _ {T : Type 0} (setting : T → Setting) (state : T → Source) (space : SpaceView) (why : End) (r q : Running T) where
  pub ended_joined : HasEnded setting state space why r → ((over : Over) → IsGoing setting state space over r → IsGoing setting state space over q) → q.machine ≡ r.machine → q.function ≡ r.function → ((c : ThreadNo) → HasStopped (below_of setting state r) c → HasStopped (below_of setting state q) c)
      → HasEnded setting state space why q
  ended_joined e going same function below = record {
    over = e.over;
    over_is = e.over_is;
    going = going e.over e.going;
    ends = subst (λ (m : T). EndsAs (source (setting m)) space.limits (state m) why) (sym same) e.ends;
    fits = subst (λ (m : T). EndFits (setting m) q.function why) (sym same) (subst (λ f. EndFits (setting r.machine) f why) (sym function) e.fits);
    joined = λ c is. below c (e.joined c is);
  }

pub same_on : {T : Type 0} (a b c : Running T) → IsSameThread a b → IsSameThread b c → IsSameThread a c
same_on a b c s t = record { number = t.number ∙ s.number; function = t.function ∙ s.function; began = t.began ∙ s.began; start = t.start ∙ s.start; hosts = t.hosts ∙ s.hosts }

pub ended_goes_on : (why : End) → Some why ≡ None → ⊥
ended_goes_on why e = cc
