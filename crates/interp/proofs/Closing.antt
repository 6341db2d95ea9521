-- A running thread begins, keeps a child, takes one in, and ends.
use Rattle.std.proofs.Common.{◌≡◌, ℕ, ◌+◌, List, [], ◌∷◌, ◌++◌, length, refl, sym, ◌∙◌, ap, subst, arith, All, Contains, map, vec_len, vec_capacity}
use Rattle.std.specs.Prelude.{Some}
use Rattle.std.specs.declared.option.Option.{Option}
use Rattle.std.specs.declared.alloc.Global.{Global}
use Rattle.std.specs.declared.vec.Vec.{Vec}
use Rattle.std.proofs.lemmas.List.{map-append}
use Rattle.std.proofs.lemmas.List.Elements.{All-push, All-nil}
use Rattle.bsan_ids.specs.declared.numbers.ThreadNo.{ThreadNo}
use Rattle.history.specs.declared.entry.Entry.{Entry}
use Rattle.history.specs.declared.log.End.{End}
use Rattle.history.specs.declared.log.ThreadLog.{ThreadLog}
use Rattle.ir_ast.specs.declared.hosts.HostTable.{HostTable}
use Rattle.run_record.specs.Flatten.{all_logs}
use Rattle.runs.specs.Objects.{objects}
use Rattle.runs.specs.Threads.{EndsAs}
use Rattle.source_sem.specs.Records.{allowed}
use Rattle.source_sem.specs.Source.{Setting, Source, source, source_site}
use Rattle.source_sem.proofs.Stepping.{instructions_count, spawns_start}
use Rattle.turn_lock.specs.Plays.{DeskView}
use Rattle.turn_lock.specs.Steps.{joins}
use Rattle.turn_lock.specs.declared.view.View.{View}
use Rattle.alloc_space.specs.Spaces.{SpaceView}
use Rattle.interp.specs.declared.child.Begun.{Begun}
use Rattle.interp.specs.declared.child.Child.{Child}
use Rattle.interp.specs.declared.running.Running.{Running}
use Rattle.interp.specs.Answers.{IsAnswer}
use Rattle.interp.specs.Desks.{running, IsReady}
use Rattle.interp.specs.Flatten.{roots_of}
use Rattle.interp.specs.Goes.{Kid, Goes, Takes}
use Rattle.interp.specs.Running.{IsOfChildren, IsPromised, IsPromiseOf, view_of, kid_of, kids_of, below_of, own_roots_of, begun_kid, GoesOn, HasEnded, IsFirst, IsBegun}
use Rattle.instr_sound.specs.Mains.{IsRunnable}
use Rattle.interp.specs.Views.{ThreadView, IsKept, TreeReturns, EndFits}
use Rattle.interp.proofs.Children.{takes_last}
use Rattle.interp.proofs.Ending.{IsLogOf, desk_ends, goes_end}
use Rattle.interp.proofs.Going.{goes_nowhere}
use Rattle.interp.proofs.Joining.{may_join, joined_goes, ready_joined}
use Rattle.interp.proofs.Keeping.{kept_first}

module _ {T : Type 0} (setting : T → Setting) (state : T → Source) (space : SpaceView) where
  -- a thread that has not begun
  pub first_goes : (r : Running T) (hosts : HostTable) → IsFirst setting state space hosts r.number r.function r.machine r.desk → r.began.value ≡ r.machine → r.start.value ≡ r.desk → r.hosts.value ≡ hosts → r.entries.items ≡ [] → r.kids.items ≡ [] → r.trees.items ≡ [] → vec_len r.trees ≡ 0 → vec_len r.kids ≡ 0
      → GoesOn setting state space r
  first_goes r hosts f is_began is_start is_hosts entries kids trees no_trees no_kids =
      let v : ThreadView = view_of setting state r.machine in
      let x : Setting = v.setting in
      let unbegun : v.state.count ≡ 0 = ap (λ (s : Source). s.count) f.begins.is ∙ (instructions_count x).start r.function f.begins.args in
      let childless : v.state.started ≡ [] = ap (λ (s : Source). s.started) f.begins.is ∙ (spawns_start x).start r.function f.begins.args in
      let G : View → Type 0 = λ w. Goes (source x) objects (allowed space.limits r.hosts.value) space.limits r.number v.state f.stamp v.state w running [] [] [] [] in
      let same_seen : r.desk.view.seen ≡ f.stamp = ap (λ (w : View). w.seen) f.new in
      record {
        ready = subst (λ (w : View). IsReady space.limits w) (sym f.new) (record { stamps = All-nil _; allocs = All-nil _; threads = All-nil _; turn = refl });
        going = record {
          own = f.own;
          start_own = ap (λ (d : DeskView). d.table) is_start ∙ f.own;
          same_setting = ap setting is_began;
          runnable = subst (λ h. IsRunnable x h) (sym is_hosts) f.runnable;
          kept = subst (λ (l : List Entry). IsKept x l r.function v.state) (sym entries) (kept_first x hosts f.runnable r.function v.state f.begins);
          goes = subst (λ (cs : List (Child T)). Goes (source x) objects (allowed space.limits r.hosts.value) space.limits r.number (state r.began.value) r.start.value.view.seen v.state r.desk.view running r.entries.items (all_logs r.trees.items) (roots_of r.trees.items) (map (kid_of setting state) cs)) (sym kids)
              (subst (λ (ts : List (List ThreadLog)). Goes (source x) objects (allowed space.limits r.hosts.value) space.limits r.number (state r.began.value) r.start.value.view.seen v.state r.desk.view running r.entries.items (all_logs ts) (roots_of ts) []) (sym trees)
              (subst (λ (es : List Entry). Goes (source x) objects (allowed space.limits r.hosts.value) space.limits r.number (state r.began.value) r.start.value.view.seen v.state r.desk.view running es [] [] []) (sym entries)
              (subst (λ (s : Source). Goes (source x) objects (allowed space.limits r.hosts.value) space.limits r.number s r.start.value.view.seen v.state r.desk.view running [] [] [] []) (sym (ap state is_began))
              (subst (λ (n : ℕ). Goes (source x) objects (allowed space.limits r.hosts.value) space.limits r.number v.state n v.state r.desk.view running [] [] [] []) (sym (ap (λ (d : DeskView). d.view.seen) is_start ∙ same_seen))
              (subst G (sym f.new) (goes_nowhere objects (allowed space.limits r.hosts.value) space.limits r.number f.stamp (source x) v.state f.told (omega (arith, unbegun))))))));
          promised = subst (λ cs. All (λ (c : Child T). IsPromised setting state space r.hosts.value x r.number c.handle.promise) cs) (sym kids) (All-nil _);
          children = rw (entries, kids, trees, childless) (record {
            covered = λ c h. absurd h;
            of_kids = λ k g h s. absurd h;
            of_roots = λ l g h s. absurd h;
            drawn_all = λ e c h is. absurd h;
            drawn_kids = λ k h. absurd h;
            drawn_roots = λ l h. absurd h;
          });
          returns = subst (λ ls. All (TreeReturns x) ls) (sym trees) (All-nil _);
          room = omega (arith, no_trees, no_kids);
        };
      }

  module _ (r : Running T) (b : Begun T) (q : IsBegun setting state space b r) where
    abbrev all_kids : List (Kid Source)
    all_kids = kids_of setting state r ++ begun_kid setting state b ∷ []

    -- a child that was started is kept with its handle
    pub keeps_child : (ks : Vec (Child T) Global) (k : Child T) → ks.items ≡ r.kids.items ++ k ∷ [] → vec_len ks ≡ vec_len r.kids + 1 → IsPromiseOf setting state space r.hosts.value r.number b k.handle.promise
        → GoesOn setting state space (record r { kids = ks })
    keeps_child ks k items len p =
        let x : Setting = setting r.machine in
        let g = q.going in
        let same : begun_kid setting state b ≡ kid_of setting state k = λ i. record { number = sym p.number_is i; function = sym p.function_is i; first = state (sym p.machine_is i); seen = (sym p.desk_is i).view.seen } in
        let kids : all_kids ≡ map (kid_of setting state) ks.items =
        ap (λ (y : Kid Source). kids_of setting state r ++ y ∷ []) same ∙ (sym (map-append (kid_of setting state) r.kids.items (k ∷ [])) ∙ ap (map (kid_of setting state)) (sym items)) in
        let promised : IsPromised setting state space r.hosts.value x r.number k.handle.promise = record {
          limits_are = p.limits_are;
          hosts_are = p.hosts_are;
          setting_is = ap setting p.machine_is ∙ q.same_setting;
          parent_is = p.parent_is;
          own = ap (λ (d : DeskView). d.table) p.desk_is ∙ q.first.own;
        } in
        record {
          ready = q.ready;
          going = record {
            own = g.own;
            start_own = g.start_own;
            same_setting = g.same_setting;
            runnable = g.runnable;
            kept = g.kept;
            goes = subst (λ l. Goes (source x) objects (allowed space.limits r.hosts.value) space.limits r.number (state r.began.value) r.start.value.view.seen (state r.machine) r.desk.view running r.entries.items (below_of setting state r) (own_roots_of setting state r) l) kids g.goes;
            promised = subst (λ cs. All (λ (c : Child T). IsPromised setting state space r.hosts.value x r.number c.handle.promise) cs) (sym items) (All-push (λ (c : Child T). IsPromised setting state space r.hosts.value x r.number c.handle.promise) r.kids.items k g.promised promised);
            children = subst (λ l. IsOfChildren r.entries.items (state r.machine).started r.desk.view.threads.own l (own_roots_of setting state r)) kids g.children;
            returns = g.returns;
            room = let a = q.room in omega (arith, len, a);
          };
        }

    takes : Takes all_kids (begun_kid setting state b) (kids_of setting state r)
    takes = takes_last (kid_of setting state) (kids_of setting state r) (begun_kid setting state b)

    module _ (child : DeskView) (t : List ThreadLog) (answer : IsAnswer space.limits r.hosts.value b.number (Some r.number) b.function (view_of setting state b.machine) b.desk t child) where
      -- the child's name is out
      pub child_out : Contains r.desk.view.outs child.view.name
      child_out = (may_join setting state space r running (view_of setting state r.machine) all_kids (kids_of setting state r) b.number b.function (view_of setting state b.machine) b.desk child t takes answer q.same_setting q.going).2

      -- a child that was run here is taken in
      pub takes_child : (d : DeskView) (ts : Vec (List ThreadLog) Global) → d ≡ record { table = r.desk.table; view = joins r.desk.view child.view } → ts.items ≡ r.trees.items ++ t ∷ [] → vec_len ts ≡ vec_len r.trees + 1 → vec_capacity ts ≡ vec_capacity r.trees
          → GoesOn setting state space (record r { desk = d; trees = ts })
      takes_child d ts is items len room = record {
        ready = ready_joined setting state space r running (view_of setting state r.machine) all_kids (kids_of setting state r) b.number b.function (view_of setting state b.machine) b.desk child t takes answer q.same_setting q.going d is q.ready;
        going = joined_goes setting state space r running (view_of setting state r.machine) all_kids (kids_of setting state r) b.number b.function (view_of setting state b.machine) b.desk child t takes answer q.same_setting q.going d r.kids ts is items q.going.promised
            (let a = q.room in omega (arith, len, room, a));
      }

  -- the answer
  empty_kids : (r : Running T) → vec_len r.kids ≡ 0 → r.kids.items ≡ []
  empty_kids r none = by r.kids.items (let same = r.kids.ok in omega (arith, none, same))
    where
      by : (xs : List (Child T)) → length xs ≡ 0 → xs ≡ []
      by [] is = refl
      by (x ∷ xs) is = absurd (omega (arith, is))

  pub answers : (r : Running T) (why : End) (parent : Option ThreadNo) (log : ThreadLog) (t : List ThreadLog) → HasEnded setting state space why r → vec_len r.kids ≡ 0
      → log ≡ record { number = r.number; parent = parent; entry_function = r.function; entries = r.entries.items; instructions = (state r.machine).count; last = source_site (state r.machine); «end» = why }
      → t ≡ log ∷ all_logs r.trees.items → IsAnswer space.limits r.hosts.value r.number parent r.function (view_of setting state r.began.value) r.start.value t r.desk
  answers r why parent log t e none is is_t =
      let v : ThreadView = view_of setting state r.machine in
      let x : Setting = setting r.began.value in
      let g = e.going in
      let A = allowed space.limits r.hosts.value in
      let goes : Goes (source x) objects A space.limits r.number (state r.began.value) r.start.value.view.seen v.state r.desk.view e.over r.entries.items (below_of setting state r) (own_roots_of setting state r) [] =
      subst (λ (y : Setting). Goes (source y) objects A space.limits r.number (state r.began.value) r.start.value.view.seen v.state r.desk.view e.over r.entries.items (below_of setting state r) (own_roots_of setting state r) []) (sym g.same_setting)
      (subst (λ ks. Goes (source v.setting) objects A space.limits r.number (state r.began.value) r.start.value.view.seen v.state r.desk.view e.over r.entries.items (below_of setting state r) (own_roots_of setting state r) ks) (ap (map (kid_of setting state)) (empty_kids r none)) g.goes) in
      let of : IsLogOf (source x) r.number parent r.function v.state e.over.«end» r.entries.items log = record {
        number_is = ap (λ (l : ThreadLog). l.number) is;
        parent_is = ap (λ (l : ThreadLog). l.parent) is;
        function_is = ap (λ (l : ThreadLog). l.entry_function) is;
        entries_are = ap (λ (l : ThreadLog). l.entries) is;
        count = ap (λ (l : ThreadLog). l.instructions) is;
        site = ap (λ (l : ThreadLog). l.last) is;
        end_is = ap (λ (l : ThreadLog). l.«end») is ∙ sym e.over_is;
      } in
      let stops : EndsAs (source x) space.limits v.state e.over.«end» = subst (λ (y : Setting). EndsAs (source y) space.limits v.state e.over.«end») (sym g.same_setting) (subst (λ (o : End). EndsAs (source v.setting) space.limits v.state o) (sym e.over_is) e.ends) in
      let fits : EndFits x log.entry_function log.«end» = subst (λ (y : Setting). EndFits y log.entry_function log.«end») (sym g.same_setting)
      (subst (λ (l : ThreadLog). EndFits v.setting l.entry_function l.«end») (sym is) e.fits) in
      subst (λ ls. IsAnswer space.limits r.hosts.value r.number parent r.function (view_of setting state r.began.value) r.start.value ls r.desk) (sym is_t) (record {
        own = g.own ∙ sym g.start_own;
        idle_allocs = e.over.allocs ++ goes.idle_allocs;
        idle_threads = e.over.threads ++ goes.idle_threads;
        tree = goes_end (source x) objects A space.limits r.number parent r.function (state r.began.value) r.start.value.view.seen v.state r.desk.view e.over r.entries.items (below_of setting state r) (own_roots_of setting state r) log of goes stops (λ c at. e.joined c (sym e.over_is ∙ at));
        desk = desk_ends (source x) objects A space.limits r.number parent r.function (state r.began.value) r.start.value.view.seen v.state r.desk.view e.over r.entries.items (below_of setting state r) (own_roots_of setting state r) log of goes;
        returns = fits;
      })
