-- A thread that took memory is the thread that it was.
use Rattle.std.proofs.Common.{◌≡◌, ℕ, List, ap, sym, ◌∙◌, subst, All, map}
use Rattle.history.specs.declared.entry.Entry.{Entry}
use Rattle.ir_ast.specs.declared.hosts.HostTable.{HostTable}
use Rattle.run_record.specs.Flatten.{all_logs}
use Rattle.runs.specs.Objects.{objects}
use Rattle.source_sem.specs.Records.{allowed}
use Rattle.source_sem.specs.Source.{Setting, Source, source}
use Rattle.turn_lock.specs.Plays.{DeskView}
use Rattle.alloc_space.specs.Spaces.{SpaceView}
use Rattle.interp.specs.declared.child.Child.{Child}
use Rattle.interp.specs.declared.running.Running.{Running}
use Rattle.interp.specs.Desks.{running, IsReady}
use Rattle.interp.specs.Flatten.{roots_of}
use Rattle.interp.specs.Goes.{Goes}
use Rattle.interp.specs.Running.{IsOfChildren, IsPromised, view_of, kid_of, kids_of, below_of, own_roots_of, IsGoingAs, GoesOn, IsReserved}
use Rattle.instr_sound.specs.Mains.{IsRunnable}
use Rattle.interp.specs.Views.{ThreadView, IsKept, TreeReturns}

module _ {T : Type 0} (setting : T → Setting) (state : T → Source) (space : SpaceView) (r q : Running T) (s : IsReserved setting state r q) where
  pub reserved_goes : GoesOn setting state space r → GoesOn setting state space q
  reserved_goes on =
      let g = on.going in
      let v : ThreadView = view_of setting state r.machine in
      let kids : kids_of setting state r ≡ kids_of setting state q = ap (map (kid_of setting state)) (sym s.kids) in
      let below : below_of setting state r ≡ below_of setting state q = ap all_logs (sym s.trees) in
      let roots : own_roots_of setting state r ≡ own_roots_of setting state q = ap roots_of (sym s.trees) in
      record {
        ready = subst (λ (d : DeskView). IsReady space.limits d.view) (sym s.desk) on.ready;
        going = subst (λ (w : ThreadView). IsGoingAs setting state space running w (kids_of setting state q) q) (sym s.machine) (record {
          own = ap (λ (d : DeskView). d.table) s.desk ∙ g.own;
          start_own = ap (λ (d : DeskView). d.table) s.start ∙ g.start_own;
          same_setting = ap setting s.began ∙ g.same_setting;
          runnable = subst (λ (h : HostTable). IsRunnable v.setting h) (sym s.hosts) g.runnable;
          kept = subst (λ (es : List Entry). IsKept v.setting es q.function v.state) (sym s.entries) (subst (λ (f : ℕ). IsKept v.setting r.entries.items f v.state) (sym s.function) g.kept);
          goes = rw (s.number, s.began, s.start, s.desk, s.entries, s.hosts)
              (subst (λ ks. Goes (source v.setting) objects (allowed space.limits r.hosts.value) space.limits r.number (state r.began.value) r.start.value.view.seen v.state r.desk.view running r.entries.items (below_of setting state q) (own_roots_of setting state q) ks) kids
              (subst (λ ls. Goes (source v.setting) objects (allowed space.limits r.hosts.value) space.limits r.number (state r.began.value) r.start.value.view.seen v.state r.desk.view running r.entries.items (below_of setting state q) ls (kids_of setting state r)) roots
              (subst (λ ls. Goes (source v.setting) objects (allowed space.limits r.hosts.value) space.limits r.number (state r.began.value) r.start.value.view.seen v.state r.desk.view running r.entries.items ls (own_roots_of setting state r) (kids_of setting state r)) below g.goes)));
          promised = subst (λ (h : HostTable). All (λ (c : Child T). IsPromised setting state space h v.setting q.number c.handle.promise) q.kids.items) (sym s.hosts)
              (subst (λ n. All (λ (c : Child T). IsPromised setting state space r.hosts.value v.setting n c.handle.promise) q.kids.items) (sym s.number)
              (subst (λ cs. All (λ (c : Child T). IsPromised setting state space r.hosts.value v.setting r.number c.handle.promise) cs) (sym s.kids) g.promised));
          children = subst (λ (es : List Entry). IsOfChildren es v.state.started q.desk.view.threads.own (kids_of setting state q) (own_roots_of setting state q)) (sym s.entries)
              (subst (λ (d : DeskView). IsOfChildren r.entries.items v.state.started d.view.threads.own (kids_of setting state q) (own_roots_of setting state q)) (sym s.desk)
              (subst (λ ls. IsOfChildren r.entries.items v.state.started r.desk.view.threads.own (kids_of setting state q) ls) roots
              (subst (λ ks. IsOfChildren r.entries.items v.state.started r.desk.view.threads.own ks (own_roots_of setting state r)) kids g.children)));
          returns = subst (λ ls. All (TreeReturns v.setting) ls) (sym s.trees) g.returns;
          room = s.tree_room g.room;
        });
      }
