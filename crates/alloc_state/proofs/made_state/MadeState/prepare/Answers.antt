use Rattle.std.proofs.Common.{◌≡◌, ◌≤◌, Bool, Result, Ok, Err, OnErr, IfOk, ap, sym, subst, ◌∙◌}
use Rattle.history.specs.declared.entry.Verdict.{Verdict}
use Rattle.history.specs.Objects.{Made}
use Rattle.eager_tree.specs.Tree.{Tree}
use Rattle.lazy_tree.specs.Shape.{Shape}
use Rattle.lazy_tree.specs.Eager.{eager_of}
use Rattle.lazy_tree.specs.Quiet.{KeepsQuiet, KeepsCuts}
use Rattle.lazy_access.specs.declared.request.TreeRequest.{TreeRequest}
use Rattle.lazy_access.specs.Ready.{IsWithinRing}
use Rattle.alloc_state.specs.Asking.{asked}
use Rattle.alloc_state.specs.Counted.{IsIdle}
use Rattle.alloc_state.specs.PlainValues.{PlainValue}
use Rattle.alloc_state.specs.MadeValues.{MadeValue, made_of, KeepsPrepared}
use Rattle.alloc_state.proofs.Answering.{keeps-prepared}
use Rattle.alloc_state.proofs.made_state.MadeState.prepare.Goals as goal

on-err : {A E : Type 0} (P : Type 0) (r : Result A E) → P → OnErr r P
on-err P (Ok a) h = tt
on-err P (Err e) h = h

-- the allocation is the same
abbrev made-by : PlainValue → Tree → Bool → Made
made-by p t closed = record { memory = p.memory; shadow = p.shadow; tree = t; closed = closed }

pub returns-in_err-prepare-clause-err : goal.returns-in_err-prepare-clause-err
returns-in_err-prepare-clause-err c =
    let v : MadeValue = record { plain = c.self.inside.plain; tree = c.self.inside.tree; closed = c.self.inside.closed } in
    let w : MadeValue = record { plain = c.reserve.new.self; tree = c.prepare.new.tree; closed = c.self.inside.closed } in
    let same : made_of w ≡ made_of v =
    ap (λ (p : PlainValue). made-by p (eager_of c.prepare.new.tree) c.self.inside.closed) c.reserve.ensures.same
    ∙ ap (λ (t : Tree). made-by c.self.inside.plain t c.self.inside.closed) c.prepare.ensures.same in
    subst (λ (u : MadeValue). OnErr c.from_residual-in_err-prepare.result (KeepsPrepared c.args.number.0 u w)) c.self.view_is
    (on-err (KeepsPrepared c.args.number.0 v w) c.from_residual-in_err-prepare.result
    (keeps-prepared c.args.number.0 v w same c.reserve.ensures.grows c.prepare.ensures.size c.in_err-prepare.ensures.kept))

pub returns-in_err-prepare-clause-taken : goal.returns-in_err-prepare-clause-taken
returns-in_err-prepare-clause-taken c =
    let tree : c.self.inside.tree ≡ c.args.self.now.tree = ap (λ (v : MadeValue). v.tree) c.self.view_is in
    let asks : Ok c.in-Ok.asked ≡ asked c.args.number.0 (made_of c.args.self.now) c.args.request.now =
    sym c.in-Ok.is
    ∙ c.asks-asks.ensures
    ∙ ap (λ (p : PlainValue). asked c.args.number.0 (made-by p (eager_of c.self.inside.tree) c.self.inside.closed) c.args.request.now) c.reserve.ensures.same
    ∙ ap (λ (v : MadeValue). asked c.args.number.0 (made_of v) c.args.request.now) c.self.view_is in
    record {
      size = subst (λ (t : Shape). c.prepare.new.tree.size ≡ t.size) tree c.prepare.ensures.size;
      rises = subst (λ (t : Shape). t.visits ≤ c.prepare.new.tree.visits) tree c.prepare.ensures.rises;
      idle = subst (λ (a : Result TreeRequest Verdict). IsIdle a c.args.self.now.tree c.prepare.new.tree) asks tt;
      ring = subst (λ (a : Result TreeRequest Verdict). IfOk a (IsWithinRing c.args.self.now.tree c.prepare.new.tree)) asks (subst (λ (t : Shape). IsWithinRing t c.prepare.new.tree c.in-Ok.asked) tree c.prepare.ensures.ring);
      quiet = subst (λ (t : Shape). KeepsQuiet t c.prepare.new.tree) tree c.prepare.ensures.quiet;
      cuts = subst (λ (t : Shape). KeepsCuts t c.prepare.new.tree) tree c.prepare.ensures.cuts;
    }

pub returns-in_ok-prepare-clause-taken : goal.returns-in_ok-prepare-clause-taken
returns-in_ok-prepare-clause-taken c =
    let tree : c.self.inside.tree ≡ c.args.self.now.tree = ap (λ (v : MadeValue). v.tree) c.self.view_is in
    let asks : Ok c.in-Ok.asked ≡ asked c.args.number.0 (made_of c.args.self.now) c.args.request.now =
    sym c.in-Ok.is
    ∙ c.asks-asks.ensures
    ∙ ap (λ (p : PlainValue). asked c.args.number.0 (made-by p (eager_of c.self.inside.tree) c.self.inside.closed) c.args.request.now) c.reserve.ensures.same
    ∙ ap (λ (v : MadeValue). asked c.args.number.0 (made_of v) c.args.request.now) c.self.view_is in
    record {
      size = subst (λ (t : Shape). c.prepare.new.tree.size ≡ t.size) tree c.prepare.ensures.size;
      rises = subst (λ (t : Shape). t.visits ≤ c.prepare.new.tree.visits) tree c.prepare.ensures.rises;
      idle = subst (λ (a : Result TreeRequest Verdict). IsIdle a c.args.self.now.tree c.prepare.new.tree) asks tt;
      ring = subst (λ (a : Result TreeRequest Verdict). IfOk a (IsWithinRing c.args.self.now.tree c.prepare.new.tree)) asks (subst (λ (t : Shape). IsWithinRing t c.prepare.new.tree c.in-Ok.asked) tree c.prepare.ensures.ring);
      quiet = subst (λ (t : Shape). KeepsQuiet t c.prepare.new.tree) tree c.prepare.ensures.quiet;
      cuts = subst (λ (t : Shape). KeepsCuts t c.prepare.new.tree) tree c.prepare.ensures.cuts;
    }
