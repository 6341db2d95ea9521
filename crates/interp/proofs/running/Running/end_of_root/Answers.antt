use Rattle.std.proofs.Common.{◌≡◌, ap, sym, ◌∙◌, subst, refl, arith, inl, [], ◌∷◌, get_or, List}
use Rattle.history.specs.declared.log.ThreadLog.{ThreadLog}
use Rattle.runs.specs.Parts.{Has}
use Rattle.interp.specs.Flatten.{root_of}
use Rattle.interp.proofs.Joining.{root_at, root_among, place_within, any_default, tested_number}
use Rattle.interp.proofs.running.Running.end_of_root.Goals as goal

pub returns-then-eq-clause-some : goal.returns-then-eq-clause-some
returns-then-eq-clause-some g c =
    let ts = c.args.self.now.trees in
    let log = c.behind-self.inside.log in
    let at = place_within ts c.loop-at.at (omega (arith, c.loop-at-test.true, c.len-at-end.ensures)) in
    let root : root_of (get_or ts.items c.loop-at.at []) ≡ log ∷ [] = ap root_of (any_default ts.items c.loop-at.at [] c.index.result.now at ∙ (sym c.index.ensures ∙ sym c.behind-self.view_is)) in
    (log, root_among ts.items c.loop-at.at log at (subst (λ (l : List ThreadLog). Has l log) (sym root) (inl refl)), tested_number log.number c.args.child (sym c.eq.ensures ∙ c.if-eq.true), refl)

pub returns-clause-none : goal.returns-clause-none
returns-clause-none g c = λ log h same.
    let ts = c.args.self.now.trees in
    let r = root_at ts.items log h in
    c.loop-at.invariant r.0 log (let a = r.1 in let b = ts.ok in omega (arith, a, b, c.loop-at-test.false, c.len-at-end.ensures)) r.2 same
