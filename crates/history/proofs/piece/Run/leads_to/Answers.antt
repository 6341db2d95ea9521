use Rattle.std.proofs.Common.{sym, ◌∙◌, ◌≡◌, arith, eqb, ◌-◌}
use Rattle.std.proofs.lemmas.Bool.{eqb-true, and_parts}
use Rattle.history.proofs.Runs.{run_of-next}
use Rattle.history.proofs.piece.Run.leads_to.Goals as goal

pub returns-then-next-first-clause-longer : goal.returns-then-next-first-clause-longer
returns-then-next-first-clause-longer c = λ same.
    let first = c.in-Some-Some.first in
    let next = c.in-Some-Some.next in
    let len = c.args.self.now.len in
    let parts = and_parts (eqb next.prov.alloc.0 first.prov.alloc.0) (eqb next.prov.tag.0 first.prov.tag.0) (sym c.eq.ensures ∙ c.if-next-first.true.0) in
    let apart : next.index - first.index ≡ len = eqb-true (next.index - first.index) len same in
    rw (c.in-Some-Some.is-0, c.in-Some-Some.is-1) (run_of-next len first next (eqb-true next.prov.alloc.0 first.prov.alloc.0 parts.0) (eqb-true next.prov.tag.0 first.prov.tag.0 parts.1) (omega (arith, c.if-next-first.true.1)))
