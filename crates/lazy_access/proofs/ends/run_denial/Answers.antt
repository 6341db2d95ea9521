use Rattle.std.proofs.Common.{◌≡◌, ◌-◌, Some, false, List, length, sym, ap, subst, ◌∙◌, arith}
use Rattle.eager_tree.specs.Steps.{implicit_kind}
use Rattle.lazy_tree.specs.declared.slot.Slot.{Slot}
use Rattle.lazy_tree.specs.declared.tree.Node.{Node}
use Rattle.lazy_tree.specs.Shape.{Shape}
use Rattle.lazy_tree.specs.Eager.{eager_cell}
use Rattle.lazy_access.specs.Walk.{IsMet, Finds}
use Rattle.lazy_access.specs.Requests.{local_in}
use Rattle.lazy_access.specs.Ends.{end_kind, FindsEnd}
use Rattle.lazy_access.proofs.Ending.{run-found}
use Rattle.lazy_access.proofs.ends.run_denial.Goals as goal

pub returns-in-Some-clause-found : goal.returns-in-Some-clause-found
returns-in-Some-clause-found c =
    let nodes : List Node = c.args.tree.now.nodes in
    let same : c.read_slot.new.self.nodes ≡ nodes = ap (λ (t : Shape). t.nodes) c.read_slot.ensures.tree in
    let is : end_kind nodes c.args.x c.args.at ≡ Some c.in-Some.kind = ap (λ (s : Slot). implicit_kind (eager_cell s)) (sym c.read_slot.ensures.slot) ∙ sym c.implicit.ensures ∙ c.in-Some.is in
    subst (λ end. FindsEnd nodes c.args.x c.args.at end c.denial.result) c.run_end.ensures.next
    (run-found c.args.tree.now.size nodes c.args.x c.args.at c.run_end.result c.in-Some.kind _ c.denial.result c.soundness.ensures.sound c.run_end.ensures.uniform is (omega arith) (omega (arith, c.run_end.ensures.after))
    (subst (λ (ns : List Node). Finds ns (local_in ns c.args.x) c.in-Some.kind (record { start = c.args.at; len = c.run_end.result - c.args.at }) (IsMet ns c.args.x false (length ns)) c.denial.result) same c.denial.ensures.found))
