use Rattle.std.proofs.Common.{◌≡◌, ◌-◌, Some, None, false, List, length, refl, sym, ap, subst, ◌∙◌, arith}
use Rattle.bsan_ids.specs.declared.numbers.Span.{Span}
use Rattle.eager_tree.specs.Steps.{implicit_kind}
use Rattle.lazy_tree.specs.declared.slot.Slot.{Slot}
use Rattle.lazy_tree.specs.declared.tree.Node.{Node}
use Rattle.lazy_tree.specs.Shape.{Shape}
use Rattle.lazy_tree.specs.Eager.{eager_cell}
use Rattle.lazy_access.specs.Walk.{IsMet, Finds}
use Rattle.lazy_access.specs.Change.{IsDone}
use Rattle.lazy_access.specs.Requests.{local_in, HasCuts}
use Rattle.lazy_access.specs.Ends.{end_kind, IsEnded, NoEndDenial, HasEndRoomOn}
use Rattle.lazy_access.proofs.Ending.{run-cuts, run-silent, run-ended}
use Rattle.lazy_access.proofs.ends.end_run.Goals as goal

pub visit-requires-clause-cuts : goal.visit-requires-clause-cuts
visit-requires-clause-cuts c =
    let nodes : List Node = c.args.tree.now.nodes in
    let same : c.read_slot.new.self.nodes ≡ nodes = ap (λ (t : Shape). t.nodes) c.read_slot.ensures.tree in
    let is : end_kind nodes c.args.x c.args.at ≡ Some c.in-Some.kind = ap (λ (s : Slot). implicit_kind (eager_cell s)) (sym c.read_slot.ensures.slot) ∙ sym c.implicit.ensures ∙ c.in-Some.is in
    let span : Span = record { start = c.args.at; len = c.run_end.result - c.args.at } in
    subst (λ (ns : List Node). HasCuts c.read_slot.new.self.size ns c.args.x false span c.in-Some.kind) (sym same)
    (run-cuts c.read_slot.new.self.size nodes c.args.x c.args.at c.run_end.result c.in-Some.kind span c.run_end.ensures.uniform c.run_end.ensures.after is refl (omega (arith, c.run_end.ensures.after))
    (subst (λ end. HasEndRoomOn nodes c.args.x c.args.at end 2) (sym c.run_end.ensures.next) c.requires.room))

-- the access was done
done : (c : goal.After-visit) → IsDone c.args.tree.now.size c.args.tree.now.nodes c.visit.new.tree.nodes (local_in c.args.tree.now.nodes c.args.x) c.args.x false c.in-Some.kind (record { start = c.args.at; len = c.run_end.result - c.args.at })
done c =
    let nodes : List Node = c.args.tree.now.nodes in
    let same : c.read_slot.new.self.nodes ≡ nodes = ap (λ (t : Shape). t.nodes) c.read_slot.ensures.tree in
    let size : c.read_slot.new.self.size ≡ c.args.tree.now.size = ap (λ (t : Shape). t.size) c.read_slot.ensures.tree in
    let is : end_kind nodes c.args.x c.args.at ≡ Some c.in-Some.kind = ap (λ (s : Slot). implicit_kind (eager_cell s)) (sym c.read_slot.ensures.slot) ∙ sym c.implicit.ensures ∙ c.in-Some.is in
    let span : Span = record { start = c.args.at; len = c.run_end.result - c.args.at } in
    let found : Finds nodes (local_in nodes c.args.x) c.in-Some.kind span (IsMet nodes c.args.x false (length nodes)) c.visit.result =
    subst (λ (ns : List Node). Finds ns (local_in ns c.args.x) c.in-Some.kind span (IsMet ns c.args.x false (length ns)) c.visit.result) same c.visit.ensures.found in
    let none : c.visit.result ≡ None = run-silent nodes c.args.x c.args.at c.run_end.result c.in-Some.kind span c.visit.result c.run_end.ensures.uniform is refl (omega (arith, c.run_end.ensures.after))
    (subst (λ end. NoEndDenial nodes c.args.x c.args.at end) (sym c.run_end.ensures.next) c.requires.allowed) found in
    subst (λ s. IsDone s nodes c.visit.new.tree.nodes (local_in nodes c.args.x) c.args.x false c.in-Some.kind span) size
    (subst (λ (ns : List Node). IsDone c.read_slot.new.self.size ns c.visit.new.tree.nodes (local_in ns c.args.x) c.args.x false c.in-Some.kind span) same (c.visit.ensures.done none))

pub returns-in-Some-clause-ended : goal.returns-in-Some-clause-ended
returns-in-Some-clause-ended c =
    let nodes : List Node = c.args.tree.now.nodes in
    let is : end_kind nodes c.args.x c.args.at ≡ Some c.in-Some.kind = ap (λ (s : Slot). implicit_kind (eager_cell s)) (sym c.read_slot.ensures.slot) ∙ sym c.implicit.ensures ∙ c.in-Some.is in
    subst (λ end. IsEnded c.args.tree.now.size nodes c.visit.new.tree.nodes c.args.x c.args.at end) c.run_end.ensures.next
    (run-ended c.args.tree.now.size nodes c.visit.new.tree.nodes c.args.x c.args.at c.run_end.result c.in-Some.kind (record { start = c.args.at; len = c.run_end.result - c.args.at }) c.run_end.ensures.uniform is refl (omega (arith, c.run_end.ensures.after)) (done c))
