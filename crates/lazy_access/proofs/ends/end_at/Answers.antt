use Rattle.std.proofs.Common.{◌≡◌, ◌<◌, true, Some, None, List, length, Option, sym, ap, subst, ◌∙◌, arith}
use Rattle.eager_tree.specs.declared.violation.Violation.{Violation}
use Rattle.eager_tree.specs.Tree.{Tree}
use Rattle.lazy_tree.specs.declared.tree.Node.{Node}
use Rattle.lazy_tree.specs.Shape.{Shape}
use Rattle.lazy_tree.specs.Skip.{IsSound}
use Rattle.lazy_tree.specs.Eager.{eager_of, eager_with}
use Rattle.lazy_access.specs.declared.check.Found.{Found}
use Rattle.lazy_access.specs.Requests.{violation_in}
use Rattle.lazy_access.specs.Ends.{FindsEnd, NoEndDenial, IsEnded, HasEndRoom}
use Rattle.lazy_access.proofs.Ended.{end-denied, end-clean}
use Rattle.lazy_tree.specs.Ring.{is_cut}
use Rattle.lazy_access.proofs.Ringing.{cut-freed}
use Rattle.lazy_access.proofs.ends.end_at.Goals as goal

pub end_runs-requires-clause-allowed : goal.end_runs-requires-clause-allowed
end_runs-requires-clause-allowed c =
    let t = c.args.tree.now in
    let found : FindsEnd t.nodes c.args.x 0 t.size None = subst (λ (o : Option Found). FindsEnd t.nodes c.args.x 0 t.size o) c.in-None.is c.end_denial.ensures.found in
    subst (λ (s : Shape). NoEndDenial s.nodes c.args.x 0 s.size) (sym c.end_denial.ensures.tree) found

pub end_runs-requires-clause-room : goal.end_runs-requires-clause-room
end_runs-requires-clause-room c = subst (λ (s : Shape). HasEndRoom s.size s.nodes c.args.x) (sym c.end_denial.ensures.tree) c.requires.room

pub returns-in-Some-clause-answer : goal.returns-in-Some-clause-answer
returns-in-Some-clause-answer c =
    let t = c.args.tree.now in
    let f : Found = c.in-Some.found in
    let found : FindsEnd t.nodes c.args.x 0 t.size (Some f) = subst (λ (o : Option Found). FindsEnd t.nodes c.args.x 0 t.size o) c.in-Some.is c.end_denial.ensures.found in
    let nodes : c.end_denial.new.tree.nodes ≡ t.nodes = ap (λ (s : Shape). s.nodes) c.end_denial.ensures.tree in
    ap (λ (o : Option Violation). (let p : Option Violation × Tree = (o, eager_of c.end_denial.new.tree) in p)) (c.violation_of.ensures ∙ ap (λ (ns : List Node). violation_in ns (Some f)) nodes)
    ∙ ap (λ (s : Shape). (let p : Option Violation × Tree = (violation_in t.nodes (Some f), eager_of s) in p)) c.end_denial.ensures.tree
    ∙ end-denied t.root t.size t.nodes c.args.x f c.soundness.ensures.sound c.requires.node found

pub returns-in-None-clause-answer : goal.returns-in-None-clause-answer
returns-in-None-clause-answer c =
    let t = c.args.tree.now in
    let found : NoEndDenial t.nodes c.args.x 0 t.size = subst (λ (o : Option Found). FindsEnd t.nodes c.args.x 0 t.size o) c.in-None.is c.end_denial.ensures.found in
    let root : c.set_free.new.self.root ≡ t.root = ap (λ (s : Shape). s.root) c.set_free.ensures.tree ∙ ap (λ (s : Shape). s.root) c.end_runs.ensures.tree ∙ ap (λ (s : Shape). s.root) c.end_denial.ensures.tree in
    let mid : c.end_runs.new.tree.size ≡ t.size = ap (λ (s : Shape). s.size) c.end_runs.ensures.tree ∙ ap (λ (s : Shape). s.size) c.end_denial.ensures.tree in
    let size : c.set_free.new.self.size ≡ t.size = ap (λ (s : Shape). s.size) c.set_free.ensures.tree ∙ mid in
    let ended : IsEnded t.size t.nodes c.end_runs.new.tree.nodes c.args.x 0 t.size = subst (λ (s : Shape). IsEnded s.size s.nodes c.end_runs.new.tree.nodes c.args.x 0 s.size) c.end_denial.ensures.tree c.end_runs.ensures.ended in
    ap (λ r. (let p : Option Violation × Tree = (None, eager_with r c.set_free.new.self.size c.set_free.new.self.nodes) in p)) root
    ∙ ap (λ s. (let p : Option Violation × Tree = (None, eager_with t.root s c.set_free.new.self.nodes) in p)) size
    ∙ end-clean t.root t.size t.nodes c.end_runs.new.tree.nodes c.set_free.new.self.nodes c.args.x c.soundness.ensures.sound (subst (λ s. IsSound s c.end_runs.new.tree.nodes) mid c.soundness-in-None.ensures.sound) c.requires.node found ended
    (ap (λ (s : Shape). s.nodes) c.set_free.ensures.tree)

pub returns-in-Some-clause-cuts : goal.returns-in-Some-clause-cuts
returns-in-Some-clause-cuts c = λ s lt e. subst (λ (t : Shape). is_cut t.nodes s ≡ true) c.end_denial.ensures.tree e

pub returns-in-None-clause-cuts : goal.returns-in-None-clause-cuts
returns-in-None-clause-cuts c = λ s lt e.
    let t = c.args.tree.now in
    let size : c.end_denial.new.tree.size ≡ t.size = ap (λ (s : Shape). s.size) c.end_denial.ensures.tree in
    let same : c.end_denial.new.tree.nodes ≡ t.nodes = ap (λ (s : Shape). s.nodes) c.end_denial.ensures.tree in
    let there : c.args.x < length c.end_runs.new.tree.nodes = (let n = c.end_runs.ensures.ended.links.count in omega (arith, n, c.requires.node, ap length same)) in
    subst (λ (ns : List Node). is_cut ns s ≡ true) same
    (c.end_runs.ensures.cuts s (omega (arith, lt, size)) (cut-freed c.end_runs.new.tree.nodes c.args.x s there (subst (λ (ns : List Node). is_cut ns s ≡ true) (ap (λ (s : Shape). s.nodes) c.set_free.ensures.tree) e)))
