use Rattle.std.proofs.Common.{◌≡◌, true, List, length, Option, Some, None, sym, ap, subst, ◌∙◌, arith, inl, inr}
use Rattle.bsan_ids.specs.declared.numbers.Tag.{Tag}
use Rattle.perm_table.specs.declared.Kind.TheVariants.{Write}
use Rattle.eager_tree.specs.declared.violation.Violation.{Violation}
use Rattle.eager_tree.specs.declared.violation.Violation.TheVariants.{Denied, StrongFree}
use Rattle.eager_tree.specs.Tree.{Tree}
use Rattle.eager_tree.specs.Steps.{access}
use Rattle.lazy_tree.specs.declared.tree.Node.{Node}
use Rattle.lazy_tree.specs.Shape.{Shape}
use Rattle.lazy_tree.specs.Skip.{node_at}
use Rattle.lazy_tree.specs.Eager.{eager_of, eager_with}
use Rattle.lazy_access.specs.declared.check.Found.{Found}
use Rattle.lazy_access.specs.declared.frees.Held.{Held}
use Rattle.lazy_access.specs.Walk.{IsMet, Finds}
use Rattle.lazy_access.specs.Requests.{local_in, violation_in}
use Rattle.lazy_access.specs.Held.{FindsHeld}
use Rattle.lazy_access.proofs.Accessing.{access-found, access-clean, left_by}
use Rattle.lazy_access.proofs.Freeing.{whole, free-clean, free-denied, free-held}
use Rattle.lazy_tree.specs.Ring.{is_cut}
use Rattle.lazy_access.proofs.Ringing.{cuts-added, cut-past}
use Rattle.lazy_access.proofs.frees.free_at.Goals as goal

pub returns-in-None-clause-answer : goal.returns-in-None-clause-answer
returns-in-None-clause-answer c =
    let t = c.args.tree.now in
    let before : eager_of c.first_held.new.tree ≡ eager_of t = ap eager_of c.first_held.ensures.tree in
    let nodes : c.first_held.new.tree.nodes ≡ t.nodes = ap (λ (s : Shape). s.nodes) c.first_held.ensures.tree in
    let root : c.access_at.new.tree.root ≡ t.root = ap (λ (s : Shape). s.root) c.access_at.ensures.tree ∙ ap (λ (s : Shape). s.root) c.first_held.ensures.tree in
    let size : c.access_at.new.tree.size ≡ t.size = ap (λ (s : Shape). s.size) c.access_at.ensures.tree ∙ ap (λ (s : Shape). s.size) c.first_held.ensures.tree in
    let held = subst (λ (o : Option Held). FindsHeld t.size t.nodes (length t.nodes) o) c.in-None.is c.first_held.ensures.held in
    let eager : (let p : Option Violation × Tree = (c.access_at.result, eager_of c.access_at.new.tree) in p) ≡ (let p : Option Violation × Tree = (c.access_at.result, eager_with t.root t.size c.access_at.new.tree.nodes) in p) =
    ap (λ r. (let p : Option Violation × Tree = (c.access_at.result, eager_with r c.access_at.new.tree.size c.access_at.new.tree.nodes) in p)) root
    ∙ ap (λ s. (let p : Option Violation × Tree = (c.access_at.result, eager_with t.root s c.access_at.new.tree.nodes) in p)) size in
    let done : (let p : Option Violation × Tree = (c.access_at.result, eager_with t.root t.size c.access_at.new.tree.nodes) in p) ≡ access (eager_with t.root t.size t.nodes) (node_at t.nodes c.args.x).tag (whole t.size) Write =
    ap (λ r. (let p : Option Violation × Tree = (c.access_at.result, eager_with r t.size c.access_at.new.tree.nodes) in p)) (sym (ap (λ (s : Shape). s.root) c.first_held.ensures.tree))
    ∙ ap (λ s. (let p : Option Violation × Tree = (c.access_at.result, eager_with c.first_held.new.tree.root s c.access_at.new.tree.nodes) in p)) (sym (ap (λ (s : Shape). s.size) c.first_held.ensures.tree))
    ∙ c.access_at.ensures.answer
    ∙ ap (λ e. access e (node_at c.first_held.new.tree.nodes c.args.x).tag (whole c.size.result) Write) before
    ∙ ap (λ (ns : List Node). access (eager_of t) (node_at ns c.args.x).tag (whole c.size.result) Write) nodes
    ∙ ap (λ n. access (eager_of t) (node_at t.nodes c.args.x).tag (whole n) Write) c.size.ensures in
    eager ∙ free-clean t.root t.size t.nodes c.access_at.new.tree.nodes (node_at t.nodes c.args.x).tag c.access_at.result c.soundness.ensures.sound (omega (arith, c.requires.node)) held done

pub returns-in-Some-denial-clause-answer : goal.returns-in-Some-denial-clause-answer
returns-in-Some-denial-clause-answer c =
    let t = c.args.tree.now in
    let f : Found = c.in-Some-denial.found in
    let held : c.first_held.new.tree.nodes ≡ t.nodes = ap (λ (s : Shape). s.nodes) c.first_held.ensures.tree in
    let nodes : c.denial.new.tree.nodes ≡ t.nodes = ap (λ (s : Shape). s.nodes) c.denial.ensures.tree ∙ held in
    let eager : eager_of c.denial.new.tree ≡ eager_of t = ap eager_of c.denial.ensures.tree ∙ ap eager_of c.first_held.ensures.tree in
    let size : c.size.result ≡ t.size = c.size.ensures in
    let found : Finds t.nodes (local_in t.nodes c.args.x) Write (whole t.size) (IsMet t.nodes c.args.x true (length t.nodes)) (Some f) =
    subst (λ n. Finds t.nodes (local_in t.nodes c.args.x) Write (whole n) (IsMet t.nodes c.args.x true (length t.nodes)) (Some f)) size
    (subst (λ (o : Option Found). Finds t.nodes (local_in t.nodes c.args.x) Write (whole c.size.result) (IsMet t.nodes c.args.x true (length t.nodes)) o) c.in-Some-denial.is
    (subst (λ (ns : List Node). Finds ns (local_in ns c.args.x) Write (whole c.size.result) (IsMet ns c.args.x true (length ns)) c.denial.result) held c.denial.ensures.found)) in
    let v : Violation = Denied f.offset (node_at t.nodes f.node).tag f.perm f.local in
    ap (λ (o : Option Violation). (let p : Option Violation × Tree = (o, eager_of c.denial.new.tree) in p)) (c.violation_of.ensures ∙ ap (λ (ns : List Node). violation_in ns (Some f)) nodes)
    ∙ ap (λ (e : Tree). (let p : Option Violation × Tree = (Some v, e) in p)) eager
    ∙ free-denied t.root t.size t.nodes (node_at t.nodes c.args.x).tag v (omega (arith, c.requires.node)) (access-found t.root t.size t.nodes c.args.x Write (whole t.size) f c.soundness.ensures.sound c.requires.node (omega arith) found)

pub returns-in-None-denial-clause-answer : goal.returns-in-None-denial-clause-answer
returns-in-None-denial-clause-answer c =
    let t = c.args.tree.now in
    let h : Held = c.in-Some.held in
    let held : c.first_held.new.tree.nodes ≡ t.nodes = ap (λ (s : Shape). s.nodes) c.first_held.ensures.tree in
    let nodes : c.denial.new.tree.nodes ≡ t.nodes = ap (λ (s : Shape). s.nodes) c.denial.ensures.tree ∙ held in
    let eager : eager_of c.denial.new.tree ≡ eager_of t = ap eager_of c.denial.ensures.tree ∙ ap eager_of c.first_held.ensures.tree in
    let size : c.size.result ≡ t.size = c.size.ensures in
    let clean : Finds t.nodes (local_in t.nodes c.args.x) Write (whole t.size) (IsMet t.nodes c.args.x true (length t.nodes)) None =
    subst (λ n. Finds t.nodes (local_in t.nodes c.args.x) Write (whole n) (IsMet t.nodes c.args.x true (length t.nodes)) None) size
    (subst (λ (o : Option Found). Finds t.nodes (local_in t.nodes c.args.x) Write (whole c.size.result) (IsMet t.nodes c.args.x true (length t.nodes)) o) c.in-None-denial.is
    (subst (λ (ns : List Node). Finds ns (local_in ns c.args.x) Write (whole c.size.result) (IsMet ns c.args.x true (length ns)) c.denial.result) held c.denial.ensures.found)) in
    let first = subst (λ (o : Option Held). FindsHeld t.size t.nodes (length t.nodes) o) c.in-Some.is c.first_held.ensures.held in
    ap (λ (g : Tag). (let p : Option Violation × Tree = (Some (StrongFree h.offset g h.perm), eager_of c.denial.new.tree) in p)) (c.tag.ensures ∙ ap (λ (ns : List Node). (node_at ns h.node).tag) nodes)
    ∙ ap (λ (e : Tree). (let p : Option Violation × Tree = (Some (StrongFree h.offset (node_at t.nodes h.node).tag h.perm), e) in p)) eager
    ∙ free-held t.root t.size t.nodes (node_at t.nodes c.args.x).tag h (left_by t.root t.size t.nodes c.args.x Write (whole t.size)) c.soundness.ensures.sound (omega (arith, c.requires.node)) first
    (access-clean t.root t.size t.nodes c.args.x Write (whole t.size) c.soundness.ensures.sound c.requires.node clean)

pub returns-in-None-clause-cuts : goal.returns-in-None-clause-cuts
returns-in-None-clause-cuts c = λ s lt e.
    let t = c.args.tree.now in
    let held : c.first_held.new.tree.nodes ≡ t.nodes = ap (λ (s : Shape). s.nodes) c.first_held.ensures.tree in
    subst (λ (ns : List Node). is_cut ns s ≡ true) held
    (elim (cuts-added c.first_held.new.tree.nodes c.access_at.new.tree.nodes (whole c.size.result) s c.access_at.ensures.count c.access_at.ensures.adds e) [
      | inl old ↦ old
      | inr new ↦ elim new [
        | inl start ↦ absurd (let past = cut-past c.access_at.new.tree.nodes s e in omega (arith, start, past))
        | inr stop ↦ absurd (omega (arith, stop, lt, c.size.ensures))
      ]
    ])
