use Rattle.std.proofs.Common.{◌*◌, arith, length, ap, sym, subst}
use Rattle.eager_tree.specs.Steps.{on_span}
use Rattle.dated_tree.specs.Shape.{Shape}
use Rattle.dated_tree.specs.Access.{IsFresh, IsAccessed}
use Rattle.dated_access.specs.Pieces.{pieces, visited, ArePieces}
use Rattle.dated_access.proofs.DeniedLemmas.{sound-same}
use Rattle.dated_access.proofs.BeginLemmas.{begins, begun-by, denied-answer, done, times-three}
use Rattle.dated_access.proofs.access.access_on.Goals as goal

pub meet_pieces-requires-clause-fresh : goal.meet_pieces-requires-clause-fresh
meet_pieces-requires-clause-fresh c =
    let w = begun-by c.args.tree.now c.first_denial.new.tree c.begin.new.self c.args.access.node c.tag-tag.result c.in-None.ensures.tree c.tag-tag.ensures c.begin.ensures in
    let b = begins c.args.tree.now c.args.access.node c.args.path.now c.args.others.now c.first_denial.new.ends.items c.args.access.span.start c.first_denial.new.tree.visits (2 * pieces c.args.tree.now c.args.path.now c.args.others.now c.args.access.span) (2 * length c.first_denial.new.ends.items)
    c.requires.sound c.requires.node c.requires.others c.in-None.ensures.pieces (omega (arith, c.in-None.ensures.count)) c.requires.room in
    subst (λ (s : Shape). IsFresh s c.args.access.node s.clock) (sym w) b.fresh

pub meet_pieces-requires-clause-pieces : goal.meet_pieces-requires-clause-pieces
meet_pieces-requires-clause-pieces c =
    let w = begun-by c.args.tree.now c.first_denial.new.tree c.begin.new.self c.args.access.node c.tag-tag.result c.in-None.ensures.tree c.tag-tag.ensures c.begin.ensures in
    let b = begins c.args.tree.now c.args.access.node c.args.path.now c.args.others.now c.first_denial.new.ends.items c.args.access.span.start c.first_denial.new.tree.visits (2 * pieces c.args.tree.now c.args.path.now c.args.others.now c.args.access.span) (2 * length c.first_denial.new.ends.items)
    c.requires.sound c.requires.node c.requires.others c.in-None.ensures.pieces (omega (arith, c.in-None.ensures.count)) c.requires.room in
    subst (ArePieces c.begin.new.self c.args.path.now c.args.others.now c.args.access.span.start) (sym c.as_slice.ensures.value)
    (subst (λ (s : Shape). ArePieces s c.args.path.now c.args.others.now c.args.access.span.start c.first_denial.new.ends.items) (sym w) b.pieces_are)

pub returns-in-Some-clause-sound : goal.returns-in-Some-clause-sound
returns-in-Some-clause-sound c = sound-same c.args.tree.now c.first_denial.new.tree c.in-Some.ensures.tree c.requires.sound

pub returns-in-Some-clause-answer : goal.returns-in-Some-clause-answer
returns-in-Some-clause-answer c =
    denied-answer c.args.tree.now c.first_denial.new.tree c.args.access.node c.args.access.span c.args.access.kind c.in-Some.denial c.tag.result c.requires.sound c.requires.node c.requires.within c.in-Some.ensures.found c.in-Some.ensures.tree c.tag.ensures

pub returns-in-None-clause-sound : goal.returns-in-None-clause-sound
returns-in-None-clause-sound c =
    let w = begun-by c.args.tree.now c.first_denial.new.tree c.begin.new.self c.args.access.node c.tag-tag.result c.in-None.ensures.tree c.tag-tag.ensures c.begin.ensures in
    (done c.args.tree.now c.meet_pieces.new.tree c.args.access.node c.first_denial.new.tree.visits c.args.access.span c.args.access.kind c.requires.sound c.requires.node c.in-None.ensures.found
    (subst (λ (s : Shape). IsAccessed c.args.access.node (on_span c.args.access.span c.args.access.kind) s.clock s c.meet_pieces.new.tree) w c.meet_pieces.ensures.accessed)).sound

pub returns-in-None-clause-answer : goal.returns-in-None-clause-answer
returns-in-None-clause-answer c =
    let w = begun-by c.args.tree.now c.first_denial.new.tree c.begin.new.self c.args.access.node c.tag-tag.result c.in-None.ensures.tree c.tag-tag.ensures c.begin.ensures in
    (done c.args.tree.now c.meet_pieces.new.tree c.args.access.node c.first_denial.new.tree.visits c.args.access.span c.args.access.kind c.requires.sound c.requires.node c.in-None.ensures.found
    (subst (λ (s : Shape). IsAccessed c.args.access.node (on_span c.args.access.span c.args.access.kind) s.clock s c.meet_pieces.new.tree) w c.meet_pieces.ensures.accessed)).answer

pub returns-in-None-clause-visits : goal.returns-in-None-clause-visits
returns-in-None-clause-visits c =
    let begun_visits = ap (λ (s : Shape). s.visits) c.begin.ensures in
    let long = ap length c.as_slice.ensures.value in
    let few = times-three (pieces c.args.tree.now c.args.path.now c.args.others.now c.args.access.span) (visited c.args.path.now c.args.others.now) (length c.as_slice.result.now) (omega (arith, long, c.in-None.ensures.count)) in
    omega (arith, begun_visits, few, c.in-None.ensures.visits, c.meet_pieces.ensures.visits)
