use Rattle.std.proofs.Common.{arith, length, refl, ◌*◌, ◌+◌}
use Rattle.eager_tree.specs.Steps.{on_span}
use Rattle.dated_access.specs.Path.{entry}
use Rattle.dated_access.specs.Pieces.{visited}
use Rattle.dated_access.proofs.ChangeLemmas.{way-distinct}
use Rattle.dated_access.proofs.DeniedLemmas.{times-one}
use Rattle.dated_access.proofs.SpanLemmas.{bytes, path-kept, others-kept-by, uniform-still, dated-still, next-piece, next-start, room-still, accessed-more, empty-span}
use Rattle.dated_access.proofs.span.meet_pieces.Goals as goal

pub loop-end-init : goal.loop-end-init
loop-end-init c = record {
  accessed = empty-span c.args.tree.now c.args.access.node c.args.access.span.start c.args.access.kind c.requires.actor;
  from = refl;
  low = omega arith;
  spare = λ place. omega arith;
  date_spare = omega arith;
  write_spare = omega arith;
  visits = omega arith;
}

pub meet-requires-clause-path : goal.meet-requires-clause-path
meet-requires-clause-path c = path-kept c.args.tree.now c.loop-end.tree c.args.access.node c.args.tree.now.clock c.args.path.now (on_span (bytes c.args.access.span.start c.loop-end.from) c.args.access.kind) c.loop-end.invariant.accessed c.requires.path

pub meet-requires-clause-others : goal.meet-requires-clause-others
meet-requires-clause-others c = others-kept-by c.args.tree.now c.loop-end.tree c.args.access.node c.args.tree.now.clock c.args.others.now (on_span (bytes c.args.access.span.start c.loop-end.from) c.args.access.kind) c.loop-end.invariant.accessed c.requires.others

pub meet-requires-clause-on_path : goal.meet-requires-clause-on_path
meet-requires-clause-on_path c =
    let n = next-piece c.args.tree.now c.loop-end.tree c.args.access.node c.args.access.span.start c.loop-end.from c.loop-end.end-index c.args.path.now c.args.others.now c.args.ends.now c.requires.pieces c.loop-end-test.true c.loop-end.invariant.from c.loop-end.invariant.low in
    uniform-still c.args.tree.now c.loop-end.tree c.args.access.node c.args.tree.now.clock c.args.access.span.start c.loop-end.from (entry c.args.ends.now c.loop-end.end-index) 0 c.args.access.kind c.args.path.now
    n.low n.piece.some n.piece.within c.loop-end.invariant.accessed (way-distinct c.args.tree.now.size c.args.tree.now c.args.path.now c.soundness.ensures.nodes c.requires.path.way) n.piece.on_path
    (room-still c.args.tree.now c.loop-end.tree c.args.path.now c.loop-end.end-index (length c.args.ends.now) c.loop-end-test.true c.requires.room.on_path c.loop-end.invariant.spare)

pub meet-requires-clause-off_path : goal.meet-requires-clause-off_path
meet-requires-clause-off_path c =
    let n = next-piece c.args.tree.now c.loop-end.tree c.args.access.node c.args.access.span.start c.loop-end.from c.loop-end.end-index c.args.path.now c.args.others.now c.args.ends.now c.requires.pieces c.loop-end-test.true c.loop-end.invariant.from c.loop-end.invariant.low in
    uniform-still c.args.tree.now c.loop-end.tree c.args.access.node c.args.tree.now.clock c.args.access.span.start c.loop-end.from (entry c.args.ends.now c.loop-end.end-index) 0 c.args.access.kind c.args.others.now
    n.low n.piece.some n.piece.within c.loop-end.invariant.accessed c.requires.others.distinct n.piece.off_path
    (room-still c.args.tree.now c.loop-end.tree c.args.others.now c.loop-end.end-index (length c.args.ends.now) c.loop-end-test.true c.requires.room.off_path c.loop-end.invariant.spare)

pub meet-requires-clause-dates : goal.meet-requires-clause-dates
meet-requires-clause-dates c =
    let n = next-piece c.args.tree.now c.loop-end.tree c.args.access.node c.args.access.span.start c.loop-end.from c.loop-end.end-index c.args.path.now c.args.others.now c.args.ends.now c.requires.pieces c.loop-end-test.true c.loop-end.invariant.from c.loop-end.invariant.low in
    dated-still c.args.tree.now c.loop-end.tree c.args.access.node c.args.tree.now.clock c.args.access.span.start c.loop-end.from (entry c.args.ends.now c.loop-end.end-index) c.args.access.kind n.low n.piece.some n.piece.within c.loop-end.invariant.accessed n.piece.dates

pub loop-end-preserved : goal.loop-end-preserved
loop-end-preserved c =
    let n = next-piece c.args.tree.now c.loop-end.tree c.args.access.node c.args.access.span.start c.loop-end.from c.loop-end.end-index c.args.path.now c.args.others.now c.args.ends.now c.requires.pieces c.loop-end-test.true c.loop-end.invariant.from c.loop-end.invariant.low in
    record {
      accessed = accessed-more c.args.tree.now c.loop-end.tree c.meet.new.tree c.args.access.node c.args.access.span.start c.loop-end.from (entry c.args.ends.now c.loop-end.end-index) c.args.path.now c.args.others.now c.args.access.kind
          c.requires.fresh n c.loop-end.invariant.accessed c.meet.ensures.accessed;
      from = next-start c.args.access.span.start c.args.ends.now c.loop-end.end-index (entry c.args.ends.now c.loop-end.end-index) refl;
      low = (let a = n.low in let b = n.piece.some in omega (arith, a, b));
      spare = λ place. (let a = c.loop-end.invariant.spare place in let b = c.meet.ensures.spare place in omega (arith, a, b));
      date_spare = omega (arith, c.loop-end.invariant.date_spare, c.meet.ensures.date_spare);
      write_spare = omega (arith, c.loop-end.invariant.write_spare, c.meet.ensures.write_spare);
      visits = omega (arith, c.loop-end.invariant.visits, c.meet.ensures.visits, times-one c.loop-end.end-index (2 * visited c.args.path.now c.args.others.now) (c.loop-end.end-index + 1) refl);
    }
