use Rattle.std.proofs.Common.{arith, length, ◌+◌, ◌∙◌, ap, sym, length-append, ◌∷◌, []}
use Rattle.dated_access.specs.Pieces.{pieces, visited}
use Rattle.dated_access.proofs.DeniedLemmas.{sound-same, least-same, piece-same, cut-same, none-found, first-found, visits-same, done-more, times-one, times-upto}
use Rattle.dated_access.proofs.denied.first_denial.Goals as goal

pub denial_at-found-requires-clause-sound : goal.denial_at-found-requires-clause-sound
denial_at-found-requires-clause-sound c = sound-same c.args.tree.now c.pieces.tree c.pieces.invariant.tree c.requires.sound

pub returns-then-is_some-clause-found : goal.returns-then-is_some-clause-found
returns-then-is_some-clause-found c =
    first-found c.args.tree.now c.args.access.node c.args.path.now c.args.others.now c.args.access.span c.args.access.kind c.pieces.ends.items c.pieces.at c.denial_at-found.result (sym c.is_some.ensures ∙ c.if-is_some.true)
    (least-same c.args.tree.now c.pieces.tree c.args.access.node c.pieces.at c.args.access.kind c.denial_at-found.result c.pieces.invariant.tree c.denial_at-found.ensures.found) c.pieces.invariant.done c.pieces-test.true

pub pieces-preserved : goal.pieces-preserved
pieces-preserved c =
    let same = visits-same c.args.tree.now c.pieces.tree c.denial_at-found.new.tree c.pieces.invariant.tree c.denial_at-found.ensures.tree in
    let more = ap length c.push_reserved.ensures.items ∙ length-append c.pieces.ends.items (c.piece_end-at.result ∷ []) in
    record {
      tree = same;
      done = done-more c.args.tree.now c.args.access.node c.args.path.now c.args.others.now c.args.access.span c.args.access.kind c.pieces.ends.items c.push_reserved.new.self.items c.pieces.at c.piece_end-at.result
          c.requires.sound c.requires.within c.requires.path c.requires.others c.pieces.invariant.done c.pieces-test.true
          (none-found c.args.tree.now c.args.access.node c.pieces.at c.args.access.kind c.denial_at-found.result (sym c.is_some.ensures ∙ c.if-is_some.false)
          (least-same c.args.tree.now c.pieces.tree c.args.access.node c.pieces.at c.args.access.kind c.denial_at-found.result c.pieces.invariant.tree c.denial_at-found.ensures.found))
          (piece-same c.args.tree.now c.denial_at-found.new.tree c.pieces.at c.piece_end-at.result c.args.path.now c.args.others.now same c.piece_end-at.ensures.piece)
          c.piece_end-at.ensures.within
          (cut-same c.args.tree.now c.denial_at-found.new.tree c.piece_end-at.result (c.args.access.span.start + c.args.access.span.len) c.args.path.now c.args.others.now same c.piece_end-at.ensures.cut)
          c.push_reserved.ensures.items;
      capacity = c.push_reserved.ensures.capacity ∙ c.pieces.invariant.capacity;
      visits = omega (arith, c.pieces.invariant.visits, c.denial_at-found.ensures.visits, times-one (length c.pieces.ends.items) (visited c.args.path.now c.args.others.now) (length c.push_reserved.new.self.items) more);
    }

pub returns-clause-visits : goal.returns-clause-visits
returns-clause-visits c =
    omega (arith, c.pieces.invariant.visits, times-upto (length c.pieces.ends.items) (visited c.args.path.now c.args.others.now) (pieces c.args.tree.now c.args.path.now c.args.others.now c.args.access.span) c.pieces.invariant.done.all)
