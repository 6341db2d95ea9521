use Rattle.dated_access.proofs.PieceLemmas.{piece-of}
use Rattle.dated_access.proofs.pieces.piece_end.Goals as goal

pub returns-clause-cut : goal.returns-clause-cut
returns-clause-cut c =
    (piece-of c.args.tree.now c.args.path.now c.args.others.now c.args.at c.args.end c.dates_end-dates.result c.min-same.result c.run_end-local.result c.run_end.result c.requires.some c.requires.within
    c.dates_end-dates.ensures.next c.dates_end-dates.ensures.after c.dates_end-dates.ensures.uniform c.min-same.ensures c.run_end-local.ensures c.run_end.ensures).2
