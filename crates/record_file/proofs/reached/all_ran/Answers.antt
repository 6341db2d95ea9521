use Rattle.std.proofs.Common.{sym, arith}
use Rattle.std.proofs.lemmas.Bool.{true≢false}
use Rattle.std.proofs.lemmas.Option.{slice_get-get_or}
use Rattle.record_file.proofs.Ending.{none_stands, one_stands}
use Rattle.record_file.proofs.reached.all_ran.Goals as goal

pub returns-then-is_none : goal.returns-then-is_none
returns-then-is_none c = (
  λ none. absurd (true≢false (sym none)),
  λ all. absurd (none_stands c.args.standing.now c.loop-stands.stands-index _ c.is_none.result (slice_get-get_or c.args.standing.now c.loop-stands.stands-index _ (omega arith)) c.is_none.ensures c.if-is_none.true all),
)

pub loop-stands-preserved : goal.loop-stands-preserved
loop-stands-preserved c =
    one_stands c.args.standing.now c.loop-stands.stands-index _ c.is_none.result (slice_get-get_or c.args.standing.now c.loop-stands.stands-index _ (omega arith)) c.is_none.ensures c.if-is_none.false c.loop-stands.invariant
