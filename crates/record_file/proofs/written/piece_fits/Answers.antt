use Rattle.record_text.specs.Ranges.{ByteFits}
use Rattle.record_file.proofs.ReadAgain.{all_more}
use Rattle.record_file.proofs.written.piece_fits.Goals as goal

pub loop-at-preserved : goal.loop-at-preserved
loop-at-preserved c = all_more ByteFits c.args.piece.now c.loop-at.at _ c.get-byte.ensures.value c.loop-at.invariant (c.fits8.ensures, c.frag_fits.ensures)
