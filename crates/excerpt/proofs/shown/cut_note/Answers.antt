use Rattle.std.proofs.Common.{append_assoc}
use Rattle.excerpt.proofs.shown.cut_note.Goals as goal

pub returns : goal.returns
returns c = simp (c.in_ok-format.ensures.ok, c.skipped-skipped.ensures, c.line_len-len.ensures, append_assoc)
