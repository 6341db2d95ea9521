use Rattle.std.proofs.Common.{◌∙◌, ℕ, List, Option, Some, ap}
use Rattle.std.specs.Borrow.{Bor}
use Rattle.record_text.specs.declared.line.Line.{Line}
use Rattle.record_text.specs.Reading.{Words, ◌>>=◌, left, nothing_left}
use Rattle.record_text.specs.Whole.{line_in}
use Rattle.record_text.proofs.Prefixes.{nothing_more}
use Rattle.record_text.proofs.lines.read_line.Goals as goal

pub returns-in-Some : goal.returns-in-Some
unfolding line_in
returns-in-Some c =
    ap (λ (o : Option (Line × Words)). o >>= nothing_left) (c.in_ok-line.ensures ∙ ap (λ (w : Option (Bor (List ℕ))). Some (c.in_ok-line.line, left 32 w)) c.in-Some.is)
    ∙ nothing_more c.in_ok-line.line 32 c.in-Some.field-0.now
