use Rattle.std.proofs.Common.{ℕ, List, ◌++◌, ap, ◌∙◌, arith}
use Rattle.excerpt.specs.Meaning.{line_meant}
use Rattle.excerpt.specs.Shown as shown
use Rattle.excerpt.proofs.Rows.{row_where_above}
use Rattle.excerpt.proofs.shown.push_cut.Goals as goal

pub returns-in_ok-extend_from_slice-2 : goal.returns-in_ok-extend_from_slice-2
returns-in_ok-extend_from_slice-2 c =
    row_where_above _ _ _ _ _ shown.most_shown (shown.line_length (line_meant c.args.line.now))
    (omega (arith, c.if-line_len-gt-MOST_SHOWN.true, c.line_len.ensures))
    (c.in_ok-extend_from_slice.ensures.items ∙ ap (λ (t : List ℕ). c.args.rows.now.items ++ t) (c.deref.ensures.value ∙ c.in_ok-margin.ensures))
    (c.in_ok-extend_from_slice-2.ensures.items ∙ ap (λ (t : List ℕ). c.extend_from_slice.new.self.items ++ t) (c.as_bytes.ensures.value ∙ c.in_ok-cut_note.ensures))
