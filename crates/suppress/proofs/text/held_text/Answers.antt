use Rattle.std.proofs.Common.{◌∙◌, append_assoc}
use Rattle.report.proofs.Reportable.{found_described, found_violate}
use Rattle.suppress.proofs.text.held_text.Goals as goal

pub shown_lines-requires-clause-described : goal.shown_lines-requires-clause-described
shown_lines-requires-clause-described g c =
    found_described c.args.kept.now c.as_slice-found.result.now c.requires (c.as_slice-found.ensures.value ∙ c.in_ok-first.ensures.found)

pub shown_lines-requires-clause-violations : goal.shown_lines-requires-clause-violations
shown_lines-requires-clause-violations g c =
    found_violate c.args.kept.now c.as_slice-found.result.now c.requires (c.as_slice-found.ensures.value ∙ c.in_ok-first.ensures.found)

pub returns : goal.returns
returns g c =
    simp (
      c.in_ok-extend_from_slice-4.ensures.items,
      c.in_ok-extend_from_slice-3.ensures.items,
      c.in_ok-extend_from_slice-2.ensures.items,
      c.in_ok-extend_from_slice.ensures.items,
      c.as_bytes-2.ensures.value,
      c.as_bytes.ensures.value,
      c.deref-2.ensures.value,
      c.deref.ensures.value,
      c.in_ok-status.ensures,
      c.in_ok-summary.ensures,
      c.in_ok-ends.ensures,
      c.in_ok-shown.ensures,
      c.in_ok-text.ensures,
      c.shown_count.ensures,
      c.held_count.ensures,
      c.as_slice-found.ensures.value,
      c.in_ok-first.ensures.found,
      append_assoc,
    )
