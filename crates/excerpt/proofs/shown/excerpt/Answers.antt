use Rattle.std.proofs.Common.{◌∙◌, ap}
use Rattle.excerpt.specs.Shown as shown
use Rattle.excerpt.proofs.Rows.{five_rows}
use Rattle.excerpt.proofs.shown.excerpt.Goals as goal

pub returns : goal.returns
returns c =
    five_rows _ _ _ _ _ _ _ _ _ _ _ c.new-rows.ensures.items c.in_ok-push_place.ensures c.in_ok-push_empty.ensures c.in_ok-push_line.ensures
    c.in_ok-push_mark.ensures c.in_ok-push_cut.ensures
    ∙ ap (shown.rows c.args.name.now) c.find_line-line.ensures
