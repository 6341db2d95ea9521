use Rattle.std.proofs.Common.{◌≡◌, ℕ, List, [], ◌∷◌, ◌++◌, true, ◌∙◌}
use Rattle.report.specs.Violation.{what_text}
use Rattle.notes.specs.Traps.{refused_start}
use Rattle.notes.proofs.Rows.{grown, grown_by}
use Rattle.notes.proofs.traps.push_refused_line.Goals as goal

pub returns : goal.returns
returns c =
    let step = c.args.step.now in
    let t0 : List ℕ = c.args.notes.now.items in
    let t1 : List ℕ = c.extend_from_slice.new.self.items in
    let t2 : List ℕ = c.extend_from_slice-2.new.self.items in
    let t : List ℕ = c.push.new.self.items in
    let start : List ℕ = refused_start step in
    let asked : List ℕ = what_text true step in
    let end : List ℕ = 10 ∷ [] in
    grown t0 t1 t start (asked ++ end)
    (grown_by t0 t1 c.as_bytes.result.now start c.in_ok-extend_from_slice.ensures.items (c.as_bytes.ensures.value ∙ c.in_ok-refused_start.ensures))
    (grown t1 t2 t asked end
    (grown_by t1 t2 c.deref.result.now asked c.in_ok-extend_from_slice-2.ensures.items (c.deref.ensures.value ∙ c.in_ok-what.ensures))
    c.in_ok-push.ensures.items)
