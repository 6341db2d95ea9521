use Rattle.std.proofs.Common.{ℕ, List, ◌++◌, Option, ap, ◌∙◌}
use Rattle.std.specs.Option.{option_copied}
use Rattle.ir_ast.specs.declared.program.Function.{Function}
use Rattle.notes.specs.Meaning.{listing_meant}
use Rattle.notes.specs.Sources.{by_line, entered_by, whereabouts}
use Rattle.notes.proofs.Rows.{grown, grown_by}
use Rattle.notes.proofs.source.push_step_line.Goals as goal

pub returns : goal.returns
returns c =
    let l = listing_meant c.args.listing.now in
    let step = c.args.step.now in
    let t0 : List ℕ = c.args.notes.now.items in
    let t1 : List ℕ = c.extend_from_slice.new.self.items in
    let t2 : List ℕ = c.push_whereabouts.new.notes.items in
    let t : List ℕ = c.extend_from_slice-2.new.self.items in
    let what : List ℕ = c.args.what.now in
    let place : List ℕ = whereabouts (entered_by l step) in
    let by : List ℕ = by_line step in
    grown t0 t1 t what (place ++ by)
    (grown_by t0 t1 c.as_bytes.result.now what c.in_ok-extend_from_slice.ensures.items c.as_bytes.ensures.value)
    (grown t1 t2 t place by
    (grown_by t1 t2 (whereabouts (option_copied c.entered_by.result)) place c.in_ok-push_whereabouts.ensures
    (ap (λ (f : Option Function). whereabouts f) c.entered_by.ensures))
    (grown_by t2 t c.as_bytes-2.result.now by c.in_ok-extend_from_slice-2.ensures.items (c.as_bytes-2.ensures.value ∙ c.in_ok-by_line.ensures)))
