use Rattle.std.proofs.Common.{◌≡◌, ℕ, List, ◌++◌, Option, find, ap, ◌∙◌}
use Rattle.std.specs.Option.{option_copied}
use Rattle.history.specs.declared.entry.Entry.{Entry}
use Rattle.report.specs.End.{end_line}
use Rattle.notes.specs.Meaning.{listing_meant}
use Rattle.notes.specs.Sources.{heading, instruction, help_line}
use Rattle.notes.specs.Traps.{ending_help, is_refused, refused_notes}
use Rattle.notes.proofs.Rows.{grown, grown_by}
use Rattle.notes.proofs.traps.push_ended.Goals as goal

pub returns : goal.returns
returns c =
    let l = listing_meant c.args.listing.now in
    let kept = c.args.kept.now in
    let log = c.args.log.now in
    let t0 : List ℕ = c.args.notes.now.items in
    let t1 : List ℕ = c.push_heading.new.notes.items in
    let t2 : List ℕ = c.push_instruction.new.notes.items in
    let t3 : List ℕ = c.push_refused.new.notes.items in
    let t : List ℕ = c.push_help.new.notes.items in
    let line : List ℕ = heading l.source (end_line log) in
    let shown : List ℕ = instruction l log.last in
    let refused : List ℕ = refused_notes l kept (find is_refused log.entries) in
    let help : List ℕ = help_line l.source (ending_help log.end) in
    let p1 : t1 ≡ t0 ++ line =
    grown_by t0 t1 (heading l.source c.as_bytes.result.now) line c.in_ok-push_heading.ensures
    (ap (heading l.source) (c.as_bytes.ensures.value ∙ c.in_ok-end_line.ensures)) in
    let p3 : t3 ≡ t2 ++ refused =
    grown_by t2 t3 (refused_notes l kept (option_copied c.refused_among-refused.result)) refused c.in_ok-push_refused.ensures
    (ap (λ (step : Option Entry). refused_notes l kept step)
    (c.refused_among-refused.ensures ∙ ap (λ (steps : List Entry). find is_refused steps) c.as_slice.ensures)) in
    let p4 : t ≡ t3 ++ help =
    grown_by t3 t (help_line l.source c.ending_help.result.now) help c.in_ok-push_help.ensures (ap (help_line l.source) c.ending_help.ensures) in
    grown t0 t1 t line (shown ++ (refused ++ help)) p1
    (grown t1 t2 t shown (refused ++ help) c.in_ok-push_instruction.ensures (grown t2 t3 t refused help p3 p4))
