use Rattle.std.proofs.Common.{◌≡◌, ℕ, List, ◌++◌, ◌∙◌, ap}
use Rattle.excerpt.specs.Shown.{excerpt}
use Rattle.notes.specs.Help.{fault_help}
use Rattle.notes.specs.Meaning.{source_meant}
use Rattle.notes.specs.Refusals.{place_of, refusal_line}
use Rattle.notes.specs.Sources.{heading, help_line}
use Rattle.notes.proofs.Rows.{grown, grown_by}
use Rattle.notes.proofs.refusals.refusal_note.Goals as goal

pub returns : goal.returns
returns c =
    let s = source_meant c.args.source.now in
    let t0 : List ℕ = c.new-note.result.items in
    let t1 : List ℕ = c.push_heading.new.notes.items in
    let t2 : List ℕ = c.extend_from_slice.new.self.items in
    let t : List ℕ = c.push_help.new.notes.items in
    let line : List ℕ = heading s (refusal_line c.args.fault) in
    let shown : List ℕ = excerpt s.name s.text (place_of c.args.fault) in
    let help : List ℕ = help_line s (fault_help s.text c.args.fault) in
    let p1 : t1 ≡ t0 ++ line =
    grown_by t0 t1 (heading s c.as_bytes.result.now) line c.in_ok-push_heading.ensures
    (ap (heading s) (c.as_bytes.ensures.value ∙ c.in_ok-refusal_line.ensures)) in
    let p2 : t2 ≡ t1 ++ shown =
    grown_by t1 t2 c.deref.result.now shown c.in_ok-extend_from_slice.ensures.items
    (c.deref.ensures.value ∙ c.in_ok-excerpt.ensures ∙ ap (λ (at : ℕ). excerpt s.name s.text at) c.place_of-at.ensures) in
    let p3 : t ≡ t2 ++ help =
    grown_by t2 t (help_line s c.fault_help.result.now) help c.in_ok-push_help.ensures (ap (help_line s) c.fault_help.ensures) in
    grown t0 t1 t line (shown ++ help) p1 (grown t1 t2 t shown help p2 p3)
    ∙ ap (λ (before : List ℕ). before ++ (line ++ (shown ++ help))) c.new-note.ensures.items
