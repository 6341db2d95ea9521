use Rattle.std.proofs.Common.{◌≡◌, ℕ, List, ◌++◌, Option, find, codes, ap, ◌∙◌}
use Rattle.std.specs.Option.{option_copied}
use Rattle.explain.specs.declared.explained.Explained.{Explained}
use Rattle.history.specs.declared.entry.Entry.{Entry}
use Rattle.history.specs.declared.log.AllocLog.{AllocLog}
use Rattle.history.specs.Histories.{is_make_step}
use Rattle.report.specs.Violation.{violation_line}
use Rattle.notes.specs.Causes.{cause_notes}
use Rattle.notes.specs.Made.{allocation_note, node_note, steps_on}
use Rattle.notes.specs.Meaning.{listing_meant}
use Rattle.notes.specs.Sources.{heading, shown, help_line}
use Rattle.notes.specs.Violations.{asked_notes, user, help_for}
use Rattle.notes.proofs.Rows.{grown, grown_by}
use Rattle.notes.proofs.violations.push_violation.Goals as goal

pub returns : goal.returns
returns c =
    let logs : List AllocLog = c.args.logs.now in
    let x : Explained = c.args.explained.now in
    let steps : List Entry = steps_on logs x.violation.alloc in
    let l = listing_meant c.args.listing.now in
    let t0 : List ℕ = c.args.notes.now.items in
    let t1 : List ℕ = c.push_heading.new.notes.items in
    let t2 : List ℕ = c.push_shown.new.notes.items in
    let t3 : List ℕ = c.push_allocation.new.notes.items in
    let t4 : List ℕ = c.push_asked.new.notes.items in
    let t5 : List ℕ = c.push_causes.new.notes.items in
    let t6 : List ℕ = c.push_node.new.notes.items in
    let t : List ℕ = c.push_help.new.notes.items in
    let line : List ℕ = heading l.source (violation_line x.violation) in
    let place : List ℕ = shown l x.violation in
    let allocation : List ℕ = allocation_note l (find is_make_step steps) in
    let asked : List ℕ = asked_notes l logs x.violation in
    let causes : List ℕ = cause_notes l x.violation.reply.verdict x in
    let uses : List ℕ = node_note l (codes "was made") (user steps x.violation) in
    let help : List ℕ = help_line l.source (help_for x) in
    let p1 : t1 ≡ t0 ++ line =
    grown_by t0 t1 (heading l.source c.deref.result.now) line c.in_ok-push_heading.ensures
    (ap (heading l.source) (c.deref.ensures.value ∙ c.in_ok-violation_line.ensures)) in
    let p3 : t3 ≡ t2 ++ allocation =
    grown_by t2 t3 (allocation_note l (option_copied c.make_among.result)) allocation c.in_ok-push_allocation.ensures
    (ap (λ (made : Option Entry). allocation_note l made)
    (c.make_among.ensures ∙ ap (λ (list : List Entry). find is_make_step list) c.steps_on-steps.ensures)) in
    let p6 : t6 ≡ t5 ++ uses =
    grown_by t5 t6 (node_note l (codes "was made") (option_copied c.user.result)) uses c.in_ok-push_node.ensures
    (ap (λ (made : Option Entry). node_note l (codes "was made") made)
    (c.user.ensures ∙ ap (λ (list : List Entry). user list x.violation) c.steps_on-steps.ensures)) in
    let p7 : t ≡ t6 ++ help =
    grown_by t6 t (help_line l.source c.help_for.result.now) help c.in_ok-push_help.ensures (ap (help_line l.source) c.help_for.ensures) in
    grown t0 t1 t line (place ++ (allocation ++ (asked ++ (causes ++ (uses ++ help))))) p1
    (grown t1 t2 t place (allocation ++ (asked ++ (causes ++ (uses ++ help)))) c.in_ok-push_shown.ensures
    (grown t2 t3 t allocation (asked ++ (causes ++ (uses ++ help))) p3
    (grown t3 t4 t asked (causes ++ (uses ++ help)) c.in_ok-push_asked.ensures
    (grown t4 t5 t causes (uses ++ help) c.in_ok-push_causes.ensures (grown t5 t6 t uses help p6 p7)))))
