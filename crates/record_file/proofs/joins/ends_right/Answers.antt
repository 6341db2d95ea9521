use Rattle.std.proofs.Common.{◌≡◌, sym, ◌∙◌, ap, subst}
use Rattle.std.proofs.lemmas.Option.{get_or_from_slice_get}
use Rattle.history.specs.declared.log.ThreadLog.{ThreadLog}
use Rattle.runs.specs.Parts.{Has}
use Rattle.record_file.proofs.Joining.{ends_iff}
use Rattle.record_file.proofs.Marking.{has_at}
use Rattle.record_file.proofs.joins.ends_right.Goals as goal

pub returns-in-Some : goal.returns-in-Some
returns-in-Some c =
    let logs = c.args.logs.now in
    let at = c.in-Some.at in
    let log = c.index-logs-at.result in
    let found = c.in-Some.ensures.found in
    let here : log ≡ found.0 = c.index-logs-at.is ∙ get_or_from_slice_get logs at found.0 log found.1 in
    let there : Has logs log = subst (λ l. Has logs l) (sym here) (has_at logs at found.0 found.1) in
    let iff = ends_iff logs c.requires c.in-ChildEnded.child log there (ap (λ (l : ThreadLog). l.number) here ∙ found.2) c.args.«end» c.in-ChildEnded.is in
    (λ t. iff.0 (c.has_not_returned.ensures.0 t), λ h. c.has_not_returned.ensures.1 (iff.1 h))
