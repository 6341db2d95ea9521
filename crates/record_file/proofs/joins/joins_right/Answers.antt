use Rattle.std.proofs.Common.{◌≡◌, sym, ◌∙◌, ap, subst}
use Rattle.std.proofs.lemmas.Option.{get_or_from_slice_get}
use Rattle.history.specs.declared.entry.Plain.TheVariants as plain
use Rattle.history.specs.declared.entry.Request.TheVariants as request
use Rattle.history.specs.declared.log.ThreadLog.{ThreadLog}
use Rattle.runs.specs.Parts.{Has}
use Rattle.record_file.proofs.Joining.{joins_iff}
use Rattle.record_file.proofs.Marking.{has_at}
use Rattle.record_file.proofs.joins.joins_right.Goals as goal

pub returns-in-Some : goal.returns-in-Some
returns-in-Some c =
    let logs = c.args.logs.now in
    let at = c.in-Some.at in
    let e = c.args.entry.now in
    let log = c.index-logs-at.result in
    let found = c.in-Some.ensures.found in
    let here : log ≡ found.0 = c.index-logs-at.is ∙ get_or_from_slice_get logs at found.0 log found.1 in
    let there : Has logs log = subst (λ l. Has logs l) (sym here) (has_at logs at found.0 found.1) in
    let asks : e.request ≡ request.Join c.in-Join.child = cc in
    let tells : e.reply.plain ≡ plain.Value c.in-Value.value = cc in
    let iff = joins_iff logs c.requires c.in-Join.child log there (ap (λ (l : ThreadLog). l.number) here ∙ found.2) e c.in-Value.value asks tells in
    (λ t. iff.0 (c.has_ended.ensures.0 t), λ h. c.has_ended.ensures.1 (iff.1 h))
