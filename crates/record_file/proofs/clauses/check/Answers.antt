use Rattle.std.proofs.Common.{◌≡◌, ◌↔◌, ℕ, sym, ◌∙◌, ap, subst}
use Rattle.std.specs.Prelude.{None, Some}
use Rattle.std.proofs.lemmas.Bool.{true≢false}
use Rattle.std.proofs.lemmas.Result.{IfOk-weaker}
use Rattle.source_sem.specs.Records.{IsRightRecord}
use Rattle.source_sem.specs.Source.{Setting}
use Rattle.source_sem.specs.Starting.{setting_of}
use Rattle.record_file.specs.declared.clauses.Checked.TheVariants.{Holds, Fails}
use Rattle.record_file.specs.declared.clauses.Clause.TheVariants.{B, C}
use Rattle.record_file.specs.Checked.{IsAnswer}
use Rattle.record_file.specs.Reaching.{AreAllRuns}
use Rattle.record_file.specs.Rest.{RestIs}
use Rattle.record_file.proofs.Answering.{answer_of, fallen, holds_iff, unanswered}
use Rattle.record_file.proofs.clauses.check.Goals as goal

pub returns-in_default-clause-holds : goal.returns-in_default-clause-holds
returns-in_default-clause-holds c =
    let p = c.args.program.now.program in
    let input = c.args.input.now in
    let hosts = c.args.hosts.now in
    let limits = c.args.limits.now in
    let kept = c.args.kept.now in
    let y = c.in_ok-machine.machine.setting in
    let main = c.main_number-main.result in
    let logs = c.as_slice-logs.result.now in
    let setting : y ≡ setting_of p input hosts = ap (λ m. m.setting) c.in_ok-machine.ensures ∙ ap (setting_of p input) c.requires.table in
    let none : AreAllRuns None y limits main logs = rw c.in_default.is at c.in_ok-asking.ensures in
    holds_iff p input hosts limits kept (Fails B)
    (unanswered p input hosts limits kept y main logs setting c.main_number-main.ensures c.as_slice-logs.ensures (c.in_ok-has_threads.ensures.0 c.if-not-branch.false) none)

pub returns-then-not-stamps_rise-clause-holds : goal.returns-then-not-stamps_rise-clause-holds
returns-then-not-stamps_rise-clause-holds c =
    let p = c.args.program.now.program in
    let input = c.args.input.now in
    let hosts = c.args.hosts.now in
    let limits = c.args.limits.now in
    let kept = c.args.kept.now in
    let y = c.in_ok-machine.machine.setting in
    let main = c.main_number-main.result in
    let logs = c.as_slice-logs.result.now in
    let setting : y ≡ setting_of p input hosts = ap (λ m. m.setting) c.in_ok-machine.ensures ∙ ap (setting_of p input) c.requires.table in
    let runs : AreAllRuns (Some c.in-Some.asking) y limits main logs = rw c.in-Some.is at c.in_ok-asking.ensures in
    holds_iff p input hosts limits kept (Fails C)
    (fallen p input hosts limits kept y main logs setting c.main_number-main.ensures c.as_slice-logs.ensures (c.in_ok-has_threads.ensures.0 c.if-not-branch.false) c.in-Some.asking runs
    (λ rise. true≢false (sym (c.stamps_rise.ensures.1 rise) ∙ c.if-not-stamps_rise.true)))

pub returns-then-not-stamps_rise-clause-clause : goal.returns-then-not-stamps_rise-clause-clause
returns-then-not-stamps_rise-clause-clause c =
    let p = c.args.program.now.program in
    let input = c.args.input.now in
    let hosts = c.args.hosts.now in
    let limits = c.args.limits.now in
    let kept = c.args.kept.now in
    let y = c.in_ok-machine.machine.setting in
    let main = c.main_number-main.result in
    let logs = c.as_slice-logs.result.now in
    let setting : y ≡ setting_of p input hosts = ap (λ m. m.setting) c.in_ok-machine.ensures ∙ ap (setting_of p input) c.requires.table in
    let runs : AreAllRuns (Some c.in-Some.asking) y limits main logs = rw c.in-Some.is at c.in_ok-asking.ensures in
    fallen p input hosts limits kept y main logs setting c.main_number-main.ensures c.as_slice-logs.ensures (c.in_ok-has_threads.ensures.0 c.if-not-branch.false) c.in-Some.asking runs
    (λ rise. true≢false (sym (c.stamps_rise.ensures.1 rise) ∙ c.if-not-stamps_rise.true))

pub returns-clause-holds : goal.returns-clause-holds
returns-clause-holds c =
    let p = c.args.program.now.program in
    let input = c.args.input.now in
    let hosts = c.args.hosts.now in
    let limits = c.args.limits.now in
    let kept = c.args.kept.now in
    let y = c.in_ok-machine.machine.setting in
    let main = c.main_number-main.result in
    let logs = c.as_slice-logs.result.now in
    let setting : y ≡ setting_of p input hosts = ap (λ m. m.setting) c.in_ok-machine.ensures ∙ ap (setting_of p input) c.requires.table in
    let runs : AreAllRuns (Some c.in-Some.asking) y limits main logs = rw c.in-Some.is at c.in_ok-asking.ensures in
    IfOk-weaker c.check_rest.result (RestIs limits hosts kept c.in-Some.asking) (λ found. (found ≡ Holds) ↔ IsRightRecord p input hosts limits kept)
    (λ found h. holds_iff p input hosts limits kept found
    (answer_of p input hosts limits kept y main logs setting c.main_number-main.ensures c.as_slice-logs.ensures (c.in_ok-has_threads.ensures.0 c.if-not-branch.false) c.in-Some.asking runs (c.stamps_rise.ensures.0 c.if-not-stamps_rise.false) found h))
    c.check_rest.ensures

pub returns-clause-clause : goal.returns-clause-clause
returns-clause-clause c =
    let p = c.args.program.now.program in
    let input = c.args.input.now in
    let hosts = c.args.hosts.now in
    let limits = c.args.limits.now in
    let kept = c.args.kept.now in
    let y = c.in_ok-machine.machine.setting in
    let main = c.main_number-main.result in
    let logs = c.as_slice-logs.result.now in
    let setting : y ≡ setting_of p input hosts = ap (λ m. m.setting) c.in_ok-machine.ensures ∙ ap (setting_of p input) c.requires.table in
    let runs : AreAllRuns (Some c.in-Some.asking) y limits main logs = rw c.in-Some.is at c.in_ok-asking.ensures in
    IfOk-weaker c.check_rest.result (RestIs limits hosts kept c.in-Some.asking) (IsAnswer p input hosts limits kept)
    (λ found h. answer_of p input hosts limits kept y main logs setting c.main_number-main.ensures c.as_slice-logs.ensures (c.in_ok-has_threads.ensures.0 c.if-not-branch.false) c.in-Some.asking runs (c.stamps_rise.ensures.0 c.if-not-stamps_rise.false) found h)
    c.check_rest.ensures
