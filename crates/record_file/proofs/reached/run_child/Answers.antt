use Rattle.std.proofs.Common.{◌≡◌, ◌<◌, length, refl, sym, ◌∙◌, ap, subst, arith}
use Rattle.std.specs.Prelude.{Some, None, slice_get}
use Rattle.std.proofs.lemmas.Option.{get_or_from_slice_get, slice_get_read}
use Rattle.history.specs.declared.log.ThreadLog.{ThreadLog}
use Rattle.runs.specs.Tree.{children_of}
use Rattle.record_file.specs.declared.reached.Standing.{Standing}
use Rattle.record_file.specs.Feeding.{AreOf, IsNoRun, IsRun, numbers}
use Rattle.record_file.specs.Reaching.{HasCome}
use Rattle.record_file.proofs.Ran.{left_less}
use Rattle.record_file.proofs.Reaching.{comes_on, next_has_log, next_not_ran, no_run}
use Rattle.record_file.proofs.Waiting.{is_none_one, is_some_one}
use Rattle.record_file.proofs.reached.run_child.Goals as goal

pub returns-in_default : goal.returns-in_default
returns-in_default c =
    λ r. next_has_log c.args.child.machine.setting c.args.limits.now c.args.main c.args.logs.now c.requires.threads c.args.standing.now.items c.args.waiting.now.items c.args.child c.requires.come
    (c.log_of.ensures.missing c.in_default.is)

pub returns-then-is_some : goal.returns-then-is_some
returns-then-is_some c =
    let ss = c.args.standing.now.items in
    let at = c.in-Some.at in
    let found = c.in-Some.ensures.found in
    let less : at < length ss = omega (arith, c.in-Some.ensures.within, c.requires.come.long) in
    let a = is_some_one c.index.result.now (sym c.is_some.ensures ∙ c.if-is_some.true) in
    λ r. next_not_ran c.args.child.machine.setting c.args.limits.now c.args.main c.args.logs.now c.requires.threads ss c.args.waiting.now.items c.args.child c.requires.come
    at found.0 a.0 found.1 found.2 (slice_get_read ss (length ss) at c.index.result.now refl less c.index.ensures ∙ ap Some a.1)

pub returns-in_default-2 : goal.returns-in_default-2
returns-in_default-2 c =
    let x = c.args.child.machine.setting in
    let logs = c.args.logs.now in
    let at = c.in-Some.at in
    let log = c.index-logs-at.result in
    let found = c.in-Some.ensures.found in
    let here : log ≡ found.0 = c.index-logs-at.is ∙ get_or_from_slice_get logs at found.0 log found.1 in
    let none : IsNoRun x c.args.limits.now c.args.child.machine.thread log = rw c.in_default-2.is at c.in_ok-ran.ensures.ran in
    no_run x c.args.limits.now c.args.main logs c.requires.threads c.args.standing.now.items c.args.waiting.now.items c.args.child c.requires.come
    at log (found.1 ∙ ap Some (sym here)) (ap (λ (l : ThreadLog). l.number) here ∙ found.2) none

pub returns : goal.returns
returns c =
    let x = c.args.child.machine.setting in
    let logs = c.args.logs.now in
    let ss = c.args.standing.now.items in
    let rest = c.args.waiting.now.items in
    let at = c.in-Some.at in
    let log = c.index-logs-at.result in
    let found = c.in-Some.ensures.found in
    let here : log ≡ found.0 = c.index-logs-at.is ∙ get_or_from_slice_get logs at found.0 log found.1 in
    let less : at < length ss = omega (arith, c.in-Some.ensures.within, c.requires.come.long) in
    let cs = c.in-Some-2.ran.children.items in
    let a : Standing = record { makes = c.in-Some-2.ran.asks_make; spawns = c.in-Some-2.ran.asks_spawn } in
    let run : IsRun x c.args.limits.now c.args.child.machine.thread log cs c.in-Some-2.ran.asks_make c.in-Some-2.ran.asks_spawn = rw c.in-Some-2.is at c.in_ok-ran.ensures.ran in
    let of : AreOf x cs = rw c.in-Some-2.is at c.in_ok-ran.ensures.children in
    let named : numbers cs ≡ children_of log = rw c.in-Some-2.is at c.in_ok-ran.ensures.numbers in
    let waits : slice_get ss at ≡ Some None = slice_get_read ss (length ss) at c.index.result.now refl less c.index.ensures ∙ ap Some (is_none_one c.index.result.now (sym c.is_some.ensures ∙ c.if-is_some.false)) in
    let come = comes_on x c.args.limits.now c.args.main logs c.requires.threads ss rest c.args.child c.requires.come
    at log (found.1 ∙ ap Some (sym here)) (ap (λ (l : ThreadLog). l.number) here ∙ found.2) cs a run of named waits in
    (subst (HasCome x c.args.limits.now c.args.main logs _) (sym c.in_ok-wait_for.ensures) come, left_less ss at a waits)
