use Rattle.std.proofs.Common.{◌∙◌, ◌+◌, ◌++◌, ◌-◌, ◌/◌, List, sym, ap, append-nil, arith}
use Rattle.std.proofs.lemmas.Result.{on_ok_weaker}
use Rattle.history.specs.declared.log.AllocLog.{AllocLog}
use Rattle.record_text.proofs.AllocLogs.{logs_none, logs_halved}
use Rattle.record_text.proofs.logs.+append_logs.Goals as goal

pub returns-then-is_none : goal.returns-then-is_none
returns-then-is_none t c =
    sym (append-nil c.args.logs.now)
    ∙ ap (λ (ls : List AllocLog). c.args.logs.now ++ ls) (sym (logs_none c.args.entries.items c.args.first c.args.count (c.is_none.ensures.0 c.if-is_none.true)))

pub returns : goal.returns
returns t c =
    on_ok_weaker c.append_logs-2.result
    (λ e. logs_halved c.args.entries.items c.in_ok-lower.lower.items c.in_ok-lower.upper.items c.args.logs.now c.append_logs.new.logs c.append_logs-2.new.logs c.args.first (c.args.count / 2) c.args.count (omega arith)
    c.in_ok-lower.ensures.lower c.in_ok-lower.ensures.upper c.in_ok-append_logs.ensures e)
    c.append_logs-2.ensures
