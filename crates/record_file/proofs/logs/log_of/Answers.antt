use Rattle.std.proofs.Common.{◌≡◌, nat_lt, rules, of_calls, arith, ◌∙◌, ap}
use Rattle.std.proofs.lemmas.Bool.Decides.{nat_tests}
use Rattle.std.proofs.lemmas.List.Sorted.{IsPartitionPoint-from_clause}
use Rattle.std.proofs.lemmas.Option.{get_or_from_slice_get, slice_get_within}
use Rattle.history.specs.declared.log.ThreadLog.{ThreadLog}
use Rattle.record_file.proofs.Finding.{partitioned, at_point}
use Rattle.record_file.proofs.logs.log_of.Goals as goal
use Rattle.record_file.proofs.logs.log_of.Goals.{else-at-logs-via-then-at-logs+else-eq, else-at-logs-via-else-at-logs}

pub returns-else-at-logs-clause-missing : goal.returns-else-at-logs-clause-missing
returns-else-at-logs-clause-missing c = λ none log there named. (
    let logs = c.args.logs.now in
    let at = c.partition_point-at.result in
    let is = at_point logs c.args.number at c.requires
    (IsPartitionPoint-from_clause (λ (l : ThreadLog). nat_lt l.number.0 c.args.number.0) _ _ c.partition_point-at.ensures.partitioned (partitioned logs c.args.number c.requires) (λ a r f k. search (rules, of_calls))) log there named in
    elim c.else-at-logs.branch [
      | else-at-logs-via-then-at-logs+else-eq w ↦
          let here : w.index-logs-at.result ≡ log = w.index-logs-at.is ∙ get_or_from_slice_get logs at log w.index-logs-at.result is in
          let same : w.index-logs-at.result.number.0 ≡ c.args.number.0 = ap (λ (l : ThreadLog). l.number.0) here ∙ ap (λ n. n.0) named in
          absurd (grind (arith, nat_tests, w.eq.ensures, w.if-eq.false))
      | else-at-logs-via-else-at-logs w ↦ absurd (omega (arith, w.if-at-logs.false, slice_get_within logs at log is))
    ])
