use Rattle.std.proofs.Common.{◌≡◌, ◌++◌, drop, map, All}
use Rattle.std.specs.List.{filter_map}
use Rattle.history.specs.Records.{first_violation}
use Rattle.explain.specs.Explanations.{IsExplainedIn}
use Rattle.explain.proofs.Listing.{violation_of}
use Rattle.explain.proofs.causes.explain_logs.Given as goal

abbrev pub invariant-loop-log : goal.invariant-loop-log
invariant-loop-log l = record {
  violations : map violation_of l.list.items ++ filter_map first_violation (drop l.log-index l.logs) ≡ filter_map first_violation l.logs;
  each : All (IsExplainedIn l.logs) l.list.items;
}
