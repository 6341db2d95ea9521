-- The merge of logs that are runs is a run exactly where it is numbered, within the limit, in order, and its parts are histories.
use Rattle.std.proofs.Common.{ℕ, List, [], sym, subst}
use Rattle.std.specs.Prelude.{◌==◌}
use Rattle.bsan_ids.specs.declared.numbers.Limits.{Limits}
use Rattle.history.specs.declared.log.ThreadLog.{ThreadLog}
use Rattle.ir_ast.specs.declared.hosts.HostTable.{HostTable}
use Rattle.runs.specs.Interleaving.{first_world, Interleaves}
use Rattle.runs.specs.Merge.{IsPartwiseMerge, merged}
use Rattle.runs.specs.Objects.{objects}
use Rattle.runs.specs.Order.{RunsToEnd}
use Rattle.runs.specs.Parts.{of_alloc, of_thread}
use Rattle.runs.specs.Right.{end_of, HasThreads, HasRuns, MergesToRun, Numbered}
use Rattle.runs.proofs.Composition.{one_run, at_start}
use Rattle.runs.proofs.Differing.{in_part}
use Rattle.runs.proofs.FiberLists.{numbered_rises}
use Rattle.runs.proofs.MergeLaws.{merged_is_merge}
use Rattle.runs.proofs.RightMerges.{rising_may_merge, run_own}
use Rattle.runs.proofs.RightRun.{runs_of}
use Rattle.runs.proofs.Tying.{log_of_entry}
use Rattle.source_sem.specs.Records.{allowed}
use Rattle.source_sem.specs.Source.{Setting, source, source_start}
use Rattle.record_file.specs.ByNumber.{AllFit}
use Rattle.record_file.specs.Merging.{IsGoodMerge}
use Rattle.record_file.proofs.Requests.{logs_fit}
use Rattle.record_file.proofs.Following.{from_start}
use Rattle.record_file.proofs.Separating.{JoinsEnded, named_some, separated}

module _ (x : Setting) (limits : Limits) (hosts : HostTable) (main : ℕ) (logs : List ThreadLog) (threads : HasThreads main logs) (r : HasRuns (source x) limits (source_start x main []) logs) where
  -- each log's entries are its part of a merge whose stamps rise
  pub merge_of : Numbered 1 (merged logs) → IsPartwiseMerge logs (merged logs)
  merge_of numbered =
      merged_is_merge logs threads.rise (rising_may_merge 0 logs (numbered_rises 0 (merged logs) numbered)
      (λ log there. (let run = r.runs log there in (run_own (source x) limits r.starts log run, run.rises))))

  parts : Numbered 1 (merged logs) → (t : ℕ) → RunsToEnd (source x) limits.turns r.starts (end_of logs) t (of_thread t (merged logs))
  parts numbered t =
      subst (λ l. RunsToEnd (source x) limits.turns r.starts (end_of logs) t l) (sym ((merge_of numbered).parts t)) (runs_of (source x) limits r.starts logs r.runs t)

  joins : JoinsEnded (end_of logs) (merged logs)
  joins e c there is =
      let l = log_of_entry logs e there in
      let j = r.joined l.0 e c l.1 l.2 is in (j.0, j.1, j.2)

  pub good_run : IsGoodMerge limits hosts (merged logs) → MergesToRun (source x) objects (allowed limits hosts) limits (source_start x main []) (merged logs)
  good_run g = record {
    numbered = g.numbered;
    within = g.within;
    run = subst (λ s. Interleaves (source x) objects (allowed limits hosts) (first_world (source x) objects s) (merged logs)) r.first
        (one_run (source x) objects (allowed limits hosts) limits.turns r.starts (end_of logs) (merged logs) (λ t. 0 == t) (first_world (source x) objects (r.starts 0))
        ((from_start (allowed limits hosts) (end_of logs) (merged logs) joins).1 g.turns)
        (λ t. at_start (source x) limits.turns r.starts (end_of logs) t (of_thread t (merged logs)) (parts g.numbered t)) g.histories.legal);
  }

  fitting : (a : ℕ) → AllFit (of_alloc a (merged logs))
  fitting a e there =
      let p = in_part a (merged logs) e there in
      let l = log_of_entry logs e p.0 in
      logs_fit x limits main logs threads r l.0 e (record { 0 = a }) l.1 l.2 (named_some e.alloc a p.1)

  pub run_good : MergesToRun (source x) objects (allowed limits hosts) limits (source_start x main []) (merged logs) → IsGoodMerge limits hosts (merged logs)
  run_good m =
      let run = subst (λ s. Interleaves (source x) objects (allowed limits hosts) (first_world (source x) objects s) (merged logs)) (sym r.first) m.run in
      let both = separated (source x) objects (allowed limits hosts) limits.turns r.starts (end_of logs) (merged logs) (λ t. 0 == t) (first_world (source x) objects (r.starts 0)) run
      (λ t. at_start (source x) limits.turns r.starts (end_of logs) t (of_thread t (merged logs)) (parts m.numbered t)) joins in
      record {
        numbered = m.numbered;
        within = m.within;
        turns = (from_start (allowed limits hosts) (end_of logs) (merged logs) joins).0 both.0;
        histories = record { legal = both.1; fitting = fitting };
      }
