-- What is found of the parts of a record is the answer of it.
use Rattle.std.proofs.Common.{◌≡◌, ◌↔◌, ℕ, true, false, List, refl, sym, subst}
use Rattle.std.specs.Prelude.{None, Some}
use Rattle.bsan_ids.specs.declared.numbers.Limits.{Limits}
use Rattle.history.specs.declared.log.ThreadLog.{ThreadLog}
use Rattle.history.specs.declared.record.RunRecord.{RunRecord}
use Rattle.ir_ast.specs.declared.hosts.HostTable.{HostTable}
use Rattle.ir_ast.specs.declared.program.Program.{Program}
use Rattle.runs.specs.Merge.{merged}
use Rattle.runs.specs.Objects.{objects}
use Rattle.runs.specs.Interleaving.{first_world}
use Rattle.runs.specs.Parts.{Has}
use Rattle.runs.specs.Right.{HasRuns, HasThreads, StandsAsking, asks_make, asks_spawn}
use Rattle.source_sem.specs.Records.{allowed, IsRightRecord}
use Rattle.source_sem.specs.Source.{Setting, source}
use Rattle.source_sem.specs.Starting.{main_of, main_start, setting_of}
use Rattle.source_runs.proofs.Erasing.{right_records_erase}
use Rattle.record_file.specs.declared.clauses.Checked.{Checked}
use Rattle.record_file.specs.declared.clauses.Checked.TheVariants.{Holds, Fails}
use Rattle.record_file.specs.declared.clauses.Clause.TheVariants.{A, B, C, D, F}
use Rattle.record_file.specs.declared.counters.Asking.{Asking}
use Rattle.record_file.specs.Checked.{HistoriesHold, IsAnswer, MergeHolds, RunsHold, ThreadsHold}
use Rattle.record_file.specs.AsWritten.{HasRunsAsWritten, StampsRise}
use Rattle.record_file.specs.Counts.{IsCount}
use Rattle.record_file.specs.Following.{first_thread, no_thread}
use Rattle.record_file.specs.Merging.{IsGoodMerge}
use Rattle.record_file.specs.Reaching.{AreAllRuns}
use Rattle.record_file.specs.Rest.{AreMerged, RestIs}
use Rattle.record_file.proofs.ByNumber.{histories_iff}
use Rattle.record_file.proofs.Merging.{good_run, merge_of, run_good}
use Rattle.record_file.proofs.RunsWritten.{StartOthers, in_logs, run_other, runs_of, same_count, turns_other, written_runs}

module _ (program : Program) (input : List ℕ) (hosts : HostTable) (limits : Limits) (kept : RunRecord) where
  x : Setting
  x = setting_of program input hosts

  -- where the first two clauses hold and stamps rise, the last three tell the answer
  module _ (threads : ThreadsHold program input hosts limits kept) (asking : Asking) (runs : AreAllRuns (Some asking) (setting_of program input hosts) limits (main_of program) kept.threads) where
    r : HasRunsAsWritten (source (setting_of program input hosts)) limits (main_start (setting_of program input hosts)) kept.threads
    r = runs.0

    pub falls_answer : (StampsRise kept.threads → ⊥) → IsAnswer program input hosts limits kept (Fails C)
    falls_answer falls = (threads, r, λ m. falls m.0)

    module _ (rise : StampsRise kept.threads) where
      of_good : IsGoodMerge limits hosts (merged kept.threads) → (log : ThreadLog) → Has kept.threads log → StartOthers log.entries
      of_good g = in_logs kept.threads (turns_other (allowed limits hosts) first_thread no_thread (merged kept.threads) g.turns)

      of_merge : MergeHolds program input hosts limits kept → (log : ThreadLog) → Has kept.threads log → StartOthers log.entries
      of_merge m = in_logs kept.threads (run_other (source (setting_of program input hosts)) objects (allowed limits hosts) (first_world (source (setting_of program input hosts)) objects (main_start (setting_of program input hosts))) (merged kept.threads) m.1.run)

      abbrev true_runs : ((log : ThreadLog) → Has kept.threads log → StartOthers log.entries) → HasRuns (source (setting_of program input hosts)) limits (main_start (setting_of program input hosts)) kept.threads
      true_runs others = runs_of (source (setting_of program input hosts)) limits (main_start (setting_of program input hosts)) kept.threads rise others r

      to_run : IsGoodMerge limits hosts (merged kept.threads) → MergeHolds program input hosts limits kept
      to_run g = (rise, good_run (setting_of program input hosts) limits hosts (main_of program) kept.threads threads (true_runs (of_good g)) g)

      from_run : MergeHolds program input hosts limits kept → IsGoodMerge limits hosts (merged kept.threads)
      from_run m = run_good (setting_of program input hosts) limits hosts (main_of program) kept.threads threads (true_runs (of_merge m)) m.1

      same_histories : IsGoodMerge limits hosts (merged kept.threads) → AreMerged limits kept ↔ HistoriesHold program input hosts limits kept
      same_histories g =
          histories_iff objects limits kept.threads kept.allocs (merged kept.threads)
          (merge_of (setting_of program input hosts) limits hosts (main_of program) kept.threads threads (true_runs (of_good g)) g.numbered) g.histories.legal

      makes : IsGoodMerge limits hosts (merged kept.threads) → (q : RunsHold program input hosts limits kept) → IsCount (StandsAsking (source (setting_of program input hosts)) asks_make limits q.starts) kept.threads asking.makes
      makes g q = same_count (source (setting_of program input hosts)) limits q.starts asks_make kept.threads (of_good g) asking.makes (runs.1 q).0

      spawns : IsGoodMerge limits hosts (merged kept.threads) → (q : RunsHold program input hosts limits kept) → IsCount (StandsAsking (source (setting_of program input hosts)) asks_spawn limits q.starts) kept.threads asking.spawns
      spawns g q = same_count (source (setting_of program input hosts)) limits q.starts asks_spawn kept.threads (of_good g) asking.spawns (runs.1 q).1

      pub rest_answers : (found : Checked) → RestIs limits hosts kept asking found → IsAnswer program input hosts limits kept found
      rest_answers Holds h =
          right_records_erase program input hosts limits kept (record {
            threads = threads;
            runs = true_runs (of_good h.0);
            run = (to_run h.0).1;
            histories = (same_histories h.0).0 h.1;
            counts = (h.2 (setting_of program input hosts) r.starts (makes h.0 r) (spawns h.0 r)).0 refl;
          })
      rest_answers (Fails A) h = absurd h
      rest_answers (Fails B) h = absurd h
      rest_answers (Fails C) h = (threads, r, λ m. h (from_run m))
      rest_answers (Fails D) h = (threads, r, to_run h.0, λ d. h.1 ((same_histories h.0).1 d))
      rest_answers (Fails F) h = (
        threads,
        r,
        to_run h.0,
        (same_histories h.0).0 h.1,
        λ f. (let no : false ≡ true = (h.2 (setting_of program input hosts) f.0.starts (makes h.0 f.0) (spawns h.0 f.0)).1 f.1 in cc),
      )

  -- the same of what is found of the logs from main's number on
  module _ (y : Setting) (main : ℕ) (logs : List ThreadLog) (setting : y ≡ setting_of program input hosts) (is_main : main ≡ main_of program) (are : logs ≡ kept.threads)
      (threads : HasThreads main logs) (asking : Asking) (runs : AreAllRuns (Some asking) y limits main logs) where
    own_threads : ThreadsHold program input hosts limits kept
    own_threads = subst (λ (n : ℕ). HasThreads n kept.threads) is_main (subst (HasThreads main) are threads)

    own_runs : AreAllRuns (Some asking) (setting_of program input hosts) limits (main_of program) kept.threads
    own_runs =
        subst (λ (z : Setting). AreAllRuns (Some asking) z limits (main_of program) kept.threads) setting
        (subst (λ (n : ℕ). AreAllRuns (Some asking) y limits n kept.threads) is_main
        (subst (AreAllRuns (Some asking) y limits main) are runs))

    pub fallen : (StampsRise logs → ⊥) → IsAnswer program input hosts limits kept (Fails C)
    fallen falls = falls_answer own_threads asking own_runs (λ rise. falls (subst StampsRise (sym are) rise))

    pub answer_of : StampsRise logs → (found : Checked) → RestIs limits hosts kept asking found → IsAnswer program input hosts limits kept found
    answer_of rise = rest_answers own_threads asking own_runs (subst StampsRise are rise)

  -- nor are the logs runs, where what is found from main's number on says so
  pub unanswered : (y : Setting) (main : ℕ) (logs : List ThreadLog) → y ≡ setting_of program input hosts → main ≡ main_of program → logs ≡ kept.threads → HasThreads main logs
      → AreAllRuns None y limits main logs → IsAnswer program input hosts limits kept (Fails B)
  unanswered y main logs setting is_main are threads none = (
    subst (λ (n : ℕ). HasThreads n kept.threads) is_main (subst (HasThreads main) are threads),
    subst (λ (z : Setting). AreAllRuns None z limits (main_of program) kept.threads) setting
        (subst (λ (n : ℕ). AreAllRuns None y limits n kept.threads) is_main
        (subst (AreAllRuns None y limits main) are none)),
  )

  abbrev written : IsRightRecord program input hosts limits kept → RunsHold program input hosts limits kept
  written right = written_runs (source (setting_of program input hosts)) limits (main_start (setting_of program input hosts)) kept.threads right.right.runs

  stamps_rise : IsRightRecord program input hosts limits kept → StampsRise kept.threads
  stamps_rise right log there = (right.right.runs.runs log there).rises

  -- the record is right exactly where it is found so
  pub holds_iff : (found : Checked) → IsAnswer program input hosts limits kept found → (found ≡ Holds) ↔ IsRightRecord program input hosts limits kept
  holds_iff Holds h = (λ is. h, λ right. refl)
  holds_iff (Fails A) h = (λ is. absurd (cc), λ right. absurd (h right.right.threads))
  holds_iff (Fails B) h = (λ is. absurd (cc), λ right. absurd (h.1 (written right)))
  holds_iff (Fails C) h = (λ is. absurd (cc), λ right. absurd (h.2 (stamps_rise right, right.right.run)))
  holds_iff (Fails D) h = (λ is. absurd (cc), λ right. absurd (h.3 right.right.histories))
  holds_iff (Fails F) h = (λ is. absurd (cc), λ right. absurd (h.4 (written right, right.right.counts)))
