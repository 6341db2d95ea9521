-- The tree of main with what the space ends with is a whole run.
use Rattle.std.proofs.Common.{◌≡◌, ℕ, zero, suc, ◌+◌, ◌-◌, ◌<◌, ◌≤◌, List, [], ◌∷◌, length, refl, sym, ◌∙◌, ap, subst, arith, sum_by}
use Rattle.std.specs.Prelude.{Some, None, slice_get, IsPermutation}
use Rattle.std.specs.declared.option.Option.{Option}
use Rattle.std.specs.List.Sorted.{IsNonDecreasingBy}
use Rattle.bsan_ids.specs.declared.numbers.Counters.{Counters}
use Rattle.bsan_ids.specs.declared.numbers.Limits.{Limits}
use Rattle.history.specs.declared.entry.Entry.{Entry}
use Rattle.history.specs.declared.log.ThreadLog.{ThreadLog}
use Rattle.history.specs.declared.record.RunRecord.{RunRecord}
use Rattle.ir_ast.specs.declared.hosts.HostTable.{HostTable}
use Rattle.ir_ast.specs.declared.program.Program.{Program}
use Rattle.runs.specs.Interleaving.{Legal}
use Rattle.runs.specs.Objects.{objects}
use Rattle.runs.specs.Parts.{Has}
use Rattle.runs.specs.Right.{history_of}
use Rattle.runs.specs.Tree.{IsClosedHistory, IsTree, IsWholeRun}
use Rattle.runs.proofs.MergeLaws.{above_first}
use Rattle.runs.proofs.ObjectLaws.{objects_make_alone}
use Rattle.runs.proofs.WholeRuns.{whole_runs_are_right, numbers_differ}
use Rattle.source_runs.proofs.Erasing.{right_records_erase}
use Rattle.source_sem.specs.Records.{allowed, IsRightRecord}
use Rattle.source_sem.specs.Source.{Setting, Source, source}
use Rattle.source_sem.specs.Starting.{setting_of, main_of, main_start}
use Rattle.turn_lock.specs.Closing.{AreCounts, IsWhole}
use Rattle.turn_lock.specs.Plays.{DeskView}
use Rattle.turn_lock.specs.Weights.{naming}
use Rattle.alloc_state.specs.Log.{Log}
use Rattle.interp.specs.Answers.{IsAnswer}
use Rattle.interp.specs.Running.{view_of}
use Rattle.interp.specs.Views.{ThreadView}
use Rattle.instr_sound.specs.Mains.{IsMain}
use Rattle.run_memory.specs.States.{AreLegal, named_in}
use Rattle.interp.specs.Wholes.{number_of_log}
use Rattle.interp.proofs.Histories.{sum_counts, logs_legal, rises_of, entries_exact, stamps_above, AreNumbered, numbered_from, history_at, logs_rise}
use Rattle.interp.proofs.Sorting.{sorted_rise}

-- what main's native thread answers, said of the program's main
pub main_answers : {T : Type 0} (setting : T → Setting) (state : T → Source) (hosts : HostTable) (function : ℕ) (m : T) (limits : Limits) (old desk : DeskView) (logs : List ThreadLog) → IsMain setting state hosts function m
    → IsAnswer limits hosts (record { 0 = 0 }) None function (view_of setting state m) old logs desk
    → IsAnswer limits hosts (record { 0 = 0 }) None (main_of (setting m).program) (record { setting = setting_of (setting m).program (setting m).input hosts; state = main_start (setting_of (setting m).program (setting m).input hosts) }) old logs desk
main_answers setting state hosts function m limits old desk logs main a =
    let y : Setting = setting_of (setting m).program (setting m).input hosts in
    let from : ThreadView = record { setting = y; state = main_start y } in
    let same : view_of setting state m ≡ from = view_same (setting m) y (state m) main.runnable.setting main.state_is in
    subst (λ v. IsAnswer limits hosts (record { 0 = 0 }) None (main_of (setting m).program) v old logs desk) same
    (subst (λ f. IsAnswer limits hosts (record { 0 = 0 }) None f (view_of setting state m) old logs desk) main.function_is a)
  where
    view_same : (x y : Setting) (s : Source) → x ≡ y → s ≡ main_start x → (let v : ThreadView = record { setting = x; state = s } in v) ≡ record { setting = y; state = main_start y }
    view_same x y s same is = cc

abbrev pub AreWhole : DeskView → List Log → Type 0
AreWhole desk states = (k : ℕ) (x : Log) → slice_get states k ≡ Some x → IsWhole (λ (s : Log). s.number.0) (λ (s : Log). s.entries) desk.view (suc k) x

none_within : {A : Type 0} (ss : List A) (k : ℕ) → k < length ss → slice_get ss k ≡ None → ⊥
none_within [] k lt is = absurd (omega (arith, lt))
none_within (s ∷ ss) zero lt is = cc
none_within (s ∷ ss) (suc k) lt is = none_within ss k (omega (arith, lt)) is

module _ (program : Program) (input : List ℕ) (hosts : HostTable) (limits : Limits) (old desk : DeskView) (logs : List ThreadLog) (words : Counters) (states : List Log)
    (answer : IsAnswer limits hosts (record { 0 = 0 }) None (main_of program) (record { setting = setting_of program input hosts; state = main_start (setting_of program input hosts) }) old logs desk) (fresh : old.view.seen ≡ 0)
    (counts : AreCounts desk.view words.stamps words.allocs words.threads) (many : length states ≡ limits.allocs) (whole : AreWhole desk states) (legal : AreLegal (named_in states)) where
  abbrev x : Setting
  x = setting_of program input hosts

  above : (l : ThreadLog) (e : Entry) → Has logs l → Has l.entries e → 0 < e.stamp.0
  above l e h g = let a = above_first old.view.seen l.entries e (answer.tree.later l h).0 g in omega (arith, a, fresh)

  numbered : AreNumbered 0 states
  numbered = numbered_from 0 states (λ k s is. (whole k s is).numbered ∙ (let same : suc k ≡ suc (0 + k) = omega arith in same))

  closed : (a : ℕ) → 0 < a → a ≤ limits.allocs → IsClosedHistory objects logs a (history_of (named_in states) a)
  closed a low high = by_state (a - 1) (omega (arith, low)) (slice_get states (a - 1)) refl
    where
      by_state : (k : ℕ) → suc (0 + k) ≡ a → (o : Option Log) → slice_get states k ≡ o → IsClosedHistory objects logs a (history_of (named_in states) a)
      by_state k place (Some s) is =
          let w = whole k s is in
          let exact : (h : Entry → ℕ) → sum_by h s.entries ≡ sum_by (naming a h) desk.view.calls = λ h. subst (λ n. sum_by h s.entries ≡ sum_by (naming n h) desk.view.calls) (omega (arith, place)) (w.exact h) in
          let same : s.entries ≡ history_of (named_in states) a = sym (history_at 0 k states s numbered is) ∙ ap (history_of (named_in states)) place in
          subst (λ es. IsClosedHistory objects logs a es) same (record {
            rises = rises_of 0 s.entries (stamps_above limits logs desk.view.calls answer.desk.calls above a low high s.entries exact) w.rising;
            legal = subst (λ es. Legal objects (objects.unmade a) es) (sym same) (logs_legal (named_in states) a legal);
            exact = entries_exact limits logs desk.view.calls answer.desk.calls above a low high s.entries exact;
          })
      by_state k place None is = absurd (none_within states k (omega (arith, place, high, many)) is)

  whole_run : IsWholeRun (source x) objects (allowed limits hosts) limits (main_of program) (main_start x) logs (named_in states) words
  whole_run = record {
    idle_allocs = answer.idle_allocs;
    idle_threads = answer.idle_threads;
    tree = subst (λ n. IsTree (source x) objects (allowed limits hosts) limits (record { 0 = 0 }) None (main_of program) (main_start x) n logs answer.idle_allocs answer.idle_threads) fresh answer.tree;
    stamps_drawn = λ h. sym (answer.desk.stamps h) ∙ (counts.stamps_are h ∙ sum_counts h words.stamps);
    allocs_drawn = λ h. sym (answer.desk.allocs h) ∙ (counts.allocs_are h ∙ sum_counts h words.allocs);
    threads_drawn = λ h. sym (answer.desk.threads h) ∙ (counts.threads_are h ∙ sum_counts h words.threads);
    rise = logs_rise 0 limits.allocs states numbered (omega (arith, many));
    histories = closed;
  }

  pub run_is_right : (kept : RunRecord) → kept.allocs ≡ named_in states → kept.words ≡ words → IsPermutation logs kept.threads → IsNonDecreasingBy number_of_log kept.threads → IsRightRecord program input hosts limits kept
  run_is_right kept allocs counters same up =
      let all : IsWholeRun (source x) objects (allowed limits hosts) limits (main_of program) (main_start x) logs kept.allocs kept.words = rw (allocs, counters) whole_run in
      let differ = numbers_differ (source x) objects (allowed limits hosts) limits (main_of program) (main_start x) logs kept.allocs kept.words all in
      right_records_erase program input hosts limits kept
      (whole_runs_are_right (source x) objects (allowed limits hosts) limits (main_of program) (main_start x) logs kept refl objects_make_alone all same (sorted_rise logs kept.threads same up differ))
