-- A right record whose numbers are in range is that of its text.
use Rattle.std.proofs.Common.{◌≡◌, ℕ, zero, suc, ◌+◌, ◌<◌, List, [], ◌∷◌, map, take, refl, sym, ◌∙◌, ap, subst, inl, inr, arith}
use Rattle.std.specs.Prelude.{Some, slice_get}
use Rattle.std.specs.List.{AllByRecursion, slice_index}
use Rattle.std.specs.List.Sorted.{IsStrictlyIncreasing}
use Rattle.bsan_ids.specs.declared.numbers.Limits.{Limits}
use Rattle.history.specs.declared.entry.Entry.{Entry}
use Rattle.history.specs.declared.log.ThreadLog.{ThreadLog}
use Rattle.history.specs.declared.record.RunRecord.{RunRecord}
use Rattle.ir_ast.specs.declared.hosts.HostTable.{HostTable}
use Rattle.ir_ast.specs.declared.program.Program.{Program}
use Rattle.record_text.specs.Lines.{record_text}
use Rattle.record_text.specs.Ranges.{CountersFit}
use Rattle.record_text.specs.Texts.{IsTextOf, LogFits, alloc_logs, number_of_log}
use Rattle.runs.specs.Interleaving.{first_world}
use Rattle.runs.specs.Merge.{IsOwn, merged}
use Rattle.runs.specs.Objects.{objects}
use Rattle.runs.specs.Parts.{Has}
use Rattle.runs.specs.Right.{NumbersRiseFrom}
use Rattle.runs.proofs.MergeLaws.{merged_is_merge}
use Rattle.runs.proofs.ReplayRight.{run_legal}
use Rattle.runs.proofs.RightMerges.{right_may_merge, run_own}
use Rattle.runs.proofs.Tracking.{some_inj}
use Rattle.runs.proofs.Tying.{in_merge}
use Rattle.source_sem.specs.Records.{allowed, IsRightRecord}
use Rattle.source_sem.specs.Source.{source}
use Rattle.source_sem.specs.Starting.{main_of, main_start, setting_of}
use Rattle.record_file.specs.Naming.{HasNamed}
use Rattle.record_file.proofs.ByNumber.{histories_iff}
use Rattle.record_file.proofs.Naming.{run_names}

-- one more element of a list --------------------------------------------------------------

all_suc : {X : Type 0} (P : X → Type 0) (xs : List X) (k : ℕ) (x : X) → slice_get xs k ≡ Some x → AllByRecursion P (take k xs) → P x → AllByRecursion P (take (suc k) xs)
all_suc P [] k x is all one = absurd (cc)
all_suc P (y ∷ ys) zero x is all one = (subst P (sym (some_inj is)) one, tt)
all_suc P (y ∷ ys) (suc k) x is all one = (all.0, all_suc P ys k x is all.1 one)

pub all_more : {X : Type 0} (P : X → Type 0) (xs : List X) (k : ℕ) (x : X) → slice_get xs k ≡ Some x → AllByRecursion P (take k xs) → P x → AllByRecursion P (take (k + 1) xs)
all_more P xs k x is all one = let up : suc k ≡ k + 1 = omega arith in subst (λ (n : ℕ). AllByRecursion P (take n xs)) up (all_suc P xs k x is all one)

-- numbers that rise -------------------------------------------------------------------------

none_rise : IsStrictlyIncreasing []
none_rise k lt = absurd (omega arith)

one_rises : (n : ℕ) → IsStrictlyIncreasing (n ∷ [])
one_rises n k lt = absurd (omega arith)

more_rise : (x y : ℕ) (ys : List ℕ) → x < y → IsStrictlyIncreasing (y ∷ ys) → IsStrictlyIncreasing (x ∷ y ∷ ys)
more_rise x y ys h up zero lt = h
more_rise x y ys h up (suc k) lt =
    let e : suc k + 1 ≡ suc (k + 1) = omega arith in
    subst (λ (i : ℕ). slice_index (x ∷ y ∷ ys) (suc k) < slice_index (x ∷ y ∷ ys) i) (sym e) (up k (omega arith))

numbers_rise : (n : ℕ) (logs : List ThreadLog) → NumbersRiseFrom n logs → IsStrictlyIncreasing (map number_of_log logs)
numbers_rise n [] r = none_rise
numbers_rise n (l ∷ []) r = one_rises l.number.0
numbers_rise n (l ∷ m ∷ ls) r =
    let above = r.1.0 in
    more_rise l.number.0 m.number.0 (map number_of_log ls) (omega (arith, above)) (numbers_rise (suc l.number.0) (m ∷ ls) r.1)

-- threads -------------------------------------------------------------------------------------

own_thread : (t : ℕ) (es : List Entry) (e : Entry) → IsOwn t es → Has es e → e.thread.0 ≡ t
own_thread t [] e own there = absurd there
own_thread t (x ∷ es) e own (inl same) = ap (λ (z : Entry). z.thread.0) (sym same) ∙ own.0
own_thread t (x ∷ es) e own (inr there) = own_thread t es e own.1 there

module _ (program : Program) (input : List ℕ) (hosts : HostTable) (limits : Limits) (kept : RunRecord) (r : IsRightRecord program input hosts limits kept) where
  -- each entry is of its log's thread, and names its allocation
  pub right_names : (log : ThreadLog) → Has kept.threads log → HasNamed log
  right_names log there e own =
      let run = r.right.runs.runs log there in (
        own_thread log.number.0 log.entries e (run_own (source (setting_of program input hosts)) limits r.right.runs.starts log run) own,
        run_names (source (setting_of program input hosts)) (allowed limits hosts)
            (first_world (source (setting_of program input hosts)) objects (main_start (setting_of program input hosts))) (merged kept.threads) (λ a. refl)
            r.right.run.run e (in_merge kept.threads log e there own),
      )

  -- the allocation logs are those that its text tells
  right_allocs : kept.allocs ≡ alloc_logs limits.allocs kept.threads
  right_allocs =
      let may = right_may_merge (source (setting_of program input hosts)) objects (allowed limits hosts) limits (main_of program) (main_start (setting_of program input hosts)) kept r.right in
      let merge = merged_is_merge kept.threads r.right.threads.rise may in
      (histories_iff objects limits kept.threads kept.allocs (merged kept.threads) merge
      (λ a. run_legal (source (setting_of program input hosts)) objects (allowed limits hosts)
      (first_world (source (setting_of program input hosts)) objects (main_start (setting_of program input hosts))) (merged kept.threads) a r.right.run.run)).1
      r.right.histories

  pub right_text : AllByRecursion LogFits kept.threads → CountersFit kept.words → IsTextOf limits.allocs (record_text kept) kept
  right_text logs words = record {
    text = refl;
    fits = record { rising = numbers_rise 0 kept.threads r.right.threads.rise; threads = logs; words = words };
    allocs = right_allocs;
  }
