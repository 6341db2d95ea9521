use Rattle.std.proofs.Common.{◌≡◌, ◌↔◌, ◌≤◌, ◌<◌, ◌+◌, ℕ, suc, Bool, true, false, List, length, take, refl, sym, ◌∙◌, subst, inl, inr, arith}
use Rattle.std.specs.Prelude.{Some, slice_get}
use Rattle.std.proofs.lemmas.Bool.{true≢false}
use Rattle.std.proofs.lemmas.Option.{slice_get_read}
use Rattle.runs.specs.Merge.{all_entries}
use Rattle.record_file.specs.Family.{Marks, MarksLog, StartEach}
use Rattle.record_file.proofs.Marking.{first_of, has_at, threads_start}
use Rattle.record_file.proofs.Threading.{each_more, log_again_wrong, log_refused, log_taken, marks_next, replicated, take_end, threads_iff}
use Rattle.record_file.proofs.family.has_threads.Goals as goal
use Rattle.record_file.proofs.family.has_threads.Goals.{then-not-numbers_rise-via-then-not-numbers_rise, then-not-numbers_rise-via-else-not-numbers_rise+then-not-begins_right}

pub returns-then-not-numbers_rise : goal.returns-then-not-numbers_rise
returns-then-not-numbers_rise c = (
  λ f. absurd (true≢false (sym f)),
  λ h. absurd (elim c.then-not-numbers_rise.branch [
    | then-not-numbers_rise-via-then-not-numbers_rise w ↦ true≢false (sym (c.numbers_rise.ensures.1 h.rise) ∙ w.if-not-numbers_rise.true)
    | then-not-numbers_rise-via-else-not-numbers_rise+then-not-begins_right w ↦ true≢false (sym (w.begins_right.ensures.1 (first_of c.args.main c.args.logs.now h)) ∙ w.if-not-begins_right.true)
  ]),
)

pub returns-then-not-mark_all : goal.returns-then-not-mark_all
returns-then-not-mark_all c =
    let logs = c.args.logs.now in
    let first = c.in_ok-started.started.items in
    let mid = c.loop-log.started.items in
    let inv = c.loop-log.invariant in
    let log = c.log-item.result in
    let here = slice_get_read logs (length logs) c.loop-log.log-index log refl (omega arith) c.log-item.is in
    let none : (i : ℕ) (b : Bool) → slice_get first i ≡ Some b → b ≡ false = λ i b is. replicated _ i b (subst (λ (xs : List Bool). slice_get xs i ≡ Some b) (c.in_ok-started.ensures.items_if_clones_equal (λ y h. h)) is) in
    let marks = subst (λ es. MarksLog c.mark_all.result logs log.number mid es c.mark_all.new.started.items) c.as_slice.ensures c.mark_all.ensures.marks in
    let len : length mid ≡ length logs = omega (arith, inv.len, c.loop-log.started.ok.0) in
    let flen : length first ≡ length logs = omega (arith, c.in_ok-started.ensures.len, c.in_ok-started.started.ok.0) in (
      λ f. absurd (true≢false (sym f)),
      λ h. absurd (elim (log_refused c.mark_all.result logs log.number mid log.entries c.mark_all.new.started.items c.if-not-mark_all.true marks) [
        | inl wrong ↦ wrong (threads_start c.args.main logs h log (has_at logs c.loop-log.log-index log here))
        | inr again ↦ log_again_wrong logs first none c.args.main c.loop-log.log-index log mid here len flen inv.marks again h
      ]),
    )

pub loop-log-preserved : goal.loop-log-preserved
loop-log-preserved c =
    let logs = c.args.logs.now in
    let first = c.in_ok-started.started.items in
    let mid = c.loop-log.started.items in
    let inv = c.loop-log.invariant in
    let log = c.log-item.result in
    let k = c.loop-log.log-index in
    let here = slice_get_read logs (length logs) k log refl (omega arith) c.log-item.is in
    let marks = subst (λ es. MarksLog c.mark_all.result logs log.number mid es c.mark_all.new.started.items) c.as_slice.ensures c.mark_all.ensures.marks in
    let len : length mid ≡ length logs = omega (arith, inv.len, c.loop-log.started.ok.0) in
    let one = log_taken c.mark_all.result logs log.number mid log.entries c.mark_all.new.started.items c.if-not-mark_all.false marks in
    let up : suc k ≡ k + 1 = omega arith in
    record {
      len = c.mark_all.ensures.len;
      each = subst (λ n. StartEach logs (take n logs)) up (each_more logs first k log here inv.each one.0);
      marks = subst (λ n. Marks logs first (all_entries (take n logs)) c.mark_all.new.started.items) up (marks_next logs first k log mid c.mark_all.new.started.items here len inv.marks one.1);
    }

pub returns : goal.returns
returns c =
    let logs = c.args.logs.now in
    let first = c.in_ok-started.started.items in
    let after = c.loop-log.started.items in
    let inv = c.loop-log.invariant in
    let none : (i : ℕ) (b : Bool) → slice_get first i ≡ Some b → b ≡ false = λ i b is. replicated _ i b (subst (λ (xs : List Bool). slice_get xs i ≡ Some b) (c.in_ok-started.ensures.items_if_clones_equal (λ y h. h)) is) in
    let len : length after ≡ length logs = omega (arith, inv.len, c.loop-log.started.ok.0) in
    let flen : length first ≡ length logs = omega (arith, c.in_ok-started.ensures.len, c.in_ok-started.started.ok.0) in
    let all : take c.loop-log.log-index logs ≡ logs = take_end logs c.loop-log.log-index (omega arith) in
    let each : StartEach logs logs = subst (λ ls. StartEach logs ls) all inv.each in
    let marks : Marks logs first (all_entries logs) after = subst (λ ls. Marks logs first (all_entries ls) after) all inv.marks in
    let iff = threads_iff logs first none c.args.main (c.numbers_rise.ensures.0 c.if-not-numbers_rise.false) (c.begins_right.ensures.0 c.if-not-begins_right.false) each after len flen marks in
    let marked : (c.all_marked.result ≡ true) ↔ ((i : ℕ) → 1 ≤ i → i < length after → slice_get after i ≡ Some true) =
    subst (λ (xs : List Bool). (c.all_marked.result ≡ true) ↔ ((i : ℕ) → 1 ≤ i → i < length xs → slice_get xs i ≡ Some true)) c.deref.ensures.value c.all_marked.ensures in
    (λ t. iff.0 (marked.0 t), λ h. marked.1 (iff.1 h))
