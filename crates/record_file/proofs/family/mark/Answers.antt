use Rattle.std.proofs.Common.{◌≡◌, ◌<◌, true, length, refl, sym, ◌∙◌, ap, inl, inr, arith}
use Rattle.std.specs.Prelude.{Some, slice_set}
use Rattle.std.proofs.lemmas.Bool.{true≢false}
use Rattle.std.proofs.lemmas.Option.{slice_get_read, get_or_from_slice_get}
use Rattle.bsan_ids.specs.declared.numbers.ThreadNo.{ThreadNo}
use Rattle.history.specs.declared.entry.Plain.TheVariants as plain
use Rattle.history.specs.declared.entry.Request.TheVariants as request
use Rattle.history.specs.declared.log.ThreadLog.{ThreadLog}
use Rattle.record_file.proofs.Marking.{child_there, has_at, marks_kept, marks_one, marked_again, set_here, set_other, starts_none, starts_right, wrong_start}
use Rattle.record_file.proofs.family.mark.Goals as goal
use Rattle.record_file.proofs.family.mark.Goals.{then-not-is_child_of-via-then-not-is_child_of, then-not-is_child_of-via-else-not-is_child_of+then-index}

pub returns-then-number-eq0-clause-marks : goal.returns-then-number-eq0-clause-marks
returns-then-number-eq0-clause-marks c =
    let e = c.args.entry.now in
    let asks : e.request ≡ request.Spawn c.in-Spawn.function = cc in
    let tells : e.reply.plain ≡ plain.Spawned c.in-Spawned.number = cc in
    let found = c.in-Some.ensures.found in
    let named = found.2 in
    let zero_is = ap (λ (n : ThreadNo). n.0) named ∙ c.if-number-eq0.true in (
      starts_right c.args.logs.now c.args.parent c.in-Spawned.number found.0 e c.in-Spawn.function asks tells (has_at c.args.logs.now c.in-Some.at found.0 found.1) named (inl zero_is),
      marks_kept c.args.logs.now c.args.started.now.items e (λ n other. starts_none e c.in-Spawned.number.0 n (child_there e c.in-Spawn.function c.in-Spawned.number asks tells) (λ same. other (sym same ∙ c.if-number-eq0.true))),
    )

pub returns-then-not-is_child_of-clause-marks : goal.returns-then-not-is_child_of-clause-marks
returns-then-not-is_child_of-clause-marks c =
    let logs = c.args.logs.now in
    let before = c.args.started.now.items in
    let at = c.in-Some.at in
    let e = c.args.entry.now in
    let asks : e.request ≡ request.Spawn c.in-Spawn.function = cc in
    let tells : e.reply.plain ≡ plain.Spawned c.in-Spawned.number = cc in
    let found = c.in-Some.ensures.found in
    let here : c.index-logs-at.result ≡ found.0 = c.index-logs-at.is ∙ get_or_from_slice_get logs at found.0 c.index-logs-at.result found.1 in
    let less : at < length before = omega (arith, c.in-Some.ensures.within, c.requires.len, c.args.started.now.ok.0) in
    elim c.then-not-is_child_of.branch [
      | then-not-is_child_of-via-then-not-is_child_of w ↦ inl (wrong_start logs c.requires.rise c.args.parent c.in-Spawned.number found.0 e c.in-Spawn.function asks tells (has_at logs at found.0 found.1) found.2 c.if-number-eq0.false
          (λ p q. true≢false (sym (c.is_child_of.ensures.1 (ap (λ (l : ThreadLog). l.parent) here ∙ p, ap (λ (l : ThreadLog). l.entry_function) here ∙ q)) ∙ w.if-not-is_child_of.true)))
      | then-not-is_child_of-via-else-not-is_child_of+then-index w ↦ inr (marked_again logs c.requires.rise at found.0 found.1 e
          (child_there e c.in-Spawn.function c.in-Spawned.number asks tells ∙ ap (λ (n : ThreadNo). Some n.0) (sym found.2)) before
          (slice_get_read before (length before) at w.index.result.now refl less w.index.ensures ∙ ap Some w.if-index.true)
          (λ z. c.if-number-eq0.false (sym (ap (λ (n : ThreadNo). n.0) found.2) ∙ z)))
    ]

pub returns-clause-marks : goal.returns-clause-marks
returns-clause-marks c =
    let logs = c.args.logs.now in
    let before = c.args.started.now.items in
    let at = c.in-Some.at in
    let e = c.args.entry.now in
    let asks : e.request ≡ request.Spawn c.in-Spawn.function = cc in
    let tells : e.reply.plain ≡ plain.Spawned c.in-Spawned.number = cc in
    let found = c.in-Some.ensures.found in
    let here : c.index-logs-at.result ≡ found.0 = c.index-logs-at.is ∙ get_or_from_slice_get logs at found.0 c.index-logs-at.result found.1 in
    let less : at < length before = omega (arith, c.in-Some.ensures.within, c.requires.len, c.args.started.now.ok.0) in
    let both = c.is_child_of.ensures.0 c.if-not-is_child_of.false in (
      starts_right logs c.args.parent c.in-Spawned.number found.0 e c.in-Spawn.function asks tells (has_at logs at found.0 found.1) found.2
          (inr (ap (λ (l : ThreadLog). l.parent) (sym here) ∙ both.0, ap (λ (l : ThreadLog). l.entry_function) (sym here) ∙ both.1)),
      marks_one logs c.requires.rise at found.0 found.1 e (child_there e c.in-Spawn.function c.in-Spawned.number asks tells ∙ ap (λ (n : ThreadNo). Some n.0) (sym found.2)) before (slice_set before at true)
          (slice_get_read before (length before) at c.index.result.now refl less c.index.ensures ∙ ap Some c.if-index.false) (set_here before at true less) (λ i apart. set_other before at i true apart),
    )
