use Rattle.std.proofs.Common.{◌≡◌, ◌∙◌, sym, ap, length, arith, List, [], ◌∷◌, ◌++◌, ◌+◌}
use Rattle.std.proofs.lemmas.List.{length-map, length-append, map-append}
use Rattle.history.specs.declared.log.ThreadLog.{ThreadLog}
use Rattle.core_model.specs.Fibers.{seen, all_seen}
use Rattle.core_model.specs.Kept.{seen_log, seen_logs}
use Rattle.core_model.proofs.Keeping.{seen_more, seen_long}
use Rattle.core_model.proofs.plays.logs_of.Goals as goal

pub overflow_cast-number : goal.overflow_cast-number
overflow_cast-number g c =
    let few = c.requires in
    let left = c.loop-fiber.invariant.1 in
    let count : c.len.result ≡ length c.loop-fiber.yielded =
    c.len.ensures ∙ (ap (λ (l : List ThreadLog). length l) c.loop-fiber.invariant.0 ∙ (seen_long 0 (all_seen g.T.Thread.setting g.T.Thread.state c.loop-fiber.yielded)
    ∙ length-map c.loop-fiber.yielded (seen g.T.Thread.setting g.T.Thread.state))) in
    omega (arith, few, left, count)

pub loop-fiber-preserved : goal.loop-fiber-preserved
loop-fiber-preserved g c =
    let S = seen g.T.Thread.setting g.T.Thread.state in
    let ys = c.loop-fiber.yielded in
    let y = c.in-Some.fiber in
    let count : c.len.result ≡ 0 + length (all_seen g.T.Thread.setting g.T.Thread.state ys) =
    c.len.ensures ∙ (ap (λ (l : List ThreadLog). length l) c.loop-fiber.invariant.0 ∙ (seen_long 0 (all_seen g.T.Thread.setting g.T.Thread.state ys) ∙ (omega arith))) in
    let one = ap length c.in-Some.ensures.steps.0 in
    let left = c.loop-fiber.invariant.1 in
    let more = length-append ys (y ∷ []) in (
      c.in_ok-push.ensures.ok
          ∙ (ap (λ (l : ThreadLog). c.loop-fiber.logs ++ l ∷ []) (c.log_of.ensures ∙ ap (λ n. seen_log n (S y)) count)
          ∙ (ap (λ (l : List ThreadLog). l ++ seen_log (0 + length (all_seen g.T.Thread.setting g.T.Thread.state ys)) (S y) ∷ []) c.loop-fiber.invariant.0
          ∙ (sym (seen_more 0 (all_seen g.T.Thread.setting g.T.Thread.state ys) (S y)) ∙ ap (seen_logs 0) (sym (map-append S ys (y ∷ [])))))),
      omega (arith, one, left, more),
    )
