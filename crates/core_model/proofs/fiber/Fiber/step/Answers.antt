use Rattle.std.proofs.Common.{◌≡◌, ◌∙◌, sym, ap, subst}
use Rattle.history.specs.Replies.{Answers}
use Rattle.source_sem.specs.Source.{source_ask}
use Rattle.core_model.specs.Fibers.{Seen}
use Rattle.source_sem.proofs.RequestLaws.{requests_fit}
use Rattle.core_model.proofs.StepFacts.{step_answers}
use Rattle.core_model.proofs.fiber.Fiber.step.Goals as goal

pub answer-requires-clause-asks : goal.answer-requires-clause-asks
answer-requires-clause-asks g c =
    let x = g.T.Thread.setting c.args.self.now.thread in
    let s = g.T.Thread.state c.args.self.now.thread in
    let t = c.make_room.new.self.thread in
    let same : source_ask (g.T.Thread.setting t) (g.T.Thread.state t) ≡ source_ask x s = ap (λ (f : Seen). source_ask f.setting f.state) c.make_room.ensures.seen in
    let asked : c.args.ask ≡ source_ask (g.T.Thread.setting t) (g.T.Thread.state t) = c.requires.asks ∙ sym same in
    subst (λ a. Answers a c.in-Done.entry) asked
    (step_answers _ _ _ _ _ c.args.ask _ c.in-Done.entry (λ b r is. (requests_fit x).numbered s b r (sym c.requires.asks ∙ is)) c.in-Done.ensures)
