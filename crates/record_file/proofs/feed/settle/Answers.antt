use Rattle.std.proofs.Common.{◌≡◌, ◌<◌, arith, sym, ◌∙◌, ap}
use Rattle.std.proofs.lemmas.Bool.{true≢false}
use Rattle.history.specs.declared.ask.Ask.TheVariants as ask
use Rattle.source_machine.specs.Running.{Running}
use Rattle.source_sem.specs.Source.{source_ask, source_turn}
use Rattle.source_sem.proofs.Fresh.{turns_are_fresh}
use Rattle.record_file.proofs.Feeding.{turned_more}
use Rattle.record_file.proofs.feed.settle.Goals as goal
use Rattle.record_file.proofs.feed.settle.Goals.{else-begins-via-then-begins+else-instructions-turns, else-begins-via-else-begins}

pub loop-machine-preserved : goal.loop-machine-preserved
loop-machine-preserved c =
    let t = c.loop-machine.machine in
    let asks : source_ask t.setting t.thread ≡ ask.Turn = sym c.in_ok-step.ensures.asks ∙ c.in-Turn.is in
    let less : t.thread.count < c.args.turns = elim c.else-begins.branch [
      | else-begins-via-then-begins+else-instructions-turns w ↦ omega (arith, w.instructions.ensures, w.if-instructions-turns.false)
      | else-begins-via-else-begins w ↦ absurd (true≢false (sym (turns_are_fresh t.setting t.thread asks) ∙ (sym c.begins.ensures ∙ w.if-begins.false)))
    ] in
    let turned = ap (λ (m : Running). m.thread) c.turn.ensures ∙ ap (λ (m : Running). source_turn m.setting m.thread) c.in_ok-prepare-in-Turn.ensures.ok in
    let setting = ap (λ (m : Running). m.setting) c.turn.ensures ∙ ap (λ (m : Running). m.setting) c.in_ok-prepare-in-Turn.ensures.ok in
    turned_more c.args.machine.now.setting c.args.turns c.args.machine.now.thread t c.turn.new.self c.loop-machine.invariant asks (λ b. less) setting turned
