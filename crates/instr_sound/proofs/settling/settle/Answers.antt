use Rattle.std.proofs.Common.{◌≡◌, ◌<◌, ◌+◌, arith, sym, ◌∙◌, ap, subst}
use Rattle.std.proofs.lemmas.Bool.{true≢false}
use Rattle.history.specs.declared.ask.Ask.TheVariants as ask
use Rattle.runs.specs.Machine.{SettlesWithin}
use Rattle.runs.proofs.Feeding.{settles_one_more}
use Rattle.source_sem.specs.Source.{Setting, Source, source, source_ask, source_turn}
use Rattle.source_sem.proofs.Fresh.{turns_are_fresh}
use Rattle.source_sem.proofs.Stepping.{instructions_count}
use Rattle.instr_sound.proofs.settling.settle.Goals as goal
use Rattle.instr_sound.proofs.settling.settle.Goals.{else-begins-via-then-begins+else-instructions-turns, else-begins-via-else-begins}

pub loop-thread-preserved : goal.loop-thread-preserved
loop-thread-preserved g c =
    let x = g.T.Thread.setting c.args.thread.now in
    let s = g.T.Thread.state c.args.thread.now in
    let t = g.T.Thread.state c.loop-thread.thread in
    let u = g.T.Thread.state c.turn.new.self in
    let inv = c.loop-thread.invariant in
    let asks : source_ask x t ≡ ask.Turn = ap (λ (y : Setting). source_ask y t) (sym inv.setting) ∙ (sym c.in-Ok.ensures.asks ∙ c.in-Turn.is) in
    let less : t.count < c.args.turns = elim c.else-begins.branch [
      | else-begins-via-then-begins+else-instructions-turns w ↦ omega (arith, inv.within)
      | else-begins-via-else-begins w ↦ absurd (true≢false (sym (turns_are_fresh x t asks) ∙ (sym c.begins.ensures ∙ w.if-begins.false)))
    ] in
    let same_setting : g.T.Thread.setting c.turn.new.self ≡ x = c.turn.ensures.setting ∙ c.prepare.ensures.setting ∙ inv.setting in
    let turned : u ≡ source_turn x t = c.turn.ensures.state ∙ ap (λ (y : Setting). source_turn y (g.T.Thread.state c.prepare.new.self)) (c.prepare.ensures.setting ∙ inv.setting) ∙ ap (source_turn x) c.prepare.ensures.state in
    let counted : u.count ≡ t.count + 1 = ap (λ (z : Source). z.count) turned ∙ (instructions_count x).turn t in
    record {
      setting = same_setting;
      turned = subst (λ z. SettlesWithin (source x) c.args.turns s z) (sym turned) (settles_one_more (source x) c.args.turns s t inv.turned asks (λ b. less));
      within = omega (arith, counted, less);
    }
