use Rattle.std.proofs.Common.{◌≡◌, ◌+◌, List, ◌∙◌, ap, sym, subst, map, take, Bor, Vec, Global}
use Rattle.ir_ast.specs.declared.program.Named.{Named}
use Rattle.ir_rules.specs.Rules.{defined}
use Rattle.ir_rules.specs.declared.events.Occurrence.{Occurrence}
use Rattle.ir_rules.specs.Seen.{seen, event_of, event_by, holds_of}
use Rattle.ir_rules.proofs.Any.{take_whole}
use Rattle.ir_verify.proofs.Seconds.{defined_adds, defined_skips}
use Rattle.ir_verify.proofs.twice.definitions.Goals as goal
use Rattle.ir_verify.proofs.twice.definitions.Goals.{in-Defines+in_ok-push-in-Defines, in-Uses}

pub loop-occurrence-preserved : goal.loop-occurrence-preserved
loop-occurrence-preserved c =
    let os = c.args.occurrences.now in
    let i = c.loop-occurrence.occurrence-index in
    let item = c.occurrence-item.result in
    let lt = c.loop-occurrence-test.true in
    elim c.match-occurrence.branch [
      | in-Defines+in_ok-push-in-Defines w ↦
          subst (λ (z : Vec (Bor Named) Global). map (λ (n : Bor Named). n.now) z.items ≡ defined (seen (take (i + 1) os))) (sym w.names-is)
          (defined_adds event_of os i item c.loop-occurrence.names.items _ item.register (holds_of w.in-Defines.field-0) lt c.loop-occurrence.invariant w.in_ok-push-in-Defines.ensures.items
          (sym (ap event_of c.occurrence-item.is) ∙ ap (event_by item.register.now) w.in-Defines.is))
      | in-Uses w ↦
          subst (λ (z : Vec (Bor Named) Global). map (λ (n : Bor Named). n.now) z.items ≡ defined (seen (take (i + 1) os))) (sym w.names-is)
          (defined_skips event_of os i item c.loop-occurrence.names.items _ lt c.loop-occurrence.invariant
          (sym (ap event_of c.occurrence-item.is) ∙ ap (event_by item.register.now) w.in-Uses.is))
    ]

pub returns : goal.returns
returns c = c.loop-occurrence.invariant ∙ ap (λ (z : List Occurrence). defined (seen z)) (take_whole c.args.occurrences.now c.loop-occurrence.occurrence-index c.loop-occurrence-test.false)
