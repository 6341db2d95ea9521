use Rattle.std.proofs.Common.{◌≡◌, ℕ, ◌+◌, List, take, sym, ap, subst, ◌∙◌, Bor, bytes_eq}
use Rattle.std.specs.BTreeMap.{BTreeMap}
use Rattle.ir_rules.specs.Rules.{held}
use Rattle.ir_rules.specs.Seen.{seen, holds_of}
use Rattle.ir_rules.specs.declared.events.Held.{Held}
use Rattle.ir_rules.specs.declared.events.Occurrence.{Occurrence}
use Rattle.ir_rules.specs.Walk.{held_in, or_first}
use Rattle.ir_rules.proofs.Table.{held_first, step_defines, step_uses}
use Rattle.ir_rules.proofs.tables.registers.Goals as goal
use Rattle.ir_rules.proofs.tables.registers.Goals.{in-Defines+in_ok-insert_first-in-Defines, in-Uses}

pub loop-event-preserved : goal.loop-event-preserved
loop-event-preserved c =
    let os = c.args.events.now in
    let i = c.loop-event.event-index in
    let o = c.event-item.result in
    elim c.match-event.branch [
      | in-Defines+in_ok-insert_first-in-Defines w ↦
          subst (λ (z : BTreeMap (Bor (List ℕ)) Held). (q : List ℕ) → held_in z q ≡ held (seen (take (i + 1) os)) q) (sym w.table-is)
          (step_defines os i o (held_in c.loop-event.table) (held_in w.insert_first.new.table) _ c.loop-event-test.true c.loop-event.invariant (sym (ap (λ (z : Occurrence). z.role) c.event-item.is) ∙ w.in-Defines.is)
          (λ q. held_first _ _ _ _ (w.in_ok-insert_first-in-Defines.ensures q) ∙ ap (λ (z : List ℕ). or_first (held_in c.loop-event.table q) (bytes_eq q z) (holds_of w.in-Defines.held)) (w.as_slice.ensures ∙ ap (λ (z : Occurrence). z.register.now.name) c.event-item.is)))
      | in-Uses w ↦
          subst (λ (z : BTreeMap (Bor (List ℕ)) Held). (q : List ℕ) → held_in z q ≡ held (seen (take (i + 1) os)) q) (sym w.table-is)
          (step_uses os i o (held_in c.loop-event.table) _ c.loop-event-test.true c.loop-event.invariant (sym (ap (λ (z : Occurrence). z.role) c.event-item.is) ∙ w.in-Uses.is))
    ]
