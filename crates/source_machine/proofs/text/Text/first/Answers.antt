use Rattle.std.proofs.Common.{◌≡◌, ◌≤◌, ◌∙◌, ap, sym, subst, List, ℕ, Some, None}
use Rattle.std.specs.Prelude.{slice_get}
use Rattle.ir_ast.specs.Lines.{most_instructions}
use Rattle.ir_ast.specs.Numbers.{blocks_end, number_of_function}
use Rattle.source_sem.specs.Source.{Setting}
use Rattle.source_machine.proofs.Numbers.{number_got, number_missed, number_within, program_within}
use Rattle.source_machine.proofs.text.Text.first.Goals as goal

pub unreachable-requires : goal.unreachable-requires
unreachable-requires c =
    let p = c.self.inside.program.now in
    number_missed p.program.functions c.args.number c.args.function.now c.deref.result.now (c.deref.ensures.value ∙ c.self.invariant)
    (subst (λ (z : Setting). slice_get z.program.functions c.args.number ≡ Some c.args.function.now) (sym c.self.view_is) c.requires) (sym c.in-None.ensures)

pub returns-clause-value : goal.returns-clause-value
returns-clause-value c =
    let p = c.self.inside.program.now in
    number_got p.program.functions c.args.number c.args.function.now c.deref.result.now c.in-Some.first.now (c.deref.ensures.value ∙ c.self.invariant)
    (subst (λ (z : Setting). slice_get z.program.functions c.args.number ≡ Some c.args.function.now) (sym c.self.view_is) c.requires) (sym c.in-Some.ensures)
    ∙ ap (λ (z : Setting). number_of_function 0 z.program.functions c.args.number) c.self.view_is

pub returns-clause-within : goal.returns-clause-within
returns-clause-within c =
    let p = c.self.inside.program.now in
    let is : slice_get p.program.functions c.args.number ≡ Some c.args.function.now =
    subst (λ (z : Setting). slice_get z.program.functions c.args.number ≡ Some c.args.function.now) (sym c.self.view_is) c.requires in
    subst (λ (m : ℕ). blocks_end m c.args.function.now.blocks ≤ most_instructions)
    (sym (number_got p.program.functions c.args.number c.args.function.now c.deref.result.now c.in-Some.first.now (c.deref.ensures.value ∙ c.self.invariant) is (sym c.in-Some.ensures)))
    (number_within 0 p.program.functions c.args.number c.args.function.now is (program_within p.program p.is_program))
