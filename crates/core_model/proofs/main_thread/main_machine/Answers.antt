use Rattle.std.proofs.Common.{rules, ◌≡◌, ◌∙◌, sym, ap, subst, List, length, ◌<◌}
use Rattle.std.specs.Prelude.{codes}
use Rattle.ir_ast.specs.Numbers.{function_place}
use Rattle.ir_ast.specs.declared.program.Function.{Function}
use Rattle.std.proofs.lemmas.Option.{slice_get_within}
use Rattle.source_sem.specs.Starting.{main_of}
use Rattle.source_runs.proofs.Worlds.{main_there}
use Rattle.core_model.proofs.main_thread.main_machine.Goals as goal

pub start-requires-clause-there : goal.start-requires-clause-there
start-requires-clause-there c =
    let v = c.args.program.now in
    let main = main_there v.program v.hosts v.is_program v.accepted in
    let same : c.as_slice-functions.result.now ≡ v.program.functions = search rules in
    subst (λ n. n < length v.program.functions) (sym (c.function_number-function.ensures ∙ ap (λ (fs : List Function). function_place fs (codes "main")) same)) (slice_get_within v.program.functions (main_of v.program) main.0 main.1)
