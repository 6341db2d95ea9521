use Rattle.std.proofs.Common.{◌∙◌, ap, sym}
use Rattle.ir_ast.specs.declared.program.Function.{Function}
use Rattle.ir_rules.proofs.Agree.{named_at, at_place}
use Rattle.ir_verify.proofs.names.function_named.Goals as goal

pub returns-in-Some : goal.returns-in-Some
returns-in-Some c =
    let items = c.args.table.now.functions.now in
    let q = c.args.name.now in
    c.get-in-Some.ensures.value ∙ ap (at_place items) (c.in-Some.ensures.value ∙ c.args.table.now.finds_functions q) ∙ sym (named_at (λ (f : Function). f.name.name) items q)

pub returns-in-None : goal.returns-in-None
returns-in-None c =
    let items = c.args.table.now.functions.now in
    let q = c.args.name.now in
    ap (at_place items) (c.in-None.ensures.value ∙ c.args.table.now.finds_functions q) ∙ sym (named_at (λ (f : Function). f.name.name) items q)
