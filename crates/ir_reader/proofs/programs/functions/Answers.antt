use Rattle.std.proofs.Common.{◌≡◌, ℕ, refl, sym, ◌∙◌, ap, List, [], ◌∷◌, ◌++◌}
use Rattle.std.proofs.lemmas.Result.{err_from_is_err_and}
use Rattle.ir_ast.specs.declared.program.Function.{Function}
use Rattle.ir_reader.specs.View.{lexes, with_front}
use Rattle.ir_reader.specs.Blocks.{after_function, more_functions_at, functions_at}
use Rattle.ir_reader.proofs.InstSteps.{functions_is, functions_fail_as, pairs}
use Rattle.ir_reader.proofs.programs.functions.Goals as goal

pub returns-in_err-first : goal.returns-in_err-first
returns-in_err-first c =
    let p = err_from_is_err_and c.from_residual.result c.from_residual.ensures.1 in
    rw (p.1, p.2) (functions_fail_as c.args.version c.args.text.now c.in_err-first.field-0.0 (lexes c.args.text.now c.args.tokens.now) c.in_err-first.ensures.read)

pub returns : goal.returns
returns c =
    let ts = lexes c.args.text.now c.args.tokens.now in
    let rest = lexes c.args.text.now c.in_ok-first.rest.now in
    let f = c.in_ok-first.first in
    let front : c.push.new.self ≡ f ∷ [] = c.in_ok-push.ensures.ok ∙ ap (λ (z : List Function). z ++ f ∷ []) c.new-front.ensures in
    let behind : after_function (0, 0) f ≡ (1, c.in_ok-first.behind) = pairs 1 (after_function (0, 0) f).1 1 c.in_ok-first.behind refl (sym c.in_ok-first.ensures.behind) in
    let whole : functions_at c.args.version ts ≡ with_front c.push.new.self (more_functions_at c.args.version (1, c.in_ok-first.behind) rest) =
    functions_is c.args.version ts f rest c.in_ok-first.ensures.read
    ∙ ap (λ (z : ℕ × ℕ). with_front (f ∷ []) (more_functions_at c.args.version z rest)) behind
    ∙ ap (λ (z : List Function). with_front z (more_functions_at c.args.version (1, c.in_ok-first.behind) rest)) (sym front) in
    rw whole c.more_functions.ensures
