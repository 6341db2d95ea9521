use Rattle.std.proofs.Common.{◌≡◌, ℕ, suc, ◌+◌, List, [], ◌∷◌, ◌++◌, sym, subst, ◌∙◌, add-one, arith}
use Rattle.std.specs.Prelude.{codes}
use Rattle.std.proofs.lemmas.Result.{err_from_is_err_and}
use Rattle.ir_ast.specs.Shapes.{IsFunction}
use Rattle.ir_ast.specs.declared.program.Function.{Function}
use Rattle.ir_reader.specs.View.{lexes, with_front}
use Rattle.ir_reader.specs.Wants.{begins_if, is_word}
use Rattle.ir_reader.specs.Blocks.{function_at, after_function, more_functions_at}
use Rattle.ir_reader.proofs.Singles.{Any}
use Rattle.ir_reader.proofs.BlockParts.{spell_function, function_phrase, function_begins, NoFunc}
use Rattle.ir_reader.proofs.InstSteps.{pairs}
use Rattle.ir_reader.proofs.Loop.{goes_on, is_done, breaks_as, falls}
use Rattle.ir_reader.proofs.programs.more_functions.Goals as goal

pub returns-in_err-next : goal.returns-in_err-next
unfolding more_functions_at
returns-in_err-next c =
    let p = err_from_is_err_and c.from_residual.result c.from_residual.ensures.1 in
    rw (p.1, p.2) (breaks_as (λ _. IsFunction c.args.version) spell_function Any (function_at c.args.version) (function_phrase c.args.version) after_function (begins_if (is_word (codes "func"))) (function_begins c.args.version) NoFunc (λ rest e. e) (λ _ _ _ _ _ _ _. tt) (c.loop-alloc.count, c.loop-alloc.before)
    c.args.text.now c.in_err-next.field-0.0 c.loop-alloc.found (lexes c.args.text.now c.loop-alloc.rest.now) (with_front c.args.front (more_functions_at c.args.version (c.args.functions, c.args.instructions) (lexes c.args.text.now c.args.tokens.now)))
    (sym c.begins_func.ensures ∙ c.loop-alloc-test.true) c.in_err-next.ensures.read c.loop-alloc.invariant)

pub loop-alloc-smaller : goal.loop-alloc-smaller
loop-alloc-smaller c = falls (λ _. IsFunction c.args.version) spell_function Any (function_at c.args.version) (function_phrase c.args.version) after_function (begins_if (is_word (codes "func"))) (function_begins c.args.version) NoFunc (λ rest e. e) (λ _ _ _ _ _ _ _. tt) (c.loop-alloc.count, c.loop-alloc.before)
    c.args.text.now c.loop-alloc.rest.now c.in_ok-next.next c.in_ok-next.after.now c.in_ok-next.ensures.read

pub loop-alloc-preserved : goal.loop-alloc-preserved
unfolding more_functions_at
loop-alloc-preserved c =
    let n : ℕ × ℕ = (c.loop-alloc.count, c.loop-alloc.before) in
    let total = with_front c.args.front (more_functions_at c.args.version (c.args.functions, c.args.instructions) (lexes c.args.text.now c.args.tokens.now)) in
    let more = goes_on (λ _. IsFunction c.args.version) spell_function Any (function_at c.args.version) (function_phrase c.args.version) after_function (begins_if (is_word (codes "func"))) (function_begins c.args.version) NoFunc (λ rest e. e) (λ _ _ _ _ _ _ _. tt) n
    c.loop-alloc.found (lexes c.args.text.now c.loop-alloc.rest.now) c.in_ok-next.next (lexes c.args.text.now c.in_ok-next.after.now) total
    (sym c.begins_func.ensures ∙ c.loop-alloc-test.true) c.in_ok-next.ensures.read c.loop-alloc.invariant in
    let behind : after_function n c.in_ok-next.next ≡ (c.loop-alloc.count + 1, c.in_ok-next.behind) = pairs (suc c.loop-alloc.count) (after_function n c.in_ok-next.next).1 (c.loop-alloc.count + 1) c.in_ok-next.behind (sym (add-one c.loop-alloc.count)) (sym c.in_ok-next.ensures.behind) in
    subst (λ (z : List Function). with_front z (more_functions_at c.args.version (c.loop-alloc.count + 1, c.in_ok-next.behind) (lexes c.args.text.now c.in_ok-next.after.now)) ≡ total) (sym c.in_ok-push.ensures.ok)
    (subst (λ (z : ℕ × ℕ). with_front (c.loop-alloc.found ++ c.in_ok-next.next ∷ []) (more_functions_at c.args.version z (lexes c.args.text.now c.in_ok-next.after.now)) ≡ total) behind more)

pub returns : goal.returns
unfolding more_functions_at
returns c = is_done (λ _. IsFunction c.args.version) spell_function Any (function_at c.args.version) (function_phrase c.args.version) after_function (begins_if (is_word (codes "func"))) (function_begins c.args.version) NoFunc (λ rest e. e) (λ _ _ _ _ _ _ _. tt) (c.loop-alloc.count, c.loop-alloc.before)
    c.loop-alloc.found (lexes c.args.text.now c.loop-alloc.rest.now) (with_front c.args.front (more_functions_at c.args.version (c.args.functions, c.args.instructions) (lexes c.args.text.now c.args.tokens.now)))
    (sym c.begins_func.ensures ∙ c.loop-alloc-test.false) c.loop-alloc.invariant

pub overflow_add-count : goal.overflow_add-count
overflow_add-count c = omega (arith, c.in_ok-next.ensures.within)
