use Rattle.std.proofs.Common.{◌≡◌, ◌∙◌, ◌+◌, ◌-◌, ℕ, List, Some, ap, sym, arith}
use Rattle.std.specs.List.{sum_by}
use Rattle.std.specs.Str.{bytes_eq}
use Rattle.ir_ast.specs.Lines.{block_instructions}
use Rattle.ir_ast.specs.Programs.{function_instructions}
use Rattle.suppress.proofs.Places.{at_function, some_here, none_left}
use Rattle.suppress.proofs.place.function_sites.Goals as goal

pub overflow_add-result : goal.overflow_add-result
overflow_add-result c =
    let a = at_function c.args.functions.now c.args.name.now c.loop-function.function-index c.loop-function.first c.function-item.result c.loop-function-test.true c.function-item.is c.loop-function.invariant in
    let e : c.instructions_of-count.result ≡ function_instructions c.function-item.result = c.instructions_of-count.ensures ∙ ap (sum_by block_instructions) c.as_slice.ensures in
    omega (arith, a.room, e, c.requires.within)

pub overflow_sub-result : goal.overflow_sub-result
overflow_sub-result c =
    let some = some_here c.args.functions.now c.loop-function.function-index c.function-item.result c.requires.some_blocks c.loop-function-test.true c.function-item.is in
    let e : c.instructions_of-count.result ≡ function_instructions c.function-item.result = c.instructions_of-count.ensures ∙ ap (sum_by block_instructions) c.as_slice.ensures in
    omega (arith, some, e)

pub returns-then-eq : goal.returns-then-eq
returns-then-eq c =
    let a = at_function c.args.functions.now c.args.name.now c.loop-function.function-index c.loop-function.first c.function-item.result c.loop-function-test.true c.function-item.is c.loop-function.invariant in
    let e : c.instructions_of-count.result ≡ function_instructions c.function-item.result = c.instructions_of-count.ensures ∙ ap (sum_by block_instructions) c.as_slice.ensures in
    ap (λ (n : ℕ). Some (record { first = c.loop-function.first; last = c.loop-function.first + n - 1 })) e
    ∙ a.hit (ap (λ (n : List ℕ). bytes_eq n c.args.name.now) (sym c.as_slice-in-loop-function.ensures) ∙ sym c.eq.ensures ∙ c.if-eq.true)

pub returns : goal.returns
returns c = none_left c.args.functions.now c.args.name.now c.loop-function.function-index c.loop-function.first c.loop-function-test.false c.loop-function.invariant
