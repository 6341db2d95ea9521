use Rattle.std.proofs.Common.{◌≡◌, ℕ, sym, ◌∙◌, ap, List, [], ◌∷◌, ◌++◌}
use Rattle.std.proofs.lemmas.Result.{err_from_is_err_and}
use Rattle.ir_ast.specs.declared.program.Block.{Block}
use Rattle.ir_reader.specs.View.{lexes, with_front}
use Rattle.ir_reader.specs.Behind.{counts}
use Rattle.ir_reader.specs.Blocks.{more_blocks_at, blocks_at}
use Rattle.ir_reader.proofs.InstSteps.{blocks_is, blocks_fail_as}
use Rattle.ir_reader.proofs.blocks.blocks.Goals as goal

pub returns-in_err-first-clause-read : goal.returns-in_err-first-clause-read
returns-in_err-first-clause-read c =
    let p = err_from_is_err_and c.from_residual.result c.from_residual.ensures.1 in
    rw (p.1, p.2) (blocks_fail_as c.args.version (counts c.args.before) c.args.text.now c.in_err-first.field-0.0 (lexes c.args.text.now c.args.tokens.now) c.in_err-first.ensures.read)

pub returns-clause-read : goal.returns-clause-read
returns-clause-read c =
    let ts = lexes c.args.text.now c.args.tokens.now in
    let rest = lexes c.args.text.now c.in_ok-first.rest.now in
    let front : c.push.new.self ≡ c.in_ok-first.first ∷ [] = c.in_ok-push.ensures.ok ∙ ap (λ (z : List Block). z ++ c.in_ok-first.first ∷ []) c.new-front.ensures in
    let whole : blocks_at c.args.version (counts c.args.before) ts ≡ with_front c.push.new.self (more_blocks_at c.args.version (counts c.in_ok-first.behind) rest) =
    blocks_is c.args.version (counts c.args.before) ts c.in_ok-first.first rest c.in_ok-first.ensures.read
    ∙ ap (λ (z : ℕ × ℕ). with_front (c.in_ok-first.first ∷ []) (more_blocks_at c.args.version z rest)) (sym c.in_ok-first.ensures.behind)
    ∙ ap (λ (z : List Block). with_front z (more_blocks_at c.args.version (counts c.in_ok-first.behind) rest)) (sym front) in
    rw whole c.more_blocks.ensures.read
