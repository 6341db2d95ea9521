use Rattle.std.proofs.Common.{◌≡◌, ℕ, ◌+◌, List, [], ◌∷◌, ◌++◌, sym, ap, subst, ◌∙◌, arith}
use Rattle.std.specs.List.{sum_by}
use Rattle.std.proofs.lemmas.Result.{err_from_is_err_and}
use Rattle.ir_ast.specs.Shapes.{IsBlock}
use Rattle.ir_ast.specs.Lines.{block_instructions}
use Rattle.ir_ast.specs.declared.program.Block.{Block}
use Rattle.ir_reader.specs.View.{lexes, with_front}
use Rattle.ir_reader.specs.Behind.{counts}
use Rattle.ir_reader.specs.Wants.{begins_if, is_any_word}
use Rattle.ir_reader.specs.Blocks.{block_at, after_block, more_blocks_at}
use Rattle.ir_reader.proofs.ValueParts.{AfterGoal}
use Rattle.ir_reader.proofs.BlockParts.{spell_block, block_phrase, block_begins, AfterBlocks, blocks_follow}
use Rattle.ir_reader.proofs.InstSteps.{sum_one}
use Rattle.ir_reader.proofs.Loop.{goes_on, is_done, breaks_as, falls}
use Rattle.ir_reader.proofs.blocks.more_blocks.Goals as goal

pub returns-in_err-next-clause-read : goal.returns-in_err-next-clause-read
unfolding more_blocks_at
returns-in_err-next-clause-read c =
    let p = err_from_is_err_and c.from_residual.result c.from_residual.ensures.1 in
    rw (p.1, p.2) (breaks_as (λ _. IsBlock c.args.version) spell_block AfterGoal (block_at c.args.version) (block_phrase c.args.version) after_block (begins_if is_any_word) (block_begins c.args.version) AfterBlocks (λ rest e. e.0) (blocks_follow c.args.version) (counts c.loop-alloc.behind)
    c.args.text.now c.in_err-next.field-0.0 c.loop-alloc.found (lexes c.args.text.now c.loop-alloc.rest.now) (with_front c.args.front (more_blocks_at c.args.version (counts c.args.before) (lexes c.args.text.now c.args.tokens.now)))
    (sym (c.begins_any_word.ensures c.args.text.now) ∙ c.loop-alloc-test.true) c.in_err-next.ensures.read c.loop-alloc.invariant.so_far)

pub loop-alloc-smaller : goal.loop-alloc-smaller
loop-alloc-smaller c = falls (λ _. IsBlock c.args.version) spell_block AfterGoal (block_at c.args.version) (block_phrase c.args.version) after_block (begins_if is_any_word) (block_begins c.args.version) AfterBlocks (λ rest e. e.0) (blocks_follow c.args.version) (counts c.loop-alloc.behind)
    c.args.text.now c.loop-alloc.rest.now c.in_ok-next.next c.in_ok-next.after.now c.in_ok-next.ensures.read

pub loop-alloc-preserved : goal.loop-alloc-preserved
unfolding more_blocks_at
loop-alloc-preserved c =
    let total = with_front c.args.front (more_blocks_at c.args.version (counts c.args.before) (lexes c.args.text.now c.args.tokens.now)) in
    let behind : counts c.in_ok-next.last ≡ after_block (counts c.loop-alloc.behind) c.in_ok-next.next = c.in_ok-next.ensures.behind in
    let more = goes_on (λ _. IsBlock c.args.version) spell_block AfterGoal (block_at c.args.version) (block_phrase c.args.version) after_block (begins_if is_any_word) (block_begins c.args.version) AfterBlocks (λ rest e. e.0) (blocks_follow c.args.version) (counts c.loop-alloc.behind)
    c.loop-alloc.found (lexes c.args.text.now c.loop-alloc.rest.now) c.in_ok-next.next (lexes c.args.text.now c.in_ok-next.after.now) total
    (sym (c.begins_any_word.ensures c.args.text.now) ∙ c.loop-alloc-test.true) c.in_ok-next.ensures.read c.loop-alloc.invariant.so_far in
    let count : c.in_ok-next.last.instructions ≡ c.loop-alloc.behind.instructions + block_instructions c.in_ok-next.next = ap (λ (z : ℕ × ℕ). z.0) behind in
    record {
      so_far = subst (λ (z : List Block). with_front z (more_blocks_at c.args.version (counts c.in_ok-next.last) (lexes c.args.text.now c.in_ok-next.after.now)) ≡ total) (sym c.in_ok-push.ensures.ok)
          (subst (λ (z : ℕ × ℕ). with_front (c.loop-alloc.found ++ c.in_ok-next.next ∷ []) (more_blocks_at c.args.version z (lexes c.args.text.now c.in_ok-next.after.now)) ≡ total) (sym behind) more);
      counted =
          let sum : sum_by block_instructions c.push.new.self ≡ sum_by block_instructions c.loop-alloc.found + block_instructions c.in_ok-next.next =
          ap (sum_by block_instructions) c.in_ok-push.ensures.ok ∙ sum_one block_instructions c.loop-alloc.found c.in_ok-next.next in
          moved c.in_ok-next.last.instructions c.loop-alloc.behind.instructions (block_instructions c.in_ok-next.next) (sum_by block_instructions c.args.front) c.args.before.instructions (sum_by block_instructions c.loop-alloc.found)
          (sum_by block_instructions c.push.new.self) count sum c.loop-alloc.invariant.counted;
    }
  where
    moved : (last behind n front before blocks whole : ℕ) → last ≡ behind + n → whole ≡ blocks + n → behind + front ≡ before + blocks → last + front ≡ before + whole
    moved last behind n front before blocks whole e f g = omega (arith, e, f, g)

pub returns-clause-read : goal.returns-clause-read
unfolding more_blocks_at
returns-clause-read c = is_done (λ _. IsBlock c.args.version) spell_block AfterGoal (block_at c.args.version) (block_phrase c.args.version) after_block (begins_if is_any_word) (block_begins c.args.version) AfterBlocks (λ rest e. e.0) (blocks_follow c.args.version) (counts c.loop-alloc.behind)
    c.loop-alloc.found (lexes c.args.text.now c.loop-alloc.rest.now) (with_front c.args.front (more_blocks_at c.args.version (counts c.args.before) (lexes c.args.text.now c.args.tokens.now)))
    (sym (c.begins_any_word.ensures c.args.text.now) ∙ c.loop-alloc-test.false) c.loop-alloc.invariant.so_far

pub returns-clause-behind : goal.returns-clause-behind
returns-clause-behind c = c.loop-alloc.invariant.counted
