use Rattle.std.proofs.Common.{◌<◌, ◌%◌, length, length-set, refl, arith, ◌∙◌, ap}
use Rattle.ir_ast.specs.Words.{bytes_of}
use Rattle.byte_mem.proofs.WordLemmas.{written_more}
use Rattle.byte_mem.proofs.words.write_word.Goals as goal

pub loop-i-preserved : goal.loop-i-preserved
loop-i-preserved c =
    let bs = c.loop-i.bytes in
    let within : c.loop-i.i < length bs = omega arith in
    written_more bs _ _ c.loop-i.i c.loop-i.rest (c.loop-i.rest % 256) within c.loop-i.invariant refl refl
    ∙ ap (λ n. bytes_of n c.args.value) (simp length-set)
