use Rattle.std.proofs.Common.{◌++◌}
use Rattle.ir_reader.specs.Keys.{memory_words, arithmetic_words, bit_words, choice_words, shared_words}
use Rattle.ir_reader.proofs.Joined.{found_joined}
use Rattle.ir_reader.proofs.keywords.definer_of.Goals as goal

pub returns : goal.returns
returns c =
    let w = c.args.word.now in
    let two = found_joined memory_words arithmetic_words w c.memory_of.result c.arithmetic_of.result c.or.result c.memory_of.ensures c.arithmetic_of.ensures c.or.ensures in
    let three = found_joined (memory_words ++ arithmetic_words) bit_words w c.or.result c.bits_of.result c.or-2.result two c.bits_of.ensures c.or-2.ensures in
    let four = found_joined ((memory_words ++ arithmetic_words) ++ bit_words) choice_words w c.or-2.result c.choice_of.result c.or-3.result three c.choice_of.ensures c.or-3.ensures in
    found_joined (((memory_words ++ arithmetic_words) ++ bit_words) ++ choice_words) shared_words w c.or-3.result c.shared_of.result c.or-4.result four c.shared_of.ensures c.or-4.ensures
