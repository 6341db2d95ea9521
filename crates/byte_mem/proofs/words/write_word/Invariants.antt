use Rattle.std.proofs.Common.{◌≡◌, ◌++◌, ◌-◌, take, length}
use Rattle.ir_ast.specs.Words.{bytes_of}
use Rattle.byte_mem.proofs.words.write_word.Given as goal

abbrev pub invariant-loop-i : goal.invariant-loop-i
invariant-loop-i l = take l.i l.bytes ++ bytes_of (length l.bytes - l.i) l.rest ≡ bytes_of (length l.bytes) l.value
