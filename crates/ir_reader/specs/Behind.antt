-- What stands before a place: how many instructions of the program, and registers of the function.
use Rattle.std.specs.Prelude.{ℕ, ◌+◌, List, length}
use Rattle.std.specs.List.{sum_by}
use Rattle.ir_ast.specs.Lines.{definitions}
use Rattle.ir_ast.specs.declared.program.Inst.{Inst}
use Rattle.ir_reader.specs.declared.blocks.Before.{Before}

abbrev pub counts : Before → ℕ × ℕ
counts b = (b.instructions, b.registers)

-- what stands before the place behind these instructions
abbrev pub after_insts : ℕ × ℕ → List Inst → ℕ × ℕ
after_insts n is = (n.0 + length is, n.1 + sum_by definitions is)
