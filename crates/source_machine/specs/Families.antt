-- The families of operations, by which their parts are found.
use Rattle.ir_ast.specs.declared.program.Op.{Op}
use Rattle.ir_ast.specs.declared.program.Op.TheVariants as op

-- it always gives a value, that of registers and the input
abbrev pub IsComputing : Op → Type 0
IsComputing (op.Const width value) = Unit {0}
IsComputing op.Null = Unit {0}
IsComputing (op.Gep ptr add) = Unit {0}
IsComputing (op.Compare cond ty a b) = Unit {0}
IsComputing (op.Select ty cond a b) = Unit {0}
IsComputing (op.Cast o from to val to_at) = Unit {0}
IsComputing (op.PtrToInt ptr) = Unit {0}
IsComputing (op.Input index) = Unit {0}
IsComputing _ = ⊥
