-- The families of operations, by which their lines are made.
use Rattle.ir_ast.specs.declared.program.Op.{Op}
use Rattle.ir_ast.specs.declared.program.Op.TheVariants as op

-- it computes a value or prints one, and asks for nothing of an allocation
abbrev pub IsComputing : Op → Type 0
IsComputing (op.Const width value) = Unit {0}
IsComputing op.Null = Unit {0}
IsComputing (op.Gep ptr add) = Unit {0}
IsComputing (op.Binary o width a b) = Unit {0}
IsComputing (op.Compare cond ty a b) = Unit {0}
IsComputing (op.Select ty cond a b) = Unit {0}
IsComputing (op.Cast o from to val to_at) = Unit {0}
IsComputing (op.PtrToInt ptr) = Unit {0}
IsComputing (op.Input index) = Unit {0}
IsComputing (op.Print width val) = Unit {0}
IsComputing _ = ⊥
