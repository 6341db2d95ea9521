-- Families of operations.
use Rattle.ir_ast.specs.declared.program.Op.{Op}
use Rattle.ir_ast.specs.declared.program.Op.TheVariants as op

-- it makes, reads, writes, reborrows or frees an allocation
abbrev pub IsMemoryOp : Op → Type 0
IsMemoryOp (op.Make place size) = Unit {0}
IsMemoryOp (op.Load ty ptr) = Unit {0}
IsMemoryOp (op.Store ty val ptr) = Unit {0}
IsMemoryOp (op.Retag kind ptr size) = Unit {0}
IsMemoryOp (op.Modify o width ptr val) = Unit {0}
IsMemoryOp (op.CmpXchg width ptr expected val) = Unit {0}
IsMemoryOp (op.Copy to from len) = Unit {0}
IsMemoryOp (op.Free ptr) = Unit {0}
IsMemoryOp _ = ⊥

-- it calls a function or the host, starts a thread or joins one
abbrev pub IsCalling : Op → Type 0
IsCalling (op.Call result function args) = Unit {0}
IsCalling (op.Host result host args) = Unit {0}
IsCalling (op.Spawn function args) = Unit {0}
IsCalling (op.Join result ty_at handle) = Unit {0}
IsCalling _ = ⊥
