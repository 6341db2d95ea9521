-- The words that the operations and the terminators of a program begin with, as keywords.
use Rattle.ir_ast.specs.declared.program.Op.{Op}
use Rattle.ir_ast.specs.declared.program.Op.TheVariants as op
use Rattle.ir_ast.specs.declared.program.Jump.{Jump}
use Rattle.ir_ast.specs.declared.program.Jump.TheVariants.{Br, CondBr, Ret, Unreachable}
use Rattle.ir_reader.specs.declared.keywords.Keyword.{Keyword}
use Rattle.ir_reader.specs.declared.keywords.Keyword.TheVariants as key
use Rattle.ir_reader.specs.declared.keywords.JumpWord.{JumpWord}
use Rattle.ir_reader.specs.declared.keywords.JumpWord.TheVariants as jump

abbrev pub key_of : Op → Keyword
key_of (op.Const width value) = key.Const
key_of op.Null = key.Null
key_of (op.Make place size) = key.Make place
key_of (op.Gep ptr add) = key.Gep
key_of (op.Load ty ptr) = key.Load
key_of (op.Store ty val ptr) = key.Store
key_of (op.Retag kind ptr size) = key.Retag
key_of (op.Binary o width a b) = key.Binary o
key_of (op.Compare cond ty a b) = key.Compare
key_of (op.Select ty cond a b) = key.Select
key_of (op.Cast o from to val to_at) = key.Cast o
key_of (op.PtrToInt ptr) = key.PtrToInt
key_of (op.Input index) = key.Input
key_of (op.Modify o width ptr val) = key.Modify
key_of (op.CmpXchg width ptr expected val) = key.CmpXchg
key_of (op.Copy to from len) = key.Copy
key_of (op.Free ptr) = key.Free
key_of (op.Print width val) = key.Print
key_of (op.Call result function args) = key.Call
key_of (op.Host result host args) = key.Host
key_of (op.Spawn function args) = key.Spawn
key_of (op.Join result ty_at handle) = key.Join

abbrev pub jump_key_of : Jump → JumpWord
jump_key_of (Br goal) = jump.Br
jump_key_of (CondBr cond first second) = jump.CondBr
jump_key_of (Ret val ty_at) = jump.Ret
jump_key_of Unreachable = jump.Unreachable
