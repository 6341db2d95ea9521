-- The words of types, of kinds of retags and of operations.
use Rattle.std.specs.Prelude.{ℕ, List, codes, Option, Some, None}
use Rattle.perm_table.specs.declared.RetagKind.{RetagKind}
use Rattle.perm_table.specs.declared.RetagKind.TheVariants.{Mut, Cell, Shr, Boxed, ShrCell}
use Rattle.ir_ast.specs.declared.types.Width.{Width}
use Rattle.ir_ast.specs.declared.types.Width.TheVariants.{W8, W16, W32, W64}
use Rattle.ir_ast.specs.declared.types.Ty.{Ty}
use Rattle.ir_ast.specs.declared.types.Ty.TheVariants.{Int, Ptr}
use Rattle.ir_ast.specs.declared.types.Place.TheVariants.{Stack, Heap}
use Rattle.ir_ast.specs.declared.operators.BinaryOp.{BinaryOp}
use Rattle.ir_ast.specs.declared.operators.BinaryOp.TheVariants as binary
use Rattle.ir_ast.specs.declared.operators.Cond.{Cond}
use Rattle.ir_ast.specs.declared.operators.Cond.TheVariants.{Eq, Ne, Ult, Ule, Ugt, Uge, Slt, Sle, Sgt, Sge}
use Rattle.ir_ast.specs.declared.operators.CastOp.{CastOp}
use Rattle.ir_ast.specs.declared.operators.CastOp.TheVariants.{Zext, Sext, Trunc}
use Rattle.ir_ast.specs.declared.operators.ModifyOp.{ModifyOp}
use Rattle.ir_ast.specs.declared.operators.ModifyOp.TheVariants as modify
use Rattle.ir_ast.specs.declared.program.Op.{Op}
use Rattle.ir_ast.specs.declared.program.Op.TheVariants as op

abbrev pub width_word : Width → List ℕ
width_word W8 = codes "i8"
width_word W16 = codes "i16"
width_word W32 = codes "i32"
width_word W64 = codes "i64"

abbrev pub type_word : Ty → List ℕ
type_word (Int width) = width_word width
type_word Ptr = codes "ptr"

abbrev pub result_word : Option Ty → List ℕ
result_word None = codes "void"
result_word (Some ty) = type_word ty

abbrev pub kind_word : RetagKind → List ℕ
kind_word Mut = codes "mut"
kind_word Cell = codes "cell"
kind_word Shr = codes "shr"
kind_word Boxed = codes "box"
kind_word ShrCell = codes "shrcell"

abbrev pub binary_word : BinaryOp → List ℕ
binary_word binary.Add = codes "add"
binary_word binary.Sub = codes "sub"
binary_word binary.Mul = codes "mul"
binary_word binary.Udiv = codes "udiv"
binary_word binary.Sdiv = codes "sdiv"
binary_word binary.Urem = codes "urem"
binary_word binary.Srem = codes "srem"
binary_word binary.And = codes "and"
binary_word binary.Or = codes "or"
binary_word binary.Xor = codes "xor"
binary_word binary.Shl = codes "shl"
binary_word binary.Lshr = codes "lshr"
binary_word binary.Ashr = codes "ashr"

abbrev pub cond_word : Cond → List ℕ
cond_word Eq = codes "eq"
cond_word Ne = codes "ne"
cond_word Ult = codes "ult"
cond_word Ule = codes "ule"
cond_word Ugt = codes "ugt"
cond_word Uge = codes "uge"
cond_word Slt = codes "slt"
cond_word Sle = codes "sle"
cond_word Sgt = codes "sgt"
cond_word Sge = codes "sge"

abbrev pub cast_word : CastOp → List ℕ
cast_word Zext = codes "zext"
cast_word Sext = codes "sext"
cast_word Trunc = codes "trunc"

abbrev pub modify_word : ModifyOp → List ℕ
modify_word modify.Add = codes "add"
modify_word modify.Sub = codes "sub"
modify_word modify.And = codes "and"
modify_word modify.Or = codes "or"
modify_word modify.Xor = codes "xor"
modify_word modify.Xchg = codes "xchg"
modify_word modify.Umin = codes "umin"
modify_word modify.Umax = codes "umax"

-- the word that an operation begins with
abbrev pub op_word : Op → List ℕ
op_word (op.Const width value) = codes "const"
op_word op.Null = codes "null"
op_word (op.Make Stack size) = codes "alloca"
op_word (op.Make Heap size) = codes "malloc"
op_word (op.Gep ptr add) = codes "gep"
op_word (op.Load ty ptr) = codes "load"
op_word (op.Store ty val ptr) = codes "store"
op_word (op.Retag kind ptr size) = codes "retag"
op_word (op.Binary o width a b) = binary_word o
op_word (op.Compare cond ty a b) = codes "icmp"
op_word (op.Select ty cond a b) = codes "select"
op_word (op.Cast o from to val to_at) = cast_word o
op_word (op.PtrToInt ptr) = codes "ptrtoint"
op_word (op.Input index) = codes "input"
op_word (op.Modify o width ptr val) = codes "rmw"
op_word (op.CmpXchg width ptr expected val) = codes "cmpxchg"
op_word (op.Copy to from len) = codes "memcpy"
op_word (op.Free ptr) = codes "free"
op_word (op.Print width val) = codes "print"
op_word (op.Call result function args) = codes "call"
op_word (op.Host result host args) = codes "host"
op_word (op.Spawn function args) = codes "spawn"
op_word (op.Join result ty_at handle) = codes "join"
