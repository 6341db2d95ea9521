-- A program that spawns in a loop, joins there, and joins once more on both arms of a branch.
use Rattle.std.specs.Prelude.{codes, [], ◌∷◌, Some}
use Rattle.ir_ast.specs.declared.operators.BinaryOp.TheVariants.{Add}
use Rattle.ir_ast.specs.declared.operators.Cond.TheVariants.{Ult}
use Rattle.ir_ast.specs.declared.program.Block.{Block}
use Rattle.ir_ast.specs.declared.program.Function.{Function}
use Rattle.ir_ast.specs.declared.program.Inst.{Inst}
use Rattle.ir_ast.specs.declared.program.Jump.TheVariants as jump
use Rattle.ir_ast.specs.declared.program.Op.TheVariants as op
use Rattle.ir_ast.specs.declared.program.Program.{Program}
use Rattle.ir_ast.specs.declared.program.Val.TheVariants.{Reg, Num}
use Rattle.ir_ast.specs.declared.types.Ty.TheVariants.{Int}
use Rattle.ir_ast.specs.declared.types.Width.TheVariants.{W64}
use Rattle.source_sem.specs.Traces.{named, gives, int_param, reg, number, def, block, function, goal, ret_of}

-- func @g() -> i64: ret i64 1
abbrev pub child_block : Block
child_block = block 101 [] [] (ret_of (number 1))

abbrev pub child : Function
child = function (103 ∷ []) [] (gives (Int W64)) (child_block ∷ [])

-- %h = spawn @g()   %a = join i64 %h   %j = add i64 %i, 1   %c = icmp ult i64 %j, 3
abbrev pub spawns : Inst
spawns = def 104 (op.Spawn (named 103) [])

abbrev pub joins : Inst
joins = def 97 (op.Join (Some (Int W64)) 0 (named 104))

abbrev pub adds : Inst
adds = def 106 (op.Binary Add W64 (Reg (named 105)) (Num 1))

abbrev pub compares : Inst
compares = def 99 (op.Compare Ult (Int W64) (Reg (named 106)) (Num 3))

-- %b = join i64 %h, and %d = join i64 %h
abbrev pub joins_first : Inst
joins_first = def 98 (op.Join (Some (Int W64)) 0 (named 104))

abbrev pub joins_second : Inst
joins_second = def 100 (op.Join (Some (Int W64)) 0 (named 104))

-- e: br l(i64 0)
abbrev pub entry_block : Block
entry_block = block 101 [] [] (jump.Br (goal 108 (number 0 ∷ [])))

-- l(i64 %i): .. condbr %c, l(i64 %j), m
abbrev pub loop_block : Block
loop_block = block 108 (int_param 105 ∷ []) (spawns ∷ joins ∷ adds ∷ compares ∷ []) (jump.CondBr (Reg (named 99)) (goal 108 (reg (Int W64) 106 ∷ [])) (goal 109 []))

-- m: condbr %c, y, n
abbrev pub branch_block : Block
branch_block = block 109 [] [] (jump.CondBr (Reg (named 99)) (goal 121 []) (goal 110 []))

-- y: .. ret i64 %b
abbrev pub first_arm : Block
first_arm = block 121 [] (joins_first ∷ []) (ret_of (reg (Int W64) 98))

-- n: .. ret i64 %d
abbrev pub second_arm : Block
second_arm = block 110 [] (joins_second ∷ []) (ret_of (reg (Int W64) 100))

abbrev pub looping : Function
looping = function (codes "main") [] (gives (Int W64)) (entry_block ∷ loop_block ∷ branch_block ∷ first_arm ∷ second_arm ∷ [])

abbrev pub program : Program
program = record { version = 1; functions = child ∷ looping ∷ []; end = 0 }
