-- Small programs, and what their threads ask one part after the other, each with its instruction's number.
use Rattle.std.specs.Prelude.{codes, ℕ, List, [], ◌∷◌, Option, Some, None, true, replicate}
use Rattle.bsan_ids.specs.declared.numbers.AllocNo.{AllocNo}
use Rattle.bsan_ids.specs.declared.numbers.Prov.{Prov}
use Rattle.bsan_ids.specs.declared.numbers.Tag.{Tag}
use Rattle.perm_table.specs.declared.Guard.TheVariants.{Free, Strong}
use Rattle.perm_table.specs.declared.RetagKind.TheVariants.{Mut}
use Rattle.ir_ast.specs.declared.types.Place.TheVariants.{Stack}
use Rattle.ir_ast.specs.declared.types.ResultTy.{ResultTy}
use Rattle.ir_ast.specs.declared.types.Ty.{Ty}
use Rattle.ir_ast.specs.declared.types.Ty.TheVariants.{Int, Ptr}
use Rattle.ir_ast.specs.declared.types.Width.TheVariants.{W64}
use Rattle.ir_ast.specs.declared.program.Block.{Block}
use Rattle.ir_ast.specs.declared.program.Function.{Function}
use Rattle.ir_ast.specs.declared.program.Goal.{Goal}
use Rattle.ir_ast.specs.declared.program.Inst.{Inst}
use Rattle.ir_ast.specs.declared.program.Jump.{Jump}
use Rattle.ir_ast.specs.declared.program.Jump.TheVariants as jump
use Rattle.ir_ast.specs.declared.program.Named.{Named}
use Rattle.ir_ast.specs.declared.program.Op.{Op}
use Rattle.ir_ast.specs.declared.program.Op.TheVariants as op
use Rattle.ir_ast.specs.declared.program.Param.{Param}
use Rattle.ir_ast.specs.declared.program.TypedVal.{TypedVal}
use Rattle.ir_ast.specs.declared.program.Val.TheVariants.{Reg, Num}
use Rattle.history.specs.declared.ask.Ask.{Ask}
use Rattle.history.specs.declared.ask.Ask.TheVariants as ask
use Rattle.history.specs.declared.ask.MachineEnd.TheVariants as end
use Rattle.history.specs.declared.entry.Plain.TheVariants as plain
use Rattle.history.specs.declared.entry.Reply.{Reply}
use Rattle.history.specs.declared.entry.Request.TheVariants as request
use Rattle.history.specs.Pieces.{Byte}
use Rattle.history.specs.Objects.{clean}
use Rattle.source_sem.specs.Source.{Setting, Source, source_ask, source_turn, source_answer, source_site, source_start}

-- what a thread is given: nothing, where it makes a local turn, or a reply
abbrev pub Given : Type 0
Given = Option Reply

-- what a thread asks, at which instruction, before each of these and after the last
abbrev pub asked : Setting → Source → List Given → List (ℕ × Ask)
asked x s [] = (source_site s, source_ask x s) ∷ []
asked x s (None ∷ more) = (source_site s, source_ask x s) ∷ asked x (source_turn x s) more
asked x s (Some r ∷ more) = (source_site s, source_ask x s) ∷ asked x (source_answer x s r) more

-- where it stands then
abbrev pub stands : Setting → Source → List Given → Source
stands x s [] = s
stands x s (None ∷ more) = stands x (source_turn x s) more
stands x s (Some r ∷ more) = stands x (source_answer x s r) more

-- texts as data, without places -------------------------------------------------

abbrev pub named : ℕ → Named
named n = record { name = n ∷ []; at = 0 }

abbrev pub no_result : ResultTy
no_result = record { ty = None; attr = None }

abbrev pub gives : Ty → ResultTy
gives ty = record { ty = Some ty; attr = None }

abbrev pub int_param : ℕ → Param
int_param r = record { ty = Int W64; attr = None; reg = named r }

abbrev pub ptr_param : ℕ → Param
ptr_param r = record { ty = Ptr; attr = None; reg = named r }

abbrev pub mut_param : ℕ → ℕ → Param
mut_param r size = record { ty = Ptr; attr = Some (record { kind = Mut; size = size }); reg = named r }

abbrev pub reg : Ty → ℕ → TypedVal
reg ty r = record { ty = ty; val = Reg (named r) }

abbrev pub number : ℕ → TypedVal
number n = record { ty = Int W64; val = Num n }

abbrev pub def : ℕ → Op → Inst
def r o = record { dest = Some (named r); at = 0; op = o }

abbrev pub does : Op → Inst
does o = record { dest = None; at = 0; op = o }

abbrev pub block : ℕ → List Param → List Inst → Jump → Block
block label params insts j = record { label = named label; params = params; insts = insts; term = record { at = 0; jump = j } }

abbrev pub function : List ℕ → List Param → ResultTy → List Block → Function
function name params result blocks = record { name = record { name = name; at = 0 }; params = params; result = result; blocks = blocks }

abbrev pub goal : ℕ → List TypedVal → Goal
goal label args = record { label = named label; args = args }

abbrev pub ret_void : Jump
ret_void = jump.Ret None 0

abbrev pub ret_of : TypedVal → Jump
ret_of v = jump.Ret (Some v) 0

abbrev pub of_functions : List Function → Setting
of_functions functions = record { program = record { version = 1; functions = functions; end = 0 }; input = []; hosts = []; tracked = true }

-- replies ---------------------------------------------------------------------------

abbrev pub alloc : ℕ → AllocNo
alloc n = record { 0 = n }

abbrev pub tag : ℕ → Tag
tag n = record { 0 = n }

abbrev pub prov : ℕ → ℕ → Prov
prov a t = record { alloc = alloc a; tag = tag t }

abbrev pub made : ℕ → ℕ → Given
made a t = Some (clean (plain.Made (alloc a)) (Some (prov a t)))

abbrev pub retagged : ℕ → ℕ → Given
retagged a t = Some (clean (plain.Retagged true) (Some (prov a t)))

abbrev pub done : Given
done = Some (clean plain.Done None)

abbrev pub value : ℕ → Given
value n = Some (clean (plain.Value n) None)

abbrev pub copied : List Byte → Given
copied piece = Some (clean (plain.Copied piece) None)

abbrev pub spawned : ℕ → Given
spawned c = Some (clean (plain.Spawned (record { 0 = c })) None)

-- 0 %x = alloca 8   1 %v = load i64, %x   2 ret i64 %v
abbrev pub three : Setting
three = of_functions (function (109 ∷ []) [] (gives (Int W64)) (block 101 [] (def 120 (op.Make Stack (Num 8)) ∷ def 118 (op.Load (Int W64) (named 120)) ∷ []) (ret_of (reg (Int W64) 118)) ∷ []) ∷ [])

abbrev pub three_given : List Given
three_given = made 1 1 ∷ value 0 ∷ done ∷ []

abbrev pub three_asked : List (ℕ × Ask)
three_asked =
    (0, ask.Make 8 Stack)
    ∷ (1, ask.At (alloc 1) (request.Load 0 (Int W64) (Some (prov 1 1))))
    ∷ (2, ask.At (alloc 1) (request.Free 0 true (Some (prov 1 1))))
    ∷ (2, ask.Ended (end.Returned 0 None))
    ∷ []

-- The implicit write of a protector's end disables a sibling.
-- func @f(ptr mut(8) %y, ptr %x) -> ptr: 0 store i64 1, %y   1 %q = gep %x, 8   2 %z = retag mut %q, 8   3 ret ptr %z
-- func @main() -> i64: 4 %x = alloca 16   5 %z = call ptr @f(ptr %x, ptr %x)   6 %p = gep %z, 2^64 - 8   7 %v = load i64, %p   8 ret i64 0
abbrev pub sibling_f : Function
sibling_f =
    function (102 ∷ []) (mut_param 121 8 ∷ ptr_param 120 ∷ []) (gives Ptr)
    (block 101 []
    (does (op.Store (Int W64) (Num 1) (named 121)) ∷ def 113 (op.Gep (named 120) (Num 8)) ∷ def 122 (op.Retag Mut (named 113) 8) ∷ [])
    (ret_of (reg Ptr 122)) ∷ [])

abbrev pub sibling_main : Function
sibling_main =
    function (codes "main") [] (gives (Int W64))
    (block 101 []
    (def 120 (op.Make Stack (Num 16))
    ∷ def 122 (op.Call (Some Ptr) (named 102) (reg Ptr 120 ∷ reg Ptr 120 ∷ []))
    ∷ def 112 (op.Gep (named 122) (Num 18446744073709551608))
    ∷ def 118 (op.Load (Int W64) (named 112))
    ∷ [])
    (ret_of (number 0)) ∷ [])

abbrev pub sibling : Setting
sibling = of_functions (sibling_f ∷ sibling_main ∷ [])

abbrev pub sibling_given : List Given
sibling_given = made 1 1 ∷ None ∷ retagged 1 2 ∷ done ∷ None ∷ retagged 1 4 ∷ done ∷ None ∷ value 1 ∷ done ∷ []

abbrev pub sibling_asked : List (ℕ × Ask)
sibling_asked =
    (4, ask.Make 16 Stack)
    ∷ (5, ask.Turn)
    ∷ (0, ask.At (alloc 1) (request.Retag 0 8 Mut Strong (Some (prov 1 1))))
    ∷ (0, ask.At (alloc 1) (request.Store 0 (Int W64) 1 None (Some (prov 1 2))))
    ∷ (1, ask.Turn)
    ∷ (2, ask.At (alloc 1) (request.Retag 8 8 Mut Free (Some (prov 1 1))))
    ∷ (3, ask.At (alloc 1) (request.EndProtector (tag 2)))
    ∷ (6, ask.Turn)
    ∷ (7, ask.At (alloc 1) (request.Load 0 (Int W64) (Some (prov 1 4))))
    ∷ (8, ask.At (alloc 1) (request.Free 0 true (Some (prov 1 1))))
    ∷ (8, ask.Ended (end.Returned 0 None))
    ∷ []

-- A copy of 36 bytes is two pieces; the second has four bytes of a pointer's eight.
-- 0 %s = alloca 40   1 %t = alloca 40   2 %q = gep %s, 32   3 store ptr %s, %q   4 memcpy %t, %s, 36   5 ret i64 0
abbrev pub half : Setting
half =
    of_functions
    (function (109 ∷ []) [] (gives (Int W64))
    (block 101 []
    (def 115 (op.Make Stack (Num 40))
    ∷ def 116 (op.Make Stack (Num 40))
    ∷ def 113 (op.Gep (named 115) (Num 32))
    ∷ does (op.Store Ptr (Reg (named 115)) (named 113))
    ∷ does (op.Copy (named 116) (named 115) (Num 36))
    ∷ [])
    (ret_of (number 0)) ∷ []) ∷ [])

abbrev pub zeros : List Byte
zeros = replicate 32 (0, None)

-- the low bytes of the address 2^32, with the fragments 0 to 3 of its provenance
abbrev pub low_bytes : List Byte
low_bytes =
    (0, Some (record { prov = prov 1 1; index = 0 }))
    ∷ (0, Some (record { prov = prov 1 1; index = 1 }))
    ∷ (0, Some (record { prov = prov 1 1; index = 2 }))
    ∷ (0, Some (record { prov = prov 1 1; index = 3 }))
    ∷ []

abbrev pub half_given : List Given
half_given = made 1 1 ∷ made 2 2 ∷ None ∷ done ∷ copied zeros ∷ done ∷ copied low_bytes ∷ done ∷ done ∷ done ∷ []

abbrev pub half_asked : List (ℕ × Ask)
half_asked =
    (0, ask.Make 40 Stack)
    ∷ (1, ask.Make 40 Stack)
    ∷ (2, ask.Turn)
    ∷ (3, ask.At (alloc 1) (request.Store 32 Ptr 4294967296 (Some (prov 1 1)) (Some (prov 1 1))))
    ∷ (4, ask.At (alloc 1) (request.CopyOut 0 32 (Some (prov 1 1))))
    ∷ (4, ask.At (alloc 2) (request.CopyIn 0 zeros (Some (prov 2 2))))
    ∷ (4, ask.At (alloc 1) (request.CopyOut 32 4 (Some (prov 1 1))))
    ∷ (4, ask.At (alloc 2) (request.CopyIn 32 low_bytes (Some (prov 2 2))))
    ∷ (5, ask.At (alloc 2) (request.Free 0 true (Some (prov 2 2))))
    ∷ (5, ask.At (alloc 1) (request.Free 0 true (Some (prov 1 1))))
    ∷ (5, ask.Ended (end.Returned 0 None))
    ∷ []

-- A return joins its children, ends its protectors and frees its stack, in this order.
-- func @g() -> i64: 0 ret i64 5
-- func @f(ptr mut(8) %p, ptr mut(8) %q) -> void: 1 %a = alloca 8   2 %b = alloca 8   3 %h = spawn @g()   4 %k = spawn @g()   5 ret void
abbrev pub leaving_g : Function
leaving_g = function (103 ∷ []) [] (gives (Int W64)) (block 101 [] [] (ret_of (number 5)) ∷ [])

abbrev pub leaving_f : Function
leaving_f =
    function (102 ∷ []) (mut_param 112 8 ∷ mut_param 113 8 ∷ []) no_result
    (block 101 []
    (def 97 (op.Make Stack (Num 8))
    ∷ def 98 (op.Make Stack (Num 8))
    ∷ def 104 (op.Spawn (named 103) [])
    ∷ def 107 (op.Spawn (named 103) [])
    ∷ [])
    ret_void ∷ [])

abbrev pub leaving : Setting
leaving = of_functions (leaving_g ∷ leaving_f ∷ [])

-- two pointers, at allocations 1 and 2
abbrev pub leaving_start : Source
leaving_start = source_start leaving 1 (record { value = 4294967296; prov = Some (prov 1 1) } ∷ record { value = 8589934592; prov = Some (prov 2 2) } ∷ [])

abbrev pub leaving_given : List Given
leaving_given = retagged 1 3 ∷ retagged 2 4 ∷ made 3 5 ∷ made 4 6 ∷ spawned 1 ∷ spawned 2 ∷ value 5 ∷ value 5 ∷ done ∷ done ∷ done ∷ done ∷ []

abbrev pub leaving_asked : List (ℕ × Ask)
leaving_asked =
    (1, ask.At (alloc 1) (request.Retag 0 8 Mut Strong (Some (prov 1 1))))
    ∷ (1, ask.At (alloc 2) (request.Retag 0 8 Mut Strong (Some (prov 2 2))))
    ∷ (1, ask.Make 8 Stack)
    ∷ (2, ask.Make 8 Stack)
    ∷ (3, ask.Spawn 0)
    ∷ (4, ask.Spawn 0)
    ∷ (5, ask.Join (record { 0 = 1 }))
    ∷ (5, ask.Join (record { 0 = 2 }))
    ∷ (5, ask.At (alloc 1) (request.EndProtector (tag 3)))
    ∷ (5, ask.At (alloc 2) (request.EndProtector (tag 4)))
    ∷ (5, ask.At (alloc 4) (request.Free 0 true (Some (prov 4 6))))
    ∷ (5, ask.At (alloc 3) (request.Free 0 true (Some (prov 3 5))))
    ∷ (5, ask.Ended (end.Returned 0 None))
    ∷ []

-- A goal's arguments are read before a parameter is written.
-- e: 0 br l(i64 1, i64 2)   l(i64 %a, i64 %b): 1 print i64 %a   2 print i64 %b   3 br l(i64 %b, i64 %a)
abbrev pub swaps : Setting
swaps =
    of_functions
    (function (109 ∷ []) [] (gives (Int W64))
    (block 101 [] [] (jump.Br (goal 108 (number 1 ∷ number 2 ∷ [])))
    ∷ block 108 (int_param 97 ∷ int_param 98 ∷ [])
    (does (op.Print W64 (Reg (named 97))) ∷ does (op.Print W64 (Reg (named 98))) ∷ [])
    (jump.Br (goal 108 (reg (Int W64) 98 ∷ reg (Int W64) 97 ∷ [])))
    ∷ []) ∷ [])

abbrev pub swaps_given : List Given
swaps_given = None ∷ done ∷ done ∷ None ∷ done ∷ []

abbrev pub swaps_asked : List (ℕ × Ask)
swaps_asked =
    (0, ask.Turn)
    ∷ (1, ask.Print 1)
    ∷ (2, ask.Print 2)
    ∷ (3, ask.Turn)
    ∷ (1, ask.Print 2)
    ∷ (2, ask.Print 1)
    ∷ []

-- Entry retags, the parts of a copy and those of a return count no instruction of their own.
abbrev pub counts : Setting → Source → List Given → ℕ
counts x s given = (stands x s given).count
