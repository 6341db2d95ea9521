-- The small programs on which the source thread was tried: the thread over their translations asks the same.
use Rattle.std.specs.Prelude.{ℕ, ◌*◌, ◌^◌, List, [], ◌∷◌, Some, None, false}
use Rattle.history.specs.declared.ask.Arg.{Arg}
use Rattle.history.specs.declared.ask.Ask.{Ask}
use Rattle.history.specs.declared.ask.Ask.TheVariants as ask
use Rattle.history.specs.declared.ask.MachineEnd.TheVariants as end
use Rattle.history.specs.declared.entry.Plain.TheVariants as plain
use Rattle.history.specs.declared.entry.Request.TheVariants as request
use Rattle.history.specs.declared.entry.Verdict.TheVariants as verdict
use Rattle.perm_table.specs.declared.Guard.TheVariants.{Free, Weak}
use Rattle.perm_table.specs.declared.RetagKind.TheVariants.{Shr, Boxed}
use Rattle.ir_ast.specs.declared.hosts.HostEntry.{HostEntry}
use Rattle.ir_ast.specs.declared.hosts.HostRule.TheVariants.{Any}
use Rattle.ir_ast.specs.declared.operators.BinaryOp.TheVariants.{Add}
use Rattle.ir_ast.specs.declared.operators.CastOp.TheVariants.{Sext}
use Rattle.ir_ast.specs.declared.operators.Cond.TheVariants.{Ult}
use Rattle.ir_ast.specs.declared.operators.ModifyOp.TheVariants.{Xchg}
use Rattle.ir_ast.specs.declared.types.Place.TheVariants.{Heap}
use Rattle.ir_ast.specs.declared.types.Ty.TheVariants.{Int, Ptr}
use Rattle.ir_ast.specs.declared.types.Width.TheVariants.{W8, W16, W64}
use Rattle.ir_ast.specs.declared.program.Function.{Function}
use Rattle.ir_ast.specs.declared.program.Op.TheVariants as op
use Rattle.ir_ast.specs.declared.program.Program.{Program}
use Rattle.ir_ast.specs.declared.program.Val.TheVariants.{Reg, Num}
use Rattle.ir_ast.specs.declared.types.ResultTy.{ResultTy}
use Rattle.source_sem.specs.Traces.{Given, named, gives, reg, def, does, block, function, ret_of, alloc, tag, prov, made, retagged, done, value, spawned}
use Rattle.thread_machine.specs.Thread.{row_of, thread_start}
use Rattle.thread_machine.specs.Tried.{target_asked, target_after}
use Rattle.instr_sound.specs.Simulation.{target_setting}

-- what the thread over the translation asks, from a function on
abbrev pub translated_asked : Program → List HostEntry → List ℕ → ℕ → List Arg → List Given → List (ℕ × Ask)
translated_asked p hosts input k args given = target_asked (target_setting p hosts input) (thread_start (target_setting p hosts input) k (row_of args)) given

abbrev pub translated_count : Program → List HostEntry → List ℕ → ℕ → List Arg → List Given → ℕ
translated_count p hosts input k args given = (target_after (target_setting p hosts input) (thread_start (target_setting p hosts input) k (row_of args)) given).count

-- two pointers, at allocations 1 and 2
abbrev pub two_pointers : List Arg
two_pointers = record { value = 4294967296; prov = Some (prov 1 1) } ∷ record { value = 8589934592; prov = Some (prov 2 2) } ∷ []

abbrev pub shr_result : ℕ → ResultTy
shr_result size = record { ty = Some Ptr; attr = Some (record { kind = Shr; size = size }) }

-- One of each kind of instruction that the other examples don't have, and results with an attribute.
-- func @g(ptr box(4) %p, i8 %n) -> ptr shr(2): 0 ret ptr %p
-- func @m() -> i64:
--   1 %a = malloc 8   2 %z = null   3 %c = const i8 1   4 %p = select ptr %c, %a, %z   5 %o = rmw xchg i16 %p, 513
--   6 %e = cmpxchg i8 %p, %c, 2   7 %w = sext i8 %e to i64   8 %l = icmp ult ptr %z, %a   9 %u = ptrtoint %p   10 %i = input 1
--   11 %s = add i64 %u, %i   12 %v = select i64 %l, %s, 0   13 %h = host i64 @any(i64 %v, ptr %p)   14 print i64 %h
--   15 %q = call ptr @g(ptr %p, i8 255)   16 %t = spawn @g(ptr %q, i8 0)   17 %r = join ptr %t   18 join ptr %t   19 free %r
--   20 ret i64 %w
abbrev pub kinds_g : Function
kinds_g =
    function (103 ∷ []) (record { ty = Ptr; attr = Some (record { kind = Boxed; size = 4 }); reg = named 112 } ∷ record { ty = Int W8; attr = None; reg = named 110 } ∷ []) (shr_result 2)
    (block 101 [] [] (ret_of (reg Ptr 112)) ∷ [])

abbrev pub kinds_m : Function
kinds_m =
    function (109 ∷ []) [] (gives (Int W64))
    (block 101 []
    (def 97 (op.Make Heap (Num 8))
    ∷ def 122 op.Null
    ∷ def 99 (op.Const W8 1)
    ∷ def 112 (op.Select Ptr (Reg (named 99)) (Reg (named 97)) (Reg (named 122)))
    ∷ def 111 (op.Modify Xchg W16 (named 112) (Num 513))
    ∷ def 101 (op.CmpXchg W8 (named 112) (Reg (named 99)) (Num 2))
    ∷ def 119 (op.Cast Sext W8 W64 (Reg (named 101)) 0)
    ∷ def 108 (op.Compare Ult Ptr (Reg (named 122)) (Reg (named 97)))
    ∷ def 117 (op.PtrToInt (named 112))
    ∷ def 105 (op.Input (Num 1))
    ∷ def 115 (op.Binary Add W64 (Reg (named 117)) (Reg (named 105)))
    ∷ def 118 (op.Select (Int W64) (Reg (named 108)) (Reg (named 115)) (Num 0))
    ∷ def 104 (op.Host (Int W64) (named 120) (reg (Int W64) 118 ∷ reg Ptr 112 ∷ []))
    ∷ does (op.Print W64 (Reg (named 104)))
    ∷ def 113 (op.Call (Some Ptr) (named 103) (reg Ptr 112 ∷ record { ty = Int W8; val = Num 255 } ∷ []))
    ∷ def 116 (op.Spawn (named 103) (reg Ptr 113 ∷ record { ty = Int W8; val = Num 0 } ∷ []))
    ∷ def 114 (op.Join (Some Ptr) 0 (named 116))
    ∷ does (op.Join (Some Ptr) 0 (named 116))
    ∷ does (op.Free (named 114))
    ∷ [])
    (ret_of (reg (Int W64) 119)) ∷ [])

abbrev pub kinds : Program
kinds = record { version = 1; functions = kinds_g ∷ kinds_m ∷ []; end = 0 }

abbrev pub kinds_hosts : List HostEntry
kinds_hosts = record { name = 121 ∷ []; arity = 1; rule = Any } ∷ record { name = 120 ∷ []; arity = 2; rule = Any } ∷ []

abbrev pub kinds_input : List ℕ
kinds_input = 7 ∷ []

-- a thread returned this pointer
abbrev pub pointer : ℕ → ℕ → Given
pointer a t = Some (record { plain = plain.Value (a * 2 ^ 32); carried = Some (prov a t); verdict = verdict.Clean })

abbrev pub kinds_given : List Given
kinds_given =
    made 1 1 ∷ None ∷ None ∷ None ∷ value 0 ∷ value 255 ∷ None ∷ None ∷ None ∷ None ∷ None ∷ None ∷ value 9 ∷ done
    ∷ None ∷ retagged 1 4 ∷ done ∷ retagged 1 5 ∷ spawned 3 ∷ pointer 1 6 ∷ retagged 1 7 ∷ pointer 1 6 ∷ retagged 1 8 ∷ done ∷ None
    ∷ []

abbrev pub kinds_asked : List (ℕ × Ask)
kinds_asked =
    (1, ask.Make 8 Heap)
    ∷ (2, ask.Turn)
    ∷ (3, ask.Turn)
    ∷ (4, ask.Turn)
    ∷ (5, ask.At (alloc 1) (request.Modify 0 W16 Xchg 513 (Some (prov 1 1))))
    ∷ (6, ask.At (alloc 1) (request.CmpXchg 0 W8 1 2 (Some (prov 1 1))))
    ∷ (7, ask.Turn)
    ∷ (8, ask.Turn)
    ∷ (9, ask.Turn)
    ∷ (10, ask.Turn)
    ∷ (11, ask.Turn)
    ∷ (12, ask.Turn)
    ∷ (13, ask.Host 1 4294967552 4294967296)
    ∷ (14, ask.Print 9)
    ∷ (15, ask.Turn)
    ∷ (0, ask.At (alloc 1) (request.Retag 0 4 Boxed Weak (Some (prov 1 1))))
    ∷ (0, ask.At (alloc 1) (request.EndProtector (tag 4)))
    ∷ (15, ask.At (alloc 1) (request.Retag 0 2 Shr Free (Some (prov 1 4))))
    ∷ (16, ask.Spawn 0)
    ∷ (17, ask.Join (record { 0 = 3 }))
    ∷ (17, ask.At (alloc 1) (request.Retag 0 2 Shr Free (Some (prov 1 6))))
    ∷ (18, ask.Join (record { 0 = 3 }))
    ∷ (18, ask.At (alloc 1) (request.Retag 0 2 Shr Free (Some (prov 1 6))))
    ∷ (19, ask.At (alloc 1) (request.Free 0 false (Some (prov 1 7))))
    ∷ (20, ask.Turn)
    ∷ (20, ask.Ended (end.Returned 18446744073709551615 None))
    ∷ []
