-- The generated program.
use Rattle.std.specs.Prelude.{ℕ, ◌/◌, ◌%◌, ◌==◌, List, [], ◌∷◌, ◌++◌, map, codes, Some, None, if◌then◌else◌}
use Rattle.perm_table.specs.declared.RetagKind.TheVariants.{Mut}
use Rattle.ir_ast.specs.declared.types.Width.TheVariants.{W64}
use Rattle.ir_ast.specs.declared.types.Ty.{Ty}
use Rattle.ir_ast.specs.declared.types.Ty.TheVariants.{Int, Ptr}
use Rattle.ir_ast.specs.declared.types.Place.TheVariants.{Heap}
use Rattle.ir_ast.specs.declared.operators.BinaryOp.TheVariants.{Add}
use Rattle.ir_ast.specs.declared.program.Named.{Named}
use Rattle.ir_ast.specs.declared.program.Param.{Param}
use Rattle.ir_ast.specs.declared.program.Val.{Val}
use Rattle.ir_ast.specs.declared.program.Val.TheVariants.{Reg, Num}
use Rattle.ir_ast.specs.declared.program.Op.{Op}
use Rattle.ir_ast.specs.declared.program.Op.TheVariants.{Make, Gep, Load, Store, Binary, Free, Print, Spawn, Join}
use Rattle.ir_ast.specs.declared.program.Inst.{Inst}
use Rattle.ir_ast.specs.declared.program.Jump.TheVariants.{Ret}
use Rattle.ir_ast.specs.declared.program.Function.{Function}
use Rattle.ir_ast.specs.declared.program.Program.{Program}
use Rattle.workload.specs.Draws.{draws, after}

abbrev pub word : Ty
word = Int W64

-- all places are 0
abbrev pub named : List ℕ → Named
named text = record { name = text; at = 0 }

abbrev pub reg : List ℕ → Val
reg text = Reg (named text)

abbrev pub into : List ℕ → Op → Inst
into dest op = record { dest = Some (named dest); at = 0; op = op }

abbrev pub alone : Op → Inst
alone op = record { dest = None; at = 0; op = op }

abbrev pub gep : List ℕ → List ℕ → ℕ → Inst
gep dest ptr add = into dest (Gep (named ptr) (Num add))

abbrev pub load : List ℕ → List ℕ → Inst
load dest ptr = into dest (Load word (named ptr))

abbrev pub add : List ℕ → List ℕ → List ℕ → Inst
add dest a b = into dest (Binary Add W64 (reg a) (reg b))

abbrev pub spawn : List ℕ → List ℕ → List ℕ → Inst
spawn dest function arg = into dest (Spawn (named function) (record { ty = Ptr; val = reg arg } ∷ []))

abbrev pub join : List ℕ → List ℕ → Inst
join dest handle = into dest (Join (Some word) 0 (named handle))

-- a function with one block that returns a word
abbrev pub function : List ℕ → List Param → List Inst → Val → Function
function name params insts val = record {
  name = named name;
  params = params;
  result = record { ty = Some word; attr = None };
  blocks = record {
    label = named (codes "entry");
    params = [];
    insts = insts;
    term = record { at = 0; jump = Ret (Some (record { ty = word; val = val })) 0 };
  } ∷ [];
}

-- the pointer that a draw stores through
abbrev pub pointer : ℕ → List ℕ
pointer d =
    if d % 4 == 0 then codes "p0"
    else (if d % 4 == 1 then codes "p1"
    else (if d % 4 == 2 then codes "p2" else codes "p3"))

abbrev pub store : ℕ → Inst
store d = alone (Store word (Num (d / 4)) (named (pointer d)))

abbrev pub word_pointers : List Inst
word_pointers =
    gep (codes "p1") (codes "p0") 8 ∷ gep (codes "p2") (codes "p0") 16 ∷ gep (codes "p3") (codes "p0") 24 ∷ []

abbrev pub totals : List Inst
totals =
    load (codes "v0") (codes "p0") ∷ load (codes "v1") (codes "p1") ∷ load (codes "v2") (codes "p2") ∷ load (codes "v3") (codes "p3")
    ∷ add (codes "s1") (codes "v0") (codes "v1") ∷ add (codes "s2") (codes "s1") (codes "v2") ∷ add (codes "s3") (codes "s2") (codes "v3") ∷ []

abbrev pub worker_param : Param
worker_param = record { ty = Ptr; attr = Some (record { kind = Mut; size = 32 }); reg = named (codes "p0") }

-- a worker stores each draw in one of its four words, and returns their sum
abbrev pub worker : List ℕ → List ℕ → Function
worker name ds = function name (worker_param ∷ []) (word_pointers ++ (map store ds ++ totals)) (reg (codes "s3"))

-- main's allocation and its quarters, the workers, their ends, and the sum
abbrev pub quarters : List Inst
quarters =
    into (codes "x") (Make Heap (Num 128))
    ∷ gep (codes "x1") (codes "x") 32 ∷ gep (codes "x2") (codes "x") 64 ∷ gep (codes "x3") (codes "x") 96 ∷ []

abbrev pub spawns : List Inst
spawns =
    spawn (codes "h0") (codes "w0") (codes "x") ∷ spawn (codes "h1") (codes "w1") (codes "x1")
    ∷ spawn (codes "h2") (codes "w2") (codes "x2") ∷ spawn (codes "h3") (codes "w3") (codes "x3") ∷ []

abbrev pub joins : List Inst
joins =
    join (codes "r0") (codes "h0") ∷ join (codes "r1") (codes "h1") ∷ join (codes "r2") (codes "h2") ∷ join (codes "r3") (codes "h3") ∷ []

abbrev pub sums : List Inst
sums =
    add (codes "a") (codes "r0") (codes "r1") ∷ add (codes "b") (codes "a") (codes "r2") ∷ add (codes "c") (codes "b") (codes "r3")
    ∷ alone (Print W64 (reg (codes "c"))) ∷ alone (Free (named (codes "x"))) ∷ []

abbrev pub main_insts : List Inst
main_insts = quarters ++ (spawns ++ (joins ++ sums))

-- main lends each worker a quarter of one allocation, and prints the sum of what they return
abbrev pub main : Function
main = function (codes "main") [] main_insts (Num 0)

-- the workers draw in their order
abbrev pub functions_of : List ℕ → List ℕ → List ℕ → List ℕ → List Function
functions_of a b c d =
    worker (codes "w0") a ∷ worker (codes "w1") b ∷ worker (codes "w2") c ∷ worker (codes "w3") d ∷ main ∷ []

abbrev pub made : ℕ → ℕ → Program
made seed size = record {
  version = 1;
  functions = functions_of (draws size seed) (draws size (after size seed)) (draws size (after size (after size seed))) (draws size (after size (after size (after size seed))));
  end = 0;
}
