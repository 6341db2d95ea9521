-- The words that operations and terminators begin with.
use Rattle.std.specs.Prelude.{ℕ, List, [], ◌∷◌, ◌++◌, codes}
use Rattle.ir_ast.specs.Keywords.{binary_word, cast_word}
use Rattle.ir_ast.specs.declared.types.Place.TheVariants.{Stack, Heap}
use Rattle.ir_ast.specs.declared.operators.BinaryOp.TheVariants as binary
use Rattle.ir_ast.specs.declared.operators.CastOp.TheVariants.{Zext, Sext, Trunc}
use Rattle.ir_reader.specs.declared.keywords.Keyword.{Keyword}
use Rattle.ir_reader.specs.declared.keywords.Keyword.TheVariants as key
use Rattle.ir_reader.specs.declared.keywords.JumpWord.{JumpWord}
use Rattle.ir_reader.specs.declared.keywords.JumpWord.TheVariants as jump
use Rattle.ir_reader.specs.Tables.{worded}

abbrev pub key_word : Keyword → List ℕ
key_word key.Const = codes "const"
key_word key.Null = codes "null"
key_word (key.Make Stack) = codes "alloca"
key_word (key.Make Heap) = codes "malloc"
key_word key.Gep = codes "gep"
key_word key.Load = codes "load"
key_word key.Store = codes "store"
key_word key.Retag = codes "retag"
key_word (key.Binary o) = binary_word o
key_word key.Compare = codes "icmp"
key_word key.Select = codes "select"
key_word (key.Cast o) = cast_word o
key_word key.PtrToInt = codes "ptrtoint"
key_word key.Input = codes "input"
key_word key.Modify = codes "rmw"
key_word key.CmpXchg = codes "cmpxchg"
key_word key.Copy = codes "memcpy"
key_word key.Free = codes "free"
key_word key.Print = codes "print"
key_word key.Call = codes "call"
key_word key.Host = codes "host"
key_word key.Spawn = codes "spawn"
key_word key.Join = codes "join"

abbrev pub jump_key_word : JumpWord → List ℕ
jump_key_word jump.Br = codes "br"
jump_key_word jump.CondBr = codes "condbr"
jump_key_word jump.Ret = codes "ret"
jump_key_word jump.Unreachable = codes "unreachable"

-- values from nowhere, from memory and of pointers
abbrev pub memory_words : List (List ℕ × Keyword)
memory_words = worded key_word (key.Const ∷ key.Null ∷ key.Make Stack ∷ key.Make Heap ∷ key.Gep ∷ key.Load ∷ key.Retag ∷ [])

-- sums, products and quotients
abbrev pub arithmetic_words : List (List ℕ × Keyword)
arithmetic_words = worded key_word (key.Binary binary.Add ∷ key.Binary binary.Sub ∷ key.Binary binary.Mul ∷ key.Binary binary.Udiv ∷ key.Binary binary.Sdiv ∷ key.Binary binary.Urem ∷ key.Binary binary.Srem ∷ [])

-- operations on bits
abbrev pub bit_words : List (List ℕ × Keyword)
bit_words = worded key_word (key.Binary binary.And ∷ key.Binary binary.Or ∷ key.Binary binary.Xor ∷ key.Binary binary.Shl ∷ key.Binary binary.Lshr ∷ key.Binary binary.Ashr ∷ [])

-- comparisons, choices and conversions
abbrev pub choice_words : List (List ℕ × Keyword)
choice_words = worded key_word (key.Compare ∷ key.Select ∷ key.Cast Zext ∷ key.Cast Sext ∷ key.Cast Trunc ∷ key.PtrToInt ∷ key.Input ∷ [])

-- operations on shared memory, and calls
abbrev pub shared_words : List (List ℕ × Keyword)
shared_words = worded key_word (key.Modify ∷ key.CmpXchg ∷ key.Call ∷ key.Host ∷ key.Spawn ∷ key.Join ∷ [])

-- those that give a value
abbrev pub definers : List (List ℕ × Keyword)
definers = (((memory_words ++ arithmetic_words) ++ bit_words) ++ choice_words) ++ shared_words

-- those that may stand without a register
abbrev pub plains : List (List ℕ × Keyword)
plains = worded key_word (key.Store ∷ key.Copy ∷ key.Free ∷ key.Print ∷ key.Call ∷ key.Join ∷ [])

-- those that end a block
abbrev pub jumps : List (List ℕ × JumpWord)
jumps = worded jump_key_word (jump.Br ∷ jump.CondBr ∷ jump.Ret ∷ jump.Unreachable ∷ [])
