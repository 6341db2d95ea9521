-- The texts of the words that lines are made of.
use Rattle.std.specs.Prelude.{ℕ, List, ◌++◌, codes}
use Rattle.std.specs.Fmt.{decimal}
use Rattle.perm_table.specs.declared.Guard.{Guard}
use Rattle.perm_table.specs.declared.Guard.TheVariants as guard
use Rattle.ir_ast.specs.declared.types.Place.{Place}
use Rattle.ir_ast.specs.declared.types.Place.TheVariants as place
use Rattle.ir_ast.specs.Keywords.{width_word, type_word, kind_word, binary_word, cond_word, cast_word, modify_word}
use Rattle.target_code.specs.declared.line.Operand.{Operand}
use Rattle.target_code.specs.declared.line.Operand.TheVariants as operand
use Rattle.target_code.specs.declared.line.Shadow.{Shadow}
use Rattle.target_code.specs.declared.line.Shadow.TheVariants as shadow
use Rattle.target_code.specs.declared.words.Keyword.{Keyword}
use Rattle.target_code.specs.declared.words.Keyword.TheVariants as keyword
use Rattle.target_code.specs.declared.words.Word.{Word}
use Rattle.target_code.specs.declared.words.Word.TheVariants as word

abbrev pub keyword_text : Keyword → List ℕ
keyword_text keyword.Equals = codes "="
keyword_text keyword.Turn = codes "turn"
keyword_text keyword.PushFrame = codes "pushframe"
keyword_text keyword.Param = codes "param"
keyword_text keyword.ShadowParam = codes "shadowparam"
keyword_text keyword.Const = codes "const"
keyword_text keyword.Make = codes "make"
keyword_text keyword.Gep = codes "gep"
keyword_text keyword.Check = codes "check"
keyword_text keyword.Read = codes "read"
keyword_text keyword.Write = codes "write"
keyword_text keyword.Load = codes "load"
keyword_text keyword.Loaded = codes "loaded"
keyword_text keyword.Stored = codes "stored"
keyword_text keyword.Store = codes "store"
keyword_text keyword.Retag = codes "retag"
keyword_text keyword.Icmp = codes "icmp"
keyword_text keyword.Select = codes "select"
keyword_text keyword.PtrToInt = codes "ptrtoint"
keyword_text keyword.Input = codes "input"
keyword_text keyword.Rmw = codes "rmw"
keyword_text keyword.CmpXchg = codes "cmpxchg"
keyword_text keyword.Copy = codes "copy"
keyword_text keyword.MemCpy = codes "memcpy"
keyword_text keyword.Free = codes "free"
keyword_text keyword.Print = codes "print"
keyword_text keyword.Arg = codes "arg"
keyword_text keyword.ShadowArg = codes "shadowarg"
keyword_text keyword.Call = codes "call"
keyword_text keyword.Result = codes "result"
keyword_text keyword.ShadowResult = codes "shadowresult"
keyword_text keyword.Spawn = codes "spawn"
keyword_text keyword.Join = codes "join"
keyword_text keyword.Host = codes "host"
keyword_text keyword.Branch = codes "branch"
keyword_text keyword.Jump = codes "jump"
keyword_text keyword.PopFrame = codes "popframe"
keyword_text keyword.Return = codes "return"
keyword_text keyword.Unreachable = codes "unreachable"

abbrev pub guard_word : Guard → List ℕ
guard_word guard.Free = codes "free"
guard_word guard.Weak = codes "weak"
guard_word guard.Strong = codes "strong"

abbrev pub place_word : Place → List ℕ
place_word place.Stack = codes "stack"
place_word place.Heap = codes "heap"

abbrev pub slot_text : ℕ → List ℕ
slot_text n = codes "s" ++ decimal n

abbrev pub shadow_slot_text : ℕ → List ℕ
shadow_slot_text n = codes "h" ++ decimal n

abbrev pub operand_text : Operand → List ℕ
operand_text (operand.Slot n) = slot_text n
operand_text (operand.Number n) = decimal n

abbrev pub shadow_text : Shadow → List ℕ
shadow_text (shadow.Slot n) = shadow_slot_text n
shadow_text shadow.Nothing = codes "none"

abbrev pub word_text : Word → List ℕ
word_text (word.Keyword x) = keyword_text x
word_text (word.Type x) = type_word x
word_text (word.Width x) = width_word x
word_text (word.Kind x) = kind_word x
word_text (word.Guard x) = guard_word x
word_text (word.Place x) = place_word x
word_text (word.Binary x) = binary_word x
word_text (word.Cond x) = cond_word x
word_text (word.Cast x) = cast_word x
word_text (word.Modify x) = modify_word x
word_text (word.Slot n) = slot_text n
word_text (word.ShadowSlot n) = shadow_slot_text n
word_text (word.Number n) = decimal n
word_text (word.Operand x) = operand_text x
word_text (word.Shadow x) = shadow_text x
