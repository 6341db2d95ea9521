-- The text of target code.
use Rattle.std.specs.Prelude.{ℕ, suc, List, [], ◌∷◌, ◌++◌, map, codes}
use Rattle.std.specs.List.{flat_map}
use Rattle.std.specs.Fmt.{decimal}
use Rattle.target_code.specs.Words.{word_text}
use Rattle.target_code.specs.declared.words.Keyword.TheVariants as keyword
use Rattle.target_code.specs.declared.words.Word.{Word}
use Rattle.target_code.specs.declared.words.Word.TheVariants as word
use Rattle.target_code.specs.declared.line.Operand.TheVariants as operand
use Rattle.target_code.specs.declared.line.Line.{Line}
use Rattle.target_code.specs.declared.line.Line.TheVariants as line
use Rattle.target_code.specs.declared.line.TargetFunction.{TargetFunction}
use Rattle.target_code.specs.declared.line.Target.{Target}

-- a word of a line after its first
abbrev pub next : Word → List ℕ
next w = codes " " ++ word_text w

-- these words, with spaces between them
unfoldable pub spaced : List Word → List ℕ
spaced [] = []
spaced (w ∷ ws) = word_text w ++ flat_map next ws

-- the words of each form of line
abbrev pub words : Line → List Word
words (line.Turn number) = word.Keyword keyword.Turn ∷ word.Number number ∷ []
words line.PushFrame = word.Keyword keyword.PushFrame ∷ []
words (line.Param slot index) = word.Slot slot ∷ word.Keyword keyword.Equals ∷ word.Keyword keyword.Param ∷ word.Number index ∷ []
words (line.ShadowParam to index) = word.ShadowSlot to ∷ word.Keyword keyword.Equals ∷ word.Keyword keyword.ShadowParam ∷ word.Number index ∷ []
words (line.Const slot ty value) = word.Slot slot ∷ word.Keyword keyword.Equals ∷ word.Keyword keyword.Const ∷ word.Type ty ∷ word.Operand (operand.Number value) ∷ []
words (line.Move slot from) = word.Slot slot ∷ word.Keyword keyword.Equals ∷ word.Slot from ∷ []
words (line.ShadowMove to from) = word.ShadowSlot to ∷ word.Keyword keyword.Equals ∷ word.Shadow from ∷ []
words (line.Make slot to made size) = word.Slot slot ∷ word.ShadowSlot to ∷ word.Keyword keyword.Equals ∷ word.Keyword keyword.Make ∷ word.Place made ∷ word.Operand size ∷ []
words (line.Gep slot ptr add) = word.Slot slot ∷ word.Keyword keyword.Equals ∷ word.Keyword keyword.Gep ∷ word.Slot ptr ∷ word.Operand add ∷ []
words (line.CheckRead ptr ptr_shadow bytes) = word.Keyword keyword.Check ∷ word.Keyword keyword.Read ∷ word.Slot ptr ∷ word.ShadowSlot ptr_shadow ∷ word.Number bytes ∷ []
words (line.Load slot ty ptr) = word.Slot slot ∷ word.Keyword keyword.Equals ∷ word.Keyword keyword.Load ∷ word.Type ty ∷ word.Slot ptr ∷ []
words (line.Loaded to) = word.ShadowSlot to ∷ word.Keyword keyword.Equals ∷ word.Keyword keyword.Loaded ∷ []
words (line.Stored from) = word.Keyword keyword.Stored ∷ word.Keyword keyword.Equals ∷ word.Shadow from ∷ []
words (line.CheckWrite ptr ptr_shadow bytes) = word.Keyword keyword.Check ∷ word.Keyword keyword.Write ∷ word.Slot ptr ∷ word.ShadowSlot ptr_shadow ∷ word.Number bytes ∷ []
words (line.Store ty value ptr) = word.Keyword keyword.Store ∷ word.Type ty ∷ word.Operand value ∷ word.Slot ptr ∷ []
words (line.Retag to how guarded ptr ptr_shadow size) = word.ShadowSlot to ∷ word.Keyword keyword.Equals ∷ word.Keyword keyword.Retag ∷ word.Kind how ∷ word.Guard guarded ∷ word.Slot ptr ∷ word.ShadowSlot ptr_shadow ∷ word.Number size ∷ []
words (line.Binary slot o width a b) = word.Slot slot ∷ word.Keyword keyword.Equals ∷ word.Binary o ∷ word.Width width ∷ word.Operand a ∷ word.Operand b ∷ []
words (line.Compare slot cond ty a b) = word.Slot slot ∷ word.Keyword keyword.Equals ∷ word.Keyword keyword.Icmp ∷ word.Cond cond ∷ word.Type ty ∷ word.Operand a ∷ word.Operand b ∷ []
words (line.Select slot ty cond a b) = word.Slot slot ∷ word.Keyword keyword.Equals ∷ word.Keyword keyword.Select ∷ word.Type ty ∷ word.Operand cond ∷ word.Operand a ∷ word.Operand b ∷ []
words (line.ShadowSelect to cond a b) = word.ShadowSlot to ∷ word.Keyword keyword.Equals ∷ word.Keyword keyword.Select ∷ word.Operand cond ∷ word.Shadow a ∷ word.Shadow b ∷ []
words (line.Cast slot o from value to) = word.Slot slot ∷ word.Keyword keyword.Equals ∷ word.Cast o ∷ word.Width from ∷ word.Operand value ∷ word.Width to ∷ []
words (line.PtrToInt slot ptr) = word.Slot slot ∷ word.Keyword keyword.Equals ∷ word.Keyword keyword.PtrToInt ∷ word.Slot ptr ∷ []
words (line.Input slot index) = word.Slot slot ∷ word.Keyword keyword.Equals ∷ word.Keyword keyword.Input ∷ word.Operand index ∷ []
words (line.Modify slot o width ptr value) = word.Slot slot ∷ word.Keyword keyword.Equals ∷ word.Keyword keyword.Rmw ∷ word.Modify o ∷ word.Width width ∷ word.Slot ptr ∷ word.Operand value ∷ []
words (line.CmpXchg slot width ptr expected value) = word.Slot slot ∷ word.Keyword keyword.Equals ∷ word.Keyword keyword.CmpXchg ∷ word.Width width ∷ word.Slot ptr ∷ word.Operand expected ∷ word.Operand value ∷ []
words (line.CheckCopy to to_shadow from from_shadow len) = word.Keyword keyword.Check ∷ word.Keyword keyword.Copy ∷ word.Slot to ∷ word.ShadowSlot to_shadow ∷ word.Slot from ∷ word.ShadowSlot from_shadow ∷ word.Operand len ∷ []
words (line.Copy to from len) = word.Keyword keyword.MemCpy ∷ word.Slot to ∷ word.Slot from ∷ word.Operand len ∷ []
words (line.CheckFree ptr ptr_shadow) = word.Keyword keyword.Check ∷ word.Keyword keyword.Free ∷ word.Slot ptr ∷ word.ShadowSlot ptr_shadow ∷ []
words (line.Free ptr) = word.Keyword keyword.Free ∷ word.Slot ptr ∷ []
words (line.Print width value) = word.Keyword keyword.Print ∷ word.Width width ∷ word.Operand value ∷ []
words (line.Arg index value) = word.Keyword keyword.Arg ∷ word.Number index ∷ word.Keyword keyword.Equals ∷ word.Operand value ∷ []
words (line.ShadowArg index from) = word.Keyword keyword.ShadowArg ∷ word.Number index ∷ word.Keyword keyword.Equals ∷ word.Shadow from ∷ []
words (line.TakeArg slot index) = word.Slot slot ∷ word.Keyword keyword.Equals ∷ word.Keyword keyword.Arg ∷ word.Number index ∷ []
words (line.TakeShadowArg to index) = word.ShadowSlot to ∷ word.Keyword keyword.Equals ∷ word.Keyword keyword.ShadowArg ∷ word.Number index ∷ []
words (line.Call function) = word.Keyword keyword.Call ∷ word.Number function ∷ []
words (line.CallResult slot) = word.Slot slot ∷ word.Keyword keyword.Equals ∷ word.Keyword keyword.Result ∷ []
words (line.ShadowCallResult to) = word.ShadowSlot to ∷ word.Keyword keyword.Equals ∷ word.Keyword keyword.ShadowResult ∷ []
words (line.RetagResult how size) = word.Keyword keyword.Retag ∷ word.Kind how ∷ word.Keyword keyword.Free ∷ word.Keyword keyword.Result ∷ word.Keyword keyword.ShadowResult ∷ word.Number size ∷ []
words (line.Spawn slot function) = word.Slot slot ∷ word.Keyword keyword.Equals ∷ word.Keyword keyword.Spawn ∷ word.Number function ∷ []
words (line.Join handle) = word.Keyword keyword.Join ∷ word.Slot handle ∷ []
words (line.Host slot host args) = word.Slot slot ∷ word.Keyword keyword.Equals ∷ word.Keyword keyword.Host ∷ word.Number host ∷ map word.Operand args
words (line.Branch cond) = word.Keyword keyword.Branch ∷ word.Operand cond ∷ []
words (line.Jump block) = word.Keyword keyword.Jump ∷ word.Number block ∷ []
words (line.Result value) = word.Keyword keyword.Result ∷ word.Keyword keyword.Equals ∷ word.Operand value ∷ []
words (line.ShadowResult from) = word.Keyword keyword.ShadowResult ∷ word.Keyword keyword.Equals ∷ word.Shadow from ∷ []
words line.PopFrame = word.Keyword keyword.PopFrame ∷ []
words line.Return = word.Keyword keyword.Return ∷ []
words line.Unreachable = word.Keyword keyword.Unreachable ∷ []

abbrev pub line_text : Line → List ℕ
line_text l = spaced (words l)

abbrev pub with_newline : Line → List ℕ
with_newline l = line_text l ++ codes "\n"

-- the lines of a block, which has this number
abbrev pub block_text : ℕ → List Line → List ℕ
block_text number lines = codes "block " ++ decimal number ++ codes "\n" ++ flat_map with_newline lines

-- blocks, and functions, numbered from the first number on
abbrev pub blocks_text : ℕ → List (List Line) → List ℕ
blocks_text number [] = []
blocks_text number (b ∷ bs) = block_text number b ++ blocks_text (suc number) bs

abbrev pub header_text : ℕ → TargetFunction → List ℕ
header_text number f = codes "func " ++ decimal number ++ codes " @" ++ f.name ++ codes " slots " ++ decimal f.slots ++ codes "\n"

abbrev pub function_text : ℕ → TargetFunction → List ℕ
function_text number f = header_text number f ++ flat_map with_newline f.entry ++ blocks_text 0 f.blocks

abbrev pub functions_text : ℕ → List TargetFunction → List ℕ
functions_text number [] = []
functions_text number (f ∷ fs) = function_text number f ++ functions_text (suc number) fs

abbrev pub target_text : Target → List ℕ
target_text t = codes "target " ++ decimal t.version ++ codes "\n" ++ functions_text 0 t.functions
