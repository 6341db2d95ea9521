-- The words that stand for a value each.
use Rattle.std.specs.Prelude.{ℕ, Bool, true, false, List, [], ◌∷◌, ◌++◌, codes}
use Rattle.perm_table.specs.declared.Perm.{Perm}
use Rattle.perm_table.specs.declared.Perm.TheVariants as perm
use Rattle.perm_table.specs.declared.Guard.{Guard}
use Rattle.perm_table.specs.declared.Guard.TheVariants as guard
use Rattle.perm_table.specs.declared.RetagKind.{RetagKind}
use Rattle.perm_table.specs.declared.RetagKind.TheVariants as kind
use Rattle.ir_ast.specs.Keywords.{width_word, type_word, kind_word, modify_word}
use Rattle.ir_ast.specs.declared.types.Width.{Width}
use Rattle.ir_ast.specs.declared.types.Width.TheVariants.{W8, W16, W32, W64}
use Rattle.ir_ast.specs.declared.types.Ty.{Ty}
use Rattle.ir_ast.specs.declared.types.Ty.TheVariants.{Int, Ptr}
use Rattle.ir_ast.specs.declared.types.Place.{Place}
use Rattle.ir_ast.specs.declared.types.Place.TheVariants.{Stack, Heap}
use Rattle.ir_ast.specs.declared.operators.ModifyOp.{ModifyOp}
use Rattle.ir_ast.specs.declared.operators.ModifyOp.TheVariants as modify
use Rattle.target_code.specs.Words.{guard_word, place_word}
use Rattle.history.specs.declared.trap.Trap.{Trap}
use Rattle.history.specs.declared.trap.Trap.TheVariants as trap
use Rattle.record_text.specs.Words.{perm_name, trap_name, flag_word, side_word}
use Rattle.record_text.specs.Reading.{worded}
use Rattle.record_text.specs.declared.keys.RequestKey.{RequestKey}
use Rattle.record_text.specs.declared.keys.RequestKey.TheVariants as request
use Rattle.record_text.specs.declared.keys.PlainKey.{PlainKey}
use Rattle.record_text.specs.declared.keys.PlainKey.TheVariants as plain
use Rattle.record_text.specs.declared.keys.VerdictKey.{VerdictKey}
use Rattle.record_text.specs.declared.keys.VerdictKey.TheVariants as verdict
use Rattle.record_text.specs.declared.keys.EndKey.{EndKey}
use Rattle.record_text.specs.declared.keys.EndKey.TheVariants as ends
use Rattle.record_text.specs.declared.keys.LineKey.{LineKey}
use Rattle.record_text.specs.declared.keys.LineKey.TheVariants as line

abbrev pub types : List (List ℕ × Ty)
types = worded type_word (Int W8 ∷ Int W16 ∷ Int W32 ∷ Int W64 ∷ Ptr ∷ [])

abbrev pub widths : List (List ℕ × Width)
widths = worded width_word (W8 ∷ W16 ∷ W32 ∷ W64 ∷ [])

abbrev pub modifiers : List (List ℕ × ModifyOp)
modifiers = worded modify_word (modify.Add ∷ modify.Sub ∷ modify.And ∷ modify.Or ∷ modify.Xor ∷ modify.Xchg ∷ modify.Umin ∷ modify.Umax ∷ [])

abbrev pub kinds : List (List ℕ × RetagKind)
kinds = worded kind_word (kind.Mut ∷ kind.Cell ∷ kind.Shr ∷ kind.Boxed ∷ kind.ShrCell ∷ [])

abbrev pub guards : List (List ℕ × Guard)
guards = worded guard_word (guard.Free ∷ guard.Weak ∷ guard.Strong ∷ [])

abbrev pub places : List (List ℕ × Place)
places = worded place_word (Stack ∷ Heap ∷ [])

abbrev pub perms : List (List ℕ × Perm)
perms = worded perm_name (perm.Reserved ∷ perm.Conflicted ∷ perm.CellReserved ∷ perm.Unique ∷ perm.Frozen ∷ perm.Disabled ∷ perm.Cell ∷ [])

-- traps by their names; a number that a name needs is 0
abbrev pub memory_traps : List (List ℕ × Trap)
memory_traps = worded trap_name (trap.NoAllocation ∷ trap.OutOfBounds ∷ trap.Freed ∷ trap.BadFree ∷ trap.BadSize ∷ [])

abbrev pub other_traps : List (List ℕ × Trap)
other_traps = worded trap_name (trap.DivZero ∷ trap.ShiftTooFar ∷ trap.AllocLimit 0 ∷ trap.ThreadLimit 0 ∷ trap.DepthLimit ∷ trap.Unreachable ∷ [])

abbrev pub traps : List (List ℕ × Trap)
traps = memory_traps ++ other_traps

abbrev pub flags : List (List ℕ × Bool)
flags = worded flag_word (true ∷ false ∷ [])

abbrev pub sides : List (List ℕ × Bool)
sides = worded side_word (true ∷ false ∷ [])

-- ---- the words that requests, replies, verdicts, ends and lines begin with

abbrev pub request_key_word : RequestKey → List ℕ
request_key_word request.Load = codes "load"
request_key_word request.Store = codes "store"
request_key_word request.Modify = codes "rmw"
request_key_word request.CmpXchg = codes "cmpxchg"
request_key_word request.CopyOut = codes "out"
request_key_word request.CopyIn = codes "in"
request_key_word request.Retag = codes "retag"
request_key_word request.EndProtector = codes "endprotector"
request_key_word request.Free = codes "free"
request_key_word request.Make = codes "make"
request_key_word request.Print = codes "print"
request_key_word request.Host = codes "host"
request_key_word request.Spawn = codes "spawn"
request_key_word request.Join = codes "join"

abbrev pub access_keys : List (List ℕ × RequestKey)
access_keys = worded request_key_word (request.Load ∷ request.Store ∷ request.Modify ∷ request.CmpXchg ∷ request.CopyOut ∷ request.CopyIn ∷ [])

abbrev pub other_keys : List (List ℕ × RequestKey)
other_keys = worded request_key_word (request.Retag ∷ request.EndProtector ∷ request.Free ∷ request.Make ∷ request.Print ∷ request.Host ∷ request.Spawn ∷ request.Join ∷ [])

abbrev pub request_keys : List (List ℕ × RequestKey)
request_keys = access_keys ++ other_keys

abbrev pub plain_key_word : PlainKey → List ℕ
plain_key_word plain.Made = codes "made"
plain_key_word plain.Value = codes "value"
plain_key_word plain.Copied = codes "copied"
plain_key_word plain.Done = codes "done"
plain_key_word plain.Retagged = codes "retagged"
plain_key_word plain.Spawned = codes "spawned"
plain_key_word plain.Trapped = codes "trapped"

abbrev pub plain_keys : List (List ℕ × PlainKey)
plain_keys = worded plain_key_word (plain.Made ∷ plain.Value ∷ plain.Copied ∷ plain.Done ∷ plain.Retagged ∷ plain.Spawned ∷ plain.Trapped ∷ [])

abbrev pub verdict_key_word : VerdictKey → List ℕ
verdict_key_word verdict.Clean = codes "clean"
verdict_key_word verdict.Closed = codes "closed"
verdict_key_word verdict.Denied = codes "denied"
verdict_key_word verdict.StrongFree = codes "strongfree"
verdict_key_word verdict.Stranger = codes "stranger"
verdict_key_word verdict.Freed = codes "freed"
verdict_key_word verdict.OutOfRange = codes "outofrange"

abbrev pub verdict_keys : List (List ℕ × VerdictKey)
verdict_keys = worded verdict_key_word (verdict.Clean ∷ verdict.Closed ∷ verdict.Denied ∷ verdict.StrongFree ∷ verdict.Stranger ∷ verdict.Freed ∷ verdict.OutOfRange ∷ [])

abbrev pub end_key_word : EndKey → List ℕ
end_key_word ends.Returned = codes "returned"
end_key_word ends.Trapped = codes "trapped"
end_key_word ends.StepLimit = codes "steplimit"
end_key_word ends.TurnLimit = codes "turnlimit"
end_key_word ends.NoMemory = codes "nomemory"
end_key_word ends.ChildEnded = codes "childended"

abbrev pub end_keys : List (List ℕ × EndKey)
end_keys = worded end_key_word (ends.Returned ∷ ends.Trapped ∷ ends.StepLimit ∷ ends.TurnLimit ∷ ends.NoMemory ∷ ends.ChildEnded ∷ [])

-- a step's line begins with a number
abbrev pub line_key_word : LineKey → List ℕ
line_key_word line.Title = codes "record"
line_key_word line.Words = codes "words"
line_key_word line.Thread = codes "thread"
line_key_word line.End = codes "end"

abbrev pub line_keys : List (List ℕ × LineKey)
line_keys = worded line_key_word (line.Title ∷ line.Words ∷ line.Thread ∷ line.End ∷ [])
