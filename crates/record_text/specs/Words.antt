-- The words that a record's values are written with.
use Rattle.std.specs.Prelude.{ℕ, Bool, true, false, Option, Some, None, List, [], ◌∷◌, ◌++◌, map, codes}
use Rattle.std.specs.Fmt.{decimal}
use Rattle.std.specs.List.{join_with_byte}
use Rattle.perm_table.specs.declared.Perm.{Perm}
use Rattle.perm_table.specs.declared.Perm.TheVariants as perm
use Rattle.bsan_ids.specs.declared.numbers.AllocNo.{AllocNo}
use Rattle.bsan_ids.specs.declared.numbers.ThreadNo.{ThreadNo}
use Rattle.bsan_ids.specs.declared.numbers.Prov.{Prov}
use Rattle.eager_tree.specs.declared.violation.Violation.{Violation}
use Rattle.eager_tree.specs.declared.violation.Violation.TheVariants as violation
use Rattle.ir_ast.specs.Keywords.{width_word, type_word, kind_word, modify_word}
use Rattle.target_code.specs.Words.{guard_word, place_word}
use Rattle.history.specs.Pieces.{Byte}
use Rattle.history.specs.Restriction.{number_of}
use Rattle.history.specs.declared.trap.Trap.{Trap}
use Rattle.history.specs.declared.trap.Trap.TheVariants as trap
use Rattle.history.specs.declared.log.End.{End}
use Rattle.history.specs.declared.log.End.TheVariants as ends
use Rattle.history.specs.declared.entry.Request.{Request}
use Rattle.history.specs.declared.entry.Request.TheVariants as request
use Rattle.history.specs.declared.entry.Plain.{Plain}
use Rattle.history.specs.declared.entry.Plain.TheVariants as plain
use Rattle.history.specs.declared.entry.Verdict.{Verdict}
use Rattle.history.specs.declared.entry.Verdict.TheVariants as verdict

-- ---- names

-- the name of a node's state
abbrev pub perm_name : Perm → List ℕ
perm_name perm.Reserved = codes "Reserved"
perm_name perm.Conflicted = codes "Conflicted"
perm_name perm.CellReserved = codes "CellReserved"
perm_name perm.Unique = codes "Unique"
perm_name perm.Frozen = codes "Frozen"
perm_name perm.Disabled = codes "Disabled"
perm_name perm.Cell = codes "Cell"

-- the name of a trap
abbrev pub trap_name : Trap → List ℕ
trap_name trap.DivZero = codes "DivZero"
trap_name trap.ShiftTooFar = codes "ShiftTooFar"
trap_name trap.NoAllocation = codes "NoAllocation"
trap_name trap.OutOfBounds = codes "OutOfBounds"
trap_name trap.Freed = codes "Freed"
trap_name trap.BadFree = codes "BadFree"
trap_name trap.BadSize = codes "BadSize"
trap_name (trap.AllocLimit drawn) = codes "AllocLimit"
trap_name (trap.ThreadLimit drawn) = codes "ThreadLimit"
trap_name trap.DepthLimit = codes "DepthLimit"
trap_name trap.Unreachable = codes "Unreachable"

abbrev pub flag_word : Bool → List ℕ
flag_word true = codes "1"
flag_word false = codes "0"

-- whether an access went through the node or a descendant of it
abbrev pub side_word : Bool → List ℕ
side_word true = codes "local"
side_word false = codes "foreign"

-- ---- numbers and what is made of them

-- numbers with `.` between them
abbrev pub dotted : List ℕ → List ℕ
dotted numbers = join_with_byte 46 (map decimal numbers)

abbrev pub prov_word : Option Prov → List ℕ
prov_word None = codes "-"
prov_word (Some p) = dotted (p.alloc.0 ∷ p.tag.0 ∷ [])

abbrev pub parent_word : Option ThreadNo → List ℕ
parent_word None = codes "-"
parent_word (Some number) = decimal number.0

-- a byte, and behind `:` its fragment, if it has one
abbrev pub byte_parts : Byte → List (List ℕ)
byte_parts (byte, None) = decimal byte ∷ []
byte_parts (byte, Some f) = decimal byte ∷ dotted (f.prov.alloc.0 ∷ f.prov.tag.0 ∷ f.index ∷ []) ∷ []

abbrev pub byte_word : Byte → List ℕ
byte_word b = join_with_byte 58 (byte_parts b)

-- the bytes with commas between them
abbrev pub bytes_word : List Byte → List ℕ
bytes_word bytes = join_with_byte 44 (map byte_word bytes)

abbrev pub piece_word : List Byte → List ℕ
piece_word bytes = codes "[" ++ (bytes_word bytes ++ codes "]")

abbrev pub alloc_word : Option AllocNo → List ℕ
alloc_word alloc = decimal (number_of alloc)

-- ---- traps, ends, requests and replies

abbrev pub trap_words : Trap → List (List ℕ)
trap_words (trap.AllocLimit drawn) = codes "AllocLimit" ∷ decimal drawn ∷ []
trap_words (trap.ThreadLimit drawn) = codes "ThreadLimit" ∷ decimal drawn ∷ []
trap_words other = trap_name other ∷ []

abbrev pub end_words : End → List (List ℕ)
end_words (ends.Returned value carried) = codes "returned" ∷ decimal value ∷ prov_word carried ∷ []
end_words (ends.Trapped e) = codes "trapped" ∷ trap_words e
end_words (ends.StepLimit stamp) = codes "steplimit" ∷ decimal stamp.0 ∷ []
end_words ends.TurnLimit = codes "turnlimit" ∷ []
end_words ends.NoMemory = codes "nomemory" ∷ []
end_words (ends.ChildEnded child) = codes "childended" ∷ decimal child.0 ∷ []

-- what is asked, and of which allocation; that of a Make stands in its reply
abbrev pub request_words : Option AllocNo → Request → List (List ℕ)
request_words alloc (request.Load at ty prov) = codes "load" ∷ alloc_word alloc ∷ decimal at ∷ type_word ty ∷ prov_word prov ∷ []
request_words alloc (request.Store at ty value carried prov) =
    codes "store" ∷ alloc_word alloc ∷ decimal at ∷ type_word ty ∷ decimal value ∷ prov_word carried ∷ prov_word prov ∷ []
request_words alloc (request.Modify at width op value prov) =
    codes "rmw" ∷ alloc_word alloc ∷ decimal at ∷ width_word width ∷ modify_word op ∷ decimal value ∷ prov_word prov ∷ []
request_words alloc (request.CmpXchg at width expected value prov) =
    codes "cmpxchg" ∷ alloc_word alloc ∷ decimal at ∷ width_word width ∷ decimal expected ∷ decimal value ∷ prov_word prov ∷ []
request_words alloc (request.CopyOut at len prov) = codes "out" ∷ alloc_word alloc ∷ decimal at ∷ decimal len ∷ prov_word prov ∷ []
request_words alloc (request.CopyIn at piece prov) = codes "in" ∷ alloc_word alloc ∷ decimal at ∷ piece_word piece ∷ prov_word prov ∷ []
request_words alloc (request.Retag at len kind guard prov) =
    codes "retag" ∷ alloc_word alloc ∷ decimal at ∷ decimal len ∷ kind_word kind ∷ guard_word guard ∷ prov_word prov ∷ []
request_words alloc (request.EndProtector tag) = codes "endprotector" ∷ alloc_word alloc ∷ decimal tag.0 ∷ []
request_words alloc (request.Free at stack prov) = codes "free" ∷ alloc_word alloc ∷ decimal at ∷ flag_word stack ∷ prov_word prov ∷ []
request_words alloc (request.Make size place) = codes "make" ∷ decimal size ∷ place_word place ∷ []
request_words alloc (request.Print value) = codes "print" ∷ decimal value ∷ []
request_words alloc (request.Host number first second) = codes "host" ∷ decimal number ∷ decimal first ∷ decimal second ∷ []
request_words alloc (request.Spawn function) = codes "spawn" ∷ decimal function ∷ []
request_words alloc (request.Join child) = codes "join" ∷ decimal child.0 ∷ []

abbrev pub plain_words : Plain → List (List ℕ)
plain_words (plain.Made number) = codes "made" ∷ decimal number.0 ∷ []
plain_words (plain.Value value) = codes "value" ∷ decimal value ∷ []
plain_words (plain.Copied piece) = codes "copied" ∷ piece_word piece ∷ []
plain_words plain.Done = codes "done" ∷ []
plain_words (plain.Retagged added) = codes "retagged" ∷ flag_word added ∷ []
plain_words (plain.Spawned number) = codes "spawned" ∷ decimal number.0 ∷ []
plain_words (plain.Trapped e) = codes "trapped" ∷ trap_words e

abbrev pub violation_words : Violation → List (List ℕ)
violation_words (violation.Denied offset node perm local) =
    codes "denied" ∷ decimal offset ∷ decimal node.0 ∷ perm_name perm ∷ side_word local ∷ []
violation_words (violation.StrongFree offset node perm) = codes "strongfree" ∷ decimal offset ∷ decimal node.0 ∷ perm_name perm ∷ []
violation_words violation.Stranger = codes "stranger" ∷ []
violation_words violation.Freed = codes "freed" ∷ []
violation_words violation.OutOfRange = codes "outofrange" ∷ []

abbrev pub verdict_words : Verdict → List (List ℕ)
verdict_words verdict.Clean = codes "clean" ∷ []
verdict_words verdict.Closed = codes "closed" ∷ []
verdict_words (verdict.Violated v) = violation_words v
