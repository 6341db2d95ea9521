-- The line of a violation: which step it was, what it did, and why that broke the rules.
use Rattle.std.specs.Prelude.{ℕ, ◌+◌, ◌==◌, Bool, true, false, IsTrue, IsSome, Option, Some, None, List, [], ◌∷◌, ◌++◌, length, codes, if◌then◌else◌}
use Rattle.std.specs.Fmt.{decimal}
use Rattle.bsan_ids.specs.declared.numbers.Prov.{Prov}
use Rattle.perm_table.specs.declared.Perm.{Perm}
use Rattle.eager_tree.specs.declared.violation.Violation.{Violation}
use Rattle.eager_tree.specs.declared.violation.Violation.TheVariants.{Denied, StrongFree, Stranger, Freed, OutOfRange}
use Rattle.history.specs.declared.entry.Entry.{Entry}
use Rattle.history.specs.declared.entry.Request.{Request}
use Rattle.history.specs.declared.entry.Request.TheVariants.{Make, Load, Store, Modify, CmpXchg, CopyOut, CopyIn, Retag, EndProtector, Free, Print, Host, Spawn, Join}
use Rattle.history.specs.declared.entry.Verdict.{Verdict}
use Rattle.history.specs.declared.entry.Verdict.TheVariants.{Clean, Closed, Violated}
use Rattle.ir_ast.specs.Words.{width_bytes, ty_bytes}
use Rattle.history.specs.Merge.{stamp_of}
use Rattle.history.specs.Restriction.{number_of}
use Rattle.ir_ast.specs.Keywords.{kind_word}
use Rattle.report.specs.Words.{perm_name}

-- a word and a span of bytes, by its first offset and the offset after its last
abbrev pub span_text : List ℕ → ℕ → ℕ → List ℕ
span_text word at len = word ++ (codes " " ++ (decimal at ++ (codes ".." ++ decimal (at + len))))

-- the operation on an allocation that a request asks
abbrev pub operation_text : Request → List ℕ
operation_text (Load at ty prov) = span_text (codes "read") at (ty_bytes ty)
operation_text (CopyOut at len prov) = span_text (codes "read") at len
operation_text (Store at ty value carried prov) = span_text (codes "write") at (ty_bytes ty)
operation_text (Modify at width op value prov) = span_text (codes "write") at (width_bytes width)
operation_text (CmpXchg at width expected value prov) = span_text (codes "write") at (width_bytes width)
operation_text (CopyIn at piece prov) = span_text (codes "write") at (length piece)
operation_text (Retag at len kind guard prov) = codes "retag " ++ span_text (kind_word kind) at len
operation_text (Free at stack prov) = codes "free"
operation_text (EndProtector tag) = codes "end of protector " ++ decimal tag.0
operation_text (Make size place) = []
operation_text (Print value) = []
operation_text (Host number first second) = []
operation_text (Spawn function) = []
operation_text (Join child) = []

-- whether a request asks one of those
abbrev pub is_operation : Request → Bool
is_operation (Make size place) = false
is_operation (Print value) = false
is_operation (Host number first second) = false
is_operation (Spawn function) = false
is_operation (Join child) = false
is_operation _ = true

-- whose the tag is, where it is another allocation's
abbrev pub owner_text : ℕ → ℕ → List ℕ
owner_text alloc owner = if owner == alloc then [] else codes " of allocation " ++ decimal owner

-- through which node's pointer the allocation of this number was used
abbrev pub tag_text : ℕ → Option Prov → List ℕ
tag_text alloc None = codes " through no tag"
tag_text alloc (Some prov) = codes " through tag " ++ (decimal prov.tag.0 ++ owner_text alloc prov.alloc.0)

abbrev pub provenance_text : ℕ → Request → List ℕ
provenance_text alloc (Load at ty prov) = tag_text alloc prov
provenance_text alloc (CopyOut at len prov) = tag_text alloc prov
provenance_text alloc (Store at ty value carried prov) = tag_text alloc prov
provenance_text alloc (Modify at width op value prov) = tag_text alloc prov
provenance_text alloc (CmpXchg at width expected value prov) = tag_text alloc prov
provenance_text alloc (CopyIn at piece prov) = tag_text alloc prov
provenance_text alloc (Retag at len kind guard prov) = tag_text alloc prov
provenance_text alloc (Free at stack prov) = tag_text alloc prov
provenance_text alloc _ = []

-- an entry that a violation's line can describe: its request is an operation on an allocation, and it names that
pub record IsDescribable (entry : Entry) : Type 0 where
  pub operation : IsTrue (is_operation entry.request)
  pub alloc : IsSome entry.alloc

-- the operation, and, where that is asked for, through which pointer
abbrev pub what_text : Bool → Entry → List ℕ
what_text through entry = operation_text entry.request
    ++ (if through then provenance_text (number_of entry.alloc) entry.request else [])

-- a node that denies an access, with its state there
abbrev pub node_text : List ℕ → ℕ → Perm → ℕ → List ℕ
node_text kind node perm offset = kind ++ (codes "node " ++ (decimal node
    ++ (codes " is " ++ (perm_name perm ++ (codes " at byte " ++ decimal offset)))))

abbrev pub why_text : Violation → List ℕ
why_text (Denied offset node perm true) = node_text [] node.0 perm offset
why_text (Denied offset node perm false) = node_text (codes "protected ") node.0 perm offset
why_text (StrongFree offset node perm) = node_text (codes "strongly protected ") node.0 perm offset
why_text Stranger = codes "stranger"
why_text Freed = codes "freed"
why_text OutOfRange = codes "out of range"

abbrev pub reason_text : Verdict → List ℕ
reason_text (Violated violation) = why_text violation
reason_text Clean = []
reason_text Closed = []

-- on which allocation, by which thread, at which instruction, and at which stamp
abbrev pub place_text : Entry → List ℕ
place_text entry = codes "violation on allocation " ++ (decimal (number_of entry.alloc)
    ++ (codes " by thread " ++ (decimal entry.thread.0
    ++ (codes " at instruction " ++ (decimal entry.site
    ++ (codes ", step " ++ decimal (stamp_of entry)))))))

abbrev pub violation_line : Entry → List ℕ
violation_line entry = place_text entry ++ (codes ": " ++ (what_text true entry
    ++ (codes ": " ++ (reason_text entry.reply.verdict ++ 10 ∷ []))))
