-- Worked examples: what an allocation is asked, each request with its stamp, and what it replies.
use Rattle.std.specs.Prelude.{ℕ, true, false, Option, Some, None, List, [], ◌∷◌}
use Rattle.std.specs.List.{zip}
use Rattle.bsan_ids.specs.declared.numbers.Tag.{Tag}
use Rattle.bsan_ids.specs.declared.numbers.Prov.{Prov}
use Rattle.bsan_ids.specs.declared.numbers.Frag.{Frag}
use Rattle.perm_table.specs.declared.Perm.TheVariants.{Reserved, Conflicted, Unique, Frozen, Disabled}
use Rattle.perm_table.specs.declared.RetagKind.TheVariants.{Mut, Cell, Shr, Boxed}
use Rattle.perm_table.specs.declared.Guard.TheVariants.{Free as Unguarded, Weak, Strong}
use Rattle.eager_tree.specs.declared.violation.Violation.TheVariants.{Denied, StrongFree, Stranger, OutOfRange}
use Rattle.ir_ast.specs.declared.types.Place.TheVariants.{Stack, Heap}
use Rattle.ir_ast.specs.declared.operators.ModifyOp.TheVariants.{Add}
use Rattle.ir_ast.specs.declared.types.Width.TheVariants.{W8, W32, W64}
use Rattle.ir_ast.specs.declared.types.Ty.TheVariants.{Int, Ptr}
use Rattle.history.specs.declared.trap.Trap.{Trap}
use Rattle.history.specs.declared.trap.Trap.TheVariants.{NoAllocation, OutOfBounds, Freed, BadFree}
use Rattle.history.specs.declared.entry.Request.{Request}
use Rattle.history.specs.declared.entry.Request.TheVariants.{Make, Load, Store, Modify, CmpXchg, CopyOut, CopyIn, Retag, EndProtector, Free}
use Rattle.history.specs.declared.entry.Plain.TheVariants.{Made, Value, Copied, Done, Retagged, Trapped}
use Rattle.history.specs.declared.entry.Verdict.{Verdict}
use Rattle.history.specs.declared.entry.Verdict.TheVariants.{Clean, Closed, Violated}
use Rattle.history.specs.declared.entry.Reply.{Reply}
use Rattle.history.specs.Pieces.{fragments_from}
use Rattle.history.specs.Objects.{Object, answer}

-- a request with the stamp of its step
abbrev pub Step : Type 0
Step = ℕ × Request

-- what an allocation replies to one step after the other
abbrev pub replies : Object → List Step → List Reply
replies o [] = []
replies o (step ∷ steps) =
    (answer o step.1 (record { 0 = step.0 })).reply ∷ replies (answer o step.1 (record { 0 = step.0 })).object steps

-- an allocation's number with a node of its tree
abbrev pub prov : ℕ → ℕ → Prov
prov number tag = record { alloc = record { 0 = number }; tag = record { 0 = tag } }

-- a pointer that may use this node of this allocation
abbrev pub via : ℕ → ℕ → Option Prov
via number tag = Some (prov number tag)

abbrev pub node : ℕ → Tag
node tag = record { 0 = tag }

-- The replies: what was made or retagged is carried, as is a loaded pointer; all else carries nothing.
abbrev pub made : ℕ → ℕ → Reply
made number stamp = record { plain = Made (record { 0 = number }); carried = via number stamp; verdict = Clean }

abbrev pub retagged : ℕ → ℕ → Reply
retagged number stamp = record { plain = Retagged true; carried = via number stamp; verdict = Clean }

abbrev pub refused : Option Prov → Verdict → Reply
refused carried verdict = record { plain = Retagged false; carried = carried; verdict = verdict }

abbrev pub done : Verdict → Reply
done verdict = record { plain = Done; carried = None; verdict = verdict }

abbrev pub value : ℕ → Verdict → Reply
value word verdict = record { plain = Value word; carried = None; verdict = verdict }

abbrev pub pointer : ℕ → Option Prov → Reply
pointer word carried = record { plain = Value word; carried = carried; verdict = Clean }

abbrev pub copied : List (ℕ × Option Frag) → Reply
copied piece = record { plain = Copied piece; carried = None; verdict = Clean }

abbrev pub trap : Trap → Reply
trap cause = record { plain = Trapped cause; carried = None; verdict = Clean }

-- The parent's read freezes, and the next write through the child is denied.
abbrev pub frozen_steps : List Step
frozen_steps =
    (1, Make 8 Stack)
    ∷ (2, Retag 0 8 Mut Unguarded (via 1 1))
    ∷ (3, Store 0 (Int W64) 1 None (via 1 2))
    ∷ (4, Load 0 (Int W64) (via 1 1))
    ∷ (5, Store 0 (Int W64) 2 None (via 1 2))
    ∷ (6, Free 0 true (via 1 1))
    ∷ []

abbrev pub frozen_replies : List Reply
frozen_replies =
    made 1 1
    ∷ retagged 1 2
    ∷ done Clean
    ∷ value 1 Clean
    ∷ done (Violated (Denied 0 (node 2) Frozen true))
    ∷ done Closed
    ∷ []

-- A shared pointer may not write.
abbrev pub shared_steps : List Step
shared_steps =
    (1, Make 8 Stack)
    ∷ (2, Retag 0 8 Shr Unguarded (via 1 1))
    ∷ (3, Store 0 (Int W64) 1 None (via 1 2))
    ∷ (4, Free 0 true (via 1 1))
    ∷ []

abbrev pub shared_replies : List Reply
shared_replies =
    made 1 1
    ∷ retagged 1 2
    ∷ done (Violated (Denied 0 (node 2) Frozen true))
    ∷ done Closed
    ∷ []

-- A read through the parent, before the child's first write, does no harm.
abbrev pub two_phase_steps : List Step
two_phase_steps =
    (1, Make 8 Stack)
    ∷ (2, Retag 0 8 Mut Unguarded (via 1 1))
    ∷ (3, Load 0 (Int W64) (via 1 1))
    ∷ (4, Store 0 (Int W64) 1 None (via 1 2))
    ∷ (5, Free 0 true (via 1 1))
    ∷ []

abbrev pub two_phase_replies : List Reply
two_phase_replies =
    made 1 1
    ∷ retagged 1 2
    ∷ value 0 Clean
    ∷ done Clean
    ∷ done Clean
    ∷ []

-- The same under a protector: the node is Conflicted, and its write is denied.
abbrev pub conflicted_steps : List Step
conflicted_steps =
    (1, Make 8 Stack)
    ∷ (2, Retag 0 8 Mut Strong (via 1 1))
    ∷ (3, Load 0 (Int W64) (via 1 1))
    ∷ (4, Store 0 (Int W64) 1 None (via 1 2))
    ∷ (5, EndProtector (node 2))
    ∷ (6, Free 0 true (via 1 1))
    ∷ []

abbrev pub conflicted_replies : List Reply
conflicted_replies =
    made 1 1
    ∷ retagged 1 2
    ∷ value 0 Clean
    ∷ done (Violated (Denied 0 (node 2) Conflicted true))
    ∷ done Closed
    ∷ done Closed
    ∷ []

-- A foreign read of bytes of which a protected node has written four.
abbrev pub protected_unique_steps : List Step
protected_unique_steps =
    (1, Make 8 Stack)
    ∷ (2, Retag 0 8 Mut Strong (via 1 1))
    ∷ (3, Store 4 (Int W32) 1 None (via 1 2))
    ∷ (4, Load 0 (Int W64) (via 1 1))
    ∷ (5, EndProtector (node 2))
    ∷ (6, Free 0 true (via 1 1))
    ∷ []

abbrev pub protected_unique_replies : List Reply
protected_unique_replies =
    made 1 1
    ∷ retagged 1 2
    ∷ done Clean
    ∷ value 4294967296 (Violated (Denied 4 (node 2) Unique false))
    ∷ done Closed
    ∷ done Closed
    ∷ []

-- A foreign write of a cell, under a protector and without one.
abbrev pub protected_cell_steps : List Step
protected_cell_steps =
    (1, Make 8 Stack)
    ∷ (2, Retag 0 8 Cell Strong (via 1 1))
    ∷ (3, Store 0 (Int W64) 1 None (via 1 1))
    ∷ (4, EndProtector (node 2))
    ∷ (5, Free 0 true (via 1 1))
    ∷ []

abbrev pub protected_cell_replies : List Reply
protected_cell_replies =
    made 1 1
    ∷ retagged 1 2
    ∷ done (Violated (Denied 0 (node 2) Reserved false))
    ∷ done Closed
    ∷ done Closed
    ∷ []

abbrev pub free_cell_steps : List Step
free_cell_steps =
    (1, Make 8 Stack)
    ∷ (2, Retag 0 8 Cell Unguarded (via 1 1))
    ∷ (3, Store 0 (Int W64) 1 None (via 1 1))
    ∷ (4, Load 0 (Int W64) (via 1 2))
    ∷ (5, Free 0 true (via 1 1))
    ∷ []

abbrev pub free_cell_replies : List Reply
free_cell_replies =
    made 1 1
    ∷ retagged 1 2
    ∷ done Clean
    ∷ value 1 Clean
    ∷ done Clean
    ∷ []

-- A free through a weakly guarded box, and beside a strong guard.
abbrev pub box_steps : List Step
box_steps =
    (1, Make 8 Heap)
    ∷ (2, Retag 0 8 Boxed Weak (via 1 1))
    ∷ (3, Free 0 false (via 1 2))
    ∷ (4, EndProtector (node 2))
    ∷ []

abbrev pub box_replies : List Reply
box_replies = made 1 1 ∷ retagged 1 2 ∷ done Clean ∷ done Clean ∷ []

abbrev pub strong_free_steps : List Step
strong_free_steps =
    (1, Make 8 Heap)
    ∷ (2, Retag 0 8 Mut Strong (via 1 1))
    ∷ (3, Free 0 false (via 1 2))
    ∷ (4, EndProtector (node 2))
    ∷ []

abbrev pub strong_free_replies : List Reply
strong_free_replies =
    made 1 1
    ∷ retagged 1 2
    ∷ done (Violated (StrongFree 0 (node 2) Reserved))
    ∷ done Closed
    ∷ []

-- The end of a protector writes where its node wrote, and so disables a node made meanwhile.
abbrev pub protector_end_steps : List Step
protector_end_steps =
    (1, Make 16 Stack)
    ∷ (2, Retag 0 8 Mut Strong (via 1 1))
    ∷ (3, Store 0 (Int W64) 1 None (via 1 2))
    ∷ (4, Retag 8 8 Mut Unguarded (via 1 1))
    ∷ (5, EndProtector (node 2))
    ∷ (6, Load 0 (Int W64) (via 1 4))
    ∷ (7, Free 0 true (via 1 1))
    ∷ []

abbrev pub protector_end_replies : List Reply
protector_end_replies =
    made 1 1
    ∷ retagged 1 2
    ∷ done Clean
    ∷ retagged 1 4
    ∷ done Clean
    ∷ value 1 (Violated (Denied 0 (node 4) Disabled true))
    ∷ done Closed
    ∷ []

-- A retag past the end adds no node, and leaves the pointer as it was.
abbrev pub out_of_range_steps : List Step
out_of_range_steps =
    (1, Make 8 Stack)
    ∷ (2, Retag 0 8 Mut Unguarded (via 1 1))
    ∷ (3, Retag 1 8 Mut Unguarded (via 1 1))
    ∷ (4, Free 0 true (via 1 1))
    ∷ []

abbrev pub out_of_range_replies : List Reply
out_of_range_replies =
    made 1 1
    ∷ retagged 1 2
    ∷ refused (via 1 1) (Violated OutOfRange)
    ∷ done Closed
    ∷ []

-- A pointer of another allocation writes, is reported, and its data stay.
abbrev pub stranger_steps : List Step
stranger_steps =
    (2, Make 8 Stack)
    ∷ (3, Store 0 (Int W64) 5 None (via 1 1))
    ∷ (4, Load 0 (Int W64) (via 2 2))
    ∷ (6, Free 0 true (via 2 2))
    ∷ []

abbrev pub stranger_replies : List Reply
stranger_replies = made 2 2 ∷ done (Violated Stranger) ∷ value 5 Closed ∷ done Closed ∷ []

-- The halves of a stored pointer, whose address is 2^32.
abbrev pub low_half : List (ℕ × Option Frag)
low_half = zip (0 ∷ 0 ∷ 0 ∷ 0 ∷ []) (fragments_from (prov 1 1) 0 4)

abbrev pub high_half : List (ℕ × Option Frag)
high_half = zip (1 ∷ 0 ∷ 0 ∷ 0 ∷ []) (fragments_from (prov 1 1) 4 4)

-- A pointer is stored in one allocation, and its halves are copied out,
abbrev pub copied_out_steps : List Step
copied_out_steps =
    (2, Make 8 Stack)
    ∷ (4, Store 0 Ptr 4294967296 (via 1 1) (via 2 2))
    ∷ (5, CopyOut 0 4 (via 2 2))
    ∷ (7, CopyOut 4 4 (via 2 2))
    ∷ (12, Free 0 true (via 2 2))
    ∷ []

abbrev pub copied_out_replies : List Reply
copied_out_replies = made 2 2 ∷ done Clean ∷ copied low_half ∷ copied high_half ∷ done Clean ∷ []

-- and into another, which then gives the pointer with its provenance.
abbrev pub copied_in_steps : List Step
copied_in_steps =
    (3, Make 8 Stack)
    ∷ (6, CopyIn 0 low_half (via 3 3))
    ∷ (8, CopyIn 4 high_half (via 3 3))
    ∷ (9, Load 0 Ptr (via 3 3))
    ∷ (11, Free 0 true (via 3 3))
    ∷ []

abbrev pub copied_in_replies : List Reply
copied_in_replies = made 3 3 ∷ done Clean ∷ done Clean ∷ pointer 4294967296 (via 1 1) ∷ done Clean ∷ []

-- Where one of its bytes is stored again, with the same value, the pointer has no provenance,
abbrev pub overwritten_steps : List Step
overwritten_steps =
    (3, Make 8 Stack)
    ∷ (6, CopyIn 0 low_half (via 3 3))
    ∷ (8, CopyIn 4 high_half (via 3 3))
    ∷ (9, Load 0 (Int W8) (via 3 3))
    ∷ (10, Store 0 (Int W8) 0 None (via 3 3))
    ∷ (11, Load 0 Ptr (via 3 3))
    ∷ (13, Free 0 true (via 3 3))
    ∷ []

abbrev pub overwritten_replies : List Reply
overwritten_replies =
    made 3 3
    ∷ done Clean
    ∷ done Clean
    ∷ value 0 Clean
    ∷ done Clean
    ∷ pointer 4294967296 None
    ∷ done Clean
    ∷ []

-- and is a stranger to the allocation at which it points.
abbrev pub no_tag_steps : List Step
no_tag_steps =
    (1, Make 8 Stack)
    ∷ (12, Store 0 (Int W64) 1 None None)
    ∷ (15, Free 0 true (via 1 1))
    ∷ []

abbrev pub no_tag_replies : List Reply
no_tag_replies = made 1 1 ∷ done (Violated Stranger) ∷ done Closed ∷ []

-- A read-modify-write answers what it found, wraps at its width, and takes the provenance of the
-- pointer whose byte it writes.
abbrev pub modified_steps : List Step
modified_steps =
    (1, Make 8 Heap)
    ∷ (2, Store 0 Ptr 4294967296 (via 1 1) (via 1 1))
    ∷ (3, Modify 0 W8 Add 255 (via 1 1))
    ∷ (4, Modify 0 W8 Add 2 (via 1 1))
    ∷ (5, Load 0 Ptr (via 1 1))
    ∷ (6, Free 0 false (via 1 1))
    ∷ []

abbrev pub modified_replies : List Reply
modified_replies =
    made 1 1
    ∷ done Clean
    ∷ value 0 Clean
    ∷ value 255 Clean
    ∷ pointer 4294967297 None
    ∷ done Clean
    ∷ []

-- A compare-exchange that finds another value leaves bytes and fragments; one that finds its own
-- writes, and takes the provenance.
abbrev pub exchanged_steps : List Step
exchanged_steps =
    (1, Make 8 Heap)
    ∷ (2, Store 0 Ptr 4294967296 (via 1 1) (via 1 1))
    ∷ (3, CmpXchg 0 W64 0 7 (via 1 1))
    ∷ (4, Load 0 Ptr (via 1 1))
    ∷ (5, CmpXchg 0 W64 4294967296 7 (via 1 1))
    ∷ (6, Load 0 Ptr (via 1 1))
    ∷ (7, Free 0 false (via 1 1))
    ∷ []

abbrev pub exchanged_replies : List Reply
exchanged_replies =
    made 1 1
    ∷ done Clean
    ∷ value 4294967296 Clean
    ∷ pointer 4294967296 (via 1 1)
    ∷ value 4294967296 Clean
    ∷ pointer 7 None
    ∷ done Clean
    ∷ []

-- To the tree it is a write, also where it finds another value.
abbrev pub shared_exchange_steps : List Step
shared_exchange_steps =
    (1, Make 8 Stack)
    ∷ (2, Retag 0 8 Shr Unguarded (via 1 1))
    ∷ (3, CmpXchg 0 W64 1 7 (via 1 2))
    ∷ (4, Load 0 (Int W64) (via 1 1))
    ∷ []

abbrev pub shared_exchange_replies : List Reply
shared_exchange_replies =
    made 1 1
    ∷ retagged 1 2
    ∷ value 0 (Violated (Denied 0 (node 2) Frozen true))
    ∷ value 0 Closed
    ∷ []

-- After a free a load traps, as does a second free.
abbrev pub freed_steps : List Step
freed_steps =
    (1, Make 8 Heap)
    ∷ (2, Free 0 false (via 1 1))
    ∷ (3, Load 0 (Int W64) (via 1 1))
    ∷ (4, Free 0 false (via 1 1))
    ∷ []

abbrev pub freed_replies : List Reply
freed_replies = made 1 1 ∷ done Clean ∷ trap Freed ∷ trap Freed ∷ []

-- A stack allocation is freed at its function's return alone, and no byte past the end is read.
abbrev pub stack_steps : List Step
stack_steps =
    (1, Make 8 Stack)
    ∷ (2, Free 0 false (via 1 1))
    ∷ (3, Load 1 (Int W64) (via 1 1))
    ∷ (4, Free 0 true (via 1 1))
    ∷ []

abbrev pub stack_replies : List Reply
stack_replies = made 1 1 ∷ trap BadFree ∷ trap OutOfBounds ∷ done Clean ∷ []

-- A number that was never made: data requests trap, a retag and a protector's end do nothing.
abbrev pub unmade_steps : List Step
unmade_steps =
    (1, Load 0 (Int W64) None)
    ∷ (2, Retag 0 8 Mut Unguarded (via 1 1))
    ∷ (3, EndProtector (node 2))
    ∷ []

abbrev pub unmade_replies : List Reply
unmade_replies = trap NoAllocation ∷ refused None Clean ∷ done Clean ∷ []
