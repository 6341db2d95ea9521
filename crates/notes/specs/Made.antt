-- Where an allocation and its nodes were made.
use Rattle.std.specs.Prelude.{ℕ, ◌==◌, Bool, false, true, ◌&&◌, Option, Some, None, List, [], ◌++◌, find, codes, if◌then◌else◌}
use Rattle.std.specs.Fmt.{decimal}
use Rattle.bsan_ids.specs.declared.numbers.AllocNo.{AllocNo}
use Rattle.bsan_ids.specs.declared.numbers.Prov.{Prov}
use Rattle.bsan_ids.specs.declared.numbers.Tag.{Tag}
use Rattle.perm_table.specs.declared.RetagKind.{RetagKind}
use Rattle.perm_table.specs.declared.RetagKind.TheVariants as kind
use Rattle.history.specs.Merge.{stamp_of}
use Rattle.history.specs.Restriction.{number_of}
use Rattle.history.specs.declared.entry.Entry.{Entry}
use Rattle.history.specs.declared.entry.Request.{Request}
use Rattle.history.specs.declared.entry.Request.TheVariants.{Load, Store, Modify, CmpXchg, CopyOut, CopyIn, Retag, Free}
use Rattle.history.specs.declared.log.AllocLog.{AllocLog}
use Rattle.notes.specs.Sources.{Listing, note}

-- what the pointer may use through which a step was asked
abbrev pub used_prov : Request → Option Prov
used_prov (Load at ty prov) = prov
used_prov (Store at ty value carried prov) = prov
used_prov (Modify at width op value prov) = prov
used_prov (CmpXchg at width expected value prov) = prov
used_prov (CopyOut at len prov) = prov
used_prov (CopyIn at piece prov) = prov
used_prov (Retag at len kind guard prov) = prov
used_prov (Free at stack prov) = prov
used_prov _ = None

abbrev pub steps_of : Option AllocLog → List Entry
steps_of None = []
steps_of (Some log) = log.entries

-- the steps on the allocation of a number
abbrev pub steps_on : List AllocLog → Option AllocNo → List Entry
steps_on logs None = []
steps_on logs (Some number) = steps_of (find (λ log. log.number.0 == number.0) logs)

abbrev pub is_retag : Request → Bool
is_retag (Retag at len kind guard prov) = true
is_retag _ = false

-- a node's tag is the stamp of the retag that made it
abbrev pub is_retag_of : Tag → Entry → Bool
is_retag_of node step = is_retag step.request && stamp_of step == node.0

abbrev pub retag_among : List Entry → Option Tag → Option Entry
retag_among steps None = None
retag_among steps (Some node) = find (is_retag_of node) steps

abbrev pub request_kind : Request → Option RetagKind
request_kind (Retag at len kind guard prov) = Some kind
request_kind _ = None

-- the kind of the retag that a step is
abbrev pub kind_of : Option Entry → Option RetagKind
kind_of None = None
kind_of (Some step) = request_kind step.request

abbrev pub kind_phrase : Option RetagKind → List ℕ
kind_phrase (Some kind.Mut) = codes "a mutable reference"
kind_phrase (Some kind.Cell) = codes "a mutable reference to a cell"
kind_phrase (Some kind.Shr) = codes "a shared reference"
kind_phrase (Some kind.ShrCell) = codes "a shared reference to a cell"
kind_phrase (Some kind.Boxed) = codes "a box"
kind_phrase None = codes "a reference"

-- allocation N, with its own node M, was made
abbrev pub allocation_phrase : Entry → List ℕ
allocation_phrase step = codes "allocation " ++ (decimal (number_of step.alloc)
    ++ (codes ", with its own node " ++ (decimal (stamp_of step) ++ codes ", was made")))

abbrev pub allocation_note : Listing → Option Entry → List ℕ
allocation_note l None = []
allocation_note l (Some step) = note l (allocation_phrase step) step

-- node N, a KIND, WAS
abbrev pub node_phrase : List ℕ → Entry → List ℕ
node_phrase was step = codes "node " ++ (decimal (stamp_of step) ++ (codes ", " ++ (kind_phrase (request_kind step.request) ++ (codes ", " ++ was))))

-- where a retag made a node; the allocation's own node is none of a retag's
abbrev pub retag_note : Listing → List ℕ → Entry → List ℕ
retag_note l was step = if is_retag step.request then note l (node_phrase was step) step else []

abbrev pub node_note : Listing → List ℕ → Option Entry → List ℕ
node_note l was None = []
node_note l was (Some step) = retag_note l was step
