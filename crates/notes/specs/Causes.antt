-- Notes on what led to a violation, as its explanation tells it.
use Rattle.std.specs.Prelude.{ℕ, ◌==◌, Option, Some, None, List, [], ◌++◌, codes, if◌then◌else◌}
use Rattle.std.specs.Fmt.{decimal}
use Rattle.bsan_ids.specs.declared.numbers.Tag.{Tag}
use Rattle.perm_table.specs.declared.Perm.{Perm}
use Rattle.eager_tree.specs.declared.violation.Violation.TheVariants.{Denied, StrongFree, Freed}
use Rattle.explain.specs.declared.explained.Explained.{Explained}
use Rattle.history.specs.Merge.{stamp_of}
use Rattle.history.specs.Restriction.{number_of}
use Rattle.history.specs.declared.entry.Entry.{Entry}
use Rattle.history.specs.declared.entry.Request.{Request}
use Rattle.history.specs.declared.entry.Verdict.{Verdict}
use Rattle.history.specs.declared.entry.Verdict.TheVariants.{Violated}
use Rattle.report.specs.Words.{perm_name}
use Rattle.notes.specs.Deeds.{deed_phrase}
use Rattle.notes.specs.Sources.{Listing, note}
use Rattle.notes.specs.Made.{node_note}

-- the last change of a node's state, where it isn't the node's making
abbrev pub later_change : Option Entry → Option Entry → Option Entry
later_change (Some maker) (Some changer) = if stamp_of maker == stamp_of changer then None else Some changer
later_change (Some maker) None = None
later_change None changer = changer

abbrev pub made_phrase : Option Entry → List ℕ
made_phrase None = codes "was made with this state"
made_phrase (Some change) = codes "was made"

-- node N became PERM at byte B by DEED,
abbrev pub state_phrase : Tag → Perm → ℕ → Request → List ℕ
state_phrase node perm offset request = codes "node " ++ (decimal node.0
    ++ (codes " became " ++ (perm_name perm
    ++ (codes " at byte " ++ (decimal offset ++ (codes " by " ++ (deed_phrase (codes "a ") request ++ codes ",")))))))

abbrev pub state_note : Listing → Tag → Perm → ℕ → Option Entry → List ℕ
state_note l node perm offset None = []
state_note l node perm offset (Some change) = note l (state_phrase node perm offset change.request) change

-- where a node was made, and what gave it its state at a byte
abbrev pub node_notes : Listing → Tag → Perm → ℕ → Explained → List ℕ
node_notes l node perm offset x =
    node_note l (made_phrase (later_change x.maker x.changer)) x.maker ++ state_note l node perm offset (later_change x.maker x.changer)

-- allocation N was freed
abbrev pub freed_phrase : Entry → List ℕ
freed_phrase step = codes "allocation " ++ (decimal (number_of step.alloc) ++ codes " was freed")

abbrev pub freed_note : Listing → Option Entry → List ℕ
freed_note l None = []
freed_note l (Some step) = note l (freed_phrase step) step

-- on the node that denies a step, or on the free before it
abbrev pub cause_notes : Listing → Verdict → Explained → List ℕ
cause_notes l (Violated (Denied offset node perm local)) x = node_notes l node perm offset x
cause_notes l (Violated (StrongFree offset node perm)) x = node_notes l node perm offset x
cause_notes l (Violated Freed) x = freed_note l x.changer
cause_notes l _ x = []
