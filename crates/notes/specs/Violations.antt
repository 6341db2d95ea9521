-- Notes on the violations of a run, and on how its threads ended.
use Rattle.std.specs.Prelude.{ℕ, ◌==◌, true, false, Option, Some, None, List, [], ◌++◌, find, codes, if◌then◌else◌}
use Rattle.std.specs.List.{flat_map}
use Rattle.std.specs.Option.{option_map}
use Rattle.std.specs.Fmt.{decimal}
use Rattle.bsan_ids.specs.declared.numbers.AllocNo.{AllocNo}
use Rattle.bsan_ids.specs.declared.numbers.Tag.{Tag}
use Rattle.bsan_ids.specs.declared.numbers.Prov.{Prov}
use Rattle.eager_tree.specs.declared.violation.Violation.TheVariants.{Denied, StrongFree, Stranger}
use Rattle.explain.specs.declared.explained.Explained.{Explained}
use Rattle.history.specs.Histories.{is_make_step}
use Rattle.history.specs.Restriction.{number_of}
use Rattle.history.specs.declared.entry.Entry.{Entry}
use Rattle.history.specs.declared.entry.Request.{Request}
use Rattle.history.specs.declared.entry.Request.TheVariants.{Retag, EndProtector, Free}
use Rattle.history.specs.declared.entry.Verdict.{Verdict}
use Rattle.history.specs.declared.entry.Verdict.TheVariants.{Violated}
use Rattle.history.specs.declared.log.AllocLog.{AllocLog}
use Rattle.history.specs.declared.record.RunRecord.{RunRecord}
use Rattle.report.specs.Violation.{violation_line}
use Rattle.notes.specs.Sources.{Source, Listing, heading, shown, note, note_label, help_line}
use Rattle.notes.specs.Help.{verdict_help}
use Rattle.notes.specs.Made.{used_prov, steps_on, retag_among, kind_of, allocation_note, node_note}
use Rattle.notes.specs.Causes.{cause_notes}
use Rattle.notes.specs.Traps.{trap_note}

-- the node that denies a step
abbrev pub denying_node : Verdict → Option Tag
denying_node (Violated (Denied offset node perm local)) = Some node
denying_node (Violated (StrongFree offset node perm)) = Some node
denying_node _ = None

-- the node through whose pointer a step was asked
abbrev pub used_node : Request → Option Tag
used_node asked = option_map (λ prov. prov.tag) (used_prov asked)

-- the second of two nodes, where it is another than the first
abbrev pub other_node : Option Tag → Option Tag → Option Tag
other_node (Some first) (Some second) = if first.0 == second.0 then None else Some second
other_node (Some first) None = None
other_node None second = second

-- the retag of the node through which a step was asked, where another node or none denies it
abbrev pub user : List Entry → Entry → Option Entry
user steps step = retag_among steps (other_node (denying_node step.reply.verdict) (used_node step.request))

abbrev pub request_of : Option Entry → Option Request
request_of step = option_map (λ e. e.request) step

-- by what was asked, how the denying node was made, and what gave it its state
abbrev pub help_for : Explained → List ℕ
help_for x = verdict_help x.violation.reply.verdict x.violation.request (kind_of x.maker) (request_of x.changer)

-- as what a step counts that neither reads nor writes by its name
abbrev pub counts_phrase : Request → List ℕ
counts_phrase (Free at false prov) = codes "a free counts as a write of all bytes\n"
counts_phrase (Free at true prov) = codes "a function's return frees what it allocated on its stack, and a free counts as a write of all bytes\n"
counts_phrase (Retag at len kind guard prov) = codes "a borrow counts as a read of its bytes\n"
counts_phrase (EndProtector tag) = codes "the end of a protector counts as a write of what was written through its pointer, and as a read of what was read\n"
counts_phrase _ = []

abbrev pub phrase_note : Source → List ℕ → List ℕ
phrase_note s [] = []
phrase_note s phrase = note_label s ++ phrase

-- where a node denies the step
abbrev pub counts_note : Source → Verdict → Request → List ℕ
counts_note s (Violated (Denied offset node perm local)) asked = phrase_note s (counts_phrase asked)
counts_note s _ asked = []

-- allocation N, which the pointer may use, was made
abbrev pub owner_phrase : Entry → List ℕ
owner_phrase step = codes "allocation " ++ (decimal (number_of step.alloc) ++ codes ", which the pointer may use, was made")

abbrev pub making_note : Listing → Option Entry → List ℕ
making_note l None = []
making_note l (Some step) = note l (owner_phrase step) step

abbrev pub alloc_of : Option Prov → Option AllocNo
alloc_of prov = option_map (λ p. p.alloc) prov

-- where the allocation was made that a stranger may use
abbrev pub owner_note : Listing → List AllocLog → Verdict → Request → List ℕ
owner_note l logs (Violated Stranger) asked = making_note l (find is_make_step (steps_on logs (alloc_of (used_prov asked))))
owner_note l logs _ asked = []

-- as what the step counts, and where the allocation was made that the pointer may use instead
abbrev pub asked_notes : Listing → List AllocLog → Entry → List ℕ
asked_notes l logs step = counts_note l.source step.reply.verdict step.request ++ owner_note l logs step.reply.verdict step.request

-- An explained violation among these logs: its line, with the excerpt of what it stands for; as what the step counts; where the
-- allocation was made, and where that which the pointer may use instead; the denying node's making, and what gave it its state, or the
-- free before the step; where the node was made that was used instead; and a sentence of help.
abbrev pub violation_in : Listing → List AllocLog → Explained → List ℕ
violation_in l logs x = heading l.source (violation_line x.violation) ++ (shown l x.violation
    ++ (allocation_note l (find is_make_step (steps_on logs x.violation.alloc))
    ++ (asked_notes l logs x.violation
    ++ (cause_notes l x.violation.reply.verdict x
    ++ (node_note l (codes "was made") (user (steps_on logs x.violation.alloc) x.violation)
    ++ help_line l.source (help_for x))))))

-- the notes on these explained violations, in their order, and then on the threads that trapped or reached a limit
abbrev pub run_notes : Listing → RunRecord → List Explained → List ℕ
run_notes l kept list = flat_map (violation_in l kept.allocs) list ++ flat_map (trap_note l kept) kept.threads
