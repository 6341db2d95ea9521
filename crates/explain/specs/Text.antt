-- The text of the explanations of a record.
use Rattle.std.specs.Prelude.{ℕ, ◌≡◌, true, false, IsTrue, Option, Some, None, MatchOption, List, [], ◌∷◌, ◌++◌, codes}
use Rattle.std.specs.List.{flat_map}
use Rattle.std.specs.Fmt.{decimal}
use Rattle.bsan_ids.specs.declared.numbers.Tag.{Tag}
use Rattle.perm_table.specs.declared.Perm.{Perm}
use Rattle.eager_tree.specs.declared.violation.Violation.TheVariants.{Denied, StrongFree, Stranger, Freed, OutOfRange}
use Rattle.ir_ast.specs.declared.types.Place.{Place}
use Rattle.ir_ast.specs.declared.types.Place.TheVariants.{Stack, Heap}
use Rattle.history.specs.declared.entry.Entry.{Entry}
use Rattle.history.specs.declared.entry.Request.{Request}
use Rattle.history.specs.declared.entry.Request.TheVariants.{Make}
use Rattle.history.specs.declared.entry.Verdict.{Verdict}
use Rattle.history.specs.declared.entry.Verdict.TheVariants.{Violated}
use Rattle.history.specs.declared.record.RunRecord.{RunRecord}
use Rattle.history.specs.Histories.{is_make_step}
use Rattle.history.specs.Merge.{stamp_of}
use Rattle.history.specs.Records.{violates}
use Rattle.history.specs.Restriction.{number_of}
use Rattle.report.specs.Report.{end_lines, summary, status_line}
use Rattle.report.specs.Violation.{IsDescribable, what_text, violation_line}
use Rattle.report.specs.Words.{perm_name}
use Rattle.explain.specs.declared.explained.Explained.{Explained}

abbrev pub place_word : Place → List ℕ
place_word Stack = codes "stack"
place_word Heap = codes "heap"

-- what an entry did to its allocation: made it, or what a report says of it
abbrev pub deed_of : Entry → Request → List ℕ
deed_of e (Make size place) = codes "make " ++ (decimal size ++ (codes " " ++ place_word place))
deed_of e _ = what_text true e

-- an entry of which this can be said
abbrev pub IsTellable : Entry → Type 0
IsTellable e = is_make_step e ≡ false → IsDescribable e

-- the line of a cause: by which thread, at which instruction, at which stamp, and what it did
abbrev pub cause_line : List ℕ → Option Entry → List ℕ
cause_line start None = []
cause_line start (Some e) = start ++ (codes " thread " ++ (decimal e.thread.0
    ++ (codes " at instruction " ++ (decimal e.site
    ++ (codes ", step " ++ (decimal (stamp_of e)
    ++ (codes ": " ++ (deed_of e e.request ++ 10 ∷ []))))))))

-- the lines on a node: who made it, and since when it has had its state
abbrev pub node_lines : Tag → Perm → Explained → List ℕ
node_lines node perm x =
    cause_line (codes "  node " ++ (decimal node.0 ++ codes " made by")) x.maker
    ++ cause_line (codes "  state " ++ (perm_name perm ++ codes " since")) x.changer

abbrev pub stranger_line : Entry → List ℕ
stranger_line violation = codes "  no node of allocation " ++ (decimal (number_of violation.alloc) ++ codes " is named\n")

-- the lines on the causes of a violation
abbrev pub cause_lines : Verdict → Explained → List ℕ
cause_lines (Violated (Denied offset node perm local)) x = node_lines node perm x
cause_lines (Violated (StrongFree offset node perm)) x = node_lines node perm x
cause_lines (Violated Freed) x = cause_line (codes "  allocation freed by") x.changer
cause_lines (Violated OutOfRange) x = cause_line (codes "  allocation made by") x.maker
cause_lines (Violated Stranger) x = stranger_line x.violation
cause_lines _ x = []

-- an explanation of which the lines can be written
pub record IsWritable (x : Explained) : Type 0 where
  pub violation : IsDescribable x.violation
  pub violates : IsTrue (violates x.violation)
  pub maker : MatchOption x.maker (Unit {0}) IsTellable
  pub changer : MatchOption x.changer (Unit {0}) IsTellable

-- the line of the violation, and those on its causes
abbrev pub explained_lines : Explained → List ℕ
explained_lines x = violation_line x.violation ++ cause_lines x.violation.reply.verdict x

-- each violation with its causes, and then the threads' ends, the summary and the status of a report
abbrev pub explain_text : RunRecord → List Explained → List ℕ
explain_text kept list = flat_map explained_lines list ++ (end_lines kept ++ (summary kept ++ status_line kept))
