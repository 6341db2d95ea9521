-- What a rule is asked about.
use Rattle.std.specs.Prelude.{Option, Some, None}
use Rattle.bsan_ids.specs.declared.numbers.AllocNo.{AllocNo}
use Rattle.eager_tree.specs.declared.violation.Violation.{Violation}
use Rattle.eager_tree.specs.declared.violation.Violation.TheVariants as violation
use Rattle.history.specs.declared.entry.Entry.{Entry}
use Rattle.history.specs.declared.entry.Verdict.{Verdict}
use Rattle.history.specs.declared.entry.Verdict.TheVariants.{Violated}
use Rattle.suppress.specs.declared.case.Cause.{Cause}
use Rattle.suppress.specs.declared.case.Cause.TheVariants as cause
use Rattle.suppress.specs.declared.case.Case.{Case}

abbrev pub cause_of : Violation → Cause
cause_of (violation.Denied offset node perm local) = cause.Denied
cause_of (violation.StrongFree offset node perm) = cause.StrongFree
cause_of violation.Stranger = cause.Stranger
cause_of violation.Freed = cause.Freed
cause_of violation.OutOfRange = cause.OutOfRange

abbrev pub case_by : Option AllocNo → Verdict → Entry → Option Case
case_by (Some alloc) (Violated violation) entry =
    Some (record { alloc = alloc; thread = entry.thread; site = entry.site; cause = cause_of violation })
case_by _ _ entry = None

-- the case of an entry that names an allocation and whose verdict is a violation
abbrev pub case_of : Entry → Option Case
case_of entry = case_by entry.alloc entry.reply.verdict entry
