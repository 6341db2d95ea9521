-- The run of the program whose protector's end disables a sibling, and its plain run, step by step.
use Rattle.std.proofs.Common.{refl, arith}
use Rattle.std.specs.Prelude.{true, Some, None}
use Rattle.history.specs.declared.entry.Plain.TheVariants as plain
use Rattle.history.specs.declared.entry.Verdict.TheVariants as verdict
use Rattle.perm_table.specs.declared.Perm.TheVariants.{Disabled}
use Rattle.eager_tree.specs.declared.violation.Violation.TheVariants.{Denied}
use Rattle.history.specs.Objects.{clean}
use Rattle.source_sem.specs.Source.{Source, source_turn, source_answer}
use Rattle.source_sem.specs.Traces.{sibling, alloc, tag, prov}
use Rattle.source_runs.specs.Sibling.{start, bare, plain_start, IsErasedRun}

abbrev made : Source
made = source_answer sibling start (clean (plain.Made (alloc 1)) (Some (prov 1 1)))

abbrev called : Source
called = source_turn sibling made

abbrev entered : Source
entered = source_answer sibling called (clean (plain.Retagged true) (Some (prov 1 2)))

abbrev stored : Source
stored = source_answer sibling entered (clean plain.Done None)

abbrev moved : Source
moved = source_turn sibling stored

abbrev retagged : Source
retagged = source_answer sibling moved (clean (plain.Retagged true) (Some (prov 1 4)))

abbrev returned : Source
returned = source_answer sibling retagged (clean plain.Done None)

abbrev back : Source
back = source_turn sibling returned

abbrev loaded : Source
loaded = source_answer sibling back (record { plain = plain.Value 1; carried = None; verdict = verdict.Violated (Denied 0 (tag 4) Disabled true) })

abbrev plain_made : Source
plain_made = source_answer bare plain_start (clean (plain.Made (alloc 1)) None)

abbrev plain_called : Source
plain_called = source_turn bare plain_made

abbrev plain_stored : Source
plain_stored = source_answer bare plain_called (clean plain.Done None)

abbrev plain_back : Source
plain_back = source_turn bare (source_turn bare (source_turn bare (source_turn bare plain_stored)))

abbrev plain_loaded : Source
plain_loaded = source_answer bare plain_back (clean (plain.Value 1) None)

pub erased_run : IsErasedRun
erased_run = record {
  run = (
    record { before = start; now = start; started = refl; settles = (0, refl); site = refl; asks = refl; replies = (alloc 1, refl, omega arith, omega arith, refl, refl) },
    (
      record { before = made; now = called; started = refl; settles = (1, (refl, refl)); site = refl; asks = (refl, refl, tt); replies = (alloc 1, refl, refl) },
      (
        record { before = entered; now = entered; started = refl; settles = (0, refl); site = refl; asks = (refl, refl, tt); replies = (alloc 1, refl, refl) },
        (
          record { before = stored; now = moved; started = refl; settles = (1, (refl, refl)); site = refl; asks = (refl, refl, tt); replies = (alloc 1, refl, refl) },
          (
            record { before = retagged; now = retagged; started = refl; settles = (0, refl); site = refl; asks = (refl, refl, tt); replies = (alloc 1, refl, refl) },
            (
              record { before = returned; now = back; started = refl; settles = (1, (refl, refl)); site = refl; asks = (refl, refl, tt); replies = (alloc 1, refl, refl) },
              (record { before = loaded; now = loaded; started = refl; settles = (0, refl); site = refl; asks = (refl, refl, tt); replies = (alloc 1, refl, refl) }, tt),
            ),
          ),
        ),
      ),
    ),
  );
  erased = refl;
  plain_run = (
    record { before = plain_start; now = plain_start; started = refl; settles = (0, refl); site = refl; asks = refl; replies = (alloc 1, refl, omega arith, omega arith, refl, refl) },
    (
      record { before = plain_made; now = plain_called; started = refl; settles = (1, (refl, refl)); site = refl; asks = (refl, refl, tt); replies = (alloc 1, refl, refl) },
      (
        record { before = plain_stored; now = plain_back; started = refl; settles = (4, (refl, (refl, (refl, (refl, refl))))); site = refl; asks = (refl, refl, tt); replies = (alloc 1, refl, refl) },
        (record { before = plain_loaded; now = plain_loaded; started = refl; settles = (0, refl); site = refl; asks = (refl, refl, tt); replies = (alloc 1, refl, refl) }, tt),
      ),
    ),
  );
}
