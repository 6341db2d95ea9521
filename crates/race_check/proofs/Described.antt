-- Both entries of a race can be described.
use Rattle.std.proofs.Common.{◌≡◌, true, IsTrue, refl, sym, subst}
use Rattle.std.specs.Prelude.{◌||◌, not, Option, Some, IsSome}
use Rattle.bsan_ids.specs.declared.numbers.AllocNo.{AllocNo}
use Rattle.history.specs.declared.entry.Entry.{Entry}
use Rattle.history.specs.declared.entry.Request.{Request}
use Rattle.history.specs.declared.entry.Request.TheVariants.{Make, Print, Host, Spawn, Join}
use Rattle.report.specs.Violation.{IsDescribable, is_operation}
use Rattle.race_check.specs.Accesses.{reads, writes, accesses, has_trapped, conflict}
use Rattle.race_check.proofs.Conflicts.{both, parts_of, conflict_alloc}

operation : (r : Request) → (reads r || writes r) ≡ true → IsTrue (is_operation r)
operation (Make size place) h = absurd cc
operation (Print value) h = absurd cc
operation (Host number first second) h = absurd cc
operation (Spawn function) h = absurd cc
operation (Join child) h = absurd cc
operation _ h = refl

described : (e : Entry) (n : AllocNo) → accesses e ≡ true → e.alloc ≡ Some n → IsDescribable e
described e n h at = record {
  operation = operation e.request (both (not (has_trapped e)) (reads e.request || writes e.request) h).1;
  alloc = subst (λ (o : Option AllocNo). IsSome o) (sym at) refl;
}

pub earlier_described : (e f : Entry) → conflict e f ≡ true → IsDescribable e
earlier_described e f h = let n = conflict_alloc e f h in described e n.0 (parts_of e f h).earlier n.1

pub later_described : (e f : Entry) → conflict e f ≡ true → IsDescribable f
later_described e f h = let n = conflict_alloc e f h in described f n.0 (parts_of e f h).later n.2
