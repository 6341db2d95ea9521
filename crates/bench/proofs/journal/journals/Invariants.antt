use Rattle.std.proofs.Common.{◌≡◌, vec_len}
use Rattle.bench.specs.Journals.{AreBlankJournals}
use Rattle.bench.proofs.journal.journals.Given as goal

abbrev pub invariant-loop-k : goal.invariant-loop-k
invariant-loop-k l = (vec_len l.all ≡ l.k) × AreBlankJournals l.all.items
