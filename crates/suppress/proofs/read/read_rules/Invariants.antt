use Rattle.std.proofs.Common.{◌≡◌, length, take}
use Rattle.suppress.specs.Files.{AreRules, lines_of}
use Rattle.suppress.proofs.read.read_rules.Given as goal

abbrev pub invariant-loop-line : goal.invariant-loop-line
invariant-loop-line l = record {
  taken : AreRules l.functions (take (length l.yielded) (lines_of l.bytes)) l.list;
  counted : l.number ≡ length l.yielded;
}
