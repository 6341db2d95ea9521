use Rattle.std.proofs.Common.{◌≡◌}
use Rattle.ll_layout.specs.Types.{table_of}
use Rattle.ll_layout.proofs.layouts.lay_out.Given as goal

abbrev pub invariant-loop-deep : goal.invariant-loop-deep
invariant-loop-deep l = l.table.items ≡ table_of l.target l.types l.deep
