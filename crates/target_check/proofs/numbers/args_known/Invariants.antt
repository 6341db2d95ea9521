use Rattle.std.proofs.Common.{◌≡◌, drop}
use Rattle.std.specs.Prelude.{nat_lt}
use Rattle.std.specs.List.{list_all}
use Rattle.target_code.specs.Formed.{args_slots}
use Rattle.target_check.proofs.numbers.args_known.Given as goal

abbrev pub invariant-loop-arg : goal.invariant-loop-arg
invariant-loop-arg l =
    list_all (λ slot. nat_lt slot l.count) (args_slots (drop l.arg-index l.args)) ≡ list_all (λ slot. nat_lt slot l.count) (args_slots l.args)
