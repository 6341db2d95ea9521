use Rattle.std.proofs.Common.{rules, sym, subst}
use Rattle.std.specs.List.Sorted.{IsNonDecreasingBy}
use Rattle.std.proofs.lemmas.List.Sorted.{IsNonDecreasingBy-from_sort_by_key}
use Rattle.interp.specs.Wholes.{number_of_log}
use Rattle.interp.proofs.program.ordered_logs.Goals as goal

pub returns-clause-ordered : goal.returns-clause-ordered
returns-clause-ordered c =
    subst (IsNonDecreasingBy number_of_log) (sym c.from_vec.ensures) (IsNonDecreasingBy-from_sort_by_key number_of_log _ c.in_ok-sort_by_key.ensures.sorted (λ a r q k. search rules))
