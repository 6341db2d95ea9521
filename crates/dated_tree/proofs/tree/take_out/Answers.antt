use Rattle.std.proofs.Common.{rules, of_calls, ◌==◌, not}
use Rattle.std.proofs.lemmas.Fn.{filter_same}
use Rattle.dated_tree.proofs.tree.take_out.Goals as goal

pub returns-clause-items : goal.returns-clause-items
returns-clause-items c = filter_same _ (λ other. not (other == c.args.place)) _ (λ a r f k. search (rules, of_calls)) _ _ c.retain.ensures.filtered
