use Rattle.std.proofs.Common.{drop}
use Rattle.record_file.proofs.Replaying.{IsAsked}
use Rattle.record_file.proofs.legal.is_legal.Given as goal

abbrev pub invariant-loop-entry : goal.invariant-loop-entry
invariant-loop-entry l = IsAsked l.log (drop l.entry-index l.entry-items) l.state.number.0 l.state.entries
