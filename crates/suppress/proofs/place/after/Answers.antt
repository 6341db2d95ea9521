use Rattle.std.proofs.lemmas.Bool.Decides.{Decides-eqb}
use Rattle.std.proofs.lemmas.Slice.Eq.{strip_prefix_is}
use Rattle.suppress.proofs.Places.{stripped}
use Rattle.suppress.proofs.place.after.Goals as goal

pub returns-clause-some : goal.returns-clause-some
returns-clause-some c = (stripped c.strip_prefix.result c.args.text.now c.args.word.now (strip_prefix_is Decides-eqb c.args.text.now c.args.word.now c.strip_prefix.result c.strip_prefix.ensures.cases)).0

pub returns-clause-none : goal.returns-clause-none
returns-clause-none c = (stripped c.strip_prefix.result c.args.text.now c.args.word.now (strip_prefix_is Decides-eqb c.args.text.now c.args.word.now c.strip_prefix.result c.strip_prefix.ensures.cases)).1
