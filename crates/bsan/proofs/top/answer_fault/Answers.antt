use Rattle.std.proofs.Common.{◌≡◌, None, Err, subst}
use Rattle.command_words.specs.declared.WordsFault.{WordsFault}
use Rattle.bsan.specs.Words.{IsReadOf}
use Rattle.bsan.specs.declared.outcome.Outcome.TheVariants.{Usage}
use Rattle.bsan.proofs.Reportable.{told}
use Rattle.bsan.proofs.top.answer_fault.Goals as goal

pub returns-in-Refused : goal.returns-in-Refused
returns-in-Refused g c = λ files hosts asked read.
    let none : asked ≡ None = subst (λ (f : WordsFault). IsReadOf asked (Err f)) c.in-Refused.is read in
    told files hosts _ asked c.args.kept.now Usage c.tell.result (none, c.requires.empty) c.tell.ensures
