use Rattle.word_ops.proofs.SignedLaws.{divides_signed, leaves_signed, orders_signed, shifts_signed, widens_signed}
use Rattle.word_ops.proofs.laws.signed_words.Goals as goal

pub returns-clause-divides : goal.returns-clause-divides
returns-clause-divides c = divides_signed

pub returns-clause-leaves : goal.returns-clause-leaves
returns-clause-leaves c = leaves_signed

pub returns-clause-orders : goal.returns-clause-orders
returns-clause-orders c = orders_signed

pub returns-clause-shifts : goal.returns-clause-shifts
returns-clause-shifts c = shifts_signed

pub returns-clause-widens : goal.returns-clause-widens
returns-clause-widens c = widens_signed
