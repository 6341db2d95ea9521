use Rattle.source_runs.specs.Invariant.{Passes}
use Rattle.source_sem.proofs.Accepting.{program_typed}
use Rattle.source_runs.proofs.Keeping.{word_law, fits_for_more}
use Rattle.source_runs.proofs.laws.accepted_programs_keep_words.Goals as goal

pub returns-clause-words : goal.returns-clause-words
returns-clause-words c = λ x hosts runs program ok bytes numbers. word_law x (Passes runs) numbers.main numbers.short bytes (program_typed x.program hosts program ok)

pub returns-clause-more : goal.returns-clause-more
returns-clause-more c = λ p runs more last s add fits. fits_for_more p (Passes runs) (Passes more) last s add fits
