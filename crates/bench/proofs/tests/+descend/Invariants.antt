use Rattle.bench.proofs.tests.+descend.Given as goal

abbrev pub decreases-descend : goal.decreases-descend
decreases-descend g l = l.depth
