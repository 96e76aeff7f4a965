use Rattle.std.proofs.Common.{length}
use Rattle.zo_solver.proofs.tests.+have_premises.Given as goal

abbrev pub decreases-have_premises : goal.decreases-have_premises
decreases-have_premises l = length l.numbers.now
