use Rattle.std.proofs.Common.{length}
use Rattle.zo_solver.proofs.tests.+ascend.Given as goal

abbrev pub decreases-ascend : goal.decreases-ascend
decreases-ascend l = length l.numbers.now
