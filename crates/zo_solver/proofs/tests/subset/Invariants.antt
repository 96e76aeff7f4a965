use Rattle.zo_solver.specs.Clauses.{EachClause, AreWithin}
use Rattle.zo_solver.proofs.tests.subset.Given as goal

abbrev pub invariant-loop-number : goal.invariant-loop-number
invariant-loop-number l = EachClause (AreWithin 2) l.clauses.items
