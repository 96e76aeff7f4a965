use Rattle.zo_solver.proofs.Consistent.{ascending_consistent}
use Rattle.zo_solver.proofs.tests.solve.Goals as goal

pub solve-requires-clause-consistent : goal.solve-requires-clause-consistent
solve-requires-clause-consistent c = ascending_consistent c.lits.result.now (rw c.lits.ensures.lits c.lits.ensures.canonical)
