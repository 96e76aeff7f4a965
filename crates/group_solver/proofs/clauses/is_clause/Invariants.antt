use Rattle.std.proofs.Common.{take}
use Rattle.group_solver.proofs.Reading.{AreUpTo}
use Rattle.group_solver.proofs.clauses.is_clause.Given as goal

abbrev pub invariant-loop-lit : goal.invariant-loop-lit
invariant-loop-lit l = AreUpTo l.vars l.last (take l.lit-index l.lits)
