use Rattle.zo_solver.specs.Values.{assignment}
use Rattle.group_solver.specs.Values.{AreValues}
use Rattle.group_solver.proofs.values.values.Given as goal

abbrev pub invariant-loop-index : goal.invariant-loop-index
invariant-loop-index l = AreValues (assignment l.solver.values) l.index l.items.items
