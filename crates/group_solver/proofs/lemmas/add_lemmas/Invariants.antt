use Rattle.group_solver.proofs.Placing.{AreAdded}
use Rattle.group_solver.proofs.lemmas.add_lemmas.Given as goal

abbrev pub invariant-loop-place : goal.invariant-loop-place
invariant-loop-place l = AreAdded l.lines l.group l.places l.place-index l.numbers.items l.fn.solver l.solver
