use Rattle.group_solver.proofs.Placing.{AreCounted}
use Rattle.group_solver.proofs.lemmas.own_cost.Given as goal

abbrev pub invariant-loop-place : goal.invariant-loop-place
invariant-loop-place l = AreCounted l.lines l._group l.places l.place-index l.words
