use Rattle.unit_answers.specs.Propagation.{IsVisited}
use Rattle.unit_answers.proofs.propagate.visit.Given as goal

abbrev pub invariant-lits : goal.invariant-lits
invariant-lits l = IsVisited l.table l.clause l.lit-index l.initial.trail l.trail l.changed
