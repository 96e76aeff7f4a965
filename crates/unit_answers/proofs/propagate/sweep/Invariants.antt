use Rattle.unit_answers.specs.Propagation.{IsSwept}
use Rattle.unit_answers.proofs.propagate.sweep.Given as goal

abbrev pub invariant-clauses : goal.invariant-clauses
invariant-clauses l = IsSwept l.table l.number l.initial.trail l.trail l.changed
