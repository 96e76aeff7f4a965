use Rattle.unit_answers.specs.Propagation.{Forces}
use Rattle.unit_answers.proofs.propagate.follow.Given as goal

abbrev pub invariant-places : goal.invariant-places
invariant-places l = Forces l.table l.initial.trail l.trail
