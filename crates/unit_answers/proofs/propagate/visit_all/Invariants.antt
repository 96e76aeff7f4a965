use Rattle.unit_answers.specs.Propagation.{Forces}
use Rattle.unit_answers.proofs.propagate.visit_all.Given as goal

abbrev pub invariant-numbers : goal.invariant-numbers
invariant-numbers l = Forces l.table l.initial.trail l.trail
